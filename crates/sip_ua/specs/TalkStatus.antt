-- The status of `ua listen`, `ua call` and `ua agent`: 0 if all turns were taken; 1 if the journal
-- has other lines than a session; 2 for a bad argument; 3 for a refused round; 4 if the random
-- source, the socket, the pipe, an output or the journal failed; 5 if memory ran out; 6 if a call had
-- to be answered and wasn't.
use Rattle.std.specs.Prelude.{ℕ}
use Rattle.sip_udp.specs.declared.fault.UaFault.{UaFault}
use Rattle.sip_udp.specs.declared.fault.UaFault.TheVariants as ua
use Rattle.sip_ua.specs.declared.failure.TalkFault.{TalkFault}
use Rattle.sip_ua.specs.declared.failure.TalkFault.TheVariants.{BadArgument, Ua}
use Rattle.sip_ua.specs.RoundStatus.{round_status}

abbrev pub ua_status : UaFault → ℕ
ua_status ua.Socket = 4
ua_status ua.Input = 4
ua_status ua.Output = 4
ua_status ua.Journal = 4
ua_status ua.NoJournal = 1
ua_status (ua.JournalLines number fault) = 1
ua_status (ua.Round number fault) = round_status fault
ua_status ua.NotAnswered = 6
ua_status ua.NoMemory = 5

abbrev pub talk_status : TalkFault → ℕ
talk_status BadArgument = 2
talk_status (Ua fault) = ua_status fault
