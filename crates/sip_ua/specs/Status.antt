-- The status of the program: 0 if the output file was written; 1 if the input isn't a file of its
-- kind; 3 for a refused round; 4 for a failed stream; 5 if memory ran out, wherever that was.
use Rattle.std.specs.Prelude.{ℕ}
use Rattle.sip_files.specs.declared.file_replay.ReplayFault.{ReplayFault}
use Rattle.sip_files.specs.declared.file_replay.ReplayFault.TheVariants.{Input, Events, Round, Output, NoMemory}
use Rattle.sip_ua.specs.EventsStatus.{events_status}
use Rattle.sip_ua.specs.RoundStatus.{round_status}

abbrev pub fault_status : ReplayFault → ℕ
fault_status Input = 4
fault_status (Events fault) = events_status fault
fault_status (Round index fault) = round_status fault
fault_status Output = 4
fault_status NoMemory = 5
