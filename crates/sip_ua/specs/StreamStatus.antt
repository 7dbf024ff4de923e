-- The status of the program if a replay round by round stops, and what it tells of the input.
use Rattle.std.specs.Prelude.{◌≡◌, ℕ, List}
use Rattle.sip_files.specs.declared.version.FileKind.{FileKind}
use Rattle.sip_files.specs.declared.lines_fault.LinesFault.{LinesFault}
use Rattle.sip_files.specs.declared.lines_fault.LinesFault.TheVariants as lines_fault
use Rattle.sip_stream.specs.Streams.{TellsStream}
use Rattle.sip_stream.specs.declared.stream_fault.StreamFault.{StreamFault}
use Rattle.sip_stream.specs.declared.stream_fault.StreamFault.TheVariants.{Input, Head, Lines, Round, Output, NoMemory}
use Rattle.sip_ua.specs.EventsStatus.{events_status}
use Rattle.sip_ua.specs.RoundStatus.{round_status}

abbrev pub lines_status : LinesFault → ℕ
lines_status lines_fault.TooLong = 1
lines_status (lines_fault.BadLine number) = 1
lines_status lines_fault.NotOne = 1
lines_status lines_fault.NoMemory = 5

abbrev pub stream_status : StreamFault → ℕ
stream_status Input = 4
stream_status (Head fault) = events_status fault
stream_status (Lines index fault) = lines_status fault
stream_status (Round index fault) = round_status fault
stream_status Output = 4
stream_status NoMemory = 5

-- some fault that has this status fits the input
abbrev pub TellsStatus : FileKind → ℕ → List ℕ → Type 0
TellsStatus kind status input =
    (fault : StreamFault) × (status ≡ stream_status fault) × TellsStream kind fault input
