-- The status of the program if its input isn't a file of its kind.
use Rattle.std.specs.Prelude.{ℕ}
use Rattle.sip_files.specs.declared.events_fault.EventsFault.{EventsFault}
use Rattle.sip_files.specs.declared.events_fault.EventsFault.TheVariants.{TooLong, BadVersion, BadLine, NoMemory}

abbrev pub events_status : EventsFault → ℕ
events_status TooLong = 1
events_status BadVersion = 1
events_status (BadLine line) = 1
events_status NoMemory = 5
