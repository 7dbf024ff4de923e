-- What calls for a journal do.
use Rattle.std.specs.Prelude.{◌≡◌, ℕ, List, Option, None, Some, IsSomeAnd, Result, Ok, Err, length}
use Rattle.sip_host.specs.Handing.{put_in}
use Rattle.sip_host.specs.Resuming as resuming
use Rattle.sip_host.specs.Resuming.{text_of_round}
use Rattle.sip_host.specs.declared.host.Host.{Host}
use Rattle.sip_host.specs.declared.resume_fault.ResumeFault.{ResumeFault}
use Rattle.sip_host.specs.declared.resume_fault.ResumeFault.TheVariants.{Busy, Lines, Round}
use Rattle.sip_files.specs.declared.lines_fault.LinesFault.{LinesFault}
use Rattle.sip_files.specs.declared.lines_fault.LinesFault.TheVariants as lines
use Rattle.sip_c.specs.Status.{number_of_round, room_answer}
use Rattle.sip_c.specs.declared.values.Resumed.{Resumed}

-- the number of lines that aren't those of a round, or for which memory ran out
abbrev pub number_of_lines : LinesFault → ℕ
number_of_lines lines.TooLong = 3
number_of_lines (lines.BadLine line) = 3
number_of_lines lines.NotOne = 3
number_of_lines lines.NoMemory = 10

-- the number of a call's answer; 0 if all went well
abbrev pub number_of_resume : Result ℕ ResumeFault → ℕ
number_of_resume (Ok len) = 0
number_of_resume (Err Busy) = 16
number_of_resume (Err (Lines fault)) = number_of_lines fault
number_of_resume (Err (Round fault)) = number_of_round fault

abbrev pub nothing_resumed : Resumed
nothing_resumed = record { len = 0; bad_line = 0 }

abbrev pub bad_line_of : LinesFault → ℕ
bad_line_of lines.TooLong = 0
bad_line_of (lines.BadLine line) = line
bad_line_of lines.NotOne = 0
bad_line_of lines.NoMemory = 0

-- how long the lines were that were run, or the number of the line that is bad
abbrev pub resumed_of : Result ℕ ResumeFault → Resumed
resumed_of (Ok len) = record { len = len; bad_line = 0 }
resumed_of (Err Busy) = nothing_resumed
resumed_of (Err (Lines fault)) = record { len = 0; bad_line = bad_line_of fault }
resumed_of (Err (Round fault)) = nothing_resumed

-- the lines of the last round
abbrev pub TellsRound : ℕ → ℕ → List ℕ → List ℕ → Host → Type 0
TellsRound number told before after host =
    (number ≡ room_answer told (length before))
    × (told ≡ length (text_of_round host.last_round))
    × (after ≡ put_in (text_of_round host.last_round) before)

-- without an agent nothing is done; otherwise the first round of the text is run again
abbrev pub Resumes : Option Host → Option Host → ℕ → Resumed → List ℕ → Type 0
Resumes None new number told text = (number ≡ 1) × (new ≡ None) × (told ≡ nothing_resumed)
Resumes (Some old) new number told text = IsSomeAnd new (λ after. (answer : Result ℕ ResumeFault)
    × (number ≡ number_of_resume answer) × (told ≡ resumed_of answer)
    × resuming.Resumes text old after answer)
