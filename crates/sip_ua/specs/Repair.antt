-- What is whole of a file that was cut off.
use Rattle.std.specs.Prelude.{◌≡◌, ◌⊎◌, ℕ, ◌<◌, ◌^◌, Bool, true, false, not, ◌&&◌, ◌||◌, ◌==◌, List, [], ◌∷◌, length, if◌then◌else◌}
use Rattle.std.specs.List.{list_all}
use Rattle.sip_files.specs.Replay.{TellsReplay}
use Rattle.sip_files.specs.declared.events_fault.EventsFault.TheVariants.{TooLong}
use Rattle.sip_files.specs.declared.file_replay.ReplayFault.{ReplayFault}
use Rattle.sip_files.specs.declared.file_replay.ReplayFault.TheVariants.{Events}
use Rattle.sip_files.specs.declared.version.FileKind.{FileKind}
use Rattle.sip_files.specs.declared.version.FileKind.TheVariants as kind

-- any byte but LF
abbrev pub is_in_line : ℕ → Bool
is_in_line byte = not (byte == 10)

-- a text up to its last LF
abbrev pub whole_lines : List ℕ → List ℕ
whole_lines [] = []
whole_lines (byte ∷ bytes) =
    if is_in_line byte && list_all is_in_line bytes then [] else byte ∷ whole_lines bytes

-- Header lines alone, each with its end: where a line begins, a space stands. The first byte begins
-- a line or not.
abbrev pub are_header_lines : Bool → List ℕ → Bool
are_header_lines begins [] = begins
are_header_lines begins (byte ∷ bytes) =
    (not begins || byte == 32) && are_header_lines (byte == 10) bytes

-- a text without the header lines at its end, after which their command is missing
abbrev pub without_last_headers : Bool → List ℕ → List ℕ
without_last_headers begins [] = []
without_last_headers begins (byte ∷ bytes) =
    if begins && are_header_lines true (byte ∷ bytes) then []
    else byte ∷ without_last_headers (byte == 10) bytes

-- a header line of a session file begins with a space
abbrev pub is_header_line : List ℕ → Bool
is_header_line [] = false
is_header_line (byte ∷ line) = byte == 32

-- what is whole of a file of this kind that was cut off: its lines that have an end; of a session,
-- without the header lines at their end
abbrev pub whole : FileKind → List ℕ → List ℕ
whole kind.Events text = whole_lines text
whole kind.Session text = without_last_headers true (whole_lines text)

-- what is replayed of an input: all of it, or with a repair what is whole of it
abbrev pub replayed : FileKind → Bool → List ℕ → List ℕ
replayed kind false input = input
replayed kind true input = whole kind input

-- what a fault of a replay tells of its input: it is too long to be read, or what is replayed of it
-- has that fault
abbrev pub TellsRepair : FileKind → Bool → ReplayFault → List ℕ → Type 0
TellsRepair kind repairs fault input =
    ((fault ≡ Events TooLong) × (2 ^ 26 < length input))
    ⊎ TellsReplay kind fault (replayed kind repairs input)
