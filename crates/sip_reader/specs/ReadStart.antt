-- Reading a start line (RFC 3261, sections 7.1 and 7.2).
use Rattle.std.specs.Prelude.{ℕ, List, [], ◌∷◌, Option, Some, None, Result, Ok, Err, ◌==◌, ◌&&◌, ◌||◌, nat_lt, take, drop, if◌then◌else◌}
use Rattle.sip_text.specs.Cut.{cut_at}
use Rattle.sip_text.specs.Token.{is_token}
use Rattle.sip_text.specs.Number.{number_of}
use Rattle.sip_text.specs.declared.fault.TextFault.{TextFault}
use Rattle.sip_grammar.specs.Word.{is_word}
use Rattle.sip_grammar.specs.Reason.{is_reason}
use Rattle.sip_text.specs.Options.{◌>>=◌}
use Rattle.sip_reader.specs.StartLine.{is_version}
use Rattle.sip_reader.specs.declared.first_line.FirstLine.{FirstLine}
use Rattle.sip_reader.specs.declared.first_line.FirstLine.TheVariants as first

-- a URI, a space and the version
unfoldable pub request_at : List ℕ → List ℕ → Option (FirstLine (List ℕ))
request_at method rest = do
  p ← cut_at 32 rest
  if is_version p.1 && (is_token method && is_word p.0) then Some (first.Request method p.0)
      else None

-- a status code, from 100 to 699
abbrev pub code_from : ℕ → Option ℕ
code_from number = if nat_lt number 100 || nat_lt 699 number then None else Some number

-- the same for a number that was read
abbrev pub code_in : Result ℕ TextFault → Option ℕ
code_in (Ok number) = code_from number
code_in (Err fault) = None

-- the status code that a text spells
unfoldable pub code_at : List ℕ → Option ℕ
code_at text = code_in (number_of text)

-- nothing, or a space and a reason
unfoldable pub reason_at : List ℕ → Option (List ℕ)
reason_at [] = Some []
reason_at (b ∷ bs) = if b == 32 && is_reason bs then Some bs else None

-- three digits, and a reason
unfoldable pub status_at : List ℕ → Option (FirstLine (List ℕ))
status_at text = do
  status ← code_at (take 3 text)
  reason ← reason_at (drop 3 text)
  Some (first.Response status reason)

-- a line that begins with the version is a status line; any other is a request line
unfoldable pub start_at : List ℕ → Option (FirstLine (List ℕ))
start_at line = do
  p ← cut_at 32 line
  if is_version p.0 then status_at p.1 else request_at p.0 p.1
