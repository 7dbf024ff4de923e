-- Which texts spell a message (RFC 3261, sections 7 and 20; RFC 3262, section 7).
use Rattle.std.specs.Prelude.{◌≡◌, ◌≤◌, ℕ, IsTrue, List, ◌++◌, length, Option, Some, None, Result, Ok, Err}
use Rattle.sip_message.specs.Via.{are_vias}
use Rattle.sip_message.specs.declared.fault.ReadFault.{ReadFault}
use Rattle.sip_message.specs.declared.fault.ReadFault.TheVariants as fault
use Rattle.sip_message.specs.declared.message.Message.{Message}
use Rattle.sip_headers.specs.Headers.{AreHeaders}
use Rattle.sip_headers.specs.Numbers.{headers_with, are_numbers}
use Rattle.sip_reader.specs.Layout.{Lays}
use Rattle.sip_reader.specs.StartLine.{SpellsStart}

-- As many bytes as the Content-Length says; what follows them is discarded (section 18.3). Without
-- a Content-Length the body is all that follows the empty line.
abbrev pub IsBody : Option ℕ → List ℕ → List ℕ → Type 0
IsBody None body rest = rest ≡ body
IsBody (Some count) body rest =
    (discarded : List ℕ) × (rest ≡ body ++ discarded) × (length body ≡ count)

-- The text spells the message.
pub record Spells (m : Message) (text : List ℕ) : Type 0 where
  pub start : List ℕ
  pub lines : List (List ℕ)
  pub rest : List ℕ
  pub content_length : Option ℕ
  pub short : length text ≤ 65535
  pub laid : Lays text start lines rest
  pub start_is : SpellsStart m.start m.cseq.method start
  pub headers_are : AreHeaders (headers_with m content_length) lines
  pub numbers_are : IsTrue (are_numbers (headers_with m content_length))
  pub branch_is : IsTrue (are_vias m.vias)
  pub body_is : IsBody content_length m.body rest

-- The result is this message, unless memory ran out.
abbrev pub Answers : Result Message ReadFault → Message → Type 0
Answers (Ok read) m = read ≡ m
Answers (Err fault.NoMemory) m = Unit {0}
Answers (Err other) m = ⊥
