-- Why a text spells no message: the faults in order, and the condition of each.
use Rattle.std.specs.Prelude.{◌≡◌, ◌<◌, ℕ, IsFalse, List, [], ◌∷◌, ◌++◌, length, Option, Some, None, codes}
use Rattle.sip_grammar.specs.Parameters.{value_named}
use Rattle.sip_message.specs.Via.{has_cookie}
use Rattle.sip_message.specs.declared.fault.ReadFault.{ReadFault}
use Rattle.sip_message.specs.declared.fault.ReadFault.TheVariants as fault
use Rattle.sip_message.specs.declared.start_line.StartLine.{StartLine}
use Rattle.sip_header_values.specs.declared.numeral.Numeral.{Numeral}
use Rattle.sip_header_values.specs.declared.numeral.Numeral.TheVariants.{Number, NotANumber}
use Rattle.sip_header_values.specs.declared.via.ViaDraft.{ViaDraft}
use Rattle.sip_headers.specs.Faults.{IsFirst, HeaderCondition, header_faults}
use Rattle.sip_headers.specs.Headers.{Headers, AreHeaders}
use Rattle.sip_headers.specs.Numbers.{are_numbers}
use Rattle.sip_reader.specs.Layout.{Lays}
use Rattle.sip_reader.specs.StartLine.{IsRequestLine, SpellsStart}

-- the text has lines up to an empty one, and P is true of the start line, the header lines and the
-- rest
abbrev pub WithLines : (List ℕ → List (List ℕ) → List ℕ → Type 0) → List ℕ → Type 0
WithLines P text =
    (start : List ℕ) × (lines : List (List ℕ)) × (rest : List ℕ) × Lays text start lines rest
    × P start lines rest

-- the lines have headers, and P is true of them
abbrev pub WithHeaders : (Headers → Type 0) → List (List ℕ) → Type 0
WithHeaders P lines = (h : Headers) × AreHeaders h lines × P h

-- the branch of the first Via doesn't begin with `z9hG4bK`, or is missing
abbrev pub HasOldBranch : List ViaDraft → Type 0
HasOldBranch [] = ⊥
HasOldBranch (via ∷ vias) = IsFalse (has_cookie (value_named (codes "branch") via.parameters))

-- a request line has a method other than the CSeq
abbrev pub HasOtherMethod : List ℕ → List ℕ → Type 0
HasOtherMethod start cseq_method =
    (method : List ℕ) × (uri : List ℕ) × IsRequestLine method uri start × (method ≡ cseq_method → ⊥)

-- the rest has fewer bytes than the Content-Length says
abbrev pub IsTruncated : Option Numeral → List ℕ → Type 0
IsTruncated None rest = ⊥
IsTruncated (Some NotANumber) rest = ⊥
IsTruncated (Some (Number count)) rest = length rest < count

-- the condition of a fault, by the start line, the header lines and the rest
abbrev pub LineCondition : List ℕ → List (List ℕ) → List ℕ → ReadFault → Type 0
LineCondition start lines rest fault.BadStartLine =
    (says : StartLine) (method : List ℕ) → SpellsStart says method start → ⊥
LineCondition start lines rest fault.BadNumber = WithHeaders (λ h. IsFalse (are_numbers h)) lines
LineCondition start lines rest fault.OldBranch = WithHeaders (λ h. HasOldBranch h.vias) lines
LineCondition start lines rest fault.MethodMismatch =
    WithHeaders (λ h. HasOtherMethod start h.cseq.method) lines
LineCondition start lines rest fault.Truncated =
    WithHeaders (λ h. IsTruncated h.content_length rest) lines
LineCondition start lines rest other = HeaderCondition lines other

-- the condition of a fault, by the text
abbrev pub Condition : List ℕ → ReadFault → Type 0
Condition text fault.TooLong = 65535 < length text
Condition text fault.NoEmptyLine =
    (start : List ℕ) (lines : List (List ℕ)) (rest : List ℕ) → Lays text start lines rest → ⊥
Condition text fault.NoMemory = ⊥
Condition text other = WithLines (λ start lines rest. LineCondition start lines rest other) text

-- the faults in order
abbrev pub faults : List ReadFault
faults =
    fault.TooLong ∷ (fault.NoEmptyLine ∷ (fault.BadStartLine ∷ (header_faults
    ++ (fault.BadNumber ∷ (fault.OldBranch ∷ (fault.MethodMismatch ∷ (fault.Truncated ∷ [])))))))

-- the first of the faults whose condition is true
abbrev pub IsFirstFault : ReadFault → List ℕ → Type 0
IsFirstFault fault text = IsFirst (Condition text) faults fault

-- The fault is the first whose condition is true. NoMemory says nothing of a text.
abbrev pub TellsFault : ReadFault → List ℕ → Type 0
TellsFault fault.NoMemory text = Unit {0}
TellsFault fault text = IsFirstFault fault text
