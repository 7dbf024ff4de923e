-- Why lines aren't the headers of a message: the faults in order, and the condition of each (RFC
-- 3261, sections 7.3 and 8.1.1).
use Rattle.std.specs.Prelude.{◌≡◌, ◌<◌, ◌⊎◌, ℕ, List, [], ◌∷◌, ◌++◌, map, length, Result, Ok, Err}
use Rattle.std.specs.List.{AllByRecursion}
use Rattle.sip_grammar.specs.HeaderEntry.{headers_where, is_needed, is_single}
use Rattle.sip_grammar.specs.declared.header_name.HeaderName.{HeaderName}
use Rattle.sip_grammar.specs.declared.header_name.HeaderName.TheVariants as name
use Rattle.sip_message.specs.declared.fault.ReadFault.{ReadFault}
use Rattle.sip_message.specs.declared.fault.ReadFault.TheVariants as fault
use Rattle.sip_header_values.specs.Address.{AreNameAddrs, IsPartyText}
use Rattle.sip_header_values.specs.Numeral.{IsNumeral}
use Rattle.sip_header_values.specs.Sequence.{AreTokens, IsCallId, IsCSeqText, IsRAckText}
use Rattle.sip_header_values.specs.ViaValue.{AreVias}
use Rattle.sip_headers.specs.HeaderLine.{IsHeaderLine}
use Rattle.sip_headers.specs.Named.{OfHeaderLines, values_of}
use Rattle.sip_headers.specs.Slot.{HasBad}

-- ---- the first of several faults

-- the first of these faults whose condition is true
abbrev pub IsFirst : (ReadFault → Type 0) → List ReadFault → ReadFault → Type 0
IsFirst C [] fault = ⊥
IsFirst C (other ∷ others) fault =
    ((fault ≡ other) × C other) ⊎ ((C other → ⊥) × IsFirst C others fault)

-- none of the conditions is true
abbrev pub NoneHolds : (ReadFault → Type 0) → List ReadFault → Type 0
NoneHolds C faults = AllByRecursion (λ fault. C fault → ⊥) faults

-- a value if no condition is true, otherwise the first fault
abbrev pub Decides : {X : Type 0} → (ReadFault → Type 0) → List ReadFault → Result X ReadFault
    → Type 0
Decides C faults (Ok x) = NoneHolds C faults
Decides C faults (Err fault) = IsFirst C faults fault

-- ---- their conditions

-- one of these values isn't in the header's form
abbrev pub HasBadValue : HeaderName → List (List ℕ) → Type 0
HasBadValue name.Via values = HasBad AreVias values
HasBadValue name.MaxForwards values = HasBad IsNumeral values
HasBadValue name.From values = HasBad IsPartyText values
HasBadValue name.To values = HasBad IsPartyText values
HasBadValue name.CallId values = HasBad IsCallId values
HasBadValue name.CSeq values = HasBad IsCSeqText values
HasBadValue name.Contact values = HasBad AreNameAddrs values
HasBadValue name.RecordRoute values = HasBad AreNameAddrs values
HasBadValue name.Route values = HasBad AreNameAddrs values
HasBadValue name.Require values = HasBad AreTokens values
HasBadValue name.Supported values = HasBad AreTokens values
HasBadValue name.RSeq values = HasBad IsNumeral values
HasBadValue name.RAck values = HasBad IsRAckText values
HasBadValue name.ContentLength values = HasBad IsNumeral values

-- not every line is a header line, or a value isn't in its header's form
abbrev pub HasBadHeader : List (List ℕ) → Type 0
HasBadHeader lines =
    (AllByRecursion (λ line. (parts : List ℕ × List ℕ) × IsHeaderLine parts line) lines → ⊥)
    ⊎ OfHeaderLines (λ named. (header : HeaderName) × HasBadValue header (values_of header named))
    lines

-- the condition of each fault
abbrev pub HeaderCondition : List (List ℕ) → ReadFault → Type 0
HeaderCondition lines fault.BadHeader = HasBadHeader lines
HeaderCondition lines (fault.Missing header) =
    OfHeaderLines (λ named. values_of header named ≡ []) lines
HeaderCondition lines (fault.Repeated header) =
    OfHeaderLines (λ named. 1 < length (values_of header named)) lines
HeaderCondition lines other = ⊥

-- the faults in order: BadHeader, the missing mandatory headers, and the repeated headers that may
-- occur once
abbrev pub header_faults : List ReadFault
header_faults =
    fault.BadHeader ∷ (map fault.Missing (headers_where is_needed)
    ++ map fault.Repeated (headers_where is_single))
