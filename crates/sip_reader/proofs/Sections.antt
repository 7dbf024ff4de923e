-- What the lines after the start line give.
use Rattle.std.proofs.Common.{◌≡◌, ℕ, false, List, length, Option, Some, None, Err, refl, sym, ap, ◌∙◌}
use Rattle.std.specs.Prelude.{nat_lt}
use Rattle.std.specs.Option.{option_map}
use Rattle.sip_text.specs.Line.{line_at}
use Rattle.sip_message.specs.declared.fault.ReadFault.TheVariants as fault
use Rattle.sip_headers.specs.HeaderFields.{draft_of}
use Rattle.sip_headers.specs.Folding.{Section, section_at, whole_section}
use Rattle.sip_headers.specs.Steps.Drafted.{onto_section, behind_line, gathered_at}
use Rattle.sip_headers.specs.declared.header_fields.HeaderFields.{HeaderFields}
use Rattle.sip_headers.proofs.Folds.{no_line}
use Rattle.sip_reader.specs.ReadMessage.{◌>>=◌, or_fault, message_of_lines, message_of_section, message_in, message_at}
use Rattle.sip_reader.specs.SkippedEnds.{without_line_ends}
use Rattle.sip_reader.proofs.Layouts.{first_onto}

-- a text that isn't too long, without the line ends before it
pub short_text : (text front : List ℕ) → nat_lt 65535 (length text) ≡ false
    → front ≡ without_line_ends text → message_at text ≡ message_in front
short_text text front short is = rw (short, is) refl

-- the first line, and those after it
section_by_line : (text : List ℕ) (line : Option (List ℕ × List ℕ))
    → line_at (without_line_ends text) ≡ line
    → message_of_section (whole_section (section_at (without_line_ends text)))
    ≡ (or_fault fault.NoEmptyLine line >>= λ p.
    message_of_section (onto_section p.0 (section_at p.1)))
unfolding message_of_section
section_by_line text None e =
    ap (λ s. message_of_section (whole_section s)) (no_line (without_line_ends text) e)
section_by_line text (Some p) e = ap message_of_section (first_onto text p.0 p.1 e)

pub by_first_line : (text : List ℕ) → message_in (without_line_ends text)
    ≡ (or_fault fault.NoEmptyLine (line_at (without_line_ends text)) >>= λ p.
    message_of_section (onto_section p.0 (section_at p.1)))
unfolding message_in
by_first_line text = section_by_line text (line_at (without_line_ends text)) refl

-- the same, by the first line
by_line : (text front : List ℕ) (line : Option (List ℕ × List ℕ)) → front ≡ without_line_ends text
    → line ≡ line_at front → message_in front
    ≡ (or_fault fault.NoEmptyLine line >>= λ p.
    message_of_section (onto_section p.0 (section_at p.1)))
by_line text front line front_is line_is =
    ap message_in front_is ∙ by_first_line text
    ∙ ap (λ o. or_fault fault.NoEmptyLine o >>= λ p.
    message_of_section (onto_section p.0 (section_at p.1)))
    (sym (line_is ∙ ap line_at front_is))

pub no_first_line : (text front : List ℕ) → front ≡ without_line_ends text
    → None ≡ line_at front → message_in front ≡ Err fault.NoEmptyLine
no_first_line text front front_is none = by_line text front None front_is none

abbrev drafted : Section → HeaderFields × List ℕ
drafted s = (draft_of s.0, s.1)

none_by : (whole : List ℕ) (section : Option Section) → option_map drafted section ≡ None
    → message_of_section (behind_line whole section) ≡ Err fault.NoEmptyLine
unfolding message_of_section
none_by whole None e = refl
none_by whole (Some s) e = absurd cc

pub none_gathered : (text front line after whole rest : List ℕ) → front ≡ without_line_ends text
    → Some (line, after) ≡ line_at front
    → onto_section line (section_at after) ≡ behind_line whole (whole_section (section_at rest))
    → None ≡ gathered_at rest → message_in front ≡ Err fault.NoEmptyLine
none_gathered text front line after whole rest front_is line_is whole_is none =
    by_line text front (Some (line, after)) front_is line_is
    ∙ ap message_of_section whole_is ∙ none_by whole (whole_section (section_at rest)) (sym none)

some_by : (whole : List ℕ) (section : Option Section) (draft : HeaderFields) (body : List ℕ)
    → option_map drafted section ≡ Some (draft, body)
    → message_of_section (behind_line whole section) ≡ message_of_lines whole draft body
unfolding message_of_section
some_by whole None draft body e = absurd cc
some_by whole (Some s) draft body e =
    let same : drafted s ≡ (draft, body) = same_pair (drafted s) (draft, body) e in
    ap (λ (p : HeaderFields × List ℕ). message_of_lines whole p.0 p.1) same
  where
    same_pair : (p q : HeaderFields × List ℕ) → Some p ≡ Some q → p ≡ q
    same_pair p q f = cc

pub some_gathered : (text front line after whole rest : List ℕ) (draft : HeaderFields)
    (body : List ℕ)
    → front ≡ without_line_ends text → Some (line, after) ≡ line_at front
    → onto_section line (section_at after) ≡ behind_line whole (whole_section (section_at rest))
    → Some (draft, body) ≡ gathered_at rest → message_in front ≡ message_of_lines whole draft body
some_gathered text front line after whole rest draft body front_is line_is whole_is some =
    by_line text front (Some (line, after)) front_is line_is
    ∙ ap message_of_section whole_is
    ∙ some_by whole (whole_section (section_at rest)) draft body (sym some)
