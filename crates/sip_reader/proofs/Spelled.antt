-- Reading gives the message that the text spells.
use Rattle.std.proofs.Common.{◌≡◌, ℕ, ◌≤◌, Bool, true, false, cond, ltb, List, [], ◌∷◌, map, length, Option, Some, None, Result, Ok, Err, refl, sym, ap, subst, ◌∙◌}
use Rattle.std.proofs.lemmas.Bool.{ltb-false, le-ltb}
use Rattle.std.proofs.lemmas.Option.{same_Some}
use Rattle.sip_text.specs.Forms.{each}
use Rattle.sip_text.specs.Line.{line_at}
use Rattle.sip_message.specs.Via.{are_vias}
use Rattle.sip_message.specs.declared.fault.ReadFault.{ReadFault}
use Rattle.sip_message.specs.declared.fault.ReadFault.TheVariants as fault
use Rattle.sip_message.specs.declared.message.Message.{Message}
use Rattle.sip_message.specs.declared.start_line.StartLine.{StartLine}
use Rattle.sip_message.specs.declared.via.Via.{Via}
use Rattle.sip_header_values.specs.declared.via.ViaDraft.{ViaDraft}
use Rattle.sip_headers.specs.Complete.{draft_with, faultless}
use Rattle.sip_headers.specs.HeaderFields.{draft_of}
use Rattle.sip_headers.specs.Folding.{Section, section_at}
use Rattle.sip_headers.specs.Steps.Drafted.{onto_section}
use Rattle.sip_headers.specs.Headers.{Headers, AreHeaders}
use Rattle.sip_headers.specs.Numbers.{headers_with, are_numbers, numbers_in, via_with, via_draft, message_with}
use Rattle.sip_headers.specs.declared.numbers.Numbers.{Numbers}
use Rattle.sip_headers.proofs.HeaderFaults.{headers_take}
use Rattle.sip_headers.proofs.HeaderNumbers.{are_all_numbers, numbered, numbers_with, numbers_again, ports_again, message_again}
use Rattle.sip_headers.proofs.HeaderSets.{headers_again}
use Rattle.sip_reader.specs.declared.first_line.FirstLine.{FirstLine}
use Rattle.sip_reader.specs.ReadMessage.{◌>>=◌, or_fault, good_vias, vias_of, start_line_of, body_of, message_of_draft, message_of_lines, message_of_section, message_in, message_at}
use Rattle.sip_reader.specs.ReadStart.{start_at}
use Rattle.sip_reader.specs.SkippedEnds.{without_line_ends}
use Rattle.sip_reader.specs.Spells.{Spells}
use Rattle.sip_reader.specs.Head.{first_of}
use Rattle.sip_reader.specs.StartLine.{SpellsStart}
use Rattle.sip_reader.proofs.Layouts.{laid_takes, laid_again}
use Rattle.sip_reader.proofs.Making.{start_takes, first_spelled, start_line_again, body_takes, body_again}
use Rattle.sip_reader.proofs.Outcomes.{same_Ok, step_ok, result_ok, step_again, result_again}
use Rattle.sip_reader.proofs.StartLines.{start_reads}
use Rattle.sip_reader.proofs.Sections.{by_first_line}

-- ---- the stages

abbrev pub then_body : Headers → List ℕ → Numbers → List Via → StartLine → Result Message ReadFault
then_body h rest numbers vias says =
    or_fault fault.Truncated (body_of rest numbers.content_length) >>= λ body.
    or_fault fault.BadHeader (message_with says vias numbers (draft_with h) body)

abbrev pub then_start : FirstLine (List ℕ) → Headers → List ℕ → Numbers → List Via
    → Result Message ReadFault
then_start line h rest numbers vias =
    or_fault fault.MethodMismatch (start_line_of line h.cseq.method) >>= λ says.
    then_body h rest numbers vias says

abbrev pub then_branch : FirstLine (List ℕ) → Headers → List ℕ → Numbers → List Via
    → Result Message ReadFault
then_branch line h rest numbers vias =
    or_fault fault.OldBranch (good_vias vias) >>= λ good. then_start line h rest numbers good

-- what a message was made of
pub record IsMade (line : FirstLine (List ℕ)) (h : Headers) (rest : List ℕ)
    (m : Message) : Type 0 where
  pub numbers : Numbers
  pub numbers_are : numbers_in (draft_with h) ≡ Some numbers
  pub vias_are : each via_with h.vias ≡ Some m.vias
  pub branch_is : are_vias m.vias ≡ true
  pub start_is : start_line_of line h.cseq.method ≡ Some m.start
  pub body_is : body_of rest numbers.content_length ≡ Some m.body
  pub same : message_with m.start m.vias numbers (draft_with h) m.body ≡ Some m

vias_take : (drafts : List ViaDraft) (vias : List Via) → vias_of drafts ≡ Ok vias
    → (each via_with drafts ≡ Some vias) × (are_vias vias ≡ true)
unfolding vias_of
vias_take drafts vias e =
    let a = step_ok fault.BadNumber (each via_with drafts)
    (λ vs. or_fault fault.OldBranch (good_vias vs)) vias e in
    let g = good (are_vias a.0) a.0 vias a.2 in
    (a.1 ∙ ap (λ vs. Some vs) g.1, subst (λ vs. are_vias vs ≡ true) g.1 g.0)
  where
    good : (r : Bool) (vs ws : List Via) → or_fault fault.OldBranch (cond r (Some vs) None) ≡ Ok ws
        → (r ≡ true) × (vs ≡ ws)
    good true vs ws p = (refl, same_Ok vs ws p)
    good false vs ws p = absurd cc

some_ok : {A : Type 0} (e : ReadFault) (o : Option A) (x : A) → or_fault e o ≡ Ok x → o ≡ Some x
some_ok e None x p = absurd cc
some_ok e (Some y) x p = ap (λ z. Some z) (same_Ok y x p)

pub made : (line : FirstLine (List ℕ)) (h : Headers) (rest : List ℕ) (m : Message)
    → message_of_draft line (draft_with h) rest ≡ Ok m → IsMade line h rest m
unfolding message_of_draft
made line h rest m e =
    let a = step_ok fault.BadNumber (numbers_in (draft_with h))
    (λ numbers. vias_of h.vias >>= λ vias. then_start line h rest numbers vias) m e in
    let b = result_ok (vias_of h.vias) (λ vias. then_start line h rest a.0 vias) m a.2 in
    let vias = vias_take h.vias b.0 b.1 in
    let c = step_ok fault.MethodMismatch (start_line_of line h.cseq.method)
    (λ says. then_body h rest a.0 b.0 says) m b.2 in
    let d = step_ok fault.Truncated (body_of rest a.0.content_length)
    (λ body. or_fault fault.BadHeader (message_with c.0 b.0 a.0 (draft_with h) body)) m c.2 in
    let made_is = some_ok fault.BadHeader _ m d.2 in
    let same = same_Some _ m made_is in
    record {
      numbers = a.0;
      numbers_are = a.1;
      vias_are = vias.0 ∙ ap (λ (n : Message). Some n.vias) same;
      branch_is = sym (ap (λ (n : Message). are_vias n.vias) same) ∙ vias.1;
      start_is = c.1 ∙ ap (λ (n : Message). Some n.start) same;
      body_is = d.1 ∙ ap (λ (n : Message). Some n.body) same;
      same = ap (λ (n : Message). message_with n.start n.vias a.0 (draft_with h) n.body) (sym same)
          ∙ made_is;
    }

sized : (r : Bool) (read : Result Message ReadFault) (m : Message)
    → cond r (Err fault.TooLong) read ≡ Ok m → (r ≡ false) × (read ≡ Ok m)
sized true read m e = absurd cc
sized false read m e = (refl, e)

-- a section that has a start line
pub record IsSection (section : Option Section) (m : Message) : Type 0 where
  pub start : List ℕ
  pub lines : List (List ℕ)
  pub rest : List ℕ
  pub section_is : section ≡ Some (start ∷ lines, rest)
  pub read_is : message_of_lines start (draft_of lines) rest ≡ Ok m

section_takes : (section : Option Section) (m : Message) → message_of_section section ≡ Ok m
    → IsSection section m
unfolding message_of_section
section_takes None m e = absurd cc
section_takes (Some ([], rest)) m e = absurd cc
section_takes (Some (start ∷ lines, rest)) m e =
    record { start = start; lines = lines; rest = rest; section_is = refl; read_is = e }

lines_take : (text start : List ℕ) (lines : List (List ℕ)) (rest : List ℕ) (m : Message)
    → length text ≤ 65535 → (first after : List ℕ)
    → line_at (without_line_ends text) ≡ Some (first, after)
    → onto_section first (section_at after) ≡ Some (start ∷ lines, rest)
    → message_of_lines start (draft_of lines) rest ≡ Ok m → Spells m text
unfolding message_of_lines
lines_take text start lines rest m short first after line_is section_is e =
    let a = step_ok fault.BadStartLine (start_at start)
    (λ says. faultless (draft_of lines) >>= λ d. message_of_draft says d rest) m e in
    let b = result_ok (faultless (draft_of lines)) (λ d. message_of_draft a.0 d rest) m a.2 in
    let held = headers_take lines b.0 b.1 in
    let h = held.0 in
    let made_is = made a.0 h rest m
    (ap (λ d. message_of_draft a.0 d rest) (sym held.2) ∙ b.2) in
    let own : h ≡ headers_with m made_is.numbers.content_length =
    numbered h made_is.numbers m made_is.numbers_are made_is.vias_are made_is.same in
    record {
      start = start;
      lines = lines;
      rest = rest;
      content_length = made_is.numbers.content_length;
      short = short;
      laid = laid_takes text first after start lines rest line_is section_is;
      start_is = subst (λ (g : Headers). SpellsStart m.start g.cseq.method start) own
          (start_takes a.0 h.cseq.method m.start start made_is.start_is
          (start_reads.takes start a.0 a.1));
      headers_are = subst (λ (g : Headers). AreHeaders g lines) own held.1;
      numbers_are = ap are_numbers (sym own)
          ∙ are_all_numbers h made_is.numbers m.vias made_is.numbers_are made_is.vias_are;
      branch_is = made_is.branch_is;
      body_is = body_takes rest made_is.numbers.content_length m.body made_is.body_is;
    }

pub spelled_takes : (text : List ℕ) (m : Message) → message_at text ≡ Ok m → Spells m text
spelled_takes text m e =
    let size = sized (ltb 65535 (length text)) (message_in (without_line_ends text)) m e in
    let first = step_ok fault.NoEmptyLine (line_at (without_line_ends text))
    (λ p. message_of_section (onto_section p.0 (section_at p.1))) m
    (sym (by_first_line text) ∙ size.1) in
    let section = section_takes (onto_section first.0.0 (section_at first.0.1)) m first.2 in
    lines_take text section.start section.lines section.rest m
    (ltb-false 65535 (length text) size.0) first.0.0 first.0.1 first.1 section.section_is
    section.read_is

-- ---- and the other way round

vias_again : (m : Message) (content_length : Option ℕ)
    → are_numbers (headers_with m content_length) ≡ true → are_vias m.vias ≡ true
    → vias_of (map via_draft m.vias) ≡ Ok m.vias
unfolding vias_of
vias_again m content_length numbers branch =
    ap (λ o. or_fault fault.BadNumber o >>= λ vs. or_fault fault.OldBranch (good_vias vs))
    (ports_again m content_length numbers)
    ∙ ap (λ b. or_fault fault.OldBranch (cond b (Some m.vias) None)) branch

pub made_again : (m : Message) (content_length : Option ℕ) (rest : List ℕ)
    → are_numbers (headers_with m content_length) ≡ true → are_vias m.vias ≡ true
    → body_of rest content_length ≡ Some m.body
    → message_of_draft (first_of m.start m.cseq.method) (draft_with (headers_with m content_length))
    rest ≡ Ok m
unfolding message_of_draft
made_again m content_length rest numbers branch body =
    let h = headers_with m content_length in
    let line = first_of m.start m.cseq.method in
    step_again fault.BadNumber (numbers_in (draft_with h))
    (λ ns. vias_of h.vias >>= λ vs. then_start line h rest ns vs)
    (numbers_with m content_length) (numbers_again m content_length)
    ∙ result_again (vias_of h.vias)
    (λ vs. then_start line h rest (numbers_with m content_length) vs) m.vias
    (vias_again m content_length numbers branch)
    ∙ step_again fault.MethodMismatch (start_line_of line m.cseq.method)
    (λ says. then_body h rest (numbers_with m content_length) m.vias says) m.start
    (start_line_again m.start m.cseq.method)
    ∙ step_again fault.Truncated (body_of rest content_length)
    (λ b. or_fault fault.BadHeader
    (message_with m.start m.vias (numbers_with m content_length) (draft_with h) b)) m.body body
    ∙ ap (or_fault fault.BadHeader) (message_again m content_length)

lines_again : (m : Message) (text : List ℕ) (is : Spells m text)
    → message_of_lines is.start (draft_of is.lines) is.rest ≡ Ok m
unfolding message_of_lines
lines_again m text is =
    let line = first_of m.start m.cseq.method in
    let h = headers_with m is.content_length in
    step_again fault.BadStartLine (start_at is.start)
    (λ says. faultless (draft_of is.lines) >>= λ d. message_of_draft says d is.rest) line
    (start_reads.again is.start line (first_spelled m.start m.cseq.method is.start is.start_is))
    ∙ result_again (faultless (draft_of is.lines)) (λ d. message_of_draft line d is.rest)
    (draft_with h)
    (headers_again h is.lines is.headers_are)
    ∙ made_again m is.content_length is.rest is.numbers_are is.branch_is
    (body_again is.rest is.content_length m.body is.body_is)

section_again : (section : Option Section) (start : List ℕ) (lines : List (List ℕ)) (rest : List ℕ)
    → section ≡ Some (start ∷ lines, rest)
    → message_of_section section ≡ message_of_lines start (draft_of lines) rest
unfolding message_of_section
section_again section start lines rest e = ap message_of_section e

pub spelled_again : (text : List ℕ) (m : Message) → Spells m text → message_at text ≡ Ok m
spelled_again text m is =
    let laid = laid_again text is.start is.lines is.rest is.laid in
    ap (λ b. cond b (Err fault.TooLong) (message_in (without_line_ends text)))
    (le-ltb 65535 (length text) is.short)
    ∙ by_first_line text
    ∙ step_again fault.NoEmptyLine (line_at (without_line_ends text))
    (λ p. message_of_section (onto_section p.0 (section_at p.1)))
    (laid.first, laid.after) laid.line_is
    ∙ section_again (onto_section laid.first (section_at laid.after)) is.start is.lines is.rest
    laid.section_is
    ∙ lines_again m text is
