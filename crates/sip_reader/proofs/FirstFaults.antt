-- The fault of reading is the first whose condition is true.
use Rattle.std.proofs.Common.{◌≡◌, inl, inr, ℕ, Bool, true, false, cond, ltb, List, [], ◌∷◌, ◌++◌, length, Option, Some, None, Result, Ok, Err, refl, sym, ap, subst, ◌∙◌, arith}
use Rattle.std.specs.List.{AllByRecursion}
use Rattle.std.proofs.lemmas.Bool.{ltb-true, ltb-false}
use Rattle.sip_text.specs.Line.{line_at}
use Rattle.sip_grammar.specs.declared.header_name.HeaderName.TheVariants as name
use Rattle.sip_message.specs.declared.fault.ReadFault.{ReadFault}
use Rattle.sip_message.specs.declared.fault.ReadFault.TheVariants as fault
use Rattle.sip_message.specs.declared.message.Message.{Message}
use Rattle.sip_message.specs.declared.start_line.StartLine.{StartLine}
use Rattle.sip_headers.specs.Complete.{faultless}
use Rattle.sip_headers.specs.HeaderFields.{draft_of}
use Rattle.sip_headers.specs.Faults.{IsFirst, NoneHolds, Decides, HeaderCondition, header_faults}
use Rattle.sip_headers.specs.Folding.{Section, section_at}
use Rattle.sip_headers.specs.Steps.Drafted.{onto_section}
use Rattle.sip_headers.specs.declared.header_fields.HeaderFields.{HeaderFields}
use Rattle.sip_headers.proofs.FaultOrder.{told_decides, first_more, first_behind, none_both}
use Rattle.sip_headers.proofs.HeaderFaults.{decided, headers_take}
use Rattle.sip_reader.specs.declared.first_line.FirstLine.{FirstLine}
use Rattle.sip_reader.specs.Faults.{WithLines, LineCondition, Condition, faults}
use Rattle.sip_reader.specs.ReadMessage.{◌>>=◌, or_fault, message_of_draft, message_of_lines, message_of_section, message_in, message_at}
use Rattle.sip_reader.specs.ReadStart.{start_at}
use Rattle.sip_reader.specs.SkippedEnds.{without_line_ends}
use Rattle.sip_reader.specs.Spells.{Spells}
use Rattle.sip_reader.specs.Head.{first_of}
use Rattle.sip_reader.specs.StartLine.{SpellsStart}
use Rattle.sip_reader.proofs.LastFaults.{last_faults, headers_decided}
use Rattle.sip_reader.proofs.Layouts.{Laid, laid_takes, laid_again}
use Rattle.sip_reader.proofs.Making.{some_start, first_spelled}
use Rattle.sip_reader.proofs.Outcomes.{no_such, step_decides}
use Rattle.sip_reader.proofs.Spelled.{spelled_again}
use Rattle.sip_reader.proofs.StartLines.{start_reads}
use Rattle.sip_reader.proofs.Sections.{by_first_line}

-- ---- the faults of the header lines

abbrev line_faults : List ReadFault
line_faults = header_faults ++ last_faults

-- the conditions of header lines are those of the lines in a text
eq : {A : Type 0} → (A → A) × (A → A)
eq = (λ x. x, λ x. x)

same_conditions : (start : List ℕ) (lines : List (List ℕ)) (rest : List ℕ)
    → AllByRecursion (λ f. (HeaderCondition lines f → LineCondition start lines rest f)
    × (LineCondition start lines rest f → HeaderCondition lines f)) header_faults
same_conditions start lines rest =
    (eq, (eq, (eq, (eq, (eq, (eq, (eq, (eq, (eq, (eq, (eq, (eq, (eq, (eq, tt))))))))))))))

more_decided : {A X : Type 0} (C : ReadFault → Type 0) (es more : List ReadFault)
    (r : Result A ReadFault) (f : A → Result X ReadFault) → Decides C es r
    → ((x : A) → r ≡ Ok x → Decides C more (f x)) → Decides C (es ++ more) (r >>= f)
more_decided C es more (Err e) f is next = first_more C es more e is
more_decided {X = X} C es more (Ok x) f is next = onto (f x) (next x refl)
  where
    onto : (s : Result X ReadFault) → Decides C more s → Decides C (es ++ more) s
    onto (Ok y) d = none_both C es more is d
    onto (Err e) d = first_behind C es more e is d

lines_decided : (start : List ℕ) (lines : List (List ℕ)) (rest : List ℕ) (line : FirstLine (List ℕ))
    → start_at start ≡ Some line → Decides (LineCondition start lines rest) line_faults
    (faultless (draft_of lines) >>= λ d. message_of_draft line d rest)
lines_decided start lines rest line e =
    more_decided (LineCondition start lines rest) header_faults last_faults
    (faultless (draft_of lines)) (λ d. message_of_draft line d rest)
    (told_decides (HeaderCondition lines) (LineCondition start lines rest) header_faults
    (faultless (draft_of lines)) (same_conditions start lines rest) (decided lines))
    (λ d is. let held = headers_take lines d is in
    subst (λ (f : HeaderFields). Decides (LineCondition start lines rest) last_faults
    (message_of_draft line f rest)) (sym held.2)
    (headers_decided start lines rest line held.0
    (record { start_is = e; headers_are = held.1 })))

-- ---- the start line

abbrev start_faults : List ReadFault
start_faults = fault.BadStartLine ∷ line_faults

no_start : (start : List ℕ) → start_at start ≡ None → (says : StartLine) (method : List ℕ)
    → SpellsStart says method start → ⊥
no_start start e says method spelled =
    let f : ◌≡◌ {A = Option (FirstLine (List ℕ))} None (Some (first_of says method)) =
    sym e ∙ start_reads.again start (first_of says method)
    (first_spelled says method start spelled) in
    absurd cc

section_decided : (start : List ℕ) (lines : List (List ℕ)) (rest : List ℕ)
    → Decides (LineCondition start lines rest) start_faults
    (message_of_lines start (draft_of lines) rest)
unfolding message_of_lines
section_decided start lines rest =
    step_decides (LineCondition start lines rest) fault.BadStartLine line_faults (start_at start)
    (λ line. faultless (draft_of lines) >>= λ d. message_of_draft line d rest)
    (λ e. no_start start e)
    (λ line e. let some = some_start line start (start_reads.takes start line e) in
    (λ none. none some.0 some.1 some.2, lines_decided start lines rest line e))

-- ---- the text

-- a text has its lines in one way
only_lines : (text start : List ℕ) (lines : List (List ℕ)) (rest : List ℕ) (first after : List ℕ)
    → line_at (without_line_ends text) ≡ Some (first, after)
    → onto_section first (section_at after) ≡ Some (start ∷ lines, rest)
    → (P : List ℕ → List (List ℕ) → List ℕ → Type 0) → WithLines P text → P start lines rest
only_lines text start lines rest first after line_is section_is P has =
    let laid = laid_again text has.0 has.1 has.2 has.3 in
    let firsts : Some (laid.first, laid.after) ≡ Some (first, after) = sym laid.line_is ∙ line_is in
    let same : (laid.first, laid.after) ≡ (first, after) =
    same_pair (laid.first, laid.after) (first, after) firsts in
    let sections : ◌≡◌ {A = Option Section} (Some (has.0 ∷ has.1, has.2))
    (Some (start ∷ lines, rest)) =
    sym laid.section_is ∙ ap (λ (p : List ℕ × List ℕ). onto_section p.0 (section_at p.1)) same
    ∙ section_is in
    let parts : ◌≡◌ {A = Section} (has.0 ∷ has.1, has.2) (start ∷ lines, rest) =
    same_section _ _ sections in
    let starts : has.0 ≡ start =
    same_head has.0 start has.1 lines (ap (λ (s : Section). s.0) parts) in
    let others : has.1 ≡ lines =
    same_tail has.0 start has.1 lines (ap (λ (s : Section). s.0) parts) in
    let rests : has.2 ≡ rest = ap (λ (s : Section). s.1) parts in
    subst (λ (xs : List ℕ). P start lines xs) rests
    (subst (λ (ls : List (List ℕ)). P start ls has.2) others
    (subst (λ (xs : List ℕ). P xs has.1 has.2) starts has.4))
  where
    same_pair : (p q : List ℕ × List ℕ) → Some p ≡ Some q → p ≡ q
    same_pair p q e = cc

    same_section : (p q : Section) → Some p ≡ Some q → p ≡ q
    same_section p q e = cc

    same_head : (x y : List ℕ) (xs ys : List (List ℕ)) → x ∷ xs ≡ y ∷ ys → x ≡ y
    same_head x y xs ys e = cc

    same_tail : (x y : List ℕ) (xs ys : List (List ℕ)) → x ∷ xs ≡ y ∷ ys → xs ≡ ys
    same_tail x y xs ys e = cc

text_conditions : (text start : List ℕ) (lines : List (List ℕ)) (rest : List ℕ)
    (first after : List ℕ) → line_at (without_line_ends text) ≡ Some (first, after)
    → onto_section first (section_at after) ≡ Some (start ∷ lines, rest)
    → AllByRecursion (λ f. (LineCondition start lines rest f → Condition text f)
    × (Condition text f → LineCondition start lines rest f)) start_faults
text_conditions text start lines rest first after line_is section_is =
    let laid = laid_takes text first after start lines rest line_is section_is in
    let has : (f : ReadFault) → LineCondition start lines rest f
    → WithLines (λ s ls r. LineCondition s ls r f) text =
    λ f is. (start, lines, rest, laid, is) in
    let only : (f : ReadFault) → WithLines (λ s ls r. LineCondition s ls r f) text
    → LineCondition start lines rest f =
    λ f is. only_lines text start lines rest first after line_is section_is
    (λ s ls r. LineCondition s ls r f) is in (
      (has fault.BadStartLine, only fault.BadStartLine),
      (
        (has fault.BadHeader, only fault.BadHeader),
        (
          (has (fault.Missing name.Via), only (fault.Missing name.Via)),
          (
            (has (fault.Missing name.From), only (fault.Missing name.From)),
            (
              (has (fault.Missing name.To), only (fault.Missing name.To)),
              (
                (has (fault.Missing name.CallId), only (fault.Missing name.CallId)),
                (
                  (has (fault.Missing name.CSeq), only (fault.Missing name.CSeq)),
                  (
                    (has (fault.Repeated name.From), only (fault.Repeated name.From)),
                    (
                      (has (fault.Repeated name.To), only (fault.Repeated name.To)),
                      (
                        (has (fault.Repeated name.CallId), only (fault.Repeated name.CallId)),
                        (
                          (has (fault.Repeated name.CSeq), only (fault.Repeated name.CSeq)),
                          (
                            (
                              has (fault.Repeated name.MaxForwards),
                              only (fault.Repeated name.MaxForwards),
                            ),
                            (
                              (
                                has (fault.Repeated name.ContentLength),
                                only (fault.Repeated name.ContentLength),
                              ),
                              (
                                (has (fault.Repeated name.RSeq), only (fault.Repeated name.RSeq)),
                                (
                                  (has (fault.Repeated name.RAck), only (fault.Repeated name.RAck)),
                                  (
                                    (has fault.BadNumber, only fault.BadNumber),
                                    (
                                      (has fault.OldBranch, only fault.OldBranch),
                                      (
                                        (has fault.MethodMismatch, only fault.MethodMismatch),
                                        ((has fault.Truncated, only fault.Truncated), tt),
                                      ),
                                    ),
                                  ),
                                ),
                              ),
                            ),
                          ),
                        ),
                      ),
                    ),
                  ),
                ),
              ),
            ),
          ),
        ),
      ),
    )

-- no line ends, or no empty line
not_laid : (text : List ℕ) → ((start : List ℕ) (lines : List (List ℕ)) (rest : List ℕ)
    → Laid text start lines rest → ⊥) → Decides {X =
    Message} (Condition text) (fault.NoEmptyLine ∷ start_faults) (Err fault.NoEmptyLine)
not_laid text none =
    inl (
      refl,
      λ start lines rest lays.
          none start lines rest (laid_again text start lines rest lays),
    )

other_section : (text : List ℕ) (first after : List ℕ) (section : Option Section)
    → line_at (without_line_ends text) ≡ Some (first, after)
    → onto_section first (section_at after) ≡ section
    → ((start : List ℕ) (lines : List (List ℕ)) (rest : List ℕ)
    → section ≡ Some (start ∷ lines, rest) → ⊥)
    → (start : List ℕ) (lines : List (List ℕ)) (rest : List ℕ) → Laid text start lines rest → ⊥
other_section text first after section line_is section_is none start lines rest laid =
    let firsts : Some (laid.first, laid.after) ≡ Some (first, after) = sym laid.line_is ∙ line_is in
    let same : (laid.first, laid.after) ≡ (first, after) =
    same_pair (laid.first, laid.after) (first, after) firsts in
    none start lines rest (sym section_is
    ∙ sym (ap (λ (p : List ℕ × List ℕ). onto_section p.0 (section_at p.1)) same)
    ∙ laid.section_is)
  where
    same_pair : (p q : List ℕ × List ℕ) → Some p ≡ Some q → p ≡ q
    same_pair p q e = cc

by_section : (text first after : List ℕ) → line_at (without_line_ends text) ≡ Some (first, after)
    → (section : Option Section) → onto_section first (section_at after) ≡ section
    → Decides (Condition text) (fault.NoEmptyLine ∷ start_faults) (message_of_section section)
unfolding message_of_section
by_section text first after line_is None section_is =
    not_laid text (other_section text first after None line_is section_is
    (λ start lines rest e. absurd cc))
by_section text first after line_is (Some ([], rest)) section_is =
    not_laid text (other_section text first after (Some ([], rest)) line_is section_is
    (λ start lines more e. absurd (no_lines start lines rest more e)))
  where
    same_section : (p q : Section) → Some p ≡ Some q → p ≡ q
    same_section p q e = cc

    nothing : (start : List ℕ) (lines : List (List ℕ)) → [] ≡ start ∷ lines → ⊥
    nothing start lines e = absurd cc

    no_lines : (start : List ℕ) (lines : List (List ℕ)) (rest more : List ℕ)
        → ◌≡◌ {A = Option Section} (Some ([], rest)) (Some (start ∷ lines, more)) → ⊥
    no_lines start lines rest more e =
        let parts : ◌≡◌ {A = Section} ([], rest) (start ∷ lines, more) =
        same_section ([], rest) (start ∷ lines, more) e in
        nothing start lines (ap (λ (s : Section). s.0) parts)
by_section text first after line_is (Some (start ∷ lines, rest)) section_is =
    no_such (Condition text) fault.NoEmptyLine start_faults
    (message_of_lines start (draft_of lines) rest)
    (λ none. none start lines rest
    (laid_takes text first after start lines rest line_is section_is))
    (told_decides (LineCondition start lines rest) (Condition text) start_faults
    (message_of_lines start (draft_of lines) rest)
    (text_conditions text start lines rest first after line_is section_is)
    (section_decided start lines rest))

by_line : (text : List ℕ) (o : Option (List ℕ × List ℕ)) → line_at (without_line_ends text) ≡ o
    → Decides (Condition text) (fault.NoEmptyLine ∷ start_faults)
    (or_fault fault.NoEmptyLine o >>= λ p. message_of_section (onto_section p.0 (section_at p.1)))
by_line text None e =
    not_laid text (λ start lines rest laid.
    let f : ◌≡◌ {A = Option (List ℕ × List ℕ)} None (Some (laid.first, laid.after)) =
    sym e ∙ laid.line_is in absurd cc)
by_line text (Some p) e = by_section text p.0 p.1 e (onto_section p.0 (section_at p.1)) refl

short_decided : (text : List ℕ)
    → Decides (Condition text) (fault.NoEmptyLine ∷ start_faults)
    (message_in (without_line_ends text))
short_decided text =
    subst (λ (read : Result Message ReadFault).
    Decides (Condition text) (fault.NoEmptyLine ∷ start_faults) read) (sym (by_first_line text))
    (by_line text (line_at (without_line_ends text)) refl)

by_size : (text : List ℕ) (r : Bool) → ltb 65535 (length text) ≡ r
    → Decides (Condition text) faults
    (cond r (Err fault.TooLong) (message_in (without_line_ends text)))
by_size text true e = inl (refl, ltb-true 65535 (length text) e)
by_size text false e =
    no_such (Condition text) fault.TooLong (fault.NoEmptyLine ∷ start_faults)
    (message_in (without_line_ends text))
    (λ long. let short = ltb-false 65535 (length text) e in omega (arith, long, short))
    (short_decided text)

pub first_fault : (text : List ℕ) → Decides (Condition text) faults (message_at text)
first_fault text = by_size text (ltb 65535 (length text)) refl

-- ---- a message has no fault

pub none_first : (C : ReadFault → Type 0) (es : List ReadFault) (e : ReadFault) → NoneHolds C es
    → IsFirst C es e → ⊥
none_first C [] e none is = is
none_first C (f ∷ es) e none (inl here) = none.0 here.1
none_first C (f ∷ es) e none (inr more) = none_first C es e none.1 more.1

pub no_fault : (text : List ℕ) (m : Message) (e : ReadFault) → Spells m text
    → IsFirst (Condition text) faults e → ⊥
no_fault text m e spelled is =
    none_first (Condition text) faults e
    (subst (λ (r : Result Message ReadFault). Decides (Condition text) faults r)
    (spelled_again text m spelled) (first_fault text)) is

pub told : (text : List ℕ) (e : ReadFault) → message_at text ≡ Err e
    → IsFirst (Condition text) faults e
told text e is =
    subst (λ (r : Result Message ReadFault). Decides (Condition text) faults r) is
    (first_fault text)
