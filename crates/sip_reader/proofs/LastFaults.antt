-- The last four faults, of lines that have headers, are found in order.
use Rattle.std.proofs.Common.{◌≡◌, inl, ℕ, ◌<◌, Bool, true, false, cond, List, [], ◌∷◌, length, codes, Option, Some, None, Result, Err, refl, sym, ap, subst, ◌∙◌, arith}
use Rattle.std.proofs.lemmas.Bool.{true≢false}
use Rattle.sip_text.specs.Forms.{each}
use Rattle.sip_grammar.specs.Parameters.{value_named}
use Rattle.sip_message.specs.Via.{are_vias, has_cookie}
use Rattle.sip_message.specs.declared.fault.ReadFault.{ReadFault}
use Rattle.sip_message.specs.declared.fault.ReadFault.TheVariants as fault
use Rattle.sip_message.specs.declared.message.Message.{Message}
use Rattle.sip_message.specs.declared.start_line.StartLine.{StartLine}
use Rattle.sip_message.specs.declared.via.Via.{Via}
use Rattle.sip_header_values.specs.declared.numeral.Numeral.{Numeral}
use Rattle.sip_header_values.specs.declared.numeral.Numeral.TheVariants.{Number, NotANumber}
use Rattle.sip_header_values.specs.declared.via.ViaDraft.{ViaDraft}
use Rattle.sip_headers.specs.Complete.{slot_of, draft_with}
use Rattle.sip_headers.specs.Faults.{Decides}
use Rattle.sip_headers.specs.Headers.{Headers, AreHeaders}
use Rattle.sip_headers.specs.Numbers.{are_numbers, numbers_in, known_slot, via_with}
use Rattle.sip_headers.specs.declared.numbers.Numbers.{Numbers}
use Rattle.sip_headers.proofs.HeaderNumbers.{numbers_there, are_all_numbers, are_known, via_parameters}
use Rattle.sip_headers.proofs.HeaderSets.{only_headers}
use Rattle.sip_reader.specs.declared.first_line.FirstLine.{FirstLine}
use Rattle.sip_reader.specs.declared.first_line.FirstLine.TheVariants as first
use Rattle.sip_reader.specs.Faults.{WithHeaders, HasOldBranch, HasOtherMethod, IsTruncated, LineCondition}
use Rattle.sip_reader.specs.ReadMessage.{◌>>=◌, or_fault, good_vias, vias_of, start_line_of, body_of, message_of_draft}
use Rattle.sip_reader.specs.ReadStart.{start_at}
use Rattle.sip_reader.proofs.Making.{other_method, own_method, body_short, body_long}
use Rattle.sip_reader.proofs.Outcomes.{no_such, step_decides, step_again}
use Rattle.sip_grammar.proofs.Pieces.{by_bool}
use Rattle.sip_reader.proofs.Spelled.{then_body, then_start, then_branch}
use Rattle.sip_reader.specs.Head.{SpellsFirst}
use Rattle.sip_reader.proofs.StartLines.{start_reads}

abbrev pub last_faults : List ReadFault
last_faults = fault.BadNumber ∷ (fault.OldBranch ∷ (fault.MethodMismatch ∷ (fault.Truncated ∷ [])))

only_these : (P : Headers → Type 0) (h : Headers) (lines : List (List ℕ)) → AreHeaders h lines
    → WithHeaders P lines → P h
only_these P h lines is has = subst P (only_headers has.0 h lines has.1 is) has.2

pub record IsRead (start : List ℕ) (lines : List (List ℕ)) (line : FirstLine (List ℕ))
    (h : Headers) : Type 0 where
  pub start_is : start_at start ≡ Some line
  pub headers_are : AreHeaders h lines

truncated : (word : Option Numeral) (count : Option ℕ) (rest : List ℕ)
    → known_slot (slot_of word) ≡ Some count
    → (n : ℕ) × (count ≡ Some n) × (length rest < n) → IsTruncated word rest
truncated None count rest e short =
    let f : ◌≡◌ {A = Option (Option ℕ)} (Some None) (Some (Some short.0)) =
    e ∙ ap (λ c. Some c) short.1 in absurd cc
truncated (Some NotANumber) count rest e short = absurd cc
truncated (Some (Number n)) count rest e short =
    let f : ◌≡◌ {A = Option (Option ℕ)} (Some (Some n)) (Some (Some short.0)) =
    e ∙ ap (λ c. Some c) short.1 in
    let same : n ≡ short.0 = cc in
    omega (arith, same, short.2)

not_truncated : (word : Option Numeral) (count : Option ℕ) (rest body : List ℕ)
    → known_slot (slot_of word) ≡ Some count → body_of rest count ≡ Some body
    → IsTruncated word rest → ⊥
not_truncated None count rest body e f short = short
not_truncated (Some NotANumber) count rest body e f short = short
not_truncated (Some (Number n)) count rest body e f short =
    let same : count ≡ Some n = cc in
    body_long rest n body (ap (λ c. body_of rest c) (sym same) ∙ f) short

body_decided : (start : List ℕ) (lines : List (List ℕ)) (rest : List ℕ) (line : FirstLine (List ℕ))
    (h : Headers) (numbers : Numbers) (vias : List Via) (says : StartLine)
    → IsRead start lines line h → numbers_in (draft_with h) ≡ Some numbers
    → Decides (LineCondition start lines rest) (fault.Truncated ∷ [])
    (then_body h rest numbers vias says)
body_decided start lines rest line h numbers vias says is ns =
    step_decides (LineCondition start lines rest) fault.Truncated []
    (body_of rest numbers.content_length) _
    (λ e. (
      h,
      is.headers_are,
      truncated h.content_length numbers.content_length rest
          (are_known h numbers ns).content_length (body_short rest numbers.content_length e),
    ))
    (λ body e. (
      λ has. not_truncated h.content_length numbers.content_length rest body
          (are_known h numbers ns).content_length e
          (only_these (λ g. IsTruncated g.content_length rest) h lines is.headers_are has),
      tt,
    ))

has_other_method : (start : List ℕ) (line : FirstLine (List ℕ)) (method : List ℕ)
    → start_at start ≡ Some line → (own : List ℕ) × (uri : List ℕ) × (line ≡ first.Request own uri)
    × (own ≡ method → ⊥) → HasOtherMethod start method
has_other_method start line method e other = (
  other.0,
  other.1,
  subst (λ (l : FirstLine (List ℕ)). SpellsFirst l start) other.2
      (start_reads.takes start line e),
  other.3,
)

no_other_method : (start : List ℕ) (line : FirstLine (List ℕ)) (method : List ℕ) (says : StartLine)
    → start_at start ≡ Some line → start_line_of line method ≡ Some says
    → HasOtherMethod start method → ⊥
no_other_method start line method says e f other =
    let again = start_reads.again start (first.Request other.0 other.1) other.2 in
    let some : Some line ≡ Some (first.Request other.0 other.1) = sym e ∙ again in
    let same : line ≡ first.Request other.0 other.1 = cc in
    other.3 (own_method line method says other.0 other.1 f same)

start_decided : (start : List ℕ) (lines : List (List ℕ)) (rest : List ℕ) (line : FirstLine (List ℕ))
    (h : Headers) (numbers : Numbers) (vias : List Via) → IsRead start lines line h
    → numbers_in (draft_with h) ≡ Some numbers → Decides (LineCondition start lines rest)
    (fault.MethodMismatch ∷ (fault.Truncated ∷ [])) (then_start line h rest numbers vias)
start_decided start lines rest line h numbers vias is ns =
    step_decides (LineCondition start lines rest) fault.MethodMismatch (fault.Truncated ∷ [])
    (start_line_of line h.cseq.method) _
    (λ e. (
      h,
      is.headers_are,
      has_other_method start line h.cseq.method is.start_is
          (other_method line h.cseq.method e),
    ))
    (λ says e. (
      λ has. no_other_method start line h.cseq.method says is.start_is e
          (only_these (λ g. HasOtherMethod start g.cseq.method) h lines is.headers_are has),
      body_decided start lines rest line h numbers vias says is ns,
    ))

old_branch : (drafts : List ViaDraft) (vias : List Via) → (drafts ≡ [] → ⊥)
    → each via_with drafts ≡ Some vias → are_vias vias ≡ false → HasOldBranch drafts
unfolding are_vias
old_branch [] vias some e old = absurd (some refl)
old_branch (draft ∷ drafts) [] some e old = absurd (via_parameters draft drafts [] e)
old_branch (draft ∷ drafts) (via ∷ vias) some e old =
    ap (λ ps. has_cookie (value_named (codes "branch") ps))
    (via_parameters draft drafts (via ∷ vias) e) ∙ old

no_old_branch : (drafts : List ViaDraft) (vias : List Via) → each via_with drafts ≡ Some vias
    → are_vias vias ≡ true → HasOldBranch drafts → ⊥
unfolding are_vias
no_old_branch [] vias e new old = old
no_old_branch (draft ∷ drafts) [] e new old = via_parameters draft drafts [] e
no_old_branch (draft ∷ drafts) (via ∷ vias) e new old =
    true≢false (sym new ∙ sym (ap (λ ps. has_cookie (value_named (codes "branch") ps))
    (via_parameters draft drafts (via ∷ vias) e)) ∙ old)

good_none : (vias : List Via) (r : Bool) → cond r (Some vias) None ≡ None → r ≡ false
good_none vias true e = absurd cc
good_none vias false e = refl

good_some : (vias good : List Via) (r : Bool) → cond r (Some vias) None ≡ Some good
    → (r ≡ true) × (vias ≡ good)
good_some vias good true e = (refl, cc)
good_some vias good false e = absurd cc

branch_decided : (start : List ℕ) (lines : List (List ℕ)) (rest : List ℕ)
    (line : FirstLine (List ℕ))
    (h : Headers) (numbers : Numbers) (vias : List Via) → IsRead start lines line h
    → numbers_in (draft_with h) ≡ Some numbers → each via_with h.vias ≡ Some vias
    → Decides (LineCondition start lines rest)
    (fault.OldBranch ∷ (fault.MethodMismatch ∷ (fault.Truncated ∷ [])))
    (then_branch line h rest numbers vias)
branch_decided start lines rest line h numbers vias is ns vs =
    step_decides (LineCondition start lines rest) fault.OldBranch
    (fault.MethodMismatch ∷ (fault.Truncated ∷ [])) (good_vias vias) _
    (λ e. (
      h,
      is.headers_are,
      old_branch h.vias vias is.headers_are.2.some_via vs
          (good_none vias (are_vias vias) e),
    ))
    (λ good e. (
      λ has. no_old_branch h.vias vias vs (good_some vias good (are_vias vias) e).0
          (only_these (λ g. HasOldBranch g.vias) h lines is.headers_are has),
      start_decided start lines rest line h numbers good is ns,
    ))

-- reading goes on if the numbers are numbers
assoc : (o : Option (List Via)) (f : List Via → Result Message ReadFault)
    → ((or_fault fault.BadNumber o >>= λ vs. or_fault fault.OldBranch (good_vias vs)) >>= f)
    ≡ (or_fault fault.BadNumber o >>= λ vs. or_fault fault.OldBranch (good_vias vs) >>= f)
assoc None f = refl
assoc (Some vs) f = refl

in_stages : (line : FirstLine (List ℕ)) (h : Headers) (rest : List ℕ)
    → message_of_draft line (draft_with h) rest
    ≡ (or_fault fault.BadNumber (numbers_in (draft_with h)) >>= λ numbers.
    or_fault fault.BadNumber (each via_with h.vias) >>= λ vias.
    then_branch line h rest numbers vias)
unfolding message_of_draft vias_of
in_stages line h rest = by (numbers_in (draft_with h))
  where
    by : (o : Option Numbers) → (or_fault fault.BadNumber o >>= λ numbers.
        (or_fault fault.BadNumber (each via_with h.vias) >>= λ vs.
        or_fault fault.OldBranch (good_vias vs)) >>= λ vias. then_start line h rest numbers vias)
        ≡ (or_fault fault.BadNumber o >>= λ numbers.
        or_fault fault.BadNumber (each via_with h.vias) >>= λ vias.
        then_branch line h rest numbers vias)
    by None = refl
    by (Some numbers) = assoc (each via_with h.vias) (λ vias. then_start line h rest numbers vias)

bad_numbers : (line : FirstLine (List ℕ)) (h : Headers) (rest : List ℕ) → are_numbers h ≡ false
    → message_of_draft line (draft_with h) rest ≡ Err fault.BadNumber
bad_numbers line h rest e =
    in_stages line h rest ∙ by (numbers_in (draft_with h)) (each via_with h.vias) refl refl
  where
    by : (o : Option Numbers) (p : Option (List Via)) → numbers_in (draft_with h) ≡ o
        → each via_with h.vias ≡ p → (or_fault fault.BadNumber o >>= λ numbers.
        or_fault fault.BadNumber p >>= λ vias. then_branch line h rest numbers vias)
        ≡ Err fault.BadNumber
    by None p f g = refl
    by (Some numbers) None f g = refl
    by (Some numbers) (Some vias) f g =
        absurd (true≢false (sym (are_all_numbers h numbers vias f g) ∙ e))

pub headers_decided : (start : List ℕ) (lines : List (List ℕ)) (rest : List ℕ)
    (line : FirstLine (List ℕ))
    (h : Headers) → IsRead start lines line h
    → Decides (LineCondition start lines rest) last_faults
    (message_of_draft line (draft_with h) rest)
headers_decided start lines rest line h is =
    by_bool (are_numbers h) (λ r. are_numbers h ≡ r
    → Decides (LineCondition start lines rest) last_faults
    (message_of_draft line (draft_with h) rest))
    (λ t e. let there = numbers_there h e in
    subst (λ (r : Result Message ReadFault). Decides (LineCondition start lines rest) last_faults r)
    (sym (in_stages line h rest ∙ step_again fault.BadNumber (numbers_in (draft_with h))
    (λ numbers. or_fault fault.BadNumber (each via_with h.vias) >>= λ vias.
    then_branch line h rest numbers vias) there.numbers there.numbers_are
    ∙ step_again fault.BadNumber (each via_with h.vias)
    (λ vias. then_branch line h rest there.numbers vias) there.vias there.vias_are))
    (no_such (LineCondition start lines rest) fault.BadNumber
    (fault.OldBranch ∷ (fault.MethodMismatch ∷ (fault.Truncated ∷ [])))
    (then_branch line h rest there.numbers there.vias)
    (λ has. true≢false (sym e ∙ only_these
    (λ g. are_numbers g ≡ false) h lines is.headers_are has))
    (branch_decided start lines rest line h there.numbers there.vias is there.numbers_are
    there.vias_are)))
    (λ t e. subst (λ (r : Result Message ReadFault).
    Decides (LineCondition start lines rest) last_faults r) (sym (bad_numbers line h rest e))
    (inl (refl, (h, is.headers_are, e))))
    refl
