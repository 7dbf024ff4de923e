-- The fault of a draft is the first fault of its header lines.
use Rattle.std.proofs.Common.{◌≡◌, ◌<◌, ◌⊎◌, inl, inr, ℕ, Bool, true, false, ◌||◌, ltb, List, [], ◌∷◌, ◌++◌, map, length, cond, Option, Some, None, Result, Ok, Err, refl, sym, ap, subst, ◌∙◌, arith}
use Rattle.std.specs.Prelude.{is_none}
use Rattle.std.specs.List.{AllZip, AllByRecursion, list_any}
use Rattle.std.proofs.lemmas.Bool.{or_parts, ltb-false, ltb-true}
use Rattle.sip_grammar.specs.HeaderEntry.{entry, headers, headers_where, is_needed, is_single}
use Rattle.sip_grammar.specs.declared.header_name.HeaderName.{HeaderName}
use Rattle.sip_message.specs.declared.fault.ReadFault.{ReadFault}
use Rattle.sip_message.specs.declared.fault.ReadFault.TheVariants as fault
use Rattle.sip_headers.specs.Complete.{draft_with, first_fault, unless_fault, faultless}
use Rattle.sip_headers.specs.HeaderFields.{draft_of}
use Rattle.sip_headers.specs.Faults.{Decides, HasBadValue, HasBadHeader, HeaderCondition, header_faults}
use Rattle.sip_message.specs.declared.header.Header.{Header}
use Rattle.sip_headers.specs.Headers.{AreHeaders, Headers, IsOther}
use Rattle.sip_headers.specs.HeaderLine.{IsHeaderLine}
use Rattle.sip_headers.specs.Presence.{presence_of, is_unfit, has_bad_header, missing, repeated}
use Rattle.sip_headers.specs.Section.{has_bad_line, has_no_values, values}
use Rattle.sip_headers.specs.declared.header_fields.HeaderFields.{HeaderFields}
use Rattle.sip_headers.proofs.Drafts.{is_draft}
use Rattle.sip_headers.proofs.FaultOrder.{first_more, first_behind, none_both, told_first, told_none, Tells, found_first, found_nothing}
use Rattle.sip_headers.proofs.FaultlessDrafts.{fault_from}
use Rattle.sip_headers.proofs.HeaderSets.{complete_headers}
use Rattle.sip_headers.proofs.KeptHeaders.{lines_are, no_good_lines, others_list_from}
use Rattle.sip_headers.proofs.NamedLines.{IsSomeHeaderLine, named_of, same_others, same_values}
use Rattle.sip_headers.proofs.OthersFit.{others_fit}
use Rattle.sip_headers.proofs.Presences.{fits, missing_is, repeated_is}
use Rattle.sip_headers.proofs.UnfitValues.{unfit_value, fit_value}

-- ---- the conditions, by the values that are found line by line

abbrev BadByLine : List (List ℕ) → Type 0
BadByLine lines =
    (AllByRecursion IsSomeHeaderLine lines → ⊥)
    ⊎ ((header : HeaderName) × HasBadValue header (values header lines))

abbrev ByLine : List (List ℕ) → ReadFault → Type 0
ByLine lines fault.BadHeader = BadByLine lines
ByLine lines (fault.Missing header) = values header lines ≡ []
ByLine lines (fault.Repeated header) = 1 < length (values header lines)
ByLine lines other = ⊥

-- ---- missing and repeated

no_values : (vs : List (List ℕ)) → has_no_values vs ≡ true → vs ≡ []
no_values [] e = refl
no_values (v ∷ vs) e = absurd cc

some_values : (vs : List (List ℕ)) → has_no_values vs ≡ false → vs ≡ [] → ⊥
some_values [] e none = absurd cc
some_values (v ∷ vs) e none = absurd cc

missing_tells : (lines : List (List ℕ))
    → Tells (ByLine lines) fault.Missing (λ h. has_no_values (values h lines))
missing_tells lines = record {
  holds = λ h e. no_values (values h lines) e;
  fails = λ h e none. some_values (values h lines) e none;
}

repeated_tells : (lines : List (List ℕ))
    → Tells (ByLine lines) fault.Repeated (λ h. ltb 1 (length (values h lines)))
repeated_tells lines = record {
  holds = λ h e. ltb-true 1 (length (values h lines)) e;
  fails = λ h e two. let few = ltb-false 1 (length (values h lines)) e in omega (arith, few, two);
}

-- ---- BadHeader

or_cases : (a b : Bool) → (a || b) ≡ true → (a ≡ true) ⊎ (b ≡ true)
or_cases true b e = inl refl
or_cases false b e = inr e

any_by : {A : Type 0} (x : A) (b : Bool) (rest : Bool) (p : A → Bool) → p x ≡ b
    → (rest ≡ true → (y : A) × (p y ≡ true)) → (b || rest) ≡ true → (y : A) × (p y ≡ true)
any_by x true rest p is more e = (x, is)
any_by x false rest p is more e = more e

any_one : {A : Type 0} (p : A → Bool) (xs : List A) → list_any p xs ≡ true → (y : A) × (p y ≡ true)
any_one p [] e = absurd cc
any_one p (x ∷ xs) e = any_by x (p x) (list_any p xs) p refl (any_one p xs) e

-- if all lines are header lines, none of the other headers is lost
none_lost : (lines : List (List ℕ)) → has_bad_line lines ≡ false
    → is_none (draft_of lines).others ≡ true → ⊥
none_lost lines good none =
    let named = named_of lines (lines_are lines good) in
    others_list_from lines
    (subst (λ others. AllByRecursion (λ other. (header : Header) × IsOther header other) others)
    (sym (same_others named.0 lines named.1)) (others_fit named.0 lines named.1)) none

lost_by : (lines : List (List ℕ)) (b : Bool) → has_bad_line lines ≡ b
    → is_none (draft_of lines).others ≡ true → BadByLine lines
lost_by lines true e none = inl (no_good_lines lines e)
lost_by lines false e none = absurd (none_lost lines e none)

bad_true : (lines : List (List ℕ)) → has_bad_header (draft_of lines) ≡ true → BadByLine lines
bad_true lines e =
    let d = draft_of lines in
    elim (or_cases _ _ e) [
      | inl front ↦ elim (or_cases _ _ front) [
        | inl bad ↦ inl (no_good_lines lines (sym (is_draft lines).bad_is ∙ bad))
        | inr none ↦ lost_by lines (has_bad_line lines) refl none
      ]
      | inr unfit ↦
          let one = any_one (λ header. is_unfit (presence_of d header)) headers unfit in
          inr (one.0, unfit_value d lines (is_draft lines) one.0 one.1)
    ]

bad_false : (lines : List (List ℕ)) → has_bad_header (draft_of lines) ≡ false → BadByLine lines
    → ⊥
bad_false lines e (inl some) =
    let flags = or_parts _ _ (or_parts _ _ e).0 in
    some (lines_are lines (sym (is_draft lines).bad_is ∙ flags.0))
bad_false lines e (inr one) =
    fit_value (draft_of lines) lines (is_draft lines) (fits (draft_of lines) e) one.0 one.1

-- ---- all of them

abbrev missing_faults : List ReadFault
missing_faults = map fault.Missing (headers_where is_needed)

abbrev repeated_faults : List ReadFault
repeated_faults = map fault.Repeated (headers_where is_single)

decided_from : (lines : List (List ℕ)) (b : Bool) (m r : Option HeaderName)
    → has_bad_header (draft_of lines) ≡ b → missing (draft_of lines) ≡ m
    → repeated (draft_of lines) ≡ r
    → Decides (ByLine lines) header_faults
    (unless_fault (cond b (Some fault.BadHeader) (first_fault m r)) (draft_of lines))
decided_from lines true m r bad none single = inl (refl, bad_true lines bad)
decided_from lines false (Some h) r bad none single =
    inr (
      bad_false lines bad,
      first_more (ByLine lines) missing_faults repeated_faults
          (fault.Missing h) (found_first (ByLine lines) fault.Missing
          (λ x. is_needed (entry x).kind) (λ x. has_no_values (values x lines))
          (missing_tells lines) headers h (sym (missing_is lines bad) ∙ none)),
    )
decided_from lines false None (Some h) bad none single =
    let no_missing = found_nothing (ByLine lines) fault.Missing
    (λ x. is_needed (entry x).kind) (λ x. has_no_values (values x lines))
    (missing_tells lines) headers (sym (missing_is lines bad) ∙ none) in
    inr (
      bad_false lines bad,
      first_behind (ByLine lines) missing_faults repeated_faults
          (fault.Repeated h) no_missing (found_first (ByLine lines) fault.Repeated
          (λ x. is_single (entry x).kind) (λ x. ltb 1 (length (values x lines)))
          (repeated_tells lines) headers h (sym (repeated_is lines bad) ∙ single)),
    )
decided_from lines false None None bad none single =
    let no_missing = found_nothing (ByLine lines) fault.Missing
    (λ x. is_needed (entry x).kind) (λ x. has_no_values (values x lines))
    (missing_tells lines) headers (sym (missing_is lines bad) ∙ none) in
    let no_repeated = found_nothing (ByLine lines) fault.Repeated
    (λ x. is_single (entry x).kind) (λ x. ltb 1 (length (values x lines)))
    (repeated_tells lines) headers (sym (repeated_is lines bad) ∙ single) in (
      bad_false lines bad,
      none_both (ByLine lines) missing_faults repeated_faults no_missing no_repeated,
    )

decided_by_line : (lines : List (List ℕ))
    → Decides (ByLine lines) header_faults (faultless (draft_of lines))
decided_by_line lines =
    let d = draft_of lines in
    subst (λ o. Decides (ByLine lines) header_faults (unless_fault o d))
    (sym (fault_from d (has_bad_header d) (missing d) (repeated d) refl refl refl))
    (decided_from lines (has_bad_header d) (missing d) (repeated d) refl refl refl)

-- ---- the conditions, by the names of the lines

abbrev Same : List (List ℕ) → ReadFault → Type 0
Same lines f =
    (ByLine lines f → HeaderCondition lines f) × (HeaderCondition lines f → ByLine lines f)

module _ (lines : List (List ℕ)) (named : List (List ℕ × List ℕ))
    (all : AllZip IsHeaderLine named lines) where
  same_missing : (headers : List HeaderName)
      → AllByRecursion (Same lines) (map fault.Missing headers)
  same_missing [] = tt
  same_missing (header ∷ headers) = (
    (
      λ none. (named, all, sym (same_values named lines all header) ∙ none),
      λ found. same_values found.0 lines found.1 header ∙ found.2,
    ),
    same_missing headers,
  )

  same_repeated : (headers : List HeaderName)
      → AllByRecursion (Same lines) (map fault.Repeated headers)
  same_repeated [] = tt
  same_repeated (header ∷ headers) = (
    (
      λ two. (
        named,
        all,
        subst (λ (vs : List (List ℕ)). 1 < length vs)
            (same_values named lines all header) two,
      ),
      λ found. subst (λ (vs : List (List ℕ)). 1 < length vs)
          (sym (same_values found.0 lines found.1 header)) found.2,
    ),
    same_repeated headers,
  )

same_both : (lines : List (List ℕ)) (fs gs : List ReadFault) → AllByRecursion (Same lines) fs
    → AllByRecursion (Same lines) gs → AllByRecursion (Same lines) (fs ++ gs)
same_both lines [] gs all more = more
same_both lines (f ∷ fs) gs all more = (all.0, same_both lines fs gs all.1 more)

bad_by_line : (lines : List (List ℕ)) → HasBadHeader lines → BadByLine lines
bad_by_line lines (inl some) = inl some
bad_by_line lines (inr found) =
    inr (
      found.2.0,
      subst (λ (vs : List (List ℕ)). HasBadValue found.2.0 vs)
          (sym (same_values found.0 lines found.1 found.2.0)) found.2.1,
    )

bad_by_name : (lines : List (List ℕ)) (b : Bool) → has_bad_line lines ≡ b → BadByLine lines
    → HasBadHeader lines
bad_by_name lines true e bad = inl (no_good_lines lines e)
bad_by_name lines false e (inl some) = inl some
bad_by_name lines false e (inr found) =
    let named = named_of lines (lines_are lines e) in
    let bad = subst (λ (vs : List (List ℕ)). HasBadValue found.0 vs)
    (same_values named.0 lines named.1 found.0) found.1 in
    inr (named.0, named.1, (found.0, bad))

-- after BadHeader all lines are header lines
behind : (lines : List (List ℕ)) (b : Bool) → has_bad_line lines ≡ b → (BadByLine lines → ⊥)
    → AllByRecursion (Same lines) (missing_faults ++ repeated_faults)
behind lines true e good = absurd (good (inl (no_good_lines lines e)))
behind lines false e good =
    let named = named_of lines (lines_are lines e) in
    same_both lines missing_faults repeated_faults
    (same_missing lines named.0 named.1 (headers_where is_needed))
    (same_repeated lines named.0 named.1 (headers_where is_single))

by_names : {X : Type 0} (lines : List (List ℕ)) (r : Result X ReadFault)
    → Decides (ByLine lines) header_faults r → Decides (HeaderCondition lines) header_faults r
by_names lines (Ok x) none = (
  λ bad. none.0 (bad_by_line lines bad),
  told_none (ByLine lines) (HeaderCondition lines) (missing_faults ++ repeated_faults)
      (behind lines (has_bad_line lines) refl none.0) none.1,
)
by_names lines (Err e) (inl first) =
    inl (first.0, bad_by_name lines (has_bad_line lines) refl first.1)
by_names lines (Err e) (inr more) =
    inr (
      λ bad. more.0 (bad_by_line lines bad),
      told_first (ByLine lines) (HeaderCondition lines) (missing_faults ++ repeated_faults) e
          (behind lines (has_bad_line lines) refl more.0) more.1,
    )

pub decided : (lines : List (List ℕ))
    → Decides (HeaderCondition lines) header_faults (faultless (draft_of lines))
decided lines = by_names lines (faultless (draft_of lines)) (decided_by_line lines)

-- a draft of lines that has no fault, and what it holds
abbrev Holds : List (List ℕ) → HeaderFields → Type 0
Holds lines d = (h : Headers) × AreHeaders h lines × (d ≡ draft_with h)

found_from : (lines : List (List ℕ)) (d : HeaderFields) (b : Bool) (m r : Option HeaderName)
    → has_bad_header (draft_of lines) ≡ b → missing (draft_of lines) ≡ m
    → repeated (draft_of lines) ≡ r
    → unless_fault (cond b (Some fault.BadHeader) (first_fault m r)) (draft_of lines) ≡ Ok d
    → Holds lines d
found_from lines d true m r bad none single e = absurd cc
found_from lines d false (Some n) r bad none single e = absurd cc
found_from lines d false None (Some n) bad none single e = absurd cc
found_from lines d false None None bad none single e =
    subst (λ (f : HeaderFields). Holds lines f) (same_Ok (draft_of lines) d e)
    (complete_headers lines bad none single)
  where
    same_Ok : (x y : HeaderFields) → ◌≡◌ {A = Result HeaderFields ReadFault} (Ok x) (Ok y) → x ≡ y
    same_Ok x y p = cc

pub headers_take : (lines : List (List ℕ)) (d : HeaderFields) → faultless (draft_of lines) ≡ Ok d
    → Holds lines d
headers_take lines d e =
    let f = draft_of lines in
    found_from lines d (has_bad_header f) (missing f) (repeated f) refl refl refl
    (ap (λ o. unless_fault o f)
    (sym (fault_from f (has_bad_header f) (missing f) (repeated f) refl refl refl)) ∙ e)
