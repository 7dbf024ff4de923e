-- The one text of parameters: what is written lists the same parameters, one at a time.
use Rattle.std.proofs.Common.{◌≡◌, ◌<◌, ◌≤◌, ◌-◌, take, drop, ℕ, Bool, true, false, List, [], ◌∷◌, ◌++◌, length, Option, Some, None, refl, sym, ap, subst, ◌∙◌, arith, is_some}
use Rattle.std.specs.Prelude.{IsTrue, IfNone, IfSome, unwrap_or}
use Rattle.std.specs.Borrow.{Bor}
use Rattle.std.specs.Str.{str_eq_ignore_ascii_case}
use Rattle.std.specs.List.{AllByRecursion, list_all}
use Rattle.std.specs.Option.{ForSome, option_copied, option_map}
use Rattle.std.proofs.lemmas.Bool.{and_parts, and_from}
use Rattle.std.proofs.lemmas.List.{append-nil, take_all}
use Rattle.std.proofs.lemmas.List.Concat.{flat_map-append}
use Rattle.std.proofs.lemmas.List.Folds.{list_all-append}
use Rattle.std.proofs.lemmas.Option.{none-some, same_Some}
use Rattle.sip_text.specs.Parameter.{is_parameter_value, parameter_from}
use Rattle.sip_text.specs.Token.{is_token}
use Rattle.sip_text.specs.declared.separator.Separator.TheVariants.{Byte}
use Rattle.sip_grammar.specs.ParameterRules.{IsParameter}
use Rattle.sip_grammar.specs.ParameterValues.{parameter_of, one_parameter}
use Rattle.sip_grammar.specs.WrittenParameters.{parameter_text, parameters_text}
use Rattle.sip_text.specs.Pieces.{parameter_now}
use Rattle.sip_text.specs.declared.parameters.ParameterText.{ParameterText}
use Rattle.sip_grammar.specs.ListedParameters.{listed, is_good, is_good_value, IsKept, IsNext, as_parameter, stored}
use Rattle.sip_grammar.specs.Parameters.{parameter_named, with_value}
use Rattle.sip_grammar.specs.Steps.First.{first, first_now}
use Rattle.sip_grammar.specs.declared.parameter.Parameter.{Parameter}
use Rattle.sip_grammar.proofs.Firsts.{first_ends, first_goes_on, first_shorter, first_told, told_first}
use Rattle.sip_grammar.proofs.Passing.{semicolon_marks}
use Rattle.sip_grammar.proofs.WrittenParameters.{all_again, body, body_passes, one_again}

-- ---- the rules

value_rule : (value : Option (List ℕ)) → is_good_value value ≡ true
    → IfSome value (λ v. IsTrue (is_parameter_value v))
value_rule None good = tt
value_rule (Some v) good = good

rule : (p : Parameter) → is_good p ≡ true → IsParameter p
rule p good =
    let both = and_parts (is_token p.name) (is_good_value p.value) good in
    record { name = both.0; value = value_rule p.value both.1 }

pub all_rules : (ps : List Parameter) → list_all is_good ps ≡ true → AllByRecursion IsParameter ps
all_rules [] good = tt
all_rules (p ∷ ps) good =
    let both = and_parts (is_good p) (list_all is_good ps) good in
    (rule p both.0, all_rules ps both.1)

-- ---- what is written lists the same parameters

pub listed_again : (ps : List Parameter) → list_all is_good ps ≡ true
    → listed (parameters_text ps) ≡ ps
unfolding listed
listed_again ps good = ap (λ o. unwrap_or o []) (all_again ps (all_rules ps good))

pub kept_text : (ps : List Parameter) → list_all is_good ps ≡ true → IsKept (parameters_text ps)
kept_text ps good =
    let again = listed_again ps good in
    record { same = ap parameters_text again; rules = ap (list_all is_good) again ∙ good }

-- one text after another
pub record AreJoined (front back : List ℕ) : Type 0 where
  pub list : listed (front ++ back) ≡ listed front ++ listed back
  pub kept : IsKept (front ++ back)

pub joined : (front back : List ℕ) → IsKept front → IsKept back → AreJoined front back
joined front back f b =
    let good : list_all is_good (listed front ++ listed back) ≡ true =
    list_all-append is_good (listed front) (listed back) ∙ and_from _ _ f.rules b.rules in
    let text : parameters_text (listed front ++ listed back) ≡ front ++ back =
    flat_map-append parameter_text (listed front) (listed back)
    ∙ ap (λ (t : List ℕ). t ++ parameters_text (listed back)) f.same
    ∙ ap (λ (t : List ℕ). front ++ t) b.same in
    record {
      list = ap listed (sym text) ∙ listed_again (listed front ++ listed back) good;
      kept = subst IsKept text (kept_text (listed front ++ listed back) good);
    }

alone_text : (p : Parameter) → parameters_text (p ∷ []) ≡ parameter_text p
alone_text p = append-nil (parameter_text p)

pub alone_listed : (p : Parameter) → is_good p ≡ true → listed (parameter_text p) ≡ p ∷ []
alone_listed p good =
    ap listed (sym (alone_text p)) ∙ listed_again (p ∷ []) (and_from _ _ good refl)

pub alone_kept : (p : Parameter) → is_good p ≡ true → IsKept (parameter_text p)
alone_kept p good =
    subst IsKept (alone_text p) (kept_text (p ∷ []) (and_from _ _ good refl))

value_good : (value : Option (Bor (List ℕ)))
    → ForSome value (λ v. IsTrue (is_parameter_value v.now))
    → is_good_value (option_copied value) ≡ true
value_good None good = refl
value_good (Some v) good = good v refl

shown_good : (p : ParameterText) → IsTrue (is_token p.name.now)
    → ForSome p.value (λ v. IsTrue (is_parameter_value v.now)) → is_good (as_parameter p) ≡ true
shown_good p name value = and_from _ _ name (value_good p.value value)

-- a text with one more parameter at the end
pub record IsWith (front back : List ℕ) (p : Parameter) : Type 0 where
  pub list : listed (front ++ back) ≡ listed front ++ p ∷ []
  pub kept : IsKept (front ++ back)

pub one_more : (front : List ℕ) (p : ParameterText) → IsKept front
    → IsTrue (is_token p.name.now) → ForSome p.value (λ v. IsTrue (is_parameter_value v.now))
    → IsWith front (parameter_text (as_parameter p)) (as_parameter p)
one_more front p kept name value =
    let good = shown_good p name value in
    let both = joined front (parameter_text (as_parameter p)) kept (alone_kept (as_parameter p) good) in
    record {
      list = both.list ∙ ap (λ (ps : List Parameter). listed front ++ ps)
          (alone_listed (as_parameter p) good);
      kept = both.kept;
    }

begins_by : (b : ℕ) (bs : List ℕ) (ps : List Parameter) → parameters_text ps ≡ b ∷ bs → 59 ≡ b
unfolding parameter_text
begins_by b bs [] e = absurd cc
begins_by b bs (p ∷ ps) e = cc

pub begins : (b : ℕ) (bs : List ℕ) → IsKept (b ∷ bs) → 59 ∷ bs ≡ b ∷ bs
begins b bs kept =
    ap (λ (x : ℕ). x ∷ bs) (begins_by b bs (listed (b ∷ bs)) kept.same)

pub whole : (text : List ℕ) → IsKept text → 1 ≤ length text
    → 59 ∷ take (length text - 1) (drop 1 text) ≡ text
whole [] kept some = absurd (omega arith)
whole (b ∷ bs) kept some =
    ap (λ (xs : List ℕ). 59 ∷ xs) (take_all (length (b ∷ bs) - 1) bs (omega arith))
    ∙ begins b bs kept

-- ---- the first of them

-- what follows the first semicolon of these
abbrev behind_first : List Parameter → Option (List ℕ)
behind_first [] = None
behind_first (p ∷ ps) = Some (body p ++ parameters_text ps)

stored_behind : (ps : List Parameter) → stored (behind_first ps) ≡ parameters_text ps
unfolding parameter_text
stored_behind [] = refl
stored_behind (p ∷ ps) = refl

first_again : (p : Parameter) (ps : List Parameter) → IsParameter p
    → first (Byte 59) one_parameter (body p ++ parameters_text ps) ≡ Some (p, behind_first ps)
unfolding parameter_text
first_again p [] is =
    ap (first (Byte 59) one_parameter) (append-nil (body p))
    ∙ first_ends (Byte 59) one_parameter (body p) p
    (body_passes 59 semicolon_marks p.name p.value is.name is.value)
    (one_again p.name p.value is.name is.value)
first_again p (q ∷ qs) is =
    first_goes_on (Byte 59) one_parameter (body p) 59 (body q ++ parameters_text qs) p
    (body_passes 59 semicolon_marks p.name p.value is.name is.value) refl
    (one_again p.name p.value is.name is.value)

-- the first parameter of a text that is kept, and the text after it
pub record IsFirst (behind : List ℕ) (p : Parameter) (after : Option (List ℕ)) : Type 0 where
  pub found : first (Byte 59) one_parameter behind ≡ Some (p, after)
  pub list : listed (59 ∷ behind) ≡ p ∷ listed (stored after)
  pub kept : IsKept (stored after)

text_behind : (p : Parameter) (ps : List Parameter) (behind : List ℕ)
    → parameters_text (p ∷ ps) ≡ 59 ∷ behind → body p ++ parameters_text ps ≡ behind
unfolding parameter_text
text_behind p ps behind e = cc

first_by : (behind : List ℕ) (ps : List Parameter) → listed (59 ∷ behind) ≡ ps
    → parameters_text ps ≡ 59 ∷ behind → list_all is_good ps ≡ true
    → (p : Parameter) × (after : Option (List ℕ)) × IsFirst behind p after
first_by behind [] list text good = absurd cc
first_by behind (p ∷ ps) list text good =
    let both = and_parts (is_good p) (list_all is_good ps) good in (
      p,
      behind_first ps,
      record {
        found = ap (first (Byte 59) one_parameter) (sym (text_behind p ps behind text))
            ∙ first_again p ps (rule p both.0);
        list = list ∙ ap (λ (qs : List Parameter). p ∷ qs)
            (sym (ap listed (stored_behind ps) ∙ listed_again ps both.1));
        kept = subst IsKept (sym (stored_behind ps)) (kept_text ps both.1);
      },
    )

pub first_kept : (behind : List ℕ) → IsKept (59 ∷ behind)
    → (p : Parameter) × (after : Option (List ℕ)) × IsFirst behind p after
first_kept behind kept = first_by behind (listed (59 ∷ behind)) refl kept.same kept.rules

pub first_is : (behind : List ℕ) → IsKept (59 ∷ behind) → (p : Parameter)
    → (after : Option (List ℕ)) → first (Byte 59) one_parameter behind ≡ Some (p, after)
    → IsFirst behind p after
first_is behind kept p after found =
    let there = first_kept behind kept in
    let same = same_Some (there.0, there.1) (p, after) (sym there.2.found ∙ found) in
    subst (λ (x : Parameter × Option (List ℕ)). IsFirst behind x.0 x.1) same there.2

pub first_is_some : (behind : List ℕ) → IsKept (59 ∷ behind)
    → first (Byte 59) one_parameter behind ≡ None → ⊥
first_is_some behind kept none =
    let there = first_kept behind kept in
    none-some (there.0, there.1) (sym none ∙ there.2.found)

-- ---- from one to the next

abbrev Found : Type 0
Found = ParameterText × Option (Bor (List ℕ))

read_so : (behind : List ℕ) (result : Option Found)
    → option_map (first_now parameter_now) result ≡ first (Byte 59) parameter_from behind
    → first (Byte 59) one_parameter behind
    ≡ option_map (told_first parameter_of) (option_map (first_now parameter_now) result)
read_so behind result exact =
    first_told (Byte 59) parameter_of parameter_from behind
    ∙ ap (option_map (told_first parameter_of)) (sym exact)

pub next_none : (P : Type 0) (behind : List ℕ) → IsKept (59 ∷ behind) → (result : Option Found)
    → option_map (first_now parameter_now) result ≡ first (Byte 59) parameter_from behind
    → IfNone result P
next_none P behind kept None exact = absurd (first_is_some behind kept (read_so behind None exact))
next_none P behind kept (Some found) exact = tt

next_shorter : (behind : List ℕ) (p : Parameter) (after : Option (List ℕ))
    → first (Byte 59) one_parameter behind ≡ Some (p, after)
    → length (stored after) < length (59 ∷ behind)
next_shorter behind p None found = omega arith
next_shorter behind p (Some after) found =
    let less = first_shorter (Byte 59) one_parameter behind p after found in omega arith

pub next_some : (behind : List ℕ) → IsKept (59 ∷ behind) → (result : Option Found)
    → option_map (first_now parameter_now) result ≡ first (Byte 59) parameter_from behind
    → IfSome result (λ found. IsNext (59 ∷ behind) (as_parameter found.0) (stored (option_copied found.1)))
next_some behind kept None exact = tt
next_some behind kept (Some found) exact =
    let there = read_so behind (Some found) exact in
    let is = first_is behind kept (as_parameter found.0) (option_copied found.1) there in
    record {
      list = is.list;
      kept = is.kept;
      shorter = next_shorter behind (as_parameter found.0) (option_copied found.1) there;
    }

pub named_here : (name text : List ℕ) (p : Parameter) (after : List ℕ) → IsNext text p after
    → str_eq_ignore_ascii_case p.name name ≡ true → parameter_named name (listed text) ≡ Some p
named_here name text p after next same =
    ap (parameter_named name) next.list ∙ (rw same refl)

pub named_further : (name text : List ℕ) (p : Parameter) (after : List ℕ) → IsNext text p after
    → str_eq_ignore_ascii_case p.name name ≡ false
    → parameter_named name (listed text) ≡ parameter_named name (listed after)
named_further name text p after next other =
    ap (parameter_named name) next.list ∙ (rw other refl)

pub value_here : (name value text : List ℕ) (p : Parameter) (after : List ℕ) → IsNext text p after
    → str_eq_ignore_ascii_case p.name name ≡ true → with_value name value (listed text)
    ≡ (record { name = p.name; value = Some value }) ∷ listed after
value_here name value text p after next same =
    ap (with_value name value) next.list ∙ (rw same refl)

pub value_further : (name value text : List ℕ) (p : Parameter) (after : List ℕ)
    → IsNext text p after → str_eq_ignore_ascii_case p.name name ≡ false
    → with_value name value (listed text) ≡ p ∷ with_value name value (listed after)
value_further name value text p after next other =
    ap (with_value name value) next.list ∙ (rw other refl)

-- a parameter of this name and value is added at the end
abbrev IsAdded : List ℕ → List ℕ → List Parameter → Type 0
IsAdded name value ps =
    with_value name value ps ≡ ps ++ (record { name = name; value = Some value }) ∷ []

added_behind : (name value : List ℕ) (p : Parameter) (ps : List Parameter) (r : Bool)
    → str_eq_ignore_ascii_case p.name name ≡ r → parameter_named name (p ∷ ps) ≡ None
    → (parameter_named name ps ≡ None → IsAdded name value ps) → IsAdded name value (p ∷ ps)
added_behind name value p ps true same none later =
    absurd (none-some p (sym none ∙ (rw same refl)))
added_behind name value p ps false other none later =
    rw other (ap (λ (qs : List Parameter). p ∷ qs) (later (rw other at none)))

none_is_added : (name value : List ℕ) (ps : List Parameter) → parameter_named name ps ≡ None
    → IsAdded name value ps
none_is_added name value [] none = refl
none_is_added name value (p ∷ ps) none =
    added_behind name value p ps (str_eq_ignore_ascii_case p.name name) refl none
    (none_is_added name value ps)

pub added : (name value : List ℕ) (ps : List Parameter) (found : Option ParameterText)
    → option_map as_parameter found ≡ parameter_named name ps → is_some found ≡ false
    → IsAdded name value ps
added name value ps None e none = none_is_added name value ps (sym e)
added name value ps (Some p) e none = absurd cc
