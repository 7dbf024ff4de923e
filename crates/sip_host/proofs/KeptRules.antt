-- Fields that keep their rules, and the first that doesn't.
use Rattle.std.proofs.Common.{◌≡◌, ◌<◌, ◌≤◌, ◌+◌, ℕ, Bool, true, false, List, [], ◌∷◌, None, Some, cond, drop, length, get_or, refl, sym, ap, ◌∙◌}
use Rattle.std.proofs.lemmas.List.{at_drop_more, at_drop_all}
use Rattle.sip_host.specs.Asking.{AllKept, first_bad}
use Rattle.sip_host.specs.declared.field.Field.{Field}

-- if no field is the first that doesn't, all keep their rules
pub kept_all : (rules : List (Field × Bool)) → first_bad rules ≡ None → AllKept rules
kept_all [] none = tt
kept_all ((name, true) ∷ rules) none = (refl, kept_all rules none)
kept_all ((name, false) ∷ rules) none = absurd cc

-- the first from a place on is the one there, or one after it
pub bad_from : (rules : List (Field × Bool)) (i : ℕ) (rule : Field × Bool) → i < length rules
    → rule ≡ get_or rules i rule
    → first_bad (drop i rules) ≡ cond rule.1 (first_bad (drop (i + 1) rules)) (Some rule.0)
bad_from rules i rule within is = at_drop_more first_bad rules i rule within
    ∙ ap (λ r. cond r.1 (first_bad (drop (i + 1) rules)) (Some r.0)) (sym is)

pub none_after : (rules : List (Field × Bool)) (i : ℕ) → length rules ≤ i
    → first_bad (drop i rules) ≡ None
none_after rules i past = at_drop_all first_bad rules i past
