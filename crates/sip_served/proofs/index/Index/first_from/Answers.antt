-- `Index::first_from` gives the first number of the key from the given one on.
use Rattle.std.proofs.Common.{◌≡◌, ◌≤◌, ℕ, List, Option, false, sym, ap, subst, ◌∙◌}
use Rattle.std.specs.Prelude.{IfNone, IfSome}
use Rattle.std.specs.BTreeSet.{IsKeyInRange}
use Rattle.std.specs.BTreeMap.Range.{IsLeBy}
use Rattle.std.specs.List.{slice_get}
use Rattle.std.specs.Ordering.{is_eq}
use Rattle.std.specs.declared.ops.Bound.TheVariants.{Included, Unbounded}
use Rattle.sip_served.specs.Steps.Index.{IsIndexOf, is_key_of, pair_cmp}
use Rattle.sip_served.proofs.Indexes.{none_from, first_of_key, none_before, past_key}
use Rattle.sip_served.proofs.index.Index.first_from.Goals as goal

pub returns-in_err-key-clause-none : goal.returns-in_err-key-clause-none
returns-in_err-key-clause-none g c = λ keys index.
    let cmp = g.K.Ord.cmp in
    let least = c.args.least.now in
    let ranged = c.range.ensures.in_range tt in
    subst (λ (r : Option ℕ). IfNone r ((m : ℕ) → least.1 ≤ m
    → is_key_of cmp least.0 (keys m) ≡ false)) (sym c.from_residual.ensures)
    (none_from g.met.K.Ord.total keys c.self.inside.pairs.keys
    (subst (IsIndexOf cmp keys) (sym c.self.view_is) index) least
    (λ q within. ranged.5 c.in_err-key.ensures.steps.0 q (within, tt)))

pub returns-then-is_eq-clause-number : goal.returns-then-is_eq-clause-number
returns-then-is_eq-clause-number g c = λ keys index.
    let cmp = g.K.Ord.cmp in
    let least = c.args.least.now in
    let first = c.in_ok-key.field-0.now in
    let ranged = c.range.ensures.in_range tt in
    let there =
    subst (λ (r : List _). IfSome (slice_get r 0)
    (IsKeyInRange (pair_cmp cmp) (Included least) Unbounded c.self.inside.pairs))
    c.in_ok-key.ensures.steps ranged.1 in
    first_of_key g.met.K.Ord.total keys c.self.inside.pairs.keys
    (subst (IsIndexOf cmp keys) (sym c.self.view_is) index) least first there.0.0
    (λ q within has. subst (λ (r : List _). IfSome (slice_get r 0)
    (λ k. IsLeBy (pair_cmp cmp) k q))
    c.in_ok-key.ensures.steps (ranged.2 q (within, tt) has))
    there.1 (sym (ap is_eq c.cmp.ensures) ∙ sym c.is_eq.ensures ∙ c.if-is_eq.true)

pub returns-then-is_eq-clause-none_before : goal.returns-then-is_eq-clause-none_before
returns-then-is_eq-clause-none_before g c = λ keys index.
    let cmp = g.K.Ord.cmp in
    let least = c.args.least.now in
    let first = c.in_ok-key.field-0.now in
    let ranged = c.range.ensures.in_range tt in
    let there =
    subst (λ (r : List _). IfSome (slice_get r 0)
    (IsKeyInRange (pair_cmp cmp) (Included least) Unbounded c.self.inside.pairs))
    c.in_ok-key.ensures.steps ranged.1 in
    none_before g.met.K.Ord.total keys c.self.inside.pairs.keys
    (subst (IsIndexOf cmp keys) (sym c.self.view_is) index) least first there.0.0
    (λ q within has. subst (λ (r : List _). IfSome (slice_get r 0)
    (λ k. IsLeBy (pair_cmp cmp) k q))
    c.in_ok-key.ensures.steps (ranged.2 q (within, tt) has))
    (sym (ap is_eq c.cmp.ensures) ∙ sym c.is_eq.ensures ∙ c.if-is_eq.true)

pub returns-else-is_eq-clause-none : goal.returns-else-is_eq-clause-none
returns-else-is_eq-clause-none g c = λ keys index.
    let cmp = g.K.Ord.cmp in
    let least = c.args.least.now in
    let first = c.in_ok-key.field-0.now in
    let ranged = c.range.ensures.in_range tt in
    let there =
    subst (λ (r : List _). IfSome (slice_get r 0)
    (IsKeyInRange (pair_cmp cmp) (Included least) Unbounded c.self.inside.pairs))
    c.in_ok-key.ensures.steps ranged.1 in
    past_key g.met.K.Ord.total keys c.self.inside.pairs.keys
    (subst (IsIndexOf cmp keys) (sym c.self.view_is) index) least first there.0.0
    (λ q within has. subst (λ (r : List _). IfSome (slice_get r 0)
    (λ k. IsLeBy (pair_cmp cmp) k q))
    c.in_ok-key.ensures.steps (ranged.2 q (within, tt) has))
    (sym (ap is_eq c.cmp.ensures) ∙ sym c.is_eq.ensures ∙ c.if-is_eq.false)
