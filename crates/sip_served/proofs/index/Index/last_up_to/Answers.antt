-- `Index::last_up_to` gives the last number of the key up to the given one.
use Rattle.std.proofs.Common.{◌≡◌, ◌≤◌, ℕ, Option, false, sym, ap, subst, ◌∙◌}
use Rattle.std.specs.Prelude.{IfNone}
use Rattle.std.specs.Ordering.{is_eq}
use Rattle.sip_served.specs.Steps.Index.{IsIndexOf, is_key_of}
use Rattle.sip_served.proofs.Indexes.{none_up_to, last_of_key, none_after, before_key}
use Rattle.sip_served.proofs.index.Index.last_up_to.Goals as goal

pub returns-in_err-key-clause-none : goal.returns-in_err-key-clause-none
returns-in_err-key-clause-none g c = λ keys index.
    let cmp = g.K.Ord.cmp in
    let most = c.args.most.now in
    let ranged = c.range.ensures.in_range tt in
    subst (λ (r : Option ℕ). IfNone r ((m : ℕ) → m ≤ most.1
    → is_key_of cmp most.0 (keys m) ≡ false)) (sym c.from_residual.ensures)
    (none_up_to g.met.K.Ord.total keys c.self.inside.pairs.keys
    (subst (IsIndexOf cmp keys) (sym c.self.view_is) index) most
    (λ q within. ranged.5 c.in_err-key.ensures.steps.0 q (tt, within)))

pub returns-then-is_eq-clause-number : goal.returns-then-is_eq-clause-number
returns-then-is_eq-clause-number g c = λ keys index.
    let cmp = g.K.Ord.cmp in
    let most = c.args.most.now in
    let last = c.in_ok-key.field-0.now in
    let ranged = c.range.ensures.in_range tt in
    let there = ranged.3 last c.next_back.new.self c.in_ok-key.ensures.steps in
    last_of_key g.met.K.Ord.total keys c.self.inside.pairs.keys
    (subst (IsIndexOf cmp keys) (sym c.self.view_is) index) most last there.0.1
    (λ q within has.
    ranged.4 last c.next_back.new.self c.in_ok-key.ensures.steps q (tt, within) has)
    there.1 (sym (ap is_eq c.cmp.ensures) ∙ sym c.is_eq.ensures ∙ c.if-is_eq.true)

pub returns-then-is_eq-clause-none_after : goal.returns-then-is_eq-clause-none_after
returns-then-is_eq-clause-none_after g c = λ keys index.
    let cmp = g.K.Ord.cmp in
    let most = c.args.most.now in
    let last = c.in_ok-key.field-0.now in
    let ranged = c.range.ensures.in_range tt in
    let there = ranged.3 last c.next_back.new.self c.in_ok-key.ensures.steps in
    none_after g.met.K.Ord.total keys c.self.inside.pairs.keys
    (subst (IsIndexOf cmp keys) (sym c.self.view_is) index) most last there.0.1
    (λ q within has.
    ranged.4 last c.next_back.new.self c.in_ok-key.ensures.steps q (tt, within) has)
    (sym (ap is_eq c.cmp.ensures) ∙ sym c.is_eq.ensures ∙ c.if-is_eq.true)

pub returns-else-is_eq-clause-none : goal.returns-else-is_eq-clause-none
returns-else-is_eq-clause-none g c = λ keys index.
    let cmp = g.K.Ord.cmp in
    let most = c.args.most.now in
    let last = c.in_ok-key.field-0.now in
    let ranged = c.range.ensures.in_range tt in
    let there = ranged.3 last c.next_back.new.self c.in_ok-key.ensures.steps in
    before_key g.met.K.Ord.total keys c.self.inside.pairs.keys
    (subst (IsIndexOf cmp keys) (sym c.self.view_is) index) most last there.0.1
    (λ q within has.
    ranged.4 last c.next_back.new.self c.in_ok-key.ensures.steps q (tt, within) has)
    (sym (ap is_eq c.cmp.ensures) ∙ sym c.is_eq.ensures ∙ c.if-is_eq.false)
