-- `read_keyword` reads what a line says by its keyword.
use Rattle.std.proofs.Common.{◌≡◌, Option, Some, None, ap, sym, ◌∙◌, MatchOption, IsSomeAnd}
use Rattle.std.specs.Option.{option_map}
use Rattle.sip_files.specs.declared.event_line.EventLine.TheVariants as line
use Rattle.sip_files.specs.Steps.ReadLine.{keyword_line}
use Rattle.sip_files.proofs.event_line.read_keyword.Goals as goal

-- what `map` gives with a function that gives `f`
mapped : {A B : Type 0} (f : A → B) (o : Option A) (r : Option B)
    → MatchOption o (r ≡ None) (λ x. IsSomeAnd r (λ y. y ≡ f x)) → r ≡ option_map f o
mapped f None r e = e
mapped f (Some x) (Some y) e = ap (λ z. Some z) e
mapped f (Some x) None e = absurd e

pub returns-then-eq : goal.returns-then-eq
unfolding keyword_line
returns-then-eq c =
    let is_local = rw c.as_slice.ensures at (sym c.eq.ensures ∙ c.if-eq.true) in
    rw is_local (mapped line.Local _ _ c.map.ensures.cases
    ∙ ap (option_map line.Local) c.read_address.ensures)

pub returns-then-eq-2 : goal.returns-then-eq-2
unfolding keyword_line
returns-then-eq-2 c =
    let not_local = rw c.as_slice.ensures at (sym c.eq.ensures ∙ c.if-eq.false) in
    let is_seed = rw c.as_slice-2.ensures at (sym c.eq-2.ensures ∙ c.if-eq-2.true) in
    rw (not_local, is_seed) (mapped line.Seed _ _ c.map-then-eq-2.ensures.cases
    ∙ ap (option_map line.Seed) c.read_seed.ensures)

pub returns-then-eq-3 : goal.returns-then-eq-3
unfolding keyword_line
returns-then-eq-3 c =
    let not_local = rw c.as_slice.ensures at (sym c.eq.ensures ∙ c.if-eq.false) in
    let not_seed = rw c.as_slice-2.ensures at (sym c.eq-2.ensures ∙ c.if-eq-2.false) in
    let is_first = rw c.as_slice-3.ensures at (sym c.eq-3.ensures ∙ c.if-eq-3.true) in
    rw (not_local, not_seed, is_first)
    (mapped line.First _ _ c.map-then-eq-3.ensures.cases
    ∙ ap (option_map line.First) c.number_up_to.ensures.number)

pub returns-then-eq-4 : goal.returns-then-eq-4
unfolding keyword_line
returns-then-eq-4 c =
    let not_local = rw c.as_slice.ensures at (sym c.eq.ensures ∙ c.if-eq.false) in
    let not_seed = rw c.as_slice-2.ensures at (sym c.eq-2.ensures ∙ c.if-eq-2.false) in
    let not_first = rw c.as_slice-3.ensures at (sym c.eq-3.ensures ∙ c.if-eq-3.false) in
    let is_round = rw c.as_slice-4.ensures at (sym c.eq-4.ensures ∙ c.if-eq-4.true) in
    rw (not_local, not_seed, not_first, is_round)
    (mapped line.Round _ _ c.map-then-eq-4.ensures.cases
    ∙ ap (option_map line.Round) c.number_up_to-then-eq-4.ensures.number)

pub returns : goal.returns
unfolding keyword_line
returns c =
    let not_local = rw c.as_slice.ensures at (sym c.eq.ensures ∙ c.if-eq.false) in
    let not_seed = rw c.as_slice-2.ensures at (sym c.eq-2.ensures ∙ c.if-eq-2.false) in
    let not_first = rw c.as_slice-3.ensures at (sym c.eq-3.ensures ∙ c.if-eq-3.false) in
    let not_round = rw c.as_slice-4.ensures at (sym c.eq-4.ensures ∙ c.if-eq-4.false) in
    rw (not_local, not_seed, not_first, not_round)
    (mapped line.Event _ _ c.map-2.ensures.cases
    ∙ ap (option_map line.Event) c.in_ok-read_event.ensures)
