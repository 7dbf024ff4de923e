-- Items, each given to its key, one after another: what was dealt, and what is left.
use Rattle.std.proofs.Common.{◌≡◌, ℕ, List, [], ◌∷◌, ◌++◌, map, ◌∙◌, ap, append_assoc, subst}
use Rattle.std.specs.Prelude.{Option, cond}
use Rattle.std.specs.declared.cmp.Ordering.{Ordering}
use Rattle.std.specs.BTreeMap.{is_at}
use Rattle.keyed_machine.specs.declared.item.Item.{Item}
use Rattle.keyed_machine.specs.Machine.{Machine, next, adds}
use Rattle.keyed_machine.specs.Table.{AreDues}
use Rattle.keyed_machine.specs.Phase.{by_place, stepped, states_then, told_items}

-- of the items `all`, `rest` are left: the states now, and the outputs so far
pub record ItemsLeft {K S I O : Type 0} (cmp : K → K → Ordering) (machine : Machine K S I O)
    (due : S → Option ℕ) (old : K → Option S) (all rest : List (Item K I)) (states : K → Option S)
    (dues : List (ℕ × K)) (told : List (ℕ × List O)) : Type 0 where
  pub stepped_so_far : (q : K) → states_then cmp machine states rest q
      ≡ states_then cmp machine old all q
  pub armed : AreDues cmp due states dues
  pub said : told ++ map by_place (told_items cmp machine states rest)
      ≡ map by_place (told_items cmp machine old all)

-- the same where it is known that no item is left
pub no_item_left : {K S I O : Type 0} {cmp : K → K → Ordering} {machine : Machine K S I O}
    {due : S → Option ℕ} {old : K → Option S} {all rest : List (Item K I)} {states : K → Option S}
    {dues : List (ℕ × K)} {told : List (ℕ × List O)}
    → ItemsLeft cmp machine due old all rest states dues told → rest ≡ []
    → ItemsLeft cmp machine due old all [] states dues told
no_item_left {cmp = cmp} {machine = machine} {due = due} {old = old} {all = all}
    {states = states} {dues = dues} {told = told} left none =
    subst (λ items. ItemsLeft cmp machine due old all items states dues told) none left

module _ {K S I O : Type 0} {cmp : K → K → Ordering} (machine : Machine K S I O)
    (due : S → Option ℕ) where
  pub items_left_more : (old : K → Option S) (all rest : List (Item K I)) (item : Item K I)
      (states newer : K → Option S) (dues later : List (ℕ × K)) (told : List (ℕ × List O))
      (outputs : List O)
      → ItemsLeft cmp machine due old all (item ∷ rest) states dues told
      → ((q : K) → newer q ≡ cond (is_at (cmp item.key) q)
      (next machine item.key (states item.key) item.input) (states q))
      → AreDues cmp due newer later
      → outputs ≡ adds machine item.key (states item.key) item.input
      → ItemsLeft cmp machine due old all rest newer later
      (told ++ (item.place, outputs) ∷ [])
  items_left_more old all rest item states newer dues later told outputs left steps arms says =
      let same : newer ≡ stepped cmp machine states item = λ i q. steps q i in
      record {
        stepped_so_far =
            λ q. ap (λ s. states_then cmp machine s rest q) same ∙ left.stepped_so_far q;
        armed = arms;
        said =
            append_assoc told ((item.place, outputs) ∷ [])
            (map by_place (told_items cmp machine newer rest))
            ∙ ap (λ os. told ++ ((item.place, os)
            ∷ map by_place (told_items cmp machine newer rest))) says
            ∙ ap (λ s. told ++ ((item.place, adds machine item.key (states item.key) item.input)
            ∷ map by_place (told_items cmp machine s rest))) same
            ∙ left.said;
      }
