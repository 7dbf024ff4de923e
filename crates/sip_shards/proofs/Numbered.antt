-- Items at a moment, and how many parts there are.
use Rattle.std.proofs.Common.{◌≡◌, ℕ, zero, suc, Bool, List, [], ◌∷◌, length, map, refl, sym, ◌∙◌, ap}
use Rattle.std.specs.Prelude.{filter}
use Rattle.keyed_machine.specs.declared.item.Item.{Item}
use Rattle.keyed_machine.specs.Phase.{timed_item, timed_items}
use Rattle.keyed_machine.specs.Shards.{is_owned}
use Rattle.keyed_machine.proofs.Ordered.{by_bool}
use Rattle.sip_shards.specs.Parts.{cut_by}
use Rattle.sip_shards.proofs.Cutting.{map_long}

-- ---- items at a moment

pub places_timed : {K I : Type 0} (now : ℕ) (items : List (Item K I))
    → map (λ item. item.place) (timed_items now items) ≡ map (λ item. item.place) items
places_timed now [] = refl
places_timed now (item ∷ items) = ap (λ places. item.place ∷ places) (places_timed now items)

owned_timed : {K I : Type 0} (owns : K → Bool) (now : ℕ) (items : List (Item K I))
    → timed_items now (filter (λ item. owns item.key) items)
    ≡ filter (λ item. owns item.key) (timed_items now items)
owned_timed owns now [] = refl
owned_timed owns now (item ∷ items) = by_bool (owns item.key)
    (λ on. rw on (ap (λ rest. timed_item now item ∷ rest) (owned_timed owns now items)))
    (λ off. rw off (owned_timed owns now items))

cut_timed : {K I : Type 0} (owner : K → ℕ) (number n now : ℕ) (all : List (Item K I))
    → map (timed_items now) (cut_by owner number n all)
    ≡ cut_by owner number n (timed_items now all)
cut_timed owner number zero now all = refl
cut_timed owner number (suc n) now all =
    λ i. owned_timed (is_owned owner number) now all i ∷ cut_timed owner (suc number) n now all i

pub map_twice : {X Y Z : Type 0} (f : Y → Z) (g : X → Y) (xs : List X)
    → map (λ x. f (g x)) xs ≡ map f (map g xs)
map_twice f g [] = refl
map_twice f g (x ∷ xs) = ap (λ rest. f (g x) ∷ rest) (map_twice f g xs)

-- the parts of items at a moment
pub parts_timed : {V K I : Type 0} (items : V → List (Item K I)) (owner : K → ℕ) (n now : ℕ)
    (all : List (Item K I)) (parts : List V) → map items parts ≡ cut_by owner zero n all
    → map (λ part. timed_items now (items part)) parts ≡ cut_by owner zero n (timed_items now all)
parts_timed items owner n now all parts cut =
    map_twice (timed_items now) items parts ∙ ap (map (timed_items now)) cut
    ∙ cut_timed owner zero n now all

-- ---- how many parts there are

cut_long : {K I : Type 0} (owner : K → ℕ) (number n : ℕ) (all : List (Item K I))
    → length (cut_by owner number n all) ≡ n
cut_long owner number zero all = refl
cut_long owner number (suc n) all = ap suc (cut_long owner (suc number) n all)

pub parts_counted : {V K I : Type 0} (items : V → List (Item K I)) (owner : K → ℕ) (n : ℕ)
    (all : List (Item K I)) (parts : List V) → map items parts ≡ cut_by owner zero n all
    → length parts ≡ n
parts_counted items owner n all parts cut =
    sym (map_long items parts) ∙ ap length cut ∙ cut_long owner zero n all
