-- Items cut into the parts of shards.
use Rattle.std.proofs.Common.{◌≡◌, ℕ, zero, suc, ◌+◌, ◌<◌, true, false, cond, List, [], ◌∷◌, ◌++◌, length, map, get_or, nat_eq, refl, sym, ◌∙◌, ap, subst, arith, append_assoc, append-nil}
use Rattle.std.specs.Prelude.{filter, All, slice_set}
use Rattle.std.proofs.lemmas.Grind.{common_steps}
use Rattle.std.proofs.lemmas.List.{get_or-set_same, get_or-set_other, get_or-map}
use Rattle.keyed_machine.specs.declared.item.Item.{Item}
use Rattle.keyed_machine.specs.Shards.{is_owned}
use Rattle.keyed_machine.proofs.Ordered.{by_bool}
use Rattle.sip_shards.specs.Parts.{cut_by}
use Rattle.sip_shards.specs.Steps.Put.{with_item}

-- the parts so far, with those of the items left, are the parts of all items
pub record PartsLeft {K I : Type 0} (owner : K → ℕ) (shards : ℕ) (all rest : List (Item K I))
    (parts : List (List (Item K I))) : Type 0 where
  pub count : length parts ≡ shards
  pub each : (k : ℕ) → k < shards
      → get_or parts k [] ++ filter (λ item. is_owned owner k item.key) rest
      ≡ filter (λ item. is_owned owner k item.key) all

pub nat_eq_true : {a b : ℕ} → nat_eq a b ≡ true → a ≡ b
nat_eq_true {a} {b} e = grind (arith, common_steps, e)

pub nat_eq_false : {a b : ℕ} → nat_eq a b ≡ false → a ≡ b → ⊥
nat_eq_false {a} {b} e same = grind (arith, common_steps, e, same)

pub set_long : {X : Type 0} (xs : List X) (i : ℕ) (x : X) → length (slice_set xs i x) ≡ length xs
set_long [] i x = refl
set_long (y ∷ xs) zero x = refl
set_long (y ∷ xs) (suc i) x = ap suc (set_long xs i x)

pub map_long : {X Y : Type 0} (f : X → Y) (xs : List X) → length (map f xs) ≡ length xs
map_long f [] = refl
map_long f (x ∷ xs) = ap suc (map_long f xs)

-- a single shard has all items
pub all_in_one : {K I : Type 0} (owner : K → ℕ) (items : List (Item K I))
    → ((key : K) → owner key < 1)
    → filter (λ item. is_owned owner 0 item.key) items ≡ items
all_in_one owner [] one = refl
all_in_one owner (item ∷ items) one =
    let first : owner item.key ≡ 0 = omega (arith, one item.key) in
    let owned : is_owned owner 0 item.key ≡ true =
    subst (λ n. nat_eq n 0 ≡ true) (sym first) refl in
    rw (owned, all_in_one owner items one) refl

module _ {K I : Type 0} (owner : K → ℕ) (shards : ℕ) (all : List (Item K I)) where
  -- before the first item every part is empty
  pub parts_empty : (V : Type 0) (items : V → List (Item K I)) (parts : List V)
      (rest : List (Item K I)) → rest ≡ all → length parts ≡ shards
      → All (λ part. items part ≡ []) parts → PartsLeft owner shards all rest (map items parts)
  parts_empty V items parts rest begun count empty =
      record { count = map_long items parts ∙ count; each = each parts count empty }
    where
      each : (parts : List V) → length parts ≡ shards → All (λ part. items part ≡ []) parts
          → (k : ℕ) → k < shards
          → get_or (map items parts) k [] ++ filter (λ item. is_owned owner k item.key) rest
          ≡ filter (λ item. is_owned owner k item.key) all
      each [] count empty k below = ap (filter (λ item. is_owned owner k item.key)) begun
      each (part ∷ parts) count empty k below =
          let inside : k < length (part ∷ parts) = omega (arith, count, below) in
          ap (λ items. items ++ filter (λ item. is_owned owner k item.key) rest)
          (get_or-map items (part ∷ parts) k part [] inside ∙ empty k part inside)
          ∙ ap (filter (λ item. is_owned owner k item.key)) begun

  -- an item is put at the end of its owner's part
  pushed_at : (item : Item K I) (rest : List (Item K I)) (parts : List (List (Item K I)))
      (newer : List (Item K I)) → owner item.key < shards
      → newer ≡ get_or parts (owner item.key) [] ++ item ∷ []
      → PartsLeft owner shards all (item ∷ rest) parts
      → PartsLeft owner shards all rest (slice_set parts (owner item.key) newer)
  pushed_at item rest parts newer within pushed left = record {
    count = set_long parts (owner item.key) newer ∙ left.count;
    each = λ k below.
        by_bool (nat_eq (owner item.key) k)
        (λ mine.
        let at : k ≡ owner item.key = omega (arith, nat_eq_true mine) in
        let inside : owner item.key < length parts = omega (arith, within, left.count) in
        ap (λ n. get_or (slice_set parts (owner item.key) newer) n []
        ++ filter (λ i. is_owned owner k i.key) rest) at
        ∙ ap (λ part. part ++ filter (λ i. is_owned owner k i.key) rest)
        (get_or-set_same parts (owner item.key) newer [] inside ∙ pushed)
        ∙ append_assoc (get_or parts (owner item.key) []) (item ∷ [])
        (filter (λ i. is_owned owner k i.key) rest)
        ∙ ap (λ n. get_or parts n [] ++ item ∷ filter (λ i. is_owned owner k i.key) rest) (sym at)
        ∙ ap (λ b. get_or parts k [] ++ cond b (item ∷ filter (λ i. is_owned owner k i.key) rest)
        (filter (λ i. is_owned owner k i.key) rest)) (sym mine)
        ∙ left.each k below)
        (λ other.
        ap (λ part. part ++ filter (λ i. is_owned owner k i.key) rest)
        (get_or-set_other parts (owner item.key) k newer []
        (λ same. nat_eq_false other (sym same)))
        ∙ ap (λ b. get_or parts k [] ++ cond b (item ∷ filter (λ i. is_owned owner k i.key) rest)
        (filter (λ i. is_owned owner k i.key) rest)) (sym other)
        ∙ left.each k below);
  }

  pub one_put : (item : Item K I) (rest : List (Item K I)) (parts newer : List (List (Item K I)))
      → owner item.key < shards → newer ≡ with_item owner item parts
      → PartsLeft owner shards all (item ∷ rest) parts
      → PartsLeft owner shards all rest newer
  one_put item rest parts newer within put left =
      subst (PartsLeft owner shards all rest) (sym put) (pushed_at item rest parts
      (get_or parts (owner item.key) [] ++ item ∷ []) within refl left)

  -- lists that are the parts at each index are all parts
  cut_from : (number : ℕ) (parts : List (List (Item K I)))
      → ((k : ℕ) → k < length parts → get_or parts k []
      ≡ filter (λ item. is_owned owner (number + k) item.key) all)
      → parts ≡ cut_by owner number (length parts) all
  cut_from number [] each = refl
  cut_from number (part ∷ parts) each =
      ap (λ p. p ∷ parts) (each 0 (omega arith)
      ∙ ap (λ n. filter (λ item. is_owned owner n item.key) all) (at_first number))
      ∙ ap (λ more. filter (λ item. is_owned owner number item.key) all ∷ more)
      (cut_from (suc number) parts (λ k below. each (suc k) (omega (arith, below))
      ∙ ap (λ n. filter (λ item. is_owned owner n item.key) all) (later number k)))
    where
      at_first : (n : ℕ) → n + 0 ≡ n
      at_first n = omega arith

      later : (n k : ℕ) → n + suc k ≡ suc n + k
      later n k = omega arith

  pub parts_whole : (parts : List (List (Item K I))) → PartsLeft owner shards all [] parts
      → parts ≡ cut_by owner 0 shards all
  parts_whole parts left =
      cut_from 0 parts (λ k below. sym (append-nil (get_or parts k []))
      ∙ left.each k (omega (arith, below, left.count))
      ∙ ap (λ n. filter (λ item. is_owned owner n item.key) all) (from_first k))
      ∙ ap (λ n. cut_by owner 0 n all) left.count
    where
      from_first : (k : ℕ) → k ≡ 0 + k
      from_first k = omega arith
