-- Shards that hold the same, table by table.
use Rattle.std.proofs.Common.{◌≡◌, ◌<◌, ◌≤◌, ◌+◌, ℕ, suc, List, [], ◌∷◌, ◌++◌, length, cond, get_or, take, sym, ◌∙◌, ap, arith, subst}
use Rattle.std.proofs.lemmas.List.{take_all, take_more}
use Rattle.std.proofs.lemmas.List.Elements.{AllZip-get_or, all_zip_more}
use Rattle.std.specs.Prelude.{◌↔◌, None, map}
use Rattle.std.specs.List.{AllZip}
use Rattle.std.specs.declared.cmp.Ordering.{Ordering}
use Rattle.keyed_machine.specs.Laws.{ShardsHoldApart}
use Rattle.keyed_machine.specs.Machine.{Machine}
use Rattle.keyed_machine.specs.Phase.{Phase, states_after}
use Rattle.keyed_machine.specs.SameTables.{HoldTheSame}
use Rattle.keyed_machine.specs.Shards.{HoldFrom, is_owned}
use Rattle.keyed_machine.specs.Table.{Held}

-- what is true of two by two shards is true of what they hold
pub zip_of_held : {X Y : Type 0} (R : Y → Y → Type 0) (f : X → Y) (xs ys : List X)
    → AllZip (λ x y. R (f x) (f y)) xs ys → AllZip R (map f xs) (map f ys)
zip_of_held R f [] [] all = tt
zip_of_held R f [] (y ∷ ys) all = absurd all
zip_of_held R f (x ∷ xs) [] all = absurd all
zip_of_held R f (x ∷ xs) (y ∷ ys) all = (all.0, zip_of_held R f xs ys all.1)

pub zip_of_shards : {X Y : Type 0} (R : Y → Y → Type 0) (f : X → Y) (xs ys : List X)
    → AllZip R (map f xs) (map f ys) → AllZip (λ x y. R (f x) (f y)) xs ys
zip_of_shards R f [] [] all = tt
zip_of_shards R f [] (y ∷ ys) all = absurd all
zip_of_shards R f (x ∷ xs) [] all = absurd all
zip_of_shards R f (x ∷ xs) (y ∷ ys) all = (all.0, zip_of_shards R f xs ys all.1)

-- what a test tells of two lists it tells of lists that are the same
pub zip_of_same : {A X Y : Type 0} (R : Y → Y → Type 0) (f : X → Y) {xs ys zs ws : List X}
    → xs ≡ zs → ys ≡ ws → A ↔ AllZip R (map f xs) (map f ys)
    → A ↔ AllZip R (map f zs) (map f ws)
zip_of_same {A} R f {ys} {zs} one other says =
    subst (λ list. A ↔ AllZip R (map f zs) (map f list)) other
    (subst (λ list. A ↔ AllZip R (map f list) (map f ys)) one says)

-- ---- a loop over two lists side by side

module _ {X : Type 0} (R : X → X → Type 0) (xs ys : List X) where
  -- one more place
  pub zip_more : (i : ℕ) (x y : X) → i < length xs → i < length ys → x ≡ get_or xs i x
      → y ≡ get_or ys i y → R x y → AllZip R (take i xs) (take i ys)
      → AllZip R (take (i + 1) xs) (take (i + 1) ys)
  zip_more i x y within other_within x_at y_at here before =
      subst (AllZip R (take (i + 1) xs))
      (ap (λ z. take i ys ++ z ∷ []) y_at ∙ sym (take_more ys i y other_within))
      (all_zip_more R xs (take i ys) i x y within x_at before here)

  -- what is true of all is true at a place
  pub zip_at : (i : ℕ) (x y : X) → i < length xs → x ≡ get_or xs i x → y ≡ get_or ys i y
      → AllZip R xs ys → R x y
  zip_at i x y within x_at y_at all =
      subst (λ z. R z y) (sym x_at)
      (subst (λ z. R (get_or xs i x) z) (sym y_at) (AllZip-get_or R xs ys i x y all within))

  -- all places
  pub zip_whole : (i : ℕ) → length xs ≤ i → length ys ≤ i → AllZip R (take i xs) (take i ys)
      → AllZip R xs ys
  zip_whole i end other_end all =
      subst (λ list. AllZip R list ys) (take_all i xs end)
      (subst (λ list. AllZip R (take i xs) list) (take_all i ys other_end) all)

module _ {K S I O : Type 0} (cmp : K → K → Ordering) (machine : Machine K S I O)
    (tick : ℕ → I) (owner : K → ℕ) where
  -- tables that hold the same stand for the same phases
  pub held_same : (number : ℕ) (tables others : List (Held K S)) (phases : List (Phase K I))
      → AllZip (HoldTheSame cmp) tables others
      → HoldFrom cmp machine tick owner number tables phases
      → HoldFrom cmp machine tick owner number others phases
  held_same number [] [] phases same hold = tt
  held_same number [] (other ∷ others) phases same hold = absurd same
  held_same number (table ∷ tables) [] phases same hold = tt
  held_same number (table ∷ tables) (other ∷ others) phases same hold = (
    record {
      sound = same.0.other_sound;
      states = λ key. sym (same.0.states key) ∙ hold.0.states key;
    },
    held_same (suc number) tables others phases same.1 hold.1,
  )

  -- tables that stand for phases which leave the same hold the same
  pub same_held : ShardsHoldApart cmp machine tick → (number : ℕ) (tables others : List (Held K S))
      (phases other_phases : List (Phase K I))
      → ((key : K) → states_after cmp machine tick phases key
      ≡ states_after cmp machine tick other_phases key) → length tables ≡ length others
      → HoldFrom cmp machine tick owner number tables phases
      → HoldFrom cmp machine tick owner number others other_phases
      → AllZip (HoldTheSame cmp) tables others
  same_held apart number [] [] phases other_phases same long hold other_hold = tt
  same_held apart number [] (other ∷ others) phases other_phases same long hold other_hold =
      absurd (omega arith)
  same_held apart number (table ∷ tables) [] phases other_phases same long hold other_hold =
      absurd (omega arith)
  same_held apart number (table ∷ tables) (other ∷ others) phases other_phases same long hold
      other_hold =
      let rest_long : length tables ≡ length others = omega arith in (
        record {
          sound = hold.0.sound;
          other_sound = other_hold.0.sound;
          states = λ key. hold.0.states key ∙ apart (is_owned owner number) phases key
              ∙ ap (λ state. cond (is_owned owner number key) state None) (same key)
              ∙ sym (apart (is_owned owner number) other_phases key)
              ∙ sym (other_hold.0.states key);
        },
        same_held apart (suc number) tables others phases other_phases same rest_long hold.1
            other_hold.1,
      )
