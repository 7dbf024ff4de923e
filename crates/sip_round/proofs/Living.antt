-- How many keys the tables of all shards hold.
use Rattle.std.proofs.Common.{◌≡◌, ℕ, zero, suc, ◌+◌, ◌<◌, Bool, true, false, cond, ◌&&◌, List, [], ◌∷◌, length, get_or, take, ◌++◌, nat_eq, nat_le, nat_lt, refl, sym, ◌∙◌, ap, subst, arith, All}
use Rattle.std.specs.Prelude.{Option, None, Some, is_some, IsSome, count_by, sum_by}
use Rattle.std.specs.declared.cmp.Ordering.{Ordering}
use Rattle.std.specs.Cmp.{IsTotalOrder}
use Rattle.std.specs.List.{slice_get}
use Rattle.std.proofs.lemmas.Bool.{eq-eqb}
use Rattle.std.proofs.lemmas.Grind.{common_steps}
use Rattle.std.proofs.lemmas.List.Elements.{All-nil, All-cons}
use Rattle.std.proofs.lemmas.List.Sums.{sum_by-append, sum_by-cons}
use Rattle.std.proofs.Math.Seq.{take-suc}
use Rattle.std.proofs.lemmas.Map.Lookups.{CmpEqualImpliesEq}
use Rattle.keyed_machine.specs.Machine.{Machine, IsIdle}
use Rattle.keyed_machine.specs.Table.{Covers, Held, state_at}
use Rattle.keyed_machine.specs.Phase.{Phase, keys_of_phases, states_after}
use Rattle.keyed_machine.specs.Shards.{HoldFrom, is_owned}
use Rattle.keyed_machine.proofs.Apart.{owned_states}
use Rattle.keyed_machine.proofs.Phases.{phases_cover}

sums_add : {X : Type 0} (f g h : X → ℕ) → ((x : X) → f x + g x ≡ h x) → (xs : List X)
    → sum_by f xs + sum_by g xs ≡ sum_by h xs
sums_add f g h add [] = refl
sums_add f g h add (x ∷ xs) =
    let fs = sum_by-cons f x xs in
    let gs = sum_by-cons g x xs in
    let hs = sum_by-cons h x xs in
    let more = sums_add f g h add xs in
    let here = add x in
    omega (arith, fs, gs, hs, more, here)

sum_nothing : {X : Type 0} (f : X → ℕ) → ((x : X) → f x ≡ 0) → (xs : List X) → sum_by f xs ≡ 0
sum_nothing f none [] = refl
sum_nothing f none (x ∷ xs) = let xss = sum_by-cons f x xs in let here = none x in
    let more = sum_nothing f none xs in omega (arith, xss, here, more)

sum_same : {X : Type 0} (f g : X → ℕ) → ((x : X) → f x ≡ g x) → (xs : List X)
    → sum_by f xs ≡ sum_by g xs
sum_same f g same [] = refl
sum_same f g same (x ∷ xs) = sum_by-cons f x xs ∙ ap (λ n. n + sum_by f xs) (same x)
    ∙ ap (λ n. g x + n) (sum_same f g same xs) ∙ sym (sum_by-cons g x xs)

-- the sum with one more element of a list
pub summed : {X : Type 0} (f : X → ℕ) (xs : List X) (k : ℕ) (x : X) (total more newer : ℕ)
    → k < length xs → x ≡ get_or xs k x → total ≡ sum_by f (take k xs) → more ≡ f x
    → newer ≡ total + more → newer ≡ sum_by f (take (k + 1) xs)
summed f xs k x total more newer below here so_far adds is =
    let one : suc k ≡ k + 1 = omega arith in
    is ∙ ap (λ n. n + more) so_far ∙ ap (λ n. sum_by f (take k xs) + n) adds
    ∙ sym (sum_by-append f (take k xs) (x ∷ []) ∙ ap (λ n. sum_by f (take k xs) + n) (only f x))
    ∙ ap (sum_by f) (ap (λ y. take k xs ++ y ∷ []) here ∙ sym (take-suc xs k x below)
    ∙ ap (λ n. take n xs) one)
  where
    only : {X : Type 0} (f : X → ℕ) (x : X) → sum_by f (x ∷ []) ≡ f x
    only f x = sum_by-cons f x [] ∙ omega arith

-- a number in a range that begins with a number and has so many
abbrev inside : ℕ → ℕ → ℕ → Bool
inside number count o = nat_le number o && nat_lt o (number + count)

none_inside : (number o : ℕ) (b : Bool) → ◌≡◌ {A = ℕ} (cond (inside number 0 o && b) 1 0) 0
none_inside number o true = grind (arith, common_steps)
none_inside number o false = grind (arith, common_steps)

one_more : (number count o : ℕ) (b : Bool)
    → ◌≡◌ {A = ℕ} (cond (nat_eq o number && b) 1 0 + cond (inside (suc number) count o && b) 1 0)
    (cond (inside number (suc count) o && b) 1 0)
one_more number count o true = grind (arith, common_steps)
one_more number count o false = grind (arith, common_steps)

all_inside : (count o : ℕ) (b : Bool) → o < count
    → ◌≡◌ {A = ℕ} (cond (inside 0 count o && b) 1 0) (cond b 1 0)
all_inside count o true below = grind (arith, common_steps, below)
all_inside count o false below = grind (arith, common_steps, below)

some_of : {S : Type 0} (a : Bool) (s : Option S) → is_some (cond a s None) ≡ (a && is_some s)
some_of true s = refl
some_of false s = refl

module _ {K S I O : Type 0} {cmp : K → K → Ordering} (total : IsTotalOrder cmp)
    (exact : CmpEqualImpliesEq cmp) (machine : Machine K S I O) (due : S → Option ℕ) (tick : ℕ → I)
    (idle : (moment : ℕ) → IsIdle machine due moment (tick moment)) (owner : K → ℕ)
    (phases : List (Phase K I)) where
  abbrev states : K → Option S
  states = states_after cmp machine tick phases

  abbrev live_in : Held K S → List K → ℕ
  live_in table keys = count_by (λ key. is_some (state_at cmp table key)) keys

  counted_from : (keys : List K) (number : ℕ) (tables : List (Held K S))
      → HoldFrom cmp machine tick owner number tables phases
      → sum_by (λ table. live_in table keys) tables
      ≡ count_by (λ key. inside number (length tables) (owner key) && is_some (states key)) keys
  counted_from keys number [] hold =
      sym (sum_nothing (λ key. cond (inside number 0 (owner key) && is_some (states key)) 1 0)
      (λ key. none_inside number (owner key) (is_some (states key))) keys)
  counted_from keys number (t ∷ ts) hold =
      let own : (key : K) → is_some (state_at cmp t key)
      ≡ (nat_eq (owner key) number && is_some (states key)) =
      λ key. ap is_some (hold.0.states key
      ∙ owned_states total exact machine due tick idle (is_owned owner number) phases key)
      ∙ some_of (nat_eq (owner key) number) (states key) in
      sum_by-cons (λ table. live_in table keys) t ts
      ∙ ap (λ n. n + sum_by (λ table. live_in table keys) ts)
      (sum_same (λ key. cond (is_some (state_at cmp t key)) 1 0)
      (λ key. cond (nat_eq (owner key) number && is_some (states key)) 1 0)
      (λ key. ap (λ b. cond b 1 0) (own key)) keys)
      ∙ ap (λ n. count_by (λ key. nat_eq (owner key) number && is_some (states key)) keys + n)
      (counted_from keys (suc number) ts hold.1)
      ∙ sums_add (λ key. cond (nat_eq (owner key) number && is_some (states key)) 1 0)
      (λ key. cond (inside (suc number) (length ts) (owner key) && is_some (states key)) 1 0)
      (λ key. cond (inside number (suc (length ts)) (owner key) && is_some (states key)) 1 0)
      (λ key. one_more number (length ts) (owner key) (is_some (states key))) keys

  -- the table that owns a key holds its state
  pub state_of_owner : (number : ℕ) (tables : List (Held K S))
      → HoldFrom cmp machine tick owner number tables phases
      → (i : ℕ) (table : Held K S) (key : K) → slice_get tables i ≡ Some table
      → owner key ≡ number + i → state_at cmp table key ≡ states key
  state_of_owner number [] hold i table key at owns = absurd cc
  state_of_owner number (t ∷ ts) hold zero table key at owns =
      let this : t ≡ table = cc (at) in
      let here : owner key ≡ number = omega (arith, owns) in
      let own : nat_eq (owner key) number ≡ true = eq-eqb (owner key) number here in
      ap (λ held. state_at cmp held key) (sym this) ∙ hold.0.states key
      ∙ owned_states total exact machine due tick idle (is_owned owner number) phases key
      ∙ ap (λ own. cond own (states key) None) own
  state_of_owner number (t ∷ ts) hold (suc i) table key at owns =
      let next : owner key ≡ suc number + i = omega (arith, owns) in
      state_of_owner (suc number) ts hold.1 i table key at next

  covered_from : (number : ℕ) (tables : List (Held K S))
      → HoldFrom cmp machine tick owner number tables phases
      → All (λ table. Covers cmp (keys_of_phases cmp phases) (state_at cmp table)) tables
  covered_from number [] hold =
      All-nil (λ table. Covers cmp (keys_of_phases cmp phases) (state_at cmp table))
  covered_from number (t ∷ ts) hold =
      let covers = phases_cover cmp machine due tick idle total phases in
      All-cons (λ table. Covers cmp (keys_of_phases cmp phases) (state_at cmp table)) t ts
      (record {
        ordered = covers.ordered;
        each = λ key held. covers.each key
            (held_of (nat_eq (owner key) number) (states key)
            (subst IsSome (hold.0.states key
            ∙ owned_states total exact machine due tick idle (is_owned owner number) phases key)
            held));
      })
      (covered_from (suc number) ts hold.1)
    where
      held_of : (a : Bool) (s : Option S) → IsSome (cond a s None) → IsSome s
      held_of true s some = some
      held_of false s some = absurd cc

  -- all shards together hold as many keys as there are keys with a state
  pub counted : (tables : List (Held K S)) (live : ℕ) → ((key : K) → owner key < length tables)
      → HoldFrom cmp machine tick owner zero tables phases
      → ((keys : List K) → All (λ table. Covers cmp keys (state_at cmp table)) tables
      → live ≡ sum_by (λ table. live_in table keys) tables)
      → live ≡ count_by (λ key. is_some (states key)) (keys_of_phases cmp phases)
  counted tables live within hold sums =
      let keys = keys_of_phases cmp phases in
      sums keys (covered_from zero tables hold) ∙ counted_from keys zero tables hold
      ∙ sum_same (λ key. cond (inside zero (length tables) (owner key) && is_some (states key)) 1 0)
      (λ key. cond (is_some (states key)) 1 0)
      (λ key. all_inside (length tables) (owner key) (is_some (states key)) (within key)) keys
