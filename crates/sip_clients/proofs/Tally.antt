-- How many values of entries, read by a function, pass a test after a change of one entry.
use Rattle.std.proofs.Common.{◌≡◌, ℕ, ◌+◌, ◌≤◌, Bool, true, false, cond, List, [], ◌∷◌, refl, sym, ap, arith}
use Rattle.std.specs.Prelude.{Option, None, Some, filter, filter_map, count_by}
use Rattle.std.specs.List.{cons_option}
use Rattle.std.specs.Map.{lookup, remove_entry, set_value, values_of}
use Rattle.std.specs.Option.{option_map_or}
use Rattle.std.proofs.lemmas.List.Sums.{sum_by-cons}
use Rattle.indexmap.specs.IndexMap.{insert_entry}

-- ---- numbers

other_here : (n m a b total now : ℕ) → total ≡ n + a → now ≡ m + a → b ≡ n → now + b ≡ total + m
other_here n m a b total now is now_is same = omega arith

other_later : (n m w before after total now : ℕ) → total ≡ w + before → now ≡ w + after
    → after + n ≡ before + m → now + n ≡ total + m
other_later n m w before after total now is now_is later = omega arith

at_most : (now total n m extra : ℕ) → now + n ≡ total + m → m ≤ n + extra → now ≤ total + extra
at_most now total n m extra is few = omega arith

put_here : (n m a total now : ℕ) → total ≡ n + a → now ≡ m + a → now ≤ total + m
put_here n m a total now is now_is = omega arith

put_later : (m w before after total now : ℕ) → total ≡ w + before → now ≡ w + after
    → after ≤ before + m → now ≤ total + m
put_later m w before after total now is now_is later = omega arith

none_here : (n now : ℕ) → now ≡ n + 0 → now ≤ 0 + n
none_here n now is = omega arith

left_here : (n a total : ℕ) → total ≡ n + a → a ≤ total
left_here n a total is = omega arith

left_later : (w before after total now : ℕ) → total ≡ w + before → now ≡ w + after
    → after ≤ before → now ≤ total
left_later w before after total now is now_is later = omega arith

over_later : (w before after total : ℕ) → total ≡ w + before → after ≤ before → after ≤ total
over_later w before after total is later = omega arith

-- ---- entries

module _ {Y : Type 0} (p : Y → Bool) where
  -- 1 if a value is there and passes, otherwise 0
  abbrev pub weight : Option Y → ℕ
  weight None = 0
  weight (Some y) = cond (p y) 1 0

  pub count_option : (o : Option Y) (ys : List Y)
      → count_by p (cons_option o ys) ≡ weight o + count_by p ys
  count_option None ys = omega arith
  count_option (Some y) ys = sum_by-cons (λ y. cond (p y) 1 0) y ys

module _ {X Y : Type 0} (f : X → Option Y) (p : Y → Bool) where
  abbrev pub of_value : X → ℕ
  of_value x = weight p (f x)

module _ {K X Y : Type 0} (f : X → Option Y) (p : Y → Bool) where
  abbrev pub tally : List (K × X) → ℕ
  tally es = count_by p (filter_map f (values_of es))

  more : (k : K) (x : X) (es : List (K × X)) → tally ((k, x) ∷ es) ≡ of_value f p x + tally es
  more k x es = count_option p (f x) (filter_map f (values_of es))

  -- ---- one value is replaced

  set_step : (b : Bool) (e : K × X) (es set : List (K × X)) (x y : X) (found : Option X)
      → cond b (Some e.1) found ≡ Some x
      → (found ≡ Some x → tally set + of_value f p x ≡ tally es + of_value f p y)
      → tally (cond b ((e.0, y) ∷ es) (e ∷ set)) + of_value f p x ≡ tally (e ∷ es) + of_value f p y
  set_step true e es set x y found is later =
      other_here (of_value f p e.1) (of_value f p y) (tally es) (of_value f p x) (tally (e ∷ es))
      (tally ((e.0, y) ∷ es)) (more e.0 e.1 es) (more e.0 y es) (same is)
    where
      same : Some e.1 ≡ Some x → of_value f p x ≡ of_value f p e.1
      same is = ap (λ o. option_map_or (of_value f p) o 0) (sym is)
  set_step false e es set x y found is later =
      other_later (of_value f p x) (of_value f p y) (of_value f p e.1) (tally es) (tally set)
      (tally (e ∷ es))
      (tally (e ∷ set)) (more e.0 e.1 es) (more e.0 e.1 set) (later is)

  pub tally_set : (test : K → Bool) (es : List (K × X)) (x y : X) → lookup test es ≡ Some x
      → tally (set_value test es y) + of_value f p x ≡ tally es + of_value f p y
  tally_set test [] x y is = absurd cc
  tally_set test (e ∷ es) x y is =
      set_step (test e.0) e es (set_value test es y) x y (lookup test es) is
      (tally_set test es x y)

  -- after a change of one value the count grows by at most so much
  pub tally_changed : (test : K → Bool) (change : X → X) (extra : ℕ)
      → ((x : X) → of_value f p (change x) ≤ of_value f p x + extra) → (es : List (K × X))
      → tally (option_map_or (λ x. set_value test es (change x)) (lookup test es) es)
      ≤ tally es + extra
  tally_changed test change extra few es = by_found (lookup test es) refl
    where
      by_found : (o : Option X) → lookup test es ≡ o
          → tally (option_map_or (λ x. set_value test es (change x)) o es) ≤ tally es + extra
      by_found None is = omega arith
      by_found (Some x) is =
          at_most (tally (set_value test es (change x))) (tally es) (of_value f p x)
          (of_value f p (change x)) extra (tally_set test es x (change x) is) (few x)

  -- ---- one is put in

  insert_step : (b : Bool) (e : K × X) (es put : List (K × X)) (v : X)
      → tally put ≤ tally es + of_value f p v
      → tally (cond b ((e.0, v) ∷ es) (e ∷ put)) ≤ tally (e ∷ es) + of_value f p v
  insert_step true e es put v later =
      put_here (of_value f p e.1) (of_value f p v) (tally es) (tally (e ∷ es))
      (tally ((e.0, v) ∷ es))
      (more e.0 e.1 es) (more e.0 v es)
  insert_step false e es put v later =
      put_later (of_value f p v) (of_value f p e.1) (tally es) (tally put) (tally (e ∷ es))
      (tally (e ∷ put)) (more e.0 e.1 es) (more e.0 e.1 put) later

  pub tally_inserted : (eq : K → K → Bool) (k : K) (v : X) (es : List (K × X))
      → tally (insert_entry eq es k v) ≤ tally es + of_value f p v
  tally_inserted eq k v [] = none_here (of_value f p v) (tally ((k, v) ∷ [])) (more k v [])
  tally_inserted eq k v (e ∷ es) =
      insert_step (eq k e.0) e es (insert_entry eq es k v) v (tally_inserted eq k v es)

  -- ---- some are left out

  pub tally_removed : (test : K → Bool) (es : List (K × X))
      → tally (remove_entry test es) ≤ tally es
  tally_removed test [] = omega arith
  tally_removed test (e ∷ es) =
      elim (test e.0) as (λ b. tally (cond b es (e ∷ remove_entry test es)) ≤ tally (e ∷ es)) [
        | true ↦ left_here (of_value f p e.1) (tally es) (tally (e ∷ es)) (more e.0 e.1 es)
        | false ↦ left_later (of_value f p e.1) (tally es) (tally (remove_entry test es))
            (tally (e ∷ es)) (tally (e ∷ remove_entry test es)) (more e.0 e.1 es)
            (more e.0 e.1 (remove_entry test es)) (tally_removed test es)
      ]

  pub tally_filtered : (q : K × X → Bool) (es : List (K × X)) → tally (filter q es) ≤ tally es
  tally_filtered q [] = omega arith
  tally_filtered q (e ∷ es) =
      elim (q e) as (λ b. tally (cond b (e ∷ filter q es) (filter q es)) ≤ tally (e ∷ es)) [
        | true ↦ left_later (of_value f p e.1) (tally es) (tally (filter q es)) (tally (e ∷ es))
            (tally (e ∷ filter q es)) (more e.0 e.1 es) (more e.0 e.1 (filter q es))
            (tally_filtered q es)
        | false ↦ over_later (of_value f p e.1) (tally es) (tally (filter q es)) (tally (e ∷ es))
            (more e.0 e.1 es) (tally_filtered q es)
      ]
