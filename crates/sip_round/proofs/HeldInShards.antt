-- Lists of shards, and what they hold.
use Rattle.std.proofs.Common.{◌≡◌, ℕ, ◌<◌, ◌+◌, List, [], ◌∷◌, length, map, refl, sym, ◌∙◌, ap, subst, All}
use Rattle.std.specs.Prelude.{sum_by}
use Rattle.std.specs.List.{AllByRecursion}
use Rattle.std.proofs.lemmas.List.Elements.{All-cons, All-head, All-nil, All-tail}
use Rattle.std.proofs.lemmas.List.Sums.{sum_by-cons}
use Rattle.sip_shards.proofs.Cutting.{map_long}
use Rattle.sip_round.specs.AgentState.{AreShards, ShardTables, calls_held, lives_held}

-- ---- at least one shard

pub some_lives : (shards : ShardTables) → AreShards shards → 0 < length (lives_held shards)
some_lives shards are =
    subst (λ n. 0 < n) (sym (map_long (λ shard. shard.held) shards.transactions)) are.0

pub some_calls : (shards : ShardTables) → AreShards shards → 0 < length (calls_held shards)
some_calls shards are =
    subst (λ n. 0 < n) (sym (map_long (λ shard. shard.held) shards.calls))
    (subst (λ n. 0 < n) (sym are.2) are.0)

-- ---- what is true of each shard is true of what each holds

module _ {X Y : Type 0} (P : Y → Type 0) (f : X → Y) where
  pub of_held : (xs : List X) → AllByRecursion (λ x. P (f x)) xs → AllByRecursion P (map f xs)
  of_held [] all = tt
  of_held (x ∷ xs) all = (all.0, of_held xs all.1)

  pub of_shards : (xs : List X) → AllByRecursion P (map f xs) → AllByRecursion (λ x. P (f x)) xs
  of_shards [] all = tt
  of_shards (x ∷ xs) all = (all.0, of_shards xs all.1)

  pub all_of_shards : (xs : List X) → All P (map f xs) → All (λ x. P (f x)) xs
  all_of_shards [] all = All-nil (λ x. P (f x))
  all_of_shards (x ∷ xs) all =
      All-cons (λ x. P (f x)) x xs (All-head P (f x) (map f xs) all)
      (all_of_shards xs (All-tail P (f x) (map f xs) all))

pub each : {X : Type 0} (P : X → Type 0) → ((x : X) → P x) → (xs : List X) → AllByRecursion P xs
each P always [] = tt
each P always (x ∷ xs) = (always x, each P always xs)

pub all_each : {X : Type 0} (P : X → Type 0) (xs : List X) → All P xs → AllByRecursion P xs
all_each P [] all = tt
all_each P (x ∷ xs) all = (All-head P x xs all, all_each P xs (All-tail P x xs all))

pub sum_of_held : {X Y : Type 0} (f : Y → ℕ) (g : X → Y) (xs : List X)
    → sum_by (λ x. f (g x)) xs ≡ sum_by f (map g xs)
sum_of_held f g [] = refl
sum_of_held f g (x ∷ xs) =
    sum_by-cons (λ x. f (g x)) x xs ∙ ap (λ n. f (g x) + n) (sum_of_held f g xs)
    ∙ sym (sum_by-cons f (g x) (map g xs))

-- shards that share with others what these share
pub alike_others : {X Y : Type 0} (f : X → Y) (y : Y) (xs others : List X)
    → map f xs ≡ map f others → AllByRecursion (λ x. f x ≡ y) others
    → AllByRecursion (λ x. f x ≡ y) xs
alike_others f y xs others same alike =
    of_shards (λ z. z ≡ y) f xs
    (subst (AllByRecursion (λ z. z ≡ y)) (sym same) (of_held (λ z. z ≡ y) f others alike))
