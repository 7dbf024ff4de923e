-- The rule of the deque: the pieces put in are, in some order, those that it holds and those that
-- were taken from it. It relates what the passes know. No value in a run stands for it.
use Rattle.std.specs.Prelude.{◌≡◌, ℕ, ◌+◌, List, [], ◌∷◌, ◌++◌}
use Rattle.std.specs.List.{flat_map, AllByRecursion}
use Rattle.std.specs.List.Sorted.{IsPermutation}
use Rattle.sip_workers.specs.declared.piece.Piece.{Piece}
use Rattle.sip_workers.specs.declared.deque.Log.{Log}

module _ {J : Type 0} where
  abbrev pub log : ℕ → List (Piece J) → List (Piece J) → Log J
  log parts put taken = record { parts = parts; put = put; taken = taken }

  abbrev pub all_parts : List (Log J) → ℕ
  all_parts [] = 0
  all_parts (v ∷ vs) = v.parts + all_parts vs

  abbrev pub all_put : List (Log J) → List (Piece J)
  all_put views = flat_map (λ v. v.put) views

  abbrev pub all_taken : List (Log J) → List (Piece J)
  all_taken views = flat_map (λ v. v.taken) views

  -- a pass with no part has put and taken nothing
  abbrev pub IsIdle : Log J → Type 0
  IsIdle v = v.parts ≡ 0 → (v.put ≡ []) × (v.taken ≡ [])

  -- the passes share 64 parts, since there are at most 64 workers
  pub record Balanced (items : List (Piece J)) (views : List (Log J)) : Type 0 where
    pub parts : all_parts views ≡ 64
    pub balance : IsPermutation (all_put views) (items ++ all_taken views)
    pub idle : AllByRecursion IsIdle views
