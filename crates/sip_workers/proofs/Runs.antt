-- Pieces and their dones, pair by pair.
use Rattle.std.proofs.Common.{◌≡◌, ℕ, ◌+◌, List, [], ◌∷◌, ◌++◌, sym, subst, ap}
use Rattle.std.specs.List.{AllZip}
use Rattle.sip_workers.specs.declared.piece.Piece.{Piece}
use Rattle.sip_workers.specs.declared.deque.Log.{Log}
use Rattle.sip_workers.specs.Balance.{log}
use Rattle.sip_workers.specs.Ran.{IsDoneOf, Ran}

pub zip_append : {A B : Type 0} (R : A → B → Type 0) (xs : List A) (ys : List B) (us : List A)
    (vs : List B) → AllZip R xs ys → AllZip R us vs → AllZip R (xs ++ us) (ys ++ vs)
zip_append R [] [] us vs p q = q
zip_append R [] (y ∷ ys) us vs p q = absurd p
zip_append R (x ∷ xs) [] us vs p q = absurd p
zip_append R (x ∷ xs) (y ∷ ys) us vs p q = (p.0, zip_append R xs ys us vs p.1 q)

module _ {J D : Type 0} (gives : J → D → Type 0) where
  -- one more piece was run
  pub ran_then : (pieces : List (Piece J)) (piece : Piece J) (done : ℕ × D)
      (dones more : List (ℕ × D)) → more ≡ dones ++ done ∷ [] → IsDoneOf gives piece done
      → Ran gives pieces dones → Ran gives (pieces ++ piece ∷ []) more
  ran_then pieces piece done dones more pushed given ran =
      subst (λ (ds : List (ℕ × D)). Ran gives (pieces ++ piece ∷ []) ds) (sym pushed)
      (zip_append (IsDoneOf gives) pieces dones (piece ∷ []) (done ∷ []) ran (given, tt))

  -- one more piece was taken and run
  pub ran_more : (v w : Log J) (piece : Piece J) (done : ℕ × D) (dones more : List (ℕ × D))
      → w ≡ log v.parts v.put (v.taken ++ piece ∷ []) → more ≡ dones ++ done ∷ []
      → IsDoneOf gives piece done → Ran gives v.taken dones → Ran gives w.taken more
  ran_more v w piece done dones more took pushed given ran =
      subst (λ (xs : List (Piece J)). Ran gives xs more) (sym (ap (λ (u : Log J). u.taken) took))
      (ran_then v.taken piece done dones more pushed given ran)

  -- the dones of a pass that is joined stand behind the others
  pub ran_joined : (v w u : Log J) (dones theirs more : List (ℕ × D))
      → u ≡ log (v.parts + w.parts) (v.put ++ w.put) (v.taken ++ w.taken) → more ≡ dones ++ theirs
      → Ran gives v.taken dones → Ran gives w.taken theirs → Ran gives u.taken more
  ran_joined v w u dones theirs more both pushed mine ran =
      subst (λ (xs : List (Piece J)). Ran gives xs more) (sym (ap (λ (x : Log J). x.taken) both))
      (subst (λ (ds : List (ℕ × D)). Ran gives (v.taken ++ w.taken) ds) (sym pushed)
      (zip_append (IsDoneOf gives) v.taken dones w.taken theirs mine ran))
