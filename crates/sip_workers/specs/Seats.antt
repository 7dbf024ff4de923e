-- How each seat of the parallel map begins, and what it gives back.
use Rattle.std.specs.Prelude.{◌≡◌, ℕ, ◌-◌, ◌<◌, ◌≤◌, List, [], ◌∷◌, ◌++◌, length, Result, Ok, Err, ⊤}
use Rattle.std.specs.List.{AllByRecursion, AllZip}
use Rattle.std.specs.declared.alloc.Global.{Global}
use Rattle.crossbeam_deque.specs.Handles.{view, IsPassOf, worker_deque, worker_view, stealer_deque}
use Rattle.crossbeam_deque.specs.declared.handles.Worker.{Worker}
use Rattle.sip_workers.specs.declared.piece.Piece.{Piece}
use Rattle.sip_workers.specs.declared.deque.Log.{Log}
use Rattle.sip_workers.specs.declared.deque.Fair.{Fair}
use Rattle.out_of_memory.specs.declared.no_memory.NoMemory.{NoMemory}
use Rattle.sip_workers.specs.declared.seat.Seat.{Seat}
use Rattle.sip_workers.specs.declared.seat.Seat.TheVariants as begun
use Rattle.sip_workers.specs.declared.seat.Served.{Served}
use Rattle.sip_workers.specs.declared.seat.Served.TheVariants as ended
use Rattle.sip_workers.specs.Balance.{log}
use Rattle.sip_workers.specs.Ran.{Ran}

-- the owner of a deque
abbrev pub OwnerOf : Type 0 → Type 0
OwnerOf J = Worker (Piece J) Global (Log J) Fair

module _ {J : Type 0} where
  -- a seat that can begin: it took nothing yet, and has a part
  abbrev pub IsReady : Seat J → Type 0
  IsReady (begun.Owner owner) = (0 < (worker_view owner).parts) × ((worker_view owner).taken ≡ [])
  IsReady (begun.Thief thief pass) = IsPassOf (stealer_deque thief) pass × (view pass ≡ log 1 [] [])

  -- a thief at this deque
  abbrev pub IsThiefOf : OwnerOf J → Seat J → Type 0
  IsThiefOf deque (begun.Owner owner) = ⊥
  IsThiefOf deque (begun.Thief thief pass) =
      (stealer_deque thief ≡ worker_deque deque) × IsPassOf (worker_deque deque) pass
      × (view pass ≡ log 1 [] [])

  -- the owner of this deque, into which it has put pieces
  abbrev pub IsOwnerOf : OwnerOf J → ℕ → List (Piece J) → Seat J → Type 0
  IsOwnerOf deque parts put (begun.Owner owner) =
      (worker_deque owner ≡ worker_deque deque) × (worker_view owner ≡ log parts put [])
  IsOwnerOf deque parts put (begun.Thief thief pass) = ⊥

  -- thieves, and then the owner; each thief has one of the 64 parts, and the owner has the others
  pub record AreSeats (put : List (Piece J)) (count : ℕ) (seats : List (Seat J)) : Type 0 where
    pub deque : OwnerOf J
    pub thieves : List (Seat J)
    pub last : Seat J
    pub are : seats ≡ thieves ++ last ∷ []
    pub counted : length thieves ≡ count
    pub few : count ≤ 63
    pub all_thieves : AllByRecursion (IsThiefOf deque) thieves
    pub owner : IsOwnerOf deque (64 - count) put last

module _ {J D : Type 0} (gives : J → D → Type 0) where
  -- a thief's pass of this deque comes back, with the dones of the pieces that it took
  abbrev pub IsThiefsResult : OwnerOf J → Result (Served J D) NoMemory → Type 0
  IsThiefsResult deque (Ok (ended.Owner owner dones)) = ⊥
  IsThiefsResult deque (Ok (ended.Thief pass dones)) =
      IsPassOf (worker_deque deque) pass × ((view pass).parts ≡ 1) × ((view pass).put ≡ [])
      × Ran gives (view pass).taken dones.items
  IsThiefsResult deque (Err e) = ⊤

  -- the owner comes back, with the dones of the pieces that it took
  abbrev pub IsOwnersResult : OwnerOf J → ℕ → List (Piece J) → Result (Served J D) NoMemory → Type 0
  IsOwnersResult deque parts put (Ok (ended.Owner owner dones)) =
      (worker_deque owner ≡ worker_deque deque) × ((worker_view owner).parts ≡ parts)
      × ((worker_view owner).put ≡ put) × Ran gives (worker_view owner).taken dones.items
  IsOwnersResult deque parts put (Ok (ended.Thief pass dones)) = ⊥
  IsOwnersResult deque parts put (Err e) = ⊤

  -- what a seat gives back
  pub record Serves (seat : Seat J) (result : Result (Served J D) NoMemory) : Type 0 where
    pub thief : (deque : OwnerOf J) → IsThiefOf deque seat → IsThiefsResult deque result
    pub owner : (deque : OwnerOf J) (parts : ℕ) (put : List (Piece J))
        → IsOwnerOf deque parts put seat → IsOwnersResult deque parts put result

  -- what all seats give back, for a deque into which these pieces were put
  pub record AreResults (put : List (Piece J))
      (results : List (Result (Served J D) NoMemory)) : Type 0 where
    pub count : ℕ
    pub seats : List (Seat J)
    pub are_seats : AreSeats put count seats
    pub served : AllZip Serves seats results
