-- The seats as they begin, and their results as they come back.
use Rattle.std.proofs.Common.{◌≡◌, ℕ, zero, suc, ◌+◌, ◌-◌, ◌<◌, get_or, All, Vec, Err, arith, List, [], ◌∷◌, ◌++◌, length, Result, Ok, sym, subst, ap, ◌∙◌, refl}
use Rattle.std.specs.List.{AllByRecursion, AllZip}
use Rattle.std.proofs.lemmas.List.{get_or_default}
use Rattle.std.specs.declared.alloc.Global.{Global}
use Rattle.crossbeam_deque.specs.Handles.{Pass, view, IsPassOf, worker_deque, worker_view, stealer_deque}
use Rattle.crossbeam_deque.specs.declared.handles.Stealer.{Stealer}
use Rattle.sip_workers.specs.declared.deque.Fair.{Fair}
use Rattle.sip_workers.specs.declared.piece.Piece.{Piece}
use Rattle.out_of_memory.specs.declared.no_memory.NoMemory.{NoMemory}
use Rattle.sip_workers.specs.declared.deque.Log.{Log}
use Rattle.sip_workers.specs.declared.seat.Seat.{Seat}
use Rattle.sip_workers.specs.declared.seat.Seat.TheVariants as begun
use Rattle.sip_workers.specs.declared.seat.Served.{Served}
use Rattle.sip_workers.specs.declared.seat.Served.TheVariants as ended
use Rattle.sip_workers.specs.Balance.{log}
use Rattle.sip_workers.specs.Ran.{Ran}
use Rattle.sip_workers.specs.Seats.{OwnerOf, IsReady, IsThiefOf, IsOwnerOf, AreSeats, IsThiefsResult, Serves, AreResults}

pub log_is : {J : Type 0} (v : Log J) (parts : ℕ) (put taken : List (Piece J)) → v.parts ≡ parts
    → v.put ≡ put → v.taken ≡ taken → v ≡ log parts put taken
log_is v parts put taken p q r =
    ap (λ n. log n v.put v.taken) p ∙ ap (λ xs. log parts xs v.taken) q
    ∙ ap (λ xs. log parts put xs) r

pub all_but_last : {X : Type 0} (P : X → Type 0) (xs : List X) (x : X)
    → AllByRecursion P (xs ++ x ∷ []) → AllByRecursion P xs × P x
all_but_last P [] x all = (tt, all.0)
all_but_last P (y ∷ ys) x all = let rest = all_but_last P ys x all.1 in ((all.0, rest.0), rest.1)

-- if all results are thieves', so are the last one and those before it
pub thiefs_last : {J D : Type 0} (gives : J → D → Type 0) (deque : OwnerOf J)
    (all rest : List (Result (Served J D) NoMemory)) (result : Result (Served J D) NoMemory)
    (served : Served J D)
    → AllByRecursion (IsThiefsResult gives deque) all → all ≡ rest ++ result ∷ []
    → result ≡ Ok served
    → AllByRecursion (IsThiefsResult gives deque) rest × IsThiefsResult gives deque (Ok served)
thiefs_last {J} {D} gives deque all rest result served good is was =
    let both = all_but_last (IsThiefsResult gives deque) rest result
    (subst (λ (xs : List (Result (Served J D) NoMemory)).
    AllByRecursion (IsThiefsResult gives deque) xs) is good) in
    (both.0, subst (λ (r : Result (Served J D) NoMemory). IsThiefsResult gives deque r) was both.1)

-- ---- lists

-- what is true at each place is true pair by pair
pub zip_at : {A B : Type 0} (R : A → B → Type 0) (xs : List A) (ys : List B) → length ys ≡ length xs
    → ((i : ℕ) (d : B) → i < length xs
    → (a : A) × ((e : A) → get_or xs i e ≡ a) × R a (get_or ys i d)) → AllZip R xs ys
zip_at R [] [] same each = tt
zip_at R [] (y ∷ ys) same each = absurd (omega arith)
zip_at R (x ∷ xs) [] same each = absurd (omega arith)
zip_at {A} {B} R (x ∷ xs) (y ∷ ys) same each =
    let first = each 0 y (omega arith) in (
      subst (λ (a : A). R a y) (sym (first.1 x)) first.2,
      zip_at R xs ys (omega arith) (λ i d within. each (suc i) d (omega arith)),
    )

zip_last : {A B : Type 0} (R : A → B → Type 0) (xs : List A) (x : A) (ys : List B) (y : B)
    → AllZip R (xs ++ x ∷ []) (ys ++ y ∷ []) → AllZip R xs ys × R x y
zip_last R [] x [] y both = (tt, both.0)
zip_last R [] x (b ∷ []) y both = absurd both.1
zip_last R [] x (b ∷ b' ∷ ys) y both = absurd both.1
zip_last R (a ∷ []) x [] y both = absurd both.1
zip_last R (a ∷ a' ∷ xs) x [] y both = absurd both.1
zip_last R (a ∷ xs) x (b ∷ ys) y both =
    let rest = zip_last R xs x ys y both.1 in ((both.0, rest.0), rest.1)

zip_lengths : {A B : Type 0} (R : A → B → Type 0) (xs : List A) (ys : List B) → AllZip R xs ys
    → length ys ≡ length xs
zip_lengths R [] [] both = refl
zip_lengths R [] (y ∷ ys) both = absurd both
zip_lengths R (x ∷ xs) [] both = absurd both
zip_lengths R (x ∷ xs) (y ∷ ys) both = ap suc (zip_lengths R xs ys both.1)

holds_at : {X : Type 0} (P : X → Type 0) (xs : List X) → AllByRecursion P xs → (i : ℕ) (x : X)
    → i < length xs → x ≡ get_or xs i x → P x
holds_at P [] all i x within is = absurd (omega arith)
holds_at {X} P (y ∷ ys) all zero x within is = subst (λ (u : X). P u) (sym is) all.0
holds_at P (y ∷ ys) all (suc i) x within is = holds_at P ys all.1 i x (omega arith) is

pub both_hold : {X : Type 0} (P : X → Type 0) (xs : List X) (x : X) → AllByRecursion P xs → P x
    → AllByRecursion P (xs ++ x ∷ [])
both_hold P [] x all one = (one, tt)
both_hold P (y ∷ ys) x all one = (all.0, both_hold P ys x all.1 one)

-- ---- the seats before the map

thief_ready : {J : Type 0} (deque : OwnerOf J) (seat : Seat J) → IsThiefOf deque seat → IsReady seat
thief_ready deque (begun.Owner owner) is = absurd is
thief_ready deque (begun.Thief thief pass) is =
    ((is.1.0 ∙ sym (ap (λ d. d.0) is.0), is.1.1 ∙ sym (ap (λ d. d.1) is.0), is.1.2, is.1.3), is.2)

owner_ready : {J : Type 0} (deque : OwnerOf J) (parts : ℕ) (put : List (Piece J)) (seat : Seat J)
    → 0 < parts → IsOwnerOf deque parts put seat → IsReady seat
owner_ready deque parts put (begun.Owner owner) some_part is =
    (let p = ap (λ v. v.parts) is.1 in omega arith, ap (λ v. v.taken) is.1)
owner_ready deque parts put (begun.Thief thief pass) some_part is = absurd is

thieves_ready : {J : Type 0} (deque : OwnerOf J) (seats : List (Seat J))
    → AllByRecursion (IsThiefOf deque) seats → AllByRecursion IsReady seats
thieves_ready deque [] all = tt
thieves_ready deque (s ∷ ss) all = (thief_ready deque s all.0, thieves_ready deque ss all.1)

pub seats_ready : {J : Type 0} (put : List (Piece J)) (count : ℕ) (seats : List (Seat J))
    → AreSeats put count seats → All IsReady seats
seats_ready {J} put count seats s = λ k d within.
    holds_at IsReady seats
    (subst (λ (xs : List (Seat J)). AllByRecursion IsReady xs) (sym s.are)
    (both_hold IsReady s.thieves s.last (thieves_ready s.deque s.thieves s.all_thieves)
    (owner_ready s.deque (64 - count) put s.last (let few = s.few in omega arith) s.owner)))
    k (get_or seats k d) within (get_or_default seats k d (get_or seats k d) within)

-- ---- the results after the map

module _ {J D : Type 0} (gives : J → D → Type 0) where
  pub owner_serves : (seat : Seat J) (first owner : OwnerOf J) (dones : Vec (ℕ × D) Global)
      → seat ≡ begun.Owner first → worker_deque owner ≡ worker_deque first
      → (worker_view owner).parts ≡ (worker_view first).parts
      → (worker_view owner).put ≡ (worker_view first).put
      → Ran gives (worker_view owner).taken dones.items
      → Serves gives seat (Ok (ended.Owner owner dones))
  owner_serves seat first owner dones is same parts put ran =
      subst (λ (s : Seat J). Serves gives s (Ok (ended.Owner owner dones))) (sym is)
      record {
        thief = λ deque of. absurd of;
        owner = λ deque n pieces of. (
          same ∙ of.0,
          parts ∙ ap (λ v. v.parts) of.1,
          put
              ∙ ap (λ v. v.put) of.1,
          ran,
        );
      }

  pub thief_serves : (seat : Seat J) (thief : Stealer (Piece J) Global (Log J) Fair)
      (first pass : Pass (Piece J) (Log J) Global) (dones : Vec (ℕ × D) Global)
      → seat ≡ begun.Thief thief first → IsPassOf (stealer_deque thief) pass
      → (view pass).parts ≡ 1 → (view pass).put ≡ [] → Ran gives (view pass).taken dones.items
      → Serves gives seat (Ok (ended.Thief pass dones))
  thief_serves seat thief first pass dones is same parts put ran =
      subst (λ (s : Seat J). Serves gives s (Ok (ended.Thief pass dones))) (sym is)
      record {
        thief = λ deque of. (subst (λ d. IsPassOf d pass) of.0 same, parts, put, ran);
        owner = λ deque n pieces of. absurd of;
      }

  thieves_served : (deque : OwnerOf J) (seats : List (Seat J))
      (results : List (Result (Served J D) NoMemory)) → AllByRecursion (IsThiefOf deque) seats
      → AllZip (Serves gives) seats results → AllByRecursion (IsThiefsResult gives deque) results
  thieves_served deque [] [] all served = tt
  thieves_served deque [] (r ∷ rs) all served = absurd served
  thieves_served deque (s ∷ ss) [] all served = absurd served
  thieves_served deque (s ∷ ss) (r ∷ rs) all served =
      (served.0.thief deque all.0, thieves_served deque ss rs all.1 served.1)

  same_deque : (a b : OwnerOf J) (result : Result (Served J D) NoMemory)
      → worker_deque b ≡ worker_deque a → IsThiefsResult gives a result
      → IsThiefsResult gives b result
  same_deque a b (Ok (ended.Owner owner dones)) same is = absurd is
  same_deque a b (Ok (ended.Thief pass dones)) same is = (
    (is.0.0 ∙ sym (ap (λ d. d.0) same), is.0.1 ∙ sym (ap (λ d. d.1) same), is.0.2, is.0.3),
    is.1,
    is.2,
    is.3,
  )
  same_deque a b (Err e) same is = tt

  same_deques : (a b : OwnerOf J) (results : List (Result (Served J D) NoMemory))
      → worker_deque b ≡ worker_deque a → AllByRecursion (IsThiefsResult gives a) results
      → AllByRecursion (IsThiefsResult gives b) results
  same_deques a b [] same all = tt
  same_deques a b (r ∷ rs) same all = (same_deque a b r same all.0, same_deques a b rs same all.1)

  -- what is known of the owner, which comes back last, and of the results before it
  pub record ComesBack (put : List (Piece J)) (owner : OwnerOf J) (dones : Vec (ℕ × D) Global)
      (rest : List (Result (Served J D) NoMemory)) : Type 0 where
    pub parts : (worker_view owner).parts + length rest ≡ 64
    pub put_is : (worker_view owner).put ≡ put
    pub thieves : AllByRecursion (IsThiefsResult gives owner) rest
    pub ran : Ran gives (worker_view owner).taken dones.items

  pub come_back : (put : List (Piece J)) (count : ℕ) (seats : List (Seat J))
      (results : List (Result (Served J D) NoMemory)) → AreSeats put count seats
      → AllZip (Serves gives) seats results → AreResults gives put results
  come_back put count seats results are served =
      record { count = count; seats = seats; are_seats = are; served = served }

  pub comes_back : (put : List (Piece J)) (results rest : List (Result (Served J D) NoMemory))
      (owner : OwnerOf J) (dones : Vec (ℕ × D) Global)
      → AreResults gives put results
      → results ≡ rest ++ Ok (ended.Owner owner dones) ∷ [] → ComesBack put owner dones rest
  comes_back put results rest owner dones were is =
      let count = were.count in let seats =
      were.seats in let s = were.are_seats in let served = were.served in
      let all : AllZip (Serves gives) (s.thieves ++ s.last ∷ [])
      (rest ++ Ok (ended.Owner owner dones) ∷ []) =
      subst (λ (xs : List (Seat J)).
      AllZip (Serves gives) xs (rest ++ Ok (ended.Owner owner dones) ∷ [])) s.are
      (subst (λ (ys : List (Result (Served J D) NoMemory)). AllZip (Serves gives) seats ys) is
      served) in
      let parts = zip_last (Serves gives) s.thieves s.last rest
      (Ok (ended.Owner owner dones)) all in
      let mine = parts.1.owner s.deque (64 - count) put s.owner in
      let few = s.few in let counted = s.counted in let p = mine.1 in
      record {
        parts = omega (arith, zip_lengths (Serves gives) s.thieves rest parts.0);
        put_is = mine.2;
        thieves = same_deques s.deque owner rest mine.0
            (thieves_served s.deque s.thieves rest s.all_thieves parts.0);
        ran = mine.3;
      }
