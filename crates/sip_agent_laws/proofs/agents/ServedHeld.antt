-- The requests of the peer that a call holds without a final response, and what one change leaves.
use Rattle.std.proofs.Common.{◌≡◌, ◌⊎◌, inl, inr, ⊎_elim, Bool, true, false, List, [], ◌∷◌, map, refl, sym, ap, ◌∙◌}
use Rattle.std.specs.Prelude.{Option, None, Some, find, if◌then◌else◌}
use Rattle.std.specs.Cmp.{IsTotalOrder}
use Rattle.std.specs.Ordering.{is_eq}
use Rattle.std.specs.List.{AllByRecursion}
use Rattle.std.specs.List.Sorted.{IsStrictlySortedBy}
use Rattle.std.specs.declared.cmp.Ordering.TheVariants.{Less}
use Rattle.std.proofs.lemmas.Bool.{false≢true}
use Rattle.std.proofs.lemmas.Cmp.{nat_cmp_total, on_total, then_total}
use Rattle.sip_message.specs.declared.id.Id.{Id}
use Rattle.sip_message.specs.declared.key.Key.{Key}
use Rattle.keyed_machine.proofs.Ordered.{is_at_itself}
use Rattle.sip_transactions.specs.Ids.{IdsRise, id_cmp}
use Rattle.sip_user.specs.declared.item.CallOut.{CallOut}
use Rattle.sip_user.specs.declared.item.CallOut.TheVariants as out
use Rattle.sip_held_dialogs.specs.Ids.{is_id}
use Rattle.sip_clients.proofs.FirstInvite.{id_exact}
use Rattle.sip_served.specs.declared.held_request.HeldRequest.{HeldRequest}
use Rattle.sip_served.specs.State.{changed_at, changed_first, has_id}
use Rattle.sip_agent_laws.proofs.agents.Commands.{IsFinalFor}
use Rattle.sip_agent_laws.proofs.agents.Lists.{Among}

-- ---- lists with one change

-- what was there is there still, or changed
pub changed_or : {X : Type 0} (test : X → Bool) (f : X → X) (xs : List X) (x : X) → Among xs x
    → Among (changed_first test f xs) x
    ⊎ ((find test xs ≡ Some x) × Among (changed_first test f xs) (f x))
changed_or test f [] x among = absurd among
changed_or test f (y ∷ ys) x among =
    by (test y) among (changed_or test f ys x)
  where
    by : (b : Bool) → (y ≡ x) ⊎ Among ys x
        → (Among ys x → Among (changed_first test f ys) x
        ⊎ ((find test ys ≡ Some x) × Among (changed_first test f ys) (f x)))
        → Among (if b then f y ∷ ys else y ∷ changed_first test f ys) x
        ⊎ (((if b then Some y else find test ys) ≡ Some x)
        × Among (if b then f y ∷ ys else y ∷ changed_first test f ys) (f x))
    by true (inl same) more = inr (ap (λ z. Some z) same, inl (ap f same))
    by true (inr later) more = inl (inr later)
    by false (inl same) more = inl (inl same)
    by false (inr later) more =
        ⊎_elim (λ here. inl (inr here)) (λ found. inr (found.0, inr found.1)) (more later)

-- and what is there was there, or came of the change
pub changed_from : {X : Type 0} (test : X → Bool) (f : X → X) (xs : List X) (x : X)
    → Among (changed_first test f xs) x
    → Among xs x ⊎ (y : X) × (find test xs ≡ Some y) × (x ≡ f y)
changed_from test f [] x among = absurd among
changed_from test f (y ∷ ys) x among =
    by (test y) refl among (changed_from test f ys x)
  where
    by : (b : Bool) → test y ≡ b
        → Among (if b then f y ∷ ys else y ∷ changed_first test f ys) x
        → (Among (changed_first test f ys) x
        → Among ys x ⊎ (z : _) × (find test ys ≡ Some z) × (x ≡ f z))
        → Among (y ∷ ys) x
        ⊎ (z : _) × ((if b then Some y else find test ys) ≡ Some z) × (x ≡ f z)
    by true is (inl same) rest = inr (y, refl, sym same)
    by true is (inr later) rest = inl (inr later)
    by false is (inl same) rest = inl (inl same)
    by false is (inr later) rest =
        ⊎_elim (λ here. inl (inr here)) (λ found. inr found) (rest later)

-- ---- one request

module _ (k : Key) (id : Id) where
  -- it has this key and this id, and no final response
  pub record IsIt (held : HeldRequest) : Type 0 where
    pub id_is : held.id ≡ id
    pub key_is : held.key ≡ k
    pub unanswered : held.removal ≡ None

  abbrev pub Holds : List HeldRequest → Type 0
  Holds requests = (held : HeldRequest) × Among requests held × IsIt held

-- a final response for this transaction goes out
abbrev pub IsFinalOut : Key → CallOut → Type 0
IsFinalOut k (out.Notice notice) = ⊥
IsFinalOut k (out.Command id order) = IsFinalFor k order
IsFinalOut k (out.Direct to bytes) = ⊥

abbrev pub Says : Key → List CallOut → Type 0
Says k outs = (o : CallOut) × Among outs o × IsFinalOut k o

pub changed_holds : (k : Key) (id : Id) (test : HeldRequest → Bool) (f : HeldRequest → HeldRequest)
    (requests : List HeldRequest) → ((held : HeldRequest) → IsIt k id held → IsIt k id (f held))
    → Holds k id requests → Holds k id (changed_first test f requests)
changed_holds k id test f requests keeps ours =
    ⊎_elim (λ still. (ours.0, still, ours.2))
    (λ changed. (f ours.0, changed.1, keeps ours.0 ours.2))
    (changed_or test f requests ours.0 ours.1)

-- ---- ids that rise

ids_total : IsTotalOrder id_cmp
ids_total = then_total (on_total (λ (id : Id). id.round) nat_cmp_total)
    (on_total (λ (id : Id). id.place) nat_cmp_total)

pub less_itself : (x : Id) → id_cmp x x ≡ Less → ⊥
less_itself x less = false≢true (sym (ap is_eq less) ∙ is_at_itself ids_total x)

pub not_less : (x y : Id) → is_id x y ≡ true → id_cmp x y ≡ Less → ⊥
not_less x y same less =
    let here : id_cmp x x ≡ Less = ap (id_cmp x) (id_exact x y same) ∙ less in
    less_itself x here

pub above : (x : Id) (requests : List HeldRequest) (other : HeldRequest)
    → AllByRecursion (λ y. id_cmp x y ≡ Less) (map (λ held. held.id) requests)
    → Among requests other → id_cmp x other.id ≡ Less
above x [] other all among = absurd among
above x (held ∷ requests) other all (inl same) =
    ap (λ (h : HeldRequest). id_cmp x h.id) (sym same) ∙ all.0
above x (held ∷ requests) other all (inr later) = above x requests other all.1 later

same_back : (x y : Id) → is_id x y ≡ true → is_id y x ≡ true
same_back x y same =
    let is = id_exact x y same in ap (λ z. is_id y z) is ∙ (ap (λ z. is_id z y) (sym is) ∙ same)

-- requests with one id are one
pub apart_of : (requests : List HeldRequest) → IdsRise (map (λ held. held.id) requests)
    → (one other : HeldRequest) → Among requests one → Among requests other
    → is_id one.id other.id ≡ true → one ≡ other
unfolding IsStrictlySortedBy
apart_of [] rise = λ one other here there same. absurd here
apart_of (held ∷ requests) rise = λ one other here there same.
    ⊎_elim
    (λ first. ⊎_elim (λ too. sym first ∙ too)
    (λ later. absurd (not_less held.id other.id
    (ap (λ (h : HeldRequest). is_id h.id other.id) first ∙ same)
    (above held.id requests other rise.0 later))) there)
    (λ after. ⊎_elim
    (λ first. absurd (not_less held.id one.id
    (ap (λ (h : HeldRequest). is_id h.id one.id) first ∙ same_back one.id other.id same)
    (above held.id requests one rise.0 after)))
    (λ later. apart_of requests rise.1 one other after later same) there) here

-- of requests that are held by rising ids, at most one with the id of the change is left: the
-- changed one
pub changed_once : (id : Id) (f : HeldRequest → HeldRequest) (requests : List HeldRequest)
    → IdsRise (map (λ held. held.id) requests) → (x : HeldRequest)
    → Among (changed_at id f requests) x → is_id x.id id ≡ true
    → (y : HeldRequest) × (find (has_id id) requests ≡ Some y) × (x ≡ f y)
unfolding IsStrictlySortedBy
changed_once id f [] rise x among is = absurd among
changed_once id f (y ∷ ys) rise x among is =
    by (has_id id y) refl among (changed_once id f ys rise.1 x)
    (changed_from (has_id id) f ys x)
  where
    Found : Option HeldRequest → Type 0
    Found o = (z : HeldRequest) × (o ≡ Some z) × (x ≡ f z)

    later_id : is_id y.id id ≡ true → Among ys x → ⊥
    later_id same later =
        let here : is_id y.id x.id ≡ true =
        ap (λ i. is_id y.id i) (id_exact x.id id is) ∙ same in
        not_less y.id x.id here (above y.id ys x rise.0 later)

    by : (b : Bool) → has_id id y ≡ b → Among (if b then f y ∷ ys else y ∷ changed_at id f ys) x
        → (Among (changed_at id f ys) x → is_id x.id id ≡ true → Found (find (has_id id) ys))
        → (Among (changed_at id f ys) x
        → Among ys x ⊎ (z : HeldRequest) × (find (has_id id) ys ≡ Some z) × (x ≡ f z))
        → Found (if b then Some y else find (has_id id) ys)
    by true same (inl first) more from = (y, refl, sym first)
    by true same (inr later) more from = absurd (later_id same later)
    by false other (inl first) more from =
        absurd (false≢true (sym other ∙ (ap (λ (h : HeldRequest). is_id h.id id) first ∙ is)))
    by false other (inr later) more from = more later is
