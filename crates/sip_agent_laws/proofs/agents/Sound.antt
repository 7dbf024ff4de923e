-- Each call that takes an item holds the requests of the peer by rising ids.
use Rattle.std.proofs.Common.{◌≡◌, ℕ, false, cond, List, [], ◌∷◌, ◌++◌, map, refl, sym, ap, ◌∙◌, append_assoc, subst}
use Rattle.std.specs.Prelude.{Option, None, filter, filter_map}
use Rattle.std.specs.BTreeMap.{is_at}
use Rattle.std.specs.List.Sorted.{IsStrictlySortedBy}
use Rattle.std.specs.declared.cmp.Ordering.TheVariants.{Less}
use Rattle.std.proofs.lemmas.Cmp.{nat_list_cmp_total}
use Rattle.std.proofs.lemmas.List.Elements.{filter_map-append}
use Rattle.std.proofs.lemmas.Map.Lookups.{exact_bytes}
use Rattle.sip_message.specs.declared.id.Id.{Id}
use Rattle.sip_message.specs.declared.key.Key.{Key}
use Rattle.keyed_machine.specs.declared.item.Item.{Item}
use Rattle.keyed_machine.specs.Machine.{Timed, next}
use Rattle.keyed_machine.specs.Phase.{inputs_of}
use Rattle.keyed_machine.proofs.Ordered.{by_bool, exact_at, is_at_itself}
use Rattle.sip_transactions.specs.Ids.{IdsRise, id_cmp}
use Rattle.sip_calls.specs.declared.call.Call.{Call}
use Rattle.sip_calls.specs.declared.calls.Calls.{Calls}
use Rattle.sip_calls.specs.Call.{CallItem, call_machine, call_step}
use Rattle.sip_calls.specs.CallShard.{call_cmp}
use Rattle.sip_calls.specs.HeldById.{RequestsRise}
use Rattle.sip_calls.specs.HeldRequests.{request_brought, requests_held}
use Rattle.sip_calls.specs.Histories.{call_from}
use Rattle.sip_calls.proofs.HeldById.{held_by_id}
use Rattle.sip_agent_laws.proofs.agents.Lists.{front_of}
use Rattle.sip_agent_laws.proofs.agents.SecondPhase.{AreSound, CallItems, CallStates, after_item}

-- ---- ids that rise

front_rises : (xs ys : List Id) → IdsRise (xs ++ ys) → IdsRise xs
unfolding IsStrictlySortedBy
front_rises [] ys rise = tt
front_rises (x ∷ xs) ys rise =
    (front_of (λ y. id_cmp x y ≡ Less) xs ys rise.0, front_rises xs ys rise.1)

pub first_rise : (one other : List (Timed CallItem)) → RequestsRise (one ++ other)
    → RequestsRise one
first_rise one other rise =
    front_rises (filter_map (λ timed. request_brought timed.input) one)
    (filter_map (λ timed. request_brought timed.input) other)
    (subst IdsRise (filter_map-append (λ (timed : Timed CallItem). request_brought timed.input) one
    other) rise)

-- ---- items of calls

-- a call is what inputs left, and the requests in these and in more inputs rise
pub record Behind (calls : Calls) (call : Option Call) (more : List (Timed CallItem))
    : Type 0 where
  pub before : List (Timed CallItem)
  pub is : call_from calls None before ≡ call
  pub rise : RequestsRise (before ++ more)

pub one_more : (calls : Calls) (call : Option Call) (before : List (Timed CallItem))
    (input : Timed CallItem)
    → call_from calls call (before ++ input ∷ [])
    ≡ (call_step calls (call_from calls call before) input.input input.moment).0
one_more calls call [] input = refl
one_more calls call (first ∷ before) input =
    one_more calls (call_step calls call first.input first.moment).0 before input

behind_next : (calls : Calls) (call : Option Call) (input : Timed CallItem)
    (more : List (Timed CallItem)) → Behind calls call (input ∷ more)
    → Behind calls (call_step calls call input.input input.moment).0 more
behind_next calls call input more behind = record {
  before = behind.before ++ input ∷ [];
  is = one_more calls None behind.before input
      ∙ ap (λ c. (call_step calls c input.input input.moment).0) behind.is;
  rise = subst RequestsRise (sym (append_assoc behind.before (input ∷ []) more)) behind.rise;
}

pub behind_rise : (calls : Calls) (call : Option Call) (more : List (Timed CallItem))
    → Behind calls call more → IdsRise (map (λ held. held.id) (requests_held call))
behind_rise calls call more behind =
    subst (λ c. IdsRise (map (λ held. held.id) (requests_held c))) behind.is
    (held_by_id calls behind.before (first_rise behind.before more behind.rise))

module _ (calls : Calls) (k : Key) (now : ℕ) where
  pub own_first : (item : Item (List ℕ) (Timed CallItem)) (items : CallItems) (q : List ℕ)
      → item.key ≡ q
      → inputs_of call_cmp (item ∷ items) q ≡ item.input ∷ inputs_of call_cmp items q
  own_first item items q same =
      ap (λ b. map (λ (i : Item (List ℕ) (Timed CallItem)). i.input)
      (cond b (item ∷ filter (λ i. is_at (call_cmp i.key) q) items)
      (filter (λ i. is_at (call_cmp i.key) q) items)))
      (ap (λ c. is_at (call_cmp c) q) same ∙ is_at_itself nat_list_cmp_total q)

  pub own_other : (item : Item (List ℕ) (Timed CallItem)) (items : CallItems) (q : List ℕ)
      → is_at (call_cmp item.key) q ≡ false
      → inputs_of call_cmp (item ∷ items) q ≡ inputs_of call_cmp items q
  own_other item items q miss =
      ap (λ b. map (λ (i : Item (List ℕ) (Timed CallItem)). i.input)
      (cond b (item ∷ filter (λ i. is_at (call_cmp i.key) q) items)
      (filter (λ i. is_at (call_cmp i.key) q) items))) miss

  pub after_one : (states : CallStates) (item : Item (List ℕ) (Timed CallItem)) (items : CallItems)
      → ((q : List ℕ) → Behind calls (states q) (inputs_of call_cmp (item ∷ items) q))
      → (q : List ℕ)
      → Behind calls (after_item calls k now states item q) (inputs_of call_cmp items q)
  after_one states item items each q =
      by_bool (is_at (call_cmp item.key) q)
      (λ hit.
      let same = exact_at nat_list_cmp_total exact_bytes item.key q hit in
      subst (λ call. Behind calls call (inputs_of call_cmp items q))
      (sym (ap (λ b. cond b (next (call_machine calls) item.key (states item.key) item.input)
      (states q)) hit))
      (subst (λ c. Behind calls (next (call_machine calls) item.key (states item.key) item.input)
      (inputs_of call_cmp items c)) same
      (behind_next calls (states item.key) item.input (inputs_of call_cmp items item.key)
      (subst (Behind calls (states item.key)) (own_first item items item.key refl)
      (each item.key)))))
      (λ miss. subst (λ call. Behind calls call (inputs_of call_cmp items q))
      (sym (ap (λ b. cond b (next (call_machine calls) item.key (states item.key) item.input)
      (states q)) miss))
      (subst (Behind calls (states q)) (own_other item items q miss) (each q)))

  pub sound_items : (items : CallItems) (states : CallStates)
      → ((q : List ℕ) → Behind calls (states q) (inputs_of call_cmp items q))
      → AreSound calls k now states items
  sound_items [] states each = tt
  sound_items (item ∷ items) states each = (
    behind_rise calls (states item.key) (inputs_of call_cmp (item ∷ items) item.key)
        (each item.key),
    sound_items items (after_item calls k now states item) (after_one states item items each),
  )
