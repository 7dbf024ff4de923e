-- The held requests: which is found after a step, with the same id.
use Rattle.std.proofs.Common.{◌≡◌, ℕ, Bool, true, false, cond, List, [], ◌∷◌, ◌++◌, refl, sym, ap, ◌∙◌}
use Rattle.std.specs.Prelude.{Option, None, Some, find, if◌then◌else◌}
use Rattle.std.specs.Option.{option_map, option_map_or}
use Rattle.sip_message.specs.declared.id.Id.{Id}
use Rattle.sip_message.specs.declared.message.Message.{Message}
use Rattle.sip_reliable.specs.Ledger.{tick_answer}
use Rattle.sip_user.specs.declared.command.Respond.{Respond as Answer}
use Rattle.sip_held_dialogs.specs.declared.held_dialog.DialogId.{DialogId}
use Rattle.sip_user.specs.declared.item.CallOut.{CallOut}
use Rattle.sip_held_dialogs.specs.Dialogs.{Dialogs, dialog_changed, visited}
use Rattle.sip_held_dialogs.specs.Ids.{is_id}
use Rattle.sip_held_dialogs.specs.Requests.{has_to_tag}
use Rattle.sip_held_dialogs.proofs.Heard.{id_laws}
use Rattle.sip_served.specs.declared.held_request.HeldRequest.{HeldRequest}
use Rattle.sip_served.specs.Arrival.{noted}
use Rattle.sip_served.specs.Respond.{after_answer, answer_to, answers, makes, with_dialog}
use Rattle.sip_served.specs.State.{State, ServedTaken, changed_at, has_id}
use Rattle.sip_served.specs.Tick.{provisionals_go, request_ticked, success_ticked}
use Rattle.sip_served.proofs.RequestLives.{lives_id, success_alone}

-- ---- what is found

pub same_found : (k q : Id) → is_id k q ≡ true → (requests : List HeldRequest)
    → find (has_id q) requests ≡ find (has_id k) requests
same_found k q same [] = refl
same_found k q same (held ∷ requests) =
    let e : is_id held.id q ≡ is_id held.id k =
    id_laws.symm held.id q ∙ sym (id_laws.congr k q held.id same) ∙ id_laws.symm k held.id in
    λ i. cond (e i) (Some held) (same_found k q same requests i)

-- a new request is found if none was before
pub found_more : (q : Id) (requests : List HeldRequest) (new : HeldRequest)
    → find (has_id q) (requests ++ new ∷ [])
    ≡ option_map_or (λ held. Some held) (find (has_id q) requests)
    (cond (is_id new.id q) (Some new) None)
found_more q [] new = refl
found_more q (held ∷ requests) new =
    elim (is_id held.id q) as (λ b. cond b (Some held) (find (has_id q) (requests ++ new ∷ []))
    ≡ option_map_or (λ held. Some held) (cond b (Some held) (find (has_id q) requests))
    (cond (is_id new.id q) (Some new) None)) [
      | true ↦ refl
      | false ↦ found_more q requests new
    ]

-- one is changed in its place
module _ (k q : Id) (change : HeldRequest → HeldRequest)
    (keeps : (held : HeldRequest) → (change held).id ≡ held.id) where
  abbrev Changed : Option HeldRequest → Option HeldRequest → Type 0
  Changed before after = after ≡ cond (is_id k q) (option_map change before) before

  at_one : (held : HeldRequest) (rest : Option HeldRequest) → is_id held.id k ≡ true
      → (b : Bool) → is_id held.id q ≡ b
      → cond (is_id (change held).id q) (Some (change held)) rest
      ≡ cond (is_id k q) (option_map change (cond b (Some held) rest)) (cond b (Some held) rest)
  at_one held rest here b is =
      let there : is_id k q ≡ b = sym (id_laws.congr held.id k q here) ∙ is in
      let kept : is_id (change held).id q ≡ b = ap (λ id. is_id id q) (keeps held) ∙ is in
      ap (λ c. cond c (Some (change held)) rest) kept
      ∙ by_b b
      ∙ ap (λ c. cond c (option_map change (cond b (Some held) rest)) (cond b (Some held) rest))
      (sym there)
    where
      by_b : (b : Bool) → cond b (Some (change held)) rest
          ≡ cond b (option_map change (cond b (Some held) rest)) (cond b (Some held) rest)
      by_b true = refl
      by_b false = refl

  past_one : (held : HeldRequest) (before after : Option HeldRequest) → is_id held.id k ≡ false
      → Changed before after → (b : Bool) → is_id held.id q ≡ b
      → Changed (cond b (Some held) before) (cond b (Some held) after)
  past_one held before after other later false is = later
  past_one held before after other later true is =
      let apart : is_id k q ≡ false =
      id_laws.symm k q ∙ sym (id_laws.congr held.id q k is) ∙ other in
      ap (λ c. cond c (option_map change (Some held)) (Some held)) (sym apart)

  pub found_changed : (requests : List HeldRequest)
      → Changed (find (has_id q) requests) (find (has_id q) (changed_at k change requests))
  found_changed [] = by_b (is_id k q)
    where
      by_b : (b : Bool) → None ≡ cond b (option_map change None) None
      by_b true = refl
      by_b false = refl
  found_changed (held ∷ requests) =
      by_here (is_id held.id k) refl (found_changed requests)
    where
      by_here : (b : Bool) → is_id held.id k ≡ b
          → Changed (find (has_id q) requests) (find (has_id q) (changed_at k change requests))
          → Changed (find (has_id q) (held ∷ requests))
          (find (has_id q) (cond b (change held ∷ requests)
          (held ∷ changed_at k change requests)))
      by_here true here later =
          at_one held (find (has_id q) requests) here (is_id held.id q) refl
      by_here false other later =
          past_one held (find (has_id q) requests)
          (find (has_id q) (changed_at k change requests)) other later (is_id held.id q) refl

-- the one that is found has the id
pub found_id : (q : Id) (requests : List HeldRequest) (held : HeldRequest)
    → find (has_id q) requests ≡ Some held → is_id held.id q ≡ true
found_id q [] held is = absurd cc
found_id q (first ∷ requests) held is =
    by_first (is_id first.id q) refl is (λ later. found_id q requests held later)
  where
    by_first : (b : Bool) → is_id first.id q ≡ b
        → cond b (Some first) (find (has_id q) requests) ≡ Some held
        → (find (has_id q) requests ≡ Some held → is_id held.id q ≡ true)
        → is_id held.id q ≡ true
    by_first true passes is rest =
        let same : first ≡ held = cc in
        ap (λ (held : HeldRequest). is_id held.id q) (sym same) ∙ passes
    by_first false fails is rest = rest is

-- ---- what no step changes

pub noted_requests : (state : State) (name : DialogId) (request : Message)
    → (noted state name request).requests ≡ state.requests
noted_requests state name request =
    elim (has_to_tag request) as (λ b. (if b
    then record state { dialogs = dialog_changed name (visited request) state.dialogs }
    else state).requests ≡ state.requests) [ true ↦ refl | false ↦ refl ]

pub bye_requests : (b : Bool) (state : State) (dialogs : Dialogs) (outs : List CallOut)
    → ((cond {A = ServedTaken} b (record state { dialogs = dialogs }, outs) (state, [])).0).requests
    ≡ state.requests
bye_requests true state dialogs outs = refl
bye_requests false state dialogs outs = refl

module _ (state : State) (event : Id) (r : Answer) (now : ℕ) (held : HeldRequest) where
  -- a request after the answer to this one
  abbrev pub change : HeldRequest → HeldRequest
  change = after_answer event r (answer_to state.local held r) now

  pub keeps : (other : HeldRequest) → (change other).id ≡ other.id
  keeps other =
      let made = with_dialog event r.status other in
      lives_id (answers made r.status r.reliability (answer_to state.local held r) now) made
      ∙ lives_id (makes event other r.status) other

pub passed_id : (now : ℕ) (held : HeldRequest) → ((request_ticked now held).0).id ≡ held.id
passed_id now held =
    let first = (success_ticked now held).0 in
    lives_id (provisionals_go (tick_answer first.ledger now) now) first
    ∙ ap (λ (held : HeldRequest). held.id) (success_alone now held held.success).1
