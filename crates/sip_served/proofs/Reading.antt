-- What is read of the request of an id, and what outputs say of it.
use Rattle.std.proofs.Common.{◌≡◌, ℕ, Bool, true, false, cond, List, [], ◌∷◌, ◌++◌, refl, sym, ap, subst, ◌∙◌}
use Rattle.std.specs.Prelude.{Option, None, Some, IfSome, find, fold}
use Rattle.std.specs.Option.{option_map, option_map_or}
use Rattle.sip_message.specs.declared.addr.Addr.{Addr}
use Rattle.sip_message.specs.declared.id.Id.{Id}
use Rattle.sip_message.specs.declared.key.Key.{Key}
use Rattle.sip_message.specs.declared.message.Message.{Message}
use Rattle.sip_transactions.specs.declared.input.Command.TheVariants as order
use Rattle.sip_user.specs.declared.command.Respond.{Respond as Answer}
use Rattle.sip_held_dialogs.specs.declared.held_dialog.DialogReference.{DialogReference}
use Rattle.sip_held_dialogs.specs.declared.held_dialog.HeldDialog.{HeldDialog}
use Rattle.sip_user.specs.declared.item.CallOut.{CallOut}
use Rattle.sip_user.specs.declared.item.CallOut.TheVariants as out
use Rattle.sip_user.specs.declared.notice.Notice.TheVariants as notice
use Rattle.sip_user.specs.declared.refusal.Refusal.{Refusal}
use Rattle.sip_held_dialogs.specs.Dialogs.{ended_notice}
use Rattle.sip_held_dialogs.specs.Ids.{is_id}
use Rattle.sip_served.specs.declared.arrival.Arrival.{Arrival}
use Rattle.sip_served.specs.declared.held_request.HeldRequest.{HeldRequest}
use Rattle.sip_served.specs.declared.held_request.SuccessEnd.TheVariants.{Acknowledged}
use Rattle.sip_served.specs.Acknowledgment.{success_ended}
use Rattle.sip_served.specs.Arrival.{held_first, pracked}
use Rattle.sip_served.specs.Cancel.{request_terminated}
use Rattle.sip_served.specs.Respond.{after_answer, answer_to, finished}
use Rattle.sip_served.specs.State.{changed_at, has_id}
use Rattle.sip_served.specs.Tick.{request_ticked}
use Rattle.sip_served.proofs.Found.{found_changed, same_found}

pub fold_on : {X Y : Type 0} (f : X → Y → X) (x : X) (ys zs : List Y)
    → fold f x (ys ++ zs) ≡ fold f (fold f x ys) zs
fold_on f x [] zs = refl
fold_on f x (y ∷ ys) zs = fold_on f (f x y) ys zs

-- what is read of a held request, or of none, and what the outputs of an item and of a tick say of
-- it
pub record Reading (X : Type 0) : Type 0 where
  pub none : X
  pub read : HeldRequest → X
  pub by : X → CallOut → X
  pub ticks : X → CallOut → X

-- What the outputs say of the request of this id is true: at each change of a request the output
-- about it says what is read afterwards, and no other output says anything of it.
pub record IsTold (X : Type 0) (reading : Reading X) (invite : Id) : Type 0 where
  -- outputs that say nothing of it
  pub another : (id : Id) → is_id id invite ≡ false → (key : Key) (response : Message) (x : X)
      → reading.by x (out.Command id (order.Answer key response)) ≡ x
  pub request : (call_id : List ℕ) (id : Id) (method local remote body : List ℕ) (x : X)
      → reading.by x (out.Notice (notice.Request call_id id method local remote body)) ≡ x
  pub ended : (dialog : HeldDialog) (x : X) → reading.by x (ended_notice dialog) ≡ x
  pub refusal : (call_id : List ℕ) (place : ℕ) (refusal : Refusal) (x : X)
      → reading.by x (out.Notice (notice.Refused call_id place refusal)) ≡ x
  pub cancel : (call_id : List ℕ) (id : Id) (x : X)
      → reading.by x (out.Notice (notice.Cancel call_id id)) ≡ x
  -- nothing is said yet of a request that comes up
  pub new : (arrival : Arrival) (dialog : Option DialogReference)
      → reading.read (held_first dialog arrival) ≡ reading.none
  -- a PRACK and an ACK
  pub prack : (call_id : List ℕ) (id : Id) (rseq : ℕ) (body : List ℕ) → is_id id invite ≡ true
      → (held : HeldRequest) → reading.read (pracked rseq held)
      ≡ reading.by (reading.read held) (out.Notice (notice.Prack call_id id rseq body))
  pub other_prack : (call_id : List ℕ) (id : Id) (rseq : ℕ) (body : List ℕ)
      → is_id id invite ≡ false → (x : X)
      → reading.by x (out.Notice (notice.Prack call_id id rseq body)) ≡ x
  pub ack : (call_id : List ℕ) (id : Id) (body : List ℕ) → is_id id invite ≡ true
      → (held : HeldRequest) → reading.read (success_ended Acknowledged held)
      ≡ reading.by (reading.read held) (out.Notice (notice.Ack call_id id body))
  pub other_ack : (call_id : List ℕ) (id : Id) (body : List ℕ) → is_id id invite ≡ false
      → (x : X) → reading.by x (out.Notice (notice.Ack call_id id body)) ≡ x
  -- an answer: that to a CANCEL, and the user's
  pub terminated : (id : Id) → is_id id invite ≡ true → (of : HeldRequest) (key : Key) (now : ℕ)
      (held : HeldRequest) → reading.read (finished (request_terminated of) 487 now held)
      ≡ reading.by (reading.read held) (out.Command id (order.Answer key (request_terminated of)))
  pub given : (id : Id) → is_id id invite ≡ true → (local : Addr) (key : Key) (event : Id)
      (r : Answer) (now : ℕ) (held : HeldRequest)
      → reading.read (after_answer event r (answer_to local held r) now held)
      ≡ reading.by (reading.read held) (out.Command id (order.Answer key (answer_to local held r)))
  -- a tick
  pub ticked : (now : ℕ) (held : HeldRequest) → is_id held.id invite ≡ true
      → reading.read (request_ticked now held).0
      ≡ fold reading.ticks (reading.read held) (request_ticked now held).1
  pub other_ticked : (now : ℕ) (held : HeldRequest) → is_id held.id invite ≡ false → (x : X)
      → fold reading.ticks x (request_ticked now held).1 ≡ x

module _ {X : Type 0} (reading : Reading X) where
  -- what is read of the request that is found
  abbrev pub read_of : Option HeldRequest → X
  read_of o = option_map_or reading.read o reading.none

  -- outputs of an item say nothing of it
  abbrev pub Silent : List CallOut → Type 0
  Silent outs = (x : X) → fold reading.by x outs ≡ x

  pub silent_both : (xs ys : List CallOut) → Silent xs → Silent ys → Silent (xs ++ ys)
  silent_both xs ys first second x =
      fold_on reading.by x xs ys ∙ ap (λ x. fold reading.by x ys) (first x) ∙ second x

  -- outputs of a tick say nothing of it
  abbrev pub Quiet : List CallOut → Type 0
  Quiet outs = (x : X) → fold reading.ticks x outs ≡ x

  pub quiet_both : (xs ys : List CallOut) → Quiet xs → Quiet ys → Quiet (xs ++ ys)
  quiet_both xs ys first second x =
      fold_on reading.ticks x xs ys ∙ ap (λ x. fold reading.ticks x ys) (first x) ∙ second x

  -- what is read after an item is what its outputs say
  abbrev pub FollowsAs : Option HeldRequest → Option HeldRequest → List CallOut → Type 0
  FollowsAs before after outs =
      IfSome after (λ held. reading.read held ≡ fold reading.by (read_of before) outs)

  -- the same for a tick
  abbrev pub TicksAs : Option HeldRequest → Option HeldRequest → List CallOut → Type 0
  TicksAs before after outs =
      IfSome after (λ held. reading.read held ≡ fold reading.ticks (read_of before) outs)

  as_before : (o : Option HeldRequest) (outs : List CallOut) → Silent outs → FollowsAs o o outs
  as_before None outs silent = tt
  as_before (Some held) outs silent = sym (silent (reading.read held))

-- ---- an item

module _ {X : Type 0} (reading : Reading X) (invite : Id) where
  abbrev pub Follows : List HeldRequest → List HeldRequest → List CallOut → Type 0
  Follows before after outs =
      FollowsAs reading (find (has_id invite) before) (find (has_id invite) after) outs

  pub same_follows : (requests : List HeldRequest) (outs : List CallOut) → Silent reading outs
      → Follows requests requests outs
  same_follows requests outs silent =
      as_before reading (find (has_id invite) requests) outs silent

  -- a request is changed, and the outputs say so, and nothing of another
  pub changed_follows : (k : Id) (change : HeldRequest → HeldRequest)
      → ((held : HeldRequest) → (change held).id ≡ held.id) → (requests : List HeldRequest)
      (outs : List CallOut)
      → (is_id k invite ≡ true → (held : HeldRequest) → find (has_id k) requests ≡ Some held
      → reading.read (change held) ≡ fold reading.by (reading.read held) outs)
      → (is_id k invite ≡ false → Silent reading outs)
      → Follows requests (changed_at k change requests) outs
  changed_follows k change keeps requests outs own other =
      let before = find (has_id invite) requests in
      subst (λ after. FollowsAs reading before after outs)
      (sym (found_changed k invite change keeps requests)) (by_id (is_id k invite) refl before refl)
    where
      by_id : (b : Bool) → is_id k invite ≡ b → (o : Option HeldRequest)
          → find (has_id invite) requests ≡ o
          → FollowsAs reading o (cond b (option_map change o) o) outs
      by_id false apart o at = as_before reading o outs (other apart)
      by_id true same None at = tt
      by_id true same (Some held) at =
          own same held (sym (same_found k invite same requests) ∙ at)

  -- the same after a response to a request that isn't held
  pub answer_first : ((id : Id) → is_id id invite ≡ false → (key : Key) (response : Message) (x : X)
      → reading.by x (out.Command id (order.Answer key response)) ≡ x) → (id : Id) (key : Key)
      (response : Message) (before after : List HeldRequest) (outs : List CallOut)
      → find (has_id id) before ≡ None
      → (find (has_id invite) before ≡ None → find (has_id invite) after ≡ None)
      → Follows before after outs
      → Follows before after (out.Command id (order.Answer key response) ∷ outs)
  answer_first another id key response before after outs fresh stays follows =
      by_id (is_id id invite) refl
    where
      first : CallOut
      first = out.Command id (order.Answer key response)

      by_id : (b : Bool) → is_id id invite ≡ b → Follows before after (first ∷ outs)
      by_id true own =
          subst (λ o. FollowsAs reading (find (has_id invite) before) o (first ∷ outs))
          (sym (stays (same_found id invite own before ∙ fresh))) tt
      by_id false other =
          by_found (find (has_id invite) before) (find (has_id invite) after) follows
        where
          by_found : (o after : Option HeldRequest) → FollowsAs reading o after outs
              → FollowsAs reading o after (first ∷ outs)
          by_found o None so = tt
          by_found o (Some held) so =
              so ∙ sym (ap (λ x. fold reading.by x outs)
              (another id other key response (read_of reading o)))
