-- A 487 of the user does the same to an INVITE as a CANCEL.
use Rattle.std.proofs.Common.{◌≡◌, ℕ, Bool, true, false, ◌&&◌, List, [], ◌∷◌, refl, ap, ◌∙◌}
use Rattle.std.specs.Prelude.{Option, None, Some, find, is_none, is_some}
use Rattle.keyed_machine.proofs.Ordered.{by_bool}
use Rattle.sip_message.specs.declared.addr.Addr.{Addr}
use Rattle.sip_message.specs.declared.id.Id.{Id}
use Rattle.sip_message.specs.declared.message.Message.{Message}
use Rattle.sip_message.specs.Content.{with_content_of}
use Rattle.sip_transactions.specs.declared.input.Command.TheVariants.{Answer}
use Rattle.sip_user.specs.declared.command.Reliability.TheVariants.{Plain}
use Rattle.sip_served.specs.declared.held_request.HeldRequest.{HeldRequest}
use Rattle.sip_user.specs.declared.item.CallOut.{CallOut}
use Rattle.sip_user.specs.declared.item.CallOut.TheVariants.{Command}
use Rattle.sip_served.specs.Cancel.{invite_terminated, is_unanswered_invite, request_terminated, user_termination}
use Rattle.sip_held_dialogs.specs.Dialogs.{early_ended, Dialogs}
use Rattle.sip_held_dialogs.specs.Requests.{is_invite}
use Rattle.sip_served.specs.RequestLife.{Finishes, went_on}
use Rattle.sip_served.specs.Respond.{answer_given, answer_to, answered, answers, by_refusal, by_request, dialogs_answered, finished, refusal_for, respond_taken, with_dialog}
use Rattle.sip_served.specs.State.{State, ServedTaken, changed_at, followed, has_id}

both : (x y : Bool) → (x && y) ≡ true → (x ≡ true) × (y ≡ true)
both true y e = (refl, e)
both false y e = absurd cc

is_open : {A : Type 0} (o : Option A) → is_none o ≡ true → is_some o ≡ false
is_open None e = refl
is_open (Some x) e = absurd cc

module _ (event : Id) (call_id : List ℕ) (held : HeldRequest) where
  unrefused : (dialogs : Dialogs) → is_invite held.request ≡ true → is_some held.removal ≡ false
      → refusal_for dialogs (user_termination call_id held.id) held ≡ None
  unrefused dialogs invite open_ = rw (open_, invite) refl

  same_response : (local : Addr) → is_invite held.request ≡ true
      → answer_to local held (user_termination call_id held.id) ≡ request_terminated held
  unfolding with_content_of
  same_response local invite = rw invite refl

  same_dialogs : (response : Message) (dialogs : Dialogs) → is_invite held.request ≡ true
      → dialogs_answered event held 487 response dialogs ≡ early_ended held.id dialogs
  same_dialogs response dialogs invite = rw invite refl

  makes_none : (one : HeldRequest) → with_dialog event 487 one ≡ one
  makes_none one = by_bool (is_invite one.request) (λ e. rw e refl) (λ e. rw e refl)

  is_final : (response : Message) (now : ℕ) (one : HeldRequest)
      → answered 487 Plain response now one ≡ finished response 487 now one
  is_final response now one = ap (λ life. went_on life one) one_answer
    where
      one_answer : answers one 487 Plain response now ≡ Finishes response 487 now ∷ []
      one_answer = by_bool (is_invite one.request) (λ e. rw e refl) (λ e. rw e refl)

  same_change : (response : Message) (now : ℕ) (one : HeldRequest)
      → answered 487 Plain response now (with_dialog event 487 one) ≡ finished response 487 now one
  same_change response now one =
      ap (answered 487 Plain response now) (makes_none one) ∙ is_final response now one

  abbrev left : State → ℕ → Message → Dialogs × List CallOut → ServedTaken
  left state now response dialogs = (
    record state {
      requests = changed_at held.id (finished response 487 now) state.requests;
      dialogs = dialogs.0;
    },
    Command held.id (Answer held.key response) ∷ dialogs.1,
  )

  given : (state : State) (now : ℕ) → is_invite held.request ≡ true
      → answer_given state event (user_termination call_id held.id) now held
      ≡ left state now (request_terminated held) (early_ended held.id state.dialogs)
  given state now invite =
      let response = answer_to state.local held (user_termination call_id held.id) in
      let dialogs = dialogs_answered event held 487 response state.dialogs in
      (λ i. (
        record state {
          requests = changed_at held.id (λ one. same_change response now one i) state.requests;
          dialogs = dialogs.0;
        },
        Command held.id (Answer held.key response) ∷ dialogs.1,
      ))
      ∙ ap (left state now response) (same_dialogs response state.dialogs invite)
      ∙ ap (λ response. left state now response (early_ended held.id state.dialogs))
      (same_response state.local invite)

pub user_terminates : (state : State) (event : Id) (call_id : List ℕ) (now : ℕ)
    (held : HeldRequest) → find (has_id held.id) state.requests ≡ Some held
    → is_unanswered_invite held ≡ true
    → respond_taken state event (user_termination call_id held.id) now
    ≡ followed (state, Command held.id (Answer held.key (request_terminated held)) ∷ [])
    (invite_terminated (request_terminated held) held.id now)
user_terminates state event call_id now held found unanswered =
    let parts = both (is_invite held.request) (is_none held.removal) unanswered in
    let r = user_termination call_id held.id in
    ap (by_request state event r now) found
    ∙ ap (by_refusal state event r now held)
    (unrefused event call_id held state.dialogs parts.0 (is_open held.removal parts.1))
    ∙ given event call_id held state now parts.0
