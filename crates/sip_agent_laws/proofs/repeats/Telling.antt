-- What comes up adds to the stories of the held requests.
use Rattle.std.proofs.Common.{◌≡◌, ℕ, Bool, false, not, ◌&&◌, ◌||◌, List, [], ◌∷◌, ◌++◌, refl}
use Rattle.std.specs.Prelude.{Option, None, Some, filter}
use Rattle.std.specs.List.{list_any}
use Rattle.std.specs.Option.{option_map_or}
use Rattle.keyed_machine.proofs.Ordered.{by_bool}
use Rattle.sip_message.specs.declared.id.Id.{Id}
use Rattle.sip_message.specs.declared.rack.RAck.{RAck}
use Rattle.sip_transactions.specs.declared.output.UpKind.{UpKind}
use Rattle.sip_transactions.specs.declared.output.UpKind.TheVariants as kind
use Rattle.sip_transactions.specs.declared.output.Up.{Up}
use Rattle.sip_held_dialogs.specs.declared.held_dialog.DialogId.{DialogId}
use Rattle.sip_held_dialogs.specs.declared.held_dialog.HeldDialog.{HeldDialog}
use Rattle.sip_held_dialogs.specs.Dialogs.{dialog_at, takes}
use Rattle.sip_held_dialogs.specs.Requests.{dialog_id_of, has_to_tag, is_bye, is_cancel, is_prack, is_success, is_unknown_option}
use Rattle.sip_served.specs.declared.arrival.Arrival.{Arrival}
use Rattle.sip_served.specs.declared.held_request.HeldRequest.{HeldRequest}
use Rattle.sip_served.specs.declared.held_request.SuccessEnd.TheVariants.{Acknowledged}
use Rattle.sip_served.specs.Acknowledgment.{acknowledged_invite}
use Rattle.sip_served.specs.Arrival.{arrival_of, case_inside, case_of, case_outside, in_its_dialog, is_merged, named_invite, noted, prack_case}
use Rattle.sip_served.specs.Cancel.{cancelled_request, is_unanswered_invite, request_terminated, terminates}
use Rattle.sip_served.specs.RequestLife.{RequestHappening, EndsSuccess, Finishes, TakesPrack}
use Rattle.sip_served.specs.State.{State}
use Rattle.sip_served.specs.Telling.{Stories, arrival_told, happens_to, kind_told, told_by_cancel, told_by_case}
use Rattle.sip_agent_laws.specs.Repeats.Stories.{is_repeat}

by_option : {A X : Type 0} (o : Option A) → (o ≡ None → X) → ((a : A) → o ≡ Some a → X) → X
by_option None none some = none refl
by_option (Some a) none some = some a refl

-- a 2xx goes out
abbrev pub is_2xx : RequestHappening → Bool
is_2xx (Finishes response status now) = is_success status
is_2xx _ = false

-- What is true of the stories is true after what comes up: if nothing happens, if something happens
-- to one request that is no repeat and no 2xx, or if a request is held anew.
module _ (R : Stories → Type 0) (state : State) (stories : Stories) (none : R stories)
    (one : (id : Id) (more : List RequestHappening) → filter is_repeat more ≡ []
    → list_any is_2xx more ≡ false → R (happens_to id more stories))
    (new : (arrival : HeldRequest) → R (stories ++ record { arrival = arrival; life = [] } ∷ [])) where
  -- ---- what comes up

  module _ (name : DialogId) (arrival : Arrival) where
    for_user_so : R (stories
        ++ record {
          arrival = in_its_dialog (noted state name arrival.request).dialogs name arrival;
          life = [];
        } ∷ [])
    for_user_so =
        new (in_its_dialog (noted state name arrival.request).dialogs name arrival)

    prack_so : (created_by : Id) (o : Option RAck) → R
        (told_by_case (prack_case state.requests name created_by o) state name arrival stories)
    prack_so created_by None = none
    prack_so created_by (Some rack) =
        by_option (named_invite state.requests name created_by rack) (λ e. rw e none)
        (λ invite e. rw e (one invite (TakesPrack rack.rseq ∷ []) refl refl))

    inside_so : (o : Option HeldDialog) → R
        (told_by_case (case_inside state.requests name arrival.request o) state name arrival
        stories)
    inside_so None = none
    inside_so (Some held) =
        by_bool (takes held arrival.request.cseq.number)
        (λ e. by_bool (is_prack arrival.request)
        (λ f. rw (e, f) (prack_so held.created_by arrival.request.rack))
        (λ f. rw (e, f) for_user_so)) (λ e. rw e none)

    outside_so : R
        (told_by_case (case_outside arrival.request) state name arrival stories)
    outside_so =
        by_bool (is_bye arrival.request || is_prack arrival.request) (λ e. rw e none)
        (λ e. rw e for_user_so)

    case_so : R
        (told_by_case (case_of state.requests state.dialogs name arrival.request) state name
        arrival stories)
    case_so =
        by_bool (not (has_to_tag arrival.request)
        && list_any (is_merged arrival.request) state.requests) (λ e. rw e none)
        (λ e. by_bool (list_any is_unknown_option arrival.request.require) (λ f. rw (e, f) none)
        (λ f. by_bool (has_to_tag arrival.request)
        (λ g. rw (e, f, g) (inside_so (dialog_at name state.dialogs)))
        (λ g. rw (e, f, g) outside_so)))

  cancel_so : (now : ℕ) (o : Option HeldRequest) → R (told_by_cancel now o stories)
  cancel_so now None = none
  cancel_so now (Some held) =
      by_bool (is_unanswered_invite held)
      (λ e. rw e (one held.id (terminates (request_terminated held) now) refl refl))
      (λ e. rw e none)

  arrival_so : (arrival : Arrival) (now : ℕ)
      → R (arrival_told state arrival now stories)
  arrival_so arrival now =
      let name = dialog_id_of arrival.request arrival.tag in
      by_bool (is_cancel arrival.request)
      (λ e. rw e (cancel_so now (cancelled_request arrival.key state.requests)))
      (λ e. rw e (case_so name arrival))

  ack_so : (o : Option Id) → R
      (option_map_or (λ invite. happens_to invite (EndsSuccess Acknowledged ∷ []) stories) o
      stories)
  ack_so None = none
  ack_so (Some invite) = one invite (EndsSuccess Acknowledged ∷ []) refl refl

  pub kind_so : (tag : List ℕ) (up : Up) (k : UpKind) (now : ℕ)
      → R (kind_told state tag up k now stories)
  kind_so tag up (kind.Request request reply_to) now =
      arrival_so (arrival_of up request reply_to tag) now
  kind_so tag up (kind.Ack ack) now = ack_so (acknowledged_invite ack state.requests)
  kind_so tag up _ now = none
