-- Each reliable provisional response that a user is told of comes up at one of the call's inputs,
-- to a held INVITE.
use Rattle.std.proofs.Common.{◌≡◌, ℕ, Bool, true, false, List, [], ◌∷◌, ◌++◌, refl, sym, ◌∙◌, subst, append_assoc}
use Rattle.std.specs.Prelude.{Contains, Option, None, Some, filter, if◌then◌else◌}
use Rattle.std.specs.List.{AllByRecursion}
use Rattle.std.specs.Option.{option_and_then}
use Rattle.sip_message.specs.declared.id.Id.{Id}
use Rattle.sip_message.specs.declared.message.Message.{Message}
use Rattle.keyed_machine.specs.Machine.{Timed}
use Rattle.sip_transactions.specs.declared.output.UpKind.{UpKind}
use Rattle.sip_transactions.specs.declared.output.UpKind.TheVariants as kind
use Rattle.sip_transactions.specs.declared.output.Up.{Up as AnUp}
use Rattle.sip_held_dialogs.specs.Dialogs.{is_dialog_id, lives}
use Rattle.sip_held_dialogs.specs.declared.held_dialog.DialogReference.{DialogReference}
use Rattle.sip_user.specs.declared.item.CallOut.{CallOut}
use Rattle.sip_user.specs.declared.item.Item.TheVariants.{Up, User}
use Rattle.sip_held_dialogs.proofs.Each.{both}
use Rattle.sip_clients.specs.Client.{Side as Held, client_at}
use Rattle.sip_clients.specs.Clients.{reply_name, status_of}
use Rattle.sip_clients.specs.Provisionals.{AnInvite, OfTheCall, in_life, is_for, is_response, number_for, provisional_number}
use Rattle.sip_clients.specs.declared.client.Client.{Client}
use Rattle.sip_clients.specs.declared.client.RequestKind.{RequestKind}
use Rattle.sip_clients.specs.declared.client.RequestKind.TheVariants.{InDialog, InitialInvite, OutOfDialog, ReInvite}
use Rattle.sip_calls.specs.Call.{CallItem}
use Rattle.sip_calls.specs.Histories.{call_from}
use Rattle.sip_calls.specs.Provisionals.{done, number_in, number_in_life, number_up, side_held}
use Rattle.sip_calls.specs.declared.call.Call.{Call}
use Rattle.sip_calls.specs.declared.calls.Calls.{Calls}
use Rattle.sip_conversation.proofs.PracksOfCalls.{from_more}
use Rattle.sip_conversation.specs.Provisionals.{told_from, told_with}
use Rattle.sip_conversation.proofs.Among.{all_of, among_mapped, kept_among}

-- ---- the input at which the user is told

module _ (calls : Calls) (invite : AnInvite) (life : DialogReference)
    (inputs : List (Timed CallItem)) where
  -- at one of these inputs such a response with this RSeq comes up, and this output tells of a
  -- response
  pub record IsToldAt (rseq : ℕ) (one : CallOut) : Type 0 where
    pub before : List (Timed CallItem)
    pub timed : Timed CallItem
    pub after : List (Timed CallItem)
    pub are : inputs ≡ before ++ timed ∷ after
    pub number : number_in_life calls invite life (call_from calls None before) timed ≡ Some rseq
    pub among : Contains (done calls invite life (call_from calls None before) timed).1 one
    pub is : is_response one ≡ true

  abbrev AreToldAt : List (ℕ × CallOut) → Type 0
  AreToldAt told = AllByRecursion (λ (one : ℕ × CallOut). IsToldAt one.0 one.1) told

  at_input : (before : List (Timed CallItem)) (timed : Timed CallItem)
      (after : List (Timed CallItem)) → inputs ≡ before ++ timed ∷ after → (o : Option ℕ)
      → number_in_life calls invite life (call_from calls None before) timed ≡ o
      → AreToldAt (told_with o (done calls invite life (call_from calls None before) timed).1)
  at_input before timed after are None is = tt
  at_input before timed after are (Some rseq) is =
      let outs = (done calls invite life (call_from calls None before) timed).1 in
      all_of (λ (one : ℕ × CallOut). IsToldAt one.0 one.1) _ (λ one among.
      let mapped = among_mapped (λ out. (rseq, out)) (filter is_response outs) one among in
      let kept = kept_among is_response outs mapped.0 mapped.1 in
      subst (λ (one : ℕ × CallOut). IsToldAt one.0 one.1) mapped.2 (record {
        before = before;
        timed = timed;
        after = after;
        are = are;
        number = is;
        among = kept.0;
        is = kept.1;
      }))

  from_front : (front rest : List (Timed CallItem)) → inputs ≡ front ++ rest
      → AreToldAt (told_from calls invite life (call_from calls None front) rest)
  from_front front [] are = tt
  from_front front (timed ∷ rest) are =
      let state = call_from calls None front in
      let after = done calls invite life state timed in
      both (λ (one : ℕ × CallOut). IsToldAt one.0 one.1)
      (told_with (number_in_life calls invite life state timed) after.1)
      (told_from calls invite life after.0 rest)
      (at_input front timed rest are (number_in_life calls invite life state timed) refl)
      (subst (λ s. AreToldAt (told_from calls invite life s rest))
      (from_more calls None front timed)
      (from_front (front ++ timed ∷ []) rest (are ∙ sym (append_assoc front (timed ∷ []) rest))))

  pub told_at : AreToldAt (told_from calls invite life None inputs)
  told_at = from_front [] inputs refl

-- ---- the INVITE of the call

-- a reliable provisional response of that RSeq to the call's INVITE, in a dialog of this name
pub record RepliesToInvite (life : DialogReference) (side : Held) (input : Option CallItem)
    (rseq : ℕ) : Type 0 where
  pub event : Id
  pub up : AnUp
  pub comes : input ≡ Some (event, Up up)
  pub response : Message
  pub kind_is : up.kind ≡ kind.Response response
  pub client : Client
  pub held : client_at up.id side.clients ≡ Some client
  pub initial : client.kind ≡ InitialInvite
  pub name : is_dialog_id life.name (reply_name InitialInvite client response) ≡ true
  pub rseq_is : provisional_number (status_of response.start) response ≡ Some rseq

module _ (life : DialogReference) (side : Held) (rseq : ℕ) where
  record IsFor (client : Client) (response : Message) : Type 0 where
    initial : client.kind ≡ InitialInvite
    name : is_dialog_id life.name (reply_name InitialInvite client response) ≡ true
    rseq_is : provisional_number (status_of response.start) response ≡ Some rseq

  by_kind : (id : Id) (client : Client) (response : Message) (k : RequestKind) → client.kind ≡ k
      → (if is_for OfTheCall life id client k response
      then provisional_number (status_of response.start) response else None) ≡ Some rseq
      → IsFor client response
  by_kind id client response InitialInvite kind_is is =
      by_name (is_dialog_id life.name (reply_name InitialInvite client response)) refl is
    where
      by_name : (b : Bool)
          → is_dialog_id life.name (reply_name InitialInvite client response) ≡ b
          → (if b then provisional_number (status_of response.start) response else None)
          ≡ Some rseq → IsFor client response
      by_name true named is = record { initial = kind_is; name = named; rseq_is = is }
      by_name false named is = absurd cc
  by_kind id client response (ReInvite own) kind_is is = absurd cc
  by_kind id client response (InDialog own) kind_is is = absurd cc
  by_kind id client response OutOfDialog kind_is is = absurd cc

  by_client : (event : Id) (up : AnUp) (response : Message) → up.kind ≡ kind.Response response
      → (o : Option Client) → client_at up.id side.clients ≡ o
      → option_and_then (number_for OfTheCall life up.id response) o ≡ Some rseq
      → RepliesToInvite life side (Some (event, Up up)) rseq
  by_client event up response kind_is None held is = absurd cc
  by_client event up response kind_is (Some client) held is =
      let so = by_kind up.id client response client.kind refl is in
      record {
        event = event;
        up = up;
        comes = refl;
        response = response;
        kind_is = kind_is;
        client = client;
        held = held;
        initial = so.initial;
        name = so.name;
        rseq_is = so.rseq_is;
      }

  by_up : (event : Id) (up : AnUp) (k : UpKind) → up.kind ≡ k
      → number_up OfTheCall life up.id k side ≡ Some rseq
      → RepliesToInvite life side (Some (event, Up up)) rseq
  by_up event up (kind.Request request reply_to) kind_is is = absurd cc
  by_up event up (kind.Ack ack) kind_is is = absurd cc
  by_up event up (kind.Response response) kind_is is =
      by_client event up response kind_is (client_at up.id side.clients) refl is
  by_up event up kind.Timeout kind_is is = absurd cc
  by_up event up kind.Failed kind_is is = absurd cc

  by_input : (input : Option CallItem) → number_in OfTheCall life input side ≡ Some rseq
      → RepliesToInvite life side input rseq
  by_input None is = absurd cc
  by_input (Some (event, Up up)) is = by_up event up up.kind refl is
  by_input (Some (event, User command)) is = absurd cc

in_a_life : (alive : Bool) (o : Option ℕ) (rseq : ℕ) → in_life alive o ≡ Some rseq → o ≡ Some rseq
in_a_life true o rseq is = is
in_a_life false o rseq is = absurd cc

pub replies_to_invite : (calls : Calls) (life : DialogReference) (state : Option Call)
    (timed : Timed CallItem) (rseq : ℕ)
    → number_in_life calls OfTheCall life state timed ≡ Some rseq
    → RepliesToInvite life (side_held state) timed.input rseq
replies_to_invite calls life state timed rseq is =
    let after = done calls OfTheCall life state timed in
    by_input life (side_held state) rseq timed.input
    (in_a_life (lives (side_held after.0).dialogs life)
    (number_in OfTheCall life timed.input (side_held state)) rseq is)
