-- How the client side changes the latest RSeq of an INVITE in a life of a dialog.
use Rattle.std.proofs.Common.{◌≡◌, ◌⊎◌, inl, inr, ℕ, Bool, true, false, not, ◌&&◌, cond, List, [], ◌∷◌, refl, ap, ◌∙◌}
use Rattle.std.specs.Prelude.{Option, None, Some, if◌then◌else◌}
use Rattle.std.specs.Option.{option_map}
use Rattle.sip_message.specs.declared.id.Id.{Id}
use Rattle.sip_reliable.specs.Inbound.{latest_after, offered}
use Rattle.sip_held_dialogs.specs.declared.pending_request.PendingRequest.{PendingRequest}
use Rattle.sip_held_dialogs.specs.declared.pending_request.PendingRequest.TheVariants.{Ack, Prack}
use Rattle.sip_user.specs.declared.command.Cancel.{Cancel}
use Rattle.sip_user.specs.declared.command.DialogBody.{DialogBody}
use Rattle.sip_user.specs.declared.command.DialogRequest.{DialogRequest}
use Rattle.sip_user.specs.declared.command.Invite.{Invite}
use Rattle.sip_user.specs.declared.command.Plain.{Plain as PlainCommand}
use Rattle.sip_held_dialogs.specs.declared.held_dialog.DialogReference.{DialogReference}
use Rattle.sip_held_dialogs.specs.declared.held_dialog.DialogId.{DialogId}
use Rattle.sip_user.specs.declared.item.CallOut.{CallOut}
use Rattle.sip_user.specs.declared.refusal.Refusal.TheVariants.{BadMethod}
use Rattle.sip_held_dialogs.specs.Dialogs.{is_dialog_id, lives, Dialogs}
use Rattle.sip_held_dialogs.specs.Ids.{is_id}
use Rattle.sip_held_dialogs.proofs.Entries as entries
use Rattle.sip_held_dialogs.proofs.Heard.{id_laws}
use Rattle.sip_clients.specs.declared.answers.SentAck.{SentAck}
use Rattle.sip_clients.specs.declared.client.RequestKind.{RequestKind}
use Rattle.sip_clients.specs.declared.client.RequestKind.TheVariants.{InitialInvite, ReInvite, InDialog, OutOfDialog}
use Rattle.sip_clients.specs.declared.cancel_command.CancelCase.{CancelCase}
use Rattle.sip_clients.specs.declared.cancel_command.CancelCase.TheVariants as cancel
use Rattle.sip_clients.specs.declared.client.Cancelling.{Cancelling}
use Rattle.sip_clients.specs.declared.client.Cancelling.TheVariants as state
use Rattle.sip_clients.specs.declared.client.Client.{Client}
use Rattle.sip_clients.specs.declared.pending.PendingKind.TheVariants as kind
use Rattle.sip_clients.specs.declared.event.Event.{Event}
use Rattle.sip_clients.specs.declared.outputs.ClientChange.{ClientChange}
use Rattle.sip_clients.specs.declared.outputs.ClientChange.TheVariants.{Stays, Over, Starts}
use Rattle.sip_clients.specs.Cancel.{asked, cancel_case, cancel_client, cancel_by_user, cancelled_as, cancelled_of, sent_beside}
use Rattle.sip_clients.specs.Client.{Clients, Side, client_at, client_changed, client_for, with_client, without_client}
use Rattle.sip_clients.specs.Clients.{ack_kept, ack_paid, ack_by_user, acked_with, invite_taken, lost_of, plain_taken, prack_paid, prack_by_user, request_by_user, settled}
use Rattle.sip_clients.specs.Commands.{ack_asked, pending_for, is_bad_outside, name_in, requested_at}
use Rattle.sip_clients.specs.Dialogs.{paid_at}
use Rattle.sip_user.specs.Notices.{refused}
use Rattle.sip_clients.specs.Outputs.{request_said, start_command}
use Rattle.sip_clients.specs.Outside.{invite_of, plain_of}
use Rattle.sip_clients.specs.Provisionals.{in_life, reported_in}
use Rattle.sip_clients.specs.Tick.{clients_left, is_over}
use Rattle.sip_clients.proofs.FirstInvite.{id_exact, no_number}
use Rattle.sip_clients.proofs.Hearing.{Listens, Silent}
use Rattle.sip_clients.proofs.StartBounds.{StartsFresh, said_fresh}
use Rattle.sip_clients.proofs.Served.{paid_either}

abbrev pub AreApart : Clients → Type 0
AreApart clients = entries.Apart id_laws clients

-- ---- the latest RSeq of an INVITE

-- the latest RSeq of a request, if it is an INVITE in the life
abbrev pub asks_ear : DialogReference → RequestKind → Option ℕ → Option (Option ℕ)
asks_ear life InitialInvite last_rseq = None
asks_ear life (ReInvite own) last_rseq =
    if is_dialog_id life.name own.name && is_id own.created_by life.created_by then Some last_rseq
    else None
asks_ear life (InDialog own) last_rseq = None
asks_ear life OutOfDialog last_rseq = None

abbrev pub client_ear : DialogReference → Option Client → Option (Option ℕ)
client_ear life None = None
client_ear life (Some client) = asks_ear life client.kind client.last_rseq

asks_fresh : (life : DialogReference) (kind : RequestKind) (last_rseq : Option ℕ) → last_rseq ≡ None
    → (asks_ear life kind last_rseq ≡ None) ⊎ (asks_ear life kind last_rseq ≡ Some None)
asks_fresh life InitialInvite last_rseq none = inl refl
asks_fresh life (ReInvite own) last_rseq none =
    elim (is_dialog_id life.name own.name
    && is_id own.created_by life.created_by) as (λ b. ((if b then Some last_rseq else None) ≡ None)
    ⊎ ((if b then Some last_rseq else None) ≡ Some None)) [
      | true ↦ inr (ap (λ h. Some h) none)
      | false ↦ inl refl
    ]
asks_fresh life (InDialog own) last_rseq none = inl refl
asks_fresh life OutOfDialog last_rseq none = inl refl

pub silent_then : (Begins : Type 0) (x y z : Option (Option ℕ)) → Silent Begins x y
    → Silent Begins y z → Silent Begins x z
silent_then Begins x y z first (inl none) = inl none
silent_then Begins x y z first (inr (inr begins)) = inr (inr begins)
silent_then Begins x y z (inl none) (inr (inl same)) = inl (same ∙ none)
silent_then Begins x y z (inr (inl first)) (inr (inl same)) = inr (inl (same ∙ first))
silent_then Begins x y z (inr (inr begins)) (inr (inl same)) = inr (inr (begins.0, same ∙ begins.1))

-- the INVITE is over, or its latest RSeq doesn't change
abbrev pub EndsOrStays : Option (Option ℕ) → Option (Option ℕ) → Type 0
EndsOrStays before after = (after ≡ None) ⊎ (after ≡ before)

pub listens_then : (Begins : Type 0) (before middle after : Option (Option ℕ)) (number : Option ℕ)
    (reported : List ℕ) → Listens Begins before middle number reported → EndsOrStays middle after
    → Listens Begins before after number reported
listens_then Begins before middle after None reported listens (inl none) = (inl none, listens.1)
listens_then Begins before middle after None reported listens (inr same) =
    (silent_then Begins before middle after listens.0 (inr (inl same)), listens.1)
listens_then Begins before middle after (Some number) reported hears (inl none) =
    record { last = hears.last; was = hears.was; now = inl none; shows = hears.shows }
listens_then Begins before middle after (Some number) reported hears (inr same) = record {
  last = hears.last;
  was = hears.was;
  now = by_now hears.now;
  shows = hears.shows;
}
  where
    by_now : ((middle ≡ None)
        ⊎ (middle ≡ Some (latest_after (offered hears.last number) hears.last number)))
        → (after ≡ None)
        ⊎ (after ≡ Some (latest_after (offered hears.last number) hears.last number))
    by_now (inl gone) = inl (same ∙ gone)
    by_now (inr is) = inr (same ∙ is)

abbrev pub ear_of : DialogReference → Id → Clients → Option (Option ℕ)
ear_of life invite clients = client_ear life (client_at invite clients)

-- a CANCEL that may be sent is no INVITE, whatever its id is
module _ (life : DialogReference) (invite : Id) where
  abbrev EarStays : Option Client → Option Client → Type 0
  EarStays before after = EndsOrStays (client_ear life before) (client_ear life after)

  stays_same : (o : Option Client) → EarStays o o
  stays_same o = inr refl

  stays_none : (o : Option Client) → EarStays o None
  stays_none o = inl refl

  pub sent_apart : (id : Option Id) (cancelled : Client) (done : Clients × List CallOut)
      → AreApart done.0
      → AreApart (sent_beside (option_map (λ id. cancel_client id cancelled) id) done).0
  sent_apart None cancelled done apart = apart
  sent_apart (Some id) cancelled done apart =
      entries.apart_inserted id_laws id (cancel_client id cancelled) done.0 apart

  pub sent_stays : (id : Option Id) (cancelled : Client) (done : Clients × List CallOut)
      → EndsOrStays (ear_of life invite done.0) (ear_of life invite
      (sent_beside (option_map (λ id. cancel_client id cancelled) id) done).0)
  sent_stays None cancelled done = inr refl
  sent_stays (Some id) cancelled done =
      entries.by_insertion id_laws EarStays stays_same stays_none id invite
      (cancel_client id cancelled) done.0 (λ same. inl refl)

-- the latest RSeq after a step from these requests to those, beside these dialogs, if this number
-- may have come and these are the outputs
abbrev pub AgainResult : DialogReference → Id → Option Id → Clients → Dialogs → Clients → Option ℕ
    → List CallOut → Type 0
AgainResult life invite event before dialogs after number outs =
    AreApart after
    × Listens (event ≡ Some invite) (ear_of life invite before) (ear_of life invite after)
    (in_life (lives dialogs life) number) (reported_in (in_life (lives dialogs life) number) outs)

module _ (life : DialogReference) (invite : Id) (event : Option Id) where
  abbrev ear : Clients → Option (Option ℕ)
  ear clients = ear_of life invite clients

  abbrev pub Begins : Type 0
  Begins = event ≡ Some invite

  -- no RSeq comes for the INVITE in a step from these requests to those
  pub record Keeps (before after : Clients) : Type 0 where
    pub apart : AreApart after
    pub silent : Silent Begins (ear before) (ear after)

  pub silent_result : (before after : Clients) (dialogs : Dialogs) (outs : List CallOut)
      → Keeps before after → AgainResult life invite event before dialogs after None outs
  silent_result before after dialogs outs keeps = (
    keeps.apart,
    no_number (event ≡ Some invite) (lives dialogs life) (ear before)
        (ear after) outs keeps.silent,
  )

  abbrev Found : Option Client → Option Client → Type 0
  Found before after = Silent Begins (client_ear life before) (client_ear life after)

  found_same : (o : Option Client) → Found o o
  found_same o = inr (inl refl)

  found_none : (o : Option Client) → Found o None
  found_none o = inl refl

  pub keeps_same : (clients : Clients) → AreApart clients → Keeps clients clients
  keeps_same clients apart = record { apart = apart; silent = inr (inl refl) }

  pub keeps_then : (x y z : Clients) → Keeps x y → (AreApart y → Keeps y z) → Keeps x z
  keeps_then x y z first second =
      let later = second first.apart in
      record {
        apart = later.apart;
        silent = silent_then Begins (ear x) (ear y)
            (ear z) first.silent later.silent;
      }

  pub keeps_changed : (id : Id) (change : Client → Client)
      → ((client : Client) → client_ear life (Some (change client)) ≡ client_ear life (Some client))
      → (clients : Clients) → AreApart clients
      → Keeps clients (client_changed id change clients)
  keeps_changed id change same clients apart = record {
    apart = entries.apart_changed id_laws id change clients (client_at id clients) apart;
    silent = entries.by_change id_laws Found found_same found_none id invite change
        (λ client. inr (inl (same client))) clients;
  }

  pub keeps_removed : (id : Id) (clients : Clients) → AreApart clients
      → Keeps clients (without_client id clients)
  keeps_removed id clients apart = record {
    apart = entries.apart_removed id_laws (is_id id) clients apart;
    silent = entries.by_removal id_laws Found found_same found_none id invite clients apart;
  }

  put_found : (before : Option Client) (client : Client) → Begins → client.last_rseq ≡ None
      → Found before (Some client)
  put_found before client begins none = by_fresh (asks_fresh life client.kind client.last_rseq none)
    where
      by_fresh : ((client_ear life (Some client) ≡ None)
          ⊎ (client_ear life (Some client) ≡ Some None)) → Found before (Some client)
      by_fresh (inl gone) = inl gone
      by_fresh (inr fresh) = inr (inr (begins, fresh))

  pub keeps_started : (id : Id) (client : Client) → event ≡ Some id → client.last_rseq ≡ None
      → (clients : Clients) → AreApart clients → Keeps clients (with_client id client clients)
  keeps_started id client made none clients apart = record {
    apart = entries.apart_inserted id_laws id client clients apart;
    silent = entries.by_insertion id_laws Found found_same found_none id invite client clients
        (λ same. put_found (client_at invite clients) client
        (made ∙ ap (λ x. Some x) (id_exact id invite same)) none);
  }

  pub keeps_settled : (of : Event) (id : Id) (change : ClientChange) → event ≡ Some of.id
      → StartsFresh change
      → (clients : Clients) → AreApart clients → Keeps clients (settled of id change clients).0
  keeps_settled of id Stays made fresh clients apart = keeps_same clients apart
  keeps_settled of id Over made fresh clients apart = keeps_removed id clients apart
  keeps_settled of id (Starts client) made fresh clients apart =
      keeps_started of.id client made fresh.1 clients apart

  -- ---- a request that is lost, commands of the user, and a tick

  pub keeps_lost : (id : Id) (timed_out : Bool) (o : Option Client) (side : Side)
      → AreApart side.clients → Keeps side.clients ((lost_of id timed_out o side).0).clients
  keeps_lost id timed_out None side apart = keeps_removed id side.clients apart
  keeps_lost id timed_out (Some client) side apart = keeps_removed id side.clients apart

  pub keeps_invite : (of : Event) (command : Invite) → event ≡ Some of.id → (clients : Clients)
      → AreApart clients → Keeps clients (invite_taken of command clients).0
  keeps_invite of command made clients apart =
      keeps_started of.id (client_for of.id InitialInvite (invite_of of command) command.address)
      made refl
      clients apart

  keeps_either : (b : Bool) (refused sent : List CallOut) (clients after : Clients)
      → Keeps clients clients → Keeps clients after
      → Keeps clients (cond {A = Clients × List CallOut} b (clients, refused) (after, sent)).0
  keeps_either true refused sent clients after same more = same
  keeps_either false refused sent clients after same more = more

  pub keeps_plain : (of : Event) (command : PlainCommand) → event ≡ Some of.id → (clients : Clients)
      → AreApart clients → Keeps clients (plain_taken of command clients).0
  keeps_plain of command made clients apart =
      let client = client_for of.id OutOfDialog (plain_of of command) command.address in
      keeps_either (is_bad_outside command.method)
      (refused of.id command.call_id BadMethod) (start_command of.id client ∷ []) clients
      (with_client of.id client clients)
      (keeps_same clients apart) (keeps_started of.id client made refl clients apart)

  pub keeps_request : (of : Event) (command : DialogRequest) → event ≡ Some of.id → (side : Side)
      → AreApart side.clients → Keeps side.clients ((request_by_user of command side).0).clients
  keeps_request of command made side apart =
      let name = name_in command.local_tag command.remote_tag in
      let outcome = (requested_at name of command side.dialogs).1 in
      keeps_settled of of.id (request_said of command.call_id name outcome).1 made
      (said_fresh of command.call_id name outcome) side.clients apart

  keeps_noted : (pending : PendingRequest) (name : DialogId) (ack : Option SentAck)
      (clients : Clients)
      → AreApart clients → Keeps clients (ack_kept pending name ack clients)
  keeps_noted (Ack of number) name None clients apart = keeps_same clients apart
  keeps_noted (Ack of number) name (Some ack) clients apart =
      keeps_changed of (acked_with name ack) (λ client. refl) clients apart
  keeps_noted (Prack rseq number) name ack clients apart = keeps_same clients apart

  pub keeps_ack : (of : Event) (command : DialogBody) (side : Side) → AreApart side.clients
      → Keeps side.clients ((ack_by_user of command side).0).clients
  keeps_ack of command side apart =
      let name = name_in command.local_tag command.remote_tag in
      paid_either (λ taken. Keeps side.clients (taken.0).clients) of command
      (ack_paid of command name) side (pending_for kind.Ack name side.dialogs)
      (λ refusal. keeps_same side.clients apart)
      (λ pending. keeps_noted pending name (ack_asked of name pending command side.dialogs).2
      side.clients
      apart)

  pub keeps_prack : (of : Event) (command : DialogBody) → event ≡ Some of.id → (side : Side)
      → AreApart side.clients → Keeps side.clients ((prack_by_user of command side).0).clients
  keeps_prack of command made side apart =
      let name = name_in command.local_tag command.remote_tag in
      paid_either (λ taken. Keeps side.clients (taken.0).clients) of command
      (prack_paid of command name) side (pending_for kind.Prack name side.dialogs)
      (λ refusal. keeps_same side.clients apart)
      (λ pending. let outcome = (paid_at name of pending command.content side.dialogs).1 in
      keeps_settled of of.id (request_said of command.call_id name outcome).1 made
      (said_fresh of command.call_id name outcome) side.clients apart)

  -- ---- CANCEL

  keeps_asked : (id : Id) (cancelling : Cancelling) (clients : Clients) → AreApart clients
      → Keeps clients (client_changed id (asked cancelling) clients)
  keeps_asked id cancelling clients apart =
      keeps_changed id (asked cancelling) (λ client. refl) clients apart

  keeps_sent : (id : Id) (cancelled : Client) (clients : Clients) → AreApart clients
      → Keeps clients (with_client id (cancel_client id cancelled) clients)
  keeps_sent id cancelled clients apart = record {
    apart = sent_apart life invite (Some id) cancelled (clients, []) apart;
    silent = by_way (sent_stays life invite (Some id) cancelled (clients, []));
  }
    where
      by_way : EndsOrStays (ear clients)
          (ear (with_client id (cancel_client id cancelled) clients))
          → Silent Begins (ear clients)
          (ear (with_client id (cancel_client id cancelled) clients))
      by_way (inl none) = inl none
      by_way (inr same) = inr (inl same)

  cancel_by : (way : CancelCase) (of : Event) (command : Cancel) (cancelled : Client)
      (clients : Clients) → AreApart clients
      → Keeps clients (cancelled_as way of command cancelled clients).0
  cancel_by (cancel.Refused refusal) of command cancelled clients apart = keeps_same clients apart
  cancel_by cancel.Repeated of command cancelled clients apart = keeps_same clients apart
  cancel_by cancel.Waits of command cancelled clients apart =
      keeps_asked command.id (state.Waits of.id) clients apart
  cancel_by cancel.Starts of command cancelled clients apart =
      let after = client_changed command.id (asked state.Sent) clients in
      keeps_then clients after (with_client of.id (cancel_client of.id cancelled) after)
      (keeps_asked command.id state.Sent clients apart) (keeps_sent of.id cancelled after)

  cancel_found : (o : Option Client) (of : Event) (command : Cancel) (clients : Clients)
      → AreApart clients → Keeps clients (cancelled_of o of command clients).0
  cancel_found None of command clients apart = keeps_same clients apart
  cancel_found (Some cancelled) of command clients apart =
      cancel_by (cancel_case cancelled) of command cancelled clients apart

  pub keeps_cancel : (of : Event) (command : Cancel) (side : Side) → AreApart side.clients
      → Keeps side.clients ((cancel_by_user of command side).0).clients
  keeps_cancel of command side apart =
      cancel_found (client_at command.id side.clients) of command side.clients apart

  pub keeps_tick : (now : ℕ) (clients : Clients) → AreApart clients
      → Keeps clients (clients_left now clients)
  keeps_tick now clients apart = record {
    apart = entries.apart_filtered id_laws (λ entry. not (is_over now entry.1)) clients apart;
    silent = entries.by_filter id_laws Found found_same found_none
        (λ client. not (is_over now client)) invite clients apart;
  }
