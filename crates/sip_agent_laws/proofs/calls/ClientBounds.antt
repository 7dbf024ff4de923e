-- When a held client request is removed: 64*T1 after the moment by which messages and commands came
-- at the latest.
use Rattle.std.proofs.Common.{◌≤◌, ℕ, ◌+◌, Bool, true, false, not, ◌&&◌, ◌||◌, ◌==◌, cond, List, [], ◌∷◌, ◌++◌, arith}
use Rattle.std.specs.Prelude.{Option, None, Some, IfSome, codes, filter, fold, find, is_some, unwrap_or, if◌then◌else◌}
use Rattle.std.specs.List.{AllByRecursion}
use Rattle.std.specs.Map.{lookup, remove_entry, set_value}
use Rattle.std.specs.Option.{option_map_or}
use Rattle.std.specs.Str.{bytes_eq}
use Rattle.indexmap.specs.IndexMap.{insert_entry}
use Rattle.keyed_machine.proofs.Ordered.{by_bool}
use Rattle.sip_message.specs.declared.id.Id.{Id}
use Rattle.sip_message.specs.declared.message.Message.{Message}
use Rattle.sip_message.specs.Content.{Content}
use Rattle.sip_message.specs.Party.{tag_of}
use Rattle.sip_timers.specs.declared.estimate.TheConstants.{LIFETIME}
use Rattle.sip_user.specs.declared.command.AbandonDialog.{AbandonDialog}
use Rattle.sip_user.specs.declared.command.AbandonRequest.{AbandonRequest}
use Rattle.sip_user.specs.declared.command.Cancel.{Cancel}
use Rattle.sip_user.specs.declared.command.DialogBody.{DialogBody}
use Rattle.sip_user.specs.declared.command.DialogRequest.{DialogRequest}
use Rattle.sip_user.specs.declared.command.Invite.{Invite}
use Rattle.sip_user.specs.declared.command.Plain.{Plain as PlainCommand}
use Rattle.sip_user.specs.declared.item.CallOut.{CallOut}
use Rattle.sip_user.specs.declared.refusal.Refusal.{Refusal}
use Rattle.sip_user.specs.declared.refusal.Refusal.TheVariants.{BadMethod, NoSuchRequest}
use Rattle.sip_user.specs.Notices.{refused}
use Rattle.sip_user.specs.Refusal.{first_refusal}
use Rattle.sip_held_dialogs.specs.declared.pending_request.PendingRequest.{PendingRequest}
use Rattle.sip_held_dialogs.specs.declared.pending_request.PendingRequest.TheVariants.{Ack, Prack}
use Rattle.sip_held_dialogs.specs.declared.held_dialog.DialogId.{DialogId}
use Rattle.sip_held_dialogs.specs.declared.held_dialog.HeldDialog.{HeldDialog}
use Rattle.sip_held_dialogs.specs.Dialogs.{Dialogs, is_dialog_id}
use Rattle.sip_held_dialogs.specs.Ids.{is_id}
use Rattle.sip_held_dialogs.specs.Requests.{dialog_id_of_tags, has_to_tag, is_final, is_success, requires_100rel}
use Rattle.sip_held_dialogs.proofs.Each.{both, each_but_one, each_changed, each_inserted, each_left, each_set, found_one}
use Rattle.sip_clients.specs.declared.answers.SentAck.{SentAck}
use Rattle.sip_clients.specs.declared.client.Cancelling.{Cancelling}
use Rattle.sip_clients.specs.declared.client.Cancelling.TheVariants.{NotAsked, Sent, Waits}
use Rattle.sip_clients.specs.declared.client.Client.{Client}
use Rattle.sip_clients.specs.declared.event.Event.{Event}
use Rattle.sip_clients.specs.Client.{Clients, ClientTaken, Side}
use Rattle.sip_clients.specs.Clients.{reply_of}
use Rattle.sip_clients.specs.Rules.Abandon.{abandon_dialog_command, abandon_of_dialog, abandon_of_request, abandon_request_command}
use Rattle.sip_clients.specs.Rules.Ends.{client_tick, is_over, request_is_lost}
use Rattle.sip_clients.specs.Rules.Requests.{ack_command, ack_kept, cancel_command, cancel_of_request, cancel_request, dialog_of_kind, has_command, invite_command, is_asked, is_invite_kind, is_same_pending, method_of, oldest_pending, pending_by_user, pending_command, pending_outcome, pending_sent, pending_unsent, plain_command, prack_command, refusals_in, refuse, request_command, request_in_dialog, start}
use Rattle.sip_clients.specs.Rules.Responses.{Outcome, accepted, asks_for, dialog_made_by, dialog_response, first_success, has_dialog, is_initial, kept, notice_of, outcome_of, reliable_response, response_received, response_to, status_of, success_in, waiting_cancel}
use Rattle.sip_agent_laws.proofs.calls.ServedBounds.{IsWithin}

module _ (m : ℕ) where
  abbrev IsSet : Client → Type 0
  IsSet client = IsWithin m client.removal

  abbrev pub AreSet : Clients → Type 0
  AreSet clients = AllByRecursion (λ (entry : Id × Client). IsSet entry.1) clients

  record Keeps (taken : ClientTaken) : Type 0 where
    pub all : AreSet (taken.0).clients

  if_keeps : (b : Bool) (x y : ClientTaken) → Keeps x → Keeps y → Keeps (if b then x else y)
  if_keeps true x y first second = first
  if_keeps false x y first second = second

  or_keeps : {X : Type 0} (f : X → ClientTaken) (otherwise : ClientTaken)
      → ((x : X) → Keeps (f x)) → Keeps otherwise → (o : Option X)
      → Keeps (option_map_or f o otherwise)
  or_keeps f otherwise each none None = none
  or_keeps f otherwise each none (Some x) = each x

  -- ---- what starts

  start_set : (list : List Client) → AllByRecursion IsSet list → (done : Clients × List CallOut)
      → AreSet done.0 → AreSet (fold start done list).0
  start_set [] each done all = all
  start_set (client ∷ list) each done all =
      start_set list each.1 (start done client)
      (each_inserted IsSet is_id client.id client each.0 done.0 all)

  -- an ACK or a PRACK that is owed starts a request without a response
  owed_set : (event : Event) (call_id : List ℕ) (name : DialogId) (owed : PendingRequest)
      (content : Option Content) (without_it with_it : HeldDialog)
      → AllByRecursion IsSet
      (pending_outcome event call_id name owed content without_it with_it).prack
  owed_set event call_id name owed None without_it with_it = tt
  owed_set event call_id name owed (Some content) without_it with_it =
      by_refusal (first_refusal (refusals_in without_it.dialog (method_of owed)) None)
    where
      sent_set : (one : PendingRequest)
          → AllByRecursion IsSet (pending_sent event name one content without_it).prack
      sent_set (Ack invite number) = tt
      sent_set (Prack rseq number) = (tt, tt)

      by_refusal : (o : Option Refusal) → AllByRecursion IsSet
          (option_map_or (λ refusal. pending_unsent with_it (refused event.id call_id refusal)) o
          (pending_sent event name owed content without_it)).prack
      by_refusal None = sent_set owed
      by_refusal (Some refusal) = tt

  -- ---- a response

  record OutcomeSet (outcome : Outcome) : Type 0 where
    pub request : IfSome outcome.request IsSet
    pub prack : AllByRecursion IsSet outcome.prack

  if_set : (b : Bool) (x y : Outcome) → OutcomeSet x → OutcomeSet y
      → OutcomeSet (if b then x else y)
  if_set true x y first second = first
  if_set false x y first second = second

  kept_set : (client : Client) (dialogs : Dialogs) (outs : List CallOut) → IsSet client
      → OutcomeSet (kept client dialogs outs)
  kept_set client dialogs outs set = record { request = set; prack = tt }

  first_set : (now : ℕ) (o : Option ℕ) → now ≤ m → IsWithin m o
      → unwrap_or o (now + LIFETIME) ≤ m + LIFETIME
  first_set now None by set = omega arith
  first_set now (Some end) by set = set

  module _ (event : Event) (by : event.moment ≤ m) (id : Id) (call_id : List ℕ) (name : DialogId)
      (status : ℕ) (response : Message) where
    asks_set : (owed : PendingRequest) (client : Client) (after : Option SentAck → Client)
        (held : HeldDialog) (dialogs : Dialogs) → ((ack : Option SentAck) → IsSet (after ack))
        → OutcomeSet (asks_for owed (reply_of event id call_id name status response) client after
        held dialogs)
    asks_set owed client after held dialogs each = record {
      request = each _;
      prack = owed_set event call_id name owed _ held _;
    }

    accepted_set : (client : Client) → IsSet client → (ack : Option SentAck)
        → IsSet (accepted (reply_of event id call_id name status response) client ack)
    accepted_set client set ack = first_set event.moment client.removal by set

    heard_set : (initial : Bool) (rseq : ℕ) (client : Client) → IsSet client
        → IsSet (if initial then client else record client { last_rseq = Some rseq })
    heard_set true rseq client set = set
    heard_set false rseq client set = set

    reliable_set : (client : Client) (dialogs : Dialogs) (held : HeldDialog) (rseq : ℕ)
        → IsSet client
        → OutcomeSet (reliable_response (reply_of event id call_id name status response) client
        dialogs held rseq)
    reliable_set client dialogs held rseq set =
        if_set (not (option_map_or (λ last. rseq == last + 1)
        (if is_initial client then held.last_rseq else client.last_rseq) true)) _ _
        (kept_set client dialogs [] set)
        (asks_set (Prack rseq client.request.cseq.number) client
        (λ ack. if is_initial client then client else record client { last_rseq = Some rseq })
        (if is_initial client then record held { last_rseq = Some rseq } else held) dialogs
        (λ ack. heard_set (is_initial client) rseq client set))

    early_set : (client : Client) (dialogs : Dialogs) → IsSet client
        → OutcomeSet (dialog_response (reply_of event id call_id name status response) client
        dialogs)
    early_set client dialogs set = by_rseq (if requires_100rel response then response.rseq else
        None)
      where
        by_rseq : (o : Option ℕ) → OutcomeSet (option_map_or (reliable_response
            (reply_of event id call_id name status response) client dialogs (unwrap_or
            (lookup (is_dialog_id name) dialogs)
            (dialog_made_by (reply_of event id call_id name status response) client))) o
            (kept client (insert_entry is_dialog_id dialogs name (unwrap_or
            (lookup (is_dialog_id name) dialogs)
            (dialog_made_by (reply_of event id call_id name status response) client)))
            (notice_of (reply_of event id call_id name status response) ∷ [])))
        by_rseq None = kept_set client _ _ set
        by_rseq (Some rseq) = reliable_set client dialogs _ rseq set

    success_set : (client : Client) (dialogs : Dialogs) → IsSet client
        → OutcomeSet (first_success (reply_of event id call_id name status response) client dialogs)
    success_set client dialogs set =
        let reply = reply_of event id call_id name status response in
        asks_set (Ack client.id client.request.cseq.number) client (accepted reply client)
        (option_map_or (success_in (is_initial client) response)
        (lookup (is_dialog_id name) dialogs) (dialog_made_by reply client)) dialogs
        (accepted_set client set)

    outcome_set : (client : Client) (dialogs : Dialogs) → IsSet client
        → OutcomeSet (outcome_of (reply_of event id call_id name status response) client dialogs)
    outcome_set client dialogs set =
        let reply = reply_of event id call_id name status response in
        let final = is_final status in
        let answer = lookup (is_dialog_id name) client.answers in
        if_set (final && not (is_invite_kind client.kind && is_success status)) _ _
        (record { request = tt; prack = tt })
        (if_set (final && is_some answer) _ _ (kept_set client dialogs _ set)
        (if_set (final && has_dialog client dialogs) _ _
        (success_set client dialogs set)
        (if_set final _ _ (kept_set (accepted reply client None) dialogs (notice_of reply ∷ [])
        (accepted_set client set None))
        (if_set (not (has_dialog client dialogs && not (status == 100) && has_to_tag response)) _ _
        (kept_set client dialogs (notice_of reply ∷ []) set)
        (early_set client dialogs set)))))

  module _ (event : Event) (by : event.moment ≤ m) (id : Id) (call_id : List ℕ)
      (response : Message) where
    freed_set : (final : Bool) (o : Option Id) (client : Client)
        → AllByRecursion IsSet (if final then []
        else option_map_or (λ asked_by. cancel_request asked_by client ∷ []) o [])
    freed_set true o client = tt
    freed_set false None client = tt
    freed_set false (Some asked_by) client = (tt, tt)

    put_set : (clients : Clients) (o : Option Client) → IfSome o IsSet → AreSet clients
        → AreSet (option_map_or (set_value (is_id id) clients) o (remove_entry (is_id id) clients))
    put_set clients None one all = each_but_one IsSet (is_id id) clients all
    put_set clients (Some client) one all = each_set IsSet (is_id id) clients client one all

    reply_set : (side : Side) (status : ℕ) (client : Client) → IsSet client → AreSet side.clients
        → Keeps (response_to event id call_id response side status client)
    reply_set side status client set all =
        let final = is_final status in
        let waiting = waiting_cancel client.cancel in
        let after = record client {
          provisional = client.provisional || not final;
          cancel = option_map_or (λ asked_by. if final then NotAsked else Sent) waiting
              client.cancel;
        } in
        let name = option_map_or (λ reference. reference.name) (dialog_of_kind client.kind)
        (dialog_id_of_tags (tag_of client.request.from) (tag_of response.to)) in
        let done =
        outcome_of (reply_of event id call_id name status response) after side.dialogs in
        let cancel = if final then []
        else option_map_or (λ asked_by. cancel_request asked_by client ∷ []) waiting [] in
        let so = outcome_set event by id call_id name status response after side.dialogs set in
        record {
          all = start_set (done.prack ++ cancel)
              (both IsSet done.prack cancel so.prack (freed_set final waiting client)) (
                option_map_or (set_value (is_id id) side.clients) done.request
                    (remove_entry (is_id id) side.clients),
                done.outs,
              )
              (put_set side.clients done.request so.request all);
        }

    pub response_set : (side : Side) → AreSet side.clients
        → AreSet ((response_received event id call_id response side).0).clients
    unfolding response_received
    response_set side all =
        (or_keeps (λ status. option_map_or (response_to event id call_id response side status)
        (lookup (is_id id) side.clients) (side, [])) (side, [])
        (λ status. by_client status (lookup (is_id id) side.clients)
        (found_one IsSet (is_id id) side.clients all))
        (record { all = all }) (status_of response.start)).all
      where
        by_client : (status : ℕ) (o : Option Client) → IfSome o IsSet
            → Keeps (option_map_or (response_to event id call_id response side status) o (side, []))
        by_client status None one = record { all = all }
        by_client status (Some client) one = reply_set side status client one all

  -- ---- a request that is lost, a tick

  pub lost_set : (id : Id) (timed_out : Bool) (side : Side) → AreSet side.clients
      → AreSet ((request_is_lost id timed_out side).0).clients
  unfolding request_is_lost
  lost_set id timed_out side all = each_but_one IsSet (is_id id) side.clients all

  pub tick_set : (now : ℕ) (side : Side) → AreSet side.clients
      → AreSet ((client_tick side now).0).clients
  unfolding client_tick
  tick_set now side all = each_left IsSet (λ entry. not (is_over now entry.1)) side.clients all

  -- ---- commands of the user

  pub invite_set : (event : Event) (command : Invite) (clients : Clients) → AreSet clients
      → AreSet (invite_command event command clients).0
  unfolding invite_command
  invite_set event command clients all = each_inserted IsSet is_id event.id _ tt clients all

  pub plain_set : (event : Event) (plain : PlainCommand) (clients : Clients) → AreSet clients
      → AreSet (plain_command event plain clients).0
  unfolding plain_command
  plain_set event plain clients all =
      by_bool (has_command plain.method || bytes_eq plain.method (codes "INVITE")
      || bytes_eq plain.method (codes "BYE")) (λ e. rw e all)
      (λ e. rw e (each_inserted IsSet is_id event.id _ tt clients all))

  in_dialog_set : (event : Event) (command : DialogRequest) (side : Side) → AreSet side.clients
      → (name : DialogId) (held : HeldDialog)
      → Keeps (request_in_dialog event command side name held)
  in_dialog_set event command side all name held =
      or_keeps (refuse event command.call_id side) _ (λ refusal. record { all = all })
      (record { all = each_inserted IsSet is_id event.id _ tt side.clients all })
      (first_refusal ((has_command command.method, BadMethod)
      ∷ refusals_in held.dialog command.method) None)

  pub request_set : (event : Event) (command : DialogRequest) (side : Side) → AreSet side.clients
      → AreSet ((request_command event command side).0).clients
  unfolding request_command
  request_set event command side all =
      (or_keeps (request_in_dialog event command side _) (refuse event command.call_id side _)
      (in_dialog_set event command side all _) (record { all = all })
      (lookup (is_dialog_id _) side.dialogs)).all

  noted_set : (owed : PendingRequest) (name : DialogId) (o : Option SentAck) (clients : Clients)
      → AreSet clients → AreSet (ack_kept owed name o clients)
  noted_set (Ack invite number) name None clients all = all
  noted_set (Ack invite number) name (Some ack) clients all =
      each_changed IsSet (is_id invite) _ (λ client set. set) clients all
  noted_set (Prack rseq number) name o clients all = all

  by_user_set : (event : Event) (command : DialogBody) (side : Side) → AreSet side.clients
      → (name : DialogId) (held : HeldDialog) (owed : PendingRequest)
      → Keeps (pending_by_user event command side name held owed)
  by_user_set event command side all name held owed =
      let others = filter (λ other. not (is_same_pending owed other)) held.pending_requests in
      let without_it = record held { pending_requests = others } in
      let content = Some command.content in
      let done =
      pending_outcome event command.call_id name owed content without_it held in
      record {
        all = start_set done.prack
            (owed_set event command.call_id name owed content without_it held)
            (ack_kept owed name done.ack side.clients, done.outs)
            (noted_set owed name done.ack side.clients all);
      }

  pending_set : (method : List ℕ) (nothing : Refusal) (event : Event) (command : DialogBody)
      (side : Side) → AreSet side.clients
      → Keeps (pending_command method nothing event command side)
  pending_set method nothing event command side all =
      or_keeps (oldest_pending method nothing event command side _)
      (refuse event command.call_id side _)
      (λ held. or_keeps (pending_by_user event command side _ held)
      (refuse event command.call_id side nothing) (by_user_set event command side all _ held)
      (record { all = all })
      (find (λ owed. bytes_eq (method_of owed) method) held.pending_requests))
      (record { all = all }) (lookup (is_dialog_id _) side.dialogs)

  pub ack_set : (event : Event) (command : DialogBody) (side : Side) → AreSet side.clients
      → AreSet ((ack_command event command side).0).clients
  unfolding ack_command
  ack_set event command side all = (pending_set _ _ event command side all).all

  pub prack_set : (event : Event) (command : DialogBody) (side : Side) → AreSet side.clients
      → AreSet ((prack_command event command side).0).clients
  unfolding prack_command
  prack_set event command side all = (pending_set _ _ event command side all).all

  cancelling_set : (event : Event) (command : Cancel) (side : Side) → AreSet side.clients
      → (invite : Client) → IsSet invite → Keeps (cancel_of_request event command side invite)
  cancelling_set event command side all invite set =
      if_keeps (not (is_invite_kind invite.kind)) _ _ (record { all = all })
      (if_keeps (is_some invite.removal) _ _ (record { all = all })
      (if_keeps (is_asked invite.cancel) _ _ (record { all = all })
      (record { all = by_provisional invite.provisional })))
    where
      asked_set : (cancel : Cancelling) → AreSet (set_value (is_id command.id) side.clients
          (record invite { cancel = cancel }))
      asked_set cancel = each_set IsSet (is_id command.id) side.clients _ set all

      by_provisional : (b : Bool) → AreSet (cond {A = Clients × List CallOut} b
          (start (set_value (is_id command.id) side.clients (record invite { cancel = Sent }), [])
          (cancel_request event.id invite)) (
            set_value (is_id command.id) side.clients (record invite {
              cancel = Waits event.id;
            }),
            [],
          )).0
      by_provisional true = each_inserted IsSet is_id event.id _ tt _ (asked_set Sent)
      by_provisional false = asked_set (Waits event.id)

  pub cancel_set : (event : Event) (command : Cancel) (side : Side) → AreSet side.clients
      → AreSet ((cancel_command event command side).0).clients
  unfolding cancel_command
  cancel_set event command side all =
      (by_client (lookup (is_id command.id) side.clients)
      (found_one IsSet (is_id command.id) side.clients all)).all
    where
      by_client : (o : Option Client) → IfSome o IsSet → Keeps (option_map_or
          (cancel_of_request event command side) o (refuse event command.call_id side NoSuchRequest))
      by_client None one = record { all = all }
      by_client (Some invite) one = cancelling_set event command side all invite one

  pub abandon_set : (event : Event) (command : AbandonRequest) (side : Side)
      → AreSet side.clients → AreSet ((abandon_request_command event command side).0).clients
  unfolding abandon_request_command
  abandon_set event command side all =
      (or_keeps (abandon_of_request command side) (refuse event command.call_id side _)
      (λ client. record { all = lost_set command.id false side all }) (record { all = all })
      (lookup (is_id command.id) side.clients)).all

  pub dialog_set : (event : Event) (command : AbandonDialog) (side : Side)
      → AreSet side.clients → AreSet ((abandon_dialog_command event command side).0).clients
  unfolding abandon_dialog_command
  dialog_set event command side all =
      (or_keeps (abandon_of_dialog _ side) (refuse event command.call_id side _)
      (λ held. record { all = all }) (record { all = all })
      (lookup (is_dialog_id _) side.dialogs)).all
