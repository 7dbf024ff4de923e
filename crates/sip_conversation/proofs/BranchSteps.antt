-- Each step of a call keeps what it starts of its own call, with the branches of its own events.
use Rattle.std.proofs.Common.{◌≡◌, ℕ, ◌+◌, Bool, true, false, ◌||◌, ◌&&◌, List, [], ◌∷◌, ◌++◌, refl, sym, ap, ◌∙◌, subst}
use Rattle.std.specs.Prelude.{Option, None, Some, IfSome, codes, ◌==◌, filter, find, is_some, not, unwrap_or, if◌then◌else◌}
use Rattle.std.specs.List.{AllByRecursion}
use Rattle.std.specs.Map.{lookup, remove_entry, set_value}
use Rattle.std.specs.Option.{option_map_or}
use Rattle.std.specs.Str.{bytes_eq}
use Rattle.sip_message.specs.declared.addr.Addr.{Addr}
use Rattle.sip_message.specs.declared.id.Id.{Id}
use Rattle.sip_message.specs.declared.message.Message.{Message}
use Rattle.sip_message.specs.Party.{tag_of}
use Rattle.sip_dialog.specs.Dialog.{is_ended}
use Rattle.sip_dialog.specs.Opening.{contact_uri}
use Rattle.sip_dialog.specs.Step.{confirmed_at, confirmed_by}
use Rattle.sip_dialog.specs.declared.dialog.Dialog.{Dialog}
use Rattle.sip_dialog.specs.declared.dialog.Side.{Side as End}
use Rattle.sip_dialog.specs.declared.dialog.Side.TheVariants.{Callee, Caller}
use Rattle.sip_held_dialogs.specs.Dialogs.{Dialogs, early_ended, ended_at, is_dialog_id, lives, tag_text}
use Rattle.sip_held_dialogs.specs.Ids.{is_id}
use Rattle.sip_held_dialogs.specs.OwnDialogs.{AreDialogsOf, IsDialogOf}
use Rattle.sip_user.specs.Refusal.{first_refusal}
use Rattle.sip_held_dialogs.specs.Requests.{dialog_id_of_tags, has_to_tag, is_final, is_success, requires_100rel}
use Rattle.sip_user.specs.declared.command.Cancel.{Cancel}
use Rattle.sip_user.specs.declared.command.DialogBody.{DialogBody}
use Rattle.sip_user.specs.declared.command.DialogRequest.{DialogRequest}
use Rattle.sip_held_dialogs.specs.declared.held_dialog.DialogId.{DialogId}
use Rattle.sip_held_dialogs.specs.declared.held_dialog.HeldDialog.{HeldDialog}
use Rattle.sip_user.specs.declared.item.CallOut.{CallOut}
use Rattle.sip_held_dialogs.specs.declared.pending_request.PendingRequest.{PendingRequest}
use Rattle.sip_held_dialogs.specs.declared.pending_request.PendingRequest.TheVariants.{Ack, Prack}
use Rattle.sip_user.specs.declared.refusal.Refusal.{Refusal}
use Rattle.sip_user.specs.declared.refusal.Refusal.TheVariants.{AlreadyFinal, BadMethod, NoSuchRequest, NothingToAck, NothingToPrack}
use Rattle.sip_held_dialogs.proofs.Each.{both, each_but_one, each_changed, each_set, found_one}
use Rattle.sip_held_dialogs.proofs.Starts.{early_starts, ended_starts, none_of_both, starts}
use Rattle.sip_clients.specs.Client.{Clients, ClientTaken, Side}
use Rattle.sip_clients.specs.Rules.Ends.{request_is_lost, request_over}
use Rattle.sip_clients.specs.Rules.Requests.{ack_command, ack_kept, cancel_command, cancel_of_request, cancel_request, dialog_of_kind, has_command, is_asked, is_invite_kind, is_same_pending, method_of, oldest_pending, pending_by_user, pending_command, pending_outcome, prack_command, refusals_in, refuse, request_command, request_in_dialog, request_with_next_number, start, with_number}
use Rattle.sip_clients.specs.Rules.Responses.{Outcome, accepted, asks_for, dialog_made_by, dialog_response, first_success, has_dialog, is_initial, kept, last_response, notice_of, outcome_of, reliable_response, response_received, response_to, status_of, success_again, success_in, waiting_cancel}
use Rattle.sip_clients.specs.declared.answers.SentAck.{SentAck}
use Rattle.sip_clients.specs.declared.client.Cancelling.{Cancelling}
use Rattle.sip_clients.specs.declared.client.Cancelling.TheVariants.{NotAsked, Sent, Waits}
use Rattle.sip_clients.specs.declared.client.Client.{Client}
use Rattle.sip_clients.specs.declared.event.Event.{Event}
use Rattle.sip_calls.specs.HeldDialogs.{opens_dialogs}
use Rattle.sip_conversation.proofs.Branches.{AreOwn, Comes, Done, IsOwn, Own, OutSays, Say, WaitsFor, cancel_own, command_none, either, first_holds, found_or, next_own, no_command, outcome_own, silent_say, start_own, starts_own}

-- the type of what a response is with all that comes up with it
abbrev Domain : {A B : Type 0} → (A → B) → Type 0
Domain {A} f = A

abbrev Reply : Type 0
Reply = Domain notice_of

confirmed_so : (side : End) (dialog : Dialog) (response : Message)
    → (confirmed_at side dialog response).call_id ≡ dialog.call_id
confirmed_so Callee dialog response = refl
confirmed_so Caller dialog response = refl

-- the end of a request starts nothing
pub over_silent : (client : Client) (ends : Bool) (dialogs : Dialogs)
    → starts (request_over client ends dialogs).1 ≡ []
over_silent client ends dialogs =
    let early = early_ended client.id dialogs in
    none_of_both early.1 _ (early_starts client.id dialogs)
    (found_or (λ (ended : Dialogs × List CallOut). starts ended.1 ≡ []) _
    (dialog_of_kind client.kind) (early.0, [])
    (λ reference is. either (λ (ended : Dialogs × List CallOut). starts ended.1 ≡ [])
    (ends && lives early.0 reference) (ended_at reference.name early.0) (early.0, [])
    (λ over. ended_starts reference.name early.0) (λ lives. refl))
    (λ none. refl))

module _ (home : Addr) (seed call_id : List ℕ) (Came : Id → Type 0)
    (Cancels : Id → Message → Type 0) where
  abbrev OwnRequest : Client → Type 0
  OwnRequest = Own home seed call_id Came Cancels

  abbrev OwnClients : Clients → Type 0
  OwnClients = AreOwn home seed call_id Came Cancels

  abbrev Says : List CallOut → Type 0
  Says = Say home seed call_id Came Cancels

  abbrev OutIsOwn : CallOut → Type 0
  OutIsOwn = OutSays home seed call_id Came Cancels

  abbrev ComesOf : Event → Type 0
  ComesOf = Comes home seed call_id Came Cancels

  abbrev pub Taken : ClientTaken → Type 0
  Taken taken = Done home seed call_id Came Cancels ((taken.0).clients, taken.1)

  dialog_found : (name : DialogId) (dialogs : Dialogs) → AreDialogsOf call_id dialogs
      → (held : HeldDialog) → lookup (is_dialog_id name) dialogs ≡ Some held
      → IsDialogOf call_id held
  dialog_found name dialogs own held is =
      subst (λ o. IfSome o (IsDialogOf call_id)) is
      (found_one (IsDialogOf call_id) (is_dialog_id name) dialogs own)

  client_found : (id : Id) (clients : Clients) → OwnClients clients → (client : Client)
      → lookup (is_id id) clients ≡ Some client → OwnRequest client
  client_found id clients own client is =
      subst (λ o. IfSome o OwnRequest) is (found_one OwnRequest (is_id id) clients own)

  -- ---- commands in a dialog

  request_held : (event : Event) (command : DialogRequest) (side : Side) (name : DialogId)
      (held : HeldDialog) → ComesOf event → IsDialogOf call_id held → OwnClients side.clients
      → Taken (request_in_dialog event command side name held)
  request_held event command side name held comes its own =
      let method = command.method in
      let sent = start (side.clients, [])
      (request_with_next_number event name method None command.content held) in
      let dialogs = set_value (is_dialog_id name) side.dialogs (with_number held) in
      found_or Taken _
      (first_refusal ((has_command method, BadMethod) ∷ refusals_in held.dialog method) None) _
      (λ refusal refused. (own, (tt, tt)))
      (λ none.
      let starts_so = start_own home seed call_id Came Cancels (side.clients, []) _ (own, tt)
      (next_own home seed call_id Came Cancels event name method None command.content held comes its
      (no_command method
      (first_holds (has_command method) BadMethod (refusals_in held.dialog method) none))
      (command_none method
      (first_holds (has_command method) BadMethod (refusals_in held.dialog method) none))) in (
        starts_so.0,
        either (λ (ended : Dialogs × List CallOut). Says (sent.1 ++ ended.1))
            (bytes_eq method (codes "BYE")) (ended_at name dialogs) (dialogs, [])
            (λ bye. both OutIsOwn sent.1 (ended_at name dialogs).1 starts_so.1
            (silent_say home seed call_id Came Cancels (ended_at name dialogs).1
            (ended_starts name dialogs)))
            (λ other. both OutIsOwn sent.1 [] starts_so.1 tt),
      ))

  pub request_own : (event : Event) (command : DialogRequest) (side : Side) → ComesOf event
      → AreDialogsOf call_id side.dialogs → OwnClients side.clients
      → Taken (request_command event command side)
  unfolding request_command
  request_own event command side comes dialogs own =
      let name = dialog_id_of_tags (tag_text command.local_tag) (tag_text command.remote_tag) in
      found_or Taken (request_in_dialog event command side name)
      (lookup (is_dialog_id name) side.dialogs) _
      (λ held is. request_held event command side name held comes
      (dialog_found name side.dialogs dialogs held is) own)
      (λ none. (own, (tt, tt)))

  ack_kept_own : (pending : PendingRequest) (name : DialogId) (ack : Option SentAck)
      (clients : Clients) → OwnClients clients → OwnClients (ack_kept pending name ack clients)
  ack_kept_own (Ack invite cseq) name None clients own = own
  ack_kept_own (Ack invite cseq) name (Some ack) clients own =
      each_changed OwnRequest (is_id invite) _ (λ client its. its) clients own
  ack_kept_own (Prack rseq cseq) name ack clients own = own

  pending_user : (event : Event) (command : DialogBody) (side : Side) (name : DialogId)
      (held : HeldDialog) (pending : PendingRequest) → ComesOf event → IsDialogOf call_id held
      → OwnClients side.clients
      → Taken (pending_by_user event command side name held pending)
  pending_user event command side name held pending comes its own =
      let others = filter (λ other. not (is_same_pending pending other)) held.pending_requests in
      let without_it : HeldDialog = record held { pending_requests = others } in
      let content = Some command.content in
      let done = pending_outcome event command.call_id name pending content without_it held in
      let so = outcome_own home seed call_id Came Cancels event command.call_id name pending content
      without_it held comes its in
      starts_own home seed call_id Came Cancels done.prack
      (ack_kept pending name done.ack side.clients, done.outs)
      (ack_kept_own pending name done.ack side.clients own, so.outs) so.prack

  pending_own : (method : List ℕ) (nothing : Refusal) (event : Event) (command : DialogBody)
      (side : Side) → ComesOf event → AreDialogsOf call_id side.dialogs
      → OwnClients side.clients → Taken (pending_command method nothing event command side)
  pending_own method nothing event command side comes dialogs own =
      let name = dialog_id_of_tags (tag_text command.local_tag) (tag_text command.remote_tag) in
      found_or Taken (oldest_pending method nothing event command side name)
      (lookup (is_dialog_id name) side.dialogs) _
      (λ held is. found_or Taken (pending_by_user event command side name held)
      (find (λ pending. bytes_eq (method_of pending) method) held.pending_requests) _
      (λ pending found. pending_user event command side name held pending comes
      (dialog_found name side.dialogs dialogs held is) own)
      (λ none. (own, (tt, tt))))
      (λ none. (own, (tt, tt)))

  pub ack_own : (event : Event) (command : DialogBody) (side : Side) → ComesOf event
      → AreDialogsOf call_id side.dialogs → OwnClients side.clients
      → Taken (ack_command event command side)
  unfolding ack_command
  ack_own event command side comes dialogs own =
      pending_own (codes "ACK") NothingToAck event command side comes dialogs own

  pub prack_own : (event : Event) (command : DialogBody) (side : Side) → ComesOf event
      → AreDialogsOf call_id side.dialogs → OwnClients side.clients
      → Taken (prack_command event command side)
  unfolding prack_command
  prack_own event command side comes dialogs own =
      pending_own (codes "PRACK") NothingToPrack event command side comes dialogs own

  -- ---- CANCEL

  -- the same request, with another state of its CANCEL
  waiting_own : (client after : Client) → after.id ≡ client.id → after.kind ≡ client.kind
      → after.request ≡ client.request
      → WaitsFor home seed call_id Came Cancels after.request after.cancel
      → OwnRequest client → OwnRequest after
  waiting_own client after id kind request waits its = record {
    own = subst (λ m. IsOwn home seed call_id Came Cancels after.id m) (sym request)
        (subst (λ i. IsOwn home seed call_id Came Cancels i client.request) (sym id) its.own);
    waits = waits;
    invites = λ is. ap (λ (m : Message). m.cseq.method) request
        ∙ its.invites (ap is_invite_kind (sym kind) ∙ is);
    untagged = λ opens. ap has_to_tag request
        ∙ its.untagged (ap opens_dialogs (sym kind) ∙ opens);
  }

  -- a response changes that state so
  waits_after : (request : Message) (final : Bool) (cancel : Cancelling)
      → WaitsFor home seed call_id Came Cancels request cancel
      → WaitsFor home seed call_id Came Cancels request
      (option_map_or (λ asked_by. if final then NotAsked else Sent) (waiting_cancel cancel)
      cancel)
  waits_after request final NotAsked waits = tt
  waits_after request true (Waits id) waits = tt
  waits_after request false (Waits id) waits = tt
  waits_after request final Sent waits = tt

  waiting_asks : (request : Message) (cancel : Cancelling) (id : Id)
      → WaitsFor home seed call_id Came Cancels request cancel → waiting_cancel cancel ≡ Some id
      → Cancels id request
  waiting_asks request NotAsked id waits is = absurd cc
  waiting_asks request (Waits other) id waits is =
      let same : other ≡ id = cc in subst (λ i. Cancels i request) same waits
  waiting_asks request Sent id waits is = absurd cc

  not_false : (b : Bool) → not b ≡ false → b ≡ true
  not_false true is = refl
  not_false false is = absurd cc

  cancel_held : (event : Event) (command : Cancel) (side : Side) (invite : Client)
      → ComesOf event → (is_invite_kind invite.kind ≡ true → Cancels event.id invite.request)
      → OwnRequest invite
      → OwnClients side.clients
      → Taken (cancel_of_request event command side invite)
  cancel_held event command side invite comes asks its own =
      let with_cancel : Cancelling → Clients = λ cancel.
      set_value (is_id command.id) side.clients (record invite { cancel = cancel }) in
      let put : (cancel : Cancelling) → WaitsFor home seed call_id Came Cancels invite.request cancel
      → OwnClients (with_cancel cancel) = λ cancel waits.
      each_set OwnRequest (is_id command.id) side.clients (record invite { cancel = cancel })
      (waiting_own invite (record invite { cancel = cancel }) refl refl refl waits its) own in
      let started : Clients × List CallOut =
      start (with_cancel Sent, []) (cancel_request event.id invite) in
      let waits : Clients × List CallOut = (with_cancel (Waits event.id), []) in
      let done : Clients × List CallOut = if invite.provisional then started else waits in
      let first : ClientTaken = (record side { clients = done.0 }, done.1) in
      let asked : ClientTaken = if is_asked invite.cancel then (side, []) else first in
      let late : ClientTaken = if is_some invite.removal
      then refuse event command.call_id side AlreadyFinal else asked in
      either Taken (not (is_invite_kind invite.kind))
      (refuse event command.call_id side NoSuchRequest) late (λ is. (own, (tt, tt)))
      (λ is. let so = asks (not_false (is_invite_kind invite.kind) is) in
      either Taken (is_some invite.removal)
      (refuse event command.call_id side AlreadyFinal) asked (λ final. (own, (tt, tt)))
      (λ still. either Taken (is_asked invite.cancel) (side, []) first (λ again. (own, tt))
      (λ none. either (Done home seed call_id Came Cancels) invite.provisional started waits
      (λ came. start_own home seed call_id Came Cancels (with_cancel Sent, [])
      (cancel_request event.id invite)
      (put Sent tt, tt) (cancel_own home seed call_id Came Cancels event.id invite its so))
      (λ none. (put (Waits event.id) so, tt)))))

  pub cancel_taken : (event : Event) (command : Cancel) (side : Side) → ComesOf event
      → ((invite : Client) → lookup (is_id command.id) side.clients ≡ Some invite
      → is_invite_kind invite.kind ≡ true → Cancels event.id invite.request)
      → OwnClients side.clients
      → Taken (cancel_command event command side)
  unfolding cancel_command
  cancel_taken event command side comes asks own =
      found_or Taken (cancel_of_request event command side)
      (lookup (is_id command.id) side.clients) _
      (λ invite is. cancel_held event command side invite comes (asks invite is)
      (client_found command.id side.clients own invite is) own)
      (λ none. (own, (tt, tt)))

  -- ---- the end of a request

  pub lost_own : (id : Id) (timed_out : Bool) (side : Side) → OwnClients side.clients
      → Taken (request_is_lost id timed_out side)
  unfolding request_is_lost
  lost_own id timed_out side own = (
    each_but_one OwnRequest (is_id id) side.clients own,
    found_or (λ (ended : Dialogs × List CallOut). Says ended.1) _
        (lookup (is_id id) side.clients) (side.dialogs, [])
        (λ client is. silent_say home seed call_id Came Cancels
        (request_over client timed_out side.dialogs).1
        (over_silent client timed_out side.dialogs))
        (λ none. tt),
  )

  -- ---- a response

  record IsReplied (done : Outcome) : Type 0 where
    pub request : IfSome done.request OwnRequest
    pub outs : Says done.outs
    pub prack : AllByRecursion OwnRequest done.prack

  asks_own : (pending : PendingRequest) (reply : Reply) (client : Client)
      (after : Option SentAck → Client) (held : HeldDialog) (dialogs : Dialogs)
      → ComesOf reply.event → ((ack : Option SentAck) → OwnRequest (after ack))
      → IsDialogOf call_id held → IsReplied (asks_for pending reply client after held dialogs)
  asks_own pending reply client after held dialogs comes keeps its =
      let so = outcome_own home seed call_id Came Cancels reply.event reply.call_id reply.name pending
      _ held _
      comes its in
      record { request = keeps _; outs = (tt, so.outs); prack = so.prack }

  success_dialog : (initial : Bool) (response : Message) (held : HeldDialog)
      → IsDialogOf call_id held → IsDialogOf call_id (success_in initial response held)
  success_dialog initial response held its =
      let target = unwrap_or (contact_uri response) held.dialog.target in
      let confirmed : HeldDialog = record held { dialog = confirmed_by held.dialog response } in
      let refreshed : HeldDialog =
      record held { dialog = record held.dialog { target = target } } in
      either (IsDialogOf call_id) (is_ended held.dialog.state) held
      (if initial then confirmed else refreshed) (λ ended. its)
      (λ still. either (IsDialogOf call_id) initial confirmed refreshed
      (λ first. confirmed_so held.dialog.side held.dialog response ∙ its)
      (λ again. its))

  first_success_own : (reply : Reply) (client : Client) (dialogs : Dialogs)
      → ComesOf reply.event → OwnRequest client → AreDialogsOf call_id dialogs
      → IsReplied (first_success reply client dialogs)
  first_success_own reply client dialogs comes its own =
      let found = lookup (is_dialog_id reply.name) dialogs in
      let initial = is_initial client in
      let held : HeldDialog = option_map_or (success_in initial reply.response) found
      (dialog_made_by reply client) in
      asks_own (Ack client.id client.request.cseq.number) reply client (accepted reply client)
      held
      dialogs comes (λ ack. its)
      (found_or (IsDialogOf call_id) (success_in initial reply.response) found
      (dialog_made_by reply client)
      (λ held is. success_dialog initial reply.response held
      (dialog_found reply.name dialogs own held is))
      (λ none. its.own.call))

  reliable_own : (reply : Reply) (client : Client) (dialogs : Dialogs) (held : HeldDialog)
      (rseq : ℕ) → ComesOf reply.event → OwnRequest client → IsDialogOf call_id held
      → IsReplied (reliable_response reply client dialogs held rseq)
  reliable_own reply client dialogs held rseq comes its held_own =
      let initial = is_initial client in
      let last = if initial then held.last_rseq else client.last_rseq in
      let heard : Client = record client { last_rseq = Some rseq } in
      let hears : HeldDialog = record held { last_rseq = Some rseq } in
      let after : Option SentAck → Client = λ ack. if initial then client else heard in
      let dialog : HeldDialog = if initial then hears else held in
      either IsReplied (not (option_map_or (λ last. rseq == last + 1) last true))
      (kept client dialogs [])
      (asks_for (Prack rseq client.request.cseq.number) reply client after dialog dialogs)
      (λ passed. record { request = its; outs = tt; prack = tt })
      (λ taken. asks_own (Prack rseq client.request.cseq.number) reply client after dialog dialogs
      comes (λ ack. either OwnRequest initial client heard (λ first. its) (λ again. its))
      (either (IsDialogOf call_id) initial hears held (λ first. held_own) (λ again. held_own)))

  dialog_own : (reply : Reply) (client : Client) (dialogs : Dialogs) → ComesOf reply.event
      → OwnRequest client → AreDialogsOf call_id dialogs
      → IsReplied (dialog_response reply client dialogs)
  dialog_own reply client dialogs comes its own =
      let response = reply.response in
      let found = lookup (is_dialog_id reply.name) dialogs in
      let held = unwrap_or found (dialog_made_by reply client) in
      found_or IsReplied (reliable_response reply client dialogs held)
      (if requires_100rel response then response.rseq else None)
      (kept client _ (notice_of reply ∷ []))
      (λ rseq is. reliable_own reply client dialogs held rseq comes its
      (made_or found (dialog_made_by reply client)
      (found_one (IsDialogOf call_id) (is_dialog_id reply.name) dialogs own) its.own.call))
      (λ none. record { request = its; outs = (tt, tt); prack = tt })
    where
      made_or : (o : Option HeldDialog) (made : HeldDialog) → IfSome o (IsDialogOf call_id)
          → IsDialogOf call_id made → IsDialogOf call_id (unwrap_or o made)
      made_or None made found is = is
      made_or (Some held) made found is = found

  again_own : (answer : Option (Option SentAck)) (client : Client) (dialogs : Dialogs)
      → OwnRequest client → IsReplied (success_again answer client dialogs)
  again_own None client dialogs its = record { request = its; outs = tt; prack = tt }
  again_own (Some None) client dialogs its = record { request = its; outs = tt; prack = tt }
  again_own (Some (Some ack)) client dialogs its =
      record { request = its; outs = (tt, tt); prack = tt }

  outcome_so : (reply : Reply) (client : Client) (dialogs : Dialogs) → ComesOf reply.event
      → OwnRequest client → AreDialogsOf call_id dialogs
      → IsReplied (outcome_of reply client dialogs)
  outcome_so reply client dialogs comes its own =
      let final = is_final reply.status in
      let answer = lookup (is_dialog_id reply.name) client.answers in
      let told : Outcome = kept client dialogs (notice_of reply ∷ []) in
      let late : Outcome = kept (accepted reply client None) dialogs (notice_of reply ∷ []) in
      let is_told = not (has_dialog client dialogs && not (reply.status == 100)
      && has_to_tag reply.response) in
      let fifth : Outcome = if is_told then told else dialog_response reply client dialogs in
      let fourth : Outcome = if final then late else fifth in
      let third : Outcome = if final && has_dialog client dialogs
      then first_success reply client dialogs else fourth in
      let second : Outcome = if final && is_some answer
      then success_again answer client dialogs else third in
      either IsReplied (final && not (is_invite_kind client.kind && is_success reply.status))
      (last_response reply client dialogs) second
      (λ last. record {
        request = tt;
        outs = (
          tt,
          silent_say home seed call_id Came Cancels
              (request_over client ((reply.status == 481) || (reply.status == 408)) dialogs).1
              (over_silent client ((reply.status == 481) || (reply.status == 408)) dialogs),
        );
        prack = tt;
      })
      (λ more. either IsReplied (final && is_some answer) (success_again answer client dialogs)
      third (λ again. again_own answer client dialogs its)
      (λ new. either IsReplied (final && has_dialog client dialogs)
      (first_success reply client dialogs) fourth
      (λ success. first_success_own reply client dialogs comes its own)
      (λ none. either IsReplied final late fifth
      (λ over. record { request = its; outs = (tt, tt); prack = tt })
      (λ provisional. either IsReplied is_told told (dialog_response reply client dialogs)
      (λ other. record { request = its; outs = (tt, tt); prack = tt })
      (λ early. dialog_own reply client dialogs comes its own)))))

  response_own : (event : Event) (id : Id) (of : List ℕ) (response : Message) (side : Side)
      (status : ℕ) (client : Client) → ComesOf event → OwnRequest client
      → AreDialogsOf call_id side.dialogs → OwnClients side.clients
      → Taken (response_to event id of response side status client)
  response_own event id of response side status client comes its dialogs own =
      let final = is_final status in
      let waiting = waiting_cancel client.cancel in
      let cancels : List Client = if final then []
      else option_map_or (λ asked_by. cancel_request asked_by client ∷ []) waiting [] in
      let after : Client = record client {
        provisional = client.provisional || not final;
        cancel = option_map_or (λ asked_by. if final then NotAsked else Sent) waiting
            client.cancel;
      } in
      let reply : Reply = record {
        event = event;
        id = id;
        call_id = of;
        name = option_map_or (λ reference. reference.name) (dialog_of_kind client.kind)
            (dialog_id_of_tags (tag_of client.request.from) (tag_of response.to));
        status = status;
        response = response;
      } in
      let done = outcome_of reply after side.dialogs in
      let clients : Clients = option_map_or (set_value (is_id id) side.clients) done.request
      (remove_entry (is_id id) side.clients) in
      let its_after = waiting_own client after refl refl refl
      (waits_after client.request final client.cancel its.waits) its in
      let so = outcome_so reply after side.dialogs comes its_after dialogs in
      starts_own home seed call_id Came Cancels (done.prack ++ cancels) (clients, done.outs) (
        found_or OwnClients (set_value (is_id id) side.clients) done.request
            (remove_entry (is_id id) side.clients)
            (λ after is. each_set OwnRequest (is_id id) side.clients after
            (subst (λ o. IfSome o OwnRequest) is so.request) own)
            (λ over. each_but_one OwnRequest (is_id id) side.clients own),
        so.outs,
      )
      (both OwnRequest done.prack cancels so.prack
      (either (AllByRecursion OwnRequest) final []
      (option_map_or (λ asked_by. cancel_request asked_by client ∷ []) waiting [])
      (λ final. tt)
      (λ provisional. found_or (AllByRecursion OwnRequest)
      (λ asked_by. cancel_request asked_by client ∷ []) waiting []
      (λ asked_by is. (
        cancel_own home seed call_id Came Cancels asked_by client its
            (waiting_asks client.request client.cancel asked_by its.waits is),
        tt,
      )) (λ none. tt))))

  pub received_own : (event : Event) (id : Id) (of : List ℕ) (response : Message) (side : Side)
      → ComesOf event → AreDialogsOf call_id side.dialogs → OwnClients side.clients
      → Taken (response_received event id of response side)
  unfolding response_received
  received_own event id of response side comes dialogs own =
      found_or Taken _ (status_of response.start) (side, [])
      (λ status is. found_or Taken (response_to event id of response side status)
      (lookup (is_id id) side.clients) (side, [])
      (λ client found. response_own event id of response side status client comes
      (client_found id side.clients own client found) dialogs own)
      (λ none. (own, tt)))
      (λ none. (own, tt))
