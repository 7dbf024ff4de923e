-- What is started by a response, or by a command, and has a RAck, is a PRACK in a dialog: it is
-- pending in that dialog, which is held, or that response asks for it; then the user is told of
-- that response.
use Rattle.std.proofs.Common.{◌≡◌, ℕ, ◌+◌, Bool, true, false, ◌||◌, ◌&&◌, not, ◌==◌, List, [], ◌∷◌, ◌++◌, refl, sym, ap, ◌∙◌, subst}
use Rattle.std.proofs.lemmas.List.Folds.{list_any-append}
use Rattle.std.specs.Prelude.{Contains, Option, None, Some, codes, filter, find, fold, is_some, length, unwrap_or, if◌then◌else◌}
use Rattle.std.specs.List.{AllByRecursion, list_any}
use Rattle.std.specs.Map.{lookup, remove_entry, set_value}
use Rattle.std.specs.Option.{option_map_or}
use Rattle.std.specs.Str.{bytes_eq}
use Rattle.sip_grammar.specs.Parameters.{value_named}
use Rattle.sip_message.specs.Content.{Content, content_of_body, with_content_of}
use Rattle.sip_message.specs.Party.{party_of, tag_of}
use Rattle.sip_message.specs.declared.addr.Addr.{Addr}
use Rattle.sip_message.specs.declared.id.Id.{Id}
use Rattle.sip_message.specs.declared.key.Key.{Key}
use Rattle.sip_message.specs.declared.message.Message.{Message}
use Rattle.sip_message.specs.declared.rack.RAck.{RAck}
use Rattle.sip_dialog.specs.Request.{contact_of, request_in}
use Rattle.sip_dialog.specs.declared.dialog.Dialog.{Dialog}
use Rattle.sip_transactions.specs.declared.input.Command.TheVariants as order
use Rattle.sip_held_dialogs.specs.Dialogs.{Dialogs, dialog_at, ended_at, is_dialog_id, tag_text}
use Rattle.sip_held_dialogs.specs.Ids.{is_id}
use Rattle.sip_user.specs.Refusal.{first_refusal}
use Rattle.sip_held_dialogs.specs.Requests.{dialog_id_of_tags, has_to_tag, is_final, is_success, requires_100rel}
use Rattle.sip_held_dialogs.specs.Sent.{name_of_dialog}
use Rattle.sip_user.specs.declared.command.Cancel.{Cancel}
use Rattle.sip_user.specs.declared.command.DialogBody.{DialogBody}
use Rattle.sip_user.specs.declared.command.DialogRequest.{DialogRequest}
use Rattle.sip_user.specs.declared.command.Invite.{Invite}
use Rattle.sip_user.specs.declared.command.Plain.{Plain}
use Rattle.sip_user.specs.declared.command.ProvisionalSupport.{ProvisionalSupport}
use Rattle.sip_user.specs.declared.command.ProvisionalSupport.TheVariants as support
use Rattle.sip_held_dialogs.specs.declared.held_dialog.DialogId.{DialogId}
use Rattle.sip_held_dialogs.specs.declared.held_dialog.HeldDialog.{HeldDialog}
use Rattle.sip_user.specs.declared.item.CallOut.{CallOut}
use Rattle.sip_user.specs.declared.item.CallOut.TheVariants as out
use Rattle.sip_held_dialogs.specs.declared.pending_request.PendingRequest.{PendingRequest}
use Rattle.sip_held_dialogs.specs.declared.pending_request.PendingRequest.TheVariants.{Ack, Prack}
use Rattle.sip_user.specs.declared.refusal.Refusal.{Refusal}
use Rattle.sip_user.specs.declared.refusal.Refusal.TheVariants.{AlreadyFinal, BadMethod, NoSuchRequest, NothingToAck, NothingToPrack}
use Rattle.sip_held_dialogs.proofs.Each.{both}
use Rattle.sip_held_dialogs.proofs.Starts.{ended_starts, starts}
use Rattle.sip_clients.specs.Client.{Clients, ClientTaken, Side}
use Rattle.sip_clients.specs.Clients.{reply_name}
use Rattle.sip_clients.specs.Event.{branch_of}
use Rattle.sip_clients.specs.ReceivedResponse.{has_dialog as has_dialog_of}
use Rattle.sip_clients.specs.Rules.Requests.{PendingOutcome, ack_command, ack_kept, cancel_command, cancel_of_request, cancel_request, dialog_of_kind, has_command, invite_command, is_asked, is_invite_kind, is_same_pending, method_of, oldest_pending, pending_by_user, pending_command, pending_outcome, pending_sent, pending_with, plain_command, prack_command, refusals_in, refuse, request_command, request_in_dialog, request_outside, request_with_next_number, start, with_100rel, with_number}
use Rattle.sip_clients.specs.Provisionals.{is_response, provisional_number}
use Rattle.sip_clients.specs.Rules.Ends.{request_is_lost, request_over}
use Rattle.sip_clients.specs.Rules.Responses.{Outcome, accepted, asks_for, dialog_made_by, dialog_response, first_success, has_dialog, is_initial, kept, last_response, notice_of, outcome_of, reliable_response, response_received, response_to, status_of, success_again, success_in, waiting_cancel}
use Rattle.sip_clients.specs.declared.answers.SentAck.{SentAck}
use Rattle.sip_clients.specs.declared.client.Cancelling.{Cancelling}
use Rattle.sip_clients.specs.declared.client.Cancelling.TheVariants.{NotAsked, Sent, Waits}
use Rattle.sip_clients.specs.declared.client.Client.{Client}
use Rattle.sip_clients.specs.declared.event.Event.{Event}
use Rattle.sip_clients.proofs.DialogSends.{AreNamed}
use Rattle.sip_conversation.proofs.Among.{all_both, all_go, all_of, found_among}
use Rattle.sip_conversation.proofs.Branches.{either, found_or}
use Rattle.sip_conversation.proofs.BranchSteps.{over_silent}
use Rattle.sip_conversation.proofs.DialogOfReply.{Reply, dialog_named, has_so, name_so}

-- ---- the tags of a PRACK

party_tag : (uri : List ℕ) (tag : Option (List ℕ)) → tag_of (party_of uri tag) ≡ tag_text tag
unfolding value_named
party_tag uri None = refl
party_tag uri (Some tag) = refl

-- a request that is made in a dialog has its tags
pub request_named : (dialog : Dialog) (method : List ℕ) (number : ℕ) (content : Content)
    (branch : List ℕ) (local : Addr)
    → let message = request_in dialog method number content branch local in
    dialog_id_of_tags (tag_of message.from) (tag_of message.to) ≡ name_of_dialog dialog
unfolding with_content_of
request_named dialog method number content branch local =
    (λ i. dialog_id_of_tags (party_tag dialog.local.uri dialog.local.tag i)
    (party_tag dialog.remote.uri dialog.remote.tag i))

-- ---- the user is still told of it after what it starts

more_told : (xs ys : List CallOut) → list_any is_response xs ≡ true
    → list_any is_response (xs ++ ys) ≡ true
more_told xs ys told =
    list_any-append is_response xs ys ∙ ap (λ b. b || list_any is_response ys) told

pub still_told : (clients : List Client) (done : Clients × List CallOut)
    → list_any is_response done.1 ≡ true
    → list_any is_response (fold start done clients).1 ≡ true
still_told [] done told = told
still_told (client ∷ clients) done told =
    still_told clients (start done client) (more_told done.1 _ told)

abbrev pub IsToldOf : ClientTaken → Type 0
IsToldOf taken = list_any is_response taken.1 ≡ true

module _ (Fact : DialogId → RAck → Type 0) where
  -- of the dialog of its tags and of its RAck, where it has one, this is said
  abbrev pub IsRacked : Message → Type 0
  IsRacked message = (rack : RAck) → message.rack ≡ Some rack
      → Fact (dialog_id_of_tags (tag_of message.from) (tag_of message.to)) rack

  abbrev pub OutRacked : CallOut → Type 0
  OutRacked (out.Notice notice) = Unit {0}
  OutRacked (out.Command id (order.Start key call_id message to)) = IsRacked message
  OutRacked (out.Command id (order.Answer key message)) = Unit {0}
  OutRacked (out.Command id (order.Abandon key)) = Unit {0}
  OutRacked (out.Direct to bytes) = Unit {0}

  abbrev pub Say : List CallOut → Type 0
  Say outs = AllByRecursion OutRacked outs

  abbrev Racked : Client → Type 0
  Racked client = IsRacked client.request

  -- of a PRACK that is pending in a dialog
  abbrev pub Pays : DialogId → PendingRequest → Type 0
  Pays name (Ack invite cseq) = Unit {0}
  Pays name (Prack rseq cseq) =
      Fact name record { rseq = rseq; cseq = cseq; method = codes "INVITE" }

  pub starts_say : (clients : List Client) (done : Clients × List CallOut) → Say done.1
      → AllByRecursion Racked clients → Say (fold start done clients).1
  starts_say [] done says all = says
  starts_say (client ∷ clients) done says all =
      starts_say clients (start done client)
      (both OutRacked done.1 _ says (all.0, tt)) all.1

  same_rack : (one two : RAck) → Some one ≡ Some two → one ≡ two
  same_rack one two same = cc

  prack_racked : (event : Event) (name : DialogId) (rack : RAck) (content : Content)
      (held : HeldDialog) → Fact (name_of_dialog held.dialog) rack
      → Racked (request_with_next_number event name (codes "PRACK") (Some rack) content held)
  prack_racked event name rack content held fact other is =
      subst (λ name. Fact name other)
      (sym (request_named held.dialog (codes "PRACK") (held.dialog.local_cseq + 1) content
      (branch_of event) event.local))
      (subst (Fact (name_of_dialog held.dialog)) (same_rack rack other is) fact)

  pub record IsPaid (Told : Type 0) (done : PendingOutcome) : Type 0 where
    pub prack : AllByRecursion (λ client. Told → Racked client) done.prack
    pub outs : Say done.outs

  module _ (Told : Type 0) where
    sent_paid : (event : Event) (name : DialogId) (pending : PendingRequest) (content : Content)
        (held : HeldDialog) → (Told → Pays (name_of_dialog held.dialog) pending)
        → IsPaid Told (pending_sent event name pending content held)
    sent_paid event name (Ack invite cseq) content held pays =
        record { prack = tt; outs = (tt, tt) }
    sent_paid event name (Prack rseq cseq) content held pays = record {
      prack = (
        λ told. prack_racked event name
            record { rseq = rseq; cseq = cseq; method = codes "INVITE" } content held
            (pays told),
        tt,
      );
      outs = tt;
    }

    pub outcome_paid : (event : Event) (of : List ℕ) (name : DialogId)
        (pending : PendingRequest) (content : Option Content) (without_it with_it : HeldDialog)
        → (Told → Pays (name_of_dialog without_it.dialog) pending)
        → IsPaid Told (pending_outcome event of name pending content without_it with_it)
    outcome_paid event of name pending content without_it with_it pays =
        found_or (IsPaid Told) (pending_with event of name pending without_it with_it) content _
        (λ content is. found_or (IsPaid Told) _
        (first_refusal (refusals_in without_it.dialog (method_of pending)) None) _
        (λ refusal refused. record { prack = tt; outs = (tt, tt) })
        (λ none. sent_paid event name pending content without_it pays))
        (λ none. record { prack = tt; outs = tt })

  -- ---- the commands Ack and Prack

  abbrev pub Taken : ClientTaken → Type 0
  Taken taken = Say taken.1

  by_user : (event : Event) (command : DialogBody) (side : Side) (name : DialogId)
      (held : HeldDialog) (pending : PendingRequest) → Pays (name_of_dialog held.dialog) pending
      → Taken (pending_by_user event command side name held pending)
  by_user event command side name held pending pays =
      let others = filter (λ other. not (is_same_pending pending other)) held.pending_requests in
      let without_it : HeldDialog = record held { pending_requests = others } in
      let content = Some command.content in
      let done = pending_outcome event command.call_id name pending content without_it held in
      let so = outcome_paid (Unit {0}) event command.call_id name pending content without_it held
      (λ told. pays) in
      starts_say done.prack (ack_kept pending name done.ack side.clients, done.outs) so.outs
      (all_go {P = λ client. Unit {0} → Racked client} {Q = Racked} (λ client has. has tt)
      done.prack so.prack)

  pub command_racked : (method : List ℕ) (nothing : Refusal) (event : Event)
      (command : DialogBody) (side : Side)
      → ((name : DialogId) (held : HeldDialog)
      → lookup (is_dialog_id name) side.dialogs ≡ Some held → (pending : PendingRequest)
      → Contains held.pending_requests pending → Pays (name_of_dialog held.dialog) pending)
      → Taken (pending_command method nothing event command side)
  command_racked method nothing event command side pays =
      let name = dialog_id_of_tags (tag_text command.local_tag) (tag_text command.remote_tag) in
      found_or Taken (oldest_pending method nothing event command side name)
      (lookup (is_dialog_id name) side.dialogs) _
      (λ held is. found_or Taken (pending_by_user event command side name held)
      (find (λ pending. bytes_eq (method_of pending) method) held.pending_requests) _
      (λ pending found. by_user event command side name held pending
      (pays name held is pending
      (found_among (λ pending. bytes_eq (method_of pending) method) held.pending_requests pending
      found)))
      (λ none. (tt, tt)))
      (λ none. (tt, tt))

  -- ---- a response

  -- if it asks for a PRACK that goes out, the user is told of it
  record IsReplied (Told : Type 0) (done : Outcome) : Type 0 where
    pub outs : Say done.outs
    pub prack : AllByRecursion (λ client. Told → Racked client) done.prack
    pub told : AllByRecursion (λ client. list_any is_response done.outs ≡ true) done.prack

  -- of each reliable provisional response to an INVITE in the dialog of a name, of which the user
  -- is told, this is said
  abbrev pub Hears : Type 0 → Message → ℕ → Client → DialogId → Dialogs → Type 0
  Hears Told response status client name dialogs = (rseq : ℕ)
      → provisional_number (Some status) response ≡ Some rseq
      → has_dialog_of client.kind (dialog_at name dialogs) ≡ true → Told → Fact name
      record { rseq = rseq; cseq = client.request.cseq.number; method = codes "INVITE" }

  module _ (Told : Type 0) where
    abbrev Replied : Outcome → Type 0
    Replied = IsReplied Told

    asks_racked : (pending : PendingRequest) (reply : Reply) (client : Client)
        (after : Option SentAck → Client) (held : HeldDialog) (dialogs : Dialogs)
        → (Told → Pays (name_of_dialog held.dialog) pending)
        → Replied (asks_for pending reply client after held dialogs)
    asks_racked pending reply client after held dialogs pays =
        let content =
        if not (length client.request.body == 0) || (length reply.response.body == 0)
        then Some (content_of_body []) else None in
        let with_it : HeldDialog =
        record held { pending_requests = held.pending_requests ++ pending ∷ [] } in
        let done = pending_outcome reply.event reply.call_id reply.name pending content held
        with_it in
        let so = outcome_paid Told reply.event reply.call_id reply.name pending content held
        with_it pays in
        record {
          outs = (tt, so.outs);
          prack = so.prack;
          told = all_of (λ client. list_any is_response (notice_of reply ∷ done.outs) ≡ true)
              done.prack (λ client among. refl);
        }

    reliable_racked : (reply : Reply) (client : Client) (dialogs : Dialogs) (held : HeldDialog)
        (rseq : ℕ)
        → (Told → Pays (name_of_dialog held.dialog) (Prack rseq client.request.cseq.number))
        → Replied (reliable_response reply client dialogs held rseq)
    reliable_racked reply client dialogs held rseq fact =
        let initial = is_initial client in
        let last = if initial then held.last_rseq else client.last_rseq in
        let heard : Client = record client { last_rseq = Some rseq } in
        let hears : HeldDialog = record held { last_rseq = Some rseq } in
        let after : Option SentAck → Client = λ ack. if initial then client else heard in
        let dialog : HeldDialog = if initial then hears else held in
        either Replied (not (option_map_or (λ last. rseq == last + 1) last true))
        (kept client dialogs [])
        (asks_for (Prack rseq client.request.cseq.number) reply client after dialog dialogs)
        (λ passed. record { outs = tt; prack = tt; told = tt })
        (λ taken. asks_racked (Prack rseq client.request.cseq.number) reply client after dialog
        dialogs
        (either (λ (held : HeldDialog). Told → Pays (name_of_dialog held.dialog)
        (Prack rseq client.request.cseq.number)) initial hears held (λ first. fact)
        (λ again. fact)))

    dialog_racked : (reply : Reply) (client : Client) (dialogs : Dialogs)
        → reply.name ≡ name_of_dialog (unwrap_or (lookup (is_dialog_id reply.name) dialogs)
        (dialog_made_by reply client)).dialog
        → ((rseq : ℕ) → (if requires_100rel reply.response then reply.response.rseq else None)
        ≡ Some rseq → Told → Pays reply.name (Prack rseq client.request.cseq.number))
        → Replied (dialog_response reply client dialogs)
    dialog_racked reply client dialogs named hears =
        let response = reply.response in
        let held = unwrap_or (lookup (is_dialog_id reply.name) dialogs)
        (dialog_made_by reply client) in
        found_or Replied (reliable_response reply client dialogs held)
        (if requires_100rel response then response.rseq else None) _
        (λ rseq is. reliable_racked reply client dialogs held rseq
        (subst (λ name. Told → Pays name (Prack rseq client.request.cseq.number)) named
        (hears rseq is)))
        (λ none. record { outs = (tt, tt); prack = tt; told = tt })

    again_racked : (answer : Option (Option SentAck)) (client : Client) (dialogs : Dialogs)
        → Replied (success_again answer client dialogs)
    again_racked None client dialogs = record { outs = tt; prack = tt; told = tt }
    again_racked (Some None) client dialogs = record { outs = tt; prack = tt; told = tt }
    again_racked (Some (Some ack)) client dialogs =
        record { outs = (tt, tt); prack = tt; told = tt }

  -- the number of a provisional response of a dialog
  number_of : (status : ℕ) (response : Message) (final dialog : Bool) → is_final status ≡ final
      → final ≡ false
      → not (dialog && not (status == 100) && has_to_tag response) ≡ false → (rseq : ℕ)
      → (if requires_100rel response then response.rseq else None) ≡ Some rseq
      → provisional_number (Some status) response ≡ Some rseq
  number_of status response final dialog is other fits rseq has =
      by_case (is_final status) (not (status == 100)) (has_to_tag response) (is ∙ other) dialog fits
    where
      by_case : (final some tagged : Bool) → final ≡ false → (dialog : Bool)
          → not (dialog && some && tagged) ≡ false
          → (if final then None else if some && tagged
          then (if requires_100rel response then response.rseq else None) else None) ≡ Some rseq
      by_case true some tagged over dialog fits = absurd cc
      by_case false some tagged over false fits = absurd cc
      by_case false false tagged over true fits = absurd cc
      by_case false true false over true fits = absurd cc
      by_case false true true over true fits = has

  -- it is one of a dialog
  in_dialog : (dialog some tagged : Bool) → not (dialog && some && tagged) ≡ false → dialog ≡ true
  in_dialog true some tagged fits = refl
  in_dialog false some tagged fits = sym fits

  pub no_requests : (outs : List CallOut) → starts outs ≡ [] → Say outs
  no_requests [] none = tt
  no_requests (out.Notice notice ∷ outs) none = (tt, no_requests outs none)
  no_requests (out.Direct to bytes ∷ outs) none = (tt, no_requests outs none)
  no_requests (out.Command id (order.Answer key message) ∷ outs) none =
      (tt, no_requests outs none)
  no_requests (out.Command id (order.Abandon key) ∷ outs) none = (tt, no_requests outs none)
  no_requests (out.Command id (order.Start key of message to) ∷ outs) none =
      absurd (some_started (id, key) (starts outs) none)
    where
      some_started : (start : Id × Key) (rest : List (Id × Key)) → start ∷ rest ≡ [] → ⊥
      some_started start rest same = absurd cc

  outcome_racked : (Told : Type 0) (reply : Reply) (client : Client) (dialogs : Dialogs)
      → AreNamed dialogs → reply.name ≡ reply_name client.kind client reply.response
      → Hears Told reply.response reply.status client reply.name dialogs
      → IsReplied Told (outcome_of reply client dialogs)
  outcome_racked Told reply client dialogs named own hears =
      let final = is_final reply.status in
      let answer = lookup (is_dialog_id reply.name) client.answers in
      let told : Outcome = kept client dialogs (notice_of reply ∷ []) in
      let late : Outcome = kept (accepted reply client None) dialogs (notice_of reply ∷ []) in
      let is_told = not (has_dialog client dialogs && not (reply.status == 100)
      && has_to_tag reply.response) in
      let fifth : Outcome = if is_told then told else dialog_response reply client dialogs in
      let fourth : Outcome = if final then late else fifth in
      let third : Outcome = if final && has_dialog client dialogs
      then first_success reply client dialogs else fourth in
      let second : Outcome = if final && is_some answer
      then success_again answer client dialogs else third in
      either (IsReplied Told) (final && not (is_invite_kind client.kind && is_success reply.status))
      (last_response reply client dialogs) second
      (λ last. record {
        outs = (
          tt,
          no_requests
              (request_over client ((reply.status == 481) || (reply.status == 408)) dialogs).1
              (over_silent client
              ((reply.status == 481) || (reply.status == 408)) dialogs),
        );
        prack = tt;
        told = tt;
      })
      (λ more. either (IsReplied Told) (final && is_some answer)
      (success_again answer client dialogs) third (λ again. again_racked Told answer client dialogs)
      (λ new. either (IsReplied Told) (final && has_dialog client dialogs)
      (first_success reply client dialogs) fourth
      (λ success. asks_racked Told (Ack client.id client.request.cseq.number) reply client
      (accepted reply client)
      (option_map_or (success_in (is_initial client) reply.response)
      (lookup (is_dialog_id reply.name) dialogs) (dialog_made_by reply client)) dialogs
      (λ told. tt))
      (λ none. either (IsReplied Told) final late fifth
      (λ over. record { outs = (tt, tt); prack = tt; told = tt })
      (λ provisional. either (IsReplied Told) is_told told (dialog_response reply client dialogs)
      (λ other. record { outs = (tt, tt); prack = tt; told = tt })
      (λ early. let has : has_dialog_of client.kind (dialog_at reply.name dialogs) ≡ true =
      ap (λ name. has_dialog_of client.kind (dialog_at name dialogs)) own
      ∙ (sym (has_so client.kind client reply.response dialogs)
      ∙ in_dialog (has_dialog client dialogs) (not (reply.status == 100))
      (has_to_tag reply.response) early) in
      dialog_racked Told reply client dialogs
      (dialog_named reply client dialogs named own
      (lookup (is_dialog_id reply.name) dialogs) refl has)
      (λ rseq is. hears rseq (number_of reply.status reply.response final
      (has_dialog client dialogs) refl provisional early rseq is) has))))))

  no_rack : (rack : RAck) → None ≡ Some rack → ⊥
  no_rack rack is = absurd cc

  cancel_racked : (id : Id) (invite : Client) → Racked (cancel_request id invite)
  cancel_racked id invite rack is = absurd (no_rack rack is)

  response_racked : (event : Event) (id : Id) (of : List ℕ) (response : Message) (side : Side)
      (status : ℕ) (client : Client) → AreNamed side.dialogs
      → Hears (IsToldOf (response_to event id of response side status client)) response status
      client (reply_name client.kind client response) side.dialogs
      → Taken (response_to event id of response side status client)
  response_racked event id of response side status client named hears =
      let final = is_final status in
      let waiting = waiting_cancel client.cancel in
      let cancels : List Client = if final then []
      else option_map_or (λ asked_by. cancel_request asked_by client ∷ []) waiting [] in
      let after : Client = record client {
        provisional = client.provisional || not final;
        cancel = option_map_or (λ asked_by. if final then NotAsked else Sent) waiting
            client.cancel;
      } in
      let reply : Reply = record {
        event = event;
        id = id;
        call_id = of;
        name = option_map_or (λ reference. reference.name) (dialog_of_kind client.kind)
            (dialog_id_of_tags (tag_of client.request.from) (tag_of response.to));
        status = status;
        response = response;
      } in
      let done = outcome_of reply after side.dialogs in
      let clients : Clients = option_map_or (set_value (is_id id) side.clients) done.request
      (remove_entry (is_id id) side.clients) in
      let Told : Type 0 = IsToldOf (response_to event id of response side status client) in
      let so = outcome_racked Told reply after side.dialogs named
      (name_so client.kind after response)
      (subst (λ name. Hears Told response status client name side.dialogs)
      (sym (name_so client.kind client response)) hears) in
      starts_say (done.prack ++ cancels) (clients, done.outs) so.outs
      (both Racked done.prack cancels
      (all_both {P = λ client. Told → Racked client}
      {Q = λ client. list_any is_response done.outs ≡ true} {R = Racked}
      (λ client has told. has
      (still_told (done.prack ++ cancels) (clients, done.outs) told))
      done.prack so.prack so.told)
      (either (AllByRecursion Racked) final []
      (option_map_or (λ asked_by. cancel_request asked_by client ∷ []) waiting [])
      (λ final. tt)
      (λ provisional. found_or (AllByRecursion Racked)
      (λ asked_by. cancel_request asked_by client ∷ []) waiting []
      (λ asked_by is. (cancel_racked asked_by client, tt)) (λ none. tt))))

  pub received_racked : (event : Event) (id : Id) (of : List ℕ) (response : Message)
      (side : Side) → AreNamed side.dialogs
      → ((status : ℕ) → status_of response.start ≡ Some status → (client : Client)
      → lookup (is_id id) side.clients ≡ Some client
      → Hears (IsToldOf (response_received event id of response side)) response status client
      (reply_name client.kind client response) side.dialogs)
      → Taken (response_received event id of response side)
  unfolding response_received
  received_racked event id of response side named hears =
      found_or Taken _ (status_of response.start) (side, [])
      (λ status is. found_or Taken (response_to event id of response side status)
      (lookup (is_id id) side.clients) (side, [])
      (λ client found. response_racked event id of response side status client named
      (λ rseq number has told. hears status is client found rseq number has
      (subst IsToldOf
      (sym (λ i. option_map_or (λ status. option_map_or
      (response_to event id of response side status) (found i) (side, [])) (is i) (side, [])))
      told)))
      (λ none. tt))
      (λ none. tt)

  -- ---- the other commands

  request_racked : (event : Event) (command : DialogRequest) (side : Side) (name : DialogId)
      (held : HeldDialog) → Taken (request_in_dialog event command side name held)
  request_racked event command side name held =
      let method = command.method in
      let sent = start (side.clients, [])
      (request_with_next_number event name method None command.content held) in
      let dialogs = set_value (is_dialog_id name) side.dialogs (with_number held) in
      found_or Taken _
      (first_refusal ((has_command method, BadMethod) ∷ refusals_in held.dialog method) None) _
      (λ refusal refused. (tt, tt))
      (λ none. either (λ (ended : Dialogs × List CallOut). Say (sent.1 ++ ended.1))
      (bytes_eq method (codes "BYE")) (ended_at name dialogs) (dialogs, [])
      (λ bye. both OutRacked sent.1 (ended_at name dialogs).1
      ((λ rack is. absurd (no_rack rack is)), tt)
      (no_requests (ended_at name dialogs).1 (ended_starts name dialogs)))
      (λ other. both OutRacked sent.1 [] ((λ rack is. absurd (no_rack rack is)), tt) tt))

  pub request_command_racked : (event : Event) (command : DialogRequest) (side : Side)
      → Taken (request_command event command side)
  unfolding request_command
  request_command_racked event command side =
      let name = dialog_id_of_tags (tag_text command.local_tag) (tag_text command.remote_tag) in
      found_or Taken (request_in_dialog event command side name)
      (lookup (is_dialog_id name) side.dialogs) _
      (λ held is. request_racked event command side name held)
      (λ none. (tt, tt))

  cancel_held_racked : (event : Event) (command : Cancel) (side : Side) (invite : Client)
      → Taken (cancel_of_request event command side invite)
  cancel_held_racked event command side invite =
      let with_cancel : Cancelling → Clients = λ cancel.
      set_value (is_id command.id) side.clients (record invite { cancel = cancel }) in
      let started : Clients × List CallOut =
      start (with_cancel Sent, []) (cancel_request event.id invite) in
      let waits : Clients × List CallOut = (with_cancel (Waits event.id), []) in
      let done : Clients × List CallOut = if invite.provisional then started else waits in
      let first : ClientTaken = (record side { clients = done.0 }, done.1) in
      let asked : ClientTaken = if is_asked invite.cancel then (side, []) else first in
      let late : ClientTaken = if is_some invite.removal
      then refuse event command.call_id side AlreadyFinal else asked in
      either Taken (not (is_invite_kind invite.kind))
      (refuse event command.call_id side NoSuchRequest) late (λ is. (tt, tt))
      (λ is. either Taken (is_some invite.removal)
      (refuse event command.call_id side AlreadyFinal) asked (λ final. (tt, tt))
      (λ still. either Taken (is_asked invite.cancel) (side, []) first (λ again. tt)
      (λ none. either (λ (done : Clients × List CallOut). Say done.1) invite.provisional started
      waits (λ came. (cancel_racked event.id invite, tt)) (λ none. tt))))

  pub cancel_command_racked : (event : Event) (command : Cancel) (side : Side)
      → Taken (cancel_command event command side)
  unfolding cancel_command
  cancel_command_racked event command side =
      found_or Taken (cancel_of_request event command side)
      (lookup (is_id command.id) side.clients) _
      (λ invite is. cancel_held_racked event command side invite)
      (λ none. (tt, tt))

  no_rack_of : (message : Message) → message.rack ≡ None → IsRacked message
  no_rack_of message none rack is = absurd (no_rack rack (sym none ∙ is))

  supported_rack : (asked_for : ProvisionalSupport) (message : Message)
      → (with_100rel asked_for message).rack ≡ message.rack
  supported_rack support.None message = refl
  supported_rack support.Supported message = refl
  supported_rack support.Required message = refl

  content_rack : (message : Message) (content : Content)
      → (with_content_of message content).rack ≡ message.rack
  unfolding with_content_of
  content_rack message content = refl

  pub invite_racked : (event : Event) (invite : Invite) (clients : Clients)
      → Say (invite_command event invite clients).1
  unfolding invite_command
  invite_racked event invite clients =
      let request : Message = record (request_outside event invite.call_id (codes "INVITE")
      invite.request_uri invite.from invite.to invite.routes) {
        contacts = contact_of event.local ∷ [];
      } in
      let supporting = with_100rel invite.support request in (
        no_rack_of (with_content_of supporting invite.content)
            (content_rack supporting invite.content ∙ supported_rack invite.support request),
        tt,
      )

  pub plain_racked : (event : Event) (plain : Plain) (clients : Clients)
      → Say (plain_command event plain clients).1
  unfolding plain_command
  plain_racked event plain clients =
      let request = request_outside event plain.call_id plain.method plain.request_uri plain.from
      plain.to plain.routes in
      either (λ (done : Clients × List CallOut). Say done.1)
      (has_command plain.method || bytes_eq plain.method (codes "INVITE")
      || bytes_eq plain.method (codes "BYE")) _ _
      (λ bad. (tt, tt))
      (λ good. (
        no_rack_of (with_content_of request plain.content)
            (content_rack request plain.content),
        tt,
      ))

  pub lost_racked : (id : Id) (timed_out : Bool) (side : Side)
      → Taken (request_is_lost id timed_out side)
  unfolding request_is_lost
  lost_racked id timed_out side =
      found_or (λ (ended : Dialogs × List CallOut). Say ended.1) _
      (lookup (is_id id) side.clients) (side.dialogs, [])
      (λ client is. no_requests (request_over client timed_out side.dialogs).1
      (over_silent client timed_out side.dialogs))
      (λ none. tt)

  pub ack_racked : (event : Event) (command : DialogBody) (side : Side)
      → ((name : DialogId) (held : HeldDialog)
      → lookup (is_dialog_id name) side.dialogs ≡ Some held → (pending : PendingRequest)
      → Contains held.pending_requests pending → Pays (name_of_dialog held.dialog) pending)
      → Taken (ack_command event command side)
  unfolding ack_command
  ack_racked event command side pays =
      command_racked (codes "ACK") NothingToAck event command side pays

  pub prack_command_racked : (event : Event) (command : DialogBody) (side : Side)
      → ((name : DialogId) (held : HeldDialog)
      → lookup (is_dialog_id name) side.dialogs ≡ Some held → (pending : PendingRequest)
      → Contains held.pending_requests pending → Pays (name_of_dialog held.dialog) pending)
      → Taken (prack_command event command side)
  unfolding prack_command
  prack_command_racked event command side pays =
      command_racked (codes "PRACK") NothingToPrack event command side pays
