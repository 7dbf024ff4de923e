-- What a call starts is a CANCEL, a PRACK without a body, or the request for which a command of its
-- user asks, under the id of that command; a PRACK may have the body of its command.
use Rattle.std.proofs.Common.{◌≡◌, ℕ, ◌+◌, Bool, true, false, ◌&&◌, ◌||◌, List, [], ◌∷◌, ◌++◌, refl, sym, ap, ◌∙◌, subst}
use Rattle.std.specs.Prelude.{IfSome, Option, None, Some, codes, ◌==◌, filter, find, fold, is_some, length, not, unwrap_or, if◌then◌else◌}
use Rattle.std.specs.List.{AllByRecursion}
use Rattle.std.specs.Map.{lookup, remove_entry, set_value}
use Rattle.std.specs.Option.{option_map_or}
use Rattle.std.specs.Str.{bytes_eq}
use Rattle.std.proofs.lemmas.Bool.{false≢true}
use Rattle.sip_message.specs.Content.{Content, content_of_body, with_content_of}
use Rattle.sip_message.specs.Party.{tag_of}
use Rattle.sip_message.specs.declared.id.Id.{Id}
use Rattle.sip_message.specs.declared.key.Key.{Key}
use Rattle.sip_message.specs.declared.message.Message.{Message}
use Rattle.keyed_machine.specs.Machine.{Timed, outputs_from}
use Rattle.sip_dialog.specs.Request.{bare_request_in, contact_of}
use Rattle.sip_transactions.specs.declared.input.Command.TheVariants as order
use Rattle.sip_transactions.specs.declared.output.UpKind.{UpKind}
use Rattle.sip_transactions.specs.declared.output.UpKind.TheVariants as kind
use Rattle.sip_transactions.specs.declared.output.Up.{Up as AnUp}
use Rattle.sip_held_dialogs.specs.Dialogs.{Dialogs, early_ended, ended_at, is_dialog_id, lives, tag_text}
use Rattle.sip_held_dialogs.specs.Ids.{is_id}
use Rattle.sip_user.specs.Refusal.{first_refusal}
use Rattle.sip_held_dialogs.specs.Requests.{dialog_id_of_tags, has_to_tag, is_final, is_success, requires_100rel}
use Rattle.sip_user.specs.declared.command.Cancel.{Cancel}
use Rattle.sip_user.specs.declared.command.DialogBody.{DialogBody}
use Rattle.sip_user.specs.declared.command.DialogRequest.{DialogRequest}
use Rattle.sip_user.specs.declared.command.Invite.{Invite}
use Rattle.sip_user.specs.declared.command.Plain.{Plain}
use Rattle.sip_user.specs.declared.command.ProvisionalSupport.{ProvisionalSupport}
use Rattle.sip_user.specs.declared.command.ProvisionalSupport.TheVariants as support
use Rattle.sip_user.specs.declared.command.UserCommand.{UserCommand}
use Rattle.sip_user.specs.declared.command.UserCommand.TheVariants as user
use Rattle.sip_held_dialogs.specs.declared.held_dialog.DialogId.{DialogId}
use Rattle.sip_held_dialogs.specs.declared.held_dialog.HeldDialog.{HeldDialog}
use Rattle.sip_user.specs.declared.item.CallOut.{CallOut}
use Rattle.sip_user.specs.declared.item.CallOut.TheVariants as out
use Rattle.sip_user.specs.declared.item.Item.TheVariants.{Up, User}
use Rattle.sip_held_dialogs.specs.declared.pending_request.PendingRequest.{PendingRequest}
use Rattle.sip_held_dialogs.specs.declared.pending_request.PendingRequest.TheVariants.{Ack, Prack}
use Rattle.sip_user.specs.declared.refusal.Refusal.{Refusal}
use Rattle.sip_user.specs.declared.refusal.Refusal.TheVariants.{AlreadyFinal, BadMethod, NoSuchRequest, NothingToAck, NothingToPrack}
use Rattle.sip_held_dialogs.proofs.Each.{both}
use Rattle.sip_held_dialogs.proofs.Starts.{early_starts, ended_starts, none_of_both, starts}
use Rattle.sip_served.proofs.ArrivalRules.{kind_same}
use Rattle.sip_served.proofs.NoStarts.{kind_starts, respond_starts}
use Rattle.sip_served.proofs.ResponseRules.{respond_same}
use Rattle.sip_served.specs.State.{ServedTaken}
use Rattle.sip_clients.specs.Client.{Clients, ClientTaken, Side}
use Rattle.sip_clients.specs.Event.{branch_of}
use Rattle.sip_clients.specs.Rules.Ends.{request_is_lost, request_over}
use Rattle.sip_clients.specs.Rules.Requests.{PendingOutcome, ack_command, ack_kept, cancel_command, cancel_of_request, cancel_request, dialog_of_kind, has_command, invite_command, is_asked, is_invite_kind, is_same_pending, method_of, oldest_pending, pending_by_user, pending_command, pending_outcome, pending_sent, pending_with, plain_command, prack_command, refusals_in, refuse, request_command, request_in_dialog, request_outside, request_with_next_number, start, with_100rel, with_number}
use Rattle.sip_clients.specs.Rules.Responses.{Outcome, accepted, asks_for, dialog_made_by, dialog_response, first_success, has_dialog, is_initial, kept as kept_outcome, last_response, notice_of, outcome_of, reliable_response, response_received, response_to, status_of, success_again, success_in, waiting_cancel}
use Rattle.sip_clients.specs.declared.answers.SentAck.{SentAck}
use Rattle.sip_clients.specs.declared.client.Cancelling.{Cancelling}
use Rattle.sip_clients.specs.declared.client.Cancelling.TheVariants.{NotAsked, Sent, Waits}
use Rattle.sip_clients.specs.declared.client.Client.{Client}
use Rattle.sip_clients.specs.declared.event.Event.{Event}
use Rattle.sip_clients.proofs.Served.{found_passes}
use Rattle.sip_calls.specs.Call.{CallItem, call_machine, call_step, event_of, item_of_call, made_tag, new_call, received, side_of}
use Rattle.sip_calls.specs.declared.call.Call.{Call}
use Rattle.sip_calls.specs.declared.calls.Calls.{Calls}
use Rattle.sip_calls.proofs.CallStarts.{tick_silent}
use Rattle.sip_conversation.specs.Requests.{request_asked_by}
use Rattle.sip_conversation.proofs.Branches.{either, first_false, first_holds, found_or}
use Rattle.sip_conversation.proofs.GivenUp.{dialog_given_up, named, request_given_up}

-- the type of what a response is with all that comes up with it
abbrev Domain : {A B : Type 0} → (A → B) → Type 0
Domain {A} f = A

abbrev Reply : Type 0
Reply = Domain notice_of

content_method : (message : Message) (content : Content)
    → (with_content_of message content).cseq.method ≡ message.cseq.method
unfolding with_content_of
content_method message content = refl

content_body : (message : Message) (content : Content)
    → (with_content_of message content).body ≡ content.body
unfolding with_content_of
content_body message content = refl

support_method : (asked_for : ProvisionalSupport) (message : Message)
    → (with_100rel asked_for message).cseq.method ≡ message.cseq.method
support_method support.None message = refl
support_method support.Supported message = refl
support_method support.Required message = refl

over_silent : (client : Client) (ends : Bool) (dialogs : Dialogs)
    → starts (request_over client ends dialogs).1 ≡ []
over_silent client ends dialogs =
    let early = early_ended client.id dialogs in
    let Silent : Dialogs × List CallOut → Type 0 = λ ended. starts ended.1 ≡ [] in
    none_of_both early.1 _ (early_starts client.id dialogs)
    (found_or Silent _ (dialog_of_kind client.kind) (early.0, [])
    (λ reference is. either Silent (ends && lives early.0 reference)
    (ended_at reference.name early.0) (early.0, [])
    (λ over. ended_starts reference.name early.0) (λ lives. refl))
    (λ none. refl))

no_prack : codes "CANCEL" ≡ codes "PRACK" → ⊥
no_prack same = absurd cc

-- ---- ACK, PRACK and CANCEL have commands of their own

-- what is said of each PRACK, by its id and its body, is true of one without a body
module _ (Pracks : Id → List ℕ → Type 0) (empty : (id : Id) → Pracks id []) where
  record IsOwnKind (client : Client) : Type 0 where
    pub own : has_command client.request.cseq.method ≡ true
    pub prack : client.request.cseq.method ≡ codes "PRACK"
        → Pracks client.id client.request.body

  -- of the content with which a pending PRACK goes out under this id
  abbrev Pays : Id → PendingRequest → Option Content → Type 0
  Pays id (Ack invite cseq) content = Unit {0}
  Pays id (Prack rseq cseq) content = IfSome content (λ c. Pracks id c.body)

  -- only such requests go out by what is pending in a dialog, or by a response
  record IsPaid (done : PendingOutcome) : Type 0 where
    pub prack : AllByRecursion IsOwnKind done.prack
    pub outs : starts done.outs ≡ []

  sent_paid : (event : Event) (name : DialogId) (pending : PendingRequest) (content : Content)
      (held : HeldDialog) → Pays event.id pending (Some content)
      → IsPaid (pending_sent event name pending content held)
  sent_paid event name (Ack invite cseq) content held pays = record { prack = tt; outs = refl }
  sent_paid event name (Prack rseq cseq) content held pays =
      let bare = bare_request_in held.dialog (codes "PRACK") (held.dialog.local_cseq + 1)
      (branch_of event) event.local in
      record {
        prack = (
          record {
            own = ap has_command (content_method bare content);
            prack = λ is. subst (Pracks event.id) (sym (content_body bare content)) pays;
          },
          tt,
        );
        outs = refl;
      }

  outcome_paid : (event : Event) (of : List ℕ) (name : DialogId) (pending : PendingRequest)
      (content : Option Content) (without_it with_it : HeldDialog) → Pays event.id pending content
      → IsPaid (pending_outcome event of name pending content without_it with_it)
  outcome_paid event of name pending content without_it with_it pays =
      found_or IsPaid (pending_with event of name pending without_it with_it) content _
      (λ one is. found_or IsPaid _
      (first_refusal (refusals_in without_it.dialog (method_of pending)) None) _
      (λ refusal refused. record { prack = tt; outs = refl })
      (λ none. sent_paid event name pending one without_it (subst (Pays event.id pending) is pays)))
      (λ none. record { prack = tt; outs = refl })

  record IsReplied (done : Outcome) : Type 0 where
    pub prack : AllByRecursion IsOwnKind done.prack
    pub outs : starts done.outs ≡ []

  agent_pays : (id : Id) (pending : PendingRequest)
      → Pays id pending (Some (content_of_body []))
  agent_pays id (Ack invite cseq) = tt
  agent_pays id (Prack rseq cseq) = empty id

  nothing_pays : (id : Id) (pending : PendingRequest) → Pays id pending None
  nothing_pays id (Ack invite cseq) = tt
  nothing_pays id (Prack rseq cseq) = tt

  asks_replied : (pending : PendingRequest) (reply : Reply) (client : Client)
      (after : Option SentAck → Client) (held : HeldDialog) (dialogs : Dialogs)
      → IsReplied (asks_for pending reply client after held dialogs)
  asks_replied pending reply client after held dialogs =
      let at_once = not (length client.request.body == 0) || (length reply.response.body == 0) in
      let content : Option Content = if at_once then Some (content_of_body []) else None in
      let so = outcome_paid reply.event reply.call_id reply.name pending content held _
      (either (Pays reply.event.id pending) at_once (Some (content_of_body [])) None
      (λ is. agent_pays reply.event.id pending) (λ waits. nothing_pays reply.event.id pending)) in
      record { prack = so.prack; outs = so.outs }

  reliable_replied : (reply : Reply) (client : Client) (dialogs : Dialogs) (held : HeldDialog)
      (rseq : ℕ) → IsReplied (reliable_response reply client dialogs held rseq)
  reliable_replied reply client dialogs held rseq =
      let initial = is_initial client in
      let last = if initial then held.last_rseq else client.last_rseq in
      let heard : Client = record client { last_rseq = Some rseq } in
      let hears : HeldDialog = record held { last_rseq = Some rseq } in
      let after : Option SentAck → Client = λ ack. if initial then client else heard in
      let dialog : HeldDialog = if initial then hears else held in
      let prack = Prack rseq client.request.cseq.number in
      either IsReplied (not (option_map_or (λ last. rseq == last + 1) last true))
      (kept_outcome client dialogs []) (asks_for prack reply client after dialog dialogs)
      (λ passed. record { prack = tt; outs = refl })
      (λ taken. asks_replied prack reply client after dialog dialogs)

  dialog_replied : (reply : Reply) (client : Client) (dialogs : Dialogs)
      → IsReplied (dialog_response reply client dialogs)
  dialog_replied reply client dialogs =
      let response = reply.response in
      let held = unwrap_or (lookup (is_dialog_id reply.name) dialogs)
      (dialog_made_by reply client) in
      found_or IsReplied (reliable_response reply client dialogs held)
      (if requires_100rel response then response.rseq else None) _
      (λ rseq is. reliable_replied reply client dialogs held rseq)
      (λ none. record { prack = tt; outs = refl })

  again_replied : (answer : Option (Option SentAck)) (client : Client) (dialogs : Dialogs)
      → IsReplied (success_again answer client dialogs)
  again_replied None client dialogs = record { prack = tt; outs = refl }
  again_replied (Some None) client dialogs = record { prack = tt; outs = refl }
  again_replied (Some (Some ack)) client dialogs = record { prack = tt; outs = refl }

  outcome_replied : (reply : Reply) (client : Client) (dialogs : Dialogs)
      → IsReplied (outcome_of reply client dialogs)
  outcome_replied reply client dialogs =
      let final = is_final reply.status in
      let answer = lookup (is_dialog_id reply.name) client.answers in
      let told : Outcome = kept_outcome client dialogs (notice_of reply ∷ []) in
      let late : Outcome = kept_outcome (accepted reply client None) dialogs (notice_of reply ∷ [])
      in
      let is_told = not (has_dialog client dialogs && not (reply.status == 100)
      && has_to_tag reply.response) in
      let fifth : Outcome = if is_told then told else dialog_response reply client dialogs in
      let fourth : Outcome = if final then late else fifth in
      let third : Outcome = if final && has_dialog client dialogs
      then first_success reply client dialogs else fourth in
      let second : Outcome = if final && is_some answer
      then success_again answer client dialogs else third in
      either IsReplied (final && not (is_invite_kind client.kind && is_success reply.status))
      (last_response reply client dialogs) second
      (λ last. record {
        prack = tt;
        outs = over_silent client ((reply.status == 481) || (reply.status == 408)) dialogs;
      })
      (λ more. either IsReplied (final && is_some answer) (success_again answer client dialogs)
      third (λ again. again_replied answer client dialogs)
      (λ new. either IsReplied (final && has_dialog client dialogs)
      (first_success reply client dialogs) fourth
      (λ success. asks_replied (Ack client.id client.request.cseq.number) reply client
      (accepted reply client)
      (option_map_or (success_in (is_initial client) reply.response)
      (lookup (is_dialog_id reply.name) dialogs) (dialog_made_by reply client)) dialogs)
      (λ none. either IsReplied final late fifth
      (λ over. record { prack = tt; outs = refl })
      (λ provisional. either IsReplied is_told told (dialog_response reply client dialogs)
      (λ other. record { prack = tt; outs = refl })
      (λ early. dialog_replied reply client dialogs)))))

module _ (Asks : Id → List ℕ → List ℕ → Type 0) (Pracks : Id → List ℕ → Type 0)
    (empty : (id : Id) → Pracks id []) where
  -- of a request of another kind this is said, of its method and its body, under this id; and that
  -- of a PRACK
  pub record IsAsked (id : Id) (request : Message) : Type 0 where
    pub asks : has_command request.cseq.method ≡ false
        → Asks id request.cseq.method request.body
    pub pracks : request.cseq.method ≡ codes "PRACK" → Pracks id request.body

  abbrev pub OutAsks : CallOut → Type 0
  OutAsks (out.Notice notice) = Unit {0}
  OutAsks (out.Command id (order.Start key call_id message to)) = IsAsked id message
  OutAsks (out.Command id (order.Answer key message)) = Unit {0}
  OutAsks (out.Command id (order.Abandon key)) = Unit {0}
  OutAsks (out.Direct to bytes) = Unit {0}

  abbrev Say : List CallOut → Type 0
  Say outs = AllByRecursion OutAsks outs

  some_started : (start : Id × Key) (rest : List (Id × Key)) → start ∷ rest ≡ [] → ⊥
  some_started start rest same = absurd cc

  silent : (outs : List CallOut) → starts outs ≡ [] → Say outs
  silent [] none = tt
  silent (out.Notice notice ∷ outs) none = (tt, silent outs none)
  silent (out.Direct to bytes ∷ outs) none = (tt, silent outs none)
  silent (out.Command id (order.Answer key message) ∷ outs) none = (tt, silent outs none)
  silent (out.Command id (order.Abandon key) ∷ outs) none = (tt, silent outs none)
  silent (out.Command id (order.Start key call_id message to) ∷ outs) none =
      absurd (some_started (id, key) (starts outs) none)

  -- ---- client requests

  abbrev Asked : Client → Type 0
  Asked client = IsAsked client.id client.request

  own_asked : (client : Client) → IsOwnKind Pracks empty client → Asked client
  own_asked client its = record {
    asks = λ other. absurd (false≢true (sym other ∙ its.own));
    pracks = its.prack;
  }

  cancel_asked : (id : Id) (invite : Client) → Asked (cancel_request id invite)
  cancel_asked id invite = record {
    asks = λ other. absurd (false≢true (sym other));
    pracks = λ is. absurd (no_prack is);
  }

  all_asked : (clients : List Client) → AllByRecursion (IsOwnKind Pracks empty) clients
      → AllByRecursion Asked clients
  all_asked [] all = tt
  all_asked (client ∷ clients) all = (own_asked client all.0, all_asked clients all.1)

  asked_so : (id : Id) (method body : List ℕ) (request : Message)
      → request.cseq.method ≡ method → request.body ≡ body → has_command method ≡ false
      → Asks id method body → IsAsked id request
  asked_so id method body request method_is body_is plain asks = record {
    asks = λ other. subst (λ m. Asks id m request.body) (sym method_is)
        (subst (Asks id method) (sym body_is) asks);
    pracks = λ is. absurd (false≢true (sym plain ∙ ap has_command (sym method_is ∙ is)));
  }

  starts_say : (clients : List Client) (done : Clients × List CallOut) → Say done.1
      → AllByRecursion Asked clients → Say (fold start done clients).1
  starts_say [] done says all = says
  starts_say (client ∷ clients) done says all =
      starts_say clients (start done client) (both OutAsks done.1 _ says (all.0, tt)) all.1

  -- ---- commands outside of dialogs

  invite_says : (event : Event) (invite : Invite) (clients : Clients)
      → Asks event.id (codes "INVITE") invite.content.body
      → Say (invite_command event invite clients).1
  unfolding invite_command
  invite_says event invite clients asks =
      let outside = request_outside event invite.call_id (codes "INVITE") invite.request_uri
      invite.from invite.to invite.routes in
      let contact : Message = record outside { contacts = contact_of event.local ∷ [] } in
      let supporting = with_100rel invite.support contact in (
        asked_so event.id (codes "INVITE") invite.content.body
            (with_content_of supporting invite.content)
            (content_method supporting invite.content ∙ support_method invite.support contact)
            (content_body supporting invite.content) refl asks,
        tt,
      )

  plain_says : (event : Event) (plain : Plain) (clients : Clients)
      → Asks event.id plain.method plain.content.body
      → Say (plain_command event plain clients).1
  unfolding plain_command
  plain_says event plain clients asks =
      let outside = request_outside event plain.call_id plain.method plain.request_uri plain.from
      plain.to plain.routes in
      let first = has_command plain.method in
      let second = bytes_eq plain.method (codes "INVITE") in
      let third = bytes_eq plain.method (codes "BYE") in
      either (λ (done : Clients × List CallOut). Say done.1) (first || second || third) _ _
      (λ bad. (tt, tt))
      (λ good. (
        asked_so event.id plain.method plain.content.body
            (with_content_of outside plain.content) (content_method outside plain.content)
            (content_body outside plain.content)
            (first_false first second (first_false (first || second) third good)) asks,
        tt,
      ))

  -- ---- commands in a dialog

  abbrev SideSays : ClientTaken → Type 0
  SideSays taken = Say taken.1

  request_held : (event : Event) (command : DialogRequest) (side : Side) (name : DialogId)
      (held : HeldDialog) → Asks event.id command.method command.content.body
      → SideSays (request_in_dialog event command side name held)
  request_held event command side name held asks =
      let method = command.method in
      let sent = start (side.clients, [])
      (request_with_next_number event name method None command.content held) in
      let dialogs = set_value (is_dialog_id name) side.dialogs (with_number held) in
      let bare = bare_request_in held.dialog method (held.dialog.local_cseq + 1)
      (branch_of event) event.local in
      let says : has_command method ≡ false → Say sent.1 = λ plain. (
        asked_so event.id method command.content.body
            (request_with_next_number event name method None command.content held).request
            (content_method bare command.content) (content_body bare command.content) plain asks,
        tt,
      ) in
      found_or SideSays _
      (first_refusal ((has_command method, BadMethod) ∷ refusals_in held.dialog method) None) _
      (λ refusal refused. (tt, tt))
      (λ none.
      let plain =
      first_holds (has_command method) BadMethod (refusals_in held.dialog method) none in
      either (λ (ended : Dialogs × List CallOut). Say (sent.1 ++ ended.1))
      (bytes_eq method (codes "BYE")) (ended_at name dialogs) (dialogs, [])
      (λ bye. both OutAsks sent.1 (ended_at name dialogs).1 (says plain)
      (silent (ended_at name dialogs).1 (ended_starts name dialogs)))
      (λ other. both OutAsks sent.1 [] (says plain) tt))

  request_says : (event : Event) (command : DialogRequest) (side : Side)
      → Asks event.id command.method command.content.body
      → SideSays (request_command event command side)
  unfolding request_command
  request_says event command side asks =
      let name = dialog_id_of_tags (tag_text command.local_tag) (tag_text command.remote_tag) in
      found_or SideSays (request_in_dialog event command side name)
      (lookup (is_dialog_id name) side.dialogs) _
      (λ held is. request_held event command side name held asks) (λ none. (tt, tt))

  by_user_says : (event : Event) (command : DialogBody) (side : Side) (name : DialogId)
      (held : HeldDialog) (pending : PendingRequest)
      → Pays Pracks empty event.id pending (Some command.content)
      → SideSays (pending_by_user event command side name held pending)
  by_user_says event command side name held pending pays =
      let others = filter (λ other. not (is_same_pending pending other)) held.pending_requests in
      let without_it : HeldDialog = record held { pending_requests = others } in
      let content = Some command.content in
      let done = pending_outcome event command.call_id name pending content without_it held in
      let so = outcome_paid Pracks empty event command.call_id name pending content without_it
      held pays in
      starts_say done.prack (ack_kept pending name done.ack side.clients, done.outs)
      (silent done.outs so.outs) (all_asked done.prack so.prack)

  pending_says : (method : List ℕ) (nothing : Refusal) (event : Event) (command : DialogBody)
      (side : Side)
      → ((pending : PendingRequest) → bytes_eq (method_of pending) method ≡ true
      → Pays Pracks empty event.id pending (Some command.content))
      → SideSays (pending_command method nothing event command side)
  pending_says method nothing event command side pays =
      let name = dialog_id_of_tags (tag_text command.local_tag) (tag_text command.remote_tag) in
      let fits : PendingRequest → Bool = λ pending. bytes_eq (method_of pending) method in
      found_or SideSays (oldest_pending method nothing event command side name)
      (lookup (is_dialog_id name) side.dialogs) _
      (λ held is. found_or SideSays (pending_by_user event command side name held)
      (find fits held.pending_requests) _
      (λ pending found. by_user_says event command side name held pending
      (pays pending (found_passes fits held.pending_requests pending found)))
      (λ none. (tt, tt)))
      (λ none. (tt, tt))

  ack_says : (event : Event) (command : DialogBody) (side : Side)
      → SideSays (ack_command event command side)
  unfolding ack_command
  ack_says event command side =
      pending_says (codes "ACK") NothingToAck event command side pays
    where
      pays : (pending : PendingRequest) → bytes_eq (method_of pending) (codes "ACK") ≡ true
          → Pays Pracks empty event.id pending (Some command.content)
      pays (Ack invite cseq) is = tt
      pays (Prack rseq cseq) is = absurd (false≢true is)

  prack_says : (event : Event) (command : DialogBody) (side : Side)
      → Pracks event.id command.content.body → SideSays (prack_command event command side)
  unfolding prack_command
  prack_says event command side asks =
      pending_says (codes "PRACK") NothingToPrack event command side pays
    where
      pays : (pending : PendingRequest) → bytes_eq (method_of pending) (codes "PRACK") ≡ true
          → Pays Pracks empty event.id pending (Some command.content)
      pays (Ack invite cseq) is = tt
      pays (Prack rseq cseq) is = asks

  -- ---- CANCEL

  cancel_held : (event : Event) (command : Cancel) (side : Side) (invite : Client)
      → SideSays (cancel_of_request event command side invite)
  cancel_held event command side invite =
      let with_cancel : Cancelling → Clients = λ cancel.
      set_value (is_id command.id) side.clients (record invite { cancel = cancel }) in
      let cancels = cancel_request event.id invite in
      let started : Clients × List CallOut = start (with_cancel Sent, []) cancels in
      let waits : Clients × List CallOut = (with_cancel (Waits event.id), []) in
      let done : Clients × List CallOut = if invite.provisional then started else waits in
      let first : ClientTaken = (record side { clients = done.0 }, done.1) in
      let asked : ClientTaken = if is_asked invite.cancel then (side, []) else first in
      let late : ClientTaken = if is_some invite.removal
      then refuse event command.call_id side AlreadyFinal else asked in
      either SideSays (not (is_invite_kind invite.kind))
      (refuse event command.call_id side NoSuchRequest) late (λ is. (tt, tt))
      (λ is. either SideSays (is_some invite.removal)
      (refuse event command.call_id side AlreadyFinal) asked (λ final. (tt, tt))
      (λ still. either SideSays (is_asked invite.cancel) (side, []) first (λ again. tt)
      (λ none. either (λ (done : Clients × List CallOut). Say done.1) invite.provisional started
      waits (λ came. (cancel_asked event.id invite, tt)) (λ none. tt))))

  cancel_says : (event : Event) (command : Cancel) (side : Side)
      → SideSays (cancel_command event command side)
  unfolding cancel_command
  cancel_says event command side =
      found_or SideSays (cancel_of_request event command side)
      (lookup (is_id command.id) side.clients) _
      (λ invite is. cancel_held event command side invite) (λ none. (tt, tt))

  -- ---- a response, and a request that is lost

  response_says : (event : Event) (id : Id) (of : List ℕ) (response : Message) (side : Side)
      (status : ℕ) (client : Client)
      → SideSays (response_to event id of response side status client)
  response_says event id of response side status client =
      let final = is_final status in
      let waiting = waiting_cancel client.cancel in
      let cancels : List Client = if final then []
      else option_map_or (λ asked_by. cancel_request asked_by client ∷ []) waiting [] in
      let after : Client = record client {
        provisional = client.provisional || not final;
        cancel = option_map_or (λ asked_by. if final then NotAsked else Sent) waiting
            client.cancel;
      } in
      let reply : Reply = record {
        event = event;
        id = id;
        call_id = of;
        name = option_map_or (λ reference. reference.name) (dialog_of_kind client.kind)
            (dialog_id_of_tags (tag_of client.request.from) (tag_of response.to));
        status = status;
        response = response;
      } in
      let done = outcome_of reply after side.dialogs in
      let clients : Clients = option_map_or (set_value (is_id id) side.clients) done.request
      (remove_entry (is_id id) side.clients) in
      let so = outcome_replied Pracks empty reply after side.dialogs in
      starts_say (done.prack ++ cancels) (clients, done.outs) (silent done.outs so.outs)
      (both Asked done.prack cancels (all_asked done.prack so.prack)
      (either (AllByRecursion Asked) final []
      (option_map_or (λ asked_by. cancel_request asked_by client ∷ []) waiting [])
      (λ final. tt)
      (λ provisional. found_or (AllByRecursion Asked)
      (λ asked_by. cancel_request asked_by client ∷ []) waiting []
      (λ asked_by is. (cancel_asked asked_by client, tt)) (λ none. tt))))

  received_says : (event : Event) (id : Id) (of : List ℕ) (response : Message) (side : Side)
      → SideSays (response_received event id of response side)
  unfolding response_received
  received_says event id of response side =
      found_or SideSays _ (status_of response.start) (side, [])
      (λ status is. found_or SideSays (response_to event id of response side status)
      (lookup (is_id id) side.clients) (side, [])
      (λ client found. response_says event id of response side status client) (λ none. tt))
      (λ none. tt)

  lost_says : (id : Id) (timed_out : Bool) (side : Side)
      → SideSays (request_is_lost id timed_out side)
  unfolding request_is_lost
  lost_says id timed_out side =
      found_or (λ (ended : Dialogs × List CallOut). Say ended.1) _
      (lookup (is_id id) side.clients) (side.dialogs, [])
      (λ client is. silent (request_over client timed_out side.dialogs).1
      (over_silent client timed_out side.dialogs)) (λ none. tt)

  -- ---- a call

  up_says : (call : Call) (event : Event) (up : AnUp) (k : UpKind)
      → Say (received call event up k).1
  up_says call event up (kind.Request request reply_to) =
      let k = kind.Request request reply_to in
      silent _ (ap (λ (taken : ServedTaken). starts taken.1)
      (kind_same call.served (made_tag event) up k event.moment)
      ∙ kind_starts call.served (made_tag event) up k event.moment)
  up_says call event up (kind.Ack ack) =
      silent _ (ap (λ (taken : ServedTaken). starts taken.1)
      (kind_same call.served (made_tag event) up (kind.Ack ack) event.moment)
      ∙ kind_starts call.served (made_tag event) up (kind.Ack ack) event.moment)
  up_says call event up (kind.Response response) =
      received_says event up.id up.call_id response (side_of call)
  up_says call event up kind.Timeout = (tt, lost_says up.id true (side_of call))
  up_says call event up kind.Failed = (tt, lost_says up.id false (side_of call))

  -- this is said of the request for which a command asks
  abbrev CommandAsks : Id → UserCommand → Type 0
  CommandAsks id (user.Prack prack) = Pracks id prack.content.body
  CommandAsks id command = (method body : List ℕ) → request_asked_by command ≡ Some (method, body)
      → Asks id method body

  first_says : (call : Call) (event : Event) (command : UserCommand)
      → CommandAsks event.id command
      → Say (item_of_call false call event (User command)).1
  first_says call event (user.Invite invite) asks =
      invite_says event invite call.clients (asks (codes "INVITE") invite.content.body refl)
  first_says call event (user.Plain plain) asks =
      plain_says event plain call.clients (asks plain.method plain.content.body refl)
  first_says call event (user.Request request) asks = (tt, tt)
  first_says call event (user.Respond respond) asks = (tt, tt)
  first_says call event (user.Ack ack) asks = (tt, tt)
  first_says call event (user.Prack prack) asks = (tt, tt)
  first_says call event (user.Cancel cancel) asks = (tt, tt)
  first_says call event (user.AbandonRequest abandon) asks = (tt, tt)
  first_says call event (user.AbandonDialog abandon) asks = (tt, tt)

  command_says : (call : Call) (event : Event) (command : UserCommand)
      → CommandAsks event.id command
      → Say (item_of_call true call event (User command)).1
  command_says call event (user.Invite invite) asks = (tt, tt)
  command_says call event (user.Plain plain) asks = (tt, tt)
  command_says call event (user.Request request) asks =
      request_says event request (side_of call)
      (asks request.method request.content.body refl)
  command_says call event (user.Respond respond) asks =
      silent _ (ap (λ (taken : ServedTaken). starts taken.1)
      (respond_same call.served event.id respond event.moment)
      ∙ respond_starts call.served event.id respond event.moment)
  command_says call event (user.Ack ack) asks = ack_says event ack (side_of call)
  command_says call event (user.Prack prack) asks = prack_says event prack (side_of call) asks
  command_says call event (user.Cancel cancel) asks = cancel_says event cancel (side_of call)
  command_says call event (user.AbandonRequest abandon) asks =
      request_given_up event abandon (side_of call) (λ taken. Say taken.1) (tt, tt)
      (λ client. (tt, lost_says abandon.id false (side_of call)))
  command_says call event (user.AbandonDialog abandon) asks =
      dialog_given_up event abandon (side_of call) (λ taken. Say taken.1) (tt, tt)
      (λ held. silent _ (ended_starts (named abandon) (side_of call).dialogs))

  abbrev pub InputAsks : Option CallItem → Type 0
  InputAsks None = Unit {0}
  InputAsks (Some (id, Up up)) = Unit {0}
  InputAsks (Some (id, User command)) = CommandAsks id command

  step_says : (calls : Calls) (state : Option Call) (input : Option CallItem) (now : ℕ)
      → InputAsks input → Say (call_step calls state input now).1
  step_says calls state None now asks =
      silent (call_step calls state None now).1 (tick_silent calls state now)
  step_says calls None (Some (id, Up up)) now asks =
      up_says (new_call calls.local) (event_of calls id now) up up.kind
  step_says calls (Some call) (Some (id, Up up)) now asks =
      up_says call (event_of calls id now) up up.kind
  step_says calls None (Some (id, User command)) now asks =
      first_says (new_call calls.local) (event_of calls id now) command asks
  step_says calls (Some call) (Some (id, User command)) now asks =
      command_says call (event_of calls id now) command asks

  -- ---- all inputs

  pub all_say : (calls : Calls) (call_id : List ℕ) (state : Option Call)
      (inputs : List (Timed CallItem))
      → AllByRecursion (λ timed. InputAsks timed.input) inputs
      → AllByRecursion OutAsks (outputs_from (call_machine calls) call_id state inputs)
  all_say calls call_id state [] asks = tt
  all_say calls call_id state (timed ∷ inputs) asks =
      let step = call_step calls state timed.input timed.moment in
      both OutAsks step.1 (outputs_from (call_machine calls) call_id step.0 inputs)
      (step_says calls state timed.input timed.moment asks.0)
      (all_say calls call_id step.0 inputs asks.1)
