-- By one input a call sends at most one ACK: the user's, or the one for a 2xx.
use Rattle.std.proofs.Common.{◌≡◌, ◌⊎◌, inl, inr, ⊎_elim, ℕ, Bool, true, false, not, cond, ◌&&◌, ◌||◌, ◌==◌, length, List, [], ◌∷◌, ◌++◌, map, refl, sym, ap, subst, ◌∙◌, append-nil}
use Rattle.std.specs.Prelude.{Option, None, Some, filter, find, fold, is_some, codes, if◌then◌else◌}
use Rattle.std.specs.List.{AllByRecursion}
use Rattle.std.specs.Map.{lookup, remove_entry, set_value, values_of}
use Rattle.std.specs.Option.{option_and_then, option_map_or}
use Rattle.std.specs.Str.{bytes_eq}
use Rattle.std.proofs.lemmas.Bool.{false≢true, and_parts}
use Rattle.std.proofs.lemmas.List.Elements.{filter_map-append}
use Rattle.indexmap.specs.IndexMap.{insert_entry}
use Rattle.keyed_machine.proofs.Ordered.{by_bool}
use Rattle.sip_message.specs.Content.{Content, content_of_body}
use Rattle.sip_message.specs.Party.{tag_of}
use Rattle.sip_message.specs.declared.id.Id.{Id}
use Rattle.sip_message.specs.declared.message.Message.{Message}
use Rattle.sip_message.specs.declared.start_line.StartLine.{StartLine}
use Rattle.sip_message.specs.declared.start_line.StartLine.TheVariants as start_line
use Rattle.sip_transactions.specs.declared.output.Up.{Up as AnUp}
use Rattle.sip_transactions.specs.declared.output.UpKind.{UpKind}
use Rattle.sip_transactions.specs.declared.output.UpKind.TheVariants as kind
use Rattle.sip_user.specs.Notices.{refused}
use Rattle.sip_user.specs.Refusal.{first_refusal}
use Rattle.sip_user.specs.declared.command.DialogBody.{DialogBody}
use Rattle.sip_user.specs.declared.command.UserCommand.{UserCommand}
use Rattle.sip_user.specs.declared.command.UserCommand.TheVariants as user
use Rattle.sip_user.specs.declared.item.CallOut.{CallOut}
use Rattle.sip_user.specs.declared.item.CallOut.TheVariants as out
use Rattle.sip_user.specs.declared.item.Item.TheVariants.{Up, User}
use Rattle.sip_user.specs.declared.refusal.Refusal.{Refusal}
use Rattle.sip_user.specs.declared.refusal.Refusal.TheVariants.{NoSuchDialog, NothingToAck}
use Rattle.sip_held_dialogs.specs.Dialogs.{Dialogs, dialog_at, early_ended, ended_at, ended_notice, is_dialog_id, is_early_of, lives}
use Rattle.sip_held_dialogs.specs.Ids.{is_id}
use Rattle.sip_held_dialogs.specs.Requests.{dialog_id_of_tags, has_to_tag, is_final, is_success}
use Rattle.sip_held_dialogs.specs.declared.held_dialog.DialogId.{DialogId}
use Rattle.sip_held_dialogs.specs.declared.held_dialog.DialogReference.{DialogReference}
use Rattle.sip_held_dialogs.specs.declared.held_dialog.HeldDialog.{HeldDialog}
use Rattle.sip_held_dialogs.specs.declared.pending_request.PendingRequest.{PendingRequest}
use Rattle.sip_held_dialogs.specs.declared.pending_request.PendingRequest.TheVariants.{Ack, Prack}
use Rattle.sip_held_dialogs.proofs.Entries as entries
use Rattle.sip_held_dialogs.proofs.Heard.{name_laws}
use Rattle.sip_served.specs.Step.{kind_taken}
use Rattle.sip_served.specs.Tick.{tick_taken}
use Rattle.sip_served.proofs.ServedAnswers.{AllowsServed}
use Rattle.sip_clients.specs.Answers.{ack_of, has_answer}
use Rattle.sip_clients.specs.Client.{Clients, ClientTaken, Side, client_at}
use Rattle.sip_clients.specs.ClientLife.{ack_in, acks_out}
use Rattle.sip_clients.specs.Clients.{ack_by_user, reply_name, response_taken, status_of}
use Rattle.sip_clients.specs.Commands.{name_in}
use Rattle.sip_clients.specs.ReceivedResponse.{is_invite_kind}
use Rattle.sip_clients.specs.Rules.Ends.{request_over}
use Rattle.sip_clients.specs.Rules.Requests as rule
use Rattle.sip_clients.specs.Rules.Requests.{PendingOutcome, ack_command, dialog_of_kind, pending_outcome, pending_sent, pending_unsent, pending_with, refusals_in, start}
use Rattle.sip_clients.specs.Rules.Responses as rules
use Rattle.sip_clients.specs.Rules.Responses.{Outcome, accepted, asks_for, dialog_made_by, dialog_response, first_success, has_dialog, is_initial, last_response, notice_of, outcome_of, response_received, response_to, success_again, success_in}
use Rattle.sip_clients.specs.Tick.{clients_ticked}
use Rattle.sip_clients.specs.declared.answers.SentAck.{SentAck}
use Rattle.sip_clients.specs.declared.client.Cancelling.TheVariants.{NotAsked, Sent}
use Rattle.sip_clients.specs.declared.client.Client.{Client}
use Rattle.sip_clients.specs.declared.client.RequestKind.{RequestKind}
use Rattle.sip_clients.specs.declared.client.RequestKind.TheVariants.{InitialInvite}
use Rattle.sip_clients.specs.declared.event.Event.{Event}
use Rattle.sip_clients.specs.declared.reply.ReceivedResponse.{ReceivedResponse}
use Rattle.sip_clients.proofs.Abandons as abandons
use Rattle.sip_clients.proofs.OtherSends.{cancel_no_ack, invite_no_ack, lost_no_ack, plain_no_ack, prack_no_ack, request_no_ack, response_by_status, tick_no_ack}
use Rattle.sip_clients.proofs.RuleRequests.{ack_same}
use Rattle.sip_clients.proofs.RuleResponses.{response_same}
use Rattle.sip_calls.specs.Call.{CallItem, Taken, event_of, kept, kept_call, made_tag, new_call}
use Rattle.sip_calls.specs.Provisionals.{side_held}
use Rattle.sip_calls.specs.Sides.{CallTaken, by_server, side_of}
use Rattle.sip_calls.specs.Steps.Call.{command_taken, first_command_taken, step_taken, ticked, up_taken}
use Rattle.sip_calls.specs.declared.call.Call.{Call}
use Rattle.sip_calls.specs.declared.calls.Calls.{Calls}
use Rattle.sip_calls.proofs.KeptSides.{kept_side}
use Rattle.sip_calls.proofs.SameSteps.{same_step}
use Rattle.sip_agent_laws.specs.Histories.OneAck.{BringsSuccess, OneAckAnInput, SendsAck, is_held_in}
use Rattle.sip_agent_laws.specs.Histories.OneAck.SendsAck.{Again, AtFirst, ByUser}
use Rattle.sip_agent_laws.proofs.calls.ServerOuts.{Any, kind_passes, respond_passes, tick_passes}

acks_append : (outs more : List CallOut) → acks_out (outs ++ more) ≡ acks_out outs ++ acks_out more
acks_append outs more = filter_map-append ack_in outs more

-- ---- the server side sends none

-- it isn't an ACK
abbrev IsNoAck : CallOut → Type 0
IsNoAck out = ack_in out ≡ None

none_of : (outs : List CallOut) → AllByRecursion IsNoAck outs → acks_out outs ≡ []
none_of [] none = refl
none_of (out.Notice notice ∷ outs) none = none_of outs none.1
none_of (out.Command id order ∷ outs) none = none_of outs none.1
none_of (out.Direct to bytes ∷ outs) none = absurd (let no = none.0 in absurd cc)

no_ack_served : AllowsServed IsNoAck Any
no_ack_served = record { told = λ one other. refl; answer = λ id key {message} here. refl }

served_none : (call : Call) (event : Event) (up : AnUp) (k : UpKind)
    → acks_out (by_server call (kind_taken call.served (made_tag event) up k event.moment)).1 ≡ []
served_none call event up k =
    none_of (kind_taken call.served (made_tag event) up k event.moment).1
    (kind_passes IsNoAck no_ack_served call.served (made_tag event) up k event.moment)

-- ---- what is sent with a transaction is no ACK

ends_none : (dialogs : List HeldDialog) → acks_out (map ended_notice dialogs) ≡ []
ends_none [] = refl
ends_none (held ∷ dialogs) = ends_none dialogs

end_none : (name : DialogId) (dialogs : Dialogs) → acks_out (ended_at name dialogs).1 ≡ []
end_none name dialogs = by_dialog (dialog_at name dialogs)
  where
    by_dialog : (o : Option HeldDialog)
        → acks_out (option_map_or (λ held. ended_notice held ∷ []) o []) ≡ []
    by_dialog None = refl
    by_dialog (Some held) = refl

over_none : (client : Client) (gone : Bool) (dialogs : Dialogs)
    → acks_out (request_over client gone dialogs).1 ≡ []
over_none client gone dialogs =
    acks_append early.1 (own (dialog_of_kind client.kind)).1
    ∙ (λ i. ends_none (filter (is_early_of client.id) (values_of dialogs)) i
    ++ own_none (dialog_of_kind client.kind) i)
  where
    early : Dialogs × List CallOut
    early = early_ended client.id dialogs

    own : Option DialogReference → Dialogs × List CallOut
    own o = option_map_or (λ (reference : DialogReference). if gone && lives early.0 reference
        then ended_at reference.name early.0 else (early.0, [])) o (early.0, [])

    by_test : (b : Bool) (name : DialogId) → acks_out (cond {A = Dialogs × List CallOut} b
        (ended_at name early.0) (early.0, [])).1 ≡ []
    by_test true name = end_none name early.0
    by_test false name = refl

    own_none : (o : Option DialogReference) → acks_out (own o).1 ≡ []
    own_none None = refl
    own_none (Some reference) = by_test (gone && lives early.0 reference) reference.name

-- requests that go out after these add none
fold_same : (more : List Client) (done : Clients × List CallOut)
    → acks_out (fold start done more).1 ≡ acks_out done.1
fold_same [] done = refl
fold_same (client ∷ more) done =
    fold_same more (start done client)
    ∙ filter_map-append ack_in done.1 _
    ∙ append-nil (acks_out done.1)

-- ---- one ACK or none

-- one ACK, of which this is true, or none
abbrev OneAck : (SentAck → Type 0) → List CallOut → Type 0
OneAck For outs = (acks_out outs ≡ []) ⊎ ((ack : SentAck) × (acks_out outs ≡ ack ∷ []) × For ack)

-- an ACK for a 2xx in the dialog of the name, by what the INVITE has kept and the dialogs after it
abbrev ForSuccess : DialogId → Client → Dialogs → SentAck → Type 0
ForSuccess name client after ack =
    ((has_answer name client.answers ≡ false) × (is_some (dialog_at name after) ≡ true))
    ⊎ (ack_of name client.answers ≡ Some ack)

inserted : (name : DialogId) (held : HeldDialog) (dialogs : Dialogs)
    → is_some (dialog_at name (insert_entry is_dialog_id dialogs name held)) ≡ true
inserted name held dialogs =
    ap is_some (entries.found_inserted name_laws name name held dialogs)
    ∙ ap (λ b. is_some (cond b (Some held) (dialog_at name dialogs))) (name_laws.refl name)

module _ (answer : ReceivedResponse) (client : Client) (dialogs : Dialogs) where
  abbrev Gives : Outcome → Type 0
  Gives done = OneAck (λ ack.
      ((rule.is_invite_kind client.kind && is_success answer.status) ≡ true)
      × ForSuccess answer.name client done.dialogs ack) done.outs

  abbrev Accepts : Type 0
  Accepts = (rule.is_invite_kind client.kind && is_success answer.status) ≡ true

  again : Accepts → (o : Option SentAck)
      → lookup (is_dialog_id answer.name) client.answers ≡ Some o
      → Gives (success_again (Some o) client dialogs)
  again is None found = inl refl
  again is (Some ack) found =
      inr (ack, refl, (is, inr (ap (λ o. option_and_then (λ ack. ack) o) found)))

  -- the ACK that the 2xx asked for, and the dialog after that
  abbrev After : PendingOutcome → Type 0
  After done = OneAck (λ ack. Accepts × ForSuccess answer.name client
      (insert_entry is_dialog_id dialogs answer.name done.dialog) ack) done.outs

  -- the 2xx asks for its ACK, and the dialog is held after that
  first : Accepts → lookup (is_dialog_id answer.name) client.answers ≡ None
      → (held : HeldDialog)
      → Gives (asks_for (Ack client.id client.request.cseq.number) answer client
      (accepted answer client) held dialogs)
  first is none held =
      by_content (if not (length client.request.body == 0) || (length answer.response.body == 0)
      then Some (content_of_body []) else None)
    where
      asked : PendingRequest
      asked = Ack client.id client.request.cseq.number

      with_it : HeldDialog
      with_it = record held { pending_requests = held.pending_requests ++ asked ∷ [] }

      by_refusal : (content : Content) (o : Option Refusal) → After (option_map_or
          (λ refusal. pending_unsent with_it (refused answer.event.id answer.call_id refusal)) o
          (pending_sent answer.event answer.name asked content held))
      by_refusal content (Some refusal) = inl refl
      by_refusal content None =
          inr (_, refl, (is, inl (ap is_some none, inserted answer.name held dialogs)))

      by_content : (content : Option Content) → After (pending_outcome answer.event
          answer.call_id answer.name asked content held with_it)
      by_content None = inl refl
      by_content (Some content) =
          by_refusal content (first_refusal (refusals_in held.dialog (rule.method_of asked)) None)

  by_case : (b : Bool) → (rule.is_invite_kind client.kind && is_success answer.status) ≡ b
      → (o : Option (Option SentAck)) → lookup (is_dialog_id answer.name) client.answers ≡ o
      → (there : Bool) → Gives (if not b then last_response answer client dialogs
      else if is_some o then success_again o client dialogs
      else if there then first_success answer client dialogs
      else rules.kept (accepted answer client None) dialogs (notice_of answer ∷ []))
  by_case false is o found there =
      inl (over_none client ((answer.status == 481) || (answer.status == 408)) dialogs)
  by_case true is (Some o) found there = again is o found
  by_case true is None found true =
      first is found (option_map_or (success_in (is_initial client) answer.response)
      (lookup (is_dialog_id answer.name) dialogs) (dialog_made_by answer client))
  by_case true is None found false = inl refl

  outcome_gives : is_final answer.status ≡ true → Gives (outcome_of answer client dialogs)
  outcome_gives final =
      subst (λ b. Gives (by_final b)) (sym final)
      (by_case (rule.is_invite_kind client.kind && is_success answer.status) refl
      (lookup (is_dialog_id answer.name) client.answers) refl (has_dialog client dialogs))
    where
      by_final : Bool → Outcome
      by_final final =
          let answered = lookup (is_dialog_id answer.name) client.answers in
          if final && not (rule.is_invite_kind client.kind && is_success answer.status)
          then last_response answer client dialogs
          else if final && is_some answered then success_again answered client dialogs
          else if final && has_dialog client dialogs then first_success answer client dialogs
          else if final then rules.kept (accepted answer client None) dialogs
          (notice_of answer ∷ [])
          else if not (has_dialog client dialogs && not (answer.status == 100)
          && has_to_tag answer.response)
          then rules.kept client dialogs (notice_of answer ∷ [])
          else dialog_response answer client dialogs

-- ---- a response

same_name : (k : RequestKind) (client : Client) (response : Message)
    → option_map_or (λ (reference : DialogReference). reference.name) (dialog_of_kind k)
    (dialog_id_of_tags (tag_of client.request.from) (tag_of response.to))
    ≡ reply_name k client response
same_name InitialInvite client response = refl
same_name _ client response = refl

same_invite : (k : RequestKind) → rule.is_invite_kind k ≡ is_invite_kind k
same_invite InitialInvite = refl
same_invite _ = refl

same_status : (line : StartLine) → rules.status_of line ≡ status_of line
same_status (start_line.Request uri) = refl
same_status (start_line.Response status reason) = refl

module _ (event : Event) (id : Id) (call_id : List ℕ) (response : Message) (side : Side) where
  -- the response is a 2xx to a held INVITE
  record Brings (after : Dialogs) (ack : SentAck) : Type 0 where
    pub status : ℕ
    pub invite : Client
    pub status_is : rules.status_of response.start ≡ Some status
    pub success : is_success status ≡ true
    pub held : client_at id side.clients ≡ Some invite
    pub inviting : rule.is_invite_kind invite.kind ≡ true
    pub acks : ForSuccess (reply_name invite.kind invite response) invite after ack

  abbrev Responds : ClientTaken → Type 0
  Responds taken = OneAck (Brings (taken.0).dialogs) taken.1

  final_gives : (status : ℕ) → rules.status_of response.start ≡ Some status → (client : Client)
      → client_at id side.clients ≡ Some client → is_final status ≡ true
      → Responds (response_to event id call_id response side status client)
  final_gives status status_is client held final =
      ⊎_elim (λ none. inl (same ∙ none))
      (λ one. let of = and_parts (rule.is_invite_kind client.kind) (is_success status) one.2.0 in
      inr (
        one.0,
        same ∙ one.1,
        record {
          status = status;
          invite = client;
          status_is = status_is;
          success = of.1;
          held = held;
          inviting = of.0;
          acks = subst (λ name. ForSuccess name client done.dialogs one.0)
              (same_name client.kind client response) one.2.1;
        },
      ))
      (outcome_gives answer after side.dialogs final)
    where
      waiting : Option Id
      waiting = rules.waiting_cancel client.cancel

      after : Client
      after = record client {
        provisional = client.provisional || not (is_final status);
        cancel = option_map_or
            (λ asked_by. if is_final status then NotAsked else Sent) waiting
            client.cancel;
      }

      answer : ReceivedResponse
      answer = record {
        event = event;
        id = id;
        call_id = call_id;
        name = option_map_or (λ (reference : DialogReference). reference.name)
            (dialog_of_kind client.kind)
            (dialog_id_of_tags (tag_of client.request.from) (tag_of response.to));
        status = status;
        response = response;
      }

      done : Outcome
      done = outcome_of answer after side.dialogs

      cancels : List Client
      cancels = if is_final status then []
          else option_map_or (λ asked_by. rule.cancel_request asked_by client ∷ []) waiting []

      same : acks_out (response_to event id call_id response side status client).1
          ≡ acks_out done.outs
      same = fold_same (done.prack ++ cancels) (
        option_map_or (set_value (is_id id) side.clients) done.request
            (remove_entry (is_id id) side.clients),
        done.outs,
      )

  abbrev taken_at : Option ℕ → Option Client → ClientTaken
  taken_at s o = option_map_or (λ status. option_map_or
      (response_to event id call_id response side status) o (side, [])) s (side, [])

  found_gives : (s : Option ℕ) → rules.status_of response.start ≡ s → (o : Option Client)
      → client_at id side.clients ≡ o
      → ((status : ℕ) → s ≡ Some status → is_final status ≡ false
      → acks_out (taken_at s o).1 ≡ [])
      → Responds (taken_at s o)
  found_gives None status_is o held quiet = inl refl
  found_gives (Some status) status_is None held quiet = inl refl
  found_gives (Some status) status_is (Some client) held quiet =
      by_bool (is_final status)
      (λ final. final_gives status status_is client held final)
      (λ early. inl (quiet status refl early))

  received_gives : Responds (response_received event id call_id response side)
  unfolding response_received
  received_gives =
      found_gives (rules.status_of response.start) refl (client_at id side.clients) refl
      (λ status is early. ap (λ (taken : ClientTaken). acks_out taken.1)
      (response_same event id call_id response side)
      ∙ (response_by_status event id call_id response side status
      (sym (same_status response.start) ∙ is)).1 early)

  response_gives : Responds (response_taken event id call_id response side)
  response_gives = subst Responds (response_same event id call_id response side) received_gives

-- ---- the command Ack

set_there : (name : DialogId) (held : HeldDialog) (dialogs : Dialogs)
    → is_some (dialog_at name dialogs) ≡ true
    → is_some (dialog_at name (set_value (is_dialog_id name) dialogs held)) ≡ true
set_there name held [] there = absurd (false≢true there)
set_there name held (e ∷ es) there =
    by_test (is_dialog_id name e.0) refl there (set_there name held es)
  where
    rest : Dialogs
    rest = set_value (is_dialog_id name) es held

    by_test : (b : Bool) → is_dialog_id name e.0 ≡ b
        → is_some (cond b (Some e.1) (dialog_at name es)) ≡ true
        → (is_some (dialog_at name es) ≡ true → is_some (dialog_at name rest) ≡ true)
        → is_some (dialog_at name (cond b ((e.0, held) ∷ es) (e ∷ rest))) ≡ true
    by_test true is there later =
        ap (λ b. is_some (cond b (Some held) (dialog_at name es))) is
    by_test false is there later =
        ap (λ b. is_some (cond b (Some e.1) (dialog_at name rest))) is ∙ later there

module _ (event : Event) (command : DialogBody) (side : Side) where
  abbrev command_name : DialogId
  command_name = name_in command.local_tag command.remote_tag

  abbrev Acks : ClientTaken → Type 0
  Acks taken = OneAck (λ ack. (is_some (dialog_at command_name side.dialogs) ≡ true)
      × (is_some (dialog_at command_name (taken.0).dialogs) ≡ true)) taken.1

  by_refusal : (p : PendingRequest) (without_it with_it : HeldDialog) (content : Content)
      (o : Option Refusal)
      → OneAck (λ ack. Unit {0}) (option_map_or
      (λ refusal. pending_unsent with_it (refused event.id command.call_id refusal)) o
      (pending_sent event command_name p content without_it)).outs
  by_refusal p without_it with_it content (Some refusal) = inl refl
  by_refusal (Ack invite number) without_it with_it content None = inr (_, refl, tt)
  by_refusal (Prack rseq number) without_it with_it content None = inl refl

  by_pending : (held : HeldDialog) → dialog_at command_name side.dialogs ≡ Some held
      → (o : Option PendingRequest) → Acks (option_map_or
      (rule.pending_by_user event command side command_name held) o
      (rule.refuse event command.call_id side NothingToAck))
  by_pending held is None = inl refl
  by_pending held is (Some p) =
      let without_it = record held {
        pending_requests = filter (λ other. not (rule.is_same_pending p other))
            held.pending_requests;
      } in
      let done = pending_outcome event command.call_id command_name p (Some command.content)
      without_it held in
      let same = fold_same done.prack
      (rule.ack_kept p command_name done.ack side.clients, done.outs) in
      let there = ap is_some is in
      ⊎_elim (λ none. inl (same ∙ none))
      (λ one. inr (
        one.0,
        same ∙ one.1,
        (there, set_there command_name done.dialog side.dialogs there),
      ))
      (by_refusal p without_it held command.content
      (first_refusal (refusals_in without_it.dialog (rule.method_of p)) None))

  by_dialog : (o : Option HeldDialog) → dialog_at command_name side.dialogs ≡ o
      → Acks (option_map_or
      (rule.oldest_pending (codes "ACK") NothingToAck event command side command_name) o
      (rule.refuse event command.call_id side NoSuchDialog))
  by_dialog None is = inl refl
  by_dialog (Some held) is =
      by_pending held is (find (λ p. bytes_eq (rule.method_of p) (codes "ACK"))
      held.pending_requests)

  command_gives : Acks (rule.ack_command event command side)
  unfolding ack_command
  command_gives = by_dialog (dialog_at command_name side.dialogs) refl

  ack_gives : Acks (ack_by_user event command side)
  ack_gives = subst Acks (ack_same event command side) command_gives

-- ---- one input

module _ (before : Option Call) (call : Call) (same : side_held before ≡ side_of call) where
  -- the law, after an input that leaves this of the call
  abbrev Law : Option CallItem → CallTaken → Type 0
  Law input taken = OneAck (SendsAck before (kept taken).0 input) taken.1

  -- the dialogs of a call that is kept
  held_after : (after : Call) (name : DialogId)
      → is_some (dialog_at name (side_of after).dialogs) ≡ true
      → is_held_in (kept_call after) name ≡ true
  held_after after name there =
      ap (λ (side : Side). is_some (dialog_at name side.dialogs)) (kept_side after) ∙ there

  response_law : (event : Event) (id : Id) (up : AnUp) (response : Message)
      → up.kind ≡ kind.Response response
      → Law (Some (id, Up up)) (up_taken call event up (kind.Response response))
  response_law event id up response response_is =
      ⊎_elim (λ none. inl none)
      (λ one. let so = one.2 in
      let brought : BringsSuccess before (Some (id, Up up)) = record {
        event = id;
        up = up;
        response = response;
        status = so.status;
        invite = so.invite;
        brings = refl;
        response_is = response_is;
        status_is = sym (same_status response.start) ∙ so.status_is;
        success = so.success;
        held = ap (λ (side : Side). client_at up.id side.clients) same ∙ so.held;
        inviting = sym (same_invite so.invite.kind) ∙ so.inviting;
      } in
      inr (
        one.0,
        one.1,
        ⊎_elim
            (λ first. AtFirst brought first.0
            (held_after (up_taken call event up (kind.Response response)).0
            (reply_name so.invite.kind so.invite response) first.1))
            (λ again. Again brought again) so.acks,
      ))
      (response_gives event up.id up.call_id response (side_of call))

  up_law : (event : Event) (id : Id) (up : AnUp) (k : UpKind) → up.kind ≡ k
      → Law (Some (id, Up up)) (up_taken call event up k)
  up_law event id up (kind.Request request reply_to) is =
      inl (served_none call event up (kind.Request request reply_to))
  up_law event id up (kind.Ack ack) is = inl (served_none call event up (kind.Ack ack))
  up_law event id up (kind.Response response) is = response_law event id up response is
  up_law event id up kind.Timeout is = inl (lost_no_ack up.id true (side_of call))
  up_law event id up kind.Failed is = inl (lost_no_ack up.id false (side_of call))

  first_law : (event : Event) (id : Id) (command : UserCommand)
      → Law (Some (id, User command)) (first_command_taken call event command)
  first_law event id (user.Invite invite) = inl (invite_no_ack event invite (side_of call))
  first_law event id (user.Plain plain) = inl (plain_no_ack event plain (side_of call))
  first_law event id _ = inl refl

  ack_law : (event : Event) (id : Id) (command : DialogBody)
      → Law (Some (id, User (user.Ack command))) (command_taken call event (user.Ack command))
  ack_law event id command =
      let name = name_in command.local_tag command.remote_tag in
      ⊎_elim (λ none. inl none)
      (λ one. inr (
        one.0,
        one.1,
        ByUser id command refl
            (ap (λ (side : Side). is_some (dialog_at name side.dialogs)) same ∙ one.2.0)
            (held_after (command_taken call event (user.Ack command)).0 name one.2.1),
      ))
      (ack_gives event command (side_of call))

  user_law : (event : Event) (id : Id) (command : UserCommand)
      → Law (Some (id, User command)) (command_taken call event command)
  user_law event id (user.Invite invite) = inl refl
  user_law event id (user.Plain plain) = inl refl
  user_law event id (user.Request request) = inl (request_no_ack event request (side_of call))
  user_law event id (user.Respond respond) =
      inl (none_of (command_taken call event (user.Respond respond)).1
      (respond_passes IsNoAck no_ack_served call.served event.id respond event.moment))
  user_law event id (user.Ack ack) = ack_law event id ack
  user_law event id (user.Prack prack) = inl (prack_no_ack event prack (side_of call))
  user_law event id (user.Cancel cancel) = inl (cancel_no_ack event cancel (side_of call))
  user_law event id (user.AbandonRequest abandon) =
      inl (abandons.request_no_ack event abandon (side_of call))
  user_law event id (user.AbandonDialog abandon) =
      inl (abandons.dialog_no_ack event abandon (side_of call))

  tick_law : (now : ℕ) → Law None (ticked call now)
  tick_law now =
      let first = by_server call (tick_taken call.served now) in
      inl (acks_append first.1 (clients_ticked (side_of first.0) now).1
      ∙ (λ i. none_of first.1
      (tick_passes IsNoAck no_ack_served call.served now) i
      ++ tick_no_ack now (side_of first.0) i))

taken_law : (calls : Calls) (call : Option Call) (input : Option CallItem) (now : ℕ)
    → let taken = step_taken calls call input now in OneAck (SendsAck call taken.0 input) taken.1
taken_law calls None None now = inl refl
taken_law calls (Some call) None now = tick_law (Some call) call refl now
taken_law calls None (Some (id, Up up)) now =
    up_law None (new_call calls.local) refl (event_of calls id now) id up up.kind refl
taken_law calls (Some call) (Some (id, Up up)) now =
    up_law (Some call) call refl (event_of calls id now) id up up.kind refl
taken_law calls None (Some (id, User command)) now =
    first_law None (new_call calls.local) refl (event_of calls id now) id command
taken_law calls (Some call) (Some (id, User command)) now =
    user_law (Some call) call refl (event_of calls id now) id command

pub one_ack_an_input : OneAckAnInput
one_ack_an_input calls call input now =
    subst (λ (taken : Taken). OneAck (SendsAck call taken.0 input) taken.1)
    (sym (same_step calls call input now)) (taken_law calls call input now)
