-- The user's commands: the rules say the same as the steps.
use Rattle.std.proofs.Common.{◌≡◌, ℕ, Bool, true, false, ◌&&◌, ◌||◌, List, [], ◌∷◌, ◌++◌, refl, sym, ap, ◌∙◌}
use Rattle.std.specs.Prelude.{Option, None, Some, Err, codes, filter, find, fold, is_some, nat_le, not, if◌then◌else◌}
use Rattle.std.specs.Map.{set_value}
use Rattle.std.specs.Option.{option_map, option_map_or}
use Rattle.std.specs.Str.{bytes_eq}
use Rattle.std.proofs.lemmas.Bool.{false≢true}
use Rattle.std.proofs.lemmas.Map.Steps.{set_value_same}
use Rattle.sip_message.specs.Content.{Content, with_content_of}
use Rattle.sip_message.specs.declared.id.Id.{Id}
use Rattle.sip_message.specs.declared.message.Message.{Message}
use Rattle.sip_dialog.specs.declared.dialog.Dialog.{Dialog}
use Rattle.sip_dialog.specs.declared.dialog.DialogState.{DialogState}
use Rattle.sip_dialog.specs.declared.dialog.DialogState.TheVariants.{Early, Confirmed, Ended}
use Rattle.sip_dialog.specs.declared.dialog.Side.{Side as End}
use Rattle.sip_dialog.specs.declared.dialog.Side.TheVariants.{Caller, Callee}
use Rattle.sip_dialog.specs.declared.fault.DialogFault.{DialogFault}
use Rattle.sip_dialog.specs.declared.fault.DialogFault.TheVariants as fault
use Rattle.sip_dialog.specs.Dialog.{is_early, is_ended}
use Rattle.sip_dialog.specs.Fault.{ack_fault, request_fault}
use Rattle.sip_dialog.specs.Route.{is_strict}
use Rattle.sip_user.specs.declared.command.Cancel.{Cancel}
use Rattle.sip_user.specs.declared.command.DialogBody.{DialogBody}
use Rattle.sip_user.specs.declared.command.DialogRequest.{DialogRequest}
use Rattle.sip_user.specs.declared.command.Invite.{Invite}
use Rattle.sip_user.specs.declared.command.Plain.{Plain as PlainCommand}
use Rattle.sip_user.specs.declared.command.ProvisionalSupport.{ProvisionalSupport}
use Rattle.sip_user.specs.declared.command.ProvisionalSupport.TheVariants as support
use Rattle.sip_held_dialogs.specs.declared.pending_request.PendingRequest.{PendingRequest}
use Rattle.sip_held_dialogs.specs.declared.pending_request.PendingRequest.TheVariants.{Ack, Prack}
use Rattle.sip_held_dialogs.specs.declared.held_dialog.DialogId.{DialogId}
use Rattle.sip_held_dialogs.specs.declared.held_dialog.HeldDialog.{HeldDialog}
use Rattle.sip_user.specs.declared.item.CallOut.{CallOut}
use Rattle.sip_user.specs.declared.refusal.Refusal.{Refusal}
use Rattle.sip_user.specs.declared.refusal.Refusal.TheVariants as refusal
use Rattle.sip_held_dialogs.specs.Dialogs.{dialog_at, is_dialog_id, Dialogs}
use Rattle.sip_held_dialogs.specs.Ids.{is_id}
use Rattle.sip_user.specs.Notices.{refused}
use Rattle.sip_user.specs.Refusal.{first_refusal}
use Rattle.sip_clients.specs.declared.answers.SentAck.{SentAck}
use Rattle.sip_clients.specs.declared.client.Cancelling.{Cancelling}
use Rattle.sip_clients.specs.declared.client.Cancelling.TheVariants.{NotAsked, Sent, Waits}
use Rattle.sip_clients.specs.declared.client.Client.{Client}
use Rattle.sip_clients.specs.declared.pending.PendingKind.TheVariants as kind
use Rattle.sip_clients.specs.declared.event.Event.{Event}
use Rattle.sip_clients.specs.declared.outputs.ClientChange.{ClientChange}
use Rattle.sip_clients.specs.declared.outputs.ClientChange.TheVariants as change
use Rattle.sip_clients.specs.declared.send_outcome.SendOutcome.{SendOutcome}
use Rattle.sip_clients.specs.declared.send_outcome.SendOutcome.TheVariants as outcome
use Rattle.sip_clients.specs.declared.cancel_command.CancelCase.TheVariants as case
use Rattle.sip_clients.specs.declared.client.RequestKind.{RequestKind}
use Rattle.sip_clients.specs.declared.client.RequestKind.TheVariants.{InitialInvite, ReInvite, InDialog, OutOfDialog}
use Rattle.sip_clients.specs.Cancel.{asked, asking_case, cancel_by_user, cancelled_as, cancelled_of}
use Rattle.sip_clients.specs.Client.{Clients, ClientTaken, Side, client_at, client_changed, client_for}
use Rattle.sip_clients.specs.Clients.{ack_by_user, ack_kept, ack_paid, invite_taken, paid_or_refused, plain_taken, prack_by_user, prack_paid, request_by_user, request_settled, settled}
use Rattle.sip_clients.specs.Commands.{bye_ended, debt_or_refusal, is_callee, name_in, oldest_pending, request_in_held, request_refusals, requested_at, sent_unless}
use Rattle.sip_clients.specs.Pending.{dropped_if_sent, is_same_pending, is_of, sent_pending}
use Rattle.sip_clients.specs.Outputs.{ack_said, request_said, start_command}
use Rattle.sip_clients.specs.Outside.{bare_request, supporting, through, with_contact}
use Rattle.sip_clients.specs.SendOutcome.{Outcome, discharged, refusal_for_fault, sending_in}
use Rattle.sip_clients.specs.ReceivedResponse.{is_invite_kind}
use Rattle.sip_clients.specs.Rules.Requests as rule
use Rattle.sip_clients.specs.Rules.Requests.{ack_command, cancel_command, invite_command, plain_command, prack_command, request_command}
use Rattle.sip_clients.proofs.Served.{found_passes}

-- ---- outside of dialogs

abbrev bare_invite : Event → Invite → Message
bare_invite event invite =
    bare_request event invite.call_id (codes "INVITE") invite.request_uri invite.from invite.to

supported_so : (event : Event) (invite : Invite) (asked : ProvisionalSupport)
    → rule.with_100rel asked (with_contact event.local
    (through invite.routes (bare_invite event invite)))
    ≡ through invite.routes (supporting asked (with_contact event.local
    (bare_invite event invite)))
supported_so event invite support.None = refl
supported_so event invite support.Supported = refl
supported_so event invite support.Required = refl

pub invite_same : (event : Event) (invite : Invite) (clients : Clients)
    → rule.invite_command event invite clients ≡ invite_taken event invite clients
unfolding invite_command start_command bare_request
invite_same event invite clients =
    ap (λ (request : Message). rule.start (clients, []) (client_for event.id InitialInvite
    (with_content_of request invite.content) invite.address))
    (supported_so event invite invite.support)

pub plain_same : (event : Event) (plain : PlainCommand) (clients : Clients)
    → rule.plain_command event plain clients ≡ plain_taken event plain clients
unfolding plain_command start_command bare_request
plain_same event plain clients = refl

-- ---- why a request isn't sent in a dialog

request_by : (ack cancel prack early invite bye ended strict last : Bool)
    → first_refusal ((ack || cancel || prack, refusal.BadMethod)
    ∷ (early && (ack || invite || bye), refusal.BadMethod) ∷ (ended, refusal.DialogEnded)
    ∷ (strict, refusal.StrictRoute) ∷ (not ack && last, refusal.SequenceUsedUp) ∷ []) None
    ≡ first_refusal ((ack || cancel || prack, refusal.BadMethod)
    ∷ (early && (invite || bye), refusal.BadMethod) ∷ (ended, refusal.DialogEnded)
    ∷ (strict, refusal.StrictRoute) ∷ (last, refusal.SequenceUsedUp) ∷ []) None
request_by true cancel prack early invite bye ended strict last = refl
request_by false cancel prack early invite bye ended strict last = refl

request_refusal : (dialog : Dialog) (method : List ℕ)
    → first_refusal ((rule.has_command method, refusal.BadMethod)
    ∷ rule.refusals_in dialog method) None
    ≡ first_refusal (request_refusals dialog method) None
request_refusal dialog method =
    request_by (bytes_eq method (codes "ACK")) (bytes_eq method (codes "CANCEL"))
    (bytes_eq method (codes "PRACK")) (is_early dialog.state) (bytes_eq method (codes "INVITE"))
    (is_callee dialog.side && bytes_eq method (codes "BYE")) (is_ended dialog.state)
    (is_strict dialog.route_set) (nat_le 2147483647 dialog.local_cseq)

ack_by : (state : DialogState) (strict last : Bool)
    → first_refusal ((is_early state && true, refusal.BadMethod)
    ∷ (is_ended state, refusal.DialogEnded) ∷ (strict, refusal.StrictRoute)
    ∷ (false && last, refusal.SequenceUsedUp) ∷ []) None
    ≡ option_map refusal_for_fault (if is_ended state then Some fault.Ended
    else (if is_early state then Some fault.NotConfirmed
    else (if strict then Some fault.StrictRoute
    else None)))
ack_by Early strict last = refl
ack_by Confirmed true last = refl
ack_by Confirmed false last = refl
ack_by Ended strict last = refl

prack_by : (state : DialogState) (side : End) (strict last : Bool)
    → first_refusal ((is_early state && (is_callee side && false), refusal.BadMethod)
    ∷ (is_ended state, refusal.DialogEnded) ∷ (strict, refusal.StrictRoute)
    ∷ (last, refusal.SequenceUsedUp) ∷ []) None
    ≡ option_map refusal_for_fault (if is_ended state then Some fault.Ended
    else (if is_early state && false then Some fault.NotConfirmed
    else (if strict then Some fault.StrictRoute
    else (if last then Some fault.SequenceUsedUp
    else None))))
prack_by Early Caller true last = refl
prack_by Early Caller false true = refl
prack_by Early Caller false false = refl
prack_by Early Callee true last = refl
prack_by Early Callee false true = refl
prack_by Early Callee false false = refl
prack_by Confirmed side true last = refl
prack_by Confirmed side false true = refl
prack_by Confirmed side false false = refl
prack_by Ended side strict last = refl

-- why what is owed isn't sent
abbrev fault_of : PendingRequest → Dialog → Option DialogFault
fault_of (Ack invite number) dialog = ack_fault dialog
fault_of (Prack rseq number) dialog = request_fault dialog (codes "PRACK")

debt_refusal : (pending : PendingRequest) (dialog : Dialog)
    → first_refusal (rule.refusals_in dialog (rule.method_of pending)) None
    ≡ option_map refusal_for_fault (fault_of pending dialog)
debt_refusal (Ack invite number) dialog =
    ack_by dialog.state (is_strict dialog.route_set) (nat_le 2147483647 dialog.local_cseq)
debt_refusal (Prack rseq number) dialog =
    prack_by dialog.state dialog.side (is_strict dialog.route_set)
    (nat_le 2147483647 dialog.local_cseq)

-- ---- a request in a dialog

module _ (event : Event) (command : DialogRequest) (side : Side) where
  abbrev own_name : DialogId
  own_name = name_in command.local_tag command.remote_tag

  abbrev request_done : Dialogs × SendOutcome → ClientTaken
  request_done done =
      let bye = bye_ended own_name command.method done.1 done.0 in
      let said = request_said event command.call_id own_name done.1 in
      let after = request_settled event said.0 said.1 bye.1 side.clients in
      (record { dialogs = bye.0; clients = after.0 }, after.1)

  abbrev serve : HeldDialog → Outcome
  serve held = request_in_held event command.method command.content held

  abbrev request_step : Option HeldDialog → ClientTaken
  request_step found = request_done (option_map_or
      (λ held. (set_value (is_dialog_id own_name) side.dialogs (serve held).0, (serve held).1))
      found
      (side.dialogs, outcome.Refused refusal.NoSuchDialog))

  abbrev refuse : Refusal → ClientTaken
  refuse why = (side, refused event.id command.call_id why)

  abbrev sent_in : HeldDialog → ClientTaken
  sent_in held =
      let sent = rule.start (side.clients, [])
      (rule.request_with_next_number event own_name command.method None command.content held) in
      let dialogs = set_value (is_dialog_id own_name) side.dialogs (rule.with_number held) in
      let ended = bye_ended own_name command.method (outcome.Sent
      (sending_in event command.method None
      command.content held)) dialogs in
      (record { dialogs = ended.0; clients = sent.0 }, sent.1 ++ ended.1)

  by_refusal : (held : HeldDialog) (why : Option Refusal)
      → set_value (is_dialog_id own_name) side.dialogs held ≡ side.dialogs
      → option_map_or refuse why (sent_in held) ≡ request_done
      (let done = sent_unless why (sending_in event command.method None command.content held) held
      in (set_value (is_dialog_id own_name) side.dialogs done.0, done.1))
  unfolding start_command with_content_of
  by_refusal held None same = refl
  by_refusal held (Some why) same =
      ap (λ (dialogs : Dialogs). (
        record { dialogs = dialogs; clients = side.clients },
        refused event.id command.call_id why,
      )) (sym same)

  by_found : (found : Option HeldDialog) → dialog_at own_name side.dialogs ≡ found
      → option_map_or (λ (held : HeldDialog). option_map_or refuse
      (first_refusal ((rule.has_command command.method, refusal.BadMethod)
      ∷ rule.refusals_in held.dialog command.method) None) (sent_in held)) found
      (refuse refusal.NoSuchDialog)
      ≡ request_step found
  unfolding request_in_held
  by_found None at = refl
  by_found (Some held) at =
      ap (λ why. option_map_or refuse why (sent_in held))
      (request_refusal held.dialog command.method)
      ∙ by_refusal held (first_refusal (request_refusals held.dialog command.method) None)
      (set_value_same (is_dialog_id own_name) side.dialogs held at)

pub request_same : (event : Event) (command : DialogRequest) (side : Side)
    → rule.request_command event command side ≡ request_by_user event command side
unfolding request_command requested_at
request_same event command side =
    by_found event command side
    (dialog_at (name_in command.local_tag command.remote_tag) side.dialogs) refl

-- ---- an ACK or a PRACK

-- which dialog is held after it
abbrev pub dialog_by : SendOutcome → List PendingRequest → List PendingRequest → HeldDialog
    → HeldDialog
dialog_by (outcome.Sent sending) sent_pending owing after = record after { pending_requests = sent_pending }
dialog_by outcome.Waits sent_pending owing after = record after { pending_requests = owing }
dialog_by (outcome.Refused why) sent_pending owing after = record after { pending_requests = owing }

abbrev pub started_by : ClientChange → List Client
started_by change.Stays = []
started_by change.Over = []
started_by (change.Starts client) = client ∷ []

-- the same for the step
abbrev pub served_by : Event → List ℕ → DialogId → PendingRequest → List PendingRequest
    → List PendingRequest → Outcome
    → rule.PendingOutcome
served_by event call_id name (Ack invite number) sent_pending owing done = record {
  dialog = dialog_by done.1 sent_pending owing done.0;
  ack = (ack_said event call_id done.1).1;
  prack = [];
  outs = (ack_said event call_id done.1).0;
}
served_by event call_id name (Prack rseq number) sent_pending owing done = record {
  dialog = dialog_by done.1 sent_pending owing done.0;
  ack = None;
  prack = started_by (request_said event call_id name done.1).1;
  outs = (request_said event call_id name done.1).0;
}

module _ (event : Event) (call_id : List ℕ) (name : DialogId) (held : HeldDialog)
    (sent_pending owing : List PendingRequest) where
  abbrev with_owed : List PendingRequest → HeldDialog
  with_owed pending_requests = record held { pending_requests = pending_requests }

  abbrev unsent : List CallOut → rule.PendingOutcome
  unsent outs = record { dialog = with_owed owing; ack = None; prack = []; outs = outs }

  abbrev sent_or : PendingRequest → Content → Option Refusal → rule.PendingOutcome
  sent_or pending content why =
      option_map_or (λ why. unsent (refused event.id call_id why)) why
      (rule.pending_sent event name pending content (with_owed sent_pending))

  ack_by_fault : (invite : Id) (number : ℕ) (content : Content) (why : Option DialogFault)
      → ack_fault held.dialog ≡ why
      → sent_or (Ack invite number) content (option_map refusal_for_fault why)
      ≡ served_by event call_id name (Ack invite number) sent_pending owing
      (discharged event (Ack invite number) (Some content) held)
  unfolding discharged
  ack_by_fault invite number content None is = rw is refl
  ack_by_fault invite number content (Some why) is = rw is refl

  prack_by_fault : (rseq number : ℕ) (content : Content) (why : Option DialogFault)
      → request_fault held.dialog (codes "PRACK") ≡ why
      → sent_or (Prack rseq number) content (option_map refusal_for_fault why)
      ≡ served_by event call_id name (Prack rseq number) sent_pending owing
      (discharged event (Prack rseq number) (Some content) held)
  unfolding discharged with_content_of
  prack_by_fault rseq number content None is = rw is refl
  prack_by_fault rseq number content (Some why) is = rw is refl

  by_debt : (pending : PendingRequest) (content : Content)
      → sent_or pending content (option_map refusal_for_fault (fault_of pending held.dialog))
      ≡ served_by event call_id name pending sent_pending owing
      (discharged event pending (Some content) held)
  by_debt (Ack invite number) content =
      ack_by_fault invite number content (ack_fault held.dialog) refl
  by_debt (Prack rseq number) content =
      prack_by_fault rseq number content (request_fault held.dialog (codes "PRACK")) refl

  waits : (pending : PendingRequest) → unsent [] ≡ served_by event call_id name pending sent_pending owing
      (discharged event pending None held)
  unfolding discharged
  waits (Ack invite number) = refl
  waits (Prack rseq number) = refl

  pub served_same : (pending : PendingRequest) (content : Option Content)
      → rule.pending_outcome event call_id name pending content (with_owed sent_pending) (with_owed owing)
      ≡ served_by event call_id name pending sent_pending owing (discharged event pending content held)
  served_same pending None = waits pending
  served_same pending (Some content) =
      ap (sent_or pending content) (debt_refusal pending held.dialog) ∙ by_debt pending content

-- ---- the user's ACK or PRACK

same_debt : (pending other : PendingRequest) → rule.is_same_pending pending other
    ≡ is_same_pending pending other
same_debt (Ack invite number) (Ack other_invite other_number) = refl
same_debt (Ack invite number) (Prack other_rseq other_number) = refl
same_debt (Prack rseq number) (Ack other_invite other_number) = refl
same_debt (Prack rseq number) (Prack other_rseq other_number) = refl

abbrev is_for : List ℕ → PendingRequest → Bool
is_for method pending = bytes_eq (rule.method_of pending) method

is_an_ack : (pending : PendingRequest) → is_for (codes "ACK") pending ≡ is_of kind.Ack pending
is_an_ack (Ack invite number) = refl
is_an_ack (Prack rseq number) = refl

is_a_prack : (pending : PendingRequest) → is_for (codes "PRACK") pending ≡ is_of kind.Prack pending
is_a_prack (Ack invite number) = refl
is_a_prack (Prack rseq number) = refl

pub owed_kept : (event : Event) (pending : PendingRequest) (content : Option Content)
    (held : HeldDialog)
    → (discharged event pending content held).0.pending_requests ≡ held.pending_requests
unfolding discharged
owed_kept event (Ack invite number) None held = refl
owed_kept event (Prack rseq number) None held = refl
owed_kept event (Ack invite number) (Some content) held = refl
owed_kept event (Prack rseq number) (Some content) held = refl

-- if nothing is sent, the dialog doesn't change but for what is owed
dropped : (pending : PendingRequest) (held after : HeldDialog) (o : SendOutcome)
    → after.pending_requests ≡ held.pending_requests
    → dialog_by o (filter (λ other. not (is_same_pending pending other)) held.pending_requests)
    held.pending_requests after
    ≡ dropped_if_sent pending o after
dropped pending held after (outcome.Sent sending) same =
    ap (λ (pending_requests : List PendingRequest).
    record after {
      pending_requests = filter (λ other. not (is_same_pending pending other))
          pending_requests;
    }) (sym same)
dropped pending held after outcome.Waits same =
    ap (λ (pending_requests : List PendingRequest). record after
    { pending_requests = pending_requests }) (sym same)
dropped pending held after (outcome.Refused why) same =
    ap (λ (pending_requests : List PendingRequest). record after
    { pending_requests = pending_requests }) (sym same)

kept_same : (pending : PendingRequest) (name : DialogId) (ack : Option SentAck) (clients : Clients)
    → rule.ack_kept pending name ack clients ≡ ack_kept pending name ack clients
kept_same (Ack invite number) name None clients = refl
kept_same (Ack invite number) name (Some ack) clients = refl
kept_same (Prack rseq number) name ack clients = refl

module _ (event : Event) (command : DialogBody) (side : Side) where
  abbrev asked_name : DialogId
  asked_name = name_in command.local_tag command.remote_tag

  abbrev refuse_body : Refusal → ClientTaken
  refuse_body why = (side, refused event.id command.call_id why)

  -- ---- as the rule says

  abbrev rule_served : HeldDialog → PendingRequest → List PendingRequest → rule.PendingOutcome
  rule_served held pending left =
      rule.pending_outcome event command.call_id asked_name pending (Some command.content)
      (record held { pending_requests = left }) held

  abbrev rule_after : PendingRequest → rule.PendingOutcome → ClientTaken
  rule_after pending done =
      let sent = fold rule.start (rule.ack_kept pending asked_name done.ack side.clients, done.outs)
      done.prack in (
        record {
          dialogs = set_value (is_dialog_id asked_name) side.dialogs done.dialog;
          clients = sent.0;
        },
        sent.1,
      )

  abbrev rule_paid : HeldDialog → PendingRequest → ClientTaken
  rule_paid held pending =
      rule_after pending
      (rule_served held pending (filter (λ other. not (rule.is_same_pending pending other))
      held.pending_requests))

  abbrev rule_found : List ℕ → Refusal → HeldDialog → ClientTaken
  rule_found method nothing held =
      option_map_or (rule_paid held) (find (is_for method) held.pending_requests)
      (refuse_body nothing)

  -- ---- the step

  abbrev left : PendingRequest → HeldDialog → List PendingRequest
  left pending held = filter (λ other. not (is_same_pending pending other)) held.pending_requests

  abbrev step_served : HeldDialog → PendingRequest → Outcome
  step_served held pending = discharged event pending (Some command.content) held

  served_as : (held : HeldDialog) (pending : PendingRequest) → rule_paid held pending
      ≡ rule_after pending (served_by event command.call_id asked_name pending (left pending held)
      held.pending_requests
      (step_served held pending))
  served_as held pending =
      ap (rule_after pending) (ap (rule_served held pending)
      (λ i. filter (λ other. not (same_debt pending other i)) held.pending_requests)
      ∙ served_same event command.call_id asked_name held (left pending held) held.pending_requests
      pending
      (Some command.content))

  dropped_in : (held : HeldDialog) (pending : PendingRequest)
      → dialog_by (step_served held pending).1 (left pending held) held.pending_requests
      (step_served held pending).0
      ≡ dropped_if_sent pending (step_served held pending).1 (step_served held pending).0
  dropped_in held pending =
      dropped pending held (step_served held pending).0 (step_served held pending).1
      (owed_kept event pending (Some command.content) held)

  abbrev at_name : (HeldDialog → Outcome) → Option HeldDialog → Dialogs × SendOutcome
  at_name serve found = option_map_or
      (λ held. (set_value (is_dialog_id asked_name) side.dialogs (serve held).0, (serve held).1))
      found
      (side.dialogs, outcome.Waits)

  -- ---- the command Ack

  abbrev ack_after : PendingRequest → Dialogs × SendOutcome → ClientTaken
  ack_after pending done =
      let said = ack_said event command.call_id done.1 in (
        record { dialogs = done.0; clients = ack_kept pending asked_name said.1 side.clients },
        said.0,
      )

  ack_paid_same : (held : HeldDialog) (invite : Id) (number : ℕ)
      → dialog_at asked_name side.dialogs ≡ Some held
      → rule_paid held (Ack invite number)
      ≡ ack_paid event command asked_name (Ack invite number) side
  unfolding sent_pending
  ack_paid_same held invite number at =
      let pending = Ack invite number in
      let said = ack_said event command.call_id (step_served held pending).1 in
      let after : rule_paid held pending ≡ ack_after pending
      (at_name (sent_pending event pending command.content)
      (Some held)) = served_as held pending ∙ (λ i. (
        record {
          dialogs = set_value (is_dialog_id asked_name) side.dialogs (dropped_in held pending i);
          clients = kept_same pending asked_name said.1 side.clients i;
        },
        said.0,
      )) in
      after ∙ ap (λ found. ack_after pending (at_name (sent_pending event pending command.content) found))
      (sym at)

  ack_owed : (held : HeldDialog) (found : Option PendingRequest)
      → dialog_at asked_name side.dialogs ≡ Some held → find (is_of kind.Ack) held.pending_requests
      ≡ found
      → option_map_or (rule_paid held) found (refuse_body refusal.NothingToAck)
      ≡ paid_or_refused event command (ack_paid event command asked_name)
      (debt_or_refusal kind.Ack found) side
  ack_owed held None at is = refl
  ack_owed held (Some (Ack invite number)) at is = ack_paid_same held invite number at
  ack_owed held (Some (Prack rseq number)) at is =
      absurd (false≢true (found_passes (is_of kind.Ack) held.pending_requests (Prack rseq number)
      is))

  ack_in : (found : Option HeldDialog) → dialog_at asked_name side.dialogs ≡ found
      → option_map_or (rule_found (codes "ACK") refusal.NothingToAck) found
      (refuse_body refusal.NoSuchDialog)
      ≡ paid_or_refused event command (ack_paid event command asked_name)
      (option_map_or (oldest_pending kind.Ack) found (Err refusal.NoSuchDialog)) side
  ack_in None at = refl
  ack_in (Some held) at =
      ap (λ found. option_map_or (rule_paid held) found (refuse_body refusal.NothingToAck))
      (λ i. find (λ pending. is_an_ack pending i) held.pending_requests)
      ∙ ack_owed held (find (is_of kind.Ack) held.pending_requests) at refl

  -- ---- the command Prack

  prack_by_service : (pending : PendingRequest) (dialogs : Dialogs) (o : SendOutcome)
      → is_of kind.Prack pending ≡ true
      → (let said = request_said event command.call_id asked_name o in
      let sent = fold rule.start (rule.ack_kept pending asked_name None side.clients, said.0)
      (started_by said.1) in
      let after : ClientTaken = (record { dialogs = dialogs; clients = sent.0 }, sent.1) in after)
      ≡ (let said = request_said event command.call_id asked_name o in
      let kept = settled event event.id said.1 side.clients in
      let after : ClientTaken =
      (record { dialogs = dialogs; clients = kept.0 }, said.0 ++ kept.1) in after)
  unfolding start_command
  prack_by_service (Ack invite number) dialogs o is = absurd (false≢true is)
  prack_by_service (Prack rseq number) dialogs (outcome.Sent sending) is = refl
  prack_by_service (Prack rseq number) dialogs outcome.Waits is = refl
  prack_by_service (Prack rseq number) dialogs (outcome.Refused why) is = refl

  abbrev prack_after : Dialogs × SendOutcome → ClientTaken
  prack_after done =
      let said = request_said event command.call_id asked_name done.1 in
      let kept = settled event event.id said.1 side.clients in
      (record { dialogs = done.0; clients = kept.0 }, said.0 ++ kept.1)

  prack_paid_same : (held : HeldDialog) (rseq number : ℕ)
      → dialog_at asked_name side.dialogs ≡ Some held
      → rule_paid held (Prack rseq number)
      ≡ prack_paid event command asked_name (Prack rseq number) side
  unfolding sent_pending
  prack_paid_same held rseq number at =
      let pending = Prack rseq number in
      let done = step_served held pending in
      served_as held pending
      ∙ ap (λ (after : HeldDialog). rule_after pending (record {
        dialog = after;
        ack = None;
        prack = started_by (request_said event command.call_id asked_name done.1).1;
        outs = (request_said event command.call_id asked_name done.1).0;
      })) (dropped_in held pending)
      ∙ prack_by_service pending (set_value (is_dialog_id asked_name) side.dialogs
      (dropped_if_sent pending done.1 done.0)) done.1 refl
      ∙ ap (λ found. prack_after (at_name (sent_pending event pending command.content) found)) (sym at)

  prack_owed : (held : HeldDialog) (found : Option PendingRequest)
      → dialog_at asked_name side.dialogs ≡ Some held
      → find (is_of kind.Prack) held.pending_requests ≡ found
      → option_map_or (rule_paid held) found (refuse_body refusal.NothingToPrack)
      ≡ paid_or_refused event command (prack_paid event command asked_name)
      (debt_or_refusal kind.Prack found) side
  prack_owed held None at is = refl
  prack_owed held (Some (Prack rseq number)) at is = prack_paid_same held rseq number at
  prack_owed held (Some (Ack invite number)) at is =
      absurd (false≢true (found_passes (is_of kind.Prack) held.pending_requests (Ack invite number)
      is))

  prack_in : (found : Option HeldDialog) → dialog_at asked_name side.dialogs ≡ found
      → option_map_or (rule_found (codes "PRACK") refusal.NothingToPrack) found
      (refuse_body refusal.NoSuchDialog)
      ≡ paid_or_refused event command (prack_paid event command asked_name)
      (option_map_or (oldest_pending kind.Prack) found (Err refusal.NoSuchDialog)) side
  prack_in None at = refl
  prack_in (Some held) at =
      ap (λ found. option_map_or (rule_paid held) found (refuse_body refusal.NothingToPrack))
      (λ i. find (λ pending. is_a_prack pending i) held.pending_requests)
      ∙ prack_owed held (find (is_of kind.Prack) held.pending_requests) at refl

pub ack_same : (event : Event) (command : DialogBody) (side : Side)
    → rule.ack_command event command side ≡ ack_by_user event command side
unfolding ack_command
ack_same event command side =
    ack_in event command side
    (dialog_at (name_in command.local_tag command.remote_tag) side.dialogs) refl

pub prack_same : (event : Event) (command : DialogBody) (side : Side)
    → rule.prack_command event command side ≡ prack_by_user event command side
unfolding prack_command
prack_same event command side =
    prack_in event command side
    (dialog_at (name_in command.local_tag command.remote_tag) side.dialogs) refl

-- ---- CANCEL

module _ (event : Event) (command : Cancel) (side : Side) where
  abbrev refuse_cancel : Refusal → ClientTaken
  refuse_cancel why = (side, refused event.id command.call_id why)

  abbrev with_clients : Clients × List CallOut → ClientTaken
  with_clients after = (record side { clients = after.0 }, after.1)

  abbrev asked_so : Client → Cancelling → Clients
  asked_so invite cancel =
      set_value (is_id command.id) side.clients (record invite { cancel = cancel })

  abbrev cancel_asked : Client → Bool → ClientTaken
  cancel_asked invite provisional =
      with_clients (if provisional
      then rule.start (asked_so invite Sent, []) (rule.cancel_request event.id invite)
      else (asked_so invite (Waits event.id), []))

  changed_so : (invite : Client) (cancel : Cancelling) → client_at command.id side.clients
      ≡ Some invite
      → asked_so invite cancel ≡ client_changed command.id (asked cancel) side.clients
  changed_so invite cancel at =
      ap (λ found. option_map_or (λ (client : Client). asked_so client cancel) found side.clients)
      (sym at)

  cancel_by : (invite : Client) (inviting final provisional : Bool) (cancel : Cancelling)
      → client_at command.id side.clients ≡ Some invite
      → (if not inviting then refuse_cancel refusal.NoSuchRequest
      else (if final then refuse_cancel refusal.AlreadyFinal
      else (if rule.is_asked cancel then (side, [])
      else cancel_asked invite provisional)))
      ≡ with_clients (cancelled_as (if not inviting then case.Refused refusal.NoSuchRequest
      else (if final then case.Refused refusal.AlreadyFinal
      else asking_case provisional cancel)) event command invite side.clients)
  unfolding start_command
  cancel_by invite false final provisional cancel at = refl
  cancel_by invite true true provisional cancel at = refl
  cancel_by invite true false true NotAsked at =
      ap (λ (clients : Clients). with_clients
      (rule.start (clients, []) (rule.cancel_request event.id invite)))
      (changed_so invite Sent at)
  cancel_by invite true false false NotAsked at =
      ap (λ (clients : Clients). with_clients (clients, []))
      (changed_so invite (Waits event.id) at)
  cancel_by invite true false provisional (Waits id) at = refl
  cancel_by invite true false provisional Sent at = refl

  inviting_same : (kind : RequestKind) → rule.is_invite_kind kind ≡ is_invite_kind kind
  inviting_same InitialInvite = refl
  inviting_same (ReInvite life) = refl
  inviting_same (InDialog life) = refl
  inviting_same OutOfDialog = refl

  cancel_in : (found : Option Client) → client_at command.id side.clients ≡ found
      → option_map_or (λ (invite : Client).
      if not (rule.is_invite_kind invite.kind) then refuse_cancel refusal.NoSuchRequest
      else (if is_some invite.removal then refuse_cancel refusal.AlreadyFinal
      else (if rule.is_asked invite.cancel then (side, [])
      else cancel_asked invite invite.provisional))) found (refuse_cancel refusal.NoSuchRequest)
      ≡ with_clients (cancelled_of found event command side.clients)
  cancel_in None at = refl
  cancel_in (Some invite) at =
      cancel_by invite (rule.is_invite_kind invite.kind) (is_some invite.removal) invite.provisional
      invite.cancel at
      ∙ ap (λ inviting. with_clients (cancelled_as
      (if not inviting then case.Refused refusal.NoSuchRequest
      else (if is_some invite.removal then case.Refused refusal.AlreadyFinal
      else asking_case invite.provisional invite.cancel)) event command invite side.clients))
      (inviting_same invite.kind)

pub cancel_same : (event : Event) (command : Cancel) (side : Side)
    → rule.cancel_command event command side ≡ cancel_by_user event command side
unfolding cancel_command
cancel_same event command side =
    cancel_in event command side (client_at command.id side.clients) refl
