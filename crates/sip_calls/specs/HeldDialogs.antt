-- Which dialogs are held, for all inputs of a call: each from the input that opens it to the one
-- that ends it. The user is told of each end once (RFC 3261, sections 12.1, 12.3 and 15.1).
use Rattle.std.specs.Prelude.{◌≡◌, ℕ, ◌+◌, ◌≤◌, Bool, true, false, not, ◌&&◌, ◌||◌, ◌==◌, List, [], ◌∷◌, Option, None, Some, codes, cond, count_by, filter_map, is_some}
use Rattle.std.specs.List.{list_any}
use Rattle.std.specs.Option.{option_map_or}
use Rattle.std.specs.Str.{bytes_eq}
use Rattle.keyed_machine.specs.Machine.{Timed}
use Rattle.sip_message.specs.declared.id.Id.{Id}
use Rattle.sip_message.specs.declared.key.Key.{Key}
use Rattle.sip_message.specs.declared.message.Message.{Message}
use Rattle.sip_transactions.specs.declared.output.UpKind.{UpKind}
use Rattle.sip_transactions.specs.declared.output.UpKind.TheVariants as kind
use Rattle.sip_user.specs.declared.command.UserCommand.{UserCommand}
use Rattle.sip_user.specs.declared.command.UserCommand.TheVariants.{AbandonDialog, AbandonRequest, Request, Respond}
use Rattle.sip_held_dialogs.specs.declared.held_dialog.DialogId.{DialogId}
use Rattle.sip_held_dialogs.specs.declared.held_dialog.HeldDialog.{HeldDialog}
use Rattle.sip_user.specs.declared.item.CallOut.{CallOut}
use Rattle.sip_user.specs.declared.item.CallOut.TheVariants.{Notice}
use Rattle.sip_user.specs.declared.item.Item.{Item}
use Rattle.sip_user.specs.declared.item.Item.TheVariants.{Up, User}
use Rattle.sip_user.specs.declared.notice.Notice.TheVariants.{Ended}
use Rattle.sip_held_dialogs.specs.Dialogs.{dialog_at, is_early_of, is_dialog_id}
use Rattle.sip_held_dialogs.specs.Ids.{is_id}
use Rattle.sip_held_dialogs.specs.Requests.{is_final, has_to_tag, dialog_id_of_tags}
use Rattle.sip_held_dialogs.specs.Sent.{cseqs_in}
use Rattle.sip_served.specs.Endings.{ended_by_answer, ended_by_request, opened_by_answer}
use Rattle.sip_clients.specs.declared.client.Client.{Client}
use Rattle.sip_clients.specs.declared.client.RequestKind.{RequestKind}
use Rattle.sip_clients.specs.declared.client.RequestKind.TheVariants.{InitialInvite, ReInvite, InDialog, OutOfDialog}
use Rattle.sip_clients.specs.Client.{Clients, client_at}
use Rattle.sip_clients.specs.Clients.{reply_name, status_of}
use Rattle.sip_clients.specs.Commands.{name_in}
use Rattle.sip_clients.specs.Happenings.{is_first_success}
use Rattle.sip_clients.specs.Replied.{ends_dialog}
use Rattle.sip_clients.specs.ReceivedResponse.{is_last}
use Rattle.sip_clients.specs.Tick.{ends_early_at}
use Rattle.sip_calls.specs.declared.call.Call.{Call}
use Rattle.sip_calls.specs.declared.calls.Calls.{Calls}
use Rattle.sip_calls.specs.Call.{CallItem, call_step}
use Rattle.sip_calls.specs.Histories.{call_from}
use Rattle.sip_calls.specs.Provisionals.{side_held}

-- ---- what opens a dialog at the client side

-- an INVITE outside of dialogs may open some
abbrev pub opens_dialogs : RequestKind → Bool
opens_dialogs InitialInvite = true
opens_dialogs (ReInvite life) = false
opens_dialogs (InDialog life) = false
opens_dialogs OutOfDialog = false

-- a response of 101 to 199 with a To tag (RFC 3261, section 12.1)
abbrev pub is_early_response : ℕ → Message → Bool
is_early_response status response =
    not (is_final status) && (not (status == 100) && has_to_tag response)

-- each such response to that INVITE, and the first 2xx, opens the dialog of its tags (RFC 3261,
-- sections 12.1.2 and 13.2.2.4)
abbrev pub opened_by_reply : ℕ → Client → Message → DialogId → Bool
opened_by_reply status client response name =
    let own = reply_name client.kind client response in
    opens_dialogs client.kind && is_dialog_id own name
    && (is_first_success status client own || is_early_response status response)

-- the same for the response to the request of this id
abbrev pub opened_by_response : Id → Message → Clients → DialogId → Bool
opened_by_response id response clients name =
    option_map_or (λ client. option_map_or
    (λ status. opened_by_reply status client response name) (status_of response.start) false)
    (client_at id clients) false

-- ---- what ends a dialog at the client side

-- the dialog that a request was sent in, and no later one of the name
abbrev pub was_sent_in : RequestKind → DialogId → HeldDialog → Bool
was_sent_in InitialInvite name held = false
was_sent_in (ReInvite life) name held =
    is_dialog_id life.name name && is_id held.created_by life.created_by
was_sent_in (InDialog life) name held =
    is_dialog_id life.name name && is_id held.created_by life.created_by
was_sent_in OutOfDialog name held = false

-- When a request is over, the early dialogs that it made end. If the peer no longer has the dialog
-- that it was sent in, so does that one (RFC 3261, sections 12.2.1.2 and 12.3).
abbrev pub ends_with : Client → Bool → DialogId → HeldDialog → Bool
ends_with client gone name held =
    is_early_of client.id held || (gone && was_sent_in client.kind name held)

-- a request is over after its final response, other than a 2xx to an INVITE; a 481 or 408 says that
-- the peer no longer has the dialog
abbrev pub ended_by_reply : ℕ → Client → DialogId → HeldDialog → Bool
ended_by_reply status client name held =
    is_last client.kind status && ends_with client (ends_dialog status) name held

-- the same for the response to the request of this id
abbrev pub ended_by_response : Id → Message → Clients → DialogId → HeldDialog → Bool
ended_by_response id response clients name held =
    option_map_or (λ client. option_map_or
    (λ status. ended_by_reply status client name held) (status_of response.start) false)
    (client_at id clients) false

-- the same if the request of this id is lost; a timeout counts as a 408 (RFC 3261, section 8.1.3.1)
abbrev pub ended_by_loss : Id → Bool → Clients → DialogId → HeldDialog → Bool
ended_by_loss id timed_out clients name held =
    option_map_or (λ client. ends_with client timed_out name held) (client_at id clients) false

-- a BYE goes out in the dialog of the name
abbrev pub gives_bye : DialogId → List CallOut → Bool
gives_bye name outs = list_any (λ cseq. bytes_eq cseq.method (codes "BYE")) (cseqs_in name outs)

-- ---- one input

-- a response that comes up may open a dialog
abbrev pub opened_by_kind : Call → Id → UpKind → DialogId → Bool
opened_by_kind call id (kind.Response response) name =
    opened_by_response id response call.clients name
opened_by_kind call id _ name = false

-- an answer of the user may open a dialog
abbrev pub opened_by_command : Call → UserCommand → List CallOut → DialogId → Bool
opened_by_command call (Respond respond) outs name =
    opened_by_answer call.served respond outs name
opened_by_command call _ outs name = false

abbrev pub opened_by_item : Call → Item → List CallOut → DialogId → Bool
opened_by_item call (Up up) outs name = opened_by_kind call up.id up.kind name
opened_by_item call (User command) outs name = opened_by_command call command outs name

-- an input with these outputs opens the dialog of the name; if nothing is held none is opened
abbrev pub opens : Option Call → Option CallItem → List CallOut → DialogId → Bool
opens (Some call) (Some (id, item)) outs name = opened_by_item call item outs name
opens _ _ outs name = false

-- what comes up ends the dialog that is held under the name: a BYE, a CANCEL, a response, or the
-- loss of a transaction
abbrev pub ended_by_kind : Call → Id → Key → UpKind → DialogId → HeldDialog → Bool
ended_by_kind call id key (kind.Request request reply_to) name held =
    ended_by_request call.served key request name held
ended_by_kind call id key (kind.Ack ack) name held = false
ended_by_kind call id key (kind.Response response) name held =
    ended_by_response id response call.clients name held
ended_by_kind call id key kind.Timeout name held = ended_by_loss id true call.clients name held
ended_by_kind call id key kind.Failed name held = ended_by_loss id false call.clients name held

-- a command of the user ends the dialog: a BYE that goes out (RFC 3261, section 15.1.1), an answer,
-- or one that gives up the dialog or the INVITE that made it
abbrev pub ended_by_command : Call → UserCommand → List CallOut → DialogId → HeldDialog → Bool
ended_by_command call (Request request) outs name held = gives_bye name outs
ended_by_command call (Respond respond) outs name held =
    ended_by_answer call.served respond outs held
ended_by_command call (AbandonRequest abandon) outs name held =
    ended_by_loss abandon.id false call.clients name held
ended_by_command call (AbandonDialog abandon) outs name held =
    is_dialog_id (name_in abandon.local_tag abandon.remote_tag) name
ended_by_command call _ outs name held = false

abbrev pub ended_by_item : Call → Item → List CallOut → DialogId → HeldDialog → Bool
ended_by_item call (Up up) outs name held = ended_by_kind call up.id up.key up.kind name held
ended_by_item call (User command) outs name held = ended_by_command call command outs name held

-- an input ends the dialog; at a tick those end that are still early 64*T1 after the first 2xx to
-- their INVITE (RFC 3261, section 13.2.2.4)
abbrev pub ended_by : Option Call → Option CallItem → ℕ → List CallOut → DialogId → HeldDialog
    → Bool
ended_by (Some call) (Some (id, item)) now outs name held = ended_by_item call item outs name held
ended_by (Some call) None now outs name held = ends_early_at now call.clients held
ended_by None input now outs name held = false

-- a dialog is held under the name, and the input ends it
abbrev pub ends : Option Call → Timed CallItem → List CallOut → DialogId → Bool
ends call timed outs name =
    option_map_or (ended_by call timed.input timed.moment outs name)
    (dialog_at name (side_held call).dialogs) false

-- ---- what is told

-- the dialog of whose end an output tells the user
abbrev pub name_ended_by : CallOut → Option DialogId
name_ended_by (Notice (Ended call_id local_tag remote_tag)) =
    Some (dialog_id_of_tags local_tag remote_tag)
name_ended_by _ = None

-- how often outputs tell of the end of the dialog of the name
abbrev pub ends_told : DialogId → List CallOut → ℕ
ends_told name outs = count_by (is_dialog_id name) (filter_map name_ended_by outs)

-- ---- a list of inputs

module _ (calls : Calls) (name : DialogId) where
  -- whether the dialog of the name is held after an input
  abbrev pub held_next : Option Call → Bool → Timed CallItem → Bool
  held_next call held timed =
      let outs = (call_step calls call timed.input timed.moment).1 in
      opens call timed.input outs name || (held && not (ends call timed outs name))

  -- after a list of inputs
  abbrev pub held_from : Option Call → Bool → List (Timed CallItem) → Bool
  held_from call held [] = held
  held_from call held (input ∷ inputs) =
      held_from (call_step calls call input.input input.moment).0 (held_next call held input)
      inputs

  -- how many of them open it
  abbrev pub opened_from : Option Call → List (Timed CallItem) → ℕ
  opened_from call [] = 0
  opened_from call (input ∷ inputs) =
      let done = call_step calls call input.input input.moment in
      cond (opens call input.input done.1 name) 1 0 + opened_from done.0 inputs

  -- how often its end is told by them
  abbrev pub told_from : Option Call → List (Timed CallItem) → ℕ
  told_from call [] = 0
  told_from call (input ∷ inputs) =
      let done = call_step calls call input.input input.moment in
      ends_told name done.1 + told_from done.0 inputs

-- the dialog of a name is held, as a number
abbrev pub held_now : DialogId → Option Call → ℕ
held_now name call = cond (is_some (dialog_at name (side_held call).dialogs)) 1 0

-- ---- the laws

-- Whatever comes to a call: a dialog of a name is held if an input opened it and none ended it
-- since.
abbrev pub HeldUntilItEnds : Type 0
HeldUntilItEnds = (calls : Calls) (inputs : List (Timed CallItem)) (name : DialogId)
    → is_some (dialog_at name (side_held (call_from calls None inputs)).dialogs)
    ≡ held_from calls name None false inputs

-- Whatever came to a call before: only the input that ends a dialog tells the user of its end,
-- once.
abbrev pub EachEndIsToldOnce : Type 0
EachEndIsToldOnce = (calls : Calls) (inputs : List (Timed CallItem)) (input : Timed CallItem)
    (name : DialogId) → let call = call_from calls None inputs in
    let outs = (call_step calls call input.input input.moment).1 in
    ends_told name outs ≡ cond (ends call input outs name) 1 0

-- Whatever came to a call before: later inputs tell of the end of a dialog no more often than they
-- open it, or once more if it was held. So between two such ends an input opened it.
abbrev pub EachEndHasItsOpening : Type 0
EachEndHasItsOpening = (calls : Calls) (earlier inputs : List (Timed CallItem)) (name : DialogId)
    → let call = call_from calls None earlier in
    told_from calls name call inputs + held_now name (call_from calls call inputs)
    ≤ held_now name call + opened_from calls name call inputs
