-- The history of the dialog of a name, for all inputs of a call: how it opened, and what happened
-- in it since (RFC 3261, section 12).
use Rattle.std.specs.Prelude.{◌≡◌, ◌+◌, Bool, true, false, List, [], ◌∷◌, ◌++◌, Option, None, Some, filter_map, fold, length, if◌then◌else◌}
use Rattle.std.specs.Option.{option_map, option_map_or}
use Rattle.keyed_machine.specs.Machine.{Timed}
use Rattle.sip_message.specs.declared.cseq.CSeq.{CSeq}
use Rattle.sip_message.specs.declared.id.Id.{Id}
use Rattle.sip_dialog.specs.declared.dialog.Dialog.{Dialog}
use Rattle.sip_dialog.specs.Life.{Happening, accepted_number, dialog_after, greater, routes_by, target_by}
use Rattle.sip_dialog.specs.Opening.{Opening, opened}
use Rattle.sip_transactions.specs.declared.output.UpKind.{UpKind}
use Rattle.sip_transactions.specs.declared.output.UpKind.TheVariants as kind
use Rattle.sip_user.specs.declared.command.UserCommand.{UserCommand}
use Rattle.sip_user.specs.declared.command.UserCommand.TheVariants.{Respond}
use Rattle.sip_held_dialogs.specs.declared.held_dialog.DialogId.{DialogId}
use Rattle.sip_held_dialogs.specs.declared.held_dialog.HeldDialog.{HeldDialog}
use Rattle.sip_user.specs.declared.item.CallOut.{CallOut}
use Rattle.sip_user.specs.declared.item.Item.{Item}
use Rattle.sip_user.specs.declared.item.Item.TheVariants.{Up, User}
use Rattle.sip_held_dialogs.specs.Dialogs.{Dialogs, dialog_at, is_dialog_id, lives}
use Rattle.sip_held_dialogs.specs.Sent.{NumberedAfter, NumberedFrom, cseqs_in, name_of_dialog, number_before, requests_made, sent_in}
use Rattle.sip_served.specs.Happenings.{accepts, answer_confirms, answer_opens}
use Rattle.sip_clients.specs.Happenings.{response_brings, response_opens}
use Rattle.sip_calls.specs.declared.call.Call.{Call}
use Rattle.sip_calls.specs.declared.calls.Calls.{Calls}
use Rattle.sip_calls.specs.Call.{CallItem, call_step}
use Rattle.sip_calls.specs.Provisionals.{EventsDiffer, event_in, side_held}

-- ---- one input

-- what a message that comes up does in the dialog that is held
abbrev pub brought_by_kind : Call → Id → UpKind → DialogId → HeldDialog → List Happening
brought_by_kind call id (kind.Request request reply_to) name held = accepts request name held
brought_by_kind call id (kind.Ack ack) name held = []
brought_by_kind call id (kind.Response response) name held =
    response_brings id response call.clients name held
brought_by_kind call id kind.Timeout name held = []
brought_by_kind call id kind.Failed name held = []

-- what an answer of the user does in the dialog
abbrev pub brought_by_command : Call → UserCommand → List CallOut → DialogId → HeldDialog
    → List Happening
brought_by_command call (Respond respond) outs name held =
    answer_confirms call.served respond outs name held
brought_by_command call _ outs name held = []

-- what an item does in the dialog
abbrev pub brought_by : Call → Item → List CallOut → DialogId → HeldDialog → List Happening
brought_by call (Up up) outs name held = brought_by_kind call up.id up.kind name held
brought_by call (User command) outs name held = brought_by_command call command outs name held

-- all that an input makes happen in the dialog: this, and the requests that go out in it
abbrev pub happens_in : Option Call → Option CallItem → List CallOut → DialogId → HeldDialog
    → List Happening
happens_in (Some call) (Some (id, item)) outs name held =
    brought_by call item outs name held ++ sent_in name outs
happens_in _ _ outs name held = sent_in name outs

-- the opening of a dialog that a message makes: a response, with its request
abbrev pub opening_by_kind : Call → Id → UpKind → Option Opening
opening_by_kind call id (kind.Response response) = response_opens id response call.clients
opening_by_kind call id _ = None

-- the opening of a dialog that a command of the user makes: a request, with the answer to it
abbrev pub opening_by_command : Call → UserCommand → Option Opening
opening_by_command call (Respond respond) = answer_opens call.served respond
opening_by_command call _ = None

-- the opening of a dialog that an item makes
abbrev pub opening_by : Call → Item → Option Opening
opening_by call (Up up) = opening_by_kind call up.id up.kind
opening_by call (User command) = opening_by_command call command

-- the opening of a dialog that an input makes; if nothing is held none is made
abbrev pub opening_in : Option Call → Option CallItem → Option Opening
opening_in (Some call) (Some (id, item)) = opening_by call item
opening_in _ _ = None

-- the dialog of the name is held, and was made by this event
abbrev pub is_born_of : DialogId → Option Id → Dialogs → Bool
is_born_of name event dialogs =
    option_map_or (λ id. lives dialogs record { name = name; created_by = id }) event false

-- ---- a list of inputs

-- how a dialog opened, what happened in it since, and the CSeqs of the requests that went out in it
pub record History : Type 0 where
  pub opening : Opening
  pub life : List Happening
  pub sent : List CSeq

-- more happens in it
abbrev pub with_more : List Happening → List CSeq → History → History
with_more more cseqs history =
    record history { life = history.life ++ more; sent = history.sent ++ cseqs }

-- the requests that went out are all that has happened so far
abbrev pub begun_with : List CSeq → Opening → History
begun_with cseqs opening =
    record { opening = opening; life = requests_made cseqs; sent = cseqs }

-- the call after all inputs
abbrev pub call_from : Calls → Option Call → List (Timed CallItem) → Option Call
call_from calls call [] = call
call_from calls call (input ∷ inputs) =
    call_from calls (call_step calls call input.input input.moment).0 inputs

module _ (calls : Calls) (name : DialogId) where
  -- the history begins anew if the input makes the dialog
  abbrev pub history_after : Option Call → Option History → Timed CallItem → Option History
  history_after call history timed =
      let done = call_step calls call timed.input timed.moment in
      let cseqs = cseqs_in name done.1 in
      if is_born_of name (event_in timed.input) (side_held done.0).dialogs
      then option_map (begun_with cseqs) (opening_in call timed.input)
      else option_map (with_more (option_map_or (happens_in call timed.input done.1 name)
      (dialog_at name (side_held call).dialogs) []) cseqs) history

  -- after a list of inputs, from what was held and its history
  abbrev pub history_from : Option Call → Option History → List (Timed CallItem) → Option History
  history_from call history [] = history
  history_from call history (input ∷ inputs) =
      history_from (call_step calls call input.input input.moment).0
      (history_after call history input) inputs

  -- for all inputs of a call, if nothing was held before
  abbrev pub history_of : List (Timed CallItem) → Option History
  history_of inputs = history_from None None inputs

-- ---- the laws

-- A law of each dialog that is held after a list of inputs, and its history.
abbrev pub OfEachDialog : (History → Dialog → Type 0) → Type 0
OfEachDialog Law = (calls : Calls) (inputs : List (Timed CallItem)) → EventsDiffer inputs
    → (name : DialogId) (held : HeldDialog)
    → dialog_at name (side_held (call_from calls None inputs)).dialogs ≡ Some held
    → (history : History) × (history_of calls name inputs ≡ Some history)
    × Law history held.dialog

-- Whatever comes to a call: a held dialog is what its opening and all that happened in it since
-- make it.
abbrev pub HoldsItsHistory : Type 0
HoldsItsHistory =
    OfEachDialog (λ history dialog. dialog ≡ dialog_after history.opening history.life)

-- a dialog is held under the name of its tags
abbrev pub HasItsName : Type 0
HasItsName = (calls : Calls) (inputs : List (Timed CallItem)) → EventsDiffer inputs
    → (name : DialogId) (held : HeldDialog)
    → dialog_at name (side_held (call_from calls None inputs)).dialogs ≡ Some held
    → is_dialog_id name (name_of_dialog held.dialog) ≡ true

-- its local CSeq is that of its opening, and one more for each request that went out in it
abbrev pub CountsItsRequests : Type 0
CountsItsRequests = OfEachDialog (λ history dialog. dialog.local_cseq
    ≡ (opened history.opening).local_cseq + length history.sent)

-- each of these requests had the number after that of the one before it
abbrev pub NumbersItsRequests : Type 0
NumbersItsRequests = OfEachDialog (λ history dialog.
    NumberedAfter (opened history.opening).local_cseq history.sent)

-- Whatever came to a call before: the requests that an input sends in a dialog, a held one or one
-- that it opens, have the next numbers after its local CSeq; so has the BYE that ends it.
abbrev pub HasTheNextNumber : Type 0
HasTheNextNumber = (calls : Calls) (inputs : List (Timed CallItem)) (input : Timed CallItem)
    → EventsDiffer inputs → (name : DialogId) → let call = call_from calls None inputs in
    NumberedFrom
    (number_before (opening_in call input.input) (dialog_at name (side_held call).dialogs))
    (cseqs_in name (call_step calls call input.input input.moment).1)

-- its remote CSeq is the greatest number that was accepted
abbrev pub HasTheGreatestNumber : Type 0
HasTheGreatestNumber = OfEachDialog (λ history dialog. dialog.remote_cseq
    ≡ fold greater (opened history.opening).remote_cseq (filter_map accepted_number history.life))

-- its routes and its target are those of its opening, or the last ones that it got since
abbrev pub HasTheLatestRoute : Type 0
HasTheLatestRoute = OfEachDialog (λ history dialog. let start = opened history.opening in
    (dialog.route_set ≡ fold (routes_by start.side) start.route_set history.life)
    × (dialog.target ≡ fold (target_by start.side) start.target history.life))
