-- The reliable provisional responses to an INVITE in one life of a dialog, and those of which the
-- user is told (RFC 3262, section 4).
use Rattle.std.specs.Prelude.{◌≡◌, ◌≢◌, ℕ, List, [], ◌∷◌, ◌++◌, Option, None, Some, AllPairs, filter_map}
use Rattle.std.specs.List.{IsDistinct}
use Rattle.std.specs.Option.{option_and_then, option_to_list}
use Rattle.keyed_machine.specs.Machine.{Timed}
use Rattle.sip_message.specs.declared.id.Id.{Id}
pub use Rattle.sip_reliable.specs.Inbound.{IsConsecutive, in_order}
use Rattle.sip_transactions.specs.declared.output.UpKind.{UpKind}
use Rattle.sip_transactions.specs.declared.output.UpKind.TheVariants as kind
use Rattle.sip_held_dialogs.specs.declared.held_dialog.DialogReference.{DialogReference}
use Rattle.sip_user.specs.declared.item.CallOut.{CallOut}
use Rattle.sip_user.specs.declared.item.Item.TheVariants.{Up, User}
use Rattle.sip_held_dialogs.specs.Dialogs.{lives}
use Rattle.sip_held_dialogs.specs.Ids.{is_id}
use Rattle.sip_clients.specs.Client.{Side, client_at}
pub use Rattle.sip_clients.specs.Provisionals.{AnInvite, in_life, number_for, reported_in}
use Rattle.sip_calls.specs.declared.call.Call.{Call}
use Rattle.sip_calls.specs.declared.calls.Calls.{Calls}
use Rattle.sip_calls.specs.Call.{CallItem, call_step}
use Rattle.sip_calls.specs.Sides.{side_of}

-- the RSeq of the reliable provisional response to that INVITE that comes up in that life of a
-- dialog, if one does
abbrev pub number_up : AnInvite → DialogReference → Id → UpKind → Side → Option ℕ
number_up invite life id (kind.Response response) side =
    option_and_then (number_for invite life id response) (client_at id side.clients)
number_up invite life id _ side = None

-- the RSeq of the response that an input brings, if it is one of them
abbrev pub number_in : AnInvite → DialogReference → Option CallItem → Side → Option ℕ
number_in invite life (Some (event, Up up)) side = number_up invite life up.id up.kind side
number_in invite life _ side = None

-- ---- a list of inputs

-- the dialogs and the client requests that are held
abbrev pub side_held : Option Call → Side
side_held None = record { dialogs = []; clients = [] }
side_held (Some call) = side_of call

module _ (calls : Calls) (invite : AnInvite) (life : DialogReference) where
  -- the call after an input, and what it gives
  abbrev pub done : Option Call → Timed CallItem → Option Call × List CallOut
  done call timed = call_step calls call timed.input timed.moment

  -- the RSeq that an input brings, if the dialog's life goes on after the input
  abbrev pub number_in_life : Option Call → Timed CallItem → Option ℕ
  number_in_life call timed = in_life (lives (side_held (done call timed).0).dialogs life)
      (number_in invite life timed.input (side_held call))

  -- the RSeqs that came, in order
  abbrev pub came_from : Option Call → List (Timed CallItem) → List ℕ
  came_from call [] = []
  came_from call (input ∷ inputs) =
      option_to_list (number_in_life call input) ++ came_from (done call input).0 inputs

  -- the RSeqs of the responses of which the user is told, in order
  abbrev pub reported_from : Option Call → List (Timed CallItem) → List ℕ
  reported_from call [] = []
  reported_from call (input ∷ inputs) =
      reported_in (number_in_life call input) (done call input).1
      ++ reported_from (done call input).0 inputs

  -- the same for all inputs of a call, if nothing was held before
  abbrev pub came : List (Timed CallItem) → List ℕ
  came inputs = came_from None inputs

  -- the RSeqs of all responses of which the user is told
  abbrev pub reported : List (Timed CallItem) → List ℕ
  reported inputs = reported_from None inputs

-- ---- events

-- the event by which a message comes up; a request may be lost by a tick
abbrev pub event_of_kind : Id → UpKind → Option Id
event_of_kind id (kind.Request request reply_to) = Some id
event_of_kind id (kind.Ack ack) = Some id
event_of_kind id (kind.Response response) = Some id
event_of_kind id kind.Timeout = None
event_of_kind id kind.Failed = None

-- the event of a message or of a command
abbrev pub event_in : Option CallItem → Option Id
event_in None = None
event_in (Some (id, Up up)) = event_of_kind id up.kind
event_in (Some (id, User command)) = Some id

-- messages and commands come by different events
abbrev pub EventsDiffer : List (Timed CallItem) → Type 0
EventsDiffer inputs = IsDistinct is_id (filter_map (λ timed. event_in timed.input) inputs)

-- ---- the laws

-- A law of the RSeqs that came, and of those shown, for an INVITE in a life of a dialog.
abbrev pub OfEachLife : (List ℕ → List ℕ → Type 0) → Type 0
OfEachLife Law = (calls : Calls) (inputs : List (Timed CallItem)) → EventsDiffer inputs
    → (invite : AnInvite) (life : DialogReference)
    → Law (came calls invite life inputs) (reported calls invite life inputs)

-- Whatever comes to a call: of the reliable provisional responses to an INVITE in a life of a
-- dialog, the user is told of the first, and then of each whose RSeq is one more than the last one
-- told.
abbrev pub ShownInOrder : Type 0
ShownInOrder = OfEachLife (λ came reported. reported ≡ in_order came)

-- the RSeqs that are shown are consecutive
abbrev pub ShownConsecutive : Type 0
ShownConsecutive = OfEachLife (λ came reported. IsConsecutive reported)

-- so none is shown twice
abbrev pub ShownOnce : Type 0
ShownOnce = OfEachLife (λ came reported. AllPairs (λ x y. x ≢ y) reported)
