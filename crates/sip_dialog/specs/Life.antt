-- A dialog read from its opening and the list of what happened in it (RFC 3261, section 12).
use Rattle.std.specs.Prelude.{ℕ, ◌+◌, max, Bool, true, false, List, Option, Some, None, count_by, fold, reverse, unwrap_or, if◌then◌else◌}
use Rattle.std.specs.List.{list_any, filter_map}
use Rattle.sip_message.specs.declared.message.Message.{Message}
use Rattle.sip_message.specs.declared.name_addr.NameAddr.{NameAddr}
use Rattle.sip_dialog.specs.declared.dialog.Dialog.{Dialog}
use Rattle.sip_dialog.specs.declared.dialog.DialogState.{DialogState}
use Rattle.sip_dialog.specs.declared.dialog.DialogState.TheVariants.{Confirmed, Ended}
use Rattle.sip_dialog.specs.declared.dialog.Side.{Side}
use Rattle.sip_dialog.specs.declared.dialog.Side.TheVariants.{Caller, Callee}
use Rattle.sip_dialog.specs.Opening.{Opening, opened, contact_uri}

-- what happens in a dialog
pub data Happening : Type 0 where
  -- a request with this method is made in the dialog; it isn't an ACK
  Requests : List ℕ → Happening
  -- an ACK is made, for the INVITE with this number
  Acknowledges : ℕ → Happening
  -- a request of the peer with this number is accepted
  Accepts : ℕ → Happening
  -- the target becomes this URI
  Refreshes : List ℕ → Happening
  -- this response confirms the dialog
  Confirms : Message → Happening
  -- it ends
  Ends : Happening

-- whether it takes a number: a request does, but an ACK has that of its INVITE
abbrev pub takes_number : Happening → Bool
takes_number (Requests method) = true
takes_number (Acknowledges number) = false
takes_number (Accepts number) = false
takes_number (Refreshes uri) = false
takes_number (Confirms response) = false
takes_number Ends = false

-- the number of a request of the peer that is accepted
abbrev pub accepted_number : Happening → Option ℕ
accepted_number (Requests method) = None
accepted_number (Acknowledges number) = None
accepted_number (Accepts number) = Some number
accepted_number (Refreshes uri) = None
accepted_number (Confirms response) = None
accepted_number Ends = None

-- whether a response confirms the dialog
abbrev pub is_confirming : Happening → Bool
is_confirming (Requests method) = false
is_confirming (Acknowledges number) = false
is_confirming (Accepts number) = false
is_confirming (Refreshes uri) = false
is_confirming (Confirms response) = true
is_confirming Ends = false

-- whether the dialog ends
abbrev pub is_ending : Happening → Bool
is_ending (Requests method) = false
is_ending (Acknowledges number) = false
is_ending (Accepts number) = false
is_ending (Refreshes uri) = false
is_ending (Confirms response) = false
is_ending Ends = true

-- the greater of two numbers, the first of which may be missing
abbrev pub greater : Option ℕ → ℕ → Option ℕ
greater None number = Some number
greater (Some other) number = Some (max other number)

-- the routes: at the caller, those of the last response that confirmed the dialog
abbrev pub routes_by : Side → List NameAddr → Happening → List NameAddr
routes_by side routes (Requests method) = routes
routes_by side routes (Acknowledges number) = routes
routes_by side routes (Accepts number) = routes
routes_by side routes (Refreshes uri) = routes
routes_by Caller routes (Confirms response) = reverse response.record_routes
routes_by Callee routes (Confirms response) = routes
routes_by side routes Ends = routes

-- the target: the last URI that was given, or at the caller the last Contact of a response that
-- confirmed the dialog
abbrev pub target_by : Side → List ℕ → Happening → List ℕ
target_by side target (Requests method) = target
target_by side target (Acknowledges number) = target
target_by side target (Accepts number) = target
target_by side target (Refreshes uri) = uri
target_by Caller target (Confirms response) = unwrap_or (contact_uri response) target
target_by Callee target (Confirms response) = target
target_by side target Ends = target

-- a dialog that has ended stays so
abbrev pub state_after : DialogState → List Happening → DialogState
state_after state life =
    if list_any is_ending life then Ended
    else if list_any is_confirming life then Confirmed else state

-- The dialog of an opening after all that happened. The local CSeq is that of the opening, and one
-- more for each request that took a number. The remote CSeq is the greatest accepted.
abbrev pub dialog_after : Opening → List Happening → Dialog
dialog_after opening life = record (opened opening) {
  state = state_after (opened opening).state life;
  target = fold (target_by (opened opening).side) (opened opening).target life;
  route_set = fold (routes_by (opened opening).side) (opened opening).route_set life;
  local_cseq = (opened opening).local_cseq + count_by takes_number life;
  remote_cseq = fold greater (opened opening).remote_cseq (filter_map accepted_number life);
}
