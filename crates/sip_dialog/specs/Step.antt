-- What each function does to a dialog.
use Rattle.std.specs.Prelude.{ℕ, ◌+◌, List, Some, reverse, unwrap_or}
use Rattle.sip_message.specs.declared.message.Message.{Message}
use Rattle.sip_dialog.specs.declared.dialog.Dialog.{Dialog}
use Rattle.sip_dialog.specs.declared.dialog.DialogState.TheVariants.{Confirmed, Ended}
use Rattle.sip_dialog.specs.declared.dialog.Side.{Side}
use Rattle.sip_dialog.specs.declared.dialog.Side.TheVariants.{Caller, Callee}
use Rattle.sip_dialog.specs.Opening.{contact_uri}

-- a request takes the next local CSeq
abbrev pub with_next_number : Dialog → Dialog
with_next_number dialog = record dialog { local_cseq = dialog.local_cseq + 1 }

-- the remote CSeq is that of a request that was taken
abbrev pub with_accepted : Dialog → ℕ → Dialog
with_accepted dialog number = record dialog { remote_cseq = Some number }

-- the remote target is another one
abbrev pub with_target : Dialog → List ℕ → Dialog
with_target dialog uri = record dialog { target = uri }

-- the routes of a response to the agent's request, and its Contact as the target, if it has one
abbrev pub routed_by : Dialog → Message → Dialog
routed_by dialog response = record dialog {
  route_set = reverse response.record_routes;
  target = unwrap_or (contact_uri response) dialog.target;
}

-- a response confirms the dialog; at the caller it also gives the routes anew
abbrev pub confirmed_at : Side → Dialog → Message → Dialog
confirmed_at Callee dialog response = record dialog { state = Confirmed }
confirmed_at Caller dialog response = record (routed_by dialog response) { state = Confirmed }

-- the dialog after a response to the INVITE confirmed it
abbrev pub confirmed_by : Dialog → Message → Dialog
confirmed_by dialog response = confirmed_at dialog.side dialog response

-- the dialog has ended
abbrev pub ended_now : Dialog → Dialog
ended_now dialog = record dialog { state = Ended }
