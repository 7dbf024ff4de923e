-- Which requests go out in the dialog of a name, by what a call gives (RFC 3261, section 12.2.1.1).
use Rattle.std.specs.Prelude.{◌≡◌, ℕ, ◌+◌, Bool, not, ◌&&◌, ◌||◌, List, [], ◌∷◌, map, Option, None, Some, codes, if◌then◌else◌}
use Rattle.std.specs.List.{filter_map}
use Rattle.std.specs.Option.{option_map}
use Rattle.sip_message.specs.declared.cseq.CSeq.{CSeq}
use Rattle.sip_message.specs.declared.message.Message.{Message}
use Rattle.sip_message.specs.Party.{tag_of}
use Rattle.sip_dialog.specs.declared.dialog.Dialog.{Dialog}
use Rattle.sip_dialog.specs.Life.{Happening, Requests}
use Rattle.sip_dialog.specs.Opening.{Opening, opened}
use Rattle.sip_transactions.specs.declared.input.Command.{Command as Order}
use Rattle.sip_transactions.specs.declared.input.Command.TheVariants as order
use Rattle.sip_held_dialogs.specs.declared.held_dialog.DialogId.{DialogId}
use Rattle.sip_held_dialogs.specs.declared.held_dialog.HeldDialog.{HeldDialog}
use Rattle.sip_user.specs.declared.item.CallOut.{CallOut}
use Rattle.sip_user.specs.declared.item.CallOut.TheVariants as out
use Rattle.sip_held_dialogs.specs.Dialogs.{is_dialog_id, tag_text}
use Rattle.sip_held_dialogs.specs.Requests.{is_cancel, is_method, dialog_id_of_tags}

-- the name of a dialog, by its tags
abbrev pub name_of_dialog : Dialog → DialogId
name_of_dialog dialog = dialog_id_of_tags (tag_text dialog.local.tag) (tag_text dialog.remote.tag)

-- a request has a number of its own; an ACK and a CANCEL have that of the request that they are for
abbrev pub has_own_number : Message → Bool
has_own_number request = not (is_method (codes "ACK") request || is_cancel request)

-- the CSeq of a request that has the tags of this dialog and a number of its own
abbrev pub cseq_of_request : DialogId → Message → Option CSeq
cseq_of_request name request =
    if has_own_number request
    && is_dialog_id name (dialog_id_of_tags (tag_of request.from) (tag_of request.to))
    then Some request.cseq else None

-- the same for a command to a transaction
abbrev pub cseq_of_order : DialogId → Order → Option CSeq
cseq_of_order name (order.Start key call_id request to) = cseq_of_request name request
cseq_of_order name (order.Answer key response) = None
cseq_of_order name (order.Abandon key) = None

-- the same for an output; only an ACK goes out without a transaction
abbrev pub cseq_of_output : DialogId → CallOut → Option CSeq
cseq_of_output name (out.Notice notice) = None
cseq_of_output name (out.Command id order) = cseq_of_order name order
cseq_of_output name (out.Direct to bytes) = None

-- the CSeqs of the requests that outputs send in the dialog
abbrev pub cseqs_in : DialogId → List CallOut → List CSeq
cseqs_in name outs = filter_map (cseq_of_output name) outs

-- requests with these CSeqs are made in the dialog
abbrev pub requests_made : List CSeq → List Happening
requests_made cseqs = map (λ cseq. Requests cseq.method) cseqs

-- what outputs make happen in the dialog
abbrev pub sent_in : DialogId → List CallOut → List Happening
sent_in name outs = requests_made (cseqs_in name outs)

-- each number is one more than that before it
abbrev pub NumberedAfter : ℕ → List CSeq → Type 0
NumberedAfter last [] = Unit {0}
NumberedAfter last (cseq ∷ cseqs) =
    (cseq.number ≡ last + 1) × NumberedAfter (last + 1) cseqs

-- the same after a number, if there is one
abbrev pub NumberedFrom : Option ℕ → List CSeq → Type 0
NumberedFrom None cseqs = Unit {0}
NumberedFrom (Some last) cseqs = NumberedAfter last cseqs

-- the local CSeq of the held dialog, or of one that begins with this opening
abbrev pub number_before : Option Opening → Option HeldDialog → Option ℕ
number_before start None = option_map (λ opening. (opened opening).local_cseq) start
number_before start (Some held) = Some held.dialog.local_cseq

-- the response in a command to a transaction
abbrev pub response_to_order : Order → Option Message
response_to_order (order.Start key call_id request to) = None
response_to_order (order.Answer key response) = Some response
response_to_order (order.Abandon key) = None

-- the response that an output gives
abbrev pub response_in : CallOut → Option Message
response_in (out.Notice notice) = None
response_in (out.Command id order) = response_to_order order
response_in (out.Direct to bytes) = None

-- the responses that go out
abbrev pub responses_out : List CallOut → List Message
responses_out outs = filter_map response_in outs
