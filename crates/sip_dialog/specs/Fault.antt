-- Why a function of a dialog refuses: the first reason that fits, in this order. Lack of memory
-- comes last.
use Rattle.std.specs.Prelude.{ℕ, Bool, false, ◌&&◌, nat_le, List, Option, Some, None, Result, Ok, Err, unwrap_or, if◌then◌else◌}
use Rattle.std.specs.Option.{option_map_or}
use Rattle.sip_dialog.specs.declared.dialog.Dialog.{Dialog}
use Rattle.sip_dialog.specs.declared.fault.DialogFault.{DialogFault}
use Rattle.sip_dialog.specs.declared.fault.DialogFault.TheVariants.{SequenceUsedUp, NotConfirmed, Ended, StrictRoute, OutOfOrder, NoMemory}
use Rattle.sip_dialog.specs.Dialog.{is_ended, is_early}
use Rattle.sip_dialog.specs.Request.{is_invite_method}
use Rattle.sip_dialog.specs.Route.{is_strict}

-- why no request with this method: an INVITE needs a confirmed dialog; no CSeq is above 2^31 - 1
abbrev pub request_fault : Dialog → List ℕ → Option DialogFault
request_fault dialog method =
    if is_ended dialog.state then Some Ended
    else if is_early dialog.state && is_invite_method method then Some NotConfirmed
    else if is_strict dialog.route_set then Some StrictRoute
    else if nat_le 2147483647 dialog.local_cseq then Some SequenceUsedUp
    else None

-- why a dialog makes no ACK
abbrev pub ack_fault : Dialog → Option DialogFault
ack_fault dialog =
    if is_ended dialog.state then Some Ended
    else if is_early dialog.state then Some NotConfirmed
    else if is_strict dialog.route_set then Some StrictRoute
    else None

-- why an ended dialog refuses a change
abbrev pub ended_fault : Dialog → Option DialogFault
ended_fault dialog = if is_ended dialog.state then Some Ended else None

-- the number isn't above the remote CSeq, if there is one
abbrev pub is_out_of_order : Option ℕ → ℕ → Bool
is_out_of_order remote number = option_map_or (nat_le number) remote false

-- why a number that the peer sent is refused
abbrev pub accept_fault : Dialog → ℕ → Option DialogFault
accept_fault dialog number =
    if is_ended dialog.state then Some Ended
    else if is_out_of_order dialog.remote_cseq number then Some OutOfOrder
    else None

-- lack of memory, if no reason fits
abbrev pub or_no_memory : Option DialogFault → DialogFault
or_no_memory fault = unwrap_or fault NoMemory

abbrev pub ok_unless : Option DialogFault → Result (Unit {0}) DialogFault
ok_unless None = Ok tt
ok_unless (Some fault) = Err fault
