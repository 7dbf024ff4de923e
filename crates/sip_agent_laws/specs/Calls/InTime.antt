-- What a tick does by when: a request is removed, and the user is told that no ACK or no PRACK came
-- (RFC 3261, sections 13.2.2.4 and 13.3.1.4; RFC 3262, section 3). Moments are in ms.
use Rattle.std.specs.Prelude.{◌≡◌, ℕ, ◌+◌, ◌*◌, Bool, false, not, ◌&&◌, ◌||◌, nat_le, map, filter, is_none, is_some, None, Some, Option}
use Rattle.std.specs.List.{list_any}
use Rattle.std.specs.Option.{option_map_or}
use Rattle.sip_message.specs.declared.id.Id.{Id}
use Rattle.sip_timers.specs.declared.estimate.TheConstants.{T1}
use Rattle.sip_user.specs.declared.item.CallOut.{CallOut}
use Rattle.sip_user.specs.declared.item.CallOut.TheVariants.{Notice}
use Rattle.sip_user.specs.declared.notice.Notice.TheVariants.{NoAck, NoPrack}
use Rattle.sip_held_dialogs.specs.Ids.{is_id}
use Rattle.sip_served.specs.declared.held_request.HeldRequest.{HeldRequest}
use Rattle.sip_clients.specs.declared.client.Client.{Client}
use Rattle.sip_calls.specs.declared.call.Call.{Call}
use Rattle.sip_calls.specs.declared.calls.Calls.{Calls}
use Rattle.sip_calls.specs.Call.{CallItem, call_step}
use Rattle.sip_calls.specs.HeldRequests.{requests_held}
use Rattle.sip_calls.specs.Provisionals.{side_held}

-- ---- what is removed

-- the moment, if there is one, has come
abbrev pub has_come : ℕ → Option ℕ → Bool
has_come now moment = option_map_or (λ moment. nat_le moment now) moment false

-- A tick leaves those requests of the peer whose moment of removal hasn't come: so the first one at
-- that moment or later removes a request, whatever else is due then.
abbrev pub RequestsRemoved : Type 0
RequestsRemoved = (calls : Calls) (call : Call) (now : ℕ)
    → map (λ held. held.id) (requests_held (call_step calls (Some call) None now).0)
    ≡ map (λ held. held.id)
    (filter (λ held. not (has_come now held.removal)) (call.served).requests)

-- the same for the agent's own, which don't change otherwise
abbrev pub ClientsRemoved : Type 0
ClientsRemoved = (calls : Calls) (call : Call) (now : ℕ)
    → (side_held (call_step calls (Some call) None now).0).clients
    ≡ filter (λ (entry : Id × Client). not (has_come now entry.1.removal)) call.clients

-- ---- what is told

-- a 2xx was sent 64*T1 ago, and its ACK didn't come (`end` is 64*T1 after it)
abbrev pub lacks_ack : ℕ → HeldRequest → Bool
lacks_ack now held =
    option_map_or (λ success. is_none success.over && nat_le success.end now) held.success false

-- A reliable provisional response was sent 64*T1 ago, and its PRACK didn't come; none was given up
-- before, and no final response went out.
abbrev pub lacks_prack : ℕ → HeldRequest → Bool
lacks_prack now held = not held.ledger.closed
    && list_any (λ p. is_some p.retransmission && nat_le (p.sent + 64 * T1) now)
    held.ledger.waiting

-- the user is told that no ACK of the INVITE of this id came
abbrev pub tells_no_ack : Id → CallOut → Bool
tells_no_ack id (Notice (NoAck call_id invite)) = is_id id invite
tells_no_ack id _ = false

-- the same of a PRACK
abbrev pub tells_no_prack : Id → CallOut → Bool
tells_no_prack id (Notice (NoPrack call_id invite)) = is_id id invite
tells_no_prack id _ = false

-- a tick tells of an INVITE of an id if one lacks its ACK then, and of no other
abbrev pub NoAckTold : Type 0
NoAckTold = (calls : Calls) (call : Call) (now : ℕ) (id : Id)
    → list_any (tells_no_ack id) (call_step calls (Some call) None now).1
    ≡ list_any (λ held. is_id id held.id && lacks_ack now held) (call.served).requests

-- the same of a PRACK
abbrev pub NoPrackTold : Type 0
NoPrackTold = (calls : Calls) (call : Call) (now : ℕ) (id : Id)
    → list_any (tells_no_prack id) (call_step calls (Some call) None now).1
    ≡ list_any (λ held. is_id id held.id && lacks_prack now held) (call.served).requests

-- whatever is held, no other input tells of either
abbrev pub OnlyTicksTell : Type 0
OnlyTicksTell = (calls : Calls) (state : Option Call) (input : CallItem) (now : ℕ) (id : Id)
    → list_any (λ out. tells_no_ack id out || tells_no_prack id out)
    (call_step calls state (Some input) now).1 ≡ false
