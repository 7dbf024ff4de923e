-- The ACK of a 2xx (RFC 3261, section 13.3.1.4).
use Rattle.std.specs.Prelude.{ℕ, Bool, false, ◌&&◌, ◌==◌, List, [], ◌∷◌, Option, None, Some, find, is_none}
use Rattle.std.specs.Option.{option_map, option_map_or}
use Rattle.std.specs.Str.{str_eq_ignore_ascii_case}
use Rattle.sip_message.specs.declared.id.Id.{Id}
use Rattle.sip_message.specs.declared.message.Message.{Message}
use Rattle.sip_message.specs.Party.{tag_of}
use Rattle.sip_served.specs.declared.held_request.HeldRequest.{HeldRequest}
use Rattle.sip_served.specs.declared.held_request.SuccessEnd.{SuccessEnd}
use Rattle.sip_served.specs.declared.held_request.SuccessEnd.TheVariants.{Acknowledged}
use Rattle.sip_user.specs.declared.item.CallOut.TheVariants.{Notice}
use Rattle.sip_user.specs.declared.notice.Notice.TheVariants.{Ack}
use Rattle.sip_held_dialogs.specs.Requests.{is_invite}
use Rattle.sip_served.specs.RequestLife.{EndsSuccess, went_on}
use Rattle.sip_served.specs.State.{State, ServedTaken, changed_at, quiet}

-- an INVITE with a 2xx that still waits for its ACK
abbrev pub awaits_ack : HeldRequest → Bool
awaits_ack held =
    is_invite held.request
    && option_map_or (λ success. is_none success.over) held.success false

-- the ACK has the tags and the number of the request
abbrev pub is_ack_of : Message → HeldRequest → Bool
is_ack_of ack held =
    str_eq_ignore_ascii_case (tag_of ack.to) held.tag
    && str_eq_ignore_ascii_case (tag_of ack.from) (tag_of held.request.from)
    && (ack.cseq.number == held.request.cseq.number)

-- the INVITE that the ACK is for; if several fit, the first
abbrev pub acknowledged_invite : Message → List HeldRequest → Option Id
acknowledged_invite ack requests =
    option_map (λ held. held.id) (find (λ held. awaits_ack held && is_ack_of ack held) requests)

-- the request after its 2xx was acknowledged or given up
abbrev pub success_ended : SuccessEnd → HeldRequest → HeldRequest
success_ended end held = went_on (EndsSuccess end ∷ []) held

-- an ACK of the INVITE with this id, or of none; the user is told if it is of one
abbrev pub ack_noted : State → List ℕ → Message → Option Id → ServedTaken
ack_noted state call_id ack None = quiet state
ack_noted state call_id ack (Some invite) = (
  record state { requests = changed_at invite (success_ended Acknowledged) state.requests },
  Notice (Ack call_id invite ack.body) ∷ [],
)

-- an ACK that comes up
abbrev pub ack_taken : State → List ℕ → Message → ServedTaken
ack_taken state call_id ack = ack_noted state call_id ack (acknowledged_invite ack state.requests)
