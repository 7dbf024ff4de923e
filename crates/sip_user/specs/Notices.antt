-- Notices that several parts of a call use.
use Rattle.std.specs.Prelude.{ℕ, List, [], ◌∷◌, Option, None, Some}
use Rattle.sip_message.specs.declared.id.Id.{Id}
use Rattle.sip_user.specs.declared.item.CallOut.{CallOut}
use Rattle.sip_user.specs.declared.item.CallOut.TheVariants.{Notice}
use Rattle.sip_user.specs.declared.notice.Notice.TheVariants.{Refused, Request}
use Rattle.sip_user.specs.declared.refusal.Refusal.{Refusal}

-- the user is told why an event's command is refused, or the ACK or PRACK that it asked for
abbrev pub refused : Id → List ℕ → Refusal → List CallOut
refused event call_id refusal = Notice (Refused call_id event.place refusal) ∷ []

-- ---- for steps and laws: `run` needs nothing of what follows

-- the request of which an output tells the user
abbrev pub request_told_by : CallOut → Option Id
request_told_by (Notice (Request call_id id method local_tag remote_tag body)) = Some id
request_told_by _ = None
