-- The commands of the user that are refused.
use Rattle.std.specs.Prelude.{◌≡◌, ℕ, Bool, true, false, List}
use Rattle.std.specs.List.{list_any}
use Rattle.sip_message.specs.declared.id.Id.{Id}
use Rattle.sip_user.specs.declared.item.CallOut.{CallOut}
use Rattle.sip_user.specs.declared.item.CallOut.TheVariants.{Notice}
use Rattle.sip_user.specs.declared.notice.Notice.TheVariants as notice
use Rattle.sip_user.specs.declared.refusal.Refusal.{Refusal}
use Rattle.sip_user.specs.Notices.{refused}

-- the user is told that a command is refused
abbrev pub is_refusal : CallOut → Bool
is_refusal (Notice (notice.Refused call_id place refusal)) = true
is_refusal _ = false

-- if the command of an event is refused, that is the only output, and what is held doesn't change
abbrev pub IsRefusedAlone : {S : Type 0} → S → List ℕ → Id → S × List CallOut → Type 0
IsRefusedAlone {S} before call_id event taken = list_any is_refusal taken.1 ≡ true
    → (refusal : Refusal) × (taken ≡ (before, refused event call_id refusal))
