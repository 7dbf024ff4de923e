-- What is owed in the dialog of a name before and after a step: it changed in the dialog that was
-- there, which may have ended, or in one that is made anew.
use Rattle.std.proofs.Common.{◌≡◌, ◌⊎◌, inl, inr, Bool, List, [], refl, ◌∙◌}
use Rattle.std.specs.Prelude.{Option, None, Some, filter}
use Rattle.std.specs.Map.{remove_entry}
use Rattle.sip_message.specs.declared.id.Id.{Id}
use Rattle.sip_held_dialogs.specs.declared.pending_request.PendingRequest.{PendingRequest}
use Rattle.sip_held_dialogs.specs.declared.held_dialog.DialogId.{DialogId}
use Rattle.sip_held_dialogs.specs.declared.held_dialog.HeldDialog.{HeldDialog}
use Rattle.sip_held_dialogs.specs.Dialogs.{Dialogs, dialog_at, dialog_changed, is_dialog_id}
use Rattle.sip_held_dialogs.proofs.Entries as entries
use Rattle.sip_held_dialogs.proofs.Heard.{AreApart, name_laws}

-- ---- one dialog, before and after

abbrev KeptOwed : (List PendingRequest → List PendingRequest) → HeldDialog → Option HeldDialog
    → Type 0
KeptOwed change after None = ⊥
KeptOwed change after (Some before) =
    (after.created_by ≡ before.created_by) × (after.pending_requests
    ≡ change before.pending_requests)

-- the dialog was there and what is owed in it changed in this way, or it is no longer held
abbrev pub OwesStill : (List PendingRequest → List PendingRequest) → Option HeldDialog
    → Option HeldDialog → Type 0
OwesStill change before None = Unit {0}
OwesStill change before (Some after) = KeptOwed change after before

abbrev pub OwesAnew : Option Id → (List PendingRequest → List PendingRequest) → Option HeldDialog
    → Type 0
OwesAnew event change None = ⊥
OwesAnew event change (Some after) =
    (event ≡ Some after.created_by) × (after.pending_requests ≡ change [])

-- the same, or the event made it and nothing was owed in it before
abbrev pub Owes : Option Id → (List PendingRequest → List PendingRequest) → Option HeldDialog
    → Option HeldDialog
    → Type 0
Owes event change before after = OwesStill change before after ⊎ OwesAnew event change after

abbrev pub unchanged : List PendingRequest → List PendingRequest
unchanged pending_requests = pending_requests

pub still_same : (o : Option HeldDialog) → OwesStill unchanged o o
still_same None = tt
still_same (Some held) = (refl, refl)

pub still_over : (o : Option HeldDialog) → OwesStill unchanged o None
still_over o = tt

still_then : (change : List PendingRequest → List PendingRequest) (x y z : Option HeldDialog)
    → OwesStill change x y
    → OwesStill unchanged y z → OwesStill change x z
still_then change x y None first second = tt
still_then change x None (Some z) first second = absurd second
still_then change None (Some y) (Some z) first second = absurd first
still_then change (Some x) (Some y) (Some z) first second =
    (second.0 ∙ first.0, second.1 ∙ first.1)

pub still_as : (change other : List PendingRequest → List PendingRequest) (x y : Option HeldDialog)
    → ((pending_requests : List PendingRequest) → change pending_requests ≡ other pending_requests)
    → OwesStill change x y
    → OwesStill other x y
still_as change other x None same still = tt
still_as change other None (Some y) same still = absurd still
still_as change other (Some x) (Some y) same still = (still.0, still.1 ∙ same x.pending_requests)

pub owes_as : (event : Option Id) (change other : List PendingRequest → List PendingRequest)
    (x y : Option HeldDialog)
    → ((pending_requests : List PendingRequest) → change pending_requests ≡ other pending_requests)
    → Owes event change x y
    → Owes event other x y
owes_as event change other x y same (inl still) = inl (still_as change other x y same still)
owes_as event change other x None same (inr begins) = absurd begins
owes_as event change other x (Some y) same (inr begins) = inr (begins.0, begins.1 ∙ same [])

-- ---- all dialogs

-- for each name the same is owed
abbrev pub OweSame : Dialogs → Dialogs → Type 0
OweSame before after = (name : DialogId)
    → OwesStill unchanged (dialog_at name before) (dialog_at name after)

pub same_owed : (dialogs : Dialogs) → OweSame dialogs dialogs
same_owed dialogs name = still_same (dialog_at name dialogs)

pub same_then : (x y z : Dialogs) → OweSame x y → OweSame y z → OweSame x z
same_then x y z first second name =
    still_then unchanged (dialog_at name x) (dialog_at name y) (dialog_at name z) (first name)
    (second name)

pub removed_same : (name : DialogId) (dialogs : Dialogs) → AreApart dialogs
    → OweSame dialogs (remove_entry (is_dialog_id name) dialogs)
removed_same name dialogs apart other =
    entries.by_removal name_laws (OwesStill unchanged) still_same still_over name other dialogs
    apart

pub filtered_same : (p : HeldDialog → Bool) (dialogs : Dialogs) → AreApart dialogs
    → OweSame dialogs (filter (λ entry. p entry.1) dialogs)
filtered_same p dialogs apart other =
    entries.by_filter name_laws (OwesStill unchanged) still_same still_over p other dialogs apart

pub changed_same : (name : DialogId) (change : HeldDialog → HeldDialog)
    → ((held : HeldDialog) → OwesStill unchanged (Some held) (Some (change held)))
    → (dialogs : Dialogs) → OweSame dialogs (dialog_changed name change dialogs)
changed_same name change keeps dialogs other =
    entries.by_change name_laws (OwesStill unchanged) still_same still_over name other change keeps
    dialogs
