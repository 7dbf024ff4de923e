-- The dialogs of one Call-ID (RFC 3261, section 12).
use Rattle.std.specs.Prelude.{◌≡◌, ℕ, List}
use Rattle.std.specs.List.{AllByRecursion}
use Rattle.sip_held_dialogs.specs.declared.held_dialog.HeldDialog.{HeldDialog}
use Rattle.sip_held_dialogs.specs.Dialogs.{Dialogs}

abbrev pub IsDialogOf : List ℕ → HeldDialog → Type 0
IsDialogOf call_id held = held.dialog.call_id ≡ call_id

abbrev pub AreDialogsOf : List ℕ → Dialogs → Type 0
AreDialogsOf call_id dialogs =
    AllByRecursion (λ entry. entry.1.dialog.call_id ≡ call_id) dialogs
