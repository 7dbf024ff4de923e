-- The state of a dialog, as a test (RFC 3261, section 12).
use Rattle.std.specs.Prelude.{Bool, true, false}
use Rattle.sip_dialog.specs.declared.dialog.DialogState.{DialogState}
use Rattle.sip_dialog.specs.declared.dialog.DialogState.TheVariants.{Early, Confirmed, Ended}

-- whether a dialog has ended
abbrev pub is_ended : DialogState → Bool
is_ended Early = false
is_ended Confirmed = false
is_ended Ended = true

-- whether a dialog is early
abbrev pub is_early : DialogState → Bool
is_early Early = true
is_early Confirmed = false
is_early Ended = false
