-- The record of a dialog says the same as its story, whatever happened in the dialog, on either
-- side of a call (RFC 3261, section 12).
use Rattle.std.specs.Prelude.{◌≡◌, ℕ, List, [], ◌∷◌, ◌++◌, Option, None, fold}
use Rattle.sip_message.specs.declared.message.Message.{Message}
use Rattle.sip_dialog.specs.declared.dialog.Dialog.{Dialog}
use Rattle.sip_dialog.specs.Fault.{accept_fault, ended_fault}
use Rattle.sip_dialog.specs.Life.{Happening, Requests, Acknowledges, Accepts, Refreshes, Confirms, Ends, dialog_after}
use Rattle.sip_dialog.specs.Opening.{Opening}
use Rattle.sip_held_dialogs.specs.declared.held_dialog.HeldDialog.{HeldDialog}
use Rattle.sip_held_dialogs.specs.Dialogs.{confirms, happened, retargets, happenings_by_request}

-- something that the dialog doesn't refuse
abbrev pub Fits : Dialog → Happening → Type 0
Fits dialog (Requests method) = Unit {0}
Fits dialog (Acknowledges number) = Unit {0}
Fits dialog (Accepts number) = accept_fault dialog number ≡ None
Fits dialog (Refreshes uri) = Unit {0}
Fits dialog (Confirms response) = ended_fault dialog ≡ None
Fits dialog Ends = Unit {0}

-- the same for each in turn, after those before it
abbrev pub AllFit : Dialog → List Happening → Type 0
AllFit dialog [] = Unit {0}
AllFit dialog (one ∷ life) = Fits dialog one × AllFit (happened dialog one) life

-- a dialog refuses nothing that a request of the peer, a 2xx or a Contact makes happen
pub record CasesFit (held : HeldDialog) : Type 0 where
  pub happenings_by_request : (request : Message) → AllFit held.dialog
      (happenings_by_request request held)
  pub confirms : (response : Message) → AllFit held.dialog (confirms response held)
  pub retargets : (uri : Option (List ℕ)) → AllFit held.dialog (retargets uri held)

-- If a record stands for a story and more happens that fits, it stands for the longer story.
abbrev pub StandsForItsStory : Type 0
StandsForItsStory = (opening : Opening) (life more : List Happening)
    → AllFit (dialog_after opening life) more
    → fold happened (dialog_after opening life) more ≡ dialog_after opening (life ++ more)
