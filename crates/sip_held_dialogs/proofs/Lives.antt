-- What happens in a dialog changes its record as it is added to the story.
use Rattle.std.proofs.Common.{◌≡◌, ℕ, Bool, true, false, not, cond, List, [], ◌∷◌, ◌++◌, refl, sym, ap, subst, ◌∙◌}
use Rattle.std.specs.Prelude.{Option, None, Some, Ok, is_some, fold}
use Rattle.std.proofs.lemmas.List.{append-nil, append_assoc}
use Rattle.keyed_machine.proofs.Ordered.{by_bool}
use Rattle.sip_dialog.specs.Fault.{accept_fault, ended_fault, ok_unless as dialog_ok}
use Rattle.sip_dialog.specs.Life as happen
use Rattle.sip_dialog.specs.Life.{Happening, dialog_after}
use Rattle.sip_dialog.specs.Opening.{Opening, contact_uri}
use Rattle.sip_dialog.specs.Step.{confirmed_by, ended_now, with_accepted, with_target}
use Rattle.sip_dialog.specs.declared.dialog.Dialog.{Dialog}
use Rattle.sip_dialog.proofs.Lives.{accept_stands, ack_stands, confirm_stands, end_stands, refresh_stands, request_stands}
use Rattle.sip_held_dialogs.specs.Dialogs.{happened, retargets, takes}
use Rattle.sip_held_dialogs.specs.Lives.{AllFit, CasesFit, Fits}
use Rattle.sip_held_dialogs.specs.Requests.{is_invite}
use Rattle.sip_held_dialogs.specs.declared.held_dialog.HeldDialog.{HeldDialog}

unfaulted : {F : Type 0} (o : Option F) → is_some o ≡ false → o ≡ None
unfaulted None e = refl
unfaulted (Some f) e = absurd cc

negated : (b : Bool) → not b ≡ true → b ≡ false
negated true e = absurd cc
negated false e = refl

happened_on : (opening : Opening) (life : List Happening) (one : Happening)
    → Fits (dialog_after opening life) one
    → happened (dialog_after opening life) one ≡ dialog_after opening (life ++ one ∷ [])
happened_on opening life (happen.Requests method) fits =
    request_stands (dialog_after opening life) method opening life refl
happened_on opening life (happen.Acknowledges number) fits =
    ack_stands (dialog_after opening life) number opening life refl
happened_on opening life (happen.Accepts number) fits =
    let dialog = dialog_after opening life in
    accept_stands dialog (with_accepted dialog number) (Ok tt) number (ap dialog_ok (sym fits)) refl
    opening life refl
happened_on opening life (happen.Refreshes uri) fits =
    let dialog = dialog_after opening life in
    refresh_stands dialog (with_target dialog uri) (Ok tt) uri refl opening life refl
happened_on opening life (happen.Confirms response) fits =
    let dialog = dialog_after opening life in
    confirm_stands dialog (confirmed_by dialog response) (Ok tt) response fits refl opening life
    refl
happened_on opening life happen.Ends fits =
    end_stands (dialog_after opening life) (ended_now (dialog_after opening life)) refl opening
    life refl

-- the same for all that happens after a story
pub all_on : (opening : Opening) (life more : List Happening)
    → AllFit (dialog_after opening life) more
    → fold happened (dialog_after opening life) more ≡ dialog_after opening (life ++ more)
all_on opening life [] fit = ap (dialog_after opening) (sym (append-nil life))
all_on opening life (one ∷ more) fit =
    let same = happened_on opening life one fit.0 in
    ap (λ dialog. fold happened dialog more) same
    ∙ all_on opening (life ++ one ∷ []) more (subst (λ dialog. AllFit dialog more) same fit.1)
    ∙ ap (dialog_after opening) (append_assoc life (one ∷ []) more)

retargets_fit : (uri : Option (List ℕ)) (held : HeldDialog) (dialog : Dialog)
    → AllFit dialog (retargets uri held)
retargets_fit None held dialog = tt
retargets_fit (Some uri) held dialog =
    by_bool (is_some (ended_fault held.dialog)) (λ e. rw e tt) (λ e. rw e (tt, tt))

refreshes_fit : (b : Bool) (uri : Option (List ℕ)) (held : HeldDialog) (dialog : Dialog)
    → AllFit dialog (cond b (retargets uri held) [])
refreshes_fit true uri held dialog = retargets_fit uri held dialog
refreshes_fit false uri held dialog = tt

pub cases_fit : (held : HeldDialog) → CasesFit held
cases_fit held = record {
  happenings_by_request = λ request.
      let number = request.cseq.number in
      let invite = is_invite request in
      let uri = contact_uri request in
      by_bool (takes held number)
      (λ e. rw e (
        unfaulted (accept_fault held.dialog number)
            (negated (is_some (accept_fault held.dialog number)) e),
        refreshes_fit invite uri held (with_accepted held.dialog number),
      ))
      (λ e. rw e (refreshes_fit invite uri held held.dialog));
  confirms = λ response.
      by_bool (is_some (ended_fault held.dialog)) (λ e. rw e tt)
      (λ e. rw e (unfaulted (ended_fault held.dialog) e, tt));
  retargets = λ uri. retargets_fit uri held held.dialog;
}
