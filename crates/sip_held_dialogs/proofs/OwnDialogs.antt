-- The dialogs of a Call-ID still belong to it after any change, and so do the notices of their
-- ends.
use Rattle.std.proofs.Common.{◌≡◌, ℕ, List, [], ◌∷◌, not, refl, ◌∙◌}
use Rattle.std.specs.Prelude.{Option, None, Some, IfSome, filter, fold}
use Rattle.std.specs.Map.{values_of}
use Rattle.std.specs.Option.{option_map_or}
use Rattle.sip_message.specs.declared.id.Id.{Id}
use Rattle.sip_message.specs.declared.message.Message.{Message}
use Rattle.sip_dialog.specs.declared.dialog.Dialog.{Dialog}
use Rattle.sip_dialog.specs.declared.dialog.Side.{Side}
use Rattle.sip_dialog.specs.declared.dialog.Side.TheVariants.{Caller, Callee}
use Rattle.sip_dialog.specs.Life.{Happening, Requests, Acknowledges, Accepts, Refreshes, Confirms, Ends}
use Rattle.sip_dialog.specs.Step.{confirmed_at}
use Rattle.sip_held_dialogs.specs.declared.held_dialog.DialogId.{DialogId}
use Rattle.sip_held_dialogs.specs.declared.held_dialog.HeldDialog.{HeldDialog}
use Rattle.sip_user.specs.declared.item.CallOut.{CallOut}
use Rattle.sip_held_dialogs.specs.Dialogs.{Dialogs, dialog_at, dialog_changed, early_ended, ended_at, ended_notice, happened, is_early_of, is_dialog_id}
use Rattle.sip_user.specs.OwnCall.{AreNoticesOf, IsNoticeOf}
use Rattle.sip_held_dialogs.specs.OwnDialogs.{AreDialogsOf, IsDialogOf}
use Rattle.sip_held_dialogs.proofs.Each as each

-- ---- one dialog

confirmed_so : (side : Side) (dialog : Dialog) (response : Message)
    → (confirmed_at side dialog response).call_id ≡ dialog.call_id
confirmed_so Callee dialog response = refl
confirmed_so Caller dialog response = refl

happened_so : (dialog : Dialog) (one : Happening) → (happened dialog one).call_id ≡ dialog.call_id
happened_so dialog (Requests method) = refl
happened_so dialog (Acknowledges number) = refl
happened_so dialog (Accepts number) = refl
happened_so dialog (Refreshes uri) = refl
happened_so dialog (Confirms response) = confirmed_so dialog.side dialog response
happened_so dialog Ends = refl

pub lived_keeps : (dialog : Dialog) (life : List Happening)
    → (fold happened dialog life).call_id ≡ dialog.call_id
lived_keeps dialog [] = refl
lived_keeps dialog (one ∷ life) =
    lived_keeps (happened dialog one) life ∙ happened_so dialog one

-- ---- all dialogs

module _ (call_id : List ℕ) where
  -- the dialog of a name, changed so that it keeps its Call-ID
  pub changed_dialog : (name : DialogId) (change : HeldDialog → HeldDialog)
      → ((held : HeldDialog) → (change held).dialog.call_id ≡ held.dialog.call_id)
      → (dialogs : Dialogs) → AreDialogsOf call_id dialogs
      → AreDialogsOf call_id (dialog_changed name change dialogs)
  changed_dialog name change same dialogs all =
      each.each_changed (IsDialogOf call_id) (is_dialog_id name) change
      (λ held is. same held ∙ is) dialogs all

  pub dialog_own : (name : DialogId) (dialogs : Dialogs) → AreDialogsOf call_id dialogs
      → IfSome (dialog_at name dialogs) (IsDialogOf call_id)
  dialog_own name dialogs all = each.found_one (IsDialogOf call_id) (is_dialog_id name) dialogs all

  -- the dialogs, and what is told
  abbrev pub AreEndedOf : Dialogs × List CallOut → Type 0
  AreEndedOf done = AreDialogsOf call_id done.0 × AreNoticesOf call_id done.1

  notice_own : (found : Option HeldDialog) → IfSome found (IsDialogOf call_id)
      → AreNoticesOf call_id (option_map_or (λ held. ended_notice held ∷ []) found [])
  notice_own None own = tt
  notice_own (Some held) own = (own, tt)

  -- the dialog of a name ends
  pub ended_own : (name : DialogId) (dialogs : Dialogs) → AreDialogsOf call_id dialogs
      → AreEndedOf (ended_at name dialogs)
  ended_own name dialogs all = (
    each.each_but_one (IsDialogOf call_id) (is_dialog_id name) dialogs all,
    notice_own (dialog_at name dialogs) (dialog_own name dialogs all),
  )

  -- the early dialogs of an INVITE end
  pub early_own : (invite : Id) (dialogs : Dialogs) → AreDialogsOf call_id dialogs
      → AreEndedOf (early_ended invite dialogs)
  early_own invite dialogs all = (
    each.each_left (IsDialogOf call_id) (λ entry. not (is_early_of invite entry.1)) dialogs all,
    each.mapped (IsDialogOf call_id) (IsNoticeOf call_id) ended_notice (λ held is. is)
        (filter (is_early_of invite) (values_of dialogs))
        (each.filtered (IsDialogOf call_id) (is_early_of invite) (values_of dialogs)
        (each.each_of_values (IsDialogOf call_id) dialogs all)),
  )
