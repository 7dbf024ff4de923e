-- The requests of which outputs tell the user; the ends of dialogs tell of none.
use Rattle.std.proofs.Common.{◌≡◌, List, [], ◌∷◌, ◌++◌, map, refl, ◌∙◌}
use Rattle.std.specs.Prelude.{Option, None, Some, filter, filter_map}
use Rattle.std.specs.Map.{values_of}
use Rattle.std.specs.Option.{option_map_or}
use Rattle.std.proofs.lemmas.List.Elements.{filter_map-append}
use Rattle.sip_message.specs.declared.id.Id.{Id}
use Rattle.sip_held_dialogs.specs.declared.held_dialog.DialogId.{DialogId}
use Rattle.sip_held_dialogs.specs.declared.held_dialog.HeldDialog.{HeldDialog}
use Rattle.sip_user.specs.declared.item.CallOut.{CallOut}
use Rattle.sip_held_dialogs.specs.Dialogs.{Dialogs, dialog_at, early_ended, ended_at, ended_notice, is_early_of}
use Rattle.sip_user.specs.Notices.{request_told_by}

abbrev pub reported : List CallOut → List Id
reported outs = filter_map request_told_by outs

pub none_of_both : (xs ys : List CallOut) → reported xs ≡ [] → reported ys ≡ [] → reported (xs ++ ys) ≡ []
none_of_both xs ys first second =
    filter_map-append request_told_by xs ys ∙ (λ i. first i ++ second i)

pub ends_shown : (dialogs : List HeldDialog) → reported (map ended_notice dialogs) ≡ []
ends_shown [] = refl
ends_shown (held ∷ dialogs) = ends_shown dialogs

pub end_shown : (name : DialogId) (dialogs : Dialogs) → reported (ended_at name dialogs).1 ≡ []
end_shown name dialogs = by_dialog (dialog_at name dialogs)
  where
    by_dialog : (found : Option HeldDialog)
        → reported (option_map_or (λ held. ended_notice held ∷ []) found []) ≡ []
    by_dialog None = refl
    by_dialog (Some held) = refl

pub early_shown : (invite : Id) (dialogs : Dialogs) → reported (early_ended invite dialogs).1 ≡ []
early_shown invite dialogs = ends_shown (filter (is_early_of invite) (values_of dialogs))
