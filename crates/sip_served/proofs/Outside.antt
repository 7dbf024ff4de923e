-- A request that comes up outside of any dialog: what happens, case by case.
use Rattle.std.proofs.Common.{◌≡◌, ℕ, not, ◌&&◌, ◌||◌, Bool, true, false, List, [], ◌∷◌, ◌++◌, refl, ap, ◌∙◌}
use Rattle.std.specs.Prelude.{codes, None, if◌then◌else◌}
use Rattle.std.specs.List.{list_any}
use Rattle.sip_held_dialogs.specs.Dialogs.{dialog_at}
use Rattle.sip_held_dialogs.specs.Requests.{dialog_id_of, has_to_tag, is_bye, is_prack, is_unknown_option}
use Rattle.sip_user.specs.declared.item.CallOut.TheVariants.{Notice}
use Rattle.sip_served.specs.Arrival.{answered_with, by_case, case_inside, held_first, is_merged, no_such_dialog, refused_extension, request_notice, request_taken}
use Rattle.sip_served.specs.declared.arrival.Arrival.{Arrival}
use Rattle.sip_served.specs.declared.arrival.ArrivalCase.{ArrivalCase}
use Rattle.sip_served.specs.declared.arrival.ArrivalCase.TheVariants.{Merged, BadExtension, NoDialog, ForUser}
use Rattle.sip_served.specs.State.{State, ServedTaken}

-- which case it is, by these tests
abbrev case_by : Bool → Bool → Bool → ArrivalCase
case_by merged unknown lone =
    if merged then Merged else if unknown then BadExtension else if lone then NoDialog else ForUser

module _ (state : State) (call_id : List ℕ) (arrival : Arrival)
    (out : has_to_tag arrival.request ≡ false) where
  abbrev Taken : ServedTaken → Type 0
  Taken taken = request_taken state call_id arrival ≡ taken

  abbrev merged : Bool
  merged = list_any (is_merged arrival.request) state.requests

  abbrev unknown : Bool
  unknown = list_any is_unknown_option arrival.request.require

  abbrev lone : Bool
  lone = is_bye arrival.request || is_prack arrival.request

  by_its_case : Taken (by_case (case_by merged unknown lone) state call_id
      (dialog_id_of arrival.request arrival.tag) arrival)
  by_its_case =
      let name = dialog_id_of arrival.request arrival.tag in
      ap (λ (tagged : Bool). by_case
      (if not tagged && merged then Merged
      else if unknown then BadExtension
      else if tagged then case_inside state.requests name arrival.request
      (dialog_at name state.dialogs)
      else if lone then NoDialog else ForUser)
      state call_id name arrival) out

  abbrev by_tests : Bool → Bool → Bool → ServedTaken
  by_tests x y z =
      by_case (case_by x y z) state call_id (dialog_id_of arrival.request arrival.tag) arrival

  pub merged_taken : merged ≡ true
      → Taken (state, answered_with arrival 482 (codes "Loop Detected"))
  merged_taken m = by_its_case ∙ ap (λ x. by_tests x unknown lone) m

  pub unknown_taken : merged ≡ false → unknown ≡ true → Taken (state, refused_extension arrival)
  unknown_taken m u =
      by_its_case ∙ ap (λ x. by_tests x unknown lone) m ∙ ap (λ y. by_tests false y lone) u

  pub lone_taken : merged ≡ false → unknown ≡ false → lone ≡ true
      → Taken (state, no_such_dialog arrival)
  lone_taken m u l =
      by_its_case ∙ ap (λ x. by_tests x unknown lone) m ∙ ap (λ y. by_tests false y lone) u
      ∙ ap (λ z. by_tests false false z) l

  held_taken : by_tests false false false
      ≡ (
        record state { requests = state.requests ++ held_first None arrival ∷ [] },
        Notice (request_notice call_id arrival) ∷ [],
      )
  held_taken = rw out refl

  pub user_taken : merged ≡ false → unknown ≡ false → lone ≡ false
      → Taken (
        record state { requests = state.requests ++ held_first None arrival ∷ [] },
        Notice (request_notice call_id arrival) ∷ [],
      )
  user_taken m u l =
      by_its_case ∙ ap (λ x. by_tests x unknown lone) m ∙ ap (λ y. by_tests false y lone) u
      ∙ ap (λ z. by_tests false false z) l ∙ held_taken
