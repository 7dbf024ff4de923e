-- How many of the held dialogs each INVITE made: steps that only the proofs of the code need.
use Rattle.std.specs.Prelude.{◌≡◌, ℕ, true, List, Option, None, Some, if◌then◌else◌}
use Rattle.std.specs.List.{sum_by}
use Rattle.std.specs.Map.{lookup, values_of}
use Rattle.std.specs.Option.{option_map_or}
use Rattle.std.specs.HashMap.{HashMap}
use Rattle.sip_message.specs.declared.id.Id.{Id}
use Rattle.seeded_hash.specs.declared.hash_seed.HashSeed.{HashSeed}
use Rattle.sip_held_dialogs.specs.declared.dialog_map.Made.{Made}
use Rattle.sip_held_dialogs.specs.declared.dialog_map.MadeBy.{MadeBy}
use Rattle.sip_held_dialogs.specs.declared.dialog_map.MadeBy.TheVariants.{Nothing, One, Several}
use Rattle.sip_held_dialogs.specs.declared.held_dialog.HeldDialog.{HeldDialog}
use Rattle.sip_held_dialogs.specs.Dialogs.{Dialogs, dialog_at}
use Rattle.sip_held_dialogs.specs.Ids.{is_id}

-- 1 if this INVITE made the dialog
abbrev pub one_by : Id → HeldDialog → ℕ
one_by invite held = if is_id held.invite invite then 1 else 0

-- how many dialogs an INVITE made
abbrev pub count_of : Id → Dialogs → ℕ
count_of invite dialogs = sum_by (one_by invite) (values_of dialogs)

-- how many are counted for it
abbrev pub count_at : Id → List (Id × Made) → ℕ
count_at invite invites =
    option_map_or (λ made. made.count) (lookup (is_id invite) invites) 0

abbrev pub Count : List (Id × Made) → Dialogs → Type 0
Count invites dialogs = (invite : Id) → count_at invite invites ≡ count_of invite dialogs

-- the counts are right, if there are any
abbrev pub AreCounted : Option (HashMap Id Made HashSeed) → Dialogs → Type 0
AreCounted None dialogs = Unit {0}
AreCounted (Some invites) dialogs = Count invites.entries dialogs

-- what is known of the dialogs that an INVITE made
abbrev pub IsMadeBy : Id → Dialogs → MadeBy → Type 0
IsMadeBy invite dialogs Nothing = count_of invite dialogs ≡ 0
IsMadeBy invite dialogs (One name) =
    (count_of invite dialogs ≡ 1)
    × ((held : HeldDialog) × (dialog_at name dialogs ≡ Some held)
    × (is_id held.invite invite ≡ true))
IsMadeBy invite dialogs Several = Unit {0}
