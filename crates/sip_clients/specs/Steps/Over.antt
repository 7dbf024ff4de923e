-- The INVITEs that a tick removes, by their ids.
use Rattle.std.specs.Prelude.{ℕ, Bool, List, filter, map}
use Rattle.std.specs.List.{list_any}
use Rattle.sip_message.specs.declared.id.Id.{Id}
use Rattle.sip_held_dialogs.specs.declared.held_dialog.HeldDialog.{HeldDialog}
use Rattle.sip_held_dialogs.specs.Dialogs.{is_early_of}
use Rattle.sip_clients.specs.declared.client.Client.{Client}
use Rattle.sip_clients.specs.Tick.{is_over}

-- the ids of those that are over
abbrev pub over_ids : ℕ → List Client → List Id
over_ids now clients = map (λ (client : Client). client.id) (filter (is_over now) clients)

-- one of these INVITEs made the dialog, which is early
abbrev pub is_early_of_any : List Id → HeldDialog → Bool
is_early_of_any invites held = list_any (λ invite. is_early_of invite held) invites
