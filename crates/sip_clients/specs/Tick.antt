-- A tick: the INVITEs that are removed, and the end of their dialogs that are still early (RFC
-- 3261, section 13.2.2.4; RFC 6026, section 7.2).
use Rattle.std.specs.Prelude.{ℕ, Bool, false, not, ◌&&◌, nat_le, List, [], Option, None, filter, fold, if◌then◌else◌}
use Rattle.std.specs.List.{flat_map, list_any}
use Rattle.std.specs.Map.{values_of}
use Rattle.std.specs.Option.{option_map_or}
use Rattle.sip_timers.specs.Earlier.{earlier}
use Rattle.sip_held_dialogs.specs.declared.held_dialog.HeldDialog.{HeldDialog}
use Rattle.sip_user.specs.declared.item.CallOut.{CallOut}
use Rattle.sip_held_dialogs.specs.Dialogs.{early_ended, is_early_of, Dialogs}
use Rattle.sip_clients.specs.declared.client.Client.{Client}
use Rattle.sip_clients.specs.Client.{Clients, Side, ClientTaken}

-- an INVITE is removed 64*T1 after its first 2xx
abbrev pub is_over : ℕ → Client → Bool
is_over now client = option_map_or (λ moment. nat_le moment now) client.removal false

-- a dialog is still early when the INVITE that made it is removed
abbrev pub ends_early_at : ℕ → Clients → HeldDialog → Bool
ends_early_at now clients held =
    list_any (λ client. is_over now client && is_early_of client.id held) (values_of clients)

-- the dialogs that stay
abbrev pub dialogs_left : ℕ → Dialogs → Clients → Dialogs
dialogs_left now dialogs clients = filter (λ entry. not (ends_early_at now clients entry.1)) dialogs

-- the requests that stay
abbrev pub clients_left : ℕ → Clients → Clients
clients_left now clients = filter (λ entry. not (is_over now entry.1)) clients

-- the ends of the early dialogs of one INVITE are told
abbrev pub early_ends_told : ℕ → Dialogs → Client → List CallOut
early_ends_told now dialogs client =
    if is_over now client then (early_ended client.id dialogs).1 else []

-- all ends that are told, INVITE by INVITE
abbrev pub over_notices : ℕ → Dialogs → Clients → List CallOut
over_notices now dialogs clients = flat_map (early_ends_told now dialogs) (values_of clients)

-- INVITEs whose first 2xx came 64*T1 ago are removed with their early dialogs
abbrev pub clients_ticked : Side → ℕ → ClientTaken
clients_ticked side now = (
  record {
    dialogs = dialogs_left now side.dialogs side.clients;
    clients = clients_left now side.clients;
  },
  over_notices now side.dialogs side.clients,
)

-- the first moment at which an INVITE is removed
abbrev pub next_removal : Clients → Option ℕ
next_removal clients = fold (λ due client. earlier due client.removal) None (values_of clients)
