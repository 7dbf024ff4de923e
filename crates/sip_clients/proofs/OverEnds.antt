-- The dialogs that end with the INVITEs that a tick removes, by the ids of these.
use Rattle.std.proofs.Common.{◌≡◌, ℕ, Bool, true, false, not, cond, ◌&&◌, ◌||◌, List, [], ◌∷◌, filter, map, refl, sym, ap}
use Rattle.std.specs.List.{list_any}
use Rattle.std.specs.Map.{values_of}
use Rattle.sip_message.specs.declared.id.Id.{Id}
use Rattle.sip_held_dialogs.specs.declared.held_dialog.HeldDialog.{HeldDialog}
use Rattle.sip_held_dialogs.specs.Dialogs.{Dialogs, is_early_of}
use Rattle.sip_clients.specs.declared.client.Client.{Client}
use Rattle.sip_clients.specs.Client.{Clients}
use Rattle.sip_clients.specs.Steps.Over.{is_early_of_any, over_ids}
use Rattle.sip_clients.specs.Tick.{dialogs_left, ends_early_at, is_over}

any_step : (over : Bool) (held : HeldDialog) (client : Client) (rest : List Client) (later : Bool)
    → list_any (λ invite. is_early_of invite held) (map (λ (client : Client). client.id) rest)
    ≡ later
    → list_any (λ invite. is_early_of invite held)
    (map (λ (client : Client). client.id) (cond over (client ∷ rest) rest))
    ≡ ((over && is_early_of client.id held) || later)
any_step true held client rest later same =
    ap (λ b. is_early_of client.id held || b) same
any_step false held client rest later same = same

any_same : (now : ℕ) (held : HeldDialog) (clients : List Client)
    → is_early_of_any (over_ids now clients) held
    ≡ list_any (λ client. is_over now client && is_early_of client.id held) clients
any_same now held [] = refl
any_same now held (client ∷ clients) =
    any_step (is_over now client) held client (filter (is_over now) clients)
    (list_any (λ client. is_over now client && is_early_of client.id held) clients)
    (any_same now held clients)

pub same_left : (now : ℕ) (clients : Clients) (dialogs : Dialogs)
    → filter (λ entry. not (is_early_of_any (over_ids now (values_of clients)) entry.1)) dialogs
    ≡ dialogs_left now dialogs clients
same_left now clients [] = refl
same_left now clients (entry ∷ dialogs) =
    λ i. cond (not (any_same now entry.1 (values_of clients) i))
    (entry ∷ same_left now clients dialogs i) (same_left now clients dialogs i)
