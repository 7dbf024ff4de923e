-- The held client requests, with the first moment at which one is removed.
use Rattle.std.specs.Prelude.{◌≡◌, Bool, false, Option, None, Some, is_some}
use Rattle.sip_clients.specs.declared.client.Client.{Client}
use Rattle.sip_clients.specs.declared.client_map.ClientMap.TheInside.{Inside}
use Rattle.sip_clients.specs.Tick.{next_removal}

abbrev pub IsDueAtFirst : Inside → Type 0
IsDueAtFirst clients = clients.due ≡ next_removal clients.all.entries

-- there is a request, and it is to be removed at a moment
abbrev pub has_removal : Option Client → Bool
has_removal None = false
has_removal (Some client) = is_some client.removal
