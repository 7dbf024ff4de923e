-- The names that an event makes for its requests (RFC 3261, sections 8.1.1.7 and 19.3).
use Rattle.std.specs.Prelude.{ℕ, List, ◌++◌, codes}
use Rattle.sip_clients.specs.declared.event.Event.{Event}
use Rattle.sip_clients.specs.Name.{name_of}

-- the branch: the cookie and the made name of index 0
unfoldable pub branch_of : Event → List ℕ
branch_of event = codes "z9hG4bK" ++ name_of event.seed event.id 0
