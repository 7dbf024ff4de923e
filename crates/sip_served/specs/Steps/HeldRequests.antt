-- The held requests of one Call-ID, however they are held.
use Rattle.std.specs.Prelude.{List}
use Rattle.sip_served.specs.declared.held_request.HeldRequest.{HeldRequest}
use Rattle.sip_served.specs.declared.held_requests.Held.{Held}
use Rattle.sip_served.specs.declared.held_requests.Held.TheVariants.{Few, Many}

-- in the order in which they came up
abbrev pub all_of : Held → List HeldRequest
all_of (Few requests) = requests.items
all_of (Many indexed) = indexed
