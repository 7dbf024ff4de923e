-- The server side of a call after the dialogs that it lent for writing were given back.
use Rattle.std.specs.Borrow.{Fml, Lends, MutBor}
use Rattle.sip_held_dialogs.specs.contracts.dialog_map.Dialogs as dialogs_of
use Rattle.sip_served.specs.contracts.served.Served as served
use Rattle.sip_served.specs.contracts.server_side.ServerSide as server_side
use Rattle.sip_served.specs.Served.{ServedState}
use Rattle.sip_served.specs.State.{State}

-- the side holds the dialogs that the reference had at its end; all else is unchanged
abbrev pub SideLends : MutBor State → MutBor dialogs_of.the_row.Denot → Fml
SideLends s r =
    Lends server_side.the_row dialogs_of.the_row s r
    (λ dialogs. record s.now { dialogs = dialogs.entries })

abbrev pub ServedLends : MutBor ServedState → MutBor dialogs_of.the_row.Denot → Fml
ServedLends s r =
    Lends served.the_row dialogs_of.the_row s r
    (λ dialogs. record s.now { state = record s.now.state { dialogs = dialogs.entries } })
