-- `own_via`: a list of one Via may stand as the Vias of a message.
use Rattle.std.proofs.Common.{◌≡◌, rules, ◌∷◌, []}
use Rattle.sip_dialog.specs.Request.{agent_via}
use Rattle.sip_dialog.proofs.Requests.{own_are_vias}
use Rattle.sip_dialog.proofs.own_headers.own_via.Goals as goal

pub from_series-requires : goal.from_series-requires
from_series-requires c =
    let e : c.from_vec.result ≡ agent_via c.args.local c.args.branch ∷ [] = search rules in
    rw e (own_are_vias c.args.local c.args.branch c.in_ok-parameters.ensures.rule)
