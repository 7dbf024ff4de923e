-- `Event::branch_token`: the made text is a token.
use Rattle.std.proofs.Common.{◌≡◌, rules}
use Rattle.sip_clients.specs.Event.{branch_of}
use Rattle.sip_clients.proofs.Hex.{branch_is_token}
use Rattle.sip_clients.proofs.event.Event.branch_token.Goals as goal

pub from_text-requires : goal.from_text-requires
unfolding branch_of
from_text-requires c =
    let e : c.from_vec.result ≡ branch_of c.args.self.now = search rules in
    rw e (branch_is_token c.args.self.now.seed c.args.self.now.id 0)
