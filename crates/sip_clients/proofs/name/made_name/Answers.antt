-- `made_name`: the made text is a token.
use Rattle.sip_clients.proofs.Hex.{name_is_token}
use Rattle.sip_clients.proofs.name.made_name.Goals as goal

pub from_text-requires : goal.from_text-requires
from_text-requires c =
    rw c.in_ok-digits_of.ensures (name_is_token c.args.seed c.args.id c.args.index)
