-- The law `drained_line_settles`: an end isn't refused again because the same events are left.
use Rattle.sip_desk.proofs.Parts.{not_left_again}
use Rattle.sip_desk.proofs.laws.drained_line_settles.Goals as goal

pub returns : goal.returns
returns g c = not_left_again
