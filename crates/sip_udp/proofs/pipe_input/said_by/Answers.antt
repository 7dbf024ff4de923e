-- `said_by` gives what a line says, without its end.
use Rattle.std.proofs.Common.{refl, subst}
use Rattle.sip_udp.specs.Piping.{Says}
use Rattle.sip_udp.proofs.pipe_input.said_by.Goals as goal

pub returns : goal.returns
returns c = (
  refl,
  subst (λ line. Says c.args.kind line c.in_ok-said.said) c.without_end-line.ensures
      c.in_ok-said.ensures,
)
