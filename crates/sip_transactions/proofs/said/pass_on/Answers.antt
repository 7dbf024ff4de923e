-- `pass_on`: a message that is handed up goes up under its own id and Call-ID.
use Rattle.std.proofs.Common.{refl}
use Rattle.sip_transactions.specs.Steps.Output.{handed_out}
use Rattle.sip_transactions.proofs.said.pass_on.Goals as goal

pub returns-in_ok-up_out-in-Message : goal.returns-in_ok-up_out-in-Message
unfolding handed_out
returns-in_ok-up_out-in-Message c =
    rw (
      c.in-Message.is,
      c.in_ok-up_out-in-Message.ensures,
      c.in_ok-call_id-in-Message.ensures.cases,
      c.get.ensures,
      c.kind_of.ensures,
    ) refl
