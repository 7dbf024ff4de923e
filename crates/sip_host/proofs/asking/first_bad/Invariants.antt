-- The loop of `first_bad`: the fields so far keep their rules.
use Rattle.std.proofs.Common.{◌≡◌, drop}
use Rattle.sip_host.specs.Asking as asking
use Rattle.sip_host.proofs.asking.first_bad.Given as goal

abbrev pub invariant-loop-field : goal.invariant-loop-field
invariant-loop-field l =
    asking.first_bad (drop l.field-index l.rules) ≡ asking.first_bad l.rules
