-- The loop of `without_last_headers`: what is left has the same front.
use Rattle.std.proofs.Common.{◌≡◌, length, true}
use Rattle.sip_ua.specs.Repair.{without_last_headers}
use Rattle.sip_ua.proofs.repair.without_last_headers.Given as goal

abbrev pub invariant-loop-front : goal.invariant-loop-front
invariant-loop-front l = without_last_headers true l.rest ≡ without_last_headers true l.text

abbrev pub decreases-loop-front : goal.decreases-loop-front
decreases-loop-front l = length l.rest
