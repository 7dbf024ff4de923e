-- What an outlet is asked to send for the outputs of a round, and which failed sends are reported.
use Rattle.std.specs.Prelude.{◌≡◌, Bool, true, false, List, [], ◌∷◌, map, Option, Some, None}
use Rattle.std.specs.List.{flat_map}
use Rattle.sip_message.specs.declared.key.Key.{Key}
use Rattle.sip_round.specs.declared.output.Output.{Output}
use Rattle.sip_round.specs.declared.output.Output.TheVariants as output
use Rattle.sip_round.specs.declared.round.Event.{Event}
use Rattle.sip_round.specs.declared.round.Event.TheVariants as event
use Rattle.sip_udp.specs.Adds.{Adds}
use Rattle.sip_udp.specs.declared.outlet.Asked.{Asked}

-- if the outlet tells what it was asked, these requests come next, in order
abbrev pub Asks : Option (List Asked) → Option (List Asked) → List Asked → Type 0
Asks old new calls = Adds old new calls

-- ---- an output, and whether the outlet sent it

-- it is asked once for a Send, and for nothing else
abbrev pub calls_for : Output × Bool → List Asked
calls_for (output.Send key to bytes, is_sent) =
    record { to = to; bytes = bytes; is_sent = is_sent } ∷ []
calls_for (output.Dropped place reason, is_sent) = []
calls_for (output.Notice notice, is_sent) = []

abbrev pub failure_of : Option Key → Bool → List Event
failure_of (Some key) false = event.Failed key ∷ []
failure_of (Some key) true = []
failure_of None is_sent = []

-- a Send with a key that wasn't sent is a failure of its transaction
abbrev pub failures_of : Output × Bool → List Event
failures_of (output.Send key to bytes, is_sent) = failure_of key is_sent
failures_of (output.Dropped place reason, is_sent) = []
failures_of (output.Notice notice, is_sent) = []

-- the outlet answered for each of the outputs: it was asked for each Send, in order, and these are
-- the failures
pub record SendsAll (old new : Option (List Asked)) (outputs : List Output)
    (failed : List Event) : Type 0 where
  pub answered : List (Output × Bool)
  pub each : map (λ one. one.0) answered ≡ outputs
  pub asked : Asks old new (flat_map calls_for answered)
  pub told : failed ≡ flat_map failures_of answered
