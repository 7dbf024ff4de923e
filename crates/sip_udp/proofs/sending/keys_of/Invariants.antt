-- The loop of `keys_of`: the keys of the outputs so far.
use Rattle.std.proofs.Common.{◌≡◌, map, take}
use Rattle.sip_udp.specs.Prepared.{key_of}
use Rattle.sip_udp.proofs.sending.keys_of.Given as goal

abbrev pub invariant-loop-placed : goal.invariant-loop-placed
invariant-loop-placed l = l.keys.items ≡ map (λ placed. key_of placed.output)
    (take l.placed-index l.outputs)
