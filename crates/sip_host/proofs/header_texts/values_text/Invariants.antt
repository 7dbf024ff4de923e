-- The loop of `values_text`: the values so far are written.
use Rattle.std.proofs.Common.{◌≡◌, take}
use Rattle.sip_host.specs.Handing as handing
use Rattle.sip_host.proofs.header_texts.values_text.Given as goal

abbrev pub invariant-loop-value : goal.invariant-loop-value
invariant-loop-value l = l.text.items ≡ handing.values_text (take l.value-index l.values)
