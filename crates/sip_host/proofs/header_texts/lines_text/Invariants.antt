-- The loop of `lines_text`: the lines so far are written.
use Rattle.std.proofs.Common.{◌≡◌, take}
use Rattle.sip_host.specs.Handing as handing
use Rattle.sip_host.proofs.header_texts.lines_text.Given as goal

abbrev pub invariant-loop-line : goal.invariant-loop-line
invariant-loop-line l = l.text.items ≡ handing.lines_text (take l.line-index l.lines)
