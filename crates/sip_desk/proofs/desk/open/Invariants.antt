-- The loop of `open`: the lines so far are open, each with its poster.
use Rattle.sip_desk.specs.Lines.{IsOpened}
use Rattle.sip_desk.proofs.desk.open.Given as goal

abbrev pub invariant-loop-line : goal.invariant-loop-line
invariant-loop-line g l = IsOpened l.desk l.posters.items l.line l.capacity
