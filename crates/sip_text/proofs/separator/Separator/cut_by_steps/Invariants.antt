-- The loop of `Separator::cut_by_steps`: no separator counted so far, and where the reader stands.
use Rattle.std.proofs.Common.{◌≡◌, Some, take}
use Rattle.sip_text.specs.Separator.{place_after}
use Rattle.sip_text.specs.declared.separator.Place.TheVariants.{Plain}
use Rattle.sip_text.proofs.separator.Separator.cut_by_steps.Given as goal

abbrev pub invariant-loop-index : goal.invariant-loop-index
invariant-loop-index l = place_after l.self Plain (take l.index l.text) ≡ Some l.place
