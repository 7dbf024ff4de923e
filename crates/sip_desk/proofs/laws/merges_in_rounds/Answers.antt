-- The law `merges_in_rounds`: how collected events are cut into rounds and joined.
use Rattle.std.proofs.Common.{[], refl, sym, ◌∙◌, append-nil}
use Rattle.sip_desk.specs.Lines.{taken}
use Rattle.sip_desk.proofs.Parts.{holds_parts, collects_then, holds_taken}
use Rattle.sip_desk.proofs.laws.merges_in_rounds.Goals as goal

pub returns-clause-cut : goal.returns-clause-cut
returns-clause-cut g c = holds_parts

pub returns-clause-in_turn : goal.returns-clause-in_turn
returns-clause-in_turn g c = collects_then

pub returns-clause-between : goal.returns-clause-between
returns-clause-between g c = λ old new none. (
  λ line. [],
  ([], refl, λ line. refl),
  λ line. ((none line).0 ∙ sym (append-nil (taken old line)), (none line).1),
)

pub returns-clause-from_the_opening : goal.returns-clause-from_the_opening
returns-clause-from_the_opening g c = holds_taken
