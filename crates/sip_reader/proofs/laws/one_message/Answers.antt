-- The law `one_message`: a text spells at most one message.
use Rattle.std.proofs.Common.{sym, ◌∙◌}
use Rattle.sip_reader.proofs.Outcomes.{same_Ok}
use Rattle.sip_reader.proofs.Spelled.{spelled_again}
use Rattle.sip_reader.proofs.laws.one_message.Goals as goal

pub returns : goal.returns
returns c text m n p q = same_Ok m n (sym (spelled_again text m p) ∙ spelled_again text n q)
