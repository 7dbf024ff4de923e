-- `PartyDisplay::nothing`: the empty text is the display text of a From or a To.
use Rattle.std.proofs.Common.{rules}
use Rattle.sip_text.specs.Quoted.{is_quoted}
use Rattle.sip_grammar.specs.PartyDisplay.{is_party_display}
use Rattle.sip_grammar.proofs.party_display.Checked+PartyDisplayRule.nothing.Goals as goal

pub from_text-requires : goal.from_text-requires
unfolding is_party_display is_quoted
from_text-requires c = search rules
