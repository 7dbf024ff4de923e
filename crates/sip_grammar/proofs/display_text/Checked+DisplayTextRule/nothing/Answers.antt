-- `DisplayText::nothing`: the empty text is a display text.
use Rattle.std.proofs.Common.{rules}
use Rattle.sip_text.specs.Quoted.{is_quoted}
use Rattle.sip_grammar.specs.DisplayText.{is_display_text}
use Rattle.sip_grammar.proofs.display_text.Checked+DisplayTextRule.nothing.Goals as goal

pub from_text-requires : goal.from_text-requires
unfolding is_display_text is_quoted
from_text-requires c = search rules
