-- The law `quoted_strings`: the test passes exactly the quoted strings.
use Rattle.sip_text.proofs.QuotedStrings.{quoted_takes, quoted_again}
use Rattle.sip_text.proofs.laws.quoted_strings.Goals as goal

pub returns : goal.returns
returns c text = (quoted_takes text, quoted_again text)
