-- The law `what_is_gathered`: a draft has the values of each header.
use Rattle.sip_headers.proofs.Drafts.{is_draft}
use Rattle.sip_headers.proofs.laws.what_is_gathered.Goals as goal

pub returns : goal.returns
returns c lines = is_draft lines
