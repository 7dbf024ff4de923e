-- The law `one_list_of_tokens`: a text is a list of tokens exactly if it is read as that one.
use Rattle.sip_header_values.proofs.Rows.{tokens_reads}
use Rattle.sip_header_values.proofs.laws.one_list_of_tokens.Goals as goal

pub returns : goal.returns
returns c text x = let reads = tokens_reads in (reads.takes text x, reads.again text x)
