-- The law `one_number`: a text is a word for a number exactly if it is read as that one.
use Rattle.sip_header_values.proofs.Rows.{numeral_reads}
use Rattle.sip_header_values.proofs.laws.one_number.Goals as goal

pub returns : goal.returns
returns c text x = (numeral_reads.takes text x, numeral_reads.again text x)
