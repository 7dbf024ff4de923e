-- The law `one_list_of_vias`: a text is a list of Via values exactly if it is read as that one.
use Rattle.sip_header_values.proofs.Rows.{vias_reads}
use Rattle.sip_header_values.proofs.laws.one_list_of_vias.Goals as goal

pub returns : goal.returns
returns c text x = let reads = vias_reads in (reads.takes text x, reads.again text x)
