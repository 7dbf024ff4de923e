-- The law `one_rack`: a text is a RAck exactly if it is read as that one.
use Rattle.sip_header_values.proofs.Rows.{rack_reads}
use Rattle.sip_header_values.proofs.laws.one_rack.Goals as goal

pub returns : goal.returns
returns c text x = let reads = rack_reads in (reads.takes text x, reads.again text x)
