-- The law `one_party`: a text is a From or a To exactly if it is read as that one.
use Rattle.sip_header_values.proofs.Rows.{party_reads}
use Rattle.sip_header_values.proofs.laws.one_party.Goals as goal

pub returns : goal.returns
returns c text x = let reads = party_reads in (reads.takes text x, reads.again text x)
