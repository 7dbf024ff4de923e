-- The law `one_cseq`: a text is a CSeq exactly if it is read as that one.
use Rattle.sip_header_values.proofs.Rows.{cseq_reads}
use Rattle.sip_header_values.proofs.laws.one_cseq.Goals as goal

pub returns : goal.returns
returns c text x = let reads = cseq_reads in (reads.takes text x, reads.again text x)
