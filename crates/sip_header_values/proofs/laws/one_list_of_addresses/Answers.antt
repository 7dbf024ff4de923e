-- The law `one_list_of_addresses`: a text is a list of addresses exactly if it is read as that one.
use Rattle.sip_header_values.proofs.Rows.{name_addrs_reads}
use Rattle.sip_header_values.proofs.laws.one_list_of_addresses.Goals as goal

pub returns : goal.returns
returns c text x = let reads = name_addrs_reads in (reads.takes text x, reads.again text x)
