-- The law `one_head`: a text has one head, one start line or none, and one list of values and of
-- header lines.
use Rattle.sip_reader.proofs.HeadValues.{one_list, one_list_of_lines}
use Rattle.sip_reader.proofs.Heads.{one_head, one_start}
use Rattle.sip_reader.proofs.laws.one_head.Goals as goal

pub returns-clause-lines : goal.returns-clause-lines
returns-clause-lines c = one_head

pub returns-clause-start : goal.returns-clause-start
returns-clause-start c = one_start

pub returns-clause-values : goal.returns-clause-values
returns-clause-values c = one_list

pub returns-clause-header_lines : goal.returns-clause-header_lines
returns-clause-header_lines c = one_list_of_lines
