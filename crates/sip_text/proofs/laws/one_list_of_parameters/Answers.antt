-- The law `one_list_of_parameters`: a text is at most one list of parameters.
use Rattle.sip_text.proofs.ParameterForms.{parameter_reads, parameters_reads}
use Rattle.sip_text.proofs.ReadForms.{only_one}
use Rattle.sip_text.proofs.laws.one_list_of_parameters.Goals as goal

pub returns : goal.returns
returns c text ps qs one two = only_one (parameters_reads parameter_reads) text ps qs one two
