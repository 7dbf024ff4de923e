-- `params` gives the parameters of the text; it fails if they can't be read.
use Rattle.std.proofs.Common.{map, sym, ◌∙◌}
use Rattle.sip_text.specs.Pieces.{parameter_now}
use Rattle.sip_text.proofs.ParameterForms.{parameter_reads, parameters_reads}
use Rattle.sip_text.proofs.ReadForms.{not_read}
use Rattle.sip_text.proofs.parameters.params.Goals as goal

pub returns-in-Some-clause-parameters : goal.returns-in-Some-clause-parameters
returns-in-Some-clause-parameters c =
    record {
      closed = sym c.has_open_quote.ensures ∙ c.if-has_open_quote.false;
      parameters_are =
          let reads = parameters_reads parameter_reads in
          reads.takes c.args.text.now (map parameter_now c.in-Some.parameters.items)
          (sym (rw c.in-Some.is at c.in_ok-parameters.ensures));
    }

pub returns-in-None-clause-fault : goal.returns-in-None-clause-fault
returns-in-None-clause-fault c = (
  sym c.has_open_quote.ensures ∙ c.if-has_open_quote.false,
  λ ps are. not_read (parameters_reads parameter_reads) c.args.text.now
      (sym (rw c.in-None.is at c.in_ok-parameters.ensures)) ps are,
)
