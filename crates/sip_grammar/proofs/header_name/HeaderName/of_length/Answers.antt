-- `HeaderName::of_length`: a name of this length is found among these headers if it is found at
-- all.
use Rattle.std.proofs.Common.{◌∙◌, sym, ap, arith}
use Rattle.std.specs.Prelude.{find}
use Rattle.sip_grammar.specs.HeaderEntry.{is_named}
use Rattle.sip_grammar.proofs.HeaderNames.{no_other_length, of_its_length}
use Rattle.sip_grammar.proofs.header_name.HeaderName.of_length.Goals as goal

pub returns-in-1 : goal.returns-in-1
returns-in-1 c name long = of_its_length 1 name (long ∙ c.in-1.is)

pub returns-in-2 : goal.returns-in-2
returns-in-2 c name long = of_its_length 2 name (long ∙ c.in-2.is)

pub returns-in-3 : goal.returns-in-3
returns-in-3 c name long = of_its_length 3 name (long ∙ c.in-3.is)

pub returns-in-4 : goal.returns-in-4
returns-in-4 c name long = of_its_length 4 name (long ∙ c.in-4.is)

pub returns-in-5 : goal.returns-in-5
returns-in-5 c name long = of_its_length 5 name (long ∙ c.in-5.is)

pub returns-in-7 : goal.returns-in-7
returns-in-7 c name long = of_its_length 7 name (long ∙ c.in-7.is)

pub returns-in-9 : goal.returns-in-9
returns-in-9 c name long = of_its_length 9 name (long ∙ c.in-9.is)

pub returns-in-12 : goal.returns-in-12
returns-in-12 c name long = of_its_length 12 name (long ∙ c.in-12.is)

pub returns-in-14 : goal.returns-in-14
returns-in-14 c name long = of_its_length 14 name (long ∙ c.in-14.is)

pub returns-in_default : goal.returns-in_default
returns-in_default c name long =
    let other = c.in_default in
    let none = no_other_length c.args.bytes (λ e. omega (arith, other)) (λ e. omega (arith, other))
    (λ e. omega (arith, other)) (λ e. omega (arith, other)) (λ e. omega (arith, other))
    (λ e. omega (arith, other)) (λ e. omega (arith, other)) (λ e. omega (arith, other))
    (λ e. omega (arith, other)) in
    sym (ap (find (λ header. is_named header name)) none) ∙ of_its_length c.args.bytes name long
