-- `header_values` gives the values of the header in the text, none if it has no line.
use Rattle.std.proofs.Common.{◌≡◌, ℕ, List, drop, Result, Ok, Err, IfOk, sym, ap, ◌∙◌}
use Rattle.sip_reader.specs.Head.{HasValues}
use Rattle.sip_reader.specs.Steps.ReadHead.{head_at, lines_found, values_at}
use Rattle.sip_reader.proofs.HeadValues.{has_values}
use Rattle.sip_reader.proofs.head.header_values.Goals as goal

pub returns-in_default : goal.returns-in_default
returns-in_default c =
    has_values c.args.name.now c.args.text.now c.new.result
    (c.new.ensures ∙ ap (λ (lines : List (List ℕ)). values_at c.args.name.now (drop 1 lines))
    (sym (ap lines_found c.in_default.is) ∙ c.in_ok-lines.ensures))

all_found : {E : Type 0} (name text : List ℕ) (found : List (List ℕ))
    (r : Result (List (List ℕ)) E) → IfOk r (λ values. values ≡ found)
    → found ≡ values_at name (drop 1 (head_at text))
    → IfOk r (λ values. HasValues name values text)
all_found name text found (Ok values) is e = has_values name text values (is ∙ e)
all_found name text found (Err refused) is e = tt

pub returns : goal.returns
returns c =
    all_found c.args.name.now c.args.text.now _ c.values_in.result c.values_in.ensures
    (ap (λ (lines : List (List ℕ)). values_at c.args.name.now (drop 1 lines))
    (sym (ap lines_found c.in-Some.is) ∙ c.in_ok-lines.ensures))
