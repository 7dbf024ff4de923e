-- `header_lines` gives the header lines of the text, none if it has no line.
use Rattle.std.proofs.Common.{◌≡◌, ℕ, List, drop, Result, Ok, Err, IfOk, sym, ap, ◌∙◌}
use Rattle.sip_reader.specs.Head.{HasHeaderLines}
use Rattle.sip_reader.specs.Steps.ReadHead.{head_at, header_lines_at, lines_found}
use Rattle.sip_reader.specs.declared.untyped_line.HeaderLine.{HeaderLine}
use Rattle.sip_reader.proofs.HeadValues.{has_header_lines}
use Rattle.sip_reader.proofs.head.header_lines.Goals as goal

pub returns-in_default : goal.returns-in_default
returns-in_default c =
    has_header_lines c.args.text.now c.new.result
    (c.new.ensures ∙ ap (λ (lines : List (List ℕ)). header_lines_at (drop 1 lines))
    (sym (ap lines_found c.in_default.is) ∙ c.in_ok-lines.ensures))

all_found : {E : Type 0} (text : List ℕ) (found : List HeaderLine)
    (r : Result (List HeaderLine) E) → IfOk r (λ headers. headers ≡ found)
    → found ≡ header_lines_at (drop 1 (head_at text))
    → IfOk r (λ headers. HasHeaderLines headers text)
all_found text found (Ok headers) is e = has_header_lines text headers (is ∙ e)
all_found text found (Err refused) is e = tt

pub returns : goal.returns
returns c =
    all_found c.args.text.now _ c.header_lines_in.result c.header_lines_in.ensures
    (ap (λ (lines : List (List ℕ)). header_lines_at (drop 1 lines))
    (sym (ap lines_found c.in-Some.is) ∙ c.in_ok-lines.ensures))
