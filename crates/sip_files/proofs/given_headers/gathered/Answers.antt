-- `gathered` gives all values of each header, in the order of the lines.
use Rattle.std.proofs.Common.{sym, ap, ◌∙◌}
use Rattle.std.specs.Prelude.{fold}
use Rattle.std.proofs.lemmas.List.{nil_from_length}
use Rattle.std.specs.Vec.Iter.{into_iter_items}
use Rattle.sip_files.specs.Given.{with_one}
use Rattle.sip_files.proofs.GatheredHeaders.{all_gathered}
use Rattle.sip_files.proofs.given_headers.gathered.Goals as goal

pub returns : goal.returns
returns c =
    let left = c.loop-header.header-iterator in
    let none = nil_from_length (into_iter_items left)
    (sym left.rest.ok.0 ∙ c.in-None.ensures.steps.0) in
    sym (ap (fold with_one c.loop-header.all) none) ∙ c.loop-header.invariant
    ∙ all_gathered c.args.headers
