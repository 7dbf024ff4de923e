-- The loop of `gathered`: the headers so far, with those left added, are all headers.
use Rattle.std.proofs.Common.{◌≡◌, []}
use Rattle.std.specs.Prelude.{fold}
use Rattle.std.specs.Vec.Iter.{into_iter_items}
use Rattle.sip_files.specs.Given.{gathered, with_one}
use Rattle.sip_files.proofs.given_headers.gathered.Given as goal

abbrev pub invariant-loop-header : goal.invariant-loop-header
invariant-loop-header l =
    fold with_one l.all (into_iter_items l.header-iterator)
    ≡ fold with_one (gathered []) l.fn.headers
