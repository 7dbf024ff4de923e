-- `place_in` gives the number of peers that stand before this one.
use Rattle.std.proofs.Common.{rules}
use Rattle.std.proofs.lemmas.List.{nil_from_length}
use Rattle.sip_ladder.proofs.Places.{place_none, place_first, place_later}
use Rattle.sip_ladder.proofs.columns.+place_in.Goals as goal

pub returns-in_default-clause-place : goal.returns-in_default-clause-place
returns-in_default-clause-place t c =
    place_none c.args.peers.now c.args.address (nil_from_length c.args.peers.now (search rules))

pub returns-then-is_same-clause-place : goal.returns-then-is_same-clause-place
returns-then-is_same-clause-place t c =
    place_first c.args.peers.now c.in-Some.others.now c.in-Some.peer.now c.args.address
    c.in-Some.ensures.cases.0 (search rules)

pub returns-else-is_same-clause-place : goal.returns-else-is_same-clause-place
returns-else-is_same-clause-place t c =
    place_later c.args.peers.now c.in-Some.others.now c.in-Some.peer.now c.args.address
    c.place_in.result c.in-Some.ensures.cases.0 (search rules) c.place_in.ensures.place
