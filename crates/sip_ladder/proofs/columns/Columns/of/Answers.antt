-- `Columns::of` makes a column for each of the first peers of the lines.
use Rattle.std.proofs.Common.{◌/◌, ap, map, min, take, ◌∙◌, arith}
use Rattle.std.proofs.lemmas.List.{take_all}
use Rattle.sip_ladder.specs.Columns.{distinct}
use Rattle.sip_ladder.proofs.Arrows.{arrows, columns_are, with_arrow, without_arrow}
use Rattle.sip_ladder.proofs.columns.Columns.of.Goals as goal
use Rattle.sip_ladder.proofs.columns.Columns.of.Goals.{in-Some+in_ok-add_peer, in_default}

pub loop-line-preserved : goal.loop-line-preserved
loop-line-preserved c = elim c.match-peer.branch [
  | in-Some+in_ok-add_peer w ↦
      ap (λ v. v.items) w.peers-is
      ∙ with_arrow _ _ c.line-item.result w.in-Some.peer c.loop-line.peers.items _
      c.loop-line-test.true c.line-item.is w.in-Some.ensures c.loop-line.invariant
      w.in_ok-add_peer.ensures
  | in_default w ↦
      ap (λ v. v.items) w.peers-is
      ∙ without_arrow _ _ c.line-item.result c.loop-line.peers.items c.loop-line-test.true
      c.line-item.is w.in_default.ensures c.loop-line.invariant
]

pub returns : goal.returns
returns c =
    let lines = c.args.lines.now in
    let all = take_all c.loop-line.line-index lines c.loop-line-test.false in
    columns_are (map (λ line. line.way) lines) c.loop-line.peers.items c.from_vec.result
    c.len-count.result c.min.result
    (c.loop-line.invariant ∙ ap (λ ls. take 12 (distinct (arrows ls))) all)
    (c.from_vec.ensures ∙ c.truncate.ensures.items)
    (omega (arith, c.loop-line.peers.ok.0))
    (c.min.ensures ∙ ap (λ most. min (36 / most) 18) c.max.ensures)
