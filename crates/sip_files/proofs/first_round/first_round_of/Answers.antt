-- `first_round_of` ends at the first line feed before a line that begins a round, or at the end.
use Rattle.std.proofs.Common.{◌≡◌, ℕ, ◌+◌, ◌-◌, ◌≤◌, List, length, take, drop, sym, ◌∙◌, arith, length-drop}
use Rattle.std.proofs.lemmas.List.{take_all}
use Rattle.sip_files.proofs.FirstRound.{ends_at, ends_last, past_end, past_other}
use Rattle.sip_files.proofs.first_round.first_round_of.Goals as goal
use Rattle.sip_files.proofs.first_round.first_round_of.Goals.{else-byte-eq10-via-then-byte-eq10+else-begins_round, else-byte-eq10-via-else-byte-eq10}

-- the slice behind an index
behind : (text : List ℕ) (i : ℕ) → take (length text - i) (drop i text) ≡ drop i text
behind text i =
    let all : length (drop i text) ≤ length text - i = omega (arith, length-drop i text) in
    take_all (length text - i) (drop i text) all

pub returns-then-begins_round : goal.returns-then-begins_round
returns-then-begins_round c =
    ends_at c.args.text.now _ c.loop-index.index c.loop-index-test.true c.if-byte-eq10.true
    (behind c.args.text.now (c.loop-index.index + 1))
    (sym c.begins_round.ensures ∙ c.if-begins_round.true) c.loop-index.invariant

pub loop-index-preserved : goal.loop-index-preserved
loop-index-preserved c = elim c.else-byte-eq10.branch [
  | else-byte-eq10-via-then-byte-eq10+else-begins_round w ↦
      past_end c.args.text.now _ c.loop-index.index c.loop-index-test.true
      (behind c.args.text.now (c.loop-index.index + 1))
      (sym w.begins_round.ensures ∙ w.if-begins_round.false) c.loop-index.invariant
  | else-byte-eq10-via-else-byte-eq10 w ↦
      past_other c.args.text.now c.loop-index.index c.loop-index-test.true w.if-byte-eq10.false
      c.loop-index.invariant
]

pub returns : goal.returns
returns c =
    ends_last c.args.text.now c.loop-index.index c.loop-index-test.false c.loop-index.invariant
