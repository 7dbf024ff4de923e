-- `next_lines` gives the lines of the first round, or a front of too many.
use Rattle.std.proofs.Common.{rules, ◌≡◌, ◌≤◌, ◌+◌, ◌-◌, ◌^◌, ◌∙◌, ap, sym, subst, inl, inr, length, length-append, length-drop, arith}
use Rattle.sip_files.specs.Rounds.{first_round}
use Rattle.sip_stream.proofs.Reading.{IsSearched, MayBeGiven, at_end, found_fits, found_length, given, is_long, is_next, not_none, searched_on}
use Rattle.sip_stream.proofs.round_reader.RoundReader.next_lines.Goals as goal
use Rattle.sip_stream.proofs.round_reader.RoundReader.next_lines.Goals.{then-len-via-then-len, then-len-via-else-len+then-not-has_more}

pub take-requires : goal.take-requires
take-requires g c =
    found_fits c.loop.searched c.loop.self.text.items c.deref.result.now
    c.first_round_of.result.now c.loop.invariant.3 c.deref.ensures.value c.first_round_of.ensures

pub returns-then-len-clause-given : goal.returns-then-len-clause-given
returns-then-len-clause-given g c =
    given _ _ c.loop.self.text.items _ _ (c.loop.searched + length c.first_round_of.result.now)
    c.loop.invariant.0 c.in_ok-take.ensures.taken c.in_ok-take.ensures.rest

pub returns-then-len-clause-next : goal.returns-then-len-clause-next
returns-then-len-clause-next g c =
    let text = c.loop.self.text.items in
    let len = c.loop.searched + length c.first_round_of.result.now in
    let is_len = found_length c.loop.searched text c.deref.result.now
    c.first_round_of.result.now c.loop.invariant.3 c.deref.ensures.value
    c.first_round_of.ensures in
    let may : MayBeGiven len text c.loop.has_more = elim c.then-len.branch [
      | then-len-via-then-len w ↦ inl (omega (arith, w.if-len.true, c.len.ensures))
      | then-len-via-else-len+then-not-has_more w ↦ inr w.if-not-has_more.true
    ] in
    is_next text _ _ len is_len c.in_ok-take.ensures.taken c.in_ok-take.ensures.rest _
    c.loop.has_more may c.loop.invariant.1

pub returns-then-len-clause-end : goal.returns-then-len-clause-end
returns-then-len-clause-end g c = λ none.
    let text = c.loop.self.text.items in
    let len = c.loop.searched + length c.first_round_of.result.now in
    let is_len = found_length c.loop.searched text c.deref.result.now
    c.first_round_of.result.now c.loop.invariant.3 c.deref.ensures.value
    c.first_round_of.ensures in
    let may : MayBeGiven len text c.loop.has_more = elim c.then-len.branch [
      | then-len-via-then-len w ↦ inl (omega (arith, w.if-len.true, c.len.ensures))
      | then-len-via-else-len+then-not-has_more w ↦ inr w.if-not-has_more.true
    ] in
    at_end text _ _ len is_len c.in_ok-take.ensures.taken c.in_ok-take.ensures.rest _
    c.loop.has_more may c.loop.invariant.1 none

pub returns-then-len-2-clause-given : goal.returns-then-len-2-clause-given
returns-then-len-2-clause-given g c =
    given _ _ c.loop.self.text.items _ _ (2 ^ 26 + 1) c.loop.invariant.0
    c.in_ok-take-2.ensures.taken c.in_ok-take-2.ensures.rest

pub returns-then-len-2-clause-next : goal.returns-then-len-2-clause-next
returns-then-len-2-clause-next g c =
    let text = c.loop.self.text.items in
    let len = c.loop.searched + length c.first_round_of.result.now in
    let is_len = found_length c.loop.searched text c.deref.result.now
    c.first_round_of.result.now c.loop.invariant.3 c.deref.ensures.value
    c.first_round_of.ensures in
    let all : length text ≤ len = omega (arith, c.if-len.false, c.len.ensures) in
    let fits : (2 ^ 26 + 1) + 6 ≤ length text =
    omega (arith, c.if-len-2.true, c.len-in-loop.ensures) in
    is_long text _ _ len (2 ^ 26 + 1) is_len all fits c.in_ok-take-2.ensures.taken
    c.in_ok-take-2.ensures.rest (omega arith) _

pub returns-then-len-2-clause-end : goal.returns-then-len-2-clause-end
returns-then-len-2-clause-end g c = λ none.
    let text = c.loop.self.text.items in
    let len = c.loop.searched + length c.first_round_of.result.now in
    let is_len = found_length c.loop.searched text c.deref.result.now
    c.first_round_of.result.now c.loop.invariant.3 c.deref.ensures.value
    c.first_round_of.ensures in
    let all : length text ≤ len = omega (arith, c.if-len.false, c.len.ensures) in
    let fits : (2 ^ 26 + 1) + 6 ≤ length text =
    omega (arith, c.if-len-2.true, c.len-in-loop.ensures) in
    absurd (not_none text _ _ len (2 ^ 26 + 1) is_len all fits c.in_ok-take-2.ensures.taken
    c.in_ok-take-2.ensures.rest (omega arith) none)

pub returns-then-len-2-clause-held : goal.returns-then-len-2-clause-held
returns-then-len-2-clause-held g c =
    omega (
      arith,
      ap length c.in_ok-take-2.ensures.rest,
      length-drop (2 ^ 26 + 1) c.loop.self.text.items,
      c.loop.invariant.4,
      c.loop.invariant.5,
    )

pub loop-preserved : goal.loop-preserved
loop-preserved g c =
    let text = c.loop.self.text.items in
    let is_len = found_length c.loop.searched text c.deref.result.now
    c.first_round_of.result.now c.loop.invariant.3 c.deref.ensures.value
    c.first_round_of.ensures in
    let all : length text ≤ length (first_round text) =
    omega (arith, c.if-len.false, c.len.ensures, is_len) in
    let read = c.in_ok-has_more.ensures.read in
    let behind : length text - 6 ≡ c.saturating_sub-searched.result =
    omega (arith, c.saturating_sub-searched.ensures, c.len.ensures) in (
      search rules,
      search rules,
      search rules,
      subst (λ n. IsSearched n c.read_more.new.self.text.items) behind
          (searched_on text read.0 _ all read.2),
      omega (arith, behind, c.if-len-2.false, c.len.ensures),
      omega (arith, behind, ap length read.2, length-append text read.0, read.1),
    )
