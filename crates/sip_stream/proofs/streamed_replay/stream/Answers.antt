-- `stream`: at each step what was read, run and written belongs together.
use Rattle.std.proofs.Common.{rules, arith, ◌≡◌, ◌^◌, ◌≤◌, ◌∙◌, [], length, refl, sym, subst, inr}
use Rattle.std.proofs.lemmas.Bool.{eqb-true}
use Rattle.std.proofs.lemmas.List.{nil_from_length}
use Rattle.sip_files.specs.EventFile.{SpellsFile}
use Rattle.sip_files.proofs.Streams.{counts_none}
use Rattle.sip_stream.specs.Steps.{TellsHead, TellsRound}
use Rattle.sip_stream.specs.declared.stream_fault.StreamFault.TheVariants as fault
use Rattle.sip_stream.proofs.Going.{all_written, begun, begun_stops, first_stops, fits_as, from_start, head_stops, one_more, read_as, round_stops, same_text, some_lines, stands_for_file, step_stops, unread, write_failed}
use Rattle.sip_stream.proofs.streamed_replay.stream.Goals as goal

pub returns-in_err-lines-clause-ends : goal.returns-in_err-lines-clause-ends
returns-in_err-lines-clause-ends g c =
    first_stops c.args.kind _ _ _ _ _ _ c.from_residual.result c.in_err-lines.field-0.0
    (search rules) c.in_err-lines.ensures.fault c.in_err-lines.ensures.input

pub returns-in_err-config-clause-ends : goal.returns-in_err-config-clause-ends
returns-in_err-config-clause-ends g c =
    let given = c.in_err-config.field-0.0 in
    head_stops c.args.kind _ _ _ _ _ _ _ c.from_residual-in_err-config.result given
    c.in_ok-lines.lines.items (search rules)
    (from_start _ _ _ _ c.new-input.ensures c.in_ok-lines.ensures.given) c.in_ok-lines.ensures.next
    (subst (λ t. TellsHead c.args.kind t given) c.deref.ensures.value c.in_err-config.ensures.fault)
    c.in_ok-lines.ensures.input

pub returns-in_err-head-clause-ends : goal.returns-in_err-head-clause-ends
returns-in_err-head-clause-ends g c =
    first_stops c.args.kind _ _ _ _ _ _ c.from_residual-in_err-head.result fault.NoMemory
    (search rules) (inr refl) c.in_ok-lines.ensures.input

pub returns-in_err-streaming-clause-ends : goal.returns-in_err-streaming-clause-ends
returns-in_err-streaming-clause-ends g c =
    first_stops c.args.kind _ _ _ _ _ _ c.from_residual-in_err-streaming.result fault.NoMemory
    (search rules) (inr refl) c.in_ok-lines.ensures.input

pub returns-in_default-clause-ends : goal.returns-in_default-clause-ends
returns-in_default-clause-ends g c =
    let kept = c.in_default.ensures.front in
    begun_stops g.C.Cut.shard_of c.args.kind c.in_ok-config.config c.in_ok-lines.lines.items _
    kept.0 kept.1 _ _ _ _ _ _ _ _ _ _ refl
    (subst (λ t. SpellsFile c.args.kind c.in_ok-config.config [] t) c.deref.ensures.value
    c.in_ok-config.ensures.found)
    (from_start _ _ _ _ c.new-input.ensures c.in_ok-lines.ensures.given) c.in_ok-lines.ensures.next
    (subst (λ t. length t ≤ 2 ^ 26) c.deref.ensures.value c.in_ok-config.ensures.size)
    (search rules) kept.2 kept.3 c.in_ok-lines.ensures.input
    (write_failed _ _ _ c.in_default.ensures.fault c.in_default.ensures.output)

pub loop-init : goal.loop-init
loop-init g c = (
  begun g.C.Cut.shard_of c.args.kind c.in_ok-streaming.streaming.agent
      c.in_ok-streaming.streaming.first c.in_ok-config.config c.in_ok-head.head.items
      c.in_ok-lines.lines.items _ _ _ _ _ _ _ _ _ _
      (subst (λ t. SpellsFile c.args.kind c.in_ok-config.config [] t) c.deref.ensures.value
      c.in_ok-config.ensures.found)
      (λ version after begins.
      c.in_ok-head.ensures version after (c.deref-2.ensures.value ∙ begins))
      (from_start _ _ _ _ c.new-input.ensures c.in_ok-lines.ensures.given)
      c.in_ok-lines.ensures.next
      (subst (λ t. length t ≤ 2 ^ 26) c.deref.ensures.value c.in_ok-config.ensures.size)
      c.in_ok-streaming.ensures.stands c.in_ok-streaming.ensures.first (search rules)
      c.in-Ok.ensures.all c.in_ok-lines.ensures.input c.in-Ok.ensures.output
      c.in-Ok.ensures.flushed,
  c.in_ok-streaming.ensures.count,
)

pub returns-in_err-lines-2-clause-ends : goal.returns-in_err-lines-2-clause-ends
returns-in_err-lines-2-clause-ends g c =
    unread g.C.Cut.shard_of c.args.kind c.loop.invariant.0 _ c.from_residual-in_err-lines-2.result
    c.in_err-lines-2.field-0.0 (search rules) c.in_err-lines-2.ensures.fault
    c.in_err-lines-2.ensures.input

pub returns-then-is_empty-clause-ends : goal.returns-then-is_empty-clause-ends
returns-then-is_empty-clause-ends g c =
    let lines = c.in_ok-lines-2.lines in
    let empty : lines.len ≡ 0 =
    eqb-true lines.len 0 (sym c.is_empty.ensures ∙ c.if-is_empty.true) in
    let none : lines.items ≡ [] =
    nil_from_length lines.items (omega (arith, lines.ok.0, empty)) in
    all_written g.C.Cut.shard_of c.args.kind c.loop.invariant.0 c.into_agent.result _ lines.items _
    c.in_ok-lines-2.ensures.given none (c.in_ok-lines-2.ensures.end none)
    c.in_ok-lines-2.ensures.input

pub returns-then-is_empty-clause-stands : goal.returns-then-is_empty-clause-stands
returns-then-is_empty-clause-stands g c =
    let lines = c.in_ok-lines-2.lines in
    let empty : lines.len ≡ 0 =
    eqb-true lines.len 0 (sym c.is_empty.ensures ∙ c.if-is_empty.true) in
    let none : lines.items ≡ [] =
    nil_from_length lines.items (omega (arith, lines.ok.0, empty)) in
    stands_for_file g.C.Cut.shard_of c.args.kind c.loop.invariant.0 c.into_agent.result _
    lines.items c.into_agent.ensures c.in_ok-lines-2.ensures.given none (c.in_ok-lines-2.ensures.end none)

pub returns-in_err-round-clause-ends : goal.returns-in_err-round-clause-ends
returns-in_err-round-clause-ends g c =
    let given = c.in_err-round.field-0.0 in
    let lines = c.in_ok-lines-2.lines in
    round_stops g.C.Cut.shard_of c.args.kind c.loop.invariant.0 _ c.in_ok-lines-2.lines.items _
    c.in_ok-lines-2.ensures.given c.in_ok-lines-2.ensures.next c.in_ok-lines-2.ensures.input
    c.from_residual-in_err-round.result given c.index.result (search rules)
    (some_lines lines.items lines.len lines.ok.0 (sym c.is_empty.ensures ∙ c.if-is_empty.false))
    c.index.ensures
    (λ version headed.
    subst (λ t. TellsRound c.args.kind version c.index.result t given)
    c.deref-in-loop-2.ensures.value
    (c.in_err-round.ensures.fault version (c.deref-in-loop.ensures.value ∙ headed)))

pub returns-in_err-run-clause-ends : goal.returns-in_err-run-clause-ends
returns-in_err-run-clause-ends g c =
    let text = same_text _ _ _ _ c.deref-in-loop.ensures.value c.deref-in-loop-2.ensures.value in
    step_stops g.C.Cut.shard_of c.args.kind c.loop.invariant.0 _ c.in_ok-lines-2.lines.items _
    c.in_ok-lines-2.ensures.given c.in_ok-lines-2.ensures.next c.in_ok-lines-2.ensures.input
    c.in_ok-round.round
    (read_as c.args.kind c.in_ok-round.round _ _ text c.in_ok-round.ensures.found)
    (fits_as _ _ text c.in_ok-round.ensures.size) _ _ c.in_err-run.ensures.stops _
    c.from_residual-in_err-run.result c.in_err-run.field-0.0
    (search rules) c.in_err-run.ensures.fault c.in_err-run.ensures.output

pub loop-preserved : goal.loop-preserved
loop-preserved g c =
    let text = same_text _ _ _ _ c.deref-in-loop.ensures.value c.deref-in-loop-2.ensures.value in (
      one_more g.C.Cut.shard_of c.args.kind c.loop.invariant.0 _ c.in_ok-lines-2.lines.items _
          c.in_ok-lines-2.ensures.given c.in_ok-lines-2.ensures.next c.in_ok-lines-2.ensures.input
          c.in_ok-round.round
          (read_as c.args.kind c.in_ok-round.round _ _ text c.in_ok-round.ensures.found)
          (fits_as _ _ text c.in_ok-round.ensures.size) c.run.new.self.agent
          c.run.new.self.first _ _ _ c.run.ensures.same
          c.in_ok-run.ensures.goes_on c.in_ok-run.ensures.output c.in_ok-run.ensures.flushed,
      c.in_ok-run.ensures.count ∙ c.loop.invariant.1,
    )

pub returns-clause-ends : goal.returns-clause-ends
returns-clause-ends g c =
    unread g.C.Cut.shard_of c.args.kind c.loop.invariant.0 _ _ fault.NoMemory refl (inr refl)
    (counts_none _)
