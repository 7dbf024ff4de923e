-- `post_lines`: each turn of the loop posts one more line of the pipe.
use Rattle.std.proofs.Common.{ℕ, List, IfSome, length, sym, subst, ap, arith}
use Rattle.sip_desk.specs.Lines.{posted}
use Rattle.sip_udp.specs.Piping.{SaysRead, PostsFront}
use Rattle.sip_udp.proofs.Fed.{fed_front, fed_more, fed_nothing, read_front}
use Rattle.sip_udp.proofs.pipe_input.post_lines.Goals as goal

pub loop-number-init : goal.loop-number-init
loop-number-init g c =
    fed_nothing c.args.kind (g.I.Read.remaining c.args.input.now) (posted c.args.line.now)

pub loop-number-preserved : goal.loop-number-preserved
loop-number-preserved g c =
    let text : List ℕ = c.read_until.new.buf.items in
    fed_more c.args.kind (g.I.Read.remaining c.args.input.now)
    (g.I.Read.remaining c.loop-number.input)
    (g.I.Read.remaining c.read_until.new.self) (posted c.args.line.now)
    (posted c.loop-number.line) (posted c.post_in_time.new.line) c.loop-number.number text
    c.in_ok-said.said c.loop-number.invariant
    (read_front (g.I.Read.remaining c.loop-number.input) c.new-text.result.items text
    c.new-text.ensures.items c.in-Ok.ensures.bytes)
    c.in-Ok.ensures.rest
    (omega (arith, c.in-Ok.ensures.ok, ap length c.new-text.ensures.items, c.in-Ok.field-0-test))
    (subst (λ t. SaysRead c.args.kind c.loop-number.number t c.in_ok-said.said)
    c.deref.ensures.value
    c.in_ok-said.ensures)
    (c.post_in_time.ensures.posted c.if-not-post_in_time.false)

pub returns-then-not-post_in_time-clause-front : goal.returns-then-not-post_in_time-clause-front
returns-then-not-post_in_time-clause-front g c =
    subst (λ ls. IfSome (g.I.Read.remaining c.args.input.now)
    (PostsFront c.args.kind (posted c.args.line.now) ls))
    (sym (c.post_in_time.ensures.unposted c.if-not-post_in_time.true))
    (fed_front c.args.kind (g.I.Read.remaining c.args.input.now)
    (g.I.Read.remaining c.loop-number.input)
    (posted c.args.line.now) (posted c.loop-number.line) c.loop-number.number
    c.loop-number.invariant)
