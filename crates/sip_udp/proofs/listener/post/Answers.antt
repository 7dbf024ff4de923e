-- `post` changes only the line of the datagram's agent.
use Rattle.std.proofs.Common.{false, refl, subst, sym}
use Rattle.std.proofs.lemmas.List.{get_or_default}
use Rattle.std.specs.Prelude.{is_ok, slice_index_or, slice_set}
use Rattle.sip_desk.specs.Lines.{SameLine}
use Rattle.sip_round.specs.declared.round.Event.TheVariants.{Datagram}
use Rattle.sip_udp.proofs.Hearings.{PostsOne, get_within, posted_as, posts_at, posts_nowhere}
use Rattle.sip_udp.proofs.Lined.{line_same, zip_same, zip_set}
use Rattle.sip_udp.proofs.listener.post.Goals as goal

pub returns-in_err-bytes-clause-same : goal.returns-in_err-bytes-clause-same
returns-in_err-bytes-clause-same c = zip_same SameLine line_same _

pub returns-in_err-agent-clause-same : goal.returns-in_err-agent-clause-same
returns-in_err-agent-clause-same c = zip_same SameLine line_same _

pub returns-then-agent-lines-clause-same : goal.returns-then-agent-lines-clause-same
returns-then-agent-lines-clause-same c = zip_same SameLine line_same _

pub returns-clause-same : goal.returns-clause-same
returns-clause-same c =
    zip_set SameLine line_same c.args.lines.now c.in_ok-agent.agent c.post.new.self
    c.if-agent-lines.false
    (λ d. subst (λ line. SameLine line c.post.new.self)
    (get_or_default c.args.lines.now c.in_ok-agent.agent _ d c.if-agent-lines.false)
    c.post.ensures.same)

pub returns-clause-posted : goal.returns-clause-posted
returns-clause-posted c =
    let now = c.args.lines.now in
    let told = Datagram c.args.from c.in_ok-bytes.bytes in
    let old = slice_index_or now c.in_ok-agent.agent c.index-lines-agent.result in
    let is = c.in_ok-agent.ensures c.args.from c.in_ok-bytes.bytes refl in
    let found = get_within now c.in_ok-agent.agent c.index-lines-agent.result
    c.if-agent-lines.false in
    let posts = posted_as old c.post.new.self told c.post.result c.post.ensures.ok
    c.post.ensures.unposted c.post.ensures.room in
    subst (λ bytes. PostsOne now (slice_set now c.in_ok-agent.agent c.post.new.self)
    (Datagram c.args.from bytes, c.is_ok.result)) c.in_ok-bytes.ensures
    (subst (λ has_room. PostsOne now (slice_set now c.in_ok-agent.agent c.post.new.self)
    (told, has_room)) (sym c.is_ok.ensures.value)
    (posts_at now c.in_ok-agent.agent old c.post.new.self told (is_ok c.post.result) is found
    posts))

pub returns-then-agent-lines-clause-posted : goal.returns-then-agent-lines-clause-posted
returns-then-agent-lines-clause-posted c =
    let now = c.args.lines.now in
    subst (λ bytes. PostsOne now now (Datagram c.args.from bytes, false)) c.in_ok-bytes.ensures
    (posts_nowhere now c.in_ok-agent.agent (Datagram c.args.from c.in_ok-bytes.bytes)
    (c.in_ok-agent.ensures c.args.from c.in_ok-bytes.bytes refl) c.if-agent-lines.true)
