-- `post_all`: each turn of the loop leaves the lines the same, and posts what came.
use Rattle.std.proofs.Common.{◌≡◌, ℕ, List, refl, rules, subst, sym, ◌∙◌}
use Rattle.std.specs.Prelude.{take}
use Rattle.std.specs.List.{AllZip}
use Rattle.sip_desk.specs.Lines.{SameLine}
use Rattle.sip_udp.specs.Hearing.{Hears, posted_by}
use Rattle.sip_desk.specs.declared.poster.Poster.{Poster}
use Rattle.sip_round.specs.declared.round.Event.{Event}
use Rattle.sip_round.specs.declared.round.Event.TheVariants.{Datagram}
use Rattle.sip_udp.proofs.Hearings.{lost_after, nothing_heard, nothing_more, one_heard}
use Rattle.sip_udp.proofs.Lined.{line_same, line_trans, zip_same, zip_trans}
use Rattle.sip_udp.proofs.listener.post_all.Goals as goal
use Rattle.sip_udp.proofs.listener.post_all.Goals.{in-Datagram+in_ok-post-in-Datagram, then-not-branch, else-not-branch, in-Nothing, in-Failed-2}

pub loop-init : goal.loop-init
loop-init g c = (
  zip_same SameLine line_same _,
  search rules,
  subst (λ lost. Hears (g.I.Inlet.given c.args.inlet.now) (g.I.Inlet.given c.args.inlet.now)
      c.args.lines.now (posted_by c.args.lines.now) lost) (sym c.requires)
      (nothing_heard (g.I.Inlet.given c.args.inlet.now) c.args.lines.now),
)

pub returns-in_err-post-in-Datagram-clause-same : goal.returns-in_err-post-in-Datagram-clause-same
returns-in_err-post-in-Datagram-clause-same g c =
    zip_trans SameLine line_trans _ _ _ c.loop.invariant.0 c.post.ensures.same

pub returns-in_err-post-in-Datagram-clause-hears : goal.returns-in_err-post-in-Datagram-clause-hears
returns-in_err-post-in-Datagram-clause-hears g c = λ other. absurd (other (search rules))

pub returns-in-Failed-clause-hears : goal.returns-in-Failed-clause-hears
returns-in-Failed-clause-hears g c = λ other.
    nothing_more (g.I.Inlet.given c.args.inlet.now) (g.I.Inlet.given c.loop.inlet)
    (g.I.Inlet.given c.receive.new.self) c.args.lines.now (posted_by c.loop.lines) c.loop.lost
    c.loop.invariant.2 c.in-Failed.ensures.given

pub returns-after-loop-clause-hears : goal.returns-after-loop-clause-hears
returns-after-loop-clause-hears g c = λ other. c.loop.invariant.2

pub returns-then-load-clause-hears : goal.returns-then-load-clause-hears
returns-then-load-clause-hears g c = λ other. c.loop.invariant.2

pub loop-preserved : goal.loop-preserved
loop-preserved g c =
    let given = g.I.Inlet.given in
    let first = c.args.lines.now in
    let old = given c.args.inlet.now in
    let now = given c.loop.inlet in
    let next = given c.receive.new.self in
    let AreHeard : List (Poster Event) → ℕ → Type 0 =
    λ lines lost. Hears old next first (posted_by lines) lost in
    elim c.match-receive.branch [
      | in-Datagram+in_ok-post-in-Datagram w ↦ let datagram = Datagram (w.in-Datagram).from
          (take (w.in-Datagram).length c.receive.new.buffer) in
          let has_room = (w.in_ok-post-in-Datagram).field-0 in
          let counted : (w.if-not-branch).lost ≡ lost_after has_room c.loop.lost =
          elim (w.if-not-branch).branch [
            | then-not-branch w' ↦ search rules
            | else-not-branch w' ↦ search rules
          ] in (
            subst (λ lines. AllZip SameLine first lines) (sym w.lines-is)
                (zip_trans SameLine line_trans _ _ _ c.loop.invariant.0 w.post.ensures.same),
            search rules,
            subst (λ lines. AreHeard lines c.match-receive.lost) (sym w.lines-is)
                (subst (λ lost. AreHeard w.post.new.lines lost) (sym (w.lost-is ∙ counted))
                (one_heard old now next first c.loop.lines w.post.new.lines c.loop.lost datagram
                has_room c.loop.invariant.2 c.loop.invariant.0 w.post.ensures.same
                (w.in-Datagram).ensures.given (w.in_ok-post-in-Datagram).ensures.posted)),
          )
      | in-Nothing w ↦ (
        subst (λ lines. AllZip SameLine first lines) (sym w.lines-is) c.loop.invariant.0,
        search rules,
        subst (λ lines. AreHeard lines c.match-receive.lost) (sym w.lines-is)
            (subst (λ lost. AreHeard c.loop.lines lost) (sym w.lost-is)
            (nothing_more old now next first (posted_by c.loop.lines) c.loop.lost
            c.loop.invariant.2 (w.in-Nothing).ensures.given)),
      )
      | in-Failed-2 w ↦ (
        subst (λ lines. AllZip SameLine first lines) (sym w.lines-is) c.loop.invariant.0,
        search rules,
        subst (λ lines. AreHeard lines c.match-receive.lost) (sym w.lines-is)
            (subst (λ lost. AreHeard c.loop.lines lost) (sym w.lost-is)
            (nothing_more old now next first (posted_by c.loop.lines) c.loop.lost
            c.loop.invariant.2 (w.in-Failed).ensures.given)),
      )
    ]
