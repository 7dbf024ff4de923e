-- `Desk::pass` takes at most one event of each line. If it has room and takes none, nothing that
-- was seen is left.
use Rattle.std.proofs.Common.{◌≡◌, ℕ, ◌+◌, ◌≤◌, ◌<◌, [], ◌∙◌, arith}
use Rattle.std.proofs.lemmas.Bool.{ltb-false}
use Rattle.std.specs.Vec.{vec_len, vec_capacity}
use Rattle.sip_desk.specs.Lines.{line_count, seen, KeepsLines}
use Rattle.sip_desk.specs.Collected.{Gathers, IsDry}
use Rattle.sip_desk.proofs.Parts.{gathers_nothing, gathers_one, gathers_none, keeps_itself, keeps_then, dry_more, dry_all}
use Rattle.sip_desk.proofs.desk.Desk.pass.Goals as goal
use Rattle.sip_desk.proofs.desk.Desk.pass.Goals.{in-Some, in_default, else-loop-line-test, then-loop-line-test+then-len-max}

pub loop-line-init : goal.loop-line-init
loop-line-init g c = (
  gathers_nothing c.args.self.now c.args.events.now.items,
  keeps_itself c.args.self.now,
  c.requires.room,
  c.requires.most,
  omega (arith, c.len-before.ensures),
  λ few j below. absurd (omega arith),
)

pub loop-line-preserved : goal.loop-line-preserved
loop-line-preserved g c =
    let kept : KeepsLines c.args.self.now c.take_one.new.self =
    keeps_then c.args.self.now c.loop-line.self c.take_one.new.self c.loop-line.invariant.1
    c.take_one.ensures.same in
    let gathered : Gathers c.args.self.now c.loop-line.self c.args.events.now.items
    c.loop-line.events.items = c.loop-line.invariant.0 in
    let free : vec_len c.loop-line.events < c.args.max =
    omega (arith, c.loop-line.invariant.3, c.len.ensures, c.if-len-max.false) in
    elim c.match-take_one.branch as (λ _.
    Gathers c.args.self.now c.take_one.new.self c.args.events.now.items
    c.match-take_one.events.items
    × KeepsLines c.args.self.now c.take_one.new.self
    × (vec_capacity c.match-take_one.events ≡ c.args.max)
    × (vec_len c.match-take_one.events ≤ c.args.max)
    × (c.len-before.result ≤ vec_len c.match-take_one.events)
    × (vec_len c.match-take_one.events ≤ c.len-before.result → (j : ℕ) → j < c.loop-line.line + 1
    → seen c.take_one.new.self j ≡ [])) [
      | in-Some w ↦
          let room : vec_capacity c.match-take_one.events ≡ c.args.max =
          rw w.events-is (w.push_reserved.ensures.capacity ∙ c.loop-line.invariant.2) in
          let longer : vec_len c.match-take_one.events ≡ vec_len c.loop-line.events + 1 =
          rw w.events-is w.push_reserved.ensures.len in (
            gathers_one c.args.self.now c.loop-line.self c.take_one.new.self c.args.events.now.items
                c.loop-line.events.items c.match-take_one.events.items c.loop-line.line
                w.in-Some.event
                gathered w.in-Some.ensures.some (rw w.events-is w.push_reserved.ensures.items),
            kept,
            room,
            omega arith,
            omega (arith, c.loop-line.invariant.4),
            λ few j below. absurd (omega (arith, c.loop-line.invariant.4)),
          )
      | in_default w ↦ (
        rw w.events-is
            (gathers_none c.args.self.now c.loop-line.self c.take_one.new.self
            c.args.events.now.items c.loop-line.events.items gathered
            w.in_default.ensures.none),
        kept,
        rw w.events-is c.loop-line.invariant.2,
        rw w.events-is c.loop-line.invariant.3,
        rw w.events-is c.loop-line.invariant.4,
        rw w.events-is (λ few. dry_more c.loop-line.self c.take_one.new.self c.loop-line.line
            (c.loop-line.invariant.5 few) c.take_one.ensures.others w.in_default.ensures.dry),
      )
    ]

pub returns-clause-dry : goal.returns-clause-dry
returns-clause-dry g c = λ took_none some_room.
    let few : vec_len c.loop-line.events ≤ c.len-before.result =
    omega (arith, ltb-false c.len-before.result c.len-2.result took_none, c.len-2.ensures) in
    elim c.loop-line-test.branch as (λ _. IsDry c.loop-line.self) [
      | else-loop-line-test w ↦
          let all : line_count c.loop-line.self ≤ c.loop-line.line =
          omega (
            arith,
            c.loop-line.invariant.1.count,
            c.len-line-end.ensures,
            c.args.self.now.lines.ok.0,
            w.loop-line-test.false,
          ) in
          dry_all c.loop-line.self c.loop-line.line all (c.loop-line.invariant.5 few)
      | then-loop-line-test+then-len-max w ↦ absurd
          (omega (arith, w.len.ensures, w.if-len-max.true))
    ]
