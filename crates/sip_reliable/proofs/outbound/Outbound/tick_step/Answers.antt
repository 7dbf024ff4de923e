-- `Outbound::tick_step` keeps the invariant, also if responses are sent again.
use Rattle.std.proofs.Common.{map, ap, ◌∙◌}
use Rattle.sip_reliable.specs.Provisional.{after_repeat, given_up}
use Rattle.sip_reliable.proofs.Sounds.{refilled, sound_given_up, sound_repeated}
use Rattle.sip_reliable.proofs.outbound.Outbound.tick_step.Goals as goal

pub invariant_of-self : goal.invariant_of-self
invariant_of-self c =
    let o = c.self.inside in
    let same = refilled given_up o.waiting.items c.give_up.new.waiting (c.give_up.ensures
    ∙ ap (map given_up) c.as_mut_slice.ensures.value) in (
      c.self.invariant.0,
      c.self.invariant.1,
      rw same (sound_given_up o.first o.next o.waiting.items c.self.invariant.2),
    )

pub invariant_of-self-then-any_repeated : goal.invariant_of-self-then-any_repeated
invariant_of-self-then-any_repeated c =
    let o = c.self.inside in
    let now = c.args.now in
    let same = refilled (after_repeat now) o.waiting.items c.repeat.new.waiting
    (c.repeat.ensures ∙ ap (map (after_repeat now)) c.as_mut_slice-then-any_repeated.ensures.value)
    in (
      c.self.invariant.0,
      c.self.invariant.1,
      rw same (sound_repeated o.first o.next now o.waiting.items c.self.invariant.2),
    )
