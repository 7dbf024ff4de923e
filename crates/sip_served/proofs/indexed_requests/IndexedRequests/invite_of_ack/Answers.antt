-- `IndexedRequests::invite_of_ack` looks at the requests of the key in the order of their numbers.
use Rattle.std.proofs.Common.{◌≡◌, ◌&&◌, None, Some, sym, ap, ◌∙◌, arith}
use Rattle.std.specs.Option.{option_and_then, option_copied, option_map}
use Rattle.std.proofs.lemmas.Bool.{false≢true}
use Rattle.sip_served.specs.declared.held_request.HeldRequest.{HeldRequest}
use Rattle.sip_served.specs.Acknowledgment.{acknowledged_invite, awaits_ack, is_ack_of}
use Rattle.sip_served.specs.Steps.Index.{is_key_of}
use Rattle.sip_served.specs.Steps.Indexed.{at}
use Rattle.sip_served.specs.Steps.Indices.{keys_at}
use Rattle.sip_served.specs.Steps.Keys.{ack_of, text_cmp}
use Rattle.sip_served.proofs.Finds.{first_passes, key_below, none_at_all, none_passes, none_up_to}
use Rattle.sip_served.proofs.KeyTests.{ack_has_key}
use Rattle.sip_served.proofs.indexed_requests.IndexedRequests.invite_of_ack.Goals as goal

pub returns-in_err-number : goal.returns-in_err-number
returns-in_err-number c =
    let test = λ (held : HeldRequest). awaits_ack held && is_ack_of c.args.ack.now held in
    c.from_residual.ensures
    ∙ sym (ap (option_map (λ (held : HeldRequest). held.id))
    (none_passes test c.self.inside.all.requests.entries c.self.invariant.numbered.in_order text_cmp c.loop-least.least.0 ack_of
    (ack_has_key c.args.ack.now c.loop-least.least.0 (c.loop-least.invariant.0 ∙ c.requires)) c.loop-least.least.1
    c.loop-least.invariant.1
    (c.in_err-number.ensures.none (keys_at ack_of (at c.self.inside.all.requests))
    c.self.invariant.numbered.indices.acks)))
    ∙ ap (acknowledged_invite c.args.ack.now) c.self.view_is

pub returns-in_err-held : goal.returns-in_err-held
returns-in_err-held c =
    let requests = c.self.inside.all.requests in
    let none : at requests c.in_ok-number.number ≡ None =
    sym c.get.ensures.value ∙ ap option_copied c.in_err-held.was in
    absurd (false≢true (sym (ap (λ o. is_key_of text_cmp c.loop-least.least.0
    (option_and_then ack_of o)) none)
    ∙ (c.in_ok-number.ensures.number (keys_at ack_of (at requests)) c.self.invariant.numbered.indices.acks).0))

pub returns-then-takes_ack : goal.returns-then-takes_ack
returns-then-takes_ack c =
    let test = λ (held : HeldRequest). awaits_ack held && is_ack_of c.args.ack.now held in
    sym (ap (option_map (λ (held : HeldRequest). held.id))
    (first_passes test c.self.inside.all.requests.entries c.self.invariant.numbered.in_order text_cmp c.loop-least.least.0 ack_of
    (ack_has_key c.args.ack.now c.loop-least.least.0 (c.loop-least.invariant.0 ∙ c.requires)) c.loop-least.least.1
    c.loop-least.invariant.1
    c.in_ok-number.number c.in_ok-held.held.now
    (sym c.get.ensures.value ∙ ap option_copied c.in_ok-held.was)
    (sym c.takes_ack.ensures ∙ c.if-takes_ack.true)
    (c.in_ok-number.ensures.none_before (keys_at ack_of (at c.self.inside.all.requests))
    c.self.invariant.numbered.indices.acks)))
    ∙ ap (acknowledged_invite c.args.ack.now) c.self.view_is

pub overflow_add-least : goal.overflow_add-least
overflow_add-least c =
    let inside = c.self.inside in
    omega (
      arith,
      key_below text_cmp c.loop-least.least.0 ack_of inside.all.requests.entries inside.next
          c.self.invariant.below c.in_ok-number.number
          (c.in_ok-number.ensures.number (keys_at ack_of (at inside.all.requests)) c.self.invariant.numbered.indices.acks).0,
    )

pub loop-least-smaller : goal.loop-least-smaller
loop-least-smaller c =
    omega (
      arith,
      c.loop-least-test.true,
      (c.in_ok-number.ensures.number (keys_at ack_of (at c.self.inside.all.requests)) c.self.invariant.numbered.indices.acks).1,
    )

pub loop-least-preserved : goal.loop-least-preserved
loop-least-preserved c =
    let test = λ (held : HeldRequest). awaits_ack held && is_ack_of c.args.ack.now held in
    let requests = c.self.inside.all.requests in
    let held = c.in_ok-held.held.now in
    let there : at requests c.in_ok-number.number ≡ Some held =
    sym c.get.ensures.value ∙ ap option_copied c.in_ok-held.was in (
      c.loop-least.invariant.0,
      none_up_to test c.self.inside.all.requests.entries c.self.invariant.numbered.in_order text_cmp c.loop-least.least.0 ack_of
          (ack_has_key c.args.ack.now c.loop-least.least.0 (c.loop-least.invariant.0 ∙ c.requires)) c.loop-least.least.1
          c.loop-least.invariant.1
          c.in_ok-number.number
          (λ x is.
          let same : Some held ≡ Some x = sym there ∙ is in
          let this : x ≡ held = cc in
          ap test this ∙ sym c.takes_ack.ensures ∙ c.if-takes_ack.false)
          (c.in_ok-number.ensures.none_before (keys_at ack_of (at requests)) c.self.invariant.numbered.indices.acks),
    )

pub returns : goal.returns
returns c =
    let test = λ (held : HeldRequest). awaits_ack held && is_ack_of c.args.ack.now held in
    sym (ap (option_map (λ (held : HeldRequest). held.id))
    (none_at_all test c.self.inside.all.requests.entries c.self.invariant.numbered.in_order c.self.inside.next c.loop-least.least.1
    c.self.invariant.below c.loop-least-test.false c.loop-least.invariant.1))
    ∙ ap (acknowledged_invite c.args.ack.now) c.self.view_is
