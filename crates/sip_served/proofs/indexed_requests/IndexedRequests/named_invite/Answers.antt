-- `IndexedRequests::named_invite` looks at the requests of the key in the order of their numbers.
use Rattle.std.proofs.Common.{◌≡◌, ◌&&◌, List, None, Some, sym, ap, ◌∙◌, arith}
use Rattle.std.specs.Option.{option_and_then, option_copied, option_map}
use Rattle.std.proofs.lemmas.Bool.{false≢true}
use Rattle.sip_served.specs.declared.held_request.HeldRequest.{HeldRequest}
use Rattle.sip_served.specs.Arrival.{is_in_dialog, is_named_by, named_invite}
use Rattle.sip_served.specs.Steps.Index.{is_key_of}
use Rattle.sip_served.specs.Steps.Indexed.{at}
use Rattle.sip_served.specs.Steps.Indices.{keys_at}
use Rattle.sip_served.specs.Steps.Keys.{prack_cmp, prack_of}
use Rattle.sip_served.proofs.Finds.{first_passes, key_below, none_at_all, none_passes, none_up_to}
use Rattle.sip_served.proofs.KeyTests.{prack_has_key}
use Rattle.sip_served.proofs.indexed_requests.IndexedRequests.named_invite.Goals as goal

pub returns-in_err-number : goal.returns-in_err-number
returns-in_err-number c =
    let test = λ (held : HeldRequest). is_in_dialog c.args.name.now c.args.created_by held
    && is_named_by c.args.rack.now held in
    c.from_residual.ensures
    ∙ sym (ap (option_map (λ (held : HeldRequest). held.id))
    (none_passes test c.self.inside.all.requests.entries c.self.invariant.numbered.in_order prack_cmp c.loop-least.least.0 prack_of
    (prack_has_key c.args.name.now c.args.created_by c.args.rack.now c.loop-least.least.0
    c.loop-least.invariant.0) c.loop-least.least.1
    c.loop-least.invariant.1
    (c.in_err-number.ensures.none (keys_at prack_of (at c.self.inside.all.requests))
    c.self.invariant.numbered.indices.pracks)))
    ∙ ap (λ (all : List HeldRequest). named_invite all c.args.name.now c.args.created_by
    c.args.rack.now) c.self.view_is

pub returns-in_err-held : goal.returns-in_err-held
returns-in_err-held c =
    let requests = c.self.inside.all.requests in
    let none : at requests c.in_ok-number.number ≡ None =
    sym c.get.ensures.value ∙ ap option_copied c.in_err-held.was in
    absurd (false≢true (sym (ap (λ o. is_key_of prack_cmp c.loop-least.least.0
    (option_and_then prack_of o)) none)
    ∙ (c.in_ok-number.ensures.number (keys_at prack_of (at requests)) c.self.invariant.numbered.indices.pracks).0))

pub returns-then-takes_prack : goal.returns-then-takes_prack
returns-then-takes_prack c =
    let test = λ (held : HeldRequest). is_in_dialog c.args.name.now c.args.created_by held
    && is_named_by c.args.rack.now held in
    sym (ap (option_map (λ (held : HeldRequest). held.id))
    (first_passes test c.self.inside.all.requests.entries c.self.invariant.numbered.in_order prack_cmp c.loop-least.least.0 prack_of
    (prack_has_key c.args.name.now c.args.created_by c.args.rack.now c.loop-least.least.0
    c.loop-least.invariant.0) c.loop-least.least.1
    c.loop-least.invariant.1
    c.in_ok-number.number c.in_ok-held.held.now
    (sym c.get.ensures.value ∙ ap option_copied c.in_ok-held.was)
    (sym c.takes_prack.ensures ∙ c.if-takes_prack.true)
    (c.in_ok-number.ensures.none_before (keys_at prack_of (at c.self.inside.all.requests))
    c.self.invariant.numbered.indices.pracks)))
    ∙ ap (λ (all : List HeldRequest). named_invite all c.args.name.now c.args.created_by
    c.args.rack.now) c.self.view_is

pub overflow_add-least : goal.overflow_add-least
overflow_add-least c =
    let inside = c.self.inside in
    omega (
      arith,
      key_below prack_cmp c.loop-least.least.0 prack_of inside.all.requests.entries inside.next
          c.self.invariant.below c.in_ok-number.number
          (c.in_ok-number.ensures.number (keys_at prack_of (at inside.all.requests)) c.self.invariant.numbered.indices.pracks).0,
    )

pub loop-least-smaller : goal.loop-least-smaller
loop-least-smaller c =
    omega (
      arith,
      c.loop-least-test.true,
      (c.in_ok-number.ensures.number (keys_at prack_of (at c.self.inside.all.requests)) c.self.invariant.numbered.indices.pracks).1,
    )

pub loop-least-preserved : goal.loop-least-preserved
loop-least-preserved c =
    let test = λ (held : HeldRequest). is_in_dialog c.args.name.now c.args.created_by held
    && is_named_by c.args.rack.now held in
    let requests = c.self.inside.all.requests in
    let held = c.in_ok-held.held.now in
    let there : at requests c.in_ok-number.number ≡ Some held =
    sym c.get.ensures.value ∙ ap option_copied c.in_ok-held.was in (
      c.loop-least.invariant.0,
      none_up_to test c.self.inside.all.requests.entries c.self.invariant.numbered.in_order prack_cmp c.loop-least.least.0 prack_of
          (prack_has_key c.args.name.now c.args.created_by c.args.rack.now c.loop-least.least.0
          c.loop-least.invariant.0) c.loop-least.least.1
          c.loop-least.invariant.1
          c.in_ok-number.number
          (λ x is.
          let same : Some held ≡ Some x = sym there ∙ is in
          let this : x ≡ held = cc in
          ap test this ∙ sym c.takes_prack.ensures ∙ c.if-takes_prack.false)
          (c.in_ok-number.ensures.none_before (keys_at prack_of (at requests)) c.self.invariant.numbered.indices.pracks),
    )

pub returns : goal.returns
returns c =
    let test = λ (held : HeldRequest). is_in_dialog c.args.name.now c.args.created_by held
    && is_named_by c.args.rack.now held in
    sym (ap (option_map (λ (held : HeldRequest). held.id))
    (none_at_all test c.self.inside.all.requests.entries c.self.invariant.numbered.in_order c.self.inside.next c.loop-least.least.1
    c.self.invariant.below c.loop-least-test.false c.loop-least.invariant.1))
    ∙ ap (λ (all : List HeldRequest). named_invite all c.args.name.now c.args.created_by
    c.args.rack.now) c.self.view_is
