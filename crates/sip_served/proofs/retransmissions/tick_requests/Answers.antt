-- `tick_requests`: each turn of the loop ticks one more request.
use Rattle.std.proofs.Common.{◌≡◌, ◌++◌, List, take, get_or, sym, ap, ◌∙◌, append_assoc}
use Rattle.std.specs.List.{flat_map, slice_set}
use Rattle.std.proofs.lemmas.List.Edits.{map_over_more}
use Rattle.sip_served.specs.declared.held_request.HeldRequest.{HeldRequest}
use Rattle.sip_served.specs.Tick.{request_ticked}
use Rattle.sip_served.proofs.Ticks.{not_yet, told_more}
use Rattle.sip_served.proofs.retransmissions.tick_requests.Goals as goal

pub loop-held-preserved : goal.loop-held-preserved
loop-held-preserved c =
    let all = c.deref_mut-held-items.result.now in
    let some = c.loop-held.held-items in
    let i = c.loop-held.held-index in
    let now = c.args.now in
    let held = c.held-item.result in
    let so_far = c.loop-held.invariant.requests in
    let same : get_or some i held ≡ held = sym c.held-item.is in
    let is : get_or all i held ≡ held =
    sym (not_yet (λ (h : HeldRequest). (request_ticked now h).0) all i held c.loop-held-test.true)
    ∙ sym (ap (λ (ys : List HeldRequest). get_or ys i held) so_far) ∙ same in
    let after : c.tick_request.new.held ≡ (request_ticked now (get_or some i held)).0 =
    c.in_ok-tick_request.ensures.held in
    let told : c.tick_request.new.outs.items ≡ c.loop-held.outs.items
    ++ (request_ticked now (get_or some i held)).1 = c.in_ok-tick_request.ensures.outs in
    record {
      requests =
          ap (slice_set some i) (after ∙ ap (λ (h : HeldRequest). (request_ticked now h).0) same)
          ∙ map_over_more (λ (h : HeldRequest). (request_ticked now h).0) all some i held
          c.loop-held-test.true so_far c.held-item.is;
      outs = told ∙ ap (λ (h : HeldRequest). c.loop-held.outs.items
          ++ (request_ticked now h).1) same
          ∙ ap (λ outs. outs ++ (request_ticked now held).1) c.loop-held.invariant.outs
          ∙ append_assoc c.args.outs.now.items
          (flat_map (λ (h : HeldRequest). (request_ticked now h).1) (take i all))
          (request_ticked now held).1
          ∙ ap (λ more. c.args.outs.now.items ++ more)
          (sym (told_more (λ (h : HeldRequest). (request_ticked now h).1) all i held
          c.loop-held-test.true is));
    }
