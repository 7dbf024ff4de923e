-- The loop of `tick_requests`: the requests so far are ticked, those after them unchanged.
use Rattle.std.proofs.Common.{◌≡◌, ◌++◌, map, take, drop}
use Rattle.std.specs.List.{flat_map}
use Rattle.sip_served.specs.Tick.{request_ticked}
use Rattle.sip_served.proofs.retransmissions.tick_requests.Given as goal

abbrev pub invariant-loop-held : goal.invariant-loop-held
invariant-loop-held l = record {
  requests : l.held-items ≡ map (λ held. (request_ticked l.now held).0)
      (take l.held-index l.initial.held-items) ++ drop l.held-index l.initial.held-items;
  outs : l.outs.items ≡ l.initial.outs.items
      ++ flat_map (λ held. (request_ticked l.now held).1) (take l.held-index l.initial.held-items);
}
