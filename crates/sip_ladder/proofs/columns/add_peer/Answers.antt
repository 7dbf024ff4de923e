-- `add_peer` adds a peer that is new, if there is room for it.
use Rattle.std.proofs.Common.{◌≡◌, ap, inl, inr, arith}
use Rattle.sip_ladder.specs.Row.{place_of}
use Rattle.sip_ladder.proofs.Distinct.{kept_as_is, kept_more}
use Rattle.sip_ladder.proofs.columns.add_peer.Goals as goal
use Rattle.sip_ladder.proofs.columns.add_peer.Goals.{then-known-gt-MOST_PEERS-via-then-known-gt-MOST_PEERS, then-known-gt-MOST_PEERS-via-else-known-gt-MOST_PEERS+then-place_in-known}

pub returns-then-known-gt-MOST_PEERS : goal.returns-then-known-gt-MOST_PEERS
returns-then-known-gt-MOST_PEERS c = λ all so_far.
    let long = c.args.peers.now.ok.0 in
    kept_as_is 12 all _ c.args.peer so_far (elim c.then-known-gt-MOST_PEERS.branch [
      | then-known-gt-MOST_PEERS-via-then-known-gt-MOST_PEERS w ↦ inr (omega (arith, long))
      | then-known-gt-MOST_PEERS-via-else-known-gt-MOST_PEERS+then-place_in-known w ↦
          let place : place_of w.as_slice.result.now c.args.peer
          ≡ place_of c.args.peers.now.items c.args.peer =
          ap (λ ps. place_of ps c.args.peer) w.as_slice.ensures.value in
          inl (omega (arith, long))
    ])

pub returns : goal.returns
returns c = λ all so_far.
    let long = c.args.peers.now.ok.0 in
    let place : place_of c.as_slice.result.now c.args.peer
    ≡ place_of c.args.peers.now.items c.args.peer =
    ap (λ ps. place_of ps c.args.peer) c.as_slice.ensures.value in
    kept_more 12 all _ _ c.args.peer so_far (omega (arith, long))
    (omega (arith, long, c.as_slice.ensures.len)) c.in_ok-push.ensures.items
