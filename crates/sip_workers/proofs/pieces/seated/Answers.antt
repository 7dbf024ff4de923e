-- `seated` gives thieves with one part each, and the owner with the other parts.
use Rattle.std.proofs.Common.{◌≡◌, [], ◌∷◌, length, length-append, arith, ap, subst, sym, ◌∙◌}
use Rattle.crossbeam_deque.specs.Handles.{IsPassOf, worker_view}
use Rattle.std.specs.List.{AllByRecursion}
use Rattle.sip_workers.specs.Seats.{IsThiefOf}
use Rattle.sip_workers.specs.declared.seat.Seat.TheVariants.{Owner, Thief}
use Rattle.sip_workers.proofs.Balances.{forks}
use Rattle.sip_workers.proofs.Ends.{log_is, both_hold}
use Rattle.sip_workers.proofs.pieces.seated.Goals as goal

pub another-pass-requires : goal.another-pass-requires
another-pass-requires g c = forks _ _ (omega arith)

pub returns : goal.returns
returns g c =
    let count : c.loop.counter ≡ c.args.thieves = omega arith in
    record {
      deque = c.args.owner;
      thieves = c.loop.seats.items;
      last = Owner c.loop.owner;
      are = c.in_ok-push-2.ensures.items;
      counted = c.loop.invariant.4 ∙ count;
      few = omega arith;
      all_thieves = c.loop.invariant.5;
      owner = (
        c.loop.invariant.0,
        log_is (worker_view c.loop.owner) _ _ _
            (omega arith) c.loop.invariant.2 (c.loop.invariant.3 ∙ c.requires.nothing),
      );
    }

pub loop-preserved : goal.loop-preserved
loop-preserved g c =
    let split = c.another-pass.ensures.rule.0 in
    let same = c.another-pass.ensures.same.0.0 in
    let thief = c.in_ok-thief.thief in
    let pass = c.another-pass.result in
    let deque = c.in_ok-thief.ensures.0 ∙ c.loop.invariant.0 in (
      same ∙ c.loop.invariant.0,
      omega (arith, ap (λ v. v.parts) split, c.loop.invariant.1, c.loop-test.true, c.requires.few),
      ap (λ v. v.put) split ∙ c.loop.invariant.2,
      ap (λ v. v.taken) split ∙ c.loop.invariant.3,
      ap length c.in_ok-push.ensures.items
          ∙ omega (
            arith,
            length-append c.loop.seats.items (Thief thief pass ∷ []),
            c.loop.invariant.4,
          ),
      subst (λ seats. AllByRecursion (IsThiefOf c.args.owner) seats)
          (sym c.in_ok-push.ensures.items)
          (both_hold (IsThiefOf c.args.owner) c.loop.seats.items
          (Thief thief pass) c.loop.invariant.5 (
            deque,
            subst (λ d. IsPassOf d pass) c.loop.invariant.0 c.another-pass.ensures.same.2,
            c.another-pass.ensures.rule.1,
          )),
    )
