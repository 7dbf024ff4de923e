-- `due_numbers`: there is room for each number.
use Rattle.std.proofs.Common.{◌≡◌, ℕ, ◌<◌, ◌≤◌, List, filter, length, take, ap, arith, lit<, length-take-le}
use Rattle.std.proofs.lemmas.List.{length-map}
use Rattle.sip_reliable.specs.declared.provisional.TheConstants.{MOST_WAITING}
use Rattle.sip_reliable.specs.Provisional.{Provisional, is_repeated}
use Rattle.sip_reliable.specs.Ledger.{due_numbers}
use Rattle.sip_reliable.proofs.Sounds.{not_longer}
use Rattle.sip_reliable.proofs.waiting.due_numbers.Goals as goal

-- there is room for one more
fits : (now i : ℕ) (ps : List Provisional) (numbers : List ℕ)
    → numbers ≡ due_numbers now (take i ps) → i < length ps → length ps ≤ MOST_WAITING
    → length numbers < MOST_WAITING
fits now i ps numbers so_far within few =
    let due = filter (is_repeated now) (take i ps) in
    omega (
      arith,
      ap length so_far,
      length-map due (λ (p : Provisional). p.number),
      not_longer (is_repeated now) (take i ps),
      length-take-le i ps,
      within,
      few,
    )

pub push-requires : goal.push-requires
push-requires c = (
  lit< tt,
  fits c.args.now c.loop-one.one-index c.args.waiting.now
      c.loop-one.numbers.items c.loop-one.invariant c.loop-one-test.true c.requires,
)
