-- `push_hex`: each turn of the loop writes the next digit.
use Rattle.std.proofs.Common.{◌-◌, ◌/◌, ◌%◌, ◌*◌, ◌^◌, ◌++◌, ◌∷◌, [], arith, sym, ap, ◌∙◌, append-nil, append_assoc}
use Rattle.sip_text.specs.Number.{hex_digit}
use Rattle.sip_clients.specs.Name.{hex}
use Rattle.sip_clients.proofs.Hex.{digit_next, no_digit_yet}
use Rattle.sip_clients.proofs.name.push_hex.Goals as goal

pub loop-left-init : goal.loop-left-init
loop-left-init c = (
  omega arith,
  sym (ap (λ xs. c.args.digits.now.items ++ xs) (no_digit_yet c.args.count
      c.args.number) ∙ append-nil c.args.digits.now.items),
)

pub loop-left-preserved : goal.loop-left-preserved
loop-left-preserved c =
    let left = c.loop-left.left in
    let most = c.loop-left.invariant.0 in (
      omega arith,
      c.in_ok-push.ensures.items
          ∙ ap (λ d. c.loop-left.digits.items ++ d ∷ []) c.hex_digit.ensures
          ∙ ap (λ xs. xs ++ hex_digit (c.args.number / 2 ^ (4 * (left - 1)) % 16) ∷ [])
          c.loop-left.invariant.1
          ∙ append_assoc c.args.digits.now.items (hex (c.args.count - left) (c.args.number
          / 2 ^ (4 * left))) (hex_digit (c.args.number / 2 ^ (4 * (left - 1)) % 16) ∷ [])
          ∙ ap (λ xs. c.args.digits.now.items ++ xs) (digit_next c.args.count c.args.number left
          c.loop-left-test.true most),
    )
