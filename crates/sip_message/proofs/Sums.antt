-- A sum may be taken modulo a number at each step.
use Rattle.std.proofs.Common.{◌≡◌, ℕ, ◌+◌, ◌*◌, ◌/◌, ◌%◌, sym, ◌∙◌, ap, arith}
use Rattle.std.proofs.Math.Nat.{mod-add-div, add-mul-mod_self_left}

pub add_modulo : (s b n : ℕ) → (s % n + b) % n ≡ (s + b) % n
add_modulo s b n =
    sym (add-mul-mod_self_left (s % n + b) n (s / n))
    ∙ ap (λ x. x % n) (regroup (s % n) b (n * (s / n)) ∙ ap (λ x. x + b) (mod-add-div s n))
  where
    regroup : (x y z : ℕ) → x + y + z ≡ x + z + y
    regroup x y z = omega arith
