-- What follows if a step gave a value.
use Rattle.std.proofs.Common.{◌≡◌, Bool, true, false, cond, Option, Some, None, refl, ◌⊎◌, inl, inr}
pub use Rattle.std.proofs.lemmas.Option.{cond_some as passed, same_Some as same_some}
use Rattle.sip_text.specs.Options.{◌>>=◌}

-- if both steps together gave a value, each gave one
pub bind_some : {A B : Type 0} (o : Option A) (f : A → Option B) (y : B) → (o >>= f) ≡ Some y
    → (x : A) × (o ≡ Some x) × (f x ≡ Some y)
bind_some None f y e = absurd cc
bind_some (Some x) f y e = (x, refl, e)

-- which branch a test took
pub chosen : {A : Type 0} (b : Bool) (x y z : A) → cond b x y ≡ z
    → ((b ≡ true) × (x ≡ z)) ⊎ ((b ≡ false) × (y ≡ z))
chosen true x y z e = inl (refl, e)
chosen false x y z e = inr (refl, e)

pub not_stopped : {A : Type 0} (b : Bool) (x y : A) → cond b None (Some x) ≡ Some y
    → (b ≡ false) × (x ≡ y)
not_stopped true x y e = absurd cc
not_stopped false x y e = (refl, cc)
