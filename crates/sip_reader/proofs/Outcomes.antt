-- Steps that gave a value or a fault.
use Rattle.std.proofs.Common.{◌≡◌, inl, inr, List, ◌∷◌, Option, Some, None, Result, Ok, Err, refl, ap}
use Rattle.sip_message.specs.declared.fault.ReadFault.{ReadFault}
use Rattle.sip_headers.specs.Faults.{Decides}
use Rattle.sip_reader.specs.ReadMessage.{◌>>=◌, or_fault}

pub same_Ok : {A : Type 0} (x y : A) → ◌≡◌ {A = Result A ReadFault} (Ok x) (Ok y) → x ≡ y
same_Ok x y e = cc

pub step_ok : {A B : Type 0} (e : ReadFault) (o : Option A) (f : A → Result B ReadFault) (y : B)
    → (or_fault e o >>= f) ≡ Ok y → (x : A) × (o ≡ Some x) × (f x ≡ Ok y)
step_ok e None f y p = absurd cc
step_ok e (Some x) f y p = (x, refl, p)

pub result_ok : {A B : Type 0} (r : Result A ReadFault) (f : A → Result B ReadFault) (y : B)
    → (r >>= f) ≡ Ok y → (x : A) × (r ≡ Ok x) × (f x ≡ Ok y)
result_ok (Err e) f y p = absurd cc
result_ok (Ok x) f y p = (x, refl, p)

pub step_again : {A B : Type 0} (e : ReadFault) (o : Option A) (f : A → Result B ReadFault) (x : A)
    → o ≡ Some x → (or_fault e o >>= f) ≡ f x
step_again e o f x is = ap (λ q. or_fault e q >>= f) is

pub result_again : {A B : Type 0} (r : Result A ReadFault) (f : A → Result B ReadFault) (x : A)
    → r ≡ Ok x → (r >>= f) ≡ f x
result_again r f x is = ap (λ q. q >>= f) is

-- ---- the first fault

pub no_such : {X : Type 0} (C : ReadFault → Type 0) (e : ReadFault) (es : List ReadFault)
    (r : Result X ReadFault) → (C e → ⊥) → Decides C es r → Decides C (e ∷ es) r
no_such C e es (Ok x) none more = (none, more)
no_such C e es (Err f) none more = inr (none, more)

pub step_decides : {A X : Type 0} (C : ReadFault → Type 0) (e : ReadFault) (es : List ReadFault)
    (o : Option A) (f : A → Result X ReadFault) → (o ≡ None → C e)
    → ((x : A) → o ≡ Some x → (C e → ⊥) × Decides C es (f x))
    → Decides C (e ∷ es) (or_fault e o >>= f)
step_decides C e es None f there more = inl (refl, there refl)
step_decides C e es (Some x) f there more =
    let rest = more x refl in no_such C e es (f x) rest.0 rest.1
