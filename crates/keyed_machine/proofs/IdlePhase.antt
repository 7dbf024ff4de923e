-- A phase without items changes nothing and says nothing, if it has no tick or no key is due at its
-- moment.
use Rattle.std.proofs.Common.{◌≡◌, ℕ, Bool, true, false, cond, List, [], ◌∷◌, map, refl, sym, ◌∙◌, ap}
use Rattle.std.specs.Prelude.{Option, Some, filter}
use Rattle.std.specs.declared.cmp.Ordering.{Ordering}
use Rattle.sip_timers.specs.Queue.{is_due}
use Rattle.keyed_machine.specs.Machine.{Machine, Timed, IsIdle, adds, due_of}
use Rattle.keyed_machine.specs.Table.{state_in, IsCalm}
use Rattle.keyed_machine.specs.Phase.{DealsPhase, phase_at}
use Rattle.keyed_machine.specs.Groups.{speaks, told_ticks}

module _ {K S I O : Type 0} (machine : Machine K S I O) (due : S → Option ℕ) (now : ℕ) (input : I)
    (idle : IsIdle machine due now input) (states : K → Option S)
    (calm : (q : K) → is_due now (due_of due (states q)) ≡ false) where
  says_nothing : (keys : List K) → told_ticks machine states input keys ≡ []
  says_nothing [] = refl
  says_nothing (k ∷ ks) =
      ap (λ (b : Bool). map (λ q. (q, adds machine q (states q) input))
      (cond b (k ∷ filter (λ q. speaks (adds machine q (states q) input)) ks)
      (filter (λ q. speaks (adds machine q (states q) input)) ks)))
      (ap (λ r. speaks r.1) (idle k (states k) (calm k)))
      ∙ says_nothing ks

pub idle_phase : {K S I O : Type 0} (cmp : K → K → Ordering)
    (machine : Machine K S (Timed I) O) (due : S → Option ℕ) (tick : ℕ → Timed I)
    → ((now : ℕ) → IsIdle machine due now (tick now))
    → (entries : List (K × S)) (now : ℕ) (ticks : Bool)
    → (ticks ≡ true → IsCalm due (state_in cmp entries) now)
    → DealsPhase cmp machine tick (Some entries) (Some entries)
    (phase_at now ticks []) [] []
idle_phase cmp machine due tick idle entries now false calm = record {
  sound = refl;
  states = λ key. refl;
  ticks_told = λ keys covers. refl;
  items_told = refl;
}
idle_phase cmp machine due tick idle entries now true calm = record {
  sound = refl;
  states = λ key.
      sym (ap (λ r. r.0) (idle now key (state_in cmp entries key) (calm refl key)));
  ticks_told = λ keys covers.
      sym (says_nothing machine due now (tick now) (idle now) (state_in cmp entries) (calm refl)
      keys);
  items_told = refl;
}
