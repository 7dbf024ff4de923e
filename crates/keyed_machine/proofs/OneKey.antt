-- One key: after its step a schedule has each key at the moment at which its state is due.
use Rattle.std.proofs.Common.{◌≡◌, ℕ, List, cond, sym, ◌∙◌, ap}
use Rattle.std.specs.Prelude.{Option, None}
use Rattle.std.specs.declared.cmp.Ordering.{Ordering}
use Rattle.std.specs.BTreeMap.{is_at}
use Rattle.sip_timers.specs.Index.{IsIndexOf, with_moment}
use Rattle.sip_timers.proofs.Schedules.{index_of_same}
use Rattle.keyed_machine.specs.Machine.{due_of}
use Rattle.keyed_machine.specs.Table.{AreDues}
use Rattle.keyed_machine.proofs.Ordered.{by_bool}

pub dues_after : {K S : Type 0} (cmp : K → K → Ordering) (due : S → Option ℕ) (key : K)
    (after : Option S) (moment : Option ℕ) (old newer : K → Option S) (dues : List (ℕ × K))
    → moment ≡ due_of due after
    → ((q : K) → newer q ≡ cond (is_at (cmp key) q) after (old q))
    → IsIndexOf cmp (with_moment cmp (λ q. due_of due (old q)) key moment) dues
    → AreDues cmp due newer dues
dues_after {K} cmp due key after moment old newer dues same puts index =
    index_of_same cmp (with_moment cmp (λ q. due_of due (old q)) key moment)
    (λ q. due_of due (newer q)) dues
    (λ q. by_bool (is_at (cmp key) q)
    (λ hit. ap (λ b. cond b moment (due_of due (old q))) hit ∙ same
    ∙ ap (due_of due) (sym (puts q ∙ ap (λ b. cond b after (old q)) hit)))
    (λ miss. ap (λ b. cond b moment (due_of due (old q))) miss
    ∙ ap (due_of due) (sym (puts q ∙ ap (λ b. cond b after (old q)) miss))))
    index

-- a key whose state was taken out gets what a step makes of it: it alone changes
module _ {K S : Type 0} (cmp : K → K → Ordering) (key held : K) (same : key ≡ held)
    (step : Option S → Option S) (state after : Option S) (stepped : after ≡ step state) where
  pub put_after_taken : (old between newer : K → Option S) → state ≡ old key
      → ((q : K) → between q ≡ cond (is_at (cmp key) q) None (old q))
      → ((q : K) → newer q ≡ cond (is_at (cmp held) q) after (between q))
      → (q : K) → newer q ≡ cond (is_at (cmp key) q) (step (old key)) (old q)
  put_after_taken old between newer found taken put q =
      put q ∙ (λ i. cond (is_at (cmp (sym same i)) q) ((stepped ∙ ap step found) i) (between q))
      ∙ by_bool (is_at (cmp key) q)
      (λ hit. ap (λ b. cond b (step (old key)) (between q)) hit
      ∙ sym (ap (λ b. cond b (step (old key)) (old q)) hit))
      (λ miss. ap (λ b. cond b (step (old key)) (between q)) miss
      ∙ (taken q ∙ ap (λ b. cond b None (old q)) miss)
      ∙ sym (ap (λ b. cond b (step (old key)) (old q)) miss))

  -- and it is due when the state that it gets is
  pub due_after_taken : (due : S → Option ℕ) (former : Option S) (moments : K → Option ℕ)
      (dues : List (ℕ × K)) → state ≡ former
      → IsIndexOf cmp (with_moment cmp moments held (due_of due after)) dues
      → IsIndexOf cmp (with_moment cmp moments key (due_of due (step former))) dues
  due_after_taken due former moments dues found =
      index_of_same cmp (with_moment cmp moments held (due_of due after))
      (with_moment cmp moments key (due_of due (step former))) dues
      (λ q i. with_moment cmp moments (sym same i) (due_of due ((stepped ∙ ap step found) i)) q)
