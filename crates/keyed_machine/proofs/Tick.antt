-- A tick of the keys that are due: the outputs so far, and the keys that are left.
use Rattle.std.proofs.Common.{◌≡◌, ℕ, Bool, true, false, cond, ◌||◌, List, [], ◌∷◌, ◌++◌, map, refl, sym, ◌∙◌, ap, append_assoc, arith, subst}
use Rattle.std.specs.Prelude.{Option, None, Some, IsSome, filter}
use Rattle.std.specs.declared.cmp.Ordering.{Ordering}
use Rattle.std.specs.declared.vec.Vec.{Vec}
use Rattle.std.specs.Cmp.{IsTotalOrder}
use Rattle.std.specs.BTreeMap.{is_at}
use Rattle.std.specs.List.{list_any, flat_map}
use Rattle.std.specs.List.Sorted.{IsStrictlySortedBy}
use Rattle.std.proofs.lemmas.Map.Keys.{sorted_head, sorted_tail}
use Rattle.std.proofs.lemmas.Map.Lookups.{CmpEqualImpliesEq}
use Rattle.std.proofs.lemmas.Bool.{false≢true}
use Rattle.std.proofs.lemmas.Grind.{common_steps}
use Rattle.sip_timers.specs.Queue.{is_due, if_later}
use Rattle.sip_timers.specs.Index.{IsIndexOf, with_moment}
use Rattle.sip_timers.proofs.Schedules.{index_of_same}
use Rattle.keyed_machine.specs.Machine.{Machine, IsIdle, next, adds, due_of}
use Rattle.keyed_machine.specs.Table.{Covers}
use Rattle.keyed_machine.specs.Groups.{speaks, groups, told_ticks, with_said}
use Rattle.keyed_machine.proofs.Ordered.{by_bool, is_at_back, is_at_itself, none_below, exact_at, flat_map-filter, same_filtered}

-- of a tick over `all`, `rest` is left: the states and the due moments now, and the outputs so far
pub record TickLeft {K S I O : Type 0} (cmp : K → K → Ordering) (machine : Machine K S I O)
    (due : S → Option ℕ) (input : I) (old : K → Option S) (all rest : List K)
    (states : K → Option S) (dues : List (ℕ × K)) (told : List (K × List O)) : Type 0 where
  pub ordered : IsStrictlySortedBy cmp rest
  pub waiting : (q : K) → list_any (is_at (cmp q)) rest ≡ true → states q ≡ old q
  pub done : (q : K) → list_any (is_at (cmp q)) rest ≡ false
      → states q ≡ next machine q (old q) input
  pub armed : IsIndexOf cmp
      (λ q. cond (list_any (is_at (cmp q)) rest) None (due_of due (states q))) dues
  pub said : told ++ told_ticks machine old input rest ≡ told_ticks machine old input all

-- the same where it is known that no key is left
pub none_left : {K S I O : Type 0} {cmp : K → K → Ordering} {machine : Machine K S I O}
    {due : S → Option ℕ} {input : I} {old : K → Option S} {all rest : List K}
    {states : K → Option S} {dues : List (ℕ × K)} {told : List (K × List O)}
    → TickLeft cmp machine due input old all rest states dues told → rest ≡ []
    → TickLeft cmp machine due input old all [] states dues told
none_left {cmp = cmp} {machine = machine} {due = due} {input = input} {old = old} {all = all}
    {states = states} {dues = dues} {told = told} left none =
    subst (λ ks. TickLeft cmp machine due input old all ks states dues told) none left

-- a key that says something to a tick has a state
pub has_state : {K S I O : Type 0} (machine : Machine K S I O) (due : S → Option ℕ) (now : ℕ)
    (input : I) → IsIdle machine due now input
    → (q : K) (state : Option S) → speaks (adds machine q state input) ≡ true → IsSome state
has_state machine due now input idle q None said =
    absurd (false≢true (sym (ap (λ r. speaks r.1) (idle q None refl)) ∙ said))
has_state machine due now input idle q (Some s) said = refl

later_kept : (now : ℕ) (o : Option ℕ) → is_due now o ≡ false → if_later now o ≡ o
later_kept now None e = refl
later_kept now (Some due) e = grind (arith, common_steps, e)

none_later : (now : ℕ) (o : Option ℕ) → is_due now o ≡ true → if_later now o ≡ None
none_later now None e = refl
none_later now (Some due) e = grind (arith, common_steps, e)

module _ {K S I O : Type 0} {cmp : K → K → Ordering} (total : IsTotalOrder cmp)
    (exact : CmpEqualImpliesEq cmp) (machine : Machine K S I O) (due : S → Option ℕ)
    (input : I) where
  pub tick_left_at_first : (now : ℕ) → IsIdle machine due now input
      → (old : K → Option S) (keys : List K) (left : List (ℕ × K))
      → IsStrictlySortedBy cmp keys
      → ((q : K) → list_any (is_at (cmp q)) keys ≡ is_due now (due_of due (old q)))
      → IsIndexOf cmp (λ q. if_later now (due_of due (old q))) left
      → TickLeft cmp machine due input old keys keys old left []
  tick_left_at_first now idle old keys left ordered given later = record {
    ordered = ordered;
    waiting = λ q here. refl;
    done = λ q gone. sym (ap (λ r. r.0) (idle q (old q) (sym (given q) ∙ gone)));
    armed = index_of_same cmp (λ q. if_later now (due_of due (old q)))
        (λ q. cond (list_any (is_at (cmp q)) keys) None (due_of due (old q))) left
        (λ q. by_bool (is_due now (due_of due (old q)))
        (λ is. none_later now (due_of due (old q)) is
        ∙ sym (ap (λ b. cond b None (due_of due (old q))) (given q ∙ is)))
        (λ not. later_kept now (due_of due (old q)) not
        ∙ sym (ap (λ b. cond b None (due_of due (old q))) (given q ∙ not))))
        later;
    said = refl;
  }

  told_first : (old : K → Option S) (told : List (K × List O)) (k : K) (rest : List K)
      (outputs : List O) → outputs ≡ adds machine k (old k) input
      → with_said told k outputs ++ told_ticks machine old input rest ≡ told
      ++ told_ticks machine old input (k ∷ rest)
  told_first old told k rest outputs is =
      append_assoc told (cond (speaks outputs) ((k, outputs) ∷ []) [])
      (told_ticks machine old input rest)
      ∙ ap (λ more. told ++ more) (ap
      (λ os. cond (speaks os) ((k, os) ∷ []) [] ++ told_ticks machine old input rest) is
      ∙ by_speech (speaks (adds machine k (old k) input)))
    where
      group : K → K × List O
      group q = (q, adds machine q (old q) input)

      by_speech : (b : Bool) → cond b (group k ∷ []) []
          ++ told_ticks machine old input rest
          ≡ map group (cond b (k ∷ filter (λ q. speaks (adds machine q (old q) input)) rest)
          (filter (λ q. speaks (adds machine q (old q) input)) rest))
      by_speech true = refl
      by_speech false = refl

  among_tail : (q k : K) (rest : List K) (b : Bool) → is_at (cmp k) q ≡ false
      → list_any (is_at (cmp q)) rest ≡ b → list_any (is_at (cmp q)) (k ∷ rest) ≡ b
  among_tail q k rest b miss is =
      ap (λ x. x || list_any (is_at (cmp q)) rest) (is_at_back total k q false miss) ∙ is

  pub tick_left_more : (old : K → Option S) (all rest : List K) (k : K)
      (states newer : K → Option S) (dues later : List (ℕ × K)) (told : List (K × List O))
      (outputs : List O)
      → TickLeft cmp machine due input old all (k ∷ rest) states dues told
      → ((q : K) → newer q ≡ cond (is_at (cmp k) q) (next machine k (states k) input) (states q))
      → ((moments : K → Option ℕ) → IsIndexOf cmp moments dues → moments k ≡ None
      → IsIndexOf cmp (with_moment cmp moments k (due_of due (next machine k (states k) input)))
      later)
      → outputs ≡ adds machine k (states k) input
      → TickLeft cmp machine due input old all rest newer later (with_said told k outputs)
  tick_left_more old all rest k states newer dues later told outputs left steps arms says =
      let here : states k ≡ old k =
      left.waiting k (ap (λ b. b || list_any (is_at (cmp k)) rest) (is_at_itself total k)) in
      let after : next machine k (states k) input ≡ next machine k (old k) input =
      ap (λ s. next machine k s input) here in
      let gone : list_any (is_at (cmp k)) rest ≡ false =
      none_below total k rest (sorted_head cmp k rest left.ordered) in
      let before : K → Option ℕ =
      λ q. cond (list_any (is_at (cmp q)) (k ∷ rest)) None (due_of due (states q)) in
      record {
        ordered = sorted_tail cmp k rest left.ordered;
        waiting = λ q among. by_bool (is_at (cmp k) q)
            (λ hit. absurd (false≢true (sym gone
            ∙ ap (λ x. list_any (is_at (cmp x)) rest) (exact_at total exact k q hit) ∙ among)))
            (λ miss. steps q ∙ ap (λ b. cond b (next machine k (states k) input) (states q)) miss
            ∙ left.waiting q (among_tail q k rest true miss among));
        done = λ q absent. by_bool (is_at (cmp k) q)
            (λ hit. steps q ∙ ap (λ b. cond b (next machine k (states k) input) (states q)) hit
            ∙ after ∙ ap (λ x. next machine x (old x) input) (exact_at total exact k q hit))
            (λ miss. steps q ∙ ap (λ b. cond b (next machine k (states k) input) (states q)) miss
            ∙ left.done q (among_tail q k rest false miss absent));
        armed = index_of_same cmp
            (with_moment cmp before k (due_of due (next machine k (states k) input)))
            (λ q. cond (list_any (is_at (cmp q)) rest) None (due_of due (newer q))) later
            (λ q. by_bool (is_at (cmp k) q)
            (λ hit. ap (λ b. cond b (due_of due (next machine k (states k) input)) (before q)) hit
            ∙ ap (due_of due) (sym (steps q
            ∙ ap (λ b. cond b (next machine k (states k) input) (states q)) hit))
            ∙ sym (ap (λ b. cond b None (due_of due (newer q)))
            (sym (ap (λ x. list_any (is_at (cmp x)) rest) (exact_at total exact k q hit)) ∙ gone)))
            (λ miss. ap (λ b. cond b (due_of due (next machine k (states k) input)) (before q)) miss
            ∙ ap (λ b. cond (b || list_any (is_at (cmp q)) rest) None (due_of due (states q)))
            (is_at_back total k q false miss)
            ∙ ap (λ s. cond (list_any (is_at (cmp q)) rest) None (due_of due s)) (sym (steps q
            ∙ ap (λ b. cond b (next machine k (states k) input) (states q)) miss))))
            (arms before left.armed (ap (λ b. cond (b || list_any (is_at (cmp k)) rest) None
            (due_of due (states k))) (is_at_itself total k)));
        said = told_first old told k rest outputs
            (says ∙ ap (λ s. adds machine k s input) here)
            ∙ left.said;
      }

  -- the outputs of the due keys are those of any keys that include all held ones
  pub told_by_due : (now : ℕ) → IsIdle machine due now input
      → (old : K → Option S) (keys : List K) → IsStrictlySortedBy cmp keys
      → ((q : K) → list_any (is_at (cmp q)) keys ≡ is_due now (due_of due (old q)))
      → (held : List K)
      → Covers cmp held old
      → told_ticks machine old input keys ≡ told_ticks machine old input held
  told_by_due now idle old keys ordered given held covers =
      ap (map (λ q. (q, adds machine q (old q) input)))
      (same_filtered total exact (λ q. speaks (adds machine q (old q) input)) keys held ordered
      covers.ordered
      (λ q said.
      by_bool (is_due now (due_of due (old q)))
      (λ is. given q ∙ is
      ∙ sym (covers.each q (has_state machine due now input idle q (old q) said)))
      (λ not. absurd (false≢true (sym (ap (λ r. speaks r.1) (idle q (old q) not)) ∙ said)))))

-- ---- all outputs, joined

module _ {K O : Type 0} where
  pub flat_map-groups : {Z : Type 0} (told : List (K × Vec O Z))
      → flat_map (λ group. group.1.items) told
      ≡ flat_map (λ (group : K × List O). group.1) (groups told)
  flat_map-groups [] = refl
  flat_map-groups (g ∷ gs) = ap (λ rest. g.1.items ++ rest) (flat_map-groups gs)

  flat_map-told : (says : K → List O) (keys : List K)
      → flat_map (λ (group : K × List O). group.1) (map (λ key. (key, says key)) keys)
      ≡ flat_map says keys
  flat_map-told says [] = refl
  flat_map-told says (k ∷ ks) = ap (λ rest. says k ++ rest) (flat_map-told says ks)

pub silence : {O : Type 0} (outputs : List O) → speaks outputs ≡ false → outputs ≡ []
silence [] e = refl
silence (o ∷ os) e = absurd (false≢true (sym e))

-- the outputs of some keys, joined, are what all of them say
pub joined_told : {K S I O Z : Type 0} (machine : Machine K S I O) (states : K → Option S)
    (tick : I) (keys : List K) (told : List (K × Vec O Z)) (outputs : List O)
    → groups told ≡ told_ticks machine states tick keys
    → outputs ≡ flat_map (λ group. group.1.items) told
    → outputs ≡ flat_map (λ key. adds machine key (states key) tick) keys
joined_told {K} {S} {I} {O} machine states tick keys told outputs is joins =
    joins ∙ flat_map-groups told ∙ ap (flat_map (λ (group : K × List O). group.1)) is
    ∙ flat_map-told (λ key. adds machine key (states key) tick)
    (filter (λ key. speaks (adds machine key (states key) tick)) keys)
    ∙ flat_map-filter (λ key. adds machine key (states key) tick)
    (λ key. speaks (adds machine key (states key) tick)) (λ key off. silence _ off) keys
