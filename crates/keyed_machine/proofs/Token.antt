-- A token comes with an input, may wait in the state of its key, and goes out with the outputs. A
-- token that comes once goes out at most once, over all keys.
use Rattle.std.proofs.Common.{◌≡◌, ◌⊎◌, inl, inr, ℕ, zero, suc, ◌+◌, ◌≤◌, true, false, cond, List, [], ◌∷◌, ◌++◌, refl, sym, ◌∙◌, ap, subst, add_assoc, zero-add, arith}
use Rattle.std.specs.Prelude.{Option}
use Rattle.std.specs.declared.cmp.Ordering.{Ordering}
use Rattle.std.specs.Cmp.{IsTotalOrder}
use Rattle.std.specs.BTreeMap.{is_at}
use Rattle.std.specs.List.{flat_map}
use Rattle.std.proofs.lemmas.Bool.{false≢true}
use Rattle.std.proofs.lemmas.Map.Lookups.{CmpEqualImpliesEq}
use Rattle.keyed_machine.specs.declared.item.Item.{Item}
use Rattle.keyed_machine.specs.Machine.{Machine, adds, next}
use Rattle.keyed_machine.specs.Phase.{stepped, states_then, told_items}
use Rattle.keyed_machine.proofs.Ordered.{by_bool, exact_at, is_at_itself}

by_zero : {G : Type 0} (n : ℕ) → (n ≡ 0 → G) → (1 ≤ n → G) → G
by_zero zero on_zero on_more = on_zero refl
by_zero (suc n) on_zero on_more = on_more (omega arith)

module _ {K S : Type 0} (cmp : K → K → Ordering) (waits : Option S → ℕ) where
  abbrev pub NoneWaits : (K → Option S) → Type 0
  NoneWaits states = (q : K) → waits (states q) ≡ 0

  -- at most one token waits, in the state of one key only
  pub record OneWaits (states : K → Option S) : Type 0 where
    pub home : K
    pub few : (q : K) → waits (states q) ≤ 1
    pub elsewhere : (q : K) → is_at (cmp home) q ≡ false → waits (states q) ≡ 0

  -- if so many tokens come, at most so many may still go out
  pub record Budget (most : ℕ) (states : K → Option S) (coming : ℕ) : Type 0 where
    pub single : most ≤ 1
    pub kept : (NoneWaits states × (coming ≤ most))
        ⊎ (OneWaits states × (coming ≡ 0) × (1 ≤ most))

  -- so many went out, and what may still go out
  pub record Spent (most gone : ℕ) (states : K → Option S) (coming : ℕ) : Type 0 where
    pub left : ℕ
    pub within : gone + left ≤ most
    pub budget : Budget left states coming

  pub budget_from : (states : K → Option S) (coming : ℕ) → coming ≤ 1 → NoneWaits states
      → Budget 1 states coming
  budget_from states coming few none = record { single = omega arith; kept = inl (none, few) }

  -- no more tokens of a key wait than before
  pub budget_kept : (most : ℕ) (states after : K → Option S) (coming : ℕ)
      → ((q : K) → waits (after q) ≤ waits (states q)) → Budget most states coming
      → Budget most after coming
  budget_kept most states after coming less budget =
      record { single = budget.single; kept = by_kept budget.kept }
    where
      by_kept : ((NoneWaits states × (coming ≤ most))
          ⊎ (OneWaits states × (coming ≡ 0) × (1 ≤ most)))
          → (NoneWaits after × (coming ≤ most)) ⊎ (OneWaits after × (coming ≡ 0) × (1 ≤ most))
      by_kept (inl none) = inl (λ q. omega (arith, less q, none.0 q), none.1)
      by_kept (inr one) = inr (
        record {
          home = (one.0).home;
          few = λ q. omega (arith, less q, (one.0).few q);
          elsewhere = λ q off. omega (arith, less q, (one.0).elsewhere q off);
        },
        one.1,
        one.2,
      )

module _ {K S I O : Type 0} {cmp : K → K → Ordering} (total : IsTotalOrder cmp)
    (exact : CmpEqualImpliesEq cmp) (machine : Machine K S I O) (waits : Option S → ℕ)
    (comes : I → ℕ) (goes : List O → ℕ) where
  -- what one input does with the token
  abbrev pub KeepsToken : Type 0
  KeepsToken = (key : K) (state : Option S) (input : I)
      → goes (adds machine key state input) + waits (next machine key state input)
      ≤ comes input + waits state

  abbrev pub GoesInParts : Type 0
  GoesInParts = (goes [] ≡ 0) × ((xs ys : List O) → goes (xs ++ ys) ≡ goes xs + goes ys)

  -- how many tokens come with items
  abbrev pub coming_with : List (Item K I) → ℕ
  coming_with [] = 0
  coming_with (item ∷ items) = comes item.input + coming_with items

  -- the states after a step of one key
  module _ (states : K → Option S) (item : Item K I) where
    abbrev after : Option S
    after = next machine item.key (states item.key) item.input

    abbrev gone : ℕ
    gone = goes (adds machine item.key (states item.key) item.input)

    at_hit : (q : K) → is_at (cmp item.key) q ≡ true
        → waits (stepped cmp machine states item q) ≡ waits after
    at_hit q hit = ap (λ b. waits (cond b after (states q))) hit

    at_miss : (q : K) → is_at (cmp item.key) q ≡ false
        → waits (stepped cmp machine states item q) ≡ waits (states q)
    at_miss q miss = ap (λ b. waits (cond b after (states q))) miss

    each : (most : ℕ) (q : K) → waits after ≤ most
        → (is_at (cmp item.key) q ≡ false → waits (states q) ≤ most)
        → waits (stepped cmp machine states item q) ≤ most
    each most q here there =
        by_bool (is_at (cmp item.key) q)
        (λ hit. omega (arith, at_hit q hit, here))
        (λ miss. omega (arith, at_miss q miss, there miss))

    -- no token waited
    spend_none : (most coming : ℕ) → gone + waits after ≤ comes item.input + waits (states item.key)
        → most ≤ 1 → NoneWaits cmp waits states → comes item.input + coming ≤ most
        → Spent cmp waits most gone (stepped cmp machine states item) coming
    spend_none most coming kept single none few =
        by_zero (waits after)
        (λ over. record {
          left = coming;
          within = omega (arith, kept, none item.key, few);
          budget = record {
            single = omega (arith, few, single);
            kept = inl (
              λ q. omega (arith, each 0 q (omega (arith, over)) (λ miss. omega (arith, none q))),
              omega arith,
            );
          };
        })
        (λ more. record {
          left = 1;
          within = omega (arith, kept, none item.key, few, more);
          budget = record {
            single = omega arith;
            kept = inr (
              record {
                home = item.key;
                few = λ q. each 1 q (omega (arith, kept, none item.key, few, single))
                    (λ miss. omega (arith, none q));
                elsewhere = λ q off. at_miss q off ∙ none q;
              },
              omega (arith, kept, none item.key, few, single, more),
              omega arith,
            );
          };
        })

    -- one token waited, and none comes
    spend_one : (most coming : ℕ) → gone + waits after ≤ comes item.input + waits (states item.key)
        → OneWaits cmp waits states → comes item.input + coming ≡ 0 → 1 ≤ most
        → Spent cmp waits most gone (stepped cmp machine states item) coming
    spend_one most coming kept one nothing some =
        by_zero gone
        (λ none_gone. record {
          left = 1;
          within = omega (arith, none_gone, some);
          budget = record {
            single = omega arith;
            kept = inr (
              record {
                home = one.home;
                few = λ q. each 1 q (omega (arith, kept, nothing, one.few item.key))
                    (λ miss. one.few q);
                elsewhere = elsewhere;
              },
              omega (arith, nothing),
              omega arith,
            );
          };
        })
        (λ is_gone. record {
          left = 0;
          within = omega (arith, kept, nothing, one.few item.key, some);
          budget = record {
            single = omega arith;
            kept = inl (
              λ q. omega (
                arith,
                each 0 q (omega (arith, kept, nothing, one.few item.key, is_gone))
                    (λ miss. omega (arith, nowhere is_gone q miss)),
              ),
              omega (arith, nothing),
            );
          };
        })
      where
        here_none : (q : K) → is_at (cmp one.home) q ≡ false → item.key ≡ q
            → waits (states item.key) ≡ 0
        here_none q off same = ap (λ k. waits (states k)) same ∙ one.elsewhere q off

        elsewhere : (q : K) → is_at (cmp one.home) q ≡ false
            → waits (stepped cmp machine states item q) ≡ 0
        elsewhere q off =
            by_bool (is_at (cmp item.key) q)
            (λ hit. let none = here_none q off (exact_at total exact item.key q hit) in
            at_hit q hit ∙ omega (arith, kept, nothing, none))
            (λ miss. at_miss q miss ∙ one.elsewhere q off)

        -- the token was here, so it is nowhere else
        nowhere : 1 ≤ gone → (q : K) → is_at (cmp item.key) q ≡ false → waits (states q) ≡ 0
        nowhere is_gone q miss =
            by_bool (is_at (cmp one.home) q)
            (λ there. by_bool (is_at (cmp one.home) item.key)
            (λ here.
            let same : item.key ≡ q =
            sym (exact_at total exact one.home item.key here)
            ∙ exact_at total exact one.home q there in
            absurd (false≢true (sym miss ∙ ap (λ k. is_at (cmp item.key) k) (sym same)
            ∙ is_at_itself total item.key)))
            (λ off. absurd (omega (arith, kept, nothing, is_gone, one.elsewhere item.key off))))
            (λ off. one.elsewhere q off)

  -- the tokens that a step sends out
  spend : KeepsToken → (most : ℕ) (states : K → Option S) (item : Item K I) (coming : ℕ)
      → Budget cmp waits most states (comes item.input + coming)
      → Spent cmp waits most (gone states item) (stepped cmp machine states item) coming
  spend keeps most states item coming budget = by_kept budget.kept
    where
      by_kept : ((NoneWaits cmp waits states × (comes item.input + coming ≤ most))
          ⊎ (OneWaits cmp waits states × (comes item.input + coming ≡ 0) × (1 ≤ most)))
          → Spent cmp waits most (gone states item) (stepped cmp machine states item) coming
      by_kept (inl none) =
          spend_none states item most coming (keeps item.key (states item.key) item.input)
          budget.single none.0 none.1
      by_kept (inr one) =
          spend_one states item most coming (keeps item.key (states item.key) item.input)
          one.0 one.1 one.2

  -- the tokens that items send out
  pub spend_items : KeepsToken → GoesInParts → (most : ℕ) (states : K → Option S)
      (items : List (Item K I)) (coming : ℕ)
      → Budget cmp waits most states (coming_with items + coming)
      → Spent cmp waits most
      (goes (flat_map (λ said. said.1) (told_items cmp machine states items)))
      (states_then cmp machine states items) coming
  spend_items keeps parts most states [] coming budget =
      record {
        left = most;
        within = omega (arith, parts.0);
        budget = subst (Budget cmp waits most states) (zero-add coming) budget;
      }
  spend_items keeps parts most states (item ∷ items) coming budget =
      let first = spend keeps most states item (coming_with items + coming)
      (subst (Budget cmp waits most states)
      (add_assoc (comes item.input) (coming_with items) coming) budget) in
      let rest = spend_items keeps parts first.left (stepped cmp machine states item) items coming
      first.budget in
      let outs = adds machine item.key (states item.key) item.input in
      let later = flat_map (λ said. said.1)
      (told_items cmp machine (stepped cmp machine states item) items) in
      record {
        left = rest.left;
        within = omega (arith, first.within, rest.within, parts.1 outs later);
        budget = rest.budget;
      }
