-- Held keys, moved one by one to the tables of their owners.
use Rattle.std.proofs.Common.{◌≡◌, ℕ, zero, suc, ◌+◌, ◌<◌, true, false, cond, List, [], ◌∷◌, length, get_or, nat_eq, nat_lt, refl, sym, ◌∙◌, ap, subst, arith}
use Rattle.std.specs.Prelude.{All, Option, None, Some, IsSome, slice_set}
use Rattle.std.specs.Option.{option_or}
use Rattle.std.specs.declared.cmp.Ordering.{Ordering}
use Rattle.std.specs.Cmp.{IsTotalOrder, eq_by_cmp_equiv}
use Rattle.std.specs.Ordering.{eq_by_cmp}
use Rattle.std.specs.List.{IsDistinct}
use Rattle.std.specs.Map.{keys_of}
use Rattle.std.specs.BTreeMap.{is_at}
use Rattle.std.proofs.lemmas.Grind.{common_steps}
use Rattle.std.proofs.lemmas.List.{get_or-set_same, get_or-set_other}
use Rattle.std.proofs.lemmas.Map.{lookup-none}
use Rattle.std.proofs.lemmas.Map.Entries.{none_past_head}
use Rattle.std.proofs.lemmas.Map.Keys.{IsDistinct-tail}
use Rattle.std.proofs.lemmas.Map.Lookups.{CmpEqualImpliesEq}
use Rattle.keyed_machine.specs.Laws.{ShardsHoldApart}
use Rattle.keyed_machine.specs.Machine.{Machine}
use Rattle.keyed_machine.specs.Phase.{Phase, states_after}
use Rattle.keyed_machine.specs.Shards.{HoldFrom, is_owned}
use Rattle.keyed_machine.specs.Table.{Held, state_at, state_in}
use Rattle.keyed_machine.proofs.Ordered.{by_bool, exact_at, is_at_back, is_at_itself}
use Rattle.sip_shards.specs.Steps.Transfer.{AreOwners, held_by_owner}
use Rattle.sip_shards.proofs.Cutting.{nat_eq_true, nat_eq_false, set_long}

-- the tables after a key was put into its owner's
pub record OnePut {K S : Type 0} (cmp : K → K → Ordering) (owner : K → ℕ) (key : K) (state : S)
    (old new : List (Held K S)) : Type 0 where
  pub count : length new ≡ length old
  pub owners : AreOwners cmp owner new
  pub states : (q : K) → held_by_owner cmp owner new q
      ≡ cond (is_at (cmp key) q) (Some state) (held_by_owner cmp owner old q)

module _ {K : Type 0} {cmp : K → K → Ordering} (total : IsTotalOrder cmp)
    (exact : CmpEqualImpliesEq cmp) (owner : K → ℕ) where
  not_here : (key q : K) (k : ℕ) → k ≡ owner key → nat_eq (owner q) k ≡ false
      → is_at (cmp key) q ≡ false
  not_here key q k at other = by_bool (is_at (cmp key) q)
      (λ hit. absurd (nat_eq_false other
      (ap owner (sym (exact_at total exact key q hit)) ∙ sym at)))
      (λ miss. miss)

module _ {K S : Type 0} {cmp : K → K → Ordering} (total : IsTotalOrder cmp)
    (exact : CmpEqualImpliesEq cmp) (owner : K → ℕ) where
  pub one_put : (tables : List (Held K S)) (k : ℕ) (key : K) (state : S) (newer : Held K S)
      → k ≡ owner key → k < length tables → IsSome newer
      → ((q : K) → state_at cmp newer q
      ≡ cond (is_at (cmp key) q) (Some state) (state_at cmp (get_or tables k None) q))
      → AreOwners cmp owner tables → OnePut cmp owner key state tables (slice_set tables k newer)
  one_put tables k key state newer at inside sound put apart = record {
    count = set_long tables k newer;
    owners = record {
      sound = λ j below.
          let within : j < length tables = omega (arith, below, set_long tables k newer) in
          by_bool (nat_eq j k)
          (λ here. subst (λ n. IsSome (get_or (slice_set tables k newer) n None))
          (sym (nat_eq_true here)) (subst IsSome
          (sym (get_or-set_same tables k newer None inside)) sound))
          (λ there. subst IsSome (sym (get_or-set_other tables k j newer None (nat_eq_false there)))
          (apart.sound j within));
      alone = λ j q below other.
          let within : j < length tables = omega (arith, below, set_long tables k newer) in
          by_bool (nat_eq j k)
          (λ here.
          let same : j ≡ k = nat_eq_true here in
          let foreign : nat_eq (owner q) k ≡ false =
          subst (λ n. nat_eq (owner q) n ≡ false) same other in
          ap (λ n. state_at cmp (get_or (slice_set tables k newer) n None) q) same
          ∙ ap (λ t. state_at cmp t q) (get_or-set_same tables k newer None inside)
          ∙ put q
          ∙ ap (λ b. cond b (Some state) (state_at cmp (get_or tables k None) q))
          (not_here total exact owner key q k at foreign)
          ∙ apart.alone k q inside foreign)
          (λ there. ap (λ t. state_at cmp t q)
          (get_or-set_other tables k j newer None (nat_eq_false there))
          ∙ apart.alone j q within other);
    };
    states = λ q.
        by_bool (nat_eq (owner q) k)
        (λ mine.
        let same : owner q ≡ k = nat_eq_true mine in
        ap (λ n. state_at cmp (get_or (slice_set tables k newer) n None) q) same
        ∙ ap (λ t. state_at cmp t q) (get_or-set_same tables k newer None inside)
        ∙ put q
        ∙ ap (λ n. cond (is_at (cmp key) q) (Some state) (state_at cmp (get_or tables n None) q))
        (sym same))
        (λ other.
        ap (λ t. state_at cmp t q) (get_or-set_other tables k (owner q) newer None
        (nat_eq_false other))
        ∙ sym (ap (λ b. cond b (Some state) (held_by_owner cmp owner tables q))
        (not_here total exact owner key q k at other)));
  }

  -- the keys left in a map, over those moved, are the keys that there were
  pub still_all : (rest rest_old : K → Option S) (moved moved_new : K → Option S) (key : K)
      (state : S) → rest_old key ≡ Some state
      → ((q : K) → rest q ≡ cond (is_at (cmp key) q) None (rest_old q))
      → ((q : K) → moved_new q ≡ cond (is_at (cmp key) q) (Some state) (moved q))
      → (q : K) → option_or (rest q) (moved_new q) ≡ option_or (rest_old q) (moved q)
  still_all rest rest_old moved moved_new key state has left put q =
      by_bool (is_at (cmp key) q)
      (λ hit.
      ap (λ r. option_or r (moved_new q)) (left q ∙ ap (λ b. cond b None (rest_old q)) hit)
      ∙ put q ∙ ap (λ b. cond b (Some state) (moved q)) hit
      ∙ sym (ap (λ r. option_or r (moved q))
      (ap rest_old (sym (exact_at total exact key q hit)) ∙ has)))
      (λ miss.
      ap (λ r. option_or r (moved_new q)) (left q ∙ ap (λ b. cond b None (rest_old q)) miss)
      ∙ ap (option_or (rest_old q)) (put q ∙ ap (λ b. cond b (Some state) (moved q)) miss))

  -- the first of the keys that are left, and those after it
  pub record FirstLeft (entries rest : List (K × S)) (key : K) (state : S) : Type 0 where
    pub has : state_in cmp entries key ≡ Some state
    pub without : (q : K) → state_in cmp rest q
        ≡ cond (is_at (cmp key) q) None (state_in cmp entries q)
    pub apart : IsDistinct (eq_by_cmp cmp) (keys_of rest)

  first_of_these : (key : K) (state : S) (rest : List (K × S))
      → IsDistinct (eq_by_cmp cmp) (keys_of ((key, state) ∷ rest))
      → FirstLeft ((key, state) ∷ rest) rest key state
  first_of_these key state rest apart = record {
    has = ap (λ b. cond b (Some state) (state_in cmp rest key)) (is_at_itself total key);
    without = λ q. by_bool (is_at (cmp key) q)
        (λ hit. lookup-none (is_at (cmp q)) rest
        (none_past_head (eq_by_cmp_equiv total) q (key, state) rest apart
        (is_at_back total key q true hit))
        ∙ sym (ap (λ b. cond b None (state_in cmp ((key, state) ∷ rest) q)) hit))
        (λ miss.
        sym (ap (λ b. cond b (Some state) (state_in cmp rest q))
        (is_at_back total key q false miss))
        ∙ sym (ap (λ b. cond b None (state_in cmp ((key, state) ∷ rest) q)) miss));
    apart = IsDistinct-tail (eq_by_cmp cmp) key (keys_of rest) apart;
  }

  pub first_left : (entries rest : List (K × S)) (key : K) (state : S)
      → entries ≡ (key, state) ∷ rest → IsDistinct (eq_by_cmp cmp) (keys_of entries)
      → FirstLeft entries rest key state
  first_left entries rest key state are apart =
      subst (λ es. FirstLeft es rest key state) (sym are) (first_of_these key state rest
      (subst (λ es. IsDistinct (eq_by_cmp cmp) (keys_of es)) are apart))

  -- the keys left in one table, and those moved from it
  pub record TableLeft (shards : ℕ) (all rest : K → Option S)
      (old moved : List (Held K S)) : Type 0 where
    pub count : length moved ≡ shards
    pub owners : AreOwners cmp owner moved
    pub both : (q : K) → option_or (rest q) (held_by_owner cmp owner moved q)
        ≡ option_or (all q) (held_by_owner cmp owner old q)

  pub one_less : (shards : ℕ) (all rest_old rest : K → Option S) (old tables : List (Held K S))
      (k : ℕ) (key : K) (state : S) (newer : Held K S) → k ≡ owner key → k < shards → IsSome newer
      → ((q : K) → state_at cmp newer q
      ≡ cond (is_at (cmp key) q) (Some state) (state_at cmp (get_or tables k None) q))
      → rest_old key ≡ Some state → ((q : K) → rest q ≡ cond (is_at (cmp key) q) None (rest_old q))
      → TableLeft shards all rest_old old tables
      → TableLeft shards all rest old (slice_set tables k newer)
  one_less shards all rest_old rest old tables k key state newer at inside sound put has left_is
      left =
      let after = one_put tables k key state newer at
      (omega (arith, inside, left.count)) sound put left.owners in
      record {
        count = after.count ∙ left.count;
        owners = after.owners;
        both = λ q. still_all rest rest_old (held_by_owner cmp owner tables)
            (held_by_owner cmp owner (slice_set tables k newer)) key state has left_is after.states
            q ∙ left.both q;
      }

-- ---- all tables

-- the tables that are left, and the keys moved from those before them
pub record TransferLeft {K S I O : Type 0} (cmp : K → K → Ordering) (machine : Machine K S I O)
    (tick : ℕ → I) (owner : K → ℕ) (shards : ℕ) (all rest moved : List (Held K S)) : Type 0 where
  pub count : length moved ≡ shards
  pub owners : AreOwners cmp owner moved
  pub number : ℕ
  pub place : number + length rest ≡ length all
  pub left : (old_owner : K → ℕ) (phases : List (Phase K I))
      → HoldFrom cmp machine tick old_owner zero all phases
      → HoldFrom cmp machine tick old_owner number rest phases
  pub done : (old_owner : K → ℕ) (phases : List (Phase K I))
      → HoldFrom cmp machine tick old_owner zero all phases
      → (q : K) → held_by_owner cmp owner moved q
      ≡ cond (nat_lt (old_owner q) number) (states_after cmp machine tick phases q) None

module _ {K S I O : Type 0} (cmp : K → K → Ordering) (machine : Machine K S I O) (tick : ℕ → I)
    (apart : ShardsHoldApart cmp machine tick) (owner : K → ℕ) where
  pub nothing_moved : (all moved : List (Held K S)) → All (λ table. table ≡ Some []) moved
      → ((q : K) → owner q < length moved)
      → TransferLeft cmp machine tick owner (length moved) all all moved
  nothing_moved all moved empty within = record {
    count = refl;
    owners = record {
      sound = λ k below. subst IsSome (sym (empty k None below)) refl;
      alone = λ k q below other. ap (λ t. state_at cmp t q) (empty k None below);
    };
    number = zero;
    place = omega arith;
    left = λ old_owner phases holds. holds;
    done = λ old_owner phases holds q. ap (λ t. state_at cmp t q) (empty (owner q) None (within q))
        ∙ none_below (old_owner q) (states_after cmp machine tick phases q);
  }
    where
      never : (n : ℕ) → false ≡ nat_lt n 0
      never n = grind (arith, common_steps)

      none_below : {X : Type 0} (n : ℕ) (x : Option X) → None ≡ cond (nat_lt n 0) x None
      none_below n x = ap (λ b. cond b x None) (never n)

  -- one more table is moved
  pub one_moved : (shards : ℕ) (all : List (Held K S)) (table : Held K S)
      (rest moved moved_new : List (Held K S)) → length moved_new ≡ length moved
      → AreOwners cmp owner moved_new
      → ((q : K) → held_by_owner cmp owner moved_new q
      ≡ option_or (state_at cmp table q) (held_by_owner cmp owner moved q))
      → TransferLeft cmp machine tick owner shards all (table ∷ rest) moved
      → TransferLeft cmp machine tick owner shards all rest moved_new
  one_moved shards all table rest moved moved_new count owners states before = record {
    count = count ∙ before.count;
    owners = owners;
    number = suc before.number;
    place = omega (arith, before.place);
    left = λ old_owner phases holds. (before.left old_owner phases holds).1;
    done = λ old_owner phases holds q.
        let here : state_at cmp table q
        ≡ cond (is_owned old_owner before.number q)
        (states_after cmp machine tick phases q) None =
        ((before.left old_owner phases holds).0).states q
        ∙ apart (is_owned old_owner before.number) phases q in
        states q ∙ ap (λ s. option_or s (held_by_owner cmp owner moved q)) here
        ∙ ap (option_or (cond (is_owned old_owner before.number q)
        (states_after cmp machine tick phases q) None)) (before.done old_owner phases holds q)
        ∙ one_more (old_owner q) before.number (states_after cmp machine tick phases q);
  }
    where
      same_below : (n k : ℕ) → nat_eq n k ≡ true → nat_lt n (suc k) ≡ true
      same_below n k e = grind (arith, common_steps, e)

      same_not_below : (n k : ℕ) → nat_eq n k ≡ true → nat_lt n k ≡ false
      same_not_below n k e = grind (arith, common_steps, e)

      other_below : (n k : ℕ) → nat_eq n k ≡ false → nat_lt n (suc k) ≡ nat_lt n k
      other_below n k e = grind (arith, common_steps, e)

      or_none : {X : Type 0} (x : Option X) → option_or x None ≡ x
      or_none None = refl
      or_none (Some x) = refl

      one_more : {X : Type 0} (n k : ℕ) (x : Option X)
          → option_or (cond (nat_eq n k) x None) (cond (nat_lt n k) x None)
          ≡ cond (nat_lt n (suc k)) x None
      one_more n k x =
          by_bool (nat_eq n k)
          (λ same.
          ap (λ b. option_or (cond b x None) (cond (nat_lt n k) x None)) same
          ∙ ap (λ b. option_or x (cond b x None)) (same_not_below n k same) ∙ or_none x
          ∙ sym (ap (λ b. cond b x None) (same_below n k same)))
          (λ other.
          ap (λ b. option_or (cond b x None) (cond (nat_lt n k) x None)) other
          ∙ sym (ap (λ b. cond b x None) (other_below n k other)))

  hold_from : (number : ℕ) (tables : List (Held K S)) (phases : List (Phase K I))
      → ((k : ℕ) → k < length tables → IsSome (get_or tables k None))
      → ((k : ℕ) (q : K) → k < length tables
      → state_at cmp (get_or tables k None) q
      ≡ cond (is_owned owner (number + k) q) (states_after cmp machine tick phases q) None)
      → HoldFrom cmp machine tick owner number tables phases
  hold_from number [] phases sound states = tt
  hold_from number (table ∷ tables) phases sound states = (
    record {
      sound = sound 0 (omega arith);
      states = λ q. states 0 q (omega arith)
          ∙ ap (λ n. cond (is_owned owner n q) (states_after cmp machine tick phases q) None)
          (at_first number) ∙ sym (apart (is_owned owner number) phases q);
    },
    hold_from (suc number) tables phases (λ k below. sound (suc k) (omega (arith, below)))
        (λ k q below. states (suc k) q (omega (arith, below))
        ∙ ap (λ n. cond (is_owned owner n q) (states_after cmp machine tick phases q) None)
        (later number k)),
  )
    where
      at_first : (n : ℕ) → n + 0 ≡ n
      at_first n = omega arith

      later : (n k : ℕ) → n + suc k ≡ suc n + k
      later n k = omega arith

  -- all are moved
  pub all_moved : (shards : ℕ) (all moved : List (Held K S))
      → TransferLeft cmp machine tick owner shards all [] moved → ((q : K) → owner q < shards)
      → (old_owner : K → ℕ) (phases : List (Phase K I)) → ((q : K) → old_owner q < length all)
      → HoldFrom cmp machine tick old_owner zero all phases
      → HoldFrom cmp machine tick owner zero moved phases
  all_moved shards all moved left within old_owner phases old_within holds =
      hold_from zero moved phases left.owners.sound
      (λ k q below. from_here k q below
      ∙ ap (λ n. cond (is_owned owner n q) (states_after cmp machine tick phases q) None)
      (plain k))
    where
      plain : (k : ℕ) → k ≡ 0 + k
      plain k = omega arith

      is_below : (n k : ℕ) → n < length all → k + 0 ≡ length all → nat_lt n k ≡ true
      is_below n k below whole = grind (arith, common_steps, below, whole)

      from_here : (k : ℕ) (q : K) → k < length moved
          → state_at cmp (get_or moved k None) q
          ≡ cond (is_owned owner k q) (states_after cmp machine tick phases q) None
      from_here k q below =
          by_bool (is_owned owner k q)
          (λ mine.
          ap (λ n. state_at cmp (get_or moved n None) q) (sym (nat_eq_true mine))
          ∙ left.done old_owner phases holds q
          ∙ ap (λ b. cond b (states_after cmp machine tick phases q) None)
          (is_below (old_owner q) left.number (old_within q) left.place)
          ∙ sym (ap (λ b. cond b (states_after cmp machine tick phases q) None) mine))
          (λ other. left.owners.alone k q below other
          ∙ sym (ap (λ b. cond b (states_after cmp machine tick phases q) None) other))
