-- A run in the middle of its rounds.
use Rattle.std.proofs.Common.{◌≡◌, ℕ, suc, ◌+◌, ◌<◌, ◌≤◌, Bool, true, false, List, [], ◌∷◌, ◌++◌, map, length, take, drop, get_or, Vec, Global, refl, sym, ◌∙◌, ap, subst, inl, inr, arith, if◌then◌else◌}
use Rattle.std.proofs.lemmas.List.{map-append, take-append-drop, length-take-le}
use Rattle.std.proofs.Math.Seq.{take-suc, drop-cons}
use Rattle.std.specs.Prelude.{Option, None, Some, is_some, IfSome, Result, Ok, Err, OnErr, ◌⊎◌}
use Rattle.sip_round.specs.declared.config.Config.{Config}
use Rattle.sip_round.specs.declared.output.Output.{Output}
use Rattle.sip_round.specs.declared.round.Round.{Round}
use Rattle.sip_round.specs.declared.round_fault.RoundFault.{RoundFault}
use Rattle.sip_round.specs.declared.round_fault.RoundFault.TheVariants.{Broken, NoMemory}
use Rattle.sip_round.specs.AgentState.{AgentState, round_fault, refusal_of}
use Rattle.sip_round.specs.Answers.{answers, last_moment, last_moment_from, refused, refused_or, refused_from, EndsWithoutMemory, StandsFor}
use Rattle.sip_round.proofs.Runs.{refused_from-push}

-- the agent stands for the first rounds; their answers were made, and none of them was refused
pub record RunsSoFar {C : Type 0} (shard_of : C → List ℕ → ℕ → ℕ) (config : Config)
    (rounds : List Round) (index : ℕ) (agent : AgentState C)
    (made : List (Vec Output Global)) : Type 0 where
  pub stands : StandsFor shard_of agent config (take index rounds)
  pub answered : map (λ outputs. outputs.items) made ≡ answers config (take index rounds)
  pub unrefused : refused config (take index rounds) ≡ None

none_taken : (rounds : List Round) → [] ≡ take 0 rounds
none_taken [] = refl
none_taken (r ∷ rs) = refl

pub at_start : {C : Type 0} (shard_of : C → List ℕ → ℕ → ℕ) (config : Config) (rounds : List Round)
    (agent : AgentState C) (made : List (Vec Output Global)) → StandsFor shard_of agent config []
    → made ≡ [] → RunsSoFar shard_of config rounds 0 agent made
unfolding answers refused
at_start shard_of config rounds agent made stands none = record {
  stands = subst (StandsFor shard_of agent config) (none_taken rounds) stands;
  answered = ap (map (λ outputs. outputs.items)) none ∙ ap (answers config) (none_taken rounds);
  unrefused = ap (refused config) (sym (none_taken rounds));
}

module _ {C : Type 0} (shard_of : C → List ℕ → ℕ → ℕ) where
  unbroken : (agent : AgentState C) (config : Config) (rounds : List Round) (round : Round)
      → StandsFor shard_of agent config rounds
      → refusal_of agent round ≡ round_fault agent.last_moment agent.next_round round
  unbroken agent config rounds round stands =
      ap (λ held. if is_some held then round_fault agent.last_moment agent.next_round round
      else Some Broken) stands.sound

  -- an agent that stands for rounds refuses what the rounds refuse
  same_fault : (agent : AgentState C) (config : Config) (rounds : List Round) (round : Round)
      → StandsFor shard_of agent config rounds
      → refusal_of agent round ≡ round_fault (last_moment_from 0 rounds)
      (config.first + length rounds) round
  unfolding last_moment
  same_fault agent config rounds round stands =
      unbroken agent config rounds round stands
      ∙ ap (λ m. round_fault m agent.next_round round) stands.moment
      ∙ ap (λ n. round_fault (last_moment_from 0 rounds) n round) stands.number

  one_taken : (rounds : List Round) (index : ℕ) (round : Round) → index < length rounds
      → round ≡ get_or rounds index round
      → take index rounds ++ round ∷ [] ≡ take (index + 1) rounds
  one_taken rounds index round within item =
      let one : suc index ≡ index + 1 = omega arith in
      ap (λ r. take index rounds ++ r ∷ []) item ∙ sym (take-suc rounds index round within)
      ∙ ap (λ n. take n rounds) one

  -- if the agent refuses no round up to this one, none of these rounds is refused
  pub one_unrefused : (config : Config) (rounds : List Round) (index : ℕ) (round : Round)
      (agent : AgentState C) (made : List (Vec Output Global))
      → RunsSoFar shard_of config rounds index agent made → index < length rounds
      → round ≡ get_or rounds index round → refusal_of agent round ≡ None
      → refused config (take (index + 1) rounds) ≡ None
  unfolding refused
  one_unrefused config rounds index round agent made so_far within item fine =
      let front = take index rounds in
      ap (refused config) (sym (one_taken rounds index round within item))
      ∙ refused_from-push config.first 0 0 front round [] so_far.unrefused
      ∙ ap (λ f. refused_or f (0 + length front) None)
      (sym (same_fault agent config front round so_far.stands) ∙ fine)

  pub one_more : (config : Config) (rounds : List Round) (index : ℕ) (round : Round)
      (old new : AgentState C) (made newer : List (Vec Output Global)) (outputs : Vec Output Global)
      → RunsSoFar shard_of config rounds index old made → index < length rounds
      → round ≡ get_or rounds index round → refusal_of old round ≡ None
      → ((config : Config) (rounds : List Round) → StandsFor shard_of old config rounds
      → StandsFor shard_of new config (rounds ++ round ∷ [])
      × (answers config (rounds ++ round ∷ []) ≡ answers config rounds ++ outputs.items ∷ []))
      → newer ≡ made ++ outputs ∷ [] → RunsSoFar shard_of config rounds (index + 1) new newer
  one_more config rounds index round old new made newer outputs so_far within item fine longer
      pushed =
      let front = take index rounds in
      let next = longer config front so_far.stands in
      let taken = one_taken rounds index round within item in
      record {
        stands = subst (StandsFor shard_of new config) taken next.0;
        answered =
            ap (map (λ os. os.items)) pushed ∙ map-append (λ os. os.items) made (outputs ∷ [])
            ∙ ap (λ as_made. as_made ++ outputs.items ∷ []) so_far.answered
            ∙ sym next.1 ∙ ap (answers config) taken;
        unrefused = one_unrefused config rounds index round old made so_far within item fine;
      }

  parts_of : (rounds : List Round) (index : ℕ) (round : Round) → index < length rounds
      → round ≡ get_or rounds index round
      → rounds ≡ take index rounds ++ round ∷ drop (suc index) rounds
  parts_of rounds index round within item =
      sym (take-append-drop index rounds)
      ∙ ap (λ rest. take index rounds ++ rest)
      (drop-cons rounds index round within ∙ ap (λ r. r ∷ drop (suc index) rounds) (sym item))

  at_index : (rounds : List Round) (index : ℕ) → index < length rounds
      → 0 + length (take index rounds) ≡ index
  at_index rounds index within = let below : index ≤ length rounds = omega (arith, within) in
      omega (arith, length-take-le index rounds below)

  told : (config : Config) (rounds : List Round) (index : ℕ) (round : Round) (agent : AgentState C)
      (made : List (Vec Output Global)) (fault : RoundFault)
      → RunsSoFar shard_of config rounds index agent made → index < length rounds
      → round ≡ get_or rounds index round → refusal_of agent round ≡ Some fault
      → refused config rounds ≡ Some (index, fault)
  unfolding refused
  told config rounds index round agent made fault so_far within item found =
      let front = take index rounds in
      ap (refused config) (parts_of rounds index round within item)
      ∙ refused_from-push config.first 0 0 front round
      (drop (suc index) rounds) so_far.unrefused
      ∙ ap (λ f. refused_or f (0 + length front)
      (refused_from (suc (config.first + length front)) round.moment (suc (0 + length front))
      (drop (suc index) rounds))) (sym (same_fault agent config front round so_far.stands)
      ∙ found)
      ∙ ap (λ i. Some (i, fault)) (at_index rounds index within)

  by_option : {A G : Type 0} (o : Option A) → (o ≡ None → G) → ((a : A) → o ≡ Some a → G) → G
  by_option None n s = n refl
  by_option (Some a) n s = s a refl

  -- a round that was answered isn't refused
  pub fine_where_ok : (X : Type 0) {T : Type 0} (refusal : Option RoundFault)
      (r : Result T RoundFault) (x : T) → r ≡ Ok x → IfSome refusal (λ f. (r ≡ Err f) × X)
      → refusal ≡ None
  fine_where_ok X None r x ok clause = refl
  fine_where_ok X (Some f) r x ok clause = let both : Ok x ≡ Err f = sym ok ∙ clause.0 in absurd cc

  same_error : {T : Type 0} (f g : RoundFault) → ◌≡◌ {A = Result T RoundFault} (Err f) (Err g)
      → f ≡ g
  same_error f g e = cc

  by_memory : {T : Type 0} (r : Result T RoundFault) (fault : RoundFault) → r ≡ Err fault
      → OnErr r ((r ≡ Err (NoMemory false)) ⊎ (r ≡ Err (NoMemory true)))
      → (broken : Bool) × (fault ≡ NoMemory broken)
  by_memory r fault err memory =
      pick (subst (λ x. OnErr x ((r ≡ Err (NoMemory false)) ⊎ (r ≡ Err (NoMemory true)))) err
      memory)
    where
      pick : (r ≡ Err (NoMemory false)) ⊎ (r ≡ Err (NoMemory true))
          → (broken : Bool) × (fault ≡ NoMemory broken)
      pick (inl e) = (false, same_error fault (NoMemory false) (sym err ∙ e))
      pick (inr e) = (true, same_error fault (NoMemory true) (sym err ∙ e))

  -- a round that wasn't answered ran out of memory, or is refused
  pub ends : (X : Type 0) {T : Type 0} (config : Config) (rounds : List Round) (index : ℕ)
      (round : Round) (agent : AgentState C) (made : List (Vec Output Global))
      (r : Result T RoundFault) (fault : RoundFault)
      → RunsSoFar shard_of config rounds index agent made → index < length rounds
      → round ≡ get_or rounds index round
      → IfSome (refusal_of agent round) (λ f. (r ≡ Err f) × X)
      → (refusal_of agent round ≡ None
      → OnErr r ((r ≡ Err (NoMemory false)) ⊎ (r ≡ Err (NoMemory true)))) → r ≡ Err fault
      → ((broken : Bool) × (fault ≡ NoMemory broken)
      × EndsWithoutMemory config rounds index broken)
      ⊎ (refused config rounds ≡ Some (index, fault))
  ends X config rounds index round agent made r fault so_far within item refusals memory err =
      by_option (refusal_of agent round)
      (λ none. let met = by_memory r fault err (memory none) in
      inl (
        met.0,
        met.1,
        inr (
          within,
          one_unrefused config rounds index round agent made so_far within item none,
        ),
      ))
      (λ f found. inr (told config rounds index round agent made f so_far within item found
      ∙ ap (λ g. Some (index, g)) (same_error f fault
      (sym (subst (λ o. IfSome o (λ f. (r ≡ Err f) × X)) found refusals).0 ∙ err))))
