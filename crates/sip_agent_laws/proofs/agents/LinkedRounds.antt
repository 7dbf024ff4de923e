-- After any rounds each transaction without a final response belongs to a call that holds its
-- request.
use Rattle.std.proofs.Common.{◌≡◌, ℕ, suc, ◌≤◌, List, [], ◌∷◌, ◌++◌, refl, sym, ap, ◌∙◌, append-nil, append_assoc, subst}
use Rattle.std.specs.Prelude.{None}
use Rattle.std.proofs.lemmas.Grind.{flat_map-append}
use Rattle.sip_message.specs.declared.id.Id.{Id}
use Rattle.sip_message.specs.declared.key.Key.{Key}
use Rattle.keyed_machine.specs.Machine.{Timed, tick_at}
use Rattle.keyed_machine.specs.Phase.{Phase, history, inputs_of, own_inputs, timed_items}
use Rattle.sip_held_dialogs.proofs.Starts.{starts}
use Rattle.sip_calls.specs.Call.{CallItem, call_step}
use Rattle.sip_calls.specs.CallShard.{call_cmp}
use Rattle.sip_calls.specs.HeldById.{RequestsRise}
use Rattle.sip_calls.proofs.CallStarts.{how_many, ids_of}
use Rattle.sip_round.specs.declared.config.Config.{Config}
use Rattle.sip_round.specs.declared.round.Round.{Round}
use Rattle.sip_round.specs.Answers.{Past, calls_of, given_second, items_of_round, no_past, past_after, past_from, past_of, second}
use Rattle.sip_round.specs.Phases.{call_items}
use Rattle.sip_round.proofs.GivenNotices.{AreOwnCalls, calls_are, calls_from, own_from}
use Rattle.sip_round.proofs.RequestsDiffer.{brought_rise}
use Rattle.sip_round.proofs.StartedOnce.{started_once}
use Rattle.sip_agent_laws.proofs.agents.Apart.{never_both, requests_from, same_ids, starts_from}
use Rattle.sip_agent_laws.proofs.agents.Items.{requests_among}
use Rattle.sip_agent_laws.proofs.agents.Linked.{IsLinked, calls_in, linked_after}
use Rattle.sip_agent_laws.proofs.agents.Lists.{Among, among_left}
use Rattle.sip_agent_laws.proofs.agents.SecondPhase.{fewer_counted}
use Rattle.sip_agent_laws.proofs.agents.Sound.{Behind, first_rise, one_more}
use Rattle.sip_agent_laws.proofs.histories.CallsAfter.{same_call}

abbrev pub given_to : List (Phase (List ℕ) (Timed CallItem)) → List ℕ → List (Timed CallItem)
given_to phases q = history call_cmp tick_at phases q

module _ (config : Config) where
  -- the inputs of a call in the second phase of a round
  abbrev pub own : ℕ → Past → Round → List ℕ → List (Timed CallItem)
  own number past round q = tick_at round.moment ∷ inputs_of call_cmp
      (timed_items round.moment (call_items 0 (items_of_round config number past round))) q

  own_is : (number : ℕ) (past : Past) (round : Round) (q : List ℕ)
      → own_inputs call_cmp tick_at (second config number past round) q ≡ own number past round q
  unfolding second
  own_is number past round q = refl

  pub own_so_far : (number : ℕ) (past : Past) (round : Round) (q : List ℕ)
      → given_to (past.calls ++ second config number past round ∷ []) q
      ≡ given_to past.calls q ++ own number past round q
  own_so_far number past round q =
      flat_map-append (λ (phase : Phase (List ℕ) (Timed CallItem)). own_inputs call_cmp tick_at
      phase q) past.calls (second config number past round ∷ [])
      ∙ ap (λ inputs. given_to past.calls q ++ inputs)
      (append-nil (own_inputs call_cmp tick_at (second config number past round) q)
      ∙ own_is number past round q)

  module _ (number : ℕ) (past : Past) (round : Round) (later : List (Timed CallItem)) (q : List ℕ)
      (rise : RequestsRise (given_to past.calls q ++ (own number past round q ++ later))) where
    pub behind_so : Behind (calls_of config)
        (call_step (calls_of config) (calls_in config past q) None round.moment).0
        (inputs_of call_cmp
        (timed_items round.moment (call_items 0 (items_of_round config number past round))) q)
    behind_so =
        let before = given_to past.calls q in
        let tick : Timed CallItem = tick_at round.moment in
        let here = inputs_of call_cmp
        (timed_items round.moment (call_items 0 (items_of_round config number past round))) q in
        record {
          before = before ++ tick ∷ [];
          is = one_more (calls_of config) None before tick
              ∙ ap (λ call. (call_step (calls_of config) call None round.moment).0)
              (same_call (calls_of config) q None before);
          rise = subst RequestsRise (sym (append_assoc before (tick ∷ []) here))
              (first_rise (before ++ tick ∷ here) later
              (subst RequestsRise (sym (append_assoc before (tick ∷ here) later)) rise));
        }

  -- in these rounds no id is started twice, and none under which a request comes up
  pub record IsFair (number : ℕ) (past : Past) (rounds : List Round) (said : List (Id × Key))
      (came : List Id) : Type 0 where
    pub once : (x : Id) → how_many x (ids_of (said ++ starts_from config number past rounds)) ≤ 1
    pub apart : (x : Id) (key : Key) → Among (said ++ starts_from config number past rounds) (x, key)
        → Among (came ++ requests_from config number past rounds) x → ⊥
    pub rise : (q : List ℕ) → RequestsRise
        (given_to past.calls q ++ given_to (calls_from config number past rounds) q)
    pub own_calls : AreOwnCalls config past.calls

  pub fair_next : (number : ℕ) (past : Past) (round : Round) (rounds : List Round)
      (said : List (Id × Key)) (came : List Id)
      → IsFair number past (round ∷ rounds) said came
      → IsFair (suc number) (past_after config number past round) rounds
      (said ++ starts (given_second config number past round))
      (came ++ requests_among (items_of_round config number past round))
  unfolding past_after
  fair_next number past round rounds said came fair =
      let next = past_after config number past round in
      let here = starts (given_second config number past round) in
      let more = starts_from config (suc number) next rounds in
      let items = requests_among (items_of_round config number past round) in
      let later = requests_from config (suc number) next rounds in
      record {
        once = λ x. subst (λ all. how_many x (ids_of all) ≤ 1) (sym (append_assoc said here more))
            (fair.once x);
        apart = λ x key started requested. fair.apart x key
            (subst (λ all. Among all (x, key)) (append_assoc said here more) started)
            (subst (λ all. Among all x) (append_assoc came items later) requested);
        rise = λ q.
            let rest = given_to (calls_from config (suc number) next rounds) q in
            subst RequestsRise
            (sym (ap (λ inputs. inputs ++ rest) (own_so_far number past round q)
            ∙ append_assoc (given_to past.calls q) (own number past round q) rest))
            (subst (λ inputs. RequestsRise (given_to past.calls q ++ (inputs ++ rest)))
            (own_is number past round q) (fair.rise q));
        own_calls = own_from config [] number past (round ∷ []) fair.own_calls;
      }

  -- what a round needs of these
  module _ (number : ℕ) (past : Past) (round : Round) (rounds : List Round)
      (said : List (Id × Key)) (came : List Id)
      (fair : IsFair number past (round ∷ rounds) said came)
    where
      abbrev here : List (Id × Key)
      here = starts (given_second config number past round)

      abbrev more : List (Id × Key)
      more = starts_from config (suc number) (past_after config number past round) rounds

      abbrev items : List Id
      items = requests_among (items_of_round config number past round)

      abbrev later : List Id
      later = requests_from config (suc number) (past_after config number past round) rounds

      pub once_now : (x : Id) → how_many x (ids_of (said ++ here)) ≤ 1
      once_now x =
          fewer_counted x (said ++ here) more
          (subst (λ all. how_many x (ids_of all) ≤ 1) (sym (append_assoc said here more))
          (fair.once x))

      pub apart_now : (x : Id) (key : Key) → Among (said ++ here) (x, key)
          → Among (came ++ items) x → ⊥
      apart_now x key started requested =
          fair.apart x key
          (subst (λ all. Among all (x, key)) (append_assoc said here more)
          (among_left (said ++ here) more (x, key) started))
          (subst (λ all. Among all x) (append_assoc came items later)
          (among_left (came ++ items) later x requested))

      pub behind_now : (q : List ℕ) → Behind (calls_of config)
          (call_step (calls_of config) (calls_in config past q) None round.moment).0
          (inputs_of call_cmp
          (timed_items round.moment (call_items 0 (items_of_round config number past round))) q)
      behind_now q =
          let rest = given_to (calls_from config (suc number) (past_after config number past round)
          rounds) q in
          behind_so number past round rest q
          (subst (λ inputs. RequestsRise (given_to past.calls q ++ (inputs ++ rest)))
          (own_is number past round q) (fair.rise q))

      pub linked_next : IsLinked config past said came
          → IsLinked config (past_after config number past round) (said ++ here) (came ++ items)
      linked_next linked =
          linked_after config number past round said came linked once_now apart_now behind_now
          fair.own_calls

  linked_from : (rounds : List Round) (number : ℕ) (past : Past) (said : List (Id × Key))
      (came : List Id) → IsFair number past rounds said came → IsLinked config past said came
      → (all : List (Id × Key)) × (every : List Id)
      × IsLinked config (past_from config number past rounds) all every
  linked_from [] number past said came fair linked = (said, came, linked)
  linked_from (round ∷ rounds) number past said came fair linked =
      linked_from rounds (suc number) (past_after config number past round)
      (said ++ starts (given_second config number past round))
      (came ++ requests_among (items_of_round config number past round))
      (fair_next number past round rounds said came fair)
      (linked_next number past round rounds said came fair linked)

  pub nothing_linked : IsLinked config no_past [] []
  nothing_linked = record {
    started = λ q client life is. absurd cc;
    received = λ q serves life is. absurd cc;
    served = λ k serves life is still. absurd cc;
    asked = λ k commanded client life is still. absurd cc;
  }

  pub all_fair : (rounds : List Round) → IsFair config.first no_past rounds [] []
  unfolding past_of
  all_fair rounds = record {
    once = λ x. subst (λ ids. how_many x ids ≤ 1)
        (sym (same_ids config config.first no_past rounds)) (started_once config rounds x);
    apart = never_both config rounds;
    rise = λ q. subst (λ phases. RequestsRise (given_to phases q))
        (calls_are config config.first no_past rounds) (brought_rise config q rounds);
    own_calls = λ key. tt;
  }

  -- after any rounds
  pub rounds_linked : (rounds : List Round) → (all : List (Id × Key)) × (every : List Id)
      × IsLinked config (past_of config rounds) all every
  unfolding past_of
  rounds_linked rounds =
      linked_from rounds config.first no_past [] [] (all_fair rounds) nothing_linked
