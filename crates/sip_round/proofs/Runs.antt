-- One more round.
use Rattle.std.proofs.Common.{◌≡◌, ℕ, suc, ◌+◌, List, [], ◌∷◌, ◌++◌, length, map, refl, sym, ◌∙◌, ap, subst, arith}
use Rattle.std.proofs.lemmas.List.{length_push}
use Rattle.std.proofs.lemmas.Option.{same_Some}
use Rattle.std.specs.Prelude.{IfSome, Option, None, Some}
use Rattle.sip_calls.specs.declared.calls.Calls.{Calls}
use Rattle.sip_round.specs.declared.config.Config.{Config}
use Rattle.sip_round.specs.declared.output.Output.{Output}
use Rattle.sip_round.specs.declared.output.PlacedOutput.{PlacedOutput}
use Rattle.sip_round.specs.declared.round.Round.{Round}
use Rattle.sip_round.specs.declared.round_fault.RoundFault.{RoundFault}
use Rattle.sip_round.specs.AgentState.{AgentState, ShardTables, round_fault}
use Rattle.sip_round.specs.Answers.{HoldCalls, HoldTransactions, Past, StandsFor, answer, answers, answers_from, each_from, last_moment, last_moment_from, no_past, past_after, past_from, past_of, placed_answer, placed_answers, refused_from, refused_or}
use Rattle.sip_round.specs.Steps.Form.{in_form}
use Rattle.sip_round.specs.Steps.Led.{Deals, DealsInForm}
use Rattle.sip_round.specs.Steps.OneMore.{GivesOneMore, StandsLonger}

later : (number n : ℕ) → suc number + n ≡ number + suc n
later number n = omega arith

pub at_first : (number : ℕ) → number ≡ number + 0
at_first number = omega arith

module _ (config : Config) where
  pub past_from-append : (number : ℕ) (past : Past) (rounds more : List Round)
      → past_from config number past (rounds ++ more)
      ≡ past_from config (number + length rounds) (past_from config number past rounds) more
  past_from-append number past [] more = ap (λ n. past_from config n past more) (at_first number)
  past_from-append number past (r ∷ rs) more =
      past_from-append (suc number) (past_after config number past r) rs more
      ∙ ap (λ n. past_from config n
      (past_from config (suc number) (past_after config number past r) rs) more)
      (later number (length rs))

  pub each_from-append : {X : Type 0} (gives : Config → ℕ → Past → Round → X) (number : ℕ)
      (past : Past) (rounds more : List Round)
      → each_from gives config number past (rounds ++ more)
      ≡ each_from gives config number past rounds
      ++ each_from gives config (number + length rounds) (past_from config number past rounds) more
  each_from-append gives number past [] more =
      ap (λ n. each_from gives config n past more) (at_first number)
  each_from-append gives number past (r ∷ rs) more =
      ap (λ rest. gives config number past r ∷ rest)
      (each_from-append gives (suc number) (past_after config number past r) rs more
      ∙ ap (λ n. each_from gives config (suc number) (past_after config number past r) rs
      ++ each_from gives config n (past_from config (suc number) (past_after config number past r)
      rs) more) (later number (length rs)))

  pub answers_count : (number : ℕ) (past : Past) (rounds : List Round)
      → length (answers_from config number past rounds) ≡ length rounds
  answers_count number past [] = refl
  answers_count number past (r ∷ rs) =
      ap suc (answers_count (suc number) (past_after config number past r) rs)

last_moment_from-push : (moment : ℕ) (rounds : List Round) (round : Round)
    → last_moment_from moment (rounds ++ round ∷ []) ≡ round.moment
last_moment_from-push moment [] round = refl
last_moment_from-push moment (r ∷ rs) round = last_moment_from-push r.moment rs round

one_later : (next first n more : ℕ) → next ≡ first + n → more ≡ n + 1 → next + 1 ≡ first + more
one_later next first n more e f = omega (arith, e, f)

-- an agent that stood for rounds and has run one more stands for these, and its outputs are the
-- last of the answers
pub stands_longer : {C : Type 0} (shard_of : C → List ℕ → ℕ → ℕ) (old new : AgentState C)
    (config : Config) (rounds : List Round) (round : Round) (outputs : List PlacedOutput)
    → ((shards : ShardTables) → old.shards ≡ Some shards
    → (led : ShardTables) × (new.shards ≡ Some led)
    × Deals old.calls (shard_of old.cut) old.next_round round shards led outputs)
    → new.calls ≡ old.calls → new.cut ≡ old.cut → new.next_round ≡ old.next_round + 1
    → new.last_moment ≡ round.moment → StandsFor shard_of old config rounds
    → StandsLonger shard_of new config rounds round outputs
unfolding past_of answers answer placed_answers last_moment
stands_longer shard_of old new config rounds round outputs leads same_calls same_cut number moment
    before =
    let led = leads before.shards before.sound in
    let past : Past = past_of config rounds in
    let same_past : past_after config old.next_round past round
    ≡ past_of config (rounds ++ round ∷ []) =
    ap (λ n. past_after config n past round) before.number
    ∙ sym (past_from-append config config.first no_past rounds (round ∷ [])) in
    let answered : outputs ≡ placed_answer config (config.first + length rounds) past round =
    led.2.answered config past before.shared before.transactions before.calls
    ∙ ap (λ n. placed_answer config n past round) before.number in
    record {
      stands = record {
        shards = led.0;
        sound = led.1;
        shared = same_calls ∙ before.shared;
        number = number ∙ one_later old.next_round config.first (length rounds) _ before.number
            (length_push rounds round);
        moment = moment ∙ sym (last_moment_from-push 0 rounds round);
        transactions =
            subst (λ cut. HoldTransactions (shard_of cut) led.0
            (past_of config (rounds ++ round ∷ [])).transactions) (sym same_cut)
            (subst (λ p. HoldTransactions (shard_of old.cut) led.0 p.transactions) same_past
            (led.2.transactions config past before.shared before.transactions before.calls));
        calls =
            subst (λ calls. HoldCalls calls (shard_of new.cut) led.0
            (past_of config (rounds ++ round ∷ [])).calls) (sym same_calls)
            (subst (λ cut. HoldCalls old.calls (shard_of cut) led.0
            (past_of config (rounds ++ round ∷ [])).calls) (sym same_cut)
            (subst (λ p. HoldCalls old.calls (shard_of old.cut) led.0 p.calls) same_past
            (led.2.calls config past before.shared before.transactions before.calls)));
      };
      placed = each_from-append config placed_answer config.first no_past rounds (round ∷ [])
          ∙ ap (λ os. placed_answers config rounds ++ os ∷ []) (sym answered);
      alone = each_from-append config answer config.first no_past rounds (round ∷ [])
          ∙ ap (λ os. answers config rounds ++ map (λ placed. placed.output) os ∷ [])
          (sym answered);
    }

-- the same for an agent to which nothing happened in the round, in any form of outputs
pub passed_longer : {C F : Type 0} (shard_of : C → List ℕ → ℕ → ℕ) (form : ℕ → Output → F)
    (old new : AgentState C) (round : Round) (given : List F)
    → new ≡ record old { next_round = old.next_round + 1; last_moment = round.moment }
    → IfSome old.shards (λ shards. Deals old.calls (shard_of old.cut) old.next_round round shards
    shards []) → given ≡ [] → GivesOneMore shard_of form old new round given
passed_longer {C} shard_of form old new round given same deals none = (
  [],
  none,
  λ config rounds stands.
      stands_longer shard_of old new config rounds round []
      (λ shards sound. (
        shards,
        ap (λ (agent : AgentState C). agent.shards) same ∙ sound,
        subst (λ held. IfSome held (λ shards. Deals old.calls (shard_of old.cut) old.next_round
            round shards shards [])) sound deals,
      ))
      (ap (λ (agent : AgentState C). agent.calls) same)
      (ap (λ (agent : AgentState C). agent.cut) same)
      (ap (λ (agent : AgentState C). agent.next_round) same)
      (ap (λ (agent : AgentState C). agent.last_moment) same) stands,
)

-- the same for an agent whose shards went through its phases and came back
pub ended_longer : {C F : Type 0} (shard_of : C → List ℕ → ℕ → ℕ) (form : ℕ → Output → F)
    (old mid new : AgentState C) (round : Round) (given : List F) (before led : ShardTables)
    (calls : Calls) (number : ℕ) → old.shards ≡ Some before
    → calls ≡ old.calls → number ≡ old.next_round → mid ≡ record old { shards = None }
    → new ≡ record mid {
      next_round = mid.next_round + 1;
      last_moment = round.moment;
      shards = Some led;
    } → DealsInForm form calls (shard_of mid.cut) number round before led given
    → GivesOneMore shard_of form old new round given
ended_longer {C} shard_of form old mid new round given before led calls number held same_calls
    same_number mid_is new_is deals =
    let outputs = deals.0 in
    let same : new ≡ record old {
      next_round = old.next_round + 1;
      last_moment = round.moment;
      shards = Some led;
    } = new_is ∙ ap (λ (agent : AgentState C). record agent {
      next_round = agent.next_round + 1;
      last_moment = round.moment;
      shards = Some led;
    }) mid_is in
    let dealt = subst (λ c. Deals c (shard_of old.cut) old.next_round round before led outputs)
    same_calls
    (subst (λ n. Deals calls (shard_of old.cut) n round before led outputs) same_number
    (subst (λ (agent : AgentState C). Deals calls (shard_of agent.cut) number round before led
    outputs) mid_is deals.2)) in (
      outputs,
      deals.1,
      λ config rounds stands.
          stands_longer shard_of old new config rounds round outputs
          (λ shards sound. (
            led,
            ap (λ (agent : AgentState C). agent.shards) same,
            subst (λ tables. Deals old.calls (shard_of old.cut) old.next_round round tables led
                outputs) (same_Some before shards (sym held ∙ sound)) dealt,
          ))
          (ap (λ (agent : AgentState C). agent.calls) same)
          (ap (λ (agent : AgentState C). agent.cut) same)
          (ap (λ (agent : AgentState C). agent.next_round) same)
          (ap (λ (agent : AgentState C). agent.last_moment) same) stands,
    )

-- the same with the places, if outputs are given with these
pub placed_longer : {C : Type 0} (shard_of : C → List ℕ → ℕ → ℕ) (old new : AgentState C)
    (round : Round) (given : List PlacedOutput)
    → GivesOneMore shard_of (λ place output. record { place = place; output = output }) old new
    round given → (config : Config) (rounds : List Round) → StandsFor shard_of old config rounds
    → StandsLonger shard_of new config rounds round given
placed_longer shard_of old new round given gives config rounds stands =
    subst (StandsLonger shard_of new config rounds round) (sym (gives.1 ∙ all_placed gives.0))
    (gives.2 config rounds stands)
  where
    all_placed : (outputs : List PlacedOutput)
        → in_form (λ place output. record { place = place; output = output }) outputs ≡ outputs
    all_placed [] = refl
    all_placed (o ∷ os) = ap (λ more. o ∷ more) (all_placed os)

-- ---- the first round that is refused

-- rounds that aren't refused, with one more
pub refused_from-push : (number moment index : ℕ) (rounds : List Round) (round : Round)
    (more : List Round) → refused_from number moment index rounds ≡ None
    → refused_from number moment index (rounds ++ round ∷ more)
    ≡ refused_from (number + length rounds) (last_moment_from moment rounds) (index + length rounds)
    (round ∷ more)
refused_from-push number moment index [] round more none =
    ap (λ n. refused_from n moment index (round ∷ more)) (at_first number)
    ∙ ap (λ i. refused_from (number + 0) moment i (round ∷ more)) (at_first index)
refused_from-push number moment index (r ∷ rs) round more none =
    by_fault (round_fault moment number r)
    (refused_from-push (suc number) r.moment (suc index) rs round more) none
  where
    by_fault : (fault : Option RoundFault)
        → (refused_from (suc number) r.moment (suc index) rs ≡ None
        → refused_from (suc number) r.moment (suc index) (rs ++ round ∷ more)
        ≡ refused_from (suc number + length rs) (last_moment_from r.moment rs)
        (suc index + length rs) (round ∷ more))
        → refused_or fault index (refused_from (suc number) r.moment (suc index) rs) ≡ None
        → refused_or fault index (refused_from (suc number) r.moment (suc index)
        (rs ++ round ∷ more)) ≡ refused_from (number + length (r ∷ rs))
        (last_moment_from r.moment rs) (index + length (r ∷ rs)) (round ∷ more)
    by_fault (Some fault) rest n = absurd cc
    by_fault None rest n =
        rest n ∙ ap (λ k. refused_from k (last_moment_from r.moment rs) (suc index + length rs)
        (round ∷ more)) (later number (length rs))
        ∙ ap (λ k. refused_from (number + suc (length rs)) (last_moment_from r.moment rs) k
        (round ∷ more)) (later index (length rs))
