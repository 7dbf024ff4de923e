-- What is given and said in rounds is also given and said in those and more rounds.
use Rattle.std.proofs.Common.{◌≡◌, ℕ, ◌+◌, Bool, List, [], ◌∷◌, ◌++◌, map, length, sym, ap, ◌∙◌, subst, ⊎_elim}
use Rattle.std.specs.Prelude.{Contains, filter}
use Rattle.std.specs.declared.cmp.Ordering.{Ordering}
use Rattle.std.proofs.lemmas.Grind.{flat_map-append}
use Rattle.std.proofs.lemmas.List.{map-append}
use Rattle.std.proofs.lemmas.List.Elements.{Contains-append_cases, Contains-append_left, Contains-append_right, filter-append}
use Rattle.keyed_machine.specs.Laws.{said_by}
use Rattle.keyed_machine.specs.Machine.{Machine, Timed, tick_at}
use Rattle.keyed_machine.specs.Phase.{Phase, history, own_inputs}
use Rattle.keyed_machine.specs.Rules.{said_in, said_since}
use Rattle.sip_user.specs.declared.item.CallOut.{CallOut}
use Rattle.sip_calls.specs.Call.{CallItem, call_machine}
use Rattle.sip_calls.specs.CallShard.{call_cmp}
use Rattle.sip_round.specs.declared.config.Config.{Config}
use Rattle.sip_round.specs.declared.output.Output.{Output}
use Rattle.sip_round.specs.declared.round.Round.{Round}
use Rattle.sip_round.specs.Answers.{answer, answers, calls_of, each_from, no_past, past_from, past_of}
use Rattle.sip_round.specs.Given.{all_given}
use Rattle.sip_round.specs.Laws.{call_inputs_of}
use Rattle.sip_round.proofs.GivenNotices.{calls_are, calls_from}
use Rattle.sip_round.proofs.Runs.{each_from-append, past_from-append}
use Rattle.sip_conversation.specs.Conversation.{Side, Turn, is_side, rounds_of}
use Rattle.sip_conversation.specs.Messages.{CallSays}
use Rattle.sip_conversation.proofs.Among.{none_among}

-- ---- turns

pub rounds_of-append : (side : Side) (turns more : List Turn)
    → rounds_of side (turns ++ more) ≡ rounds_of side turns ++ rounds_of side more
rounds_of-append side turns more =
    let own : Turn → Bool = λ turn. is_side side turn.side in
    ap (map (λ turn. turn.round)) (filter-append own turns more)
    ∙ map-append (λ turn. turn.round) (filter own turns) (filter own more)

-- ---- outputs

pub given_longer : (config : Config) (rounds more : List Round) (o : Output)
    → Contains (all_given (answers config rounds)) o
    → Contains (all_given (answers config (rounds ++ more))) o
unfolding answers
given_longer config rounds more o among =
    let before = each_from answer config config.first no_past rounds in
    let later = each_from answer config (config.first + length rounds)
    (past_from config config.first no_past rounds) more in
    subst (λ given. Contains given o)
    (sym (ap all_given (each_from-append config answer config.first no_past rounds more)
    ∙ flat_map-append (λ outputs. outputs) before later))
    (Contains-append_left (all_given before) (all_given later) o among)

-- ---- what calls say

module _ {K S I O : Type 0} (cmp : K → K → Ordering) (machine : Machine K S I O) (tick : ℕ → I)
    (key : K) where
  said_longer : (before phases more : List (Phase K I)) (o : O)
      → Contains (said_since cmp machine tick key before phases) o
      → Contains (said_since cmp machine tick key before (phases ++ more)) o
  said_longer before [] more o among = absurd (none_among o among)
  said_longer before (phase ∷ phases) more o among =
      let here = said_by cmp machine tick key (said_in cmp machine tick before phase) in
      let after = before ++ phase ∷ [] in
      ⊎_elim
      (λ one. Contains-append_left here
      (said_since cmp machine tick key after (phases ++ more)) o one)
      (λ later. Contains-append_right here
      (said_since cmp machine tick key after (phases ++ more)) o
      (said_longer after phases more o later))
      (Contains-append_cases here (said_since cmp machine tick key after phases) o among)

calls_longer : (config : Config) (rounds more : List Round)
    → let past = past_from config config.first no_past rounds in
    (past_from config config.first no_past (rounds ++ more)).calls
    ≡ past.calls ++ calls_from config (config.first + length rounds) past more
calls_longer config rounds more =
    ap (λ p. p.calls) (past_from-append config config.first no_past rounds more)
    ∙ calls_are config (config.first + length rounds)
    (past_from config config.first no_past rounds) more

pub says_longer : (config : Config) (rounds more : List Round) (o : CallOut)
    → CallSays config rounds o → CallSays config (rounds ++ more) o
unfolding past_of
says_longer config rounds more o says =
    let past = past_from config config.first no_past rounds in
    let machine = call_machine (calls_of config) in (
      says.0,
      subst (λ phases. Contains (said_since call_cmp machine tick_at says.0 [] phases) o)
          (sym (calls_longer config rounds more))
          (said_longer call_cmp machine tick_at says.0 [] past.calls
          (calls_from config (config.first + length rounds) past more) o says.1),
    )

-- ---- what calls are given

pub inputs_longer : (config : Config) (rounds more : List Round) (call_id : List ℕ)
    → (later : List (Timed CallItem))
    × (call_inputs_of config (rounds ++ more) call_id
    ≡ call_inputs_of config rounds call_id ++ later)
unfolding past_of
inputs_longer config rounds more call_id =
    let past = past_from config config.first no_past rounds in
    let later = calls_from config (config.first + length rounds) past more in (
      history call_cmp tick_at later call_id,
      ap (λ phases. history call_cmp tick_at phases call_id) (calls_longer config rounds more)
          ∙ flat_map-append (λ phase. own_inputs call_cmp tick_at phase call_id) past.calls later,
    )
