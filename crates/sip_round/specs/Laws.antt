-- Laws of every transaction and every call over whole runs.
use Rattle.std.specs.Prelude.{◌≡◌, ◌≢◌, ℕ, false, List, [], ◌++◌, AllPairs, None, Some}
use Rattle.std.specs.List.{list_any}
use Rattle.sip_message.specs.declared.id.Id.{Id}
use Rattle.sip_message.specs.Key.{key_cmp}
use Rattle.sip_message.specs.declared.key.Key.{Key}
use Rattle.keyed_machine.specs.Machine.{LifeIn, Timed, outputs_from, said_after, said_at_first, said_in_rest, state_left, tick_at}
use Rattle.keyed_machine.specs.Phase.{history}
use Rattle.keyed_machine.specs.Rules.{said_since}
use Rattle.sip_transactions.specs.declared.input.Input.{Input}
use Rattle.sip_transactions.specs.declared.output.Out.{Out}
use Rattle.sip_transactions.specs.Laws.{IsServer, carries, id_of, requests_in}
use Rattle.sip_transactions.specs.Machine.{transaction_machine}
use Rattle.sip_held_dialogs.specs.declared.held_dialog.DialogReference.{DialogReference}
use Rattle.sip_user.specs.declared.item.CallOut.{CallOut}
use Rattle.sip_calls.specs.Call.{call_machine, CallItem}
use Rattle.sip_calls.specs.CallShard.{call_cmp}
use Rattle.sip_calls.specs.Provisionals.{AnInvite, IsConsecutive, came, in_order, reported}
use Rattle.sip_round.specs.declared.config.Config.{Config}
use Rattle.sip_round.specs.declared.round.Round.{Round}
use Rattle.sip_round.specs.Answers.{calls_of, past_of}

-- all that a transaction is given in rounds, oldest first
abbrev pub inputs_of : Config → List Round → Key → List (Timed Input)
inputs_of config rounds key = history key_cmp tick_at (past_of config rounds).transactions key

-- all that the phases of these rounds say for a transaction, in order
abbrev pub said_of : Config → List Round → Key → List Out
said_of config rounds key =
    said_since key_cmp transaction_machine tick_at key [] (past_of config rounds).transactions

-- what rounds say for a transaction is what is said before a life, to its first input, to the rest
-- of it, and after it; its request is handed up with the first input, and not again
pub record OneRequestSaid (said : List Out) (key : Key) (inputs : List (Timed Input))
    (life : LifeIn transaction_machine key inputs) : Type 0 where
  pub said_in_order : said ≡ outputs_from transaction_machine key None life.before
      ++ (said_at_first life ++ (said_in_rest life ++ said_after life))
  pub once : requests_in (said_at_first life) ≡ 1
  pub no_more : requests_in (said_in_rest life) ≡ 0

-- each life of a server transaction hands its request up once, with its first input
abbrev pub OneRequestInLives : Config → List Round → Type 0
OneRequestInLives config rounds =
    (key : Key) → IsServer key
    → (life : LifeIn transaction_machine key (inputs_of config rounds key))
    → OneRequestSaid (said_of config rounds key) key (inputs_of config rounds key) life

-- in any rounds
abbrev pub OneRequestInEachLife : Type 0
OneRequestInEachLife = (config : Config) (rounds : List Round) → OneRequestInLives config rounds

-- nothing is handed up under the id of a life after it has ended
abbrev pub NothingAfterEnds : Config → List Round → Type 0
NothingAfterEnds config rounds =
    (key : Key) (life : LifeIn transaction_machine key (inputs_of config rounds key)) (id : Id)
    → state_left life ≡ None → id_of life.first.input ≡ Some id
    → list_any (carries id) (said_after life) ≡ false

-- in any rounds
abbrev pub NothingAfterEachEnd : Type 0
NothingAfterEachEnd = (config : Config) (rounds : List Round) → NothingAfterEnds config rounds

-- ---- calls

-- all that a call is given in rounds, oldest first
abbrev pub call_inputs_of : Config → List Round → List ℕ → List (Timed CallItem)
call_inputs_of config rounds call_id =
    history call_cmp tick_at (past_of config rounds).calls call_id

-- all that the phases of these rounds say for a call, in order
abbrev pub said_of_call : Config → List Round → List ℕ → List CallOut
said_of_call config rounds call_id =
    said_since call_cmp (call_machine (calls_of config)) tick_at call_id []
    (past_of config rounds).calls

-- What rounds say for a call is what its inputs add, in order. Of the reliable provisional
-- responses to an INVITE that came with these in one life of a dialog, those in order are shown,
-- and so each once.
pub record ProvisionalsShown (config : Config) (rounds : List Round) (call_id : List ℕ)
    (invite : AnInvite) (life : DialogReference) : Type 0 where
  pub said_in_order : said_of_call config rounds call_id
      ≡ outputs_from (call_machine (calls_of config)) call_id None
      (call_inputs_of config rounds call_id)
  pub shown_in_order : reported (calls_of config) invite life (call_inputs_of config rounds call_id)
      ≡ in_order (came (calls_of config) invite life (call_inputs_of config rounds call_id))
  pub consecutive : IsConsecutive
      (reported (calls_of config) invite life (call_inputs_of config rounds call_id))
  pub once : AllPairs (λ x y. x ≢ y)
      (reported (calls_of config) invite life (call_inputs_of config rounds call_id))

-- for every call, INVITE and life of a dialog
abbrev pub ProvisionalsInLives : Config → List Round → Type 0
ProvisionalsInLives config rounds =
    (call_id : List ℕ) (invite : AnInvite) (life : DialogReference)
    → ProvisionalsShown config rounds call_id invite life
