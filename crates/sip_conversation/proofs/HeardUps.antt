-- What comes up to a call in a turn is a message that the other side said before, except for the
-- stamp. A request has the Call-ID of the call.
use Rattle.std.proofs.Common.{ℕ, List}
use Rattle.std.specs.Prelude.{IfSome, Option, None, Some}
use Rattle.std.specs.List.{AllByRecursion}
use Rattle.sip_message.specs.declared.message.Message.{Message}
use Rattle.sip_transactions.specs.declared.output.Out.{Out}
use Rattle.sip_transactions.specs.declared.output.Out.TheVariants as out
use Rattle.sip_transactions.specs.declared.output.Up.{Up as AnUp}
use Rattle.sip_user.specs.OwnCall.{IsItemOf}
use Rattle.sip_user.specs.declared.item.Item.TheVariants.{Up, User}
use Rattle.sip_calls.specs.Call.{CallItem}
use Rattle.sip_calls.specs.OwnCall.{IsInputOf}
use Rattle.sip_round.specs.declared.config.Config.{Config}
use Rattle.sip_round.specs.Laws.{call_inputs_of, said_of}
use Rattle.sip_conversation.specs.Conversation.{Carried, Side, Turn, rounds_of}
use Rattle.sip_conversation.specs.Messages.{CallsKeepRules, ComesUnchanged}
use Rattle.sip_conversation.proofs.Among.{all_both}
use Rattle.sip_conversation.proofs.Origins.{TimedComes, inputs_come}
use Rattle.sip_conversation.proofs.RepliesSaid.{IsFair}
use Rattle.sip_conversation.proofs.Unchanged.{ups_unchanged}
use Rattle.sip_conversation.proofs.UpMethods.{UpHasMethod, all_methods}
use Rattle.sip_conversation.proofs.Ups.{ItemCame, OutCame, TimedCame, UpCame, inputs_came}

module _ (configs : Side → Config) (turns : List Turn) (side : Side) where
  abbrev pub Came : Message → Type 0
  Came message = ComesUnchanged configs turns side message

  abbrev Comes : AnUp → Type 0
  Comes up = UpCame Came up × UpHasMethod up

  -- so is what comes up, and it has its method
  pub record IsHeard (call_id : List ℕ) (up : AnUp) : Type 0 where
    pub came : UpCame Came up
    pub method : UpHasMethod up
    pub own : IsItemOf call_id (Up up)

  abbrev pub InputHeard : List ℕ → Option CallItem → Type 0
  InputHeard call_id None = Unit {0}
  InputHeard call_id (Some (event, Up up)) = IsHeard call_id up
  InputHeard call_id (Some (event, User command)) = Unit {0}

  out_comes : (o : Out) → OutCame (UpCame Came) o → OutCame UpHasMethod o → OutCame Comes o
  out_comes (out.Up up) came method = (came, method)
  out_comes (out.Send key to bytes) came method = tt
  out_comes (out.Dropped place why) came method = tt

  input_heard : (call_id : List ℕ) (input : Option CallItem)
      → IfSome input (λ i. ItemCame Comes i.1) → IsInputOf call_id input
      → InputHeard call_id input
  input_heard call_id None came own = tt
  input_heard call_id (Some (event, Up up)) came own =
      record { came = came.0; method = came.1; own = own }
  input_heard call_id (Some (event, User command)) came own = tt

  pub all_heard : IsFair configs → Carried configs turns → CallsKeepRules configs turns
      → (call_id : List ℕ) → AllByRecursion (λ timed. InputHeard call_id timed.input)
      (call_inputs_of (configs side) (rounds_of side turns) call_id)
  all_heard fair carried keep call_id =
      let config = configs side in
      let rounds = rounds_of side turns in
      all_both {P = TimedCame Comes} {Q = TimedComes config rounds call_id}
      {R = λ timed. InputHeard call_id timed.input}
      (λ timed came own. input_heard call_id timed.input came own.0)
      (call_inputs_of config rounds call_id)
      (inputs_came Comes config rounds
      (λ key. all_both {P = OutCame (UpCame Came)} {Q = OutCame UpHasMethod} {R = OutCame Comes}
      out_comes (said_of config rounds key)
      (ups_unchanged fair.transactions configs fair.addresses turns carried keep side key)
      (all_methods config rounds fair.transactions key)) call_id)
      (inputs_come config rounds call_id)
