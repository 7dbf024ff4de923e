-- Each request that a side says has the Call-ID of a call, and a branch that an event of that call
-- made; so has an ACK, whoever made it.
use Rattle.std.proofs.Common.{◌≡◌, ◌≤◌, ℕ, true, length, List, sym, ap, ◌∙◌, subst}
use Rattle.std.proofs.lemmas.Bool.{false≢true}
use Rattle.sip_message.specs.declared.addr.Addr.{Addr}
use Rattle.sip_message.specs.declared.id.Id.{Id}
use Rattle.sip_message.specs.declared.key.Key.{Key}
use Rattle.sip_message.specs.declared.message.Message.{Message}
use Rattle.sip_message.specs.HopByHop.{ack_of}
use Rattle.sip_message.specs.Message.{is_request_message}
use Rattle.sip_message.specs.Rules.{IsMessage}
use Rattle.sip_message.specs.Written.{written}
use Rattle.keyed_machine.specs.Machine.{given_at}
use Rattle.sip_transactions.specs.declared.input.Command.TheVariants as order
use Rattle.sip_transactions.specs.declared.input.Input.{Input}
use Rattle.sip_transactions.specs.declared.input.Input.TheVariants as input
use Rattle.sip_user.specs.declared.item.CallOut.{CallOut}
use Rattle.sip_user.specs.declared.item.CallOut.TheVariants as call_out
use Rattle.sip_round.specs.declared.config.Config.{Config}
use Rattle.sip_round.specs.declared.round.Round.{Round}
use Rattle.sip_round.specs.Answers.{no_past}
use Rattle.sip_round.specs.Arrivals.{arrival_of}
use Rattle.sip_round.specs.Laws.{inputs_of}
use Rattle.sip_conversation.specs.Commands.{CommandsKeepTypes}
use Rattle.sip_conversation.specs.Conversation.{Carried, Side, Turn, rounds_of}
use Rattle.sip_conversation.specs.Messages.{CallSays, CallsKeepRules, IsGiven, IsSaid}
use Rattle.sip_conversation.specs.Messages.IsSaid.{Acknowledges, Asked, Direct, Trying}
use Rattle.sip_conversation.specs.Steps.Fair.{IsFair}
use Rattle.sip_conversation.proofs.Among.{all_of, each_of}
use Rattle.sip_conversation.proofs.Branches.{top_alone}
use Rattle.sip_conversation.proofs.Bridge.{any_arrival, same_text}
use Rattle.sip_conversation.proofs.OneCallId.{out_replies}
use Rattle.sip_conversation.proofs.OneOrigin.{IsOfCall, started_of}
use Rattle.sip_conversation.proofs.Rounds.{ArrivalFits, OutFits, RoundFits, TimedFits, call_says, calls_give, inputs_fit}
use Rattle.sip_conversation.proofs.SentAcks.{sent_so}

module _ (configs : Side → Config) (fair : IsFair configs) (turns : List Turn)
    (carried : Carried configs turns) (keep : CallsKeepRules configs turns)
    (types : CommandsKeepTypes turns) (s : Side) where
  abbrev config : Config
  config = configs s

  abbrev rounds : List Round
  rounds = rounds_of s turns

  abbrev IsOf : Message → Type 0
  IsOf = IsOfCall config rounds (fair.calls s)

  -- ---- what a transaction is started with

  abbrev StartFits : Key → Input → Type 0
  StartFits key (input.Receive id message reply_to) = Unit {0}
  StartFits key (input.Start id of message to) = IsOf message
  StartFits key (input.Answer id message) = Unit {0}
  StartFits key (input.Failed id) = Unit {0}
  StartFits key input.Abandon = Unit {0}

  out_fits : (out : CallOut) → CallSays config rounds out → OutFits config StartFits out
  out_fits (call_out.Notice notice) says = tt
  out_fits (call_out.Command id (order.Start key of message to)) says =
      started_of config rounds (fair.calls s) id key of message to says
  out_fits (call_out.Command id (order.Answer key message)) says = tt
  out_fits (call_out.Command id (order.Abandon key)) says = tt
  out_fits (call_out.Direct to bytes) says = tt

  start_of : (key : Key) (id : Id) (of : List ℕ) (message : Message) (to : Addr)
      → IsGiven config rounds key (input.Start id of message to) → IsOf message
  start_of key id of message to given =
      each_of (TimedFits config StartFits key) (inputs_of config rounds key)
      (given_at given.0 (input.Start id of message to))
      (inputs_fit config StartFits key rounds
      (all_of (RoundFits config StartFits) rounds
      (λ round among. all_of
      (λ e. (id : Id) → ArrivalFits config StartFits (arrival_of config.local id e)) round.events
      (λ e has id. any_arrival config StartFits (λ id message reply_to. tt) (λ key id. tt) id e)))
      (all_of (OutFits config StartFits) (calls_give config config.first no_past rounds)
      (λ out among. out_fits out (call_says config rounds out among)))) given.1

  -- ---- what is said

  ack_of_call : (invite response : Message) → IsOf invite → IsOf (ack_of invite response)
  ack_of_call invite response its = record {
    of = its.of;
    call = its.call;
    branch = ((its.branch).0, (its.branch).1, top_alone invite.vias ∙ (its.branch).2);
  }

  pub said_of : (message : Message) → IsSaid config rounds message → IsMessage message
      → length (written message) ≤ 65535 → is_request_message message ≡ true → IsOf message
  said_of message (Asked id (order.Start key of request to) says same) rules short asks =
      subst IsOf same (started_of config rounds (fair.calls s) id key of request to says)
  said_of message (Asked id (order.Answer key response) says same) rules short asks =
      absurd (false≢true (sym (out_replies config (fair.calls s) rounds
      (call_out.Command id (order.Answer key response)) says)
      ∙ (ap is_request_message same ∙ asks)))
  said_of message (Asked id (order.Abandon key) says same) rules short asks = absurd same
  said_of message (Direct to says) rules short asks =
      let sent = sent_so configs fair turns carried keep types s to (written message) says in
      let same = same_text message sent.0 rules sent.2 short sent.1 in
      subst IsOf (sym same) record {
        of = says.0;
        call = (sent.3).call_id_is;
        branch = (sent.3).branch;
      }
  said_of message (Trying key id request reply_to given is same) rules short asks =
      absurd (false≢true (sym (ap is_request_message same) ∙ asks))
  said_of message
      (Acknowledges key id answered of invite response to reply_to given heard failure same) rules
      short asks =
      subst IsOf (sym same) (ack_of_call invite response (start_of key id of invite to given))
