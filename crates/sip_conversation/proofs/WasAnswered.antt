-- A request to which a response came has come to the other side.
use Rattle.std.proofs.Common.{◌≡◌, ℕ, true, List, [], refl, sym, ap, ◌∙◌, subst, codes, append-nil}
use Rattle.std.specs.Prelude.{None, Some, not}
use Rattle.std.specs.List.{AllByRecursion, slice_get}
use Rattle.std.specs.Option.{option_map_or}
use Rattle.sip_message.specs.declared.addr.Addr.{Addr}
use Rattle.sip_message.specs.declared.cseq.CSeq.{CSeq}
use Rattle.sip_message.specs.declared.id.Id.{Id}
use Rattle.sip_message.specs.declared.key.Key.{Key}
use Rattle.sip_message.specs.declared.message.Message.{Message}
use Rattle.sip_message.specs.declared.start_line.StartLine.{StartLine}
use Rattle.sip_message.specs.declared.start_line.StartLine.TheVariants as start
use Rattle.sip_message.specs.declared.via.Via.{Via}
use Rattle.sip_message.specs.Key.{client_key, method_in}
use Rattle.sip_message.specs.Message.{is_request_line, is_request_message}
use Rattle.sip_message.specs.MessageKey.{key_of_message}
use Rattle.sip_message.specs.TopVia.{top_branch}
use Rattle.sip_message.specs.Via.{branch_of}
use Rattle.keyed_machine.specs.Machine.{given_at, outputs_from}
use Rattle.sip_transactions.specs.declared.input.Command.TheVariants as order
use Rattle.sip_transactions.specs.declared.input.Input.{Input}
use Rattle.sip_transactions.specs.declared.input.Input.TheVariants as input
use Rattle.sip_transactions.specs.declared.output.Out.{Out}
use Rattle.sip_transactions.specs.declared.output.Out.TheVariants as out
use Rattle.sip_transactions.specs.Machine.{transaction_machine}
use Rattle.sip_user.specs.declared.item.CallOut.{CallOut}
use Rattle.sip_user.specs.declared.item.CallOut.TheVariants as call_out
use Rattle.sip_clients.specs.Clients.{status_of}
use Rattle.sip_round.specs.declared.config.Config.{Config}
use Rattle.sip_round.specs.declared.round.Round.{Round}
use Rattle.sip_round.specs.Answers.{no_past, past_of}
use Rattle.sip_round.specs.Arrivals.{arrival_of}
use Rattle.sip_round.specs.Laws.{inputs_of, said_of}
use Rattle.sip_round.proofs.Said.{transaction_alone}
use Rattle.sip_conversation.specs.Conversation.{Carried, Side, Turn, peer, rounds_of}
use Rattle.sip_conversation.specs.Messages.{CallSays, CallsKeepRules, ComesUnchanged, IsGiven, IsSaid, come_from}
use Rattle.sip_conversation.specs.Replies.{AreCounted}
use Rattle.sip_conversation.specs.Steps.Fair.{IsFair}
use Rattle.sip_conversation.proofs.Among.{all_go, all_of, each_of}
use Rattle.sip_conversation.proofs.Answered.{AllCame, IsAnswer, answered}
use Rattle.sip_conversation.proofs.Bridge.{any_arrival}
use Rattle.sip_conversation.proofs.OneCallId.{one_start_of}
use Rattle.sip_conversation.proofs.OneTransaction.{IsFaithful, faithful}
use Rattle.sip_conversation.proofs.Rounds.{ArrivalFits, OutFits, RoundFits, TimedFits, call_says, calls_give, inputs_fit}
use Rattle.sip_conversation.proofs.StartedFor.{has_key, response_key}
use Rattle.sip_conversation.proofs.ToldCallId.{IsSame, came_same, peer_peer}
use Rattle.sip_conversation.proofs.Unchanged.{messages_unchanged}
use Rattle.sip_conversation.proofs.Unstamped.{same_response}
use Rattle.sip_conversation.proofs.Ups.{OutCame, UpCame, inputs_came}

-- ---- what transactions are given by calls

module _ (config : Config) (rounds : List Round) where
  abbrev SaidFits : Key → Input → Type 0
  SaidFits key (input.Receive id message reply_to) = Unit {0}
  SaidFits key (input.Start id of message to) =
      CallSays config rounds (call_out.Command id (order.Start key of message to))
  SaidFits key (input.Answer id message) =
      CallSays config rounds (call_out.Command id (order.Answer key message))
  SaidFits key (input.Failed id) = Unit {0}
  SaidFits key input.Abandon = Unit {0}

  out_fits : (out : CallOut) → CallSays config rounds out → OutFits config SaidFits out
  out_fits (call_out.Notice notice) says = tt
  out_fits (call_out.Command id (order.Start key of message to)) says = says
  out_fits (call_out.Command id (order.Answer key message)) says = says
  out_fits (call_out.Command id (order.Abandon key)) says = tt
  out_fits (call_out.Direct to bytes) says = tt

  input_said : (key : Key) (i : Input) → IsGiven config rounds key i → SaidFits key i
  input_said key i given =
      each_of (TimedFits config SaidFits key) (inputs_of config rounds key) (given_at given.0 i)
      (inputs_fit config SaidFits key rounds
      (all_of (RoundFits config SaidFits) rounds
      (λ round among. all_of
      (λ e. (id : Id) → ArrivalFits config SaidFits (arrival_of config.local id e)) round.events
      (λ e has id. any_arrival config SaidFits (λ id message reply_to. tt) (λ key id. tt) id e)))
      (all_of (OutFits config SaidFits) (calls_give config config.first no_past rounds)
      (λ out among. out_fits out (call_says config rounds out among)))) given.1

  -- a call asked for it
  pub start_said : (key : Key) (id : Id) (of : List ℕ) (message : Message) (to : Addr)
      → IsGiven config rounds key (input.Start id of message to)
      → CallSays config rounds (call_out.Command id (order.Start key of message to))
  start_said key id of message to given = input_said key (input.Start id of message to) given

  pub answer_said : (key : Key) (id : Id) (message : Message)
      → IsGiven config rounds key (input.Answer id message)
      → CallSays config rounds (call_out.Command id (order.Answer key message))
  answer_said key id message given = input_said key (input.Answer id message) given

-- ---- a response

-- a message that is no request has a status
by_line : (line : StartLine) → not (is_request_line line) ≡ true
    → (status : ℕ) × (status_of line ≡ Some status)
by_line (start.Request uri) is = absurd cc
by_line (start.Response status reason) is = (status, refl)

module _ (configs : Side → Config) (fair : IsFair configs) (turns : List Turn)
    (carried : Carried configs turns) (keep : CallsKeepRules configs turns) (s : Side) where
  abbrev other : Side
  other = peer s

  -- a request that came to the other side, and that this side said
  abbrev pub GivenThere : Message → Type 0
  GivenThere message = (key : Key) × (id : Id) × (reply_to : Addr)
      × IsGiven (configs other) (rounds_of other turns) key (input.Receive id message reply_to)

  abbrev pub Came : Message → Type 0
  Came message = ComesUnchanged configs turns other message × GivenThere message

  abbrev Any : Message → Type 0
  Any message = Unit {0}

  came : (key : Key) (id : Id) (message : Message) (reply_to : Addr)
      → IsGiven (configs other) (rounds_of other turns) key (input.Receive id message reply_to)
      → Came message
  came key id message reply_to given = (
    messages_unchanged fair.transactions configs fair.addresses turns carried keep other key id
        message reply_to given,
    (key, id, reply_to, given),
  )

  out_came : (o : Out) → IsFaithful Any Came o → OutCame (UpCame Came) o
  out_came (out.Up up) faithful = faithful
  out_came (out.Send key to bytes) faithful = tt
  out_came (out.Dropped place why) faithful = tt

  ups : (key : Key) → AllByRecursion (OutCame (UpCame Came))
      (said_of (configs other) (rounds_of other turns) key)
  ups key =
      let rounds = rounds_of other turns in
      subst (AllByRecursion (OutCame (UpCame Came)))
      (sym (transaction_alone fair.transactions [] (past_of (configs other) rounds).transactions
      key))
      (all_go {P = IsFaithful Any Came} {Q = OutCame (UpCame Came)} out_came
      (outputs_from transaction_machine key None (inputs_of (configs other) rounds key))
      (faithful (inputs_of (configs other) rounds key) Any Came (record {
        started = λ now id call_id message to among. tt;
        answered = λ now id message among. tt;
        tried = λ now id request reply_to among is. tt;
        acknowledged = λ now later id answered call_id invite response to reply_to among
            came failure. tt;
        came = λ now id message reply_to among. came key id message reply_to (now, among);
      }) key))

  pub all_came : AllCame (configs other) (rounds_of other turns) Came
  all_came = record {
    calls = inputs_came (UpCame Came) (configs other) (rounds_of other turns) ups;
    transactions = came;
  }

  -- the transaction was started with this request, and a response came to it: the request came to
  -- the other side
  pub answered_came : (key : Key) (id : Id) (of : List ℕ) (request : Message) (to : Addr)
      → IsGiven (configs s) (rounds_of s turns) key (input.Start id of request to)
      → (heard : Id) (response : Message) (reply_to : Addr)
      → IsGiven (configs s) (rounds_of s turns) key (input.Receive heard response reply_to)
      → not (is_request_message response) ≡ true
      → (method_in key ≡ codes "CANCEL" → ⊥)
      → AreCounted (configs s) (rounds_of s turns)
      → GivenThere (come_from (configs s).local request)
  answered_came key id of request to started heard response reply_to given answers no_cancel few =
      let comes : ComesUnchanged configs turns s response =
      messages_unchanged fair.transactions configs fair.addresses turns carried keep s key heard
      response reply_to given in
      let has = by_line response.start answers in
      let status : ℕ = has.0 in
      let whole : comes.original ≡ response =
      sym (same_response (configs other).local response comes.original status comes.same has.1) in
      let status_is : status_of comes.original.start ≡ Some status =
      ap (λ m. status_of m.start) whole ∙ has.1 in
      let answer : IsAnswer (configs other) (rounds_of other turns) Came comes.original status =
      answered (configs other) (rounds_of other turns) Came (fair.calls other) all_came
      comes.original comes.said status status_is in
      let replied : Message = answer.request.request in
      let arrived : ComesUnchanged configs turns other replied = (answer.request.came).0 in
      let asked : Message = arrived.original in
      let same : IsSame replied asked =
      came_same (configs (peer other)).local replied asked arrived.same answer.request.is_request
      in
      let spoken : IsSaid (configs s) (rounds_of s turns) asked =
      subst (λ p. IsSaid (configs p) (rounds_of p turns) asked) (peer_peer s) arrived.said in
      let copies = answer.request.copies in
      let branch : top_branch comes.original ≡ top_branch asked =
      ap (λ (vias : List Via). option_map_or branch_of (slice_get vias 0) []) copies.vias
      ∙ same.branch in
      let method : comes.original.cseq.method ≡ asked.cseq.method =
      ap (λ (cseq : CSeq). cseq.method) copies.cseq ∙ same.method in
      let key_is : key ≡ client_key (top_branch asked) asked.cseq.method =
      sym (has_key (configs s) (rounds_of s turns) key heard response reply_to given)
      ∙ (ap key_of_message (sym whole)
      ∙ (response_key comes.original status status_is
      ∙ (λ i. client_key (branch i) (method i)))) in
      let none = append-nil (rounds_of s turns) in
      let so = one_start_of (configs s) (fair.calls s) (rounds_of s turns) []
      (subst (AreCounted (configs s)) (sym none) few) asked spoken same.asks arrived.rules.method
      key key_is id of request to
      (subst (λ rounds. IsGiven (configs s) rounds key (input.Start id of request to)) (sym none)
      started) in
      let own : asked ≡ request = so.same (λ cancel. no_cancel (ap method_in key_is ∙ cancel)) in
      let came_is : replied ≡ come_from (configs s).local request =
      arrived.same ∙ (ap (λ p. come_from (configs p).local asked) (peer_peer s)
      ∙ ap (come_from (configs s).local) own) in
      subst GivenThere came_is (answer.request.came).1
