-- A request or an ACK that comes up to a call has the key of its transaction, and comes up under
-- the Call-ID of a request with that key.
use Rattle.std.proofs.Common.{◌≡◌, ℕ, true, List, [], refl, sym, ap, ◌∙◌, subst, arith}
use Rattle.std.specs.Prelude.{Contains, None}
use Rattle.std.specs.List.{AllByRecursion}
use Rattle.sip_message.specs.declared.addr.Addr.{Addr}
use Rattle.sip_message.specs.declared.id.Id.{Id}
use Rattle.sip_message.specs.declared.key.Key.{Key}
use Rattle.sip_message.specs.declared.message.Message.{Message}
use Rattle.sip_message.specs.declared.start_line.StartLine.{StartLine}
use Rattle.sip_message.specs.declared.start_line.StartLine.TheVariants as start
use Rattle.sip_message.specs.Key.{branch_in, key_cmp, side_of}
use Rattle.sip_message.specs.Message.{is_request_line, is_request_message}
use Rattle.sip_message.specs.MessageKey.{key_at, key_of_message}
use Rattle.sip_message.specs.TopVia.{top_branch, top_host, top_port}
use Rattle.keyed_machine.specs.Laws.{EachKeyAlone}
use Rattle.keyed_machine.specs.Machine.{given_at, outputs_from, tick_at}
use Rattle.sip_transactions.specs.declared.input.Command.TheVariants as order
use Rattle.sip_transactions.specs.declared.input.Input.{Input}
use Rattle.sip_transactions.specs.declared.input.Input.TheVariants as input
use Rattle.sip_transactions.specs.declared.output.UpKind.TheVariants as kind
use Rattle.sip_transactions.specs.declared.output.Out.{Out}
use Rattle.sip_transactions.specs.declared.output.Out.TheVariants as out
use Rattle.sip_transactions.specs.declared.output.Up.{Up as AnUp}
use Rattle.sip_transactions.specs.Machine.{transaction_machine}
use Rattle.sip_user.specs.declared.item.CallOut.{CallOut}
use Rattle.sip_user.specs.declared.item.CallOut.TheVariants as call_out
use Rattle.sip_user.specs.declared.item.Item.TheVariants.{Up}
use Rattle.sip_calls.specs.Call.{call_machine}
use Rattle.sip_calls.specs.CallShard.{call_cmp}
use Rattle.sip_round.specs.declared.config.Config.{Config}
use Rattle.sip_round.specs.declared.round.Round.{Round}
use Rattle.sip_round.specs.Answers.{calls_of, no_past, past_of}
use Rattle.sip_round.specs.Arrivals.{arrival_of}
use Rattle.sip_round.specs.Laws.{call_inputs_of, inputs_of, said_of}
use Rattle.sip_round.proofs.Said.{transaction_alone}
use Rattle.sip_conversation.specs.Messages.{CallSays, ComesUp, IsGiven}
use Rattle.sip_conversation.proofs.Among.{all_both, all_of, each_of}
use Rattle.sip_conversation.proofs.Bridge.{any_arrival}
use Rattle.sip_conversation.proofs.OneCallId.{lower}
use Rattle.sip_conversation.proofs.OneTransaction.{IsFaithful, KindCame}
use Rattle.sip_conversation.proofs.RaisedUps.{Begins, IsRaised, OutIsRaised, ups_raised}
use Rattle.sip_conversation.proofs.RequestsAsked.{out_own}
use Rattle.sip_conversation.proofs.Rounds.{ArrivalFits, OutFits, RoundFits, TimedFits, call_says, calls_give, inputs_fit}
use Rattle.sip_conversation.proofs.StartedFor.{Any, HasKey, faithful_keys, has_key}
use Rattle.sip_conversation.proofs.Ups.{OutCame, TimedCame, inputs_came}

-- ---- the key of a request

-- the key of a request is one of a server, with its branch
record IsServerOf (branch : List ℕ) (key : Key) : Type 0 where
  side : side_of key ≡ 1
  branch_is : branch_in key ≡ lower branch

server_parts : (line : StartLine) (branch host : List ℕ) (port : ℕ) (method : List ℕ)
    → is_request_line line ≡ true → IsServerOf branch (key_at line branch host port method)
server_parts (start.Request uri) branch host port method is =
    record { side = refl; branch_is = refl }
server_parts (start.Response code reason) branch host port method is = absurd cc

request_key : (request : Message) → is_request_message request ≡ true
    → IsServerOf (top_branch request) (key_of_message request)
unfolding key_of_message
request_key request is =
    server_parts request.start (top_branch request) (top_host request) (top_port request)
    request.cseq.method is

not_both : (side : ℕ) → side ≡ 0 → side ≡ 1 → ⊥
not_both side zero one = absurd (omega arith)

asks_by_line : (line : StartLine) (branch host : List ℕ) (port : ℕ) (method : List ℕ)
    → side_of (key_at line branch host port method) ≡ 1 → is_request_line line ≡ true
asks_by_line (start.Request uri) branch host port method is = refl
asks_by_line (start.Response code reason) branch host port method is =
    absurd (not_both 0 refl is)

-- a message with the key of a server is a request
asks_by_key : (message : Message) → side_of (key_of_message message) ≡ 1
    → is_request_message message ≡ true
unfolding key_of_message
asks_by_key message is =
    asks_by_line message.start (top_branch message) (top_host message) (top_port message)
    message.cseq.method is

module _ (config : Config) (rounds : List Round)
    (alone : EachKeyAlone key_cmp transaction_machine tick_at)
    (calls_alone : EachKeyAlone call_cmp (call_machine (calls_of config)) tick_at) where
  -- ---- a transaction that is started is one of a client

  abbrev StartFits : Key → Input → Type 0
  StartFits key (input.Receive id message reply_to) = Unit {0}
  StartFits key (input.Start id of message to) = side_of key ≡ 0
  StartFits key (input.Answer id message) = Unit {0}
  StartFits key (input.Failed id) = Unit {0}
  StartFits key input.Abandon = Unit {0}

  out_fits : (out : CallOut) → CallSays config rounds out → OutFits config StartFits out
  out_fits (call_out.Notice notice) says = tt
  out_fits (call_out.Command id (order.Start key of message to)) says =
      ap side_of (out_own config rounds calls_alone
      (call_out.Command id (order.Start key of message to)) says).key_is
  out_fits (call_out.Command id (order.Answer key message)) says = tt
  out_fits (call_out.Command id (order.Abandon key)) says = tt
  out_fits (call_out.Direct to bytes) says = tt

  starts_client : (key : Key) (id : Id) (of : List ℕ) (message : Message) (to : Addr)
      → IsGiven config rounds key (input.Start id of message to) → side_of key ≡ 0
  starts_client key id of message to given =
      each_of (TimedFits config StartFits key) (inputs_of config rounds key)
      (given_at given.0 (input.Start id of message to))
      (inputs_fit config StartFits key rounds
      (all_of (RoundFits config StartFits) rounds
      (λ round among. all_of
      (λ e. (id : Id) → ArrivalFits config StartFits (arrival_of config.local id e)) round.events
      (λ e has id. any_arrival config StartFits (λ id message reply_to. tt) (λ key id. tt) id e)))
      (all_of (OutFits config StartFits) (calls_give config config.first no_past rounds)
      (λ out among. out_fits out (call_says config rounds out among)))) given.1

  -- ---- what comes up

  record IsKnown (up : AnUp) : Type 0 where
    raised : IsRaised up.key (inputs_of config rounds up.key) up
    keyed : KindCame (HasKey config rounds up.key) up.kind

  module _ (key : Key) where
    known : (up : AnUp) → IsRaised key (inputs_of config rounds key) up
        → KindCame (HasKey config rounds key) up.kind → IsKnown up
    known up raised keyed =
        let same = sym raised.key_is in
        record {
          raised = subst (λ k. IsRaised k (inputs_of config rounds k) up) same raised;
          keyed = subst (λ k. KindCame (HasKey config rounds k) up.kind) same keyed;
        }

    out_known : (o : Out) → OutIsRaised key (inputs_of config rounds key) o
        → IsFaithful Any (HasKey config rounds key) o → OutCame IsKnown o
    out_known (out.Up up) raised keyed = known up raised keyed
    out_known (out.Send key to bytes) raised keyed = tt
    out_known (out.Dropped place why) raised keyed = tt

    all_known : AllByRecursion (OutCame IsKnown) (said_of config rounds key)
    all_known =
        let all = inputs_of config rounds key in
        subst (AllByRecursion (OutCame IsKnown))
        (sym (transaction_alone alone [] (past_of config rounds).transactions key))
        (all_both {P = OutIsRaised key all}
        {Q = IsFaithful Any (HasKey config rounds key)} {R = OutCame IsKnown}
        out_known (outputs_from transaction_machine key None all) (ups_raised key all)
        (faithful_keys config rounds key))

  up_known : (call_id : List ℕ) (up : AnUp) → ComesUp config rounds call_id up → IsKnown up
  up_known call_id up comes =
      each_of (TimedCame IsKnown) (call_inputs_of config rounds call_id)
      (given_at comes.0 (comes.1, Up up)) (inputs_came IsKnown config rounds all_known call_id)
      comes.2

  -- a message with the key of what comes up, and its Call-ID; it is a request
  pub record HasFirst (up : AnUp) (message : Message) : Type 0 where
    pub key_is : key_of_message message ≡ up.key
    pub branch : branch_in up.key ≡ lower (top_branch message)
    pub first : Message
    pub id : Id
    pub reply_to : Addr
    pub given : IsGiven config rounds up.key (input.Receive id first reply_to)
    pub asks : is_request_message first ≡ true
    pub call : first.call_id ≡ up.call_id
    pub first_branch : branch_in up.key ≡ lower (top_branch first)

  has_first : (up : AnUp) (message : Message) → key_of_message message ≡ up.key
      → is_request_message message ≡ true → (now : ℕ) (i : Input)
      → Contains (inputs_of config rounds up.key) (given_at now i) → Begins up.call_id i
      → HasFirst up message
  has_first up message key asks now (input.Receive id first reply_to) among same =
      let own = request_key message asks in
      let given : IsGiven config rounds up.key (input.Receive id first reply_to) = (now, among) in
      let first_key = has_key config rounds up.key id first reply_to given in
      let first_asks = asks_by_key first
      (ap side_of first_key ∙ (ap side_of (sym key) ∙ own.side)) in
      record {
        key_is = key;
        branch = ap branch_in (sym key) ∙ own.branch_is;
        first = first;
        id = id;
        reply_to = reply_to;
        given = given;
        asks = first_asks;
        call = same;
        first_branch = ap branch_in (sym first_key) ∙ (request_key first first_asks).branch_is;
      }
  has_first up message key asks now (input.Start id of first to) among same =
      absurd (not_both (side_of up.key)
      (starts_client up.key id of first to (now, among))
      (ap side_of (sym key) ∙ (request_key message asks).side))
  has_first up message key asks now (input.Answer id response) among same = absurd same
  has_first up message key asks now (input.Failed id) among same = absurd same
  has_first up message key asks now input.Abandon among same = absurd same

  pub request_first : (call_id : List ℕ) (up : AnUp) → ComesUp config rounds call_id up
      → (request : Message) (reply_to : Addr) → up.kind ≡ kind.Request request reply_to
      → HasFirst up request
  request_first call_id up comes request reply_to is =
      let known = up_known call_id up comes in
      let keyed = subst (KindCame (HasKey config rounds up.key)) is known.keyed in
      let begun = (known.raised).begun in
      has_first up request keyed.0 keyed.1 begun.0 begun.1 begun.2 begun.3

  pub ack_first : (call_id : List ℕ) (up : AnUp) → ComesUp config rounds call_id up
      → (ack : Message) → is_request_message ack ≡ true → up.kind ≡ kind.Ack ack
      → HasFirst up ack
  ack_first call_id up comes ack asks is =
      let known = up_known call_id up comes in
      let keyed = subst (KindCame (HasKey config rounds up.key)) is known.keyed in
      let begun = (known.raised).begun in
      has_first up ack keyed asks begun.0 begun.1 begun.2 begun.3
