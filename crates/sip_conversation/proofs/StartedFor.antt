-- A response that comes up to a call comes up under an id and a Call-ID under which a transaction
-- with its branch and method was started.
use Rattle.std.proofs.Common.{◌≡◌, ℕ, List, [], refl, sym, subst, ap, ◌∙◌, arith}
use Rattle.std.specs.Prelude.{None, Some}
use Rattle.std.specs.List.{AllByRecursion}
use Rattle.sip_message.specs.declared.addr.Addr.{Addr}
use Rattle.sip_message.specs.declared.id.Id.{Id}
use Rattle.sip_message.specs.declared.key.Key.{Key}
use Rattle.sip_message.specs.declared.key.Key.TheVariants as key
use Rattle.sip_message.specs.declared.message.Message.{Message}
use Rattle.sip_message.specs.declared.start_line.StartLine.{StartLine}
use Rattle.sip_message.specs.declared.start_line.StartLine.TheVariants as start
use Rattle.sip_message.specs.Key.{client_key, key_cmp, side_of}
use Rattle.sip_message.specs.MessageKey.{key_at, key_of_message}
use Rattle.sip_message.specs.TopVia.{top_branch, top_host, top_port}
use Rattle.keyed_machine.specs.Laws.{EachKeyAlone}
use Rattle.keyed_machine.specs.Machine.{given_at, outputs_from, tick_at}
use Rattle.sip_transactions.specs.declared.input.Command.TheVariants as order
use Rattle.sip_transactions.specs.declared.input.Input.{Input}
use Rattle.sip_transactions.specs.declared.input.Input.TheVariants as input
use Rattle.sip_transactions.specs.declared.output.UpKind.{UpKind}
use Rattle.sip_transactions.specs.declared.output.UpKind.TheVariants as kind
use Rattle.sip_transactions.specs.declared.output.Out.{Out}
use Rattle.sip_transactions.specs.declared.output.Out.TheVariants as out
use Rattle.sip_transactions.specs.declared.output.Up.{Up as AnUp}
use Rattle.sip_transactions.specs.Machine.{transaction_machine}
use Rattle.sip_user.specs.declared.item.CallOut.{CallOut}
use Rattle.sip_user.specs.declared.item.CallOut.TheVariants as call_out
use Rattle.sip_clients.specs.Clients.{status_of}
use Rattle.sip_round.specs.declared.config.Config.{Config}
use Rattle.sip_round.specs.declared.round.Round.{Round}
use Rattle.sip_round.specs.Answers.{no_past, past_of}
use Rattle.sip_round.specs.Arrivals.{arrival_of}
use Rattle.sip_round.specs.Laws.{inputs_of, said_of}
use Rattle.sip_round.proofs.Said.{transaction_alone}
use Rattle.sip_conversation.specs.Messages.{IsGiven}
use Rattle.sip_conversation.specs.Replies.{IsStartedFor}
use Rattle.sip_conversation.proofs.Among.{all_both, all_go, all_of, each_of}
use Rattle.sip_conversation.proofs.Bridge.{any_arrival}
use Rattle.sip_conversation.proofs.OneTransaction.{IsFaithful, KindCame, faithful}
use Rattle.sip_conversation.proofs.Rounds.{ArrivalFits, OutFits, RoundFits, TimedFits, calls_give, inputs_fit}
use Rattle.sip_conversation.proofs.StartedUps.{UpIsStarted, WasStarted, ups_started}
use Rattle.sip_conversation.proofs.Ups.{OutCame}

-- the key of a response is one of a client
client_parts : (line : StartLine) (branch host : List ℕ) (port : ℕ) (method : List ℕ) (status : ℕ)
    → status_of line ≡ Some status
    → key_at line branch host port method ≡ client_key branch method
client_parts (start.Request uri) branch host port method status is = absurd cc
client_parts (start.Response code reason) branch host port method status is = refl

pub response_key : (response : Message) (status : ℕ) → status_of response.start ≡ Some status
    → key_of_message response ≡ client_key (top_branch response) response.cseq.method
unfolding key_of_message
response_key response status is =
    client_parts response.start (top_branch response) (top_host response) (top_port response)
    response.cseq.method status is

abbrev pub Any : Message → Type 0
Any message = Unit {0}

module _ (config : Config) (rounds : List Round) where
  -- ---- what comes to a transaction has its key

  abbrev KeyFits : Key → Input → Type 0
  KeyFits key (input.Receive id message reply_to) = key_of_message message ≡ key
  KeyFits key (input.Start id call_id message to) = Unit {0}
  KeyFits key (input.Answer id message) = Unit {0}
  KeyFits key (input.Failed id) = Unit {0}
  KeyFits key input.Abandon = Unit {0}

  out_fits : (out : CallOut) → OutFits config KeyFits out
  out_fits (call_out.Notice notice) = tt
  out_fits (call_out.Command id (order.Start key call_id message to)) = tt
  out_fits (call_out.Command id (order.Answer key message)) = tt
  out_fits (call_out.Command id (order.Abandon key)) = tt
  out_fits (call_out.Direct to bytes) = tt

  pub has_key : (key : Key) (id : Id) (message : Message) (reply_to : Addr)
      → IsGiven config rounds key (input.Receive id message reply_to)
      → key_of_message message ≡ key
  has_key key id message reply_to given =
      each_of (TimedFits config KeyFits key) (inputs_of config rounds key)
      (given_at given.0 (input.Receive id message reply_to))
      (inputs_fit config KeyFits key rounds
      (all_of (RoundFits config KeyFits) rounds
      (λ round among. all_of
      (λ e. (id : Id) → ArrivalFits config KeyFits (arrival_of config.local id e)) round.events
      (λ e has id. any_arrival config KeyFits (λ id message reply_to. refl) (λ key id. tt) id e)))
      (all_of (OutFits config KeyFits) (calls_give config config.first no_past rounds)
      (λ out among. out_fits out))) given.1

  -- ---- what comes up

  abbrev pub KindStarted : Id → List ℕ → UpKind → Type 0
  KindStarted id call_id (kind.Request request reply_to) = Unit {0}
  KindStarted id call_id (kind.Ack ack) = Unit {0}
  KindStarted id call_id (kind.Response response) = (status : ℕ)
      → status_of response.start ≡ Some status → IsStartedFor config rounds call_id id response
  KindStarted id call_id kind.Timeout = Unit {0}
  KindStarted id call_id kind.Failed = Unit {0}

  abbrev pub UpStarted : AnUp → Type 0
  UpStarted up = KindStarted up.id up.call_id up.kind

  abbrev pub HasKey : Key → Message → Type 0
  HasKey key message = key_of_message message ≡ key

  pub faithful_keys : (key : Key) → AllByRecursion (IsFaithful Any (HasKey key))
      (outputs_from transaction_machine key None (inputs_of config rounds key))
  faithful_keys key =
      faithful (inputs_of config rounds key) Any (HasKey key) (record {
        started = λ now id call_id message to among. tt;
        answered = λ now id message among. tt;
        tried = λ now id request reply_to among is. tt;
        acknowledged = λ now later id answered call_id invite response to reply_to among
            came failure. tt;
        came = λ now id message reply_to among. has_key key id message reply_to (now, among);
      }) key

  module _ (branch method : List ℕ) where
    client_kind : (id : Id) (call_id : List ℕ) (k : UpKind)
        → WasStarted branch method (inputs_of config rounds (key.Client branch method)) id call_id
        → KindCame (HasKey (key.Client branch method)) k → KindStarted id call_id k
    client_kind id call_id (kind.Request request reply_to) started key = tt
    client_kind id call_id (kind.Ack ack) started key = tt
    client_kind id call_id (kind.Response response) started key = λ status is. record {
      request = started.1;
      to = started.2;
      given = subst (λ k. IsGiven config rounds k (input.Start id call_id started.1 started.2))
          (sym key) (started.0, started.3);
    }
    client_kind id call_id kind.Timeout started key = tt
    client_kind id call_id kind.Failed started key = tt

    client_out : (o : Out)
        → UpIsStarted branch method (inputs_of config rounds (key.Client branch method)) o
        → IsFaithful Any (HasKey (key.Client branch method)) o → OutCame UpStarted o
    client_out (out.Up up) started keys = client_kind up.id up.call_id up.kind started keys
    client_out (out.Send key to bytes) started keys = tt
    client_out (out.Dropped place why) started keys = tt

  module _ (server : Key) (apart : side_of server ≡ 1) where
    not_both : (side : ℕ) → side ≡ 0 → side ≡ 1 → ⊥
    not_both side zero one = absurd (omega arith)

    server_kind : (id : Id) (call_id : List ℕ) (k : UpKind) → KindCame (HasKey server) k
        → KindStarted id call_id k
    server_kind id call_id (kind.Request request reply_to) key = tt
    server_kind id call_id (kind.Ack ack) key = tt
    server_kind id call_id (kind.Response response) key = λ status is.
        absurd (not_both (side_of (key_of_message response))
        (ap side_of (response_key response status is))
        (ap side_of key ∙ apart))
    server_kind id call_id kind.Timeout key = tt
    server_kind id call_id kind.Failed key = tt

    server_out : (o : Out) → IsFaithful Any (HasKey server) o → OutCame UpStarted o
    server_out (out.Up up) keys = server_kind up.id up.call_id up.kind keys
    server_out (out.Send key to bytes) keys = tt
    server_out (out.Dropped place why) keys = tt

  module _ (alone : EachKeyAlone key_cmp transaction_machine tick_at) where
    outs_started : (k : Key) → AllByRecursion (OutCame UpStarted)
        (outputs_from transaction_machine k None (inputs_of config rounds k))
    outs_started (key.Client branch method) =
        let client = key.Client branch method in
        all_both
        {P = UpIsStarted branch method (inputs_of config rounds (key.Client branch method))}
        {Q = IsFaithful Any (HasKey (key.Client branch method))} {R = OutCame UpStarted}
        (client_out branch method)
        (outputs_from transaction_machine client None (inputs_of config rounds client))
        (ups_started branch method (inputs_of config rounds client)) (faithful_keys client)
    outs_started (key.Server branch sent_by method) =
        let server = key.Server branch sent_by method in
        all_go {P = IsFaithful Any (HasKey server)} {Q = OutCame UpStarted}
        (server_out server refl)
        (outputs_from transaction_machine server None (inputs_of config rounds server))
        (faithful_keys server)

    pub responses_started : (k : Key)
        → AllByRecursion (OutCame UpStarted) (said_of config rounds k)
    responses_started k =
        subst (AllByRecursion (OutCame UpStarted))
        (sym (transaction_alone alone [] (past_of config rounds).transactions k)) (outs_started k)
