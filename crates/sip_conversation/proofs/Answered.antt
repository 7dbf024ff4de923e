-- A response that an agent says is its user's answer, or its own, to a request that came.
use Rattle.std.proofs.Common.{◌≡◌, ℕ, true, List, [], ◌∷◌, ◌++◌, refl, sym, ap, ◌∙◌, subst, append_assoc}
use Rattle.std.specs.Prelude.{Contains, IfSome, Option, None, Some, codes}
use Rattle.std.specs.List.{AllByRecursion}
use Rattle.std.proofs.lemmas.Option.{same_Some}
use Rattle.sip_message.specs.declared.addr.Addr.{Addr}
use Rattle.sip_message.specs.declared.id.Id.{Id}
use Rattle.sip_message.specs.declared.key.Key.{Key}
use Rattle.sip_message.specs.declared.message.Message.{Message}
use Rattle.sip_message.specs.Message.{is_request_message}
use Rattle.sip_message.specs.Response.{response_of}
use Rattle.sip_message.specs.Written.{written}
use Rattle.keyed_machine.specs.Laws.{EachKeyAlone}
use Rattle.keyed_machine.specs.Machine.{Timed, given_at, tick_at}
use Rattle.sip_transactions.specs.declared.input.Command.TheVariants as order
use Rattle.sip_transactions.specs.declared.input.Input.{Input}
use Rattle.sip_transactions.specs.declared.input.Input.TheVariants as input
use Rattle.sip_transactions.specs.declared.output.UpKind.{UpKind}
use Rattle.sip_transactions.specs.declared.output.UpKind.TheVariants as kind
use Rattle.sip_transactions.specs.declared.output.Up.{Up as AnUp}
use Rattle.sip_user.specs.declared.command.Respond.{Respond}
use Rattle.sip_user.specs.declared.command.UserCommand.{UserCommand}
use Rattle.sip_user.specs.declared.command.UserCommand.TheVariants as user
use Rattle.sip_user.specs.declared.item.CallOut.{CallOut}
use Rattle.sip_user.specs.declared.item.CallOut.TheVariants as call_out
use Rattle.sip_user.specs.declared.item.Item.TheVariants.{Up, User}
use Rattle.sip_user.specs.OwnCall.{IsKindOf}
use Rattle.sip_held_dialogs.specs.Requests.{local_tag_of}
use Rattle.sip_served.specs.Arrival.{arrival_of as arrival_up}
use Rattle.sip_served.specs.Rules.Arrivals.{is_same_branch}
use Rattle.sip_served.specs.Rules.Responses.{response_sent}
use Rattle.sip_served.specs.declared.arrival.Arrival.{Arrival}
use Rattle.sip_served.specs.declared.held_request.HeldRequest.{HeldRequest}
use Rattle.sip_clients.specs.Clients.{status_of}
use Rattle.sip_clients.specs.Name.{name_of}
use Rattle.sip_calls.specs.declared.call.Call.{Call}
use Rattle.sip_calls.specs.Call.{CallItem, call_machine}
use Rattle.sip_calls.specs.CallShard.{call_cmp}
use Rattle.sip_calls.specs.HeldRequests.{requests_held}
use Rattle.sip_calls.specs.Histories.{call_from}
use Rattle.sip_calls.specs.OwnCall.{IsInputOf}
use Rattle.sip_round.specs.declared.config.Config.{Config}
use Rattle.sip_round.specs.declared.round.Round.{Round}
use Rattle.sip_round.specs.Answers.{calls_of, no_past, past_of}
use Rattle.sip_round.specs.Arrivals.{arrival_of}
use Rattle.sip_round.specs.Laws.{call_inputs_of, inputs_of, said_of_call}
use Rattle.sip_round.proofs.Said.{call_alone}
use Rattle.sip_conversation.specs.Messages.{CallSays, ComesUp, IsGiven, IsSaid}
use Rattle.sip_conversation.specs.Messages.IsSaid.{Acknowledges, Asked, Direct, Trying}
use Rattle.sip_conversation.specs.Answers.{AnswersARequest, AnswersItself, IsAnswered, IsCancelled, IsHandedUp, IsResponseTo, Responds}
use Rattle.sip_conversation.specs.Answers.AnswersItself.{Accepts, BadExtension, Merged, NoDialog, OutOfOrder, Proceeds, Terminates}
use Rattle.sip_conversation.specs.Answers.IsAnswered.{ByAgent, ByUser}
use Rattle.sip_conversation.proofs.ToTags.{answered_to}
use Rattle.sip_conversation.proofs.AckTexts.{no_ack}
use Rattle.sip_conversation.proofs.Along.{along, among_after, given_after}
use Rattle.sip_conversation.proofs.Among.{all_of, each_of, none_among}
use Rattle.sip_conversation.proofs.Bridge.{any_arrival}
use Rattle.sip_conversation.proofs.CallSays.{AnyAck, AnyCall, HeldIs, InputGives, OutGives, UserGives, all_held, all_say}
use Rattle.sip_clients.proofs.ClientAsks.{IsAsk}
use Rattle.sip_conversation.proofs.OneTransaction.{KindCame}
use Rattle.sip_conversation.proofs.Origins.{TimedComes, inputs_come}
use Rattle.sip_conversation.proofs.PracksCame.{arrived, was_sent}
use Rattle.sip_conversation.proofs.ServedReplies.{Cancels, KeepsGiven, KindBrought, OwnReplies}
use Rattle.sip_conversation.proofs.Unstamped.{no_status}
use Rattle.sip_conversation.proofs.Ups.{ItemCame, TimedCame, UpCame}
use Rattle.sip_conversation.proofs.Rounds.{ArrivalFits, OutFits, RoundFits, TimedFits, call_says, calls_give, inputs_fit}

-- ---- an answer copies parts of its request

made_copies : (request : Message) (status : ℕ) (reason tag : List ℕ)
    → IsResponseTo request (response_of request status reason tag)
made_copies request status reason tag = record {
  vias = refl;
  from = refl;
  to = answered_to request status tag;
  call_id = refl;
  cseq = refl;
}

-- if the user answered, he named this id
abbrev pub Names : {config : Config} {rounds : List Round} {request response : Message}
    {status : ℕ} → Id → IsAnswered config rounds request status response → Type 0
Names id (ByUser responds) = responds.respond.id ≡ id
Names id (ByAgent why bare) = Unit {0}

module _ (config : Config) (rounds : List Round) (Came : Message → Type 0) where
  -- ---- each answer

  -- this request came up to a call
  pub record CameTo (call_id : List ℕ) (arrival : Arrival) : Type 0 where
    pub came : Came arrival.request
    pub is_request : is_request_message arrival.request ≡ true
    pub call_id_is : arrival.request.call_id ≡ call_id
    pub up : AnUp
    pub handed : IsHandedUp config rounds arrival.request up
    pub id_is : up.id ≡ arrival.id
    pub key_is : up.key ≡ arrival.key
    pub made : List ℕ
    pub tag_is : arrival.tag ≡ local_tag_of arrival.request made

  -- an answer of the user or of the agent itself to this request, which came under this id
  pub record IsAnswerTo (id : Id) (request message : Message) (status : ℕ) : Type 0 where
    pub is_request : is_request_message request ≡ true
    pub came : Came request
    pub copies : IsResponseTo request message
    pub answered : IsAnswered config rounds request status message
    pub names : Names id answered

  abbrev pub AnswersTo : Arrival → Message → Type 0
  AnswersTo arrival message = (status : ℕ) → status_of message.start ≡ Some status
      → IsAnswerTo arrival.id arrival.request message status

  -- such an answer to some request
  pub record IsAnswer (message : Message) (status : ℕ) : Type 0 where
    pub request : AnswersARequest Came message
    pub answered : IsAnswered config rounds request.request status message

  abbrev pub Answers : Message → Type 0
  Answers message = (status : ℕ) → status_of message.start ≡ Some status
      → IsAnswer message status

  -- it is an answer to a request that came up so, under this id and from this transaction
  pub record IsAnswerOf (id : Id) (key : Key) (message : Message) : Type 0 where
    pub call_id : List ℕ
    pub arrival : Arrival
    pub came : CameTo call_id arrival
    pub id_is : arrival.id ≡ id
    pub key_is : arrival.key ≡ key
    pub answers : AnswersTo arrival message

  to_one : (id : Id) (request message : Message) (status : ℕ)
      → IsAnswerTo id request message status → IsAnswer message status
  to_one id request message status answer = record {
    request = record {
      request = request;
      is_request = answer.is_request;
      came = answer.came;
      copies = answer.copies;
    };
    answered = answer.answered;
  }

  any_answer : (id : Id) (key : Key) (message : Message) → IsAnswerOf id key message
      → Answers message
  any_answer id key message of status is =
      to_one of.arrival.id of.arrival.request message status (of.answers status is)

  abbrev itself : (request response : Message) (status other : ℕ) → Some status ≡ Some other
      → AnswersItself config rounds request status → response.body ≡ []
      → IsAnswered config rounds request other response
  itself request response status other is why bare =
      ByAgent (subst (AnswersItself config rounds request) (same_Some status other is) why) bare

  own_says : (status : ℕ) (reason : List ℕ) (id : Id) (request : Message) (tag : List ℕ)
      → Came request → is_request_message request ≡ true
      → AnswersItself config rounds request status
      → (other : ℕ) → Some status ≡ Some other
      → IsAnswerTo id request (response_of request status reason tag) other
  own_says status reason id request tag came is_request why other is = record {
    is_request = is_request;
    came = came;
    copies = made_copies request status reason tag;
    answered = itself request (response_of request status reason tag) status other is why refl;
    names = tt;
  }

  module _ (call_id : List ℕ) where
    abbrev Brought : Arrival → Type 0
    Brought = CameTo call_id

    own_reply : (status : ℕ) (reason : List ℕ) (arrival : Arrival) (tag : List ℕ)
        → Brought arrival → AnswersItself config rounds arrival.request status
        → AnswersTo arrival (response_of arrival.request status reason tag)
    own_reply status reason arrival tag came why =
        own_says status reason arrival.id arrival.request tag came.came came.is_request why

    cancelled : (invite cancel : Arrival) → Brought invite
        → Cancels Brought cancel invite
        → IsCancelled config rounds invite.request
    cancelled invite cancel came cancels =
        let brought = cancels.brought in record {
          up = came.up;
          came = came.handed;
          cancel = cancel.request;
          cancel_up = brought.up;
          cancel_came = brought.handed;
          is_cancel = cancels.is_cancel;
          call_id_is = brought.call_id_is ∙ sym came.call_id_is;
          branch_is = (λ i. is_same_branch (brought.key_is i) (came.key_is i))
              ∙ cancels.branch_is;
        }

    -- the same, of a request that came up to this call
    abbrev AnswersIn : Arrival → Message → Type 0
    AnswersIn arrival message = Brought arrival × AnswersTo arrival message

    answer_of : (arrival : Arrival) (message : Message) → AnswersIn arrival message
        → IsAnswerOf arrival.id arrival.key message
    answer_of arrival message answers = record {
      call_id = call_id;
      arrival = arrival;
      came = answers.0;
      id_is = refl;
      key_is = refl;
      answers = answers.1;
    }

    pub own : OwnReplies Brought AnswersTo
    own = record {
      merged = λ arrival came bare.
          own_reply 482 (codes "Loop Detected") arrival arrival.tag came (Merged refl bare);
      extension = λ arrival came unknown other is. record {
        is_request = came.is_request;
        came = came.came;
        copies = record {
          vias = refl;
          from = refl;
          to = answered_to arrival.request 420 arrival.tag;
          call_id = refl;
          cseq = refl;
        };
        answered = itself arrival.request _ 420 other is (BadExtension refl unknown) refl;
        names = tt;
      };
      no_dialog = λ arrival came is. own_reply 481 (codes "Call/Transaction Does Not Exist")
          arrival arrival.tag came (NoDialog refl is);
      out_of_order = λ arrival came tagged. own_reply 500 (codes "Server Internal Error") arrival
          arrival.tag came (OutOfOrder refl tagged);
      accepted = λ arrival tag came is.
          own_reply 200 (codes "OK") arrival tag came (Accepts refl is);
      terminated = λ invite cancel came cancels. own_reply 487 (codes "Request Terminated") invite
          invite.tag came
          (Terminates refl cancels.is_invite (cancelled invite cancel came cancels));
    }

    own_in : OwnReplies Brought AnswersIn
    own_in = record {
      merged = λ arrival came bare. (came, own.merged arrival came bare);
      extension = λ arrival came unknown. (came, own.extension arrival came unknown);
      no_dialog = λ arrival came is. (came, own.no_dialog arrival came is);
      out_of_order = λ arrival came tagged. (came, own.out_of_order arrival came tagged);
      accepted = λ arrival tag came is. (came, own.accepted arrival tag came is);
      terminated = λ invite cancel came cancels. (came, own.terminated invite cancel came cancels);
    }

    pub user_answers : (front : List (Timed CallItem)) (now : ℕ) (event : Id)
        (respond : Respond) (rest : List (Timed CallItem))
        → call_inputs_of config rounds call_id
        ≡ front ++ given_at now (event, User (user.Respond respond)) ∷ rest
        → (local : Addr) (held : HeldRequest) → Brought (arrived held) → respond.id ≡ held.id
        → Contains (given_after (calls_of config) front (given_at now (event, User (user.Respond respond))))
        (call_out.Command held.id
        (order.Answer held.key (response_sent local held respond)))
        → AnswersTo (arrived held) (response_sent local held respond)
    user_answers front now event respond rest are local held came named sent status is =
        let outs = given_after (calls_of config) front (given_at now (event, User (user.Respond respond))) in
        let response = response_sent local held respond in
        let start = (was_sent local held respond).start in
        let responds : Responds config rounds call_id respond held.key response = record {
          earlier = front;
          now = now;
          event = event;
          later = rest;
          inputs_are = are;
          sent = subst (λ id. Contains outs (call_out.Command id (order.Answer held.key response)))
              (sym named) sent;
        } in
        record {
          is_request = came.is_request;
          came = came.came;
          copies = (was_sent local held respond).copies;
          answered = ByUser record {
            respond = respond;
            up = came.up;
            gave = subst (λ of. Responds config rounds of respond (came.up).key response)
                (sym came.call_id_is)
                (subst (λ key. Responds config rounds call_id respond key response)
                (sym came.key_is) responds);
            came = came.handed;
            names = named ∙ sym came.id_is;
            status_is = same_Some respond.status status (sym (ap status_of start) ∙ is);
            body_is = sym (was_sent local held respond).body;
            sent_status = is;
          };
          names = named;
        }

    command_gives : (front : List (Timed CallItem)) (now : ℕ) (event : Id)
        (command : UserCommand) (rest : List (Timed CallItem))
        → call_inputs_of config rounds call_id
        ≡ front ++ given_at now (event, User command) ∷ rest
        → UserGives Brought AnswersIn IsAnswerOf answer_of own_in
        (given_after (calls_of config) front (given_at now (event, User command))) command
    command_gives front now event (user.Invite invite) rest are = tt
    command_gives front now event (user.Plain plain) rest are = tt
    command_gives front now event (user.Request request) rest are = tt
    command_gives front now event (user.Respond respond) rest are = λ local held came named sent.
        (came, user_answers front now event respond rest are local held came named sent)
    command_gives front now event (user.Ack ack) rest are = tt
    command_gives front now event (user.Prack prack) rest are = tt
    command_gives front now event (user.Cancel cancel) rest are = tt
    command_gives front now event (user.AbandonRequest abandon) rest are = tt
    command_gives front now event (user.AbandonDialog abandon) rest are = tt

    -- a request that comes up to the call
    pub request_came : (now : ℕ) (event : Id) (made : List ℕ) (up : AnUp) (request : Message)
        (reply_to : Addr) → up.kind ≡ kind.Request request reply_to
        → Contains (call_inputs_of config rounds call_id) (given_at now (event, Up up))
        → Came request → is_request_message request ≡ true → request.call_id ≡ call_id
        → Brought (arrival_up up request reply_to made)
    request_came now event made up request reply_to is among came asks its = record {
      came = came;
      is_request = asks;
      call_id_is = its;
      up = up;
      handed = record {
        reply_to = reply_to;
        kind_is = is;
        comes = subst (λ of. ComesUp config rounds of up) (sym its) (now, event, among);
      };
      id_is = refl;
      key_is = refl;
      made = made;
      tag_is = refl;
    }

    kind_came : (now : ℕ) (event : Id) (made : List ℕ) (up : AnUp) (k : UpKind) → up.kind ≡ k
        → Contains (call_inputs_of config rounds call_id) (given_at now (event, Up up))
        → KindCame Came k → IsKindOf call_id k → KindBrought AnyCall Brought AnyAck made up k
    kind_came now event made up (kind.Request request reply_to) is among came its =
        (tt, request_came now event made up request reply_to is among came.0 came.1 its)
    kind_came now event made up (kind.Ack ack) is among came its = (tt, tt)
    kind_came now event made up (kind.Response response) is among came its = tt
    kind_came now event made up kind.Timeout is among came its = tt
    kind_came now event made up kind.Failed is among came its = tt

    input_gives : (front : List (Timed CallItem)) (now : ℕ) (i : Option CallItem)
        (rest : List (Timed CallItem))
        → call_inputs_of config rounds call_id
        ≡ front ++ record { moment = now; input = i } ∷ rest
        → IfSome i (λ i. ItemCame (UpCame Came) i.1) → IsInputOf call_id i
        → InputGives Brought AnswersIn IsAnswerOf answer_of own_in (calls_of config)
        (given_after (calls_of config) front (record { moment = now; input = i })) i
    input_gives front now None rest are came its = tt
    input_gives front now (Some (event, Up up)) rest are came its =
        kind_came now event (name_of config.seed event 0) up up.kind refl
        (among_after front (given_at now (event, Up up)) rest are) came its.1
    input_gives front now (Some (event, User command)) rest are came its =
        command_gives front now event command rest are

  -- each request that came to a call or a transaction is such a request
  pub record AllCame : Type 0 where
    pub calls : (call_id : List ℕ)
        → AllByRecursion (TimedCame (UpCame Came)) (call_inputs_of config rounds call_id)
    pub transactions : (key : Key) (id : Id) (message : Message) (reply_to : Addr)
        → IsGiven config rounds key (input.Receive id message reply_to) → Came message

  module _ (alone : EachKeyAlone call_cmp (call_machine (calls_of config)) tick_at)
      (came : AllCame) where
    -- ---- what an agent says

    gives_at : (call_id : List ℕ) (front : List (Timed CallItem)) (timed : Timed CallItem)
        (rest : List (Timed CallItem))
        → call_inputs_of config rounds call_id ≡ front ++ timed ∷ rest
        → InputGives (CameTo call_id) (AnswersIn call_id) IsAnswerOf (answer_of call_id)
        (own_in call_id) (calls_of config) (given_after (calls_of config) front timed) timed.input
    gives_at call_id front timed rest are =
        let inputs = call_inputs_of config rounds call_id in
        let among = among_after front timed rest are in
        input_gives call_id front timed.moment timed.input rest are
        (each_of (TimedCame (UpCame Came)) inputs timed (came.calls call_id) among)
        (each_of (TimedComes config rounds call_id) inputs timed
        (inputs_come config rounds call_id) among).0

    pub out_says : (out : CallOut) → CallSays config rounds out → OutGives IsAnswerOf out
    out_says out said =
        let call_id = said.0 in
        let inputs = call_inputs_of config rounds call_id in
        each_of (OutGives IsAnswerOf) (said_of_call config rounds call_id) out
        (subst (AllByRecursion (OutGives IsAnswerOf))
        (sym (call_alone (calls_of config) alone [] (past_of config rounds).calls call_id))
        (all_say (CameTo call_id) (AnswersIn call_id) IsAnswerOf (answer_of call_id)
        (own_in call_id) (calls_of config) call_id None inputs
        (along (InputGives (CameTo call_id) (AnswersIn call_id) IsAnswerOf (answer_of call_id)
        (own_in call_id) (calls_of config)) (calls_of config) inputs
        (gives_at call_id) [] inputs refl) tt)) said.1

    -- a request that is held came up to its call
    pub held_came : (call_id : List ℕ) (front rest : List (Timed CallItem))
        → call_inputs_of config rounds call_id ≡ front ++ rest → (held : HeldRequest)
        → Contains (requests_held (call_from (calls_of config) None front)) held
        → CameTo call_id (arrived held)
    held_came call_id front rest are held among =
        by_call (call_from (calls_of config) None front)
        (all_held (CameTo call_id) (AnswersIn call_id) IsAnswerOf (answer_of call_id)
        (own_in call_id) (calls_of config) None front
        (along (InputGives (CameTo call_id) (AnswersIn call_id) IsAnswerOf (answer_of call_id)
        (own_in call_id) (calls_of config)) (calls_of config) front
        (λ first timed more is. gives_at call_id first timed (more ++ rest)
        (are ∙ (ap (λ inputs. inputs ++ rest) is ∙ append_assoc first (timed ∷ more) rest))) []
        front refl) tt) among
      where
        by_call : (call : Option Call)
            → HeldIs (CameTo call_id) (AnswersIn call_id) IsAnswerOf (answer_of call_id)
            (own_in call_id) call
            → Contains (requests_held call) held → CameTo call_id (arrived held)
        by_call None is among = absurd (none_among held among)
        by_call (Some call) is among =
            (each_of (KeepsGiven (CameTo call_id) (AnswersIn call_id)) (call.served).requests held
            is.served among).came

    -- a transaction is started with a request
    abbrev StartAsks : Key → Input → Type 0
    StartAsks key (input.Receive id message reply_to) = Unit {0}
    StartAsks key (input.Start id call_id message to) = IsAsk message
    StartAsks key (input.Answer id message) = Unit {0}
    StartAsks key (input.Failed id) = Unit {0}
    StartAsks key input.Abandon = Unit {0}

    out_fits : (out : CallOut) → OutGives IsAnswerOf out → OutFits config StartAsks out
    out_fits (call_out.Notice notice) says = tt
    out_fits (call_out.Command id (order.Start key call_id message to)) says = says
    out_fits (call_out.Command id (order.Answer key message)) says = tt
    out_fits (call_out.Command id (order.Abandon key)) says = tt
    out_fits (call_out.Direct to bytes) says = tt

    start_asks : (key : Key) (id : Id) (call_id : List ℕ) (message : Message) (to : Addr)
        → IsGiven config rounds key (input.Start id call_id message to) → IsAsk message
    start_asks key id call_id message to given =
        each_of (TimedFits config StartAsks key) (inputs_of config rounds key)
        (given_at given.0 (input.Start id call_id message to))
        (inputs_fit config StartAsks key rounds
        (all_of (RoundFits config StartAsks) rounds
        (λ round among. all_of
        (λ e. (id : Id) → ArrivalFits config StartAsks (arrival_of config.local id e)) round.events
        (λ e has id. any_arrival config StartAsks (λ id message reply_to. tt) (λ key id. tt) id
        e)))
        (all_of (OutFits config StartAsks) (calls_give config config.first no_past rounds)
        (λ out among. out_fits out (out_says out (call_says config rounds out among))))) given.1

    pub answered : (response : Message) → IsSaid config rounds response → Answers response
    answered response (Asked id (order.Start key call_id message to) says same) status is =
        absurd (no_status response.start status (ap is_request_message (sym same)
        ∙ out_says (call_out.Command id (order.Start key call_id message to)) says) is)
    answered response (Asked id (order.Answer key message) says same) status is =
        subst Answers same (any_answer id key message
        (out_says (call_out.Command id (order.Answer key message)) says)) status is
    answered response (Asked id (order.Abandon key) says same) status is = absurd same
    answered response (Direct to says) status is =
        let text = out_says (call_out.Direct to (written response)) says in
        absurd (no_ack response text.0 status is (text.2).request (text.2).method text.1)
    answered response (Trying key id request reply_to given asks same) status is =
        subst Answers (sym same)
        (λ other so. to_one id request (response_of request 100 (codes "Trying") (codes "")) other
        (own_says 100 (codes "Trying") id request (codes "")
        (came.transactions key id request reply_to given) asks (Proceeds refl) other so))
        status is
    answered response (Acknowledges key id other call_id invite answer to reply_to given heard
        failure same)
        status is =
        absurd (no_status response.start status (ap is_request_message same
        ∙ start_asks key id call_id invite to given) is)
