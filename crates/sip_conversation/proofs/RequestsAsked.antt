-- A request that an agent says is an ACK, or one for which its user asked; a PRACK may also be the
-- agent's own, without a body.
use Rattle.std.proofs.Common.{◌≡◌, ◌⊎◌, inl, inr, ⊎_elim, ℕ, true, false, List, [], ◌∷◌, ◌++◌, refl, sym, ap, ◌∙◌, subst, append_assoc}
use Rattle.std.specs.Prelude.{Contains, IfSome, None, Option, Some, codes}
use Rattle.std.specs.List.{AllByRecursion}
use Rattle.std.specs.Map.{lookup}
use Rattle.std.proofs.lemmas.List.Elements.{Contains-append_right}
use Rattle.std.proofs.lemmas.Option.{same_Some}
use Rattle.std.proofs.lemmas.Bool.{false≢true}
use Rattle.sip_message.specs.declared.addr.Addr.{Addr}
use Rattle.sip_message.specs.declared.id.Id.{Id}
use Rattle.sip_message.specs.declared.key.Key.{Key}
use Rattle.sip_message.specs.declared.message.Message.{Message}
use Rattle.sip_message.specs.Message.{is_request_message}
use Rattle.sip_message.specs.Rules.{IsMessage}
use Rattle.sip_message.specs.Written.{written}
use Rattle.keyed_machine.specs.Laws.{EachKeyAlone}
use Rattle.keyed_machine.specs.Machine.{Timed, given_at, outputs_from, tick_at}
use Rattle.sip_transactions.specs.declared.input.Command.TheVariants as order
use Rattle.sip_user.specs.declared.command.Cancel.{Cancel}
use Rattle.sip_user.specs.declared.command.DialogBody.{DialogBody}
use Rattle.sip_user.specs.declared.command.UserCommand.{UserCommand}
use Rattle.sip_user.specs.declared.command.UserCommand.TheVariants as user
use Rattle.sip_user.specs.declared.item.CallOut.{CallOut}
use Rattle.sip_user.specs.declared.item.CallOut.TheVariants as call_out
use Rattle.sip_user.specs.declared.item.Item.TheVariants.{Up, User}
use Rattle.sip_held_dialogs.specs.Ids.{is_id}
use Rattle.sip_held_dialogs.proofs.Each.{found_one}
use Rattle.sip_clients.specs.Client.{client_at}
use Rattle.sip_clients.specs.Rules.Requests.{has_command, is_invite_kind}
use Rattle.sip_clients.specs.declared.client.Client.{Client}
use Rattle.sip_calls.specs.Call.{CallItem, call_machine}
use Rattle.sip_calls.specs.CallShard.{call_cmp}
use Rattle.sip_calls.specs.Histories.{call_from}
use Rattle.sip_calls.specs.Provisionals.{side_held}
use Rattle.sip_calls.specs.declared.call.Call.{Call}
use Rattle.sip_round.specs.declared.config.Config.{Config}
use Rattle.sip_round.specs.declared.round.Round.{Round}
use Rattle.sip_round.specs.Answers.{calls_of, past_of}
use Rattle.sip_round.specs.Laws.{call_inputs_of, said_of_call}
use Rattle.sip_round.proofs.Said.{call_alone}
use Rattle.sip_conversation.specs.Cancels.{UserCancelled}
use Rattle.sip_conversation.specs.Messages.{CallSays, IsSaid}
use Rattle.sip_conversation.specs.Messages.IsSaid.{Acknowledges, Asked, Direct, Trying}
use Rattle.sip_conversation.specs.Requests.{UserAsked, request_asked_by}
use Rattle.sip_conversation.specs.ToldPracks.{IsPracked}
use Rattle.sip_conversation.specs.ToldPracks.IsPracked.{ByAgent, ByUser}
use Rattle.sip_conversation.proofs.AckTexts.{is_ack}
use Rattle.sip_conversation.proofs.Among.{all_of, among_first, each_of}
use Rattle.sip_conversation.proofs.AmongInputs.{out_of_first_inputs}
use Rattle.sip_conversation.proofs.Branches.{Own}
use Rattle.sip_conversation.proofs.CallBranches.{AllCancel, AnyCancel, HeldOwn, InputCancels, InputComes, OutIsOwn, all_own, any_inputs, held_own}
use Rattle.sip_conversation.proofs.ClientsSent.{WentOut, held_went}
use Rattle.sip_conversation.proofs.CommandAsks.{InputAsks, OutAsks, all_say}
use Rattle.sip_conversation.proofs.OneCallId.{out_replies}
use Rattle.sip_conversation.proofs.OneStart.{start_id, started_with}
use Rattle.sip_conversation.proofs.Origins.{IsOrigin, inputs_come}
use Rattle.sip_conversation.proofs.PracksOfCalls.{from_more}
use Rattle.sip_conversation.proofs.Rounds.{all_of_parts}

module _ (config : Config) (rounds : List Round)
    (alone : EachKeyAlone call_cmp (call_machine (calls_of config)) tick_at) where
  -- the user asked for such a request, by the command of this event
  record IsCommanded (call_id : List ℕ) (event : Id) (method body : List ℕ) : Type 0 where
    pub now : ℕ
    pub command : UserCommand
    pub gave : Contains (call_inputs_of config rounds call_id)
        (given_at now (event, User command))
    pub asks : request_asked_by command ≡ Some (method, body)

  -- the user gave the command Prack with this body, by this event; or there is no body
  record GavePrack (call_id : List ℕ) (event : Id) (body : List ℕ) : Type 0 where
    pub now : ℕ
    pub command : DialogBody
    pub gave : Contains (call_inputs_of config rounds call_id)
        (given_at now (event, User (user.Prack command)))
    pub body_is : command.content.body ≡ body

  abbrev Pracked : List ℕ → Id → List ℕ → Type 0
  Pracked call_id event body = GavePrack call_id event body ⊎ (body ≡ [])

  empty : (call_id : List ℕ) (event : Id) → Pracked call_id event []
  empty call_id event = inr refl

  module _ (call_id : List ℕ) where
    abbrev OutIsAsked : CallOut → Type 0
    OutIsAsked = OutAsks (IsCommanded call_id) (Pracked call_id) (empty call_id)

    abbrev InputIsAsked : Option CallItem → Type 0
    InputIsAsked = InputAsks (IsCommanded call_id) (Pracked call_id) (empty call_id)

    asked : (now : ℕ) (event : Id) (command : UserCommand)
        → Contains (call_inputs_of config rounds call_id) (given_at now (event, User command))
        → (method body : List ℕ) → request_asked_by command ≡ Some (method, body)
        → IsCommanded call_id event method body
    asked now event command among method body asks =
        record { now = now; command = command; gave = among; asks = asks }

    input_asks : (now : ℕ) (i : Option CallItem)
        → Contains (call_inputs_of config rounds call_id) (record { moment = now; input = i })
        → InputIsAsked i
    input_asks now None among = tt
    input_asks now (Some (event, Up up)) among = tt
    input_asks now (Some (event, User (user.Invite invite))) among =
        asked now event (user.Invite invite) among
    input_asks now (Some (event, User (user.Plain plain))) among =
        asked now event (user.Plain plain) among
    input_asks now (Some (event, User (user.Request request))) among =
        asked now event (user.Request request) among
    input_asks now (Some (event, User (user.Respond respond))) among =
        asked now event (user.Respond respond) among
    input_asks now (Some (event, User (user.Ack ack))) among = asked now event (user.Ack ack) among
    input_asks now (Some (event, User (user.Prack prack))) among =
        inl record { now = now; command = prack; gave = among; body_is = refl }
    input_asks now (Some (event, User (user.Cancel cancel))) among =
        asked now event (user.Cancel cancel) among
    input_asks now (Some (event, User (user.AbandonRequest abandon))) among =
        asked now event (user.AbandonRequest abandon) among
    input_asks now (Some (event, User (user.AbandonDialog abandon))) among =
        asked now event (user.AbandonDialog abandon) among

  out_asks : (out : CallOut) → (says : CallSays config rounds out) → OutIsAsked says.0 out
  out_asks out says =
      let call_id = says.0 in
      let inputs = call_inputs_of config rounds call_id in
      each_of (OutIsAsked call_id) (said_of_call config rounds call_id) out
      (subst (AllByRecursion (OutIsAsked call_id))
      (sym (call_alone (calls_of config) alone [] (past_of config rounds).calls call_id))
      (all_say (IsCommanded call_id) (Pracked call_id) (empty call_id) (calls_of config) call_id
      None inputs
      (all_of (λ (timed : Timed CallItem). InputIsAsked call_id timed.input) inputs
      (λ timed among. input_asks call_id timed.moment timed.input among)))) says.1

  -- In this call the user gave the command Cancel, by the event of this id. It names an INVITE by
  -- the id under which that went out.
  pub record GaveCancel (call_id : List ℕ) (event : Id) (request : Message) : Type 0 where
    pub now : ℕ
    pub command : Cancel
    pub gave : Contains (call_inputs_of config rounds call_id)
        (given_at now (event, User (user.Cancel command)))
    pub went : WentOut (outputs_from (call_machine (calls_of config)) call_id None
        (call_inputs_of config rounds call_id)) command.id request
    pub invites : request.cseq.method ≡ codes "INVITE"

  abbrev pub OwnOut : List ℕ → CallOut → Type 0
  OwnOut call_id =
      OutIsOwn (calls_of config) call_id (IsOrigin config rounds call_id) (GaveCancel call_id)

  module _ (call_id : List ℕ) where
    abbrev inputs : List (Timed CallItem)
    inputs = call_inputs_of config rounds call_id

    abbrev Gave : Option Call → Option CallItem → Type 0
    Gave = InputCancels (calls_of config) call_id (IsOrigin config rounds call_id)
        (GaveCancel call_id)

    -- the method of a held INVITE
    held_invites : (front rest : List (Timed CallItem)) → inputs ≡ front ++ rest → (call : Call)
        → call_from (calls_of config) None front ≡ Some call → (id : Id) (client : Client)
        → lookup (is_id id) call.clients ≡ Some client → is_invite_kind client.kind ≡ true
        → client.request.cseq.method ≡ codes "INVITE"
    held_invites front rest are call held id client found kind =
        let calls = calls_of config in
        let Came : Id → Type 0 = IsOrigin config rounds call_id in
        let Comes : Timed CallItem → Type 0 =
        λ timed. InputComes calls call_id Came AnyCancel timed.input in
        let come = (all_of_parts Comes front rest
        (subst (AllByRecursion Comes) are (inputs_come config rounds call_id))).0 in
        let own = subst (HeldOwn calls call_id Came AnyCancel) held
        (held_own calls call_id Came AnyCancel None front come
        (any_inputs calls call_id Came None front) tt tt) in
        let OwnRequest : Client → Type 0 = Own calls.local calls.seed call_id Came AnyCancel in
        (subst (λ o. IfSome o OwnRequest) found
        (found_one OwnRequest (is_id id) call.clients own)).invites kind

    -- a command for a held request names the id under which that went out
    cancel_gave : (front rest : List (Timed CallItem)) (call : Call) (now : ℕ) (event : Id)
        (command : Cancel)
        → inputs ≡ front ++ given_at now (event, User (user.Cancel command)) ∷ rest
        → call_from (calls_of config) None front ≡ Some call → (invite : Client)
        → lookup (is_id command.id) call.clients ≡ Some invite
        → is_invite_kind invite.kind ≡ true → GaveCancel call_id event invite.request
    cancel_gave front rest call now event command are held invite found kind =
        let timed : Timed CallItem = given_at now (event, User (user.Cancel command)) in
        let calls = calls_of config in
        let early = held_went calls call_id front command.id invite
        (ap (λ o. client_at command.id (side_held o).clients) held ∙ found) in
        record {
          now = now;
          command = command;
          gave = subst (λ xs. Contains xs timed) (sym are)
              (Contains-append_right front (timed ∷ rest) timed (among_first timed rest));
          went = record {
            one = early.one;
            among = subst (λ xs. Contains (outputs_from (call_machine calls) call_id None xs)
                early.one) (sym are)
                (out_of_first_inputs calls call_id front (timed ∷ rest) early.one early.among);
            starts = early.starts;
            sends = early.sends;
          };
          invites = held_invites front (timed ∷ rest) are call held command.id invite found kind;
        }

    input_gave : (front rest : List (Timed CallItem)) (state : Option Call)
        → call_from (calls_of config) None front ≡ state → (now : ℕ) (i : Option CallItem)
        → inputs ≡ front ++ record { moment = now; input = i } ∷ rest → Gave state i
    input_gave front rest None held now i are = tt
    input_gave front rest (Some call) held now None are = tt
    input_gave front rest (Some call) held now (Some (event, Up up)) are = tt
    input_gave front rest (Some call) held now (Some (event, User (user.Invite invite))) are = tt
    input_gave front rest (Some call) held now (Some (event, User (user.Plain plain))) are = tt
    input_gave front rest (Some call) held now (Some (event, User (user.Request request))) are =
        tt
    input_gave front rest (Some call) held now (Some (event, User (user.Respond respond))) are =
        tt
    input_gave front rest (Some call) held now (Some (event, User (user.Ack ack))) are = tt
    input_gave front rest (Some call) held now (Some (event, User (user.Prack prack))) are = tt
    input_gave front rest (Some call) held now (Some (event, User (user.Cancel cancel))) are =
        cancel_gave front rest call now event cancel are held
    input_gave front rest (Some call) held now
        (Some (event, User (user.AbandonRequest abandon))) are = tt
    input_gave front rest (Some call) held now
        (Some (event, User (user.AbandonDialog abandon))) are = tt

    all_gave : (front rest : List (Timed CallItem)) → inputs ≡ front ++ rest
        → AllCancel (calls_of config) call_id (IsOrigin config rounds call_id)
        (GaveCancel call_id) (call_from (calls_of config) None front) rest
    all_gave front [] are = tt
    all_gave front (timed ∷ rest) are = (
      input_gave front rest (call_from (calls_of config) None front) refl timed.moment
          timed.input are,
      subst (λ s. AllCancel (calls_of config) call_id (IsOrigin config rounds call_id)
          (GaveCancel call_id) s rest) (from_more (calls_of config) None front timed)
          (all_gave (front ++ timed ∷ []) rest
          (are ∙ sym (append_assoc front (timed ∷ []) rest))),
    )

  pub out_own : (out : CallOut) → (says : CallSays config rounds out) → OwnOut says.0 out
  out_own out says =
      let call_id = says.0 in
      each_of (OwnOut call_id) (said_of_call config rounds call_id) out
      (subst (AllByRecursion (OwnOut call_id))
      (sym (call_alone (calls_of config) alone [] (past_of config rounds).calls call_id))
      (all_own (calls_of config) call_id (IsOrigin config rounds call_id) (GaveCancel call_id)
      None (inputs call_id) (inputs_come config rounds call_id)
      (all_gave call_id [] (inputs call_id) refl) tt tt)) says.1

  -- ---- each way to say a request

  started_asked : (id : Id) (key : Key) (of : List ℕ) (request : Message) (to : Addr)
      → CallSays config rounds (call_out.Command id (order.Start key of request to))
      → has_command request.cseq.method ≡ false → UserAsked config rounds request
  started_asked id key of request to says other =
      let out = call_out.Command id (order.Start key of request to) in
      let own = out_own out says in
      let given = (out_asks out says).asks other in
      record {
        event = id;
        now = given.now;
        command = given.command;
        gave = subst (λ call_id. Contains (call_inputs_of config rounds call_id)
            (given_at given.now (id, User given.command))) (sym own.own.call) given.gave;
        asks = given.asks;
        key = key;
        to = to;
        starts = subst (λ call_id. CallSays config rounds
            (call_out.Command id (order.Start key call_id request to))) own.of_is says;
      }

  started_pracked : (id : Id) (key : Key) (of : List ℕ) (request : Message) (to : Addr)
      → CallSays config rounds (call_out.Command id (order.Start key of request to))
      → request.cseq.method ≡ codes "PRACK" → IsPracked config rounds request
  started_pracked id key of request to says is =
      let out = call_out.Command id (order.Start key of request to) in
      let own = out_own out says in
      ⊎_elim
      (λ gave. ByUser record {
        event = id;
        now = gave.now;
        command = gave.command;
        gave = subst (λ call_id. Contains (call_inputs_of config rounds call_id)
            (given_at gave.now (id, User (user.Prack gave.command)))) (sym own.own.call)
            gave.gave;
        body_is = gave.body_is;
        key = key;
        to = to;
        starts = subst (λ call_id. CallSays config rounds
            (call_out.Command id (order.Start key call_id request to))) own.of_is says;
      })
      (λ none. ByAgent none) ((out_asks out says).pracks is)

  no_request : (message : Message) → is_request_message message ≡ true
      → is_request_message message ≡ false → ⊥
  no_request message is isnt = false≢true (sym isnt ∙ is)

  no_ack : (message : Message) → has_command message.cseq.method ≡ false
      → message.cseq.method ≡ codes "ACK" → ⊥
  no_ack message other is = false≢true (sym other ∙ ap has_command is)

  pub user_asked : (message : Message) → IsSaid config rounds message → IsMessage message
      → is_request_message message ≡ true → has_command message.cseq.method ≡ false
      → UserAsked config rounds message
  user_asked message (Asked id (order.Start key of request to) says same) rules is other =
      subst (UserAsked config rounds) same
      (started_asked id key of request to says
      (ap (λ (m : Message). has_command m.cseq.method) same ∙ other))
  user_asked message (Asked id (order.Answer key response) says same) rules is other =
      absurd (no_request message is (ap is_request_message (sym same)
      ∙ out_replies config alone rounds (call_out.Command id (order.Answer key response)) says))
  user_asked message (Asked id (order.Abandon key) says same) rules is other = absurd same
  user_asked message (Direct to says) rules is other =
      let text = out_replies config alone rounds (call_out.Direct to (written message)) says in
      absurd (no_ack message other (is_ack message text.0 is rules.method (text.2).request
      (text.2).method text.1))
  user_asked message (Trying key id request reply_to given asks same) rules is other =
      absurd (no_request message is (ap is_request_message same))
  user_asked message (Acknowledges key id answered of invite response to reply_to given heard
      failure same)
      rules is other = absurd (no_ack message other (ap (λ (m : Message). m.cseq.method) same))

  not_both : codes "PRACK" ≡ codes "ACK" → ⊥
  not_both same = absurd cc

  pub user_pracked : (message : Message) → IsSaid config rounds message → IsMessage message
      → is_request_message message ≡ true → message.cseq.method ≡ codes "PRACK"
      → IsPracked config rounds message
  user_pracked message (Asked id (order.Start key of request to) says same) rules is prack =
      subst (IsPracked config rounds) same
      (started_pracked id key of request to says
      (ap (λ (m : Message). m.cseq.method) same ∙ prack))
  user_pracked message (Asked id (order.Answer key response) says same) rules is prack =
      absurd (no_request message is (ap is_request_message (sym same)
      ∙ out_replies config alone rounds (call_out.Command id (order.Answer key response)) says))
  user_pracked message (Asked id (order.Abandon key) says same) rules is prack = absurd same
  user_pracked message (Direct to says) rules is prack =
      let text = out_replies config alone rounds (call_out.Direct to (written message)) says in
      absurd (not_both (sym prack ∙ is_ack message text.0 is rules.method (text.2).request
      (text.2).method text.1))
  user_pracked message (Trying key id request reply_to given asks same) rules is prack =
      absurd (no_request message is (ap is_request_message same))
  user_pracked message (Acknowledges key id answered of invite response to reply_to given heard
      failure same) rules is prack =
      absurd (not_both (sym prack ∙ ap (λ (m : Message). m.cseq.method) same))

  -- ---- a CANCEL

  -- an output that starts a transaction under this id with this request
  record IsStart (id : Id) (request : Message) (one : CallOut) : Type 0 where
    pub key : Key
    pub of : List ℕ
    pub to : Addr
    pub is : one ≡ call_out.Command id (order.Start key of request to)

  start_of : (one : CallOut) (id : Id) (request : Message) → start_id one ≡ Some id
      → ((otherwise : Message) → started_with otherwise one ≡ request) → IsStart id request one
  start_of (call_out.Notice notice) id request starts sends = absurd cc
  start_of (call_out.Direct to bytes) id request starts sends = absurd cc
  start_of (call_out.Command other (order.Answer key message)) id request starts sends =
      absurd cc
  start_of (call_out.Command other (order.Abandon key)) id request starts sends = absurd cc
  start_of (call_out.Command other (order.Start key of message to)) id request starts sends =
      let ids : other ≡ id = same_Some other id starts in record {
        key = key;
        of = of;
        to = to;
        is = (λ i. call_out.Command (ids i) (order.Start key of (sends request i) to));
      }

  started_cancelled : (id : Id) (key : Key) (of : List ℕ) (request : Message) (to : Addr)
      → CallSays config rounds (call_out.Command id (order.Start key of request to))
      → request.cseq.method ≡ codes "CANCEL" → UserCancelled config rounds request
  started_cancelled id key of request to says is =
      let own = out_own (call_out.Command id (order.Start key of request to)) says in
      let cancels = own.own.cancels is in
      let gave = cancels.asked in
      let sent = start_of gave.went.one gave.command.id cancels.request gave.went.starts
      gave.went.sends in
      record {
        event = id;
        now = gave.now;
        command = gave.command;
        gave = subst (λ call_id. Contains (call_inputs_of config rounds call_id)
            (given_at gave.now (id, User (user.Cancel gave.command)))) (sym own.own.call)
            gave.gave;
        key = key;
        to = to;
        starts = subst (λ call_id. CallSays config rounds
            (call_out.Command id (order.Start key call_id request to))) own.of_is says;
        invite = cancels.request;
        is_invite = gave.invites;
        invite_key = sent.key;
        invite_call = sent.of;
        invite_to = sent.to;
        sent = (
          says.0,
          subst (Contains (said_of_call config rounds says.0)) sent.is
              (subst (λ outs. Contains outs gave.went.one)
              (sym (call_alone (calls_of config) alone [] (past_of config rounds).calls says.0))
              gave.went.among),
        );
        cancels = cancels.is;
      }

  no_cancel : codes "CANCEL" ≡ codes "ACK" → ⊥
  no_cancel same = absurd cc

  pub user_cancelled : (message : Message) → IsSaid config rounds message → IsMessage message
      → is_request_message message ≡ true → message.cseq.method ≡ codes "CANCEL"
      → UserCancelled config rounds message
  user_cancelled message (Asked id (order.Start key of request to) says same) rules is cancel =
      subst (UserCancelled config rounds) same
      (started_cancelled id key of request to says
      (ap (λ (m : Message). m.cseq.method) same ∙ cancel))
  user_cancelled message (Asked id (order.Answer key response) says same) rules is cancel =
      absurd (no_request message is (ap is_request_message (sym same)
      ∙ out_replies config alone rounds (call_out.Command id (order.Answer key response)) says))
  user_cancelled message (Asked id (order.Abandon key) says same) rules is cancel = absurd same
  user_cancelled message (Direct to says) rules is cancel =
      let text = out_replies config alone rounds (call_out.Direct to (written message)) says in
      absurd (no_cancel (sym cancel ∙ is_ack message text.0 is rules.method (text.2).request
      (text.2).method text.1))
  user_cancelled message (Trying key id request reply_to given asks same) rules is cancel =
      absurd (no_request message is (ap is_request_message same))
  user_cancelled message (Acknowledges key id answered of invite response to reply_to given heard
      failure same) rules is cancel =
      absurd (no_cancel (sym cancel ∙ ap (λ (m : Message). m.cseq.method) same))
