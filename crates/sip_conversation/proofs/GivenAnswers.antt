-- What the transaction of a request at the other side is given, and what it sends: an answer to it
-- copies the request, and goes back to where that came from; and a final response that comes to the
-- request's own transaction was sent by that one.
use Rattle.std.proofs.Common.{◌≡◌, ⊎_elim, ℕ, ◌≤◌, Bool, true, false, ◌&&◌, ◌==◌, List, [], ◌∷◌, length, refl, sym, ap, ◌∙◌, subst, codes, arith}
use Rattle.std.specs.Prelude.{Contains, Option, None, Some, if◌then◌else◌, not}
use Rattle.std.specs.List.{AllByRecursion, slice_get}
use Rattle.std.specs.Option.{option_map_or}
use Rattle.std.specs.Str.{bytes_eq}
use Rattle.std.proofs.lemmas.Bool.{false≢true}
use Rattle.std.proofs.lemmas.Bool.Decides.{Decides-eqb}
use Rattle.std.proofs.lemmas.Slice.Eq.{bytes_eq-Decides}
use Rattle.sip_message.specs.declared.addr.Addr.{Addr}
use Rattle.sip_message.specs.declared.cseq.CSeq.{CSeq}
use Rattle.sip_message.specs.declared.id.Id.{Id}
use Rattle.sip_message.specs.declared.key.Key.{Key}
use Rattle.sip_message.specs.declared.message.Message.{Message}
use Rattle.sip_message.specs.declared.via.Via.{Via}
use Rattle.sip_message.specs.HopByHop.{ack_of}
use Rattle.sip_message.specs.Ip.{ip_text}
use Rattle.sip_message.specs.Key.{branch_in, client_key, keys_total, method_in, side_of}
use Rattle.sip_message.specs.Message.{is_request_message}
use Rattle.sip_message.specs.MessageKey.{key_of_message}
use Rattle.sip_message.specs.Rules.{IsMessage}
use Rattle.sip_message.specs.Source.{answer_address, answered_at, asks_port, stamped, stamped_via, stamped_vias}
use Rattle.sip_message.specs.TopVia.{is_sent_by_of, is_via_of, top_branch, top_via}
use Rattle.sip_message.specs.Via.{branch_of}
use Rattle.sip_message.specs.Written.{written}
use Rattle.sip_dialog.specs.Request.{agent_via}
use Rattle.keyed_machine.specs.Machine.{Timed, given_at, outputs_from}
use Rattle.keyed_machine.proofs.Ordered.{is_at_itself}
use Rattle.sip_transactions.specs.declared.input.Command.TheVariants as order
use Rattle.sip_transactions.specs.declared.input.Input.{Input}
use Rattle.sip_transactions.specs.declared.input.Input.TheVariants as input
use Rattle.sip_transactions.specs.declared.output.Out.{Out}
use Rattle.sip_transactions.specs.declared.output.Out.TheVariants as out
use Rattle.sip_transactions.specs.Machine.{transaction_machine}
use Rattle.sip_transactions.specs.Steps.Input.{is_same_method}
use Rattle.sip_transactions.specs.Steps.Output.{trying_of}
use Rattle.sip_user.specs.declared.item.CallOut.{CallOut}
use Rattle.sip_user.specs.declared.item.CallOut.TheVariants as call_out
use Rattle.sip_user.specs.declared.item.Item.TheVariants.{Up}
use Rattle.sip_clients.specs.Clients.{status_of}
use Rattle.sip_round.specs.declared.config.Config.{Config}
use Rattle.sip_round.specs.declared.output.Output.{Output}
use Rattle.sip_round.specs.declared.output.Output.TheVariants as output
use Rattle.sip_round.specs.declared.round.Round.{Round}
use Rattle.sip_round.specs.Answers.{answers, calls_of, no_past, past_of}
use Rattle.sip_round.specs.Arrivals.{arrival_of}
use Rattle.sip_round.specs.Given.{all_given, is_send_with, send_in}
use Rattle.sip_round.specs.Laws.{call_inputs_of, inputs_of, said_of, said_of_call}
use Rattle.sip_round.proofs.GivenSends.{sends_given}
use Rattle.sip_round.proofs.Said.{call_alone, transaction_alone}
use Rattle.sip_conversation.specs.Answers.{IsResponseTo}
use Rattle.sip_conversation.specs.AnswersArrive.{is_receipt}
use Rattle.sip_conversation.specs.Conversation.{Carried, Side, Turn, peer, rounds_of}
use Rattle.sip_conversation.specs.Messages.{CallSays, CallsKeepRules, ComesUnchanged, IsGiven, come_from}
use Rattle.sip_conversation.specs.Replies.{AreCounted}
use Rattle.sip_conversation.specs.Steps.Fair.{IsFair}
use Rattle.sip_conversation.proofs.AckTexts.{no_ack}
use Rattle.sip_conversation.proofs.Among.{all_of, among_kept, each_of, first_or_later, in_one_of, none_among}
use Rattle.sip_conversation.proofs.AnsweringServer.{ArePlain, IsPlain}
use Rattle.sip_conversation.proofs.Answered.{IsAnswerOf, out_says}
use Rattle.sip_conversation.proofs.Bridge.{answered_to, any_arrival, same_text}
use Rattle.sip_conversation.proofs.CallOuts.{GivesUpClients, gives_up_clients}
use Rattle.sip_conversation.proofs.CameUps.{request_first}
use Rattle.sip_conversation.proofs.HeardUps.{InputHeard, IsHeard, all_heard}
use Rattle.sip_conversation.proofs.OneCallId.{lower, out_replies}
use Rattle.sip_conversation.proofs.OneTransaction.{IsFaithful, faithful}
use Rattle.sip_conversation.proofs.RequestsAsked.{out_own}
use Rattle.sip_conversation.proofs.Rounds.{ArrivalFits, OutFits, RoundFits, TimedFits, call_says, calls_give, inputs_fit}
use Rattle.sip_conversation.proofs.SameRequest.{as_this, same_branch, same_original}
use Rattle.sip_conversation.proofs.Sends.{direct_sends_fit}
use Rattle.sip_conversation.proofs.StartedFor.{has_key, response_key}
use Rattle.sip_conversation.proofs.ToldCallId.{peer_peer}
use Rattle.sip_conversation.proofs.Unchanged.{messages_back, messages_unchanged, what_is_said}
use Rattle.sip_conversation.proofs.Unstamped.{no_status, same_response}
use Rattle.sip_conversation.proofs.UpMethods.{HasMethod}
use Rattle.sip_conversation.proofs.WasAnswered.{Came, all_came, start_said}

-- ---- addresses

-- the Via that an agent makes asks for the port
made_asks : (local : Addr) (branch : List ℕ) → asks_port (agent_via local branch) ≡ true
made_asks local branch = refl

answered_home : (local : Addr) (vias : Option Via) (branch : List ℕ)
    → vias ≡ Some (agent_via local branch) → option_map_or (answered_at local) vias local ≡ local
answered_home local vias branch is =
    ap (λ o. option_map_or (answered_at local) o local) is
    ∙ ap (λ b. if b then local else record { ip = local.ip; port = local.port })
    (made_asks local branch)

pub goes_home : (local : Addr) (request : Message) (branch : List ℕ)
    → top_via request ≡ Some (agent_via local branch) → answer_address request local ≡ local
unfolding answer_address
goes_home local request branch is = answered_home local (top_via request) branch is

-- it names this agent, also with the stamp
itself : (text : List ℕ) → bytes_eq text text ≡ true
itself text = (bytes_eq-Decides text text).1 refl

names_home : (local : Addr) (branch : List ℕ)
    → is_via_of local (stamped_via local (agent_via local branch)) ≡ true
names_home local branch =
    ap (λ b. b && (local.port == local.port)) (itself (ip_text local.ip))
    ∙ (Decides-eqb local.port local.port).1 refl

top_stamped : (local : Addr) (vias : List Via) (via : Via) → slice_get vias 0 ≡ Some via
    → slice_get (stamped_vias local vias) 0 ≡ Some (stamped_via local via)
top_stamped local [] via is = absurd cc
top_stamped local (first ∷ vias) via is =
    let same : first ≡ via = cc in ap (λ v. Some (stamped_via local v)) same

home_sent_by : (local : Addr) (vias : Option Via) (via : Via) → vias ≡ Some via
    → is_via_of local via ≡ true → option_map_or (is_via_of local) vias false ≡ true
home_sent_by local vias via is own = ap (λ o. option_map_or (is_via_of local) o false) is ∙ own

pub sent_by_home : (local : Addr) (request response : Message) (branch : List ℕ)
    → top_via request ≡ Some (agent_via local branch)
    → response.vias ≡ (stamped request local).vias → is_sent_by_of response local ≡ true
unfolding is_sent_by_of stamped
sent_by_home local request response branch is same =
    home_sent_by local (top_via response) (stamped_via local (agent_via local branch))
    (ap (λ vias. slice_get vias 0) same
    ∙ top_stamped local request.vias (agent_via local branch) is)
    (names_home local branch)

no_hundred : (status : ℕ) → Some 100 ≡ Some status → 200 ≤ status → ⊥
no_hundred status same final =
    let is : 100 ≡ status = cc in omega (arith, is, final)

-- ---- what an agent sends for a transaction

text_in : Output → List ℕ
text_in (output.Send key to bytes) = bytes
text_in (output.Dropped place why) = []
text_in (output.Notice notice) = []

one_send : (o : Out) (key : Option Key) (to : Addr) (bytes : List ℕ)
    → Contains (send_in o) (output.Send key to bytes) → (own : Key) × (at : Addr)
    × (o ≡ out.Send own at bytes)
unfolding text_in
one_send (out.Up up) key to bytes among = absurd (none_among (output.Send key to bytes) among)
one_send (out.Send own at sent) key to bytes among =
    ⊎_elim
    (λ same. (own, at, ap (λ text. out.Send own at text) (ap text_in same)))
    (λ none. absurd (none_among (output.Send key to bytes) none))
    (first_or_later (output.Send (Some own) at sent) [] (output.Send key to bytes) among)
one_send (out.Dropped place why) key to bytes among =
    absurd (none_among (output.Send key to bytes) among)

own_send : (config : Config) (rounds : List Round) (key : Key) (to : Addr) (bytes : List ℕ)
    → Contains (all_given (answers config rounds)) (output.Send (Some key) to bytes)
    → (own : Key) × (at : Addr) × Contains (said_of config rounds key) (out.Send own at bytes)
own_send config rounds key to bytes among =
    let sent : Output = output.Send (Some key) to bytes in
    let found = in_one_of send_in (said_of config rounds key) sent
    (subst (λ outs. Contains outs sent) (sends_given config rounds key)
    (among_kept (is_send_with key) (all_given (answers config rounds)) sent among
    (is_at_itself keys_total key))) in
    let one = one_send found.0 (Some key) to bytes found.2 in
    (one.0, one.1, subst (λ o. Contains (said_of config rounds key) o) one.2 found.1)

module _ (configs : Side → Config) (fair : IsFair configs) (turns : List Turn)
    (carried : Carried configs turns) (keep : CallsKeepRules configs turns) (s : Side)
    (few : AreCounted (configs s) (rounds_of s turns)) (id : Id) (own : Key) (of : List ℕ)
    (request : Message) (to : Addr)
    (says : CallSays (configs s) (rounds_of s turns)
    (call_out.Command id (order.Start own of request to)))
    (asks : is_request_message request ≡ true) (no_cancel : request.cseq.method ≡ codes "CANCEL" → ⊥)
  where
    abbrev other : Side
    other = peer s

    abbrev here : Config
    here = configs s

    abbrev there : Config
    there = configs other

    abbrev rounds : List Round
    rounds = rounds_of other turns

    abbrev comes_as : Message
    comes_as = come_from here.local request

    abbrev there_key : Key
    there_key = key_of_message comes_as

    original_is : (message : Message) (comes : ComesUnchanged configs turns other message)
        → is_request_message message ≡ true → (message.cseq.method ≡ codes "ACK" → ⊥)
        → key_of_message message ≡ there_key → comes.original ≡ request
    original_is = same_original configs fair turns carried keep s few id own of request to says asks
        no_cancel

    home : (branch : List ℕ) × (top_via request ≡ Some (agent_via here.local branch))
    home = (out_own here (rounds_of s turns) (fair.calls s)
        (call_out.Command id (order.Start own of request to)) says).own.via

    -- ---- the requests that come to it

    receipt_asks : (message : Message) (plain : Bool) → (is_request_message message && plain) ≡ true
        → (is_request_message message ≡ true) × (plain ≡ true)
    receipt_asks message plain is = both (is_request_message message) plain is
      where
        both : (a b : Bool) → (a && b) ≡ true → (a ≡ true) × (b ≡ true)
        both true b is = (refl, is)
        both false b is = absurd (false≢true is)

    not_ack : (method : List ℕ) → not (is_same_method method (codes "ACK")) ≡ true
        → method ≡ codes "ACK" → ⊥
    not_ack method other ack =
        false≢true (sym (ap (λ m. not (is_same_method m (codes "ACK"))) ack) ∙ other)

    pub replies_home : (event : Id) (message : Message) (reply_to : Addr)
        → IsGiven there rounds there_key (input.Receive event message reply_to)
        → is_receipt (Some (input.Receive event message reply_to)) ≡ true
        → reply_to ≡ here.local
    replies_home event message reply_to given is =
        let back = messages_back fair.transactions configs fair.addresses turns carried keep other
        there_key event message reply_to given in
        let parts = receipt_asks message (not (is_same_method message.cseq.method (codes "ACK"))) is in
        let one = original_is message back.comes parts.0 (not_ack message.cseq.method parts.1)
        (has_key there rounds there_key event message reply_to given) in
        back.back ∙ (ap (λ p. answered_to (configs p).local back.comes.original) (peer_peer s)
        ∙ (ap (answered_to here.local) one
        ∙ (ap (λ b. if b then answer_address request here.local else here.local) asks
        ∙ goes_home here.local request home.0 home.1)))

    -- ---- what it is given by calls

    abbrev CameThere : Message → Type 0
    CameThere = Came configs fair turns carried keep s

    abbrev Answers : Id → Key → Message → Type 0
    Answers = IsAnswerOf there rounds CameThere

    abbrev Fits : Key → Input → Type 0
    Fits key (input.Receive event message reply_to) = Unit {0}
    Fits key (input.Start event call_id message at) = Unit {0}
    Fits key (input.Answer event message) = Answers event key message
    Fits key (input.Failed event) = Unit {0}
    Fits key input.Abandon = side_of key ≡ 0

    gives_up : (event : Id) (key : Key)
        → CallSays there rounds (call_out.Command event (order.Abandon key)) → side_of key ≡ 0
    gives_up event key says =
        each_of GivesUpClients (said_of_call there rounds says.0)
        (call_out.Command event (order.Abandon key))
        (subst (AllByRecursion GivesUpClients)
        (sym (call_alone (calls_of there) (fair.calls other) [] (past_of there rounds).calls says.0))
        (gives_up_clients (calls_of there) says.0 None (call_inputs_of there rounds says.0))) says.1

    out_fits : (o : CallOut) → CallSays there rounds o → OutFits there Fits o
    out_fits (call_out.Notice notice) says = tt
    out_fits (call_out.Command event (order.Start key call_id message at)) says = tt
    out_fits (call_out.Command event (order.Answer key message)) says =
        out_says there rounds CameThere (fair.calls other) (all_came configs fair turns carried keep s)
        (call_out.Command event (order.Answer key message)) says
    out_fits (call_out.Command event (order.Abandon key)) says = gives_up event key says
    out_fits (call_out.Direct at bytes) says = tt

    input_fits : (key : Key) (i : Input) → IsGiven there rounds key i → Fits key i
    input_fits key i given =
        each_of (TimedFits there Fits key) (inputs_of there rounds key) (given_at given.0 i)
        (inputs_fit there Fits key rounds
        (all_of (RoundFits there Fits) rounds
        (λ round among. all_of
        (λ e. (event : Id) → ArrivalFits there Fits (arrival_of there.local event e)) round.events
        (λ e has event. any_arrival there Fits (λ event message reply_to. tt) (λ key event. tt) event
        e)))
        (all_of (OutFits there Fits) (calls_give there there.first no_past rounds)
        (λ o among. out_fits o (call_says there rounds o among)))) given.1

    -- it isn't given up, and what it answers goes back to this side
    pub plain_inputs : side_of there_key ≡ 1 → ArePlain here.local (inputs_of there rounds there_key)
    plain_inputs server =
        all_of (λ timed. IsPlain here.local timed.input) (inputs_of there rounds there_key)
        (λ timed among. by_input timed.moment timed.input among)
      where
        no_client : side_of there_key ≡ 0 → ⊥
        no_client client = let one = server in absurd (omega (arith, client, one))

        by_input : (now : ℕ) (i : Option Input)
            → Contains (inputs_of there rounds there_key) (record { moment = now; input = i })
            → IsPlain here.local i
        by_input now None among = tt
        by_input now (Some (input.Receive event message reply_to)) among =
            replies_home event message reply_to (now, among)
        by_input now (Some (input.Start event call_id message at)) among = tt
        by_input now (Some (input.Answer event message)) among = tt
        by_input now (Some (input.Failed event)) among = tt
        by_input now (Some input.Abandon) among =
            no_client (input_fits there_key input.Abandon (now, among))

    -- ---- an answer is to a request that came, with the key of its transaction

    record IsTo (key : Key) (message : Message) : Type 0 where
      asked : Message
      comes : ComesUnchanged configs turns other asked
      is_request : is_request_message asked ≡ true
      plain : asked.cseq.method ≡ codes "ACK" → ⊥
      key_is : key_of_message asked ≡ key
      copies : IsResponseTo asked message

    is_to : (event : Id) (key : Key) (message : Message) (status : ℕ)
        → status_of message.start ≡ Some status → Answers event key message → IsTo key message
    is_to event key message status is answer =
        let arrival = answer.arrival in
        let came = answer.came in
        let handed = came.handed in
        let heard : IsHeard configs turns other arrival.request.call_id came.up =
        each_of (λ timed. InputHeard configs turns other arrival.request.call_id timed.input)
        (call_inputs_of there rounds arrival.request.call_id)
        (given_at (handed.comes).0 ((handed.comes).1, Up came.up))
        (all_heard configs turns other fair carried keep arrival.request.call_id) (handed.comes).2 in
        let first = request_first there rounds fair.transactions (fair.calls other)
        arrival.request.call_id came.up handed.comes arrival.request handed.reply_to handed.kind_is
        in
        record {
          asked = arrival.request;
          comes = (came.came).0;
          is_request = came.is_request;
          plain = subst HasMethod handed.kind_is heard.method;
          key_is = first.key_is ∙ (came.key_is ∙ answer.key_is);
          copies = (answer.answers status is).copies;
        }

    -- so one that is given to this transaction copies the request as it comes
    pub copies_request : (event : Id) (message : Message) (status : ℕ)
        → status_of message.start ≡ Some status
        → IsGiven there rounds there_key (input.Answer event message)
        → IsResponseTo comes_as message
    copies_request event message status is given =
        let answers = is_to event there_key message status is
        (input_fits there_key (input.Answer event message) given) in
        subst (λ m. IsResponseTo m message)
        (as_this configs fair turns carried keep s few id own of request to says asks no_cancel
        answers.asked answers.comes
        (original_is answers.asked answers.comes answers.is_request answers.plain answers.key_is))
        answers.copies

    -- ---- a response that comes to the request's transaction

    module _ (heard : Id) (response : Message) (reply_to : Addr) (status : ℕ)
        (status_is : status_of response.start ≡ Some status) (final : 200 ≤ status)
        (given : IsGiven here (rounds_of s turns) own (input.Receive heard response reply_to)) where
      abbrev text : List ℕ
      text = written response

      came : ComesUnchanged configs turns s response
      came = messages_unchanged fair.transactions configs fair.addresses turns carried keep s own
          heard response reply_to given

      whole : came.original ≡ response
      whole = sym (same_response there.local response came.original status came.same status_is)

      rules : IsMessage response
      rules = subst IsMessage whole came.rules

      short : length (written response) ≤ 65535
      short = subst (λ m. length (written m) ≤ 65535) whole came.short

      own_key : own ≡ client_key (top_branch request) request.cseq.method
      own_key = (out_own here (rounds_of s turns) (fair.calls s)
          (call_out.Command id (order.Start own of request to)) says).key_is

      keys : own ≡ client_key (top_branch response) response.cseq.method
      keys = sym (has_key here (rounds_of s turns) own heard response reply_to given)
          ∙ response_key response status status_is

      same_key : client_key (top_branch response) response.cseq.method
          ≡ client_key (top_branch request) request.cseq.method
      same_key = sym keys ∙ own_key

      -- who was asked to send it, is the transaction of the request
      answered_by : (key : Key) (event : Id) (message : Message) → message ≡ response
          → IsGiven there rounds key (input.Answer event message) → key ≡ there_key
      answered_by key event message same asked =
          let answers = is_to event key message status (ap (λ m. status_of m.start) same ∙ status_is)
          (input_fits key (input.Answer event message) asked) in
          let copied = answers.copies in
          let branch : top_branch response ≡ top_branch answers.asked =
          ap top_branch (sym same)
          ∙ ap (λ (vias : List Via). option_map_or branch_of (slice_get vias 0) []) copied.vias in
          let method : response.cseq.method ≡ answers.asked.cseq.method =
          ap (λ (m : Message). m.cseq.method) (sym same)
          ∙ ap (λ (cseq : CSeq). cseq.method) copied.cseq in
          let one = same_branch configs fair turns carried keep s few id own of request to says asks
          no_cancel answers.asked answers.comes answers.is_request answers.plain
          (ap lower (sym branch) ∙ ap branch_in same_key)
          (sym method ∙ ap method_in same_key) in
          sym answers.key_is ∙ ap key_of_message
          (as_this configs fair turns carried keep s few id own of request to says asks no_cancel
          answers.asked answers.comes one)

      other_start : (key : Key) (event : Id) (call_id : List ℕ) (message : Message) (at : Addr)
          → IsGiven there rounds key (input.Start event call_id message at)
          → is_request_message message ≡ true
      other_start key event call_id message at started =
          out_replies there (fair.calls other) rounds
          (call_out.Command event (order.Start key call_id message at))
          (start_said there rounds key event call_id message at started)

      pub is_it : (message : Message) → IsMessage message → written message ≡ text
          → message ≡ response
      is_it message rule same = sym (same_text response message rules rule short (sym same))

      -- if some inputs of a transaction make it send this text, one of them asks it to
      module _ (key : Key) (Asked : Type 0) where
        abbrev pub IsAsked : Message → Type 0
        IsAsked message = written message ≡ text → Asked

        pub sends_so : (inputs : List (Timed Input))
            → ((timed : Timed Input) → Contains inputs timed
            → Contains (inputs_of there rounds key) timed)
            → ((now : ℕ) (event : Id) (message : Message) → message ≡ response
            → Contains inputs (given_at now (input.Answer event message)) → Asked)
            → AllByRecursion (IsFaithful IsAsked IsMessage)
            (outputs_from transaction_machine key None inputs)
        sends_so inputs within asked =
            let said = what_is_said fair.transactions configs fair.addresses turns carried keep other
            key in
            faithful inputs IsAsked IsMessage (record {
              started = λ now event call_id message at among same.
                  let given = within (given_at now (input.Start event call_id message at)) among in
                  absurd (no_status message.start status
                  (other_start key event call_id message at (now, given))
                  (ap (λ m. status_of m.start) (is_it message
                  (said.started now event call_id message at given).0 same) ∙ status_is));
              answered = λ now event message among same.
                  let given = within (given_at now (input.Answer event message)) among in
                  asked now event message
                  (is_it message (said.answered now event message given).0 same) among;
              tried = λ now event asked reply_to among is same.
                  let given = within (given_at now (input.Receive event asked reply_to)) among in
                  absurd (no_hundred status (ap (λ m. status_of m.start)
                  (is_it (trying_of asked) (said.tried now event asked reply_to given is).0 same)
                  ∙ status_is) final);
              acknowledged = λ now later event answer call_id invite failure at reply_to among came
                  failed same.
                  let given = within (given_at now (input.Start event call_id invite at)) among in
                  let heard = within (given_at later (input.Receive answer failure reply_to)) came in
                  absurd (no_status invite.start status
                  (other_start key event call_id invite at (now, given))
                  (ap (λ m. status_of m.start) (is_it (ack_of invite failure)
                  (said.acknowledged now later event answer call_id invite failure at reply_to given
                  heard failed).0 same) ∙ status_is));
              came = λ now event message reply_to among.
                  said.came now event message reply_to
                  (within (given_at now (input.Receive event message reply_to)) among);
            }) key

        -- so a text that it sends was asked for
        pub asked_so : (inputs : List (Timed Input))
            → ((timed : Timed Input) → Contains inputs timed
            → Contains (inputs_of there rounds key) timed)
            → ((now : ℕ) (event : Id) (message : Message) → message ≡ response
            → Contains inputs (given_at now (input.Answer event message)) → Asked)
            → (sender : Key) (at : Addr)
            → Contains (outputs_from transaction_machine key None inputs) (out.Send sender at text)
            → Asked
        asked_so inputs within asked sender at among =
            let faithful = each_of (IsFaithful IsAsked IsMessage)
            (outputs_from transaction_machine key None inputs) (out.Send sender at text)
            (sends_so inputs within asked) among in
            faithful.2 (sym faithful.1)

      pub record IsSentThere : Type 0 where
        pub key : Key
        pub at : Addr
        pub sent : Contains (outputs_from transaction_machine there_key None
            (inputs_of there rounds there_key)) (out.Send key at text)

      pub sent_there : IsSentThere
      sent_there =
          by_key (came.sent).0 (came.sent).1
          (subst (λ m. Contains (all_given (answers there rounds))
          (output.Send (came.sent).0 (came.sent).1 (written m))) whole (came.sent).2)
        where
          by_key : (key : Option Key) (at : Addr)
              → Contains (all_given (answers there rounds)) (output.Send key at text) → IsSentThere
          by_key None at among =
              let direct = out_replies there (fair.calls other) rounds (call_out.Direct at text)
              (direct_sends_fit (CallSays there rounds) there rounds
              (all_of (CallSays there rounds) (calls_give there there.first no_past rounds)
              (λ o has. call_says there rounds o has)) at text among) in
              absurd (no_ack response direct.0 status status_is (direct.2).request (direct.2).method
              direct.1)
          by_key (Some key) at among =
              let one = own_send there rounds key at text among in
              let outs = outputs_from transaction_machine key None (inputs_of there rounds key) in
              let sent : Contains outs (out.Send one.0 one.1 text) =
              subst (λ os. Contains os (out.Send one.0 one.1 text))
              (transaction_alone fair.transactions [] (past_of there rounds).transactions key) one.2 in
              let same : key ≡ there_key = asked_so key (key ≡ there_key) (inputs_of there rounds key)
              (λ timed given. given)
              (λ now event message same given. answered_by key event message same (now, given))
              one.0 one.1 sent in
              record {
                key = one.0;
                at = one.1;
                sent = subst (λ k. Contains (outputs_from transaction_machine k None
                    (inputs_of there rounds k)) (out.Send one.0 one.1 text)) same sent;
              }
