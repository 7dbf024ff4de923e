-- A request that was said, and a transaction that was started with its branch and its method, have
-- one Call-ID. Unless it is a CANCEL, the transaction was started with that request.
use Rattle.std.proofs.Common.{◌≡◌, ℕ, suc, zero, ◌/◌, ◌%◌, true, false, List, [], ◌∷◌, ◌++◌, drop, refl, sym, ap, ◌∙◌, subst, arith, codes}
use Rattle.std.specs.Prelude.{Contains, Option, None, Some, IsTrue}
use Rattle.std.specs.Char.{to_ascii_lowercase}
use Rattle.std.specs.List.{AllByRecursion}
use Rattle.std.specs.Str.{str_to_ascii_lowercase}
use Rattle.std.proofs.lemmas.Bool.{false≢true}
use Rattle.std.proofs.lemmas.Bool.Decides.{nat_tests}
use Rattle.std.proofs.lemmas.List.{map-append}
use Rattle.sip_text.specs.Number.{hex_digit}
use Rattle.sip_text.specs.Token.{is_token}
use Rattle.sip_message.specs.Key.{branch_in, client_key, method_in}
use Rattle.sip_message.specs.Message.{is_request_line, is_request_message}
use Rattle.sip_message.specs.TopVia.{top_branch}
use Rattle.sip_message.specs.Written.{written}
use Rattle.sip_message.specs.declared.addr.Addr.{Addr}
use Rattle.sip_message.specs.declared.id.Id.{Id}
use Rattle.sip_message.specs.declared.key.Key.{Key}
use Rattle.sip_message.specs.declared.message.Message.{Message}
use Rattle.keyed_machine.specs.Laws.{EachKeyAlone}
use Rattle.keyed_machine.specs.Machine.{Timed, given_at, tick_at}
use Rattle.sip_transactions.specs.declared.input.Command.TheVariants as order
use Rattle.sip_transactions.specs.declared.input.Input.{Input}
use Rattle.sip_transactions.specs.declared.input.Input.TheVariants as input
use Rattle.sip_transactions.specs.declared.output.UpKind.{UpKind}
use Rattle.sip_transactions.specs.declared.output.UpKind.TheVariants as kind
use Rattle.sip_transactions.specs.declared.output.Up.{Up as AnUp}
use Rattle.sip_user.specs.declared.command.UserCommand.{UserCommand}
use Rattle.sip_user.specs.declared.command.UserCommand.TheVariants as user
use Rattle.sip_user.specs.declared.item.CallOut.{CallOut}
use Rattle.sip_user.specs.declared.item.CallOut.TheVariants as call_out
use Rattle.sip_user.specs.declared.item.Item.TheVariants.{Up, User}
use Rattle.sip_served.specs.declared.arrival.Arrival.{Arrival}
use Rattle.sip_clients.specs.Name.{hex, name_of, word_of_name}
use Rattle.sip_clients.proofs.Names.{names_differ}
use Rattle.sip_calls.specs.Call.{CallItem, call_machine, call_step}
use Rattle.sip_calls.specs.declared.call.Call.{Call}
use Rattle.sip_calls.specs.CallShard.{call_cmp}
use Rattle.sip_calls.specs.declared.calls.Calls.{Calls}
use Rattle.sip_round.specs.declared.config.Config.{Config}
use Rattle.sip_round.specs.declared.round.Round.{Round}
use Rattle.sip_round.specs.Answers.{calls_of, no_past, past_of}
use Rattle.sip_round.specs.Arrivals.{arrival_of}
use Rattle.sip_round.specs.Laws.{call_inputs_of, inputs_of, said_of_call}
use Rattle.sip_round.proofs.Said.{call_alone}
use Rattle.sip_conversation.specs.Messages.{CallSays, IsGiven, IsSaid}
use Rattle.sip_conversation.specs.Messages.IsSaid.{Acknowledges, Asked, Direct, Trying}
use Rattle.sip_conversation.specs.Replies.{AreCounted}
use Rattle.sip_conversation.proofs.AckTexts.{is_ack}
use Rattle.sip_conversation.proofs.Among.{all_of, each_of}
use Rattle.sip_conversation.proofs.Branches.{HasBranch, IsStarted}
use Rattle.sip_conversation.proofs.Bridge.{any_arrival}
use Rattle.sip_conversation.proofs.CallBranches.{AnyCancel, OutIsOwn, all_own, any_inputs}
use Rattle.sip_conversation.proofs.CallSays.{AllGive, AnyAck, AnyCall, InputGives, OutGives, UserGives, all_say}
use Rattle.sip_conversation.proofs.Longer.{says_longer}
use Rattle.sip_conversation.proofs.OneStart.{calls_say, one_start, start_id, started_with}
use Rattle.sip_conversation.proofs.Origins.{IsOrigin, counted, inputs_come, one_call}
use Rattle.sip_conversation.proofs.PracksCame.{was_sent}
use Rattle.sip_conversation.proofs.Rounds.{ArrivalFits, OutFits, RoundFits, TimedFits, call_says, calls_give, inputs_fit}
use Rattle.sip_conversation.proofs.ServedReplies.{KindBrought, OwnReplies}

-- a transaction with this key was started with this request, by this output
pub record IsOfStart (key : Key) (request : Message) (out : CallOut) : Type 0 where
  pub same : (otherwise : Message) → started_with otherwise out ≡ request
  pub method : (branch method : List ℕ) → key ≡ client_key branch method
      → method ≡ request.cseq.method

-- ---- branches in lower case

abbrev pub lower : List ℕ → List ℕ
lower = str_to_ascii_lowercase

digit_low : (v : ℕ) → to_ascii_lowercase (hex_digit v) ≡ hex_digit v
digit_low v = grind (arith, nat_tests)

hex_low : (count number : ℕ) → lower (hex count number) ≡ hex count number
unfolding hex
hex_low zero number = refl
hex_low (suc count) number =
    map-append to_ascii_lowercase (hex count (number / 16)) (hex_digit (number % 16) ∷ [])
    ∙ (λ i. hex_low count (number / 16) i ++ digit_low (number % 16) i ∷ [])

both_low : (xs ys : List ℕ) → lower xs ≡ xs → lower ys ≡ ys → lower (xs ++ ys) ≡ xs ++ ys
both_low xs ys one other = map-append to_ascii_lowercase xs ys ∙ (λ i. one i ++ other i)

pub name_low : (seed : List ℕ) (id : Id) (index : ℕ)
    → lower (name_of seed id index) ≡ name_of seed id index
name_low seed id index =
    let round = hex 16 id.round in
    let place = hex 16 id.place in
    let word = word_of_name seed id index in
    both_low ((round ++ place) ++ hex 1 index) (hex 8 word)
    (both_low (round ++ place) (hex 1 index)
    (both_low round place (hex_low 16 id.round) (hex_low 16 id.place)) (hex_low 1 index))
    (hex_low 8 word)

-- behind the cookie of each branch stands a name
pub same_name : (one other : List ℕ) → codes "z9hg4bk" ++ one ≡ codes "z9hg4bk" ++ other → one ≡ other
same_name one other same = ap (drop 7) same

pub branch_low : (seed : List ℕ) (id : Id)
    → lower (codes "z9hG4bK" ++ name_of seed id 0) ≡ codes "z9hg4bk" ++ name_of seed id 0
branch_low seed id =
    map-append to_ascii_lowercase (codes "z9hG4bK") (name_of seed id 0)
    ∙ ap (λ name. codes "z9hg4bk" ++ name) (name_low seed id 0)

-- ---- what a call says is a request or a response

abbrev IsReply : Message → Type 0
IsReply message = is_request_message message ≡ false

abbrev Any : Arrival → Type 0
Any arrival = Unit {0}

abbrev IsReplyTo : Arrival → Message → Type 0
IsReplyTo arrival response = IsReply response

abbrev Replies : Id → Key → Message → Type 0
Replies id key response = IsReply response

is_reply : (arrival : Arrival) (response : Message) → IsReplyTo arrival response
    → Replies arrival.id arrival.key response
is_reply arrival response is = is

own_replies : OwnReplies Any IsReplyTo
own_replies = record {
  merged = λ arrival came is. refl;
  extension = λ arrival came is. refl;
  no_dialog = λ arrival came is. refl;
  out_of_order = λ arrival came is. refl;
  accepted = λ arrival tag came is. refl;
  terminated = λ invite cancel came cancels. refl;
}

user_gives : (outs : List CallOut) (command : UserCommand)
    → UserGives Any IsReplyTo Replies is_reply own_replies outs command
user_gives outs (user.Invite invite) = tt
user_gives outs (user.Plain plain) = tt
user_gives outs (user.Request request) = tt
user_gives outs (user.Respond respond) = λ local held came named goes_out.
    ap is_request_line (was_sent local held respond).start
user_gives outs (user.Ack ack) = tt
user_gives outs (user.Prack prack) = tt
user_gives outs (user.Cancel cancel) = tt
user_gives outs (user.AbandonRequest abandon) = tt
user_gives outs (user.AbandonDialog abandon) = tt

kind_gives : (made : List ℕ) (up : AnUp) (k : UpKind)
    → KindBrought AnyCall Any AnyAck made up k
kind_gives made up (kind.Request request reply_to) = (tt, tt)
kind_gives made up (kind.Ack ack) = (tt, tt)
kind_gives made up (kind.Response response) = tt
kind_gives made up kind.Timeout = tt
kind_gives made up kind.Failed = tt

module _ (calls : Calls) where
  input_gives : (outs : List CallOut) (i : Option CallItem)
      → InputGives Any IsReplyTo Replies is_reply own_replies calls outs i
  input_gives outs None = tt
  input_gives outs (Some (event, Up up)) = kind_gives (name_of calls.seed event 0) up up.kind
  input_gives outs (Some (event, User command)) = user_gives outs command

  all_give : (state : Option Call) (inputs : List (Timed CallItem))
      → AllGive Any IsReplyTo Replies is_reply own_replies calls state inputs
  all_give state [] = tt
  all_give state (timed ∷ inputs) =
      let step = call_step calls state timed.input timed.moment in
      (input_gives step.1 timed.input, all_give step.0 inputs)

module _ (config : Config)
    (alone : EachKeyAlone call_cmp (call_machine (calls_of config)) tick_at) where
  pub out_replies : (rounds : List Round) (out : CallOut) → CallSays config rounds out
      → OutGives Replies out
  out_replies rounds out says =
      each_of (OutGives Replies) (said_of_call config rounds says.0) out
      (subst (AllByRecursion (OutGives Replies))
      (sym (call_alone (calls_of config) alone [] (past_of config rounds).calls says.0))
      (all_say Any IsReplyTo Replies is_reply own_replies (calls_of config) says.0 None
      (call_inputs_of config rounds says.0)
      (all_give (calls_of config) None (call_inputs_of config rounds says.0)) tt))
      says.1

  module _ (early more : List Round) (few : AreCounted config (early ++ more)) where
    abbrev rounds : List Round
    rounds = early ++ more

    -- a call starts a transaction with this request, which is of its own
    abbrev IsStartedBy : List ℕ → Id → Key → List ℕ → Message → Type 0
    IsStartedBy call_id =
        IsStarted config.local config.seed call_id (IsOrigin config rounds call_id) AnyCancel

    -- what all calls give
    abbrev given_out : List CallOut
    given_out = calls_give config config.first no_past rounds

    out_own : (out : CallOut) → (says : CallSays config rounds out)
        → OutIsOwn (calls_of config) says.0 (IsOrigin config rounds says.0) AnyCancel out
    out_own out says =
        let call_id = says.0 in
        let IsOwn =
        OutIsOwn (calls_of config) call_id (IsOrigin config rounds call_id) AnyCancel in
        each_of IsOwn (said_of_call config rounds call_id) out
        (subst (AllByRecursion IsOwn)
        (sym (call_alone (calls_of config) alone [] (past_of config rounds).calls call_id))
        (all_own (calls_of config) call_id (IsOrigin config rounds call_id) AnyCancel None
        (call_inputs_of config rounds call_id) (inputs_come config rounds call_id)
        (any_inputs (calls_of config) call_id (IsOrigin config rounds call_id) None
        (call_inputs_of config rounds call_id)) tt tt)) says.1

    -- ---- what a transaction is started with

    -- some call starts it
    record StartedSo (id : Id) (key : Key) (of : List ℕ) (message : Message) (to : Addr) : Type 0
      where
        pub call_id : List ℕ
        pub by : IsStartedBy call_id id key of message
        pub among : Contains given_out (call_out.Command id (order.Start key of message to))

    abbrev StartFits : Key → Input → Type 0
    StartFits key (input.Receive id message reply_to) = Unit {0}
    StartFits key (input.Start id of message to) = StartedSo id key of message to
    StartFits key (input.Answer id message) = Unit {0}
    StartFits key (input.Failed id) = Unit {0}
    StartFits key input.Abandon = Unit {0}

    out_fits : (out : CallOut) → Contains given_out out → OutFits config StartFits out
    out_fits (call_out.Notice notice) among = tt
    out_fits (call_out.Command id (order.Start key of message to)) among =
        let out = call_out.Command id (order.Start key of message to) in
        let says = call_says config rounds out among in
        record { call_id = says.0; by = out_own out says; among = among }
    out_fits (call_out.Command id (order.Answer key message)) among = tt
    out_fits (call_out.Command id (order.Abandon key)) among = tt
    out_fits (call_out.Direct to bytes) among = tt

    started_so : (key : Key) (id : Id) (of : List ℕ) (message : Message) (to : Addr)
        → IsGiven config rounds key (input.Start id of message to)
        → StartedSo id key of message to
    started_so key id of message to given =
        each_of (TimedFits config StartFits key) (inputs_of config rounds key)
        (given_at given.0 (input.Start id of message to))
        (inputs_fit config StartFits key rounds
        (all_of (RoundFits config StartFits) rounds
        (λ round among. all_of
        (λ e. (id : Id) → ArrivalFits config StartFits (arrival_of config.local id e)) round.events
        (λ e has id. any_arrival config StartFits (λ id message reply_to. tt) (λ key id. tt) id
        e)))
        (all_of (OutFits config StartFits) (calls_give config config.first no_past rounds)
        out_fits)) given.1

    -- one output alone starts a transaction under its id
    pub started_request : (key : Key) (id : Id) (of : List ℕ) (request : Message) (to : Addr)
        → IsGiven config rounds key (input.Start id of request to) → (out : CallOut)
        → CallSays config rounds out → start_id out ≡ Some id → IsOfStart key request out
    started_request key id of request to given out says starts =
        let started = started_so key id of request to given in
        record {
          same = λ otherwise. ap (started_with otherwise)
              (one_start config rounds id out
              (call_out.Command id (order.Start key of request to))
              (calls_say config rounds out says) started.among starts refl);
          method = λ branch method is. ap method_in (sym is ∙ started.by.key_is);
        }

    -- ---- one branch, one Call-ID

    abbrev IsBranch : List ℕ → List ℕ → Type 0
    IsBranch call_id =
        HasBranch config.local config.seed call_id (IsOrigin config rounds call_id) AnyCancel

    -- branches that differ in no letter's case are of one event
    one_event : (call_id other : List ℕ) (one two : List ℕ) → (has : IsBranch call_id one)
        → (holds : IsBranch other two) → lower one ≡ lower two → has.0 ≡ holds.0
    one_event call_id other one two has holds same =
        let here = counted config rounds few call_id has.0 has.1 in
        let there = counted config rounds few other holds.0 holds.1 in
        let names : name_of config.seed has.0 0 ≡ name_of config.seed holds.0 0 =
        same_name (name_of config.seed has.0 0) (name_of config.seed holds.0 0)
        (sym (branch_low config.seed has.0) ∙ (ap lower (sym has.2) ∙ (same ∙ (ap lower holds.2
        ∙ branch_low config.seed holds.0)))) in
        (names_differ config.seed config.seed has.0 holds.0 0 0 here.round there.round here.place
        there.place (omega arith) (omega arith) names).0

    -- ---- a request that was said

    -- the transaction of this Call-ID was started with it, unless it is a CANCEL
    pub record IsStartedWith (message : Message) (of : List ℕ) (request : Message) : Type 0 where
      pub call : message.call_id ≡ of
      pub same : (message.cseq.method ≡ codes "CANCEL" → ⊥) → message ≡ request

    same_start : (message : Message) (key : Key)
        → key ≡ client_key (top_branch message) message.cseq.method
        → (one : List ℕ) (other : Id) (asked : Key) (at : List ℕ) (sent_to : Addr)
        → IsStartedBy one other asked at message
        → Contains given_out (call_out.Command other (order.Start asked at message sent_to))
        → (id : Id) (of : List ℕ) (request : Message) (to : Addr)
        → StartedSo id key of request to → IsStartedWith message of request
    same_start message key is one other asked at sent_to by among id of request to started =
        let there = started.by in
        let lowered : lower (top_branch message) ≡ lower (top_branch request) =
        ap branch_in (sym is ∙ there.key_is) in
        let methods : message.cseq.method ≡ request.cseq.method =
        ap method_in (sym is ∙ there.key_is) in
        let event = one_event one started.call_id (top_branch message) (top_branch request)
        by.own.branch there.own.branch lowered in
        let calls : one ≡ started.call_id =
        one_call config rounds one started.call_id (there.own.branch).0
        (subst (IsOrigin config rounds one) event (by.own.branch).1) (there.own.branch).1 in
        record {
          call = by.own.call ∙ (calls ∙ (sym there.own.call ∙ sym there.of_is));
          same = λ no_cancel.
              let ids : other ≡ id =
              sym (by.own.event_is no_cancel) ∙ (event
              ∙ there.own.event_is (λ cancel. no_cancel (methods ∙ cancel))) in
              ap (started_with message)
              (one_start config rounds id
              (call_out.Command other (order.Start asked at message sent_to))
              (call_out.Command id (order.Start key of request to)) among started.among
              (ap (λ i. Some i) ids) refl);
        }

    no_ack : (message : Message) (key : Key)
        → key ≡ client_key (top_branch message) message.cseq.method
        → (of : List ℕ) (request : Message) (call_id : List ℕ) (id : Id)
        → IsStartedBy call_id id key of request → message.cseq.method ≡ codes "ACK" → ⊥
    no_ack message key is of request call_id id started ack =
        started.own.method (ap method_in (sym started.key_is ∙ is) ∙ ack)

    pub one_start_of : (message : Message) → IsSaid config early message
        → is_request_message message ≡ true → IsTrue (is_token message.cseq.method) → (key : Key)
        → key ≡ client_key (top_branch message) message.cseq.method
        → (id : Id) (of : List ℕ) (request : Message) (to : Addr)
        → IsGiven config rounds key (input.Start id of request to)
        → IsStartedWith message of request
    one_start_of message (Asked other (order.Start asked call_id sent at) says same) asks token key
        is id of request to given =
        let started = started_so key id of request to given in
        let out = call_out.Command other (order.Start asked call_id sent at) in
        let longer = says_longer config early more out says in
        let own = out_own out longer in
        same_start message key is longer.0 other asked call_id at
        (subst (IsStartedBy longer.0 other asked call_id) same own)
        (subst (λ (m : Message).
        Contains given_out (call_out.Command other (order.Start asked call_id m at))) same
        (calls_say config rounds out longer)) id of request to started
    one_start_of message (Asked other (order.Answer asked sent) says same) asks token key is id of
        request to given =
        absurd (false≢true (sym (out_replies early
        (call_out.Command other (order.Answer asked sent)) says)
        ∙ (ap is_request_message same ∙ asks)))
    one_start_of message (Asked other (order.Abandon asked) says same) asks token key is id of
        request to given = absurd same
    one_start_of message (Direct at says) asks token key is id of request to given =
        let started = started_so key id of request to given in
        let ack = out_replies early (call_out.Direct at (written message)) says in
        absurd (no_ack message key is of request started.call_id id started.by
        (is_ack message ack.0 asks token (ack.2).request (ack.2).method ack.1))
    one_start_of message (Trying of_key other got reply_to received asked same) asks token key is
        id of request to given =
        absurd (false≢true (sym (ap is_request_message same) ∙ asks))
    one_start_of message
        (Acknowledges of_key other answered call_id invite response at reply_to begun heard
        failure same)
        asks token key is id of request to given =
        let started = started_so key id of request to given in
        absurd (no_ack message key is of request started.call_id id started.by
        (ap (λ (m : Message). m.cseq.method) same))
