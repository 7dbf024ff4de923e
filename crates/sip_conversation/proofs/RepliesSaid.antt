-- The other side said each response that a user is told of.
use Rattle.std.proofs.Common.{◌≡◌, ℕ, List, [], ◌∷◌, ◌++◌, sym, ap, ◌∙◌, subst}
use Rattle.std.specs.Prelude.{Contains, IfSome, Option, None, Some}
use Rattle.std.specs.List.{AllByRecursion, flat_map}
use Rattle.std.proofs.lemmas.Cmp.{nat_list_cmp_total}
use Rattle.sip_message.specs.declared.id.Id.{Id}
use Rattle.sip_message.specs.declared.message.Message.{Message}
use Rattle.sip_message.specs.Party.{tag_of}
use Rattle.sip_message.specs.Written.{written}
use Rattle.keyed_machine.specs.Laws.{EachKeyAlone}
use Rattle.keyed_machine.specs.Machine.{Timed, tick_at}
use Rattle.keyed_machine.proofs.Ordered.{is_at_itself}
use Rattle.sip_transactions.specs.declared.output.UpKind.{UpKind}
use Rattle.sip_transactions.specs.declared.output.UpKind.TheVariants as kind
use Rattle.sip_transactions.specs.declared.output.Out.{Out}
use Rattle.sip_transactions.specs.declared.output.Out.TheVariants as out
use Rattle.sip_transactions.specs.declared.output.Up.{Up as AnUp}
use Rattle.sip_user.specs.declared.item.CallOut.{CallOut}
use Rattle.sip_user.specs.declared.item.CallOut.TheVariants as call_out
use Rattle.sip_user.specs.declared.item.Item.TheVariants.{Up, User}
use Rattle.sip_user.specs.declared.notice.Notice.TheVariants.{Response}
use Rattle.sip_clients.specs.Clients.{status_of}
use Rattle.sip_calls.specs.Call.{CallItem, call_machine}
use Rattle.sip_calls.specs.CallShard.{call_cmp}
use Rattle.sip_round.specs.declared.config.Config.{Config}
use Rattle.sip_round.specs.declared.output.Output.{Output}
use Rattle.sip_round.specs.declared.output.Output.TheVariants as output
use Rattle.sip_round.specs.declared.round.Round.{Round}
use Rattle.sip_round.specs.Answers.{answers, calls_of, past_of}
use Rattle.sip_round.specs.Given.{all_given, is_notice_of, notice_in}
use Rattle.sip_round.specs.Laws.{call_inputs_of, said_of, said_of_call}
use Rattle.sip_round.proofs.GivenNotices.{notices_given}
use Rattle.sip_round.proofs.Said.{call_alone}
use Rattle.sip_conversation.specs.Conversation.{Carried, Side, Turn, peer, rounds_of}
use Rattle.sip_conversation.specs.Messages.{CallsKeepRules, ComesUnchanged, IsSaid}
pub use Rattle.sip_conversation.specs.Steps.Fair.{IsFair}
use Rattle.sip_conversation.specs.Replies.{IsStartedFor, ResponsesToldWereSaid, SaidResponse, ToldResponse}
use Rattle.sip_conversation.proofs.Among.{all_both, all_go, among_kept, each_of}
use Rattle.sip_conversation.proofs.Answered.{AllCame, IsAnswer, answered}
use Rattle.sip_conversation.proofs.Fronts.{carried_before, carried_to, keeps_before, keeps_to, peer_rounds, sent_before}
use Rattle.sip_conversation.proofs.OneTransaction.{KindCame}
use Rattle.sip_conversation.proofs.CallOuts.{InputFits, KindTells, NoticeTells, OutFits, all_fit}
use Rattle.sip_conversation.proofs.ToldCallId.{own_reply}
use Rattle.sip_conversation.proofs.StartedFor.{KindStarted, UpStarted, responses_started}
use Rattle.sip_conversation.proofs.Unchanged.{inputs_unchanged, messages_unchanged, ups_unchanged}
use Rattle.sip_conversation.proofs.Unstamped.{same_response}
use Rattle.sip_conversation.proofs.Ups.{ItemCame, OutCame, TimedCame, UpCame, inputs_came}

-- ---- one call

module _ (Tells : List ℕ → Id → ℕ → List ℕ → List ℕ → List ℕ → Type 0) where
  abbrev Fits : Timed CallItem → Type 0
  Fits timed = InputFits Tells timed.input

  -- ---- what is given

  abbrev OutputTells : Output → Type 0
  OutputTells (output.Send key to bytes) = Unit {0}
  OutputTells (output.Dropped place why) = Unit {0}
  OutputTells (output.Notice told) = NoticeTells Tells told

  notices_tell : (outs : List CallOut) → AllByRecursion (OutFits Tells) outs
      → AllByRecursion OutputTells (flat_map notice_in outs)
  notices_tell [] tells = tt
  notices_tell (call_out.Notice told ∷ outs) tells = (tells.0, notices_tell outs tells.1)
  notices_tell (call_out.Command id command ∷ outs) tells = notices_tell outs tells.1
  notices_tell (call_out.Direct to bytes ∷ outs) tells = notices_tell outs tells.1

module _ (Tells : List ℕ → Id → ℕ → List ℕ → List ℕ → List ℕ → Type 0) (config : Config)
    (rounds : List Round)
    (alone : EachKeyAlone call_cmp (call_machine (calls_of config)) tick_at) where
  told_in_rounds : (call_id : List ℕ)
      → AllByRecursion (Fits Tells) (call_inputs_of config rounds call_id)
      → (id : Id) (status : ℕ) (local_tag remote_tag body : List ℕ)
      → Contains (all_given (answers config rounds))
      (output.Notice (Response call_id id status local_tag remote_tag body))
      → Tells call_id id status local_tag remote_tag body
  told_in_rounds call_id fit id status local_tag remote_tag body among =
      let told : Output = output.Notice (Response call_id id status local_tag remote_tag body) in
      each_of (OutputTells Tells)
      (flat_map notice_in (said_of_call config rounds call_id)) told
      (notices_tell Tells (said_of_call config rounds call_id)
      (subst (AllByRecursion (OutFits Tells))
      (sym (call_alone (calls_of config) alone [] (past_of config rounds).calls call_id))
      (all_fit Tells (calls_of config) call_id None
      (call_inputs_of config rounds call_id) fit)))
      (subst (λ outs. Contains outs told) (notices_given config rounds call_id)
      (among_kept (is_notice_of call_id) (all_given (answers config rounds)) told among
      (is_at_itself nat_list_cmp_total call_id)))

-- ---- what comes from the other side

module _ (configs : Side → Config) (fair : IsFair configs) (before : List Turn) (turn : Turn)
    (carried : Carried configs before) (keep : CallsKeepRules configs before) where
  -- a message that came in this turn, or before it
  abbrev pub Came : Message → Type 0
  Came message = ComesUnchanged configs (before ++ turn ∷ []) turn.side message

  abbrev other : Side
  other = peer turn.side

  -- before it, this side had said whatever came to the other side
  other_came : AllCame (configs other) (rounds_of other before)
      (ComesUnchanged configs before other)
  other_came = record {
    calls = inputs_unchanged fair.transactions configs fair.addresses before carried keep other;
    transactions = messages_unchanged fair.transactions configs fair.addresses before carried
        keep other;
  }

  -- the other side said the response that comes, exactly as it is
  pub record IsSaidSo (response : Message) (status : ℕ) : Type 0 where
    pub said : SaidResponse configs before turn.side status (tag_of response.from)
        (tag_of response.to) response.body
    pub whole : said.original ≡ response

  pub response_said : (response : Message) → Came response → (status : ℕ)
      → status_of response.start ≡ Some status → IsSaidSo response status
  response_said response comes status is =
      let original = comes.original in
      let whole = sym (same_response (configs other).local response original status comes.same
      is) in
      let status_is : status_of original.start ≡ Some status =
      ap (λ m. status_of m.start) whole ∙ is in
      let said : IsSaid (configs other) (rounds_of other before) original =
      subst (λ rounds. IsSaid (configs other) rounds original) (peer_rounds before turn)
      comes.said in
      let answer : IsAnswer (configs other) (rounds_of other before)
      (ComesUnchanged configs before other) original status =
      answered (configs other) (rounds_of other before) (ComesUnchanged configs before other)
      (fair.calls other) other_came original said status status_is in
      record {
        said = record {
          original = original;
          said = said;
          sent = sent_before configs before turn (written original) comes.sent;
          rules = comes.rules;
          status_is = status_is;
          from = ap (λ m. tag_of m.from) whole;
          to = ap (λ m. tag_of m.to) whole;
          body_is = ap (λ m. m.body) whole;
          request = answer.request;
          answered = answer.answered;
        };
        whole = whole;
      }

  abbrev Said : List ℕ → Id → ℕ → List ℕ → List ℕ → List ℕ → Type 0
  Said call_id id status local_tag remote_tag body =
      ToldResponse configs before turn call_id id status local_tag remote_tag body

  -- what comes up is such a message, under the id and Call-ID under which its transaction was
  -- started
  abbrev pub Comes : AnUp → Type 0
  Comes up = UpCame Came up
      × UpStarted (configs turn.side) (rounds_of turn.side (before ++ turn ∷ [])) up

  -- and its transaction was started
  abbrev pub told_response : (call_id : List ℕ) (id : Id) (response : Message) (status : ℕ)
      → IsSaidSo response status
      → IsStartedFor (configs turn.side) (rounds_of turn.side (before ++ turn ∷ [])) call_id id
      response
      → ToldResponse configs before turn call_id id status (tag_of response.from)
      (tag_of response.to) response.body
  told_response call_id id response status so started =
      let begun = subst (IsStartedFor (configs turn.side)
      (rounds_of turn.side (before ++ turn ∷ [])) call_id id) (sym so.whole) started in
      let own = own_reply configs fair.calls before turn call_id id so.said.original status
      so.said.status_is so.said.request begun in
      record {
        response = so.said;
        started = begun;
        call_id_is = λ few. (own few).call;
        request_is = λ few. (own few).same;
      }

  up_said : (call_id : List ℕ) (id : Id) (k : UpKind) → KindCame Came k
      → KindStarted (configs turn.side) (rounds_of turn.side (before ++ turn ∷ [])) id call_id k
      → KindTells Said call_id id k
  up_said call_id id (kind.Request request reply_to) came started = tt
  up_said call_id id (kind.Ack ack) came started = tt
  up_said call_id id (kind.Response response) came started = λ status is.
      told_response call_id id response status (response_said response came status is)
      (started status is)
  up_said call_id id kind.Timeout came started = tt
  up_said call_id id kind.Failed came started = tt

  input_said : (input : Option CallItem) → IfSome input (λ i. ItemCame Comes i.1)
      → InputFits Said input
  input_said None came = tt
  input_said (Some (event, Up up)) came = up_said up.call_id up.id up.kind came.0 came.1
  input_said (Some (event, User command)) came = tt

  timed_said : (timed : Timed CallItem) → TimedCame Comes timed → InputFits Said timed.input
  timed_said timed came = input_said timed.input came

  out_comes : (o : Out) → OutCame (UpCame Came) o
      → OutCame (UpStarted (configs turn.side) (rounds_of turn.side (before ++ turn ∷ []))) o
      → OutCame Comes o
  out_comes (out.Up up) came started = (came, started)
  out_comes (out.Send key to bytes) came started = tt
  out_comes (out.Dropped place why) came started = tt

  pub inputs_come : Carried configs (before ++ turn ∷ [])
      → CallsKeepRules configs (before ++ turn ∷ []) → (call_id : List ℕ)
      → AllByRecursion (TimedCame Comes)
      (call_inputs_of (configs turn.side) (rounds_of turn.side (before ++ turn ∷ [])) call_id)
  inputs_come carried_so keep_so call_id =
      let front = before ++ turn ∷ [] in
      let rounds = rounds_of turn.side front in
      inputs_came Comes (configs turn.side) rounds
      (λ key. all_both {P = OutCame (UpCame Came)}
      {Q = OutCame (UpStarted (configs turn.side) rounds)} {R = OutCame Comes} out_comes
      (said_of (configs turn.side) rounds key)
      (ups_unchanged fair.transactions configs fair.addresses front carried_so keep_so turn.side
      key)
      (responses_started (configs turn.side) rounds fair.transactions key)) call_id

-- ---- in the turns before

module _ (configs : Side → Config) (fair : IsFair configs) where
  pub responses_said : (turns : List Turn) → Carried configs turns → CallsKeepRules configs turns
      → ResponsesToldWereSaid configs turns
  responses_said turns carried keep before after turn same call_id id status local_tag remote_tag
      body among =
      let front = before ++ turn ∷ [] in
      let rounds = rounds_of turn.side front in
      let carried_early = carried_before configs turns before after turn same carried in
      let keep_early = keeps_before configs turns before after turn same keep in
      told_in_rounds (Said configs fair before turn carried_early keep_early) (configs turn.side)
      rounds (fair.calls turn.side) call_id
      (all_go {P = TimedCame (Comes configs fair before turn carried_early keep_early)}
      {Q = λ timed. InputFits (Said configs fair before turn carried_early keep_early) timed.input}
      (timed_said configs fair before turn carried_early keep_early)
      (call_inputs_of (configs turn.side) rounds call_id)
      (inputs_come configs fair before turn carried_early keep_early
      (carried_to configs turns before after turn same carried)
      (keeps_to configs turns before after turn same keep) call_id))
      id status local_tag remote_tag body among
