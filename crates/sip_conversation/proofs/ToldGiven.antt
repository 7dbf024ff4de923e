-- Each reliable provisional response to the INVITE of a call that a user is told of is one that the
-- other user gave; all that are told in one dialog, he gave to one request.
use Rattle.std.proofs.Common.{◌≡◌, ℕ, true, false, not, ◌==◌, List, [], ◌∷◌, ◌++◌, refl, sym, ap, ◌∙◌, subst, arith}
use Rattle.std.specs.Prelude.{Contains, IfSome, IsTrue, Option, None, Some, codes, length}
use Rattle.std.specs.List.{AllByRecursion}
use Rattle.std.specs.Str.{bytes_eq, str_to_ascii_lowercase}
use Rattle.std.proofs.lemmas.Bool.{false≢true}
use Rattle.std.proofs.lemmas.Option.{same_Some}
use Rattle.sip_grammar.specs.Tag.{has_good_tag}
use Rattle.sip_message.specs.Party.{tag_of}
use Rattle.sip_message.specs.TopVia.{top_branch}
use Rattle.sip_message.specs.declared.id.Id.{Id}
use Rattle.sip_message.specs.declared.message.Message.{Message}
use Rattle.sip_message.specs.MessageKey.{key_of_message}
use Rattle.keyed_machine.specs.Machine.{Timed, outputs_from, given_at}
use Rattle.sip_transactions.specs.declared.input.Input.TheVariants.{Start}
use Rattle.sip_transactions.specs.declared.output.UpKind.TheVariants as kind
use Rattle.sip_transactions.specs.declared.output.Up.{Up as AnUp}
use Rattle.sip_held_dialogs.specs.Ids.{is_id}
use Rattle.sip_held_dialogs.specs.Requests.{has_to_tag}
use Rattle.sip_held_dialogs.specs.declared.held_dialog.DialogReference.{DialogReference}
use Rattle.sip_user.specs.declared.item.CallOut.{CallOut}
use Rattle.sip_user.specs.declared.item.CallOut.TheVariants as call_out
use Rattle.sip_user.specs.declared.item.Item.TheVariants.{Up}
use Rattle.sip_user.specs.declared.notice.Notice.TheVariants as notice
use Rattle.sip_held_dialogs.proofs.Each.{found_one}
use Rattle.sip_clients.specs.Client.{client_at}
use Rattle.sip_clients.specs.Clients.{status_of, reply_name}
use Rattle.sip_clients.specs.Name.{name_of}
use Rattle.sip_clients.specs.Provisionals.{OfTheCall, is_response, provisional_number}
use Rattle.sip_clients.proofs.Names.{names_differ}
use Rattle.sip_calls.specs.Call.{CallItem, call_machine, call_step}
use Rattle.sip_calls.specs.Histories.{call_from}
use Rattle.sip_calls.specs.OwnCall.{IsInputOf}
use Rattle.sip_calls.specs.Provisionals.{event_in, side_held, event_of_kind}
use Rattle.sip_calls.specs.declared.call.Call.{Call}
use Rattle.sip_round.specs.declared.config.Config.{Config}
use Rattle.sip_round.specs.declared.round.Round.{Round}
use Rattle.sip_round.specs.Answers.{calls_of, past_of}
use Rattle.sip_round.specs.Laws.{call_inputs_of}
use Rattle.sip_round.proofs.CallEvents.{events_differ}
use Rattle.sip_round.proofs.Said.{call_alone}
use Rattle.sip_conversation.specs.Answers.{IsHandedUp}
use Rattle.sip_conversation.specs.ComeWhole.{IsNoticeFor, IsOfRequest, IsToldOf, TellsOf}
use Rattle.sip_conversation.specs.Conversation.{Carried, Side, Turn, peer, rounds_of}
use Rattle.sip_conversation.specs.Messages.{CallSays, CallsKeepRules, ComesUnchanged, ComesUp, IsGiven as WasGiven, come_from}
use Rattle.sip_conversation.specs.Replies.{AreCounted, IsStartedFor}
use Rattle.sip_conversation.proofs.Among.{among_first, each_of}
use Rattle.sip_conversation.proofs.AmongInputs.{out_of_first_inputs}
use Rattle.sip_conversation.proofs.Branches.{Own}
use Rattle.sip_conversation.proofs.CallBranches.{AnyCancel, HeldOwn, InputComes, any_inputs, held_own}
use Rattle.sip_conversation.proofs.CallOuts.{InputFits, KindTells, OutFits, step_fits, ResponseTells}
use Rattle.sip_conversation.proofs.ClientsSent.{WentOut, held_went}
use Rattle.sip_conversation.proofs.Longer.{rounds_of-append}
use Rattle.sip_conversation.proofs.OnceOnly.{once_only}
use Rattle.sip_conversation.proofs.OneCallId.{IsOfStart, name_low, started_request}
use Rattle.sip_conversation.proofs.OneTransaction.{KindCame}
use Rattle.sip_conversation.proofs.Origins.{IsOrigin, TimedComes, counted, inputs_come, IsCounted}
use Rattle.sip_conversation.proofs.PracksSaid.{OfCall, IsAlike, came_alike, given_in_call}
use Rattle.sip_conversation.proofs.PracksServed.{same_name}
use Rattle.sip_conversation.proofs.Provisionals.{said_reliably, IsReliablySo}
use Rattle.sip_conversation.proofs.RepliesSaid.{Came, Comes, IsFair, inputs_come as ups_come}
use Rattle.sip_conversation.proofs.Rounds.{all_of_parts}
use Rattle.sip_conversation.proofs.StartedFor.{KindStarted, response_key}
use Rattle.sip_conversation.proofs.ToldAt.{IsToldAt, RepliesToInvite, replies_to_invite}
use Rattle.sip_conversation.proofs.ToldCallId.{own_reply, IsOwnReply}
use Rattle.sip_conversation.proofs.Unchanged.{inputs_unchanged}
use Rattle.sip_conversation.proofs.Ups.{ItemCame, TimedCame}
use Rattle.sip_message.specs.declared.addr.Addr.{Addr}
use Rattle.std.proofs.lemmas.List.Elements.{Contains-append_right}
use Rattle.sip_held_dialogs.specs.declared.held_dialog.DialogId.{DialogId}
use Rattle.sip_clients.specs.declared.client.RequestKind.TheVariants.{InitialInvite}
use Rattle.sip_message.specs.declared.party.Party.{Party}
use Rattle.sip_clients.specs.Rules.Requests.{is_invite_kind}
use Rattle.sip_calls.specs.HeldDialogs.{opens_dialogs}
use Rattle.sip_conversation.proofs.GivenReliably.{IsGiven, is_given as reliably_given}

-- ---- a status

has_status : (response : Message) (rseq : ℕ) (o : Option ℕ)
    → provisional_number o response ≡ Some rseq → (status : ℕ) × (o ≡ Some status)
has_status response rseq None is = absurd cc
has_status response rseq (Some status) is = (status, refl)

-- ---- a turn

up_of : (event other : Id) (up up_there : AnUp)
    → ◌≡◌ {A = Option CallItem} (Some (event, Up up)) (Some (other, Up up_there))
    → up ≡ up_there
up_of event other up up_there same =
    let one : CallItem = (event, Up up) in
    let two : CallItem = (other, Up up_there) in
    same_up (ap (λ (item : CallItem). item.1) (same_Some one two same))
  where
    same_up : Up up ≡ Up up_there → up ≡ up_there
    same_up same = cc

event_brought : (event : Id) (up : AnUp) (request : Message) (reply_to : Addr)
    → up.kind ≡ kind.Request request reply_to → event_in (Some (event, Up up)) ≡ Some event
event_brought event up request reply_to is = ap (event_of_kind event) is

no_cancel : codes "CANCEL" ≡ codes "INVITE" → ⊥
no_cancel same = false≢true (ap (λ m. bytes_eq m (codes "INVITE")) same)

module _ (configs : Side → Config) (fair : IsFair configs) (before : List Turn) (turn : Turn)
    (carried : Carried configs before) (keep : CallsKeepRules configs before)
    (carried_so : Carried configs (before ++ turn ∷ []))
    (keep_so : CallsKeepRules configs (before ++ turn ∷ [])) where
  abbrev here : Config
  here = configs turn.side

  abbrev rounds_here : List Round
  rounds_here = rounds_of turn.side (before ++ turn ∷ [])

  abbrev there : Config
  there = configs (peer turn.side)

  abbrev rounds_there : List Round
  rounds_there = rounds_of (peer turn.side) before

  abbrev CameThere : Message → Type 0
  CameThere = ComesUnchanged configs before (peer turn.side)

  module _ (few : AreCounted here rounds_here) (few_there : AreCounted there rounds_there)
      (call_id : List ℕ) (life : DialogReference) where
    abbrev inputs : List (Timed CallItem)
    inputs = call_inputs_of here rounds_here call_id

    abbrev inputs_there : List (Timed CallItem)
    inputs_there = call_inputs_of there rounds_there call_id

    -- the user is told of a response that the other user gave to a request; the event of the
    -- request made the tag of the dialog
    pub record IsGivenThere (rseq : ℕ) (one : CallOut) : Type 0 where
      pub id : Id
      pub response : Message
      pub tells : IsToldOf (rseq, one) (rseq, response)
      pub answer : IsGiven (OfCall CameThere call_id) (calls_of there) inputs_there id rseq response
      pub named : (life.name).remote ≡ name_of there.seed answer.event 0
      pub notice : IsNoticeFor configs before turn call_id id one

    -- all of one dialog are given to one request
    pub same_request : (rseq other : ℕ) (told later : CallOut) → (first : IsGivenThere rseq told)
        → (second : IsGivenThere other later) → first.id ≡ second.id
    same_request rseq other told later first second =
        let a = first.answer in
        let b = second.answer in
        let one : Timed CallItem = given_at a.now (a.event, Up a.up) in
        let two : Timed CallItem = given_at b.now (b.event, Up b.up) in
        let a_is = event_brought a.event a.up a.request a.reply_to a.is_request in
        let b_is = event_brought b.event b.up b.request b.reply_to b.is_request in
        let a_few = event_counted one a.came a.event a_is in
        let b_few = event_counted two b.came b.event b_is in
        let events : a.event ≡ b.event =
        (names_differ there.seed there.seed a.event b.event 0 0 a_few.round b_few.round a_few.place
        b_few.place (omega arith) (omega arith) (sym first.named ∙ second.named)).0 in
        let timed : one ≡ two =
        once_only (λ (timed : Timed CallItem). event_in timed.input) inputs_there
        (events_differ there call_id rounds_there) one two a.came b.came b.event
        (a_is ∙ ap (λ e. Some e) events) b_is in
        let ups : a.up ≡ b.up =
        up_of a.event b.event a.up b.up (ap (λ (timed : Timed CallItem). timed.input) timed) in
        sym a.id_is ∙ (ap (λ (up : AnUp). up.id) ups ∙ b.id_is)
      where
        event_counted : (timed : Timed CallItem) → Contains inputs_there timed → (event : Id)
            → event_in timed.input ≡ Some event → IsCounted event
        event_counted timed among event is =
            counted there rounds_there few_there call_id event
            (subst (λ o. IfSome o (IsOrigin there rounds_there call_id)) is
            (each_of (TimedComes there rounds_there call_id) inputs_there timed
            (inputs_come there rounds_there call_id) among).1)

    -- ---- one that is told

    module _ (rseq : ℕ) (one : CallOut)
        (at : IsToldAt (calls_of here) OfTheCall life inputs rseq one) where
      abbrev state : Option Call
      state = call_from (calls_of here) None at.before

      reply : RepliesToInvite life (side_held state) (at.timed).input rseq
      reply = replies_to_invite (calls_of here) life state at.timed rseq at.number

      among_inputs : Contains inputs at.timed
      among_inputs =
          subst (λ all. Contains all at.timed) (sym at.are)
          (Contains-append_right at.before (at.timed ∷ at.after) at.timed
          (among_first at.timed at.after))

      comes : Comes configs fair before turn carried keep reply.up
      comes =
          let Comes_up = Comes configs fair before turn carried keep in
          subst (λ i. IfSome i (λ (item : CallItem). ItemCame Comes_up item.1)) reply.comes
          (each_of (TimedCame Comes_up) inputs at.timed
          (ups_come configs fair before turn carried keep carried_so keep_so call_id) among_inputs)

      of_call : reply.up.call_id ≡ call_id
      of_call =
          (subst (IsInputOf call_id) reply.comes
          (each_of (TimedComes here rounds_here call_id) inputs at.timed
          (inputs_come here rounds_here call_id) among_inputs).0).0

      answer_status : (status : ℕ) × (status_of reply.response.start ≡ Some status)
      answer_status = has_status reply.response rseq (status_of reply.response.start) reply.rseq_is

      -- what the other side said
      abbrev SaidSo : Type 0
      SaidSo =
          IsReliablySo configs fair before turn carried keep call_id reply.response rseq
          answer_status.0

      begun_so : IsStartedFor here rounds_here call_id reply.up.id reply.response
      begun_so =
          subst (λ c. IsStartedFor here rounds_here c reply.up.id reply.response) of_call
          (subst (KindStarted here rounds_here reply.up.id reply.up.call_id) reply.kind_is comes.1
          answer_status.0 answer_status.1)

      so : SaidSo
      so =
          said_reliably configs fair before turn carried keep reply.response
          (subst (KindCame (Came configs fair before turn carried keep)) reply.kind_is comes.0) rseq
          reply.rseq_is answer_status.0 answer_status.1 call_id reply.up.id begun_so

      abbrev original : Message
      original = ((so.said).response).original

      begun : IsStartedFor here rounds_here call_id reply.up.id original
      begun =
          subst (IsStartedFor here rounds_here call_id reply.up.id) (sym so.whole) begun_so

      -- the INVITE went out under its id
      went : WentOut (outputs_from (call_machine (calls_of here)) call_id None inputs) reply.up.id
          reply.client.request
      went =
          let calls = calls_of here in
          let early = held_went calls call_id at.before reply.up.id reply.client reply.held in
          record {
            one = early.one;
            among = subst (λ all. Contains (outputs_from (call_machine calls) call_id None all)
                early.one) (sym at.are)
                (out_of_first_inputs calls call_id at.before (at.timed ∷ at.after) early.one
                early.among);
            starts = early.starts;
            sends = early.sends;
          }

      its : Own here.local here.seed call_id (IsOrigin here rounds_here call_id) AnyCancel reply.client
      its =
          let CameHere = IsOrigin here rounds_here call_id in
          let IsOwnClient = Own here.local here.seed call_id CameHere AnyCancel in
          let TimedIs : Timed CallItem → Type 0 = λ timed.
          InputComes (calls_of here) call_id CameHere AnyCancel timed.input in
          let parts = all_of_parts TimedIs at.before (at.timed ∷ at.after)
          (subst (AllByRecursion TimedIs) at.are (inputs_come here rounds_here call_id)) in
          by_state state (held_own (calls_of here) call_id CameHere AnyCancel None at.before parts.0
          (any_inputs (calls_of here) call_id CameHere None at.before) tt tt)
          reply.held
        where
          by_state : (state : Option Call)
              → HeldOwn (calls_of here) call_id (IsOrigin here rounds_here call_id) AnyCancel state
              → client_at reply.up.id (side_held state).clients ≡ Some reply.client
              → Own here.local here.seed call_id (IsOrigin here rounds_here call_id) AnyCancel reply.client
          by_state None own held = absurd cc
          by_state (Some call) own held =
              let IsOwnClient =
              Own here.local here.seed call_id (IsOrigin here rounds_here call_id) AnyCancel in
              subst (λ o. IfSome o IsOwnClient) held
              (found_one IsOwnClient (is_id reply.up.id) call.clients own)

      start : IsOfStart (key_of_message original) begun.request went.one
      start =
          let longer = rounds_of-append turn.side before (turn ∷ []) in
          let key = key_of_message original in
          started_request here (fair.calls turn.side) (rounds_of turn.side before)
          (rounds_of turn.side (turn ∷ [])) (subst (AreCounted here) longer few) key reply.up.id
          call_id begun.request begun.to
          (subst (λ rounds. WasGiven here rounds key (Start reply.up.id call_id begun.request
          begun.to)) longer begun.given)
          went.one
          (subst (λ rounds. CallSays here rounds went.one) longer (
            call_id,
            subst (λ outs. Contains outs went.one)
                (sym (call_alone (calls_of here) (fair.calls turn.side) []
                (past_of here rounds_here).calls call_id)) went.among,
          ))
          went.starts

      -- the transaction was started with that INVITE
      same_invite : begun.request ≡ reply.client.request
      same_invite = sym (start.same begun.request) ∙ went.sends begun.request

      invites : original.cseq.method ≡ codes "INVITE"
      invites =
          start.method (top_branch original) original.cseq.method
          (response_key original answer_status.0 ((so.said).response).status_is)
          ∙ (ap (λ (m : Message). m.cseq.method) same_invite
          ∙ its.invites (ap is_invite_kind reply.initial))

      -- the user of the other side gave it, in one of its calls
      record Found : Type 0 where
        its_call : List ℕ
        id : Id
        answer : IsGiven (OfCall CameThere its_call) (calls_of there)
            (call_inputs_of there rounds_there its_call) id rseq original

      found : Found
      found =
          let given = given_in_call CameThere there rounds_there (fair.calls (peer turn.side))
          (inputs_unchanged fair.transactions configs fair.addresses before carried keep
          (peer turn.side)) original ((so.said).response).said answer_status.0 rseq
          ((so.said).response).status_is (so.said).number in
          record {
            its_call = given.0;
            id = given.1;
            answer = reliably_given (OfCall CameThere given.0) (calls_of there)
                (call_inputs_of there rounds_there given.0) given.1 rseq original given.2;
          }

      own : IsOwnReply configs fair.calls before turn call_id original (found.answer).request
          begun.request
      own =
          let answer = found.answer in
          own_reply configs fair.calls before turn call_id reply.up.id original answer_status.0
          ((so.said).response).status_is
          (record {
            request = answer.request;
            is_request = answer.brought.2;
            came = answer.brought.0;
            copies = answer.copies;
          })
          begun few

      -- the request that came has no To tag
      alike : IsAlike (found.answer).request reply.client.request
      alike =
          subst (λ (m : Message). IsAlike m reply.client.request)
          (sym (own.same (λ cancel. no_cancel (sym cancel ∙ invites))
          ∙ ap (come_from here.local) same_invite))
          (came_alike here.local reply.client.request)

      untagged : has_to_tag (found.answer).request ≡ false
      untagged =
          ap (λ to. not (length (tag_of to) == 0)) alike.to
          ∙ its.untagged (ap opens_dialogs reply.initial)

      good : IsTrue (has_good_tag ((found.answer).request.to).parameters)
      good =
          let asked : CameThere (found.answer).request = (found.answer).brought.0 in
          let asked_alike : IsAlike (found.answer).request asked.original =
          subst (λ (m : Message). IsAlike m asked.original) (sym asked.same)
          (came_alike (configs (peer (peer turn.side))).local asked.original) in
          subst (λ (party : Party). IsTrue (has_good_tag party.parameters)) (sym asked_alike.to)
          asked.rules.to.tag

      call_is : found.its_call ≡ call_id
      call_is =
          sym (found.answer).brought.1 ∙ (sym (found.answer).copies.call_id ∙ own.call)

      its_name : (life.name).remote ≡ name_of there.seed (found.answer).event 0
      its_name =
          let named = same_name life.name
          (reply_name InitialInvite reply.client reply.response) reply.name in
          ap (λ (name : DialogId). name.remote) named
          ∙ (ap (λ (m : Message). str_to_ascii_lowercase (tag_of m.to)) (sym so.whole)
          ∙ (ap str_to_ascii_lowercase ((found.answer).made good untagged)
          ∙ name_low there.seed (found.answer).event 0))

      -- ---- the notice

      abbrev Tells : List ℕ → Id → ℕ → List ℕ → List ℕ → List ℕ → Type 0
      Tells of id status local_tag remote_tag body =
          TellsOf status local_tag remote_tag body original

      tells : (out : CallOut) → is_response out ≡ true → OutFits Tells out
          → IsToldOf (rseq, out) (rseq, original)
      tells (call_out.Notice (notice.Response of id status local_tag remote_tag body)) is fits =
          (refl, fits)
      tells (call_out.Notice (notice.Request of id name local_tag remote_tag body)) is fits =
          absurd (false≢true is)
      tells (call_out.Notice (notice.Ack of id body)) is fits = absurd (false≢true is)
      tells (call_out.Notice (notice.Prack of id rseq body)) is fits = absurd (false≢true is)
      tells (call_out.Notice (notice.Timeout of id)) is fits = absurd (false≢true is)
      tells (call_out.Notice (notice.Failed of id)) is fits = absurd (false≢true is)
      tells (call_out.Notice (notice.NoAck of id)) is fits = absurd (false≢true is)
      tells (call_out.Notice (notice.NoPrack of id)) is fits = absurd (false≢true is)
      tells (call_out.Notice (notice.Cancel of id)) is fits = absurd (false≢true is)
      tells (call_out.Notice (notice.Ended of local_tag remote_tag)) is fits =
          absurd (false≢true is)
      tells (call_out.Notice (notice.Refused of place why)) is fits = absurd (false≢true is)
      tells (call_out.Command id command) is fits = absurd (false≢true is)
      tells (call_out.Direct to bytes) is fits = absurd (false≢true is)

      response_tells : ResponseTells Tells reply.up.call_id reply.up.id reply.response
      response_tells other is =
          subst (TellsOf other (tag_of reply.response.from) (tag_of reply.response.to)
          reply.response.body) (sym so.whole)
          (record { status_is = is; from = refl; to = refl; body_is = refl })

      input_tells : InputFits Tells (at.timed).input
      input_tells =
          subst (InputFits Tells) (sym reply.comes)
          (subst (KindTells Tells reply.up.call_id reply.up.id) (sym reply.kind_is) response_tells)

      -- it names the INVITE that is answered
      abbrev Names : List ℕ → Id → ℕ → List ℕ → List ℕ → List ℕ → Type 0
      Names of id status local_tag remote_tag body =
          IsOfRequest configs before turn call_id found.id of id

      names : (out : CallOut) → is_response out ≡ true → OutFits Names out
          → IsNoticeFor configs before turn call_id found.id out
      names (call_out.Notice (notice.Response of id status local_tag remote_tag body)) is fits =
          fits
      names (call_out.Notice (notice.Request of id name local_tag remote_tag body)) is fits =
          absurd (false≢true is)
      names (call_out.Notice (notice.Ack of id body)) is fits = absurd (false≢true is)
      names (call_out.Notice (notice.Prack of id rseq body)) is fits = absurd (false≢true is)
      names (call_out.Notice (notice.Timeout of id)) is fits = absurd (false≢true is)
      names (call_out.Notice (notice.Failed of id)) is fits = absurd (false≢true is)
      names (call_out.Notice (notice.NoAck of id)) is fits = absurd (false≢true is)
      names (call_out.Notice (notice.NoPrack of id)) is fits = absurd (false≢true is)
      names (call_out.Notice (notice.Cancel of id)) is fits = absurd (false≢true is)
      names (call_out.Notice (notice.Ended of local_tag remote_tag)) is fits =
          absurd (false≢true is)
      names (call_out.Notice (notice.Refused of place why)) is fits = absurd (false≢true is)
      names (call_out.Command id command) is fits = absurd (false≢true is)
      names (call_out.Direct to bytes) is fits = absurd (false≢true is)

      handed : IsHandedUp there rounds_there (found.answer).request (found.answer).up
      handed =
          let answer = found.answer in record {
            reply_to = answer.reply_to;
            kind_is = answer.is_request;
            comes = subst (λ c. ComesUp there rounds_there c answer.up) (sym answer.brought.1)
                (answer.now, answer.event, answer.came);
          }

      response_names : ResponseTells Names reply.up.call_id reply.up.id reply.response
      response_names other is = record {
        call_id_is = of_call;
        invite = begun.request;
        method_is = ap (λ (m : Message). m.cseq.method) same_invite
            ∙ its.invites (ap is_invite_kind reply.initial);
        key = key_of_message original;
        to = begun.to;
        started = begun.given;
        up = (found.answer).up;
        came = subst (λ (m : Message). IsHandedUp there rounds_there m (found.answer).up)
            (own.same (λ cancel. no_cancel (sym cancel ∙ invites))) handed;
        id_is = (found.answer).id_is;
      }

      input_names : InputFits Names (at.timed).input
      input_names =
          subst (InputFits Names) (sym reply.comes)
          (subst (KindTells Names reply.up.call_id reply.up.id) (sym reply.kind_is)
          response_names)

      pub is_given : IsGivenThere rseq one
      is_given = record {
        id = found.id;
        response = original;
        tells = tells one at.is
            (each_of (OutFits Tells)
            (call_step (calls_of here) state (at.timed).input (at.timed).moment).1 one
            (step_fits Tells (calls_of here) state (at.timed).input (at.timed).moment input_tells)
            at.among);
        answer = subst (λ c. IsGiven (OfCall CameThere c) (calls_of there)
            (call_inputs_of there rounds_there c) found.id rseq original) call_is found.answer;
        named = its_name;
        notice = names one at.is
            (each_of (OutFits Names)
            (call_step (calls_of here) state (at.timed).input (at.timed).moment).1 one
            (step_fits Names (calls_of here) state (at.timed).input (at.timed).moment input_names)
            at.among);
      }
