-- The input at which a call hears a response to an INVITE, of which the user is told.
use Rattle.std.proofs.Common.{◌≡◌, ℕ, Bool, true, false, ◌||◌, List, [], ◌∷◌, ◌++◌, refl, sym, ap, ◌∙◌, subst, append_assoc}
use Rattle.std.specs.Prelude.{Contains, IfSome, None, Some, codes}
use Rattle.std.specs.List.{AllByRecursion, list_any}
use Rattle.std.specs.Str.{bytes_eq}
use Rattle.std.proofs.lemmas.Bool.{false≢true}
use Rattle.std.proofs.lemmas.List.Elements.{Contains-append_right}
use Rattle.sip_message.specs.declared.id.Id.{Id}
use Rattle.sip_message.specs.declared.message.Message.{Message}
use Rattle.sip_message.specs.MessageKey.{key_of_message}
use Rattle.sip_message.specs.TopVia.{top_branch}
use Rattle.keyed_machine.specs.Laws.{EachKeyAlone}
use Rattle.keyed_machine.specs.Machine.{Timed, outputs_from, tick_at}
use Rattle.sip_transactions.specs.declared.input.Input.TheVariants.{Start}
use Rattle.sip_held_dialogs.specs.Dialogs.{dialog_at}
use Rattle.sip_held_dialogs.specs.Ids.{is_id}
use Rattle.sip_held_dialogs.specs.declared.held_dialog.DialogId.{DialogId}
use Rattle.sip_user.specs.declared.item.CallOut.{CallOut}
use Rattle.sip_user.specs.declared.item.CallOut.TheVariants as call_out
use Rattle.sip_user.specs.declared.notice.Notice.{Notice}
use Rattle.sip_user.specs.declared.notice.Notice.TheVariants as notice
use Rattle.sip_held_dialogs.proofs.Each.{found_one}
use Rattle.sip_clients.specs.Client.{client_at}
use Rattle.sip_clients.specs.Provisionals.{is_response}
use Rattle.sip_clients.specs.declared.client.Client.{Client}
use Rattle.sip_calls.specs.Call.{CallItem, call_machine, call_step}
use Rattle.sip_calls.specs.CallShard.{call_cmp}
use Rattle.sip_calls.specs.Histories.{call_from}
use Rattle.sip_calls.specs.OwnCall.{IsInputOf}
use Rattle.sip_calls.specs.Provisionals.{side_held}
use Rattle.sip_calls.specs.Sides.{side_of}
use Rattle.sip_calls.specs.declared.call.Call.{Call}
use Rattle.sip_calls.specs.declared.calls.Calls.{Calls}
use Rattle.sip_round.specs.declared.config.Config.{Config}
use Rattle.sip_round.specs.declared.output.Output.TheVariants as output
use Rattle.sip_round.specs.declared.round.Round.{Round}
use Rattle.sip_round.specs.Answers.{answers, calls_of, past_of}
use Rattle.sip_round.specs.Given.{all_given, is_notice_of, notice_in}
use Rattle.sip_round.specs.Laws.{call_inputs_of, said_of_call}
use Rattle.sip_round.proofs.GivenNotices.{notices_given}
use Rattle.sip_round.proofs.Said.{call_alone}
use Rattle.sip_conversation.specs.Conversation.{Carried, Side, Turn, given_by, rounds_of}
use Rattle.sip_conversation.specs.Messages.{CallSays, CallsKeepRules, IsGiven, come_from}
use Rattle.sip_conversation.specs.Replies.{AreCounted, IsStartedFor, SaidResponse}
use Rattle.sip_conversation.proofs.Among.{among_first, among_later, each_of, in_all_of, kept_among}
use Rattle.sip_conversation.proofs.AmongInputs.{out_of_first_inputs, out_of_one_input}
use Rattle.sip_conversation.proofs.Branches.{Own}
use Rattle.sip_conversation.proofs.CallBranches.{AnyCancel, HeldOwn, InputComes, any_inputs, held_own}
use Rattle.sip_conversation.proofs.DialogOfReply.{is_of_invite}
use Rattle.sip_conversation.proofs.CallOuts.{InputFits, KindTells, OutFits, ResponseTells, step_fits}
use Rattle.sip_conversation.proofs.ClientsSent.{WentOut, held_went}
use Rattle.sip_conversation.proofs.Longer.{rounds_of-append}
use Rattle.sip_conversation.proofs.OneCallId.{IsOfStart, started_request}
use Rattle.sip_conversation.proofs.OneTransaction.{KindCame}
use Rattle.sip_conversation.proofs.Origins.{IsOrigin, TimedComes, inputs_come}
use Rattle.sip_conversation.proofs.PracksSaid.{IsAlike, came_alike}
use Rattle.sip_conversation.proofs.RepliesSaid.{Came, Comes, IsFair, inputs_come as ups_come}
use Rattle.sip_conversation.proofs.Rounds.{all_of_parts}
use Rattle.sip_conversation.proofs.StartedFor.{KindStarted, response_key}
use Rattle.sip_conversation.proofs.ToldCallId.{own_reply}
use Rattle.sip_conversation.proofs.Ups.{ItemCame, TimedCame}
use Rattle.sip_transactions.specs.declared.output.UpKind.TheVariants as kind
use Rattle.sip_transactions.specs.declared.output.Up.{Up as AnUp}
use Rattle.sip_user.specs.declared.item.Item.TheVariants.{Up}
use Rattle.sip_clients.specs.Clients.{reply_name, status_of}
use Rattle.sip_clients.specs.ReceivedResponse.{has_dialog}

-- At one of these inputs a response comes up of which this is true. It is in the dialog of this
-- name, which is held or may be made, and to an INVITE with this CSeq number; and the user is told
-- of a response.
pub record WasHeard (Is : ℕ → Message → Type 0) (calls : Calls) (inputs : List (Timed CallItem))
    (name : DialogId) (number : ℕ) : Type 0 where
  pub before : List (Timed CallItem)
  pub timed : Timed CallItem
  pub after : List (Timed CallItem)
  pub are : inputs ≡ before ++ timed ∷ after
  pub call : Call
  pub held : call_from calls None before ≡ Some call
  pub event : Id
  pub up : AnUp
  pub comes : timed.input ≡ Some (event, Up up)
  pub response : Message
  pub kind_is : up.kind ≡ kind.Response response
  pub client : Client
  pub client_is : client_at up.id call.clients ≡ Some client
  pub name_is : reply_name client.kind client response ≡ name
  pub has : has_dialog client.kind (dialog_at name (side_of call).dialogs) ≡ true
  pub number_is : client.request.cseq.number ≡ number
  pub status : ℕ
  pub status_is : status_of response.start ≡ Some status
  pub is : Is status response
  pub told : list_any is_response (call_step calls (Some call) timed.input timed.moment).1 ≡ true

-- ---- the first inputs

module _ (Is : ℕ → Message → Type 0) (calls : Calls) (all first later : List (Timed CallItem))
    (are : all ≡ first ++ later) (name : DialogId) (number : ℕ)
    (early : WasHeard Is calls first name number) where
  -- what was heard at the first inputs was heard
  abbrev pub longer : WasHeard Is calls all name number
  longer = record {
    before = early.before;
    timed = early.timed;
    after = early.after ++ later;
    are = are ∙ (ap (λ (xs : List (Timed CallItem)). xs ++ later) early.are
        ∙ append_assoc early.before (early.timed ∷ early.after) later);
    call = early.call;
    held = early.held;
    event = early.event;
    up = early.up;
    comes = early.comes;
    response = early.response;
    kind_is = early.kind_is;
    client = early.client;
    client_is = early.client_is;
    name_is = early.name_is;
    has = early.has;
    number_is = early.number_is;
    status = early.status;
    status_is = early.status_is;
    is = early.is;
    told = early.told;
  }

  pub of_first : (key : List ℕ) (out : CallOut)
      → Contains (call_step calls (Some early.call) early.timed.input early.timed.moment).1 out
      → Contains (outputs_from (call_machine calls) key None first) out
  of_first key out among =
      subst (λ xs. Contains (outputs_from (call_machine calls) key None xs) out) (sym early.are)
      (out_of_one_input calls key early.before early.timed early.after out
      (subst (λ state.
      Contains (call_step calls state early.timed.input early.timed.moment).1 out)
      (sym early.held) among))

-- ---- lists

-- one of the outputs tells of a response
pub some_response : (outs : List CallOut) → list_any is_response outs ≡ true
    → (out : CallOut) × Contains outs out × (is_response out ≡ true)
some_response [] told = absurd (false≢true told)
some_response (first ∷ outs) told =
    by_first (is_response first) refl told (λ later. some_response outs later)
  where
    by_first : (b : Bool) → is_response first ≡ b → (b || list_any is_response outs) ≡ true
        → (list_any is_response outs ≡ true
        → (out : CallOut) × Contains outs out × (is_response out ≡ true))
        → (out : CallOut) × Contains (first ∷ outs) out × (is_response out ≡ true)
    by_first true is told rest = (first, among_first first outs, is)
    by_first false is told rest =
        let later = rest told in
        (later.0, among_later first outs later.0 later.1, later.2)

no_cancel : codes "CANCEL" ≡ codes "INVITE" → ⊥
no_cancel same = false≢true (ap (λ m. bytes_eq m (codes "INVITE")) same)

-- ---- a call

module _ (config : Config) (rounds : List Round)
    (alone : EachKeyAlone call_cmp (call_machine (calls_of config)) tick_at) (call_id : List ℕ)
  where
    abbrev pub calls : Calls
    calls = calls_of config

    abbrev pub inputs : List (Timed CallItem)
    inputs = call_inputs_of config rounds call_id

    abbrev pub outs_of_call : List CallOut
    outs_of_call = outputs_from (call_machine calls) call_id None inputs

    pub same_outs : said_of_call config rounds call_id ≡ outs_of_call
    same_outs = call_alone calls alone [] (past_of config rounds).calls call_id

    pub said_by_it : (out : CallOut) → Contains outs_of_call out
        → Contains (said_of_call config rounds call_id) out
    said_by_it out among = subst (λ outs. Contains outs out) (sym same_outs) among

    pub told_to_user : (told : Notice) → Contains outs_of_call (call_out.Notice told)
        → Contains (all_given (answers config rounds)) (output.Notice told)
    told_to_user told among =
        (kept_among (is_notice_of call_id) (all_given (answers config rounds)) (output.Notice told)
        (subst (λ outs. Contains outs (output.Notice told))
        (sym (notices_given config rounds call_id))
        (in_all_of notice_in (said_of_call config rounds call_id) (call_out.Notice told)
        (output.Notice told) (said_by_it (call_out.Notice told) among)
        (among_first (output.Notice told) [])))).0

    module _ (Is : ℕ → Message → Type 0) (name : DialogId) (number : ℕ)
        (was : WasHeard Is calls inputs name number) where
      -- the input that brought the response
      pub its_own : (P : Timed CallItem → Type 0) → AllByRecursion P inputs → P was.timed
      its_own P all =
          each_of P inputs was.timed all
          (subst (λ all. Contains all was.timed) (sym was.are)
          (Contains-append_right was.before (was.timed ∷ was.after) was.timed
          (among_first was.timed was.after)))

      -- the INVITE went out under its id
      pub went : WentOut outs_of_call was.up.id was.client.request
      went =
          let early = held_went calls call_id was.before was.up.id was.client
          (ap (λ o. client_at was.up.id (side_held o).clients) was.held ∙ was.client_is) in
          record {
            one = early.one;
            among = subst (λ all. Contains (outputs_from (call_machine calls) call_id None all)
                early.one) (sym was.are)
                (out_of_first_inputs calls call_id was.before (was.timed ∷ was.after) early.one
                early.among);
            starts = early.starts;
            sends = early.sends;
          }

      abbrev IsOwnClient : Client → Type 0
      IsOwnClient = Own calls.local calls.seed call_id (IsOrigin config rounds call_id) AnyCancel

      -- it is an INVITE
      pub invites : was.client.request.cseq.method ≡ codes "INVITE"
      invites =
          let Came = IsOrigin config rounds call_id in
          let TimedIs : Timed CallItem → Type 0 = λ timed.
          InputComes calls call_id Came AnyCancel timed.input in
          let parts = all_of_parts TimedIs was.before (was.timed ∷ was.after)
          (subst (AllByRecursion TimedIs) was.are (inputs_come config rounds call_id)) in
          let own = subst (HeldOwn calls call_id Came AnyCancel) was.held
          (held_own calls call_id Came AnyCancel None was.before parts.0
          (any_inputs calls call_id Came None was.before) tt tt) in
          let its : IsOwnClient was.client = subst (λ o. IfSome o IsOwnClient) was.client_is
          (found_one IsOwnClient (is_id was.up.id) was.call.clients own) in
          its.invites (is_of_invite was.client.kind
          (dialog_at name (side_of was.call).dialogs) was.has)

      -- each output of that input is among those of the call
      pub of_its_input : (out : CallOut)
          → Contains (call_step calls (Some was.call) was.timed.input was.timed.moment).1 out
          → Contains outs_of_call out
      of_its_input out among =
          subst (λ all. Contains (outputs_from (call_machine calls) call_id None all) out)
          (sym was.are)
          (out_of_one_input calls call_id was.before was.timed was.after out
          (subst (λ state.
          Contains (call_step calls state was.timed.input was.timed.moment).1 out)
          (sym was.held) among))

-- ---- a turn

module _ (configs : Side → Config) (fair : IsFair configs) (before : List Turn) (turn : Turn)
  where
    abbrev local_config : Config
    local_config = configs turn.side

    abbrev rounds_now : List Round
    rounds_now = rounds_of turn.side (before ++ turn ∷ [])

    module _ (call_id : List ℕ) (Is : ℕ → Message → Type 0) (name : DialogId) (number : ℕ)
        (was : WasHeard Is (calls_of local_config) (call_inputs_of local_config rounds_now call_id)
        name number) where
      abbrev pub sent : WentOut (outputs_from (call_machine (calls_of local_config)) call_id None
          (call_inputs_of local_config rounds_now call_id)) was.up.id was.client.request
      sent = went local_config rounds_now (fair.calls turn.side) call_id Is name number was

      -- the transaction was started with that INVITE
      own_start : (of : List ℕ) (response : Message) → AreCounted local_config rounds_now
          → (begun : IsStartedFor local_config rounds_now of was.up.id response)
          → IsOfStart (key_of_message response) begun.request sent.one
      own_start of response few begun =
          let longer = rounds_of-append turn.side before (turn ∷ []) in
          let key = key_of_message response in
          started_request local_config (fair.calls turn.side) (rounds_of turn.side before)
          (rounds_of turn.side (turn ∷ [])) (subst (AreCounted local_config) longer few) key
          was.up.id of begun.request begun.to
          (subst (λ rounds. IsGiven local_config rounds key
          (Start was.up.id of begun.request begun.to)) longer begun.given)
          sent.one
          (subst (λ rounds. CallSays local_config rounds sent.one) longer (
            call_id,
            said_by_it local_config rounds_now (fair.calls turn.side) call_id sent.one
                sent.among,
          ))
          sent.starts

      pub of_up : was.up.call_id ≡ call_id
      of_up =
          let own = subst (IsInputOf call_id) was.comes
          (its_own local_config rounds_now (fair.calls turn.side) call_id Is name number was
          (TimedComes local_config rounds_now call_id)
          (inputs_come local_config rounds_now call_id)).0 in
          own.0

      -- a request that came to the other side, and one with which a transaction was started, are
      -- that INVITE
      pub record IsThatInvite (came started : Message) : Type 0 where
        pub alike : IsAlike came was.client.request
        pub same : started ≡ was.client.request
        pub method : (was.client.request).cseq.method ≡ codes "INVITE"

      -- so are those of a response that the other side said
      pub invite_answered : (status : ℕ) (local_tag remote_tag body : List ℕ)
          → (said : SaidResponse configs before turn.side status local_tag remote_tag body)
          → (begun : IsStartedFor local_config rounds_now was.up.call_id was.up.id said.original)
          → AreCounted local_config rounds_now → IsThatInvite said.request.request begun.request
      invite_answered status local_tag remote_tag body said begun few =
          let start = own_start was.up.call_id said.original few begun in
          let same : begun.request ≡ was.client.request =
          sym (start.same begun.request) ∙ (sent).sends begun.request in
          let invite =
          invites local_config rounds_now (fair.calls turn.side) call_id Is name number was in
          let method : said.original.cseq.method ≡ codes "INVITE" =
          start.method (top_branch said.original) said.original.cseq.method
          (response_key said.original status said.status_is)
          ∙ (ap (λ (m : Message). m.cseq.method) same ∙ invite) in
          record {
            alike = subst (λ (m : Message). IsAlike m was.client.request)
                (sym (((own_reply configs fair.calls before turn was.up.call_id was.up.id
                said.original status said.status_is said.request begun few).same
                (λ cancel. no_cancel (sym cancel ∙ method)))
                ∙ ap (come_from local_config.local) same))
                (came_alike local_config.local was.client.request);
            same = same;
            method = invite;
          }

      -- ---- that it came, and what the user is told of it

      -- it came in this turn or before it, and its transaction was started under the Call-ID and
      -- the id of what comes up
      pub record HasCome (carried : Carried configs before) (keep : CallsKeepRules configs before)
          : Type 0 where
        pub came : Came configs fair before turn carried keep was.response
        pub started : IsStartedFor local_config rounds_now was.up.call_id was.up.id was.response

      pub has_come : (carried : Carried configs before) (keep : CallsKeepRules configs before)
          → Carried configs (before ++ turn ∷ []) → CallsKeepRules configs (before ++ turn ∷ [])
          → HasCome carried keep
      has_come carried keep carried_so keep_so =
          let up = was.up in
          let Comes_up = Comes configs fair before turn carried keep in
          let came : Comes_up up =
          subst (λ i. IfSome i (λ (item : CallItem). ItemCame Comes_up item.1)) was.comes
          (its_own local_config rounds_now (fair.calls turn.side) call_id Is name number was
          (TimedCame Comes_up)
          (ups_come configs fair before turn carried keep carried_so keep_so call_id)) in
          record {
            came = subst (KindCame (Came configs fair before turn carried keep)) was.kind_is came.0;
            started = subst (KindStarted local_config rounds_now up.id up.call_id) was.kind_is
                came.1 was.status was.status_is;
          }

      module _ (Tells : List ℕ → Id → ℕ → List ℕ → List ℕ → List ℕ → Type 0) where
        -- at that input the user is told of a response of which this is true
        pub record IsToldSo : Type 0 where
          pub of : List ℕ
          pub id : Id
          pub status : ℕ
          pub local_tag : List ℕ
          pub remote_tag : List ℕ
          pub body : List ℕ
          pub among : Contains (call_step (calls_of local_config) (Some was.call) was.timed.input
              was.timed.moment).1
              (call_out.Notice (notice.Response of id status local_tag remote_tag body))
          pub given : Contains (given_by configs (before ++ turn ∷ []) turn.side)
              (output.Notice (notice.Response of id status local_tag remote_tag body))
          pub tells : Tells of id status local_tag remote_tag body

        -- an output that tells of a response tells of that one
        by_out : (out : CallOut)
            → Contains (call_step (calls_of local_config) (Some was.call) was.timed.input
            was.timed.moment).1 out
            → is_response out ≡ true → OutFits Tells out → IsToldSo
        by_out (call_out.Notice (notice.Response of id status local_tag remote_tag body)) among is
            fits = record {
              of = of;
              id = id;
              status = status;
              local_tag = local_tag;
              remote_tag = remote_tag;
              body = body;
              among = among;
              given = told_to_user local_config rounds_now (fair.calls turn.side) call_id
                  (notice.Response of id status local_tag remote_tag body)
                  (of_its_input local_config rounds_now (fair.calls turn.side) call_id Is name
                  number
                  was (call_out.Notice (notice.Response of id status local_tag remote_tag body))
                  among);
              tells = fits;
            }
        by_out (call_out.Notice (notice.Request of id asked local_tag remote_tag body)) among is
            fits = absurd (false≢true is)
        by_out (call_out.Notice (notice.Ack of id body)) among is fits = absurd (false≢true is)
        by_out (call_out.Notice (notice.Prack of id rseq body)) among is fits =
            absurd (false≢true is)
        by_out (call_out.Notice (notice.Timeout of id)) among is fits = absurd (false≢true is)
        by_out (call_out.Notice (notice.Failed of id)) among is fits = absurd (false≢true is)
        by_out (call_out.Notice (notice.NoAck of id)) among is fits = absurd (false≢true is)
        by_out (call_out.Notice (notice.NoPrack of id)) among is fits = absurd (false≢true is)
        by_out (call_out.Notice (notice.Cancel of id)) among is fits = absurd (false≢true is)
        by_out (call_out.Notice (notice.Ended of local_tag remote_tag)) among is fits =
            absurd (false≢true is)
        by_out (call_out.Notice (notice.Refused of place why)) among is fits =
            absurd (false≢true is)
        by_out (call_out.Command id command) among is fits = absurd (false≢true is)
        by_out (call_out.Direct to bytes) among is fits = absurd (false≢true is)

        pub told_so : ResponseTells Tells was.up.call_id was.up.id was.response → IsToldSo
        told_so tells =
            let fits : InputFits Tells was.timed.input =
            subst (InputFits Tells) (sym was.comes)
            (subst (KindTells Tells was.up.call_id was.up.id) (sym was.kind_is) tells) in
            let outs = (call_step (calls_of local_config) (Some was.call) was.timed.input
            was.timed.moment).1 in
            let one = some_response outs was.told in
            by_out one.0 one.1 one.2
            (each_of (OutFits Tells) outs one.0
            (step_fits Tells (calls_of local_config) (Some was.call) was.timed.input
            was.timed.moment fits) one.1)
