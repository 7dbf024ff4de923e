-- The other side said each reliable provisional response that a user is told of.
use Rattle.std.proofs.Common.{◌≡◌, ◌≢◌, ℕ, Bool, true, false, cond, List, [], ◌∷◌, ◌++◌, map, refl, sym, ap, ◌∙◌, subst}
use Rattle.std.specs.Prelude.{AllPairs, IfSome, Option, None, Some, filter}
use Rattle.std.specs.List.{AllByRecursion}
use Rattle.std.specs.Option.{option_and_then}
use Rattle.std.proofs.lemmas.List.{map-append}
use Rattle.sip_message.specs.declared.id.Id.{Id}
use Rattle.sip_message.specs.Party.{tag_of}
use Rattle.sip_message.specs.declared.message.Message.{Message}
use Rattle.keyed_machine.specs.Machine.{Timed}
use Rattle.sip_transactions.specs.declared.output.Up.{Up as AnUp}
use Rattle.sip_transactions.specs.declared.output.UpKind.{UpKind}
use Rattle.sip_transactions.specs.declared.output.UpKind.TheVariants as kind
use Rattle.sip_held_dialogs.specs.declared.held_dialog.DialogReference.{DialogReference}
use Rattle.sip_user.specs.declared.item.CallOut.{CallOut}
use Rattle.sip_user.specs.declared.item.CallOut.TheVariants as out
use Rattle.sip_user.specs.declared.item.Item.TheVariants.{Up, User}
use Rattle.sip_user.specs.declared.notice.Notice.{Notice}
use Rattle.sip_user.specs.declared.notice.Notice.TheVariants as notice
use Rattle.sip_held_dialogs.specs.Dialogs.{lives}
use Rattle.sip_held_dialogs.proofs.Each.{both}
use Rattle.sip_clients.specs.declared.client.Client.{Client}
use Rattle.sip_clients.specs.Client.{Side as Held, client_at}
use Rattle.sip_clients.specs.Clients.{status_of}
use Rattle.sip_clients.specs.Provisionals.{AnInvite, in_life, is_for, is_response, number_for, provisional_number, reported_in}
use Rattle.sip_calls.specs.declared.call.Call.{Call}
use Rattle.sip_calls.specs.declared.calls.Calls.{Calls}
use Rattle.sip_calls.specs.Call.{CallItem}
use Rattle.sip_calls.specs.Provisionals.{IsConsecutive, done, number_in, number_in_life, number_up, reported, reported_from, side_held}
use Rattle.sip_round.specs.declared.config.Config.{Config}
use Rattle.sip_round.specs.declared.round.Round.{Round}
use Rattle.sip_round.specs.Answers.{calls_of}
use Rattle.sip_round.specs.Laws.{ProvisionalsInLives, call_inputs_of}
use Rattle.sip_conversation.specs.Answers.{AnswersItself, IsAnswered, RespondsTo}
use Rattle.sip_conversation.specs.Answers.AnswersItself.{Accepts, BadExtension, Merged, NoDialog, OutOfOrder, Proceeds, Terminates}
use Rattle.sip_conversation.specs.Answers.IsAnswered.{ByAgent, ByUser}
use Rattle.sip_conversation.specs.Conversation.{Carried, Side, Turn, peer, rounds_of}
use Rattle.sip_conversation.specs.Messages.{CallsKeepRules}
use Rattle.sip_conversation.specs.Replies.{IsStartedFor}
use Rattle.sip_conversation.specs.Provisionals.{IsSaidReliably, ProvisionalsToldAsSaid, SaidReliably, rseqs_told, told_from, told_with}
use Rattle.sip_conversation.proofs.CallOuts.{InputFits, KindTells, NoticeTells, OutFits, ResponseTells, step_fits}
use Rattle.sip_conversation.proofs.Fronts.{carried_before, carried_to, keeps_before, keeps_to}
use Rattle.sip_conversation.proofs.OneTransaction.{KindCame}
use Rattle.sip_conversation.proofs.PracksSaid.{prack_said}
use Rattle.sip_conversation.proofs.RepliesSaid.{Came, Comes as UpComes, IsFair, inputs_come, response_said, told_response}
use Rattle.sip_conversation.proofs.StartedFor.{KindStarted}
use Rattle.sip_conversation.proofs.Unchanged.{inputs_unchanged}
use Rattle.sip_conversation.proofs.Ups.{ItemCame, TimedCame}

-- ---- their RSeqs

abbrev first_of : ℕ × CallOut → ℕ
first_of told = told.0

same_rseqs : (rseq : ℕ) (outs : List CallOut)
    → map first_of (map (λ out. (rseq, out)) outs) ≡ map (λ out. rseq) outs
same_rseqs rseq [] = refl
same_rseqs rseq (out ∷ outs) = ap (λ rseqs. rseq ∷ rseqs) (same_rseqs rseq outs)

with_rseqs : (o : Option ℕ) (outs : List CallOut)
    → map first_of (told_with o outs) ≡ reported_in o outs
with_rseqs None outs = refl
with_rseqs (Some rseq) outs = same_rseqs rseq (filter is_response outs)

rseqs_shown : (calls : Calls) (invite : AnInvite) (life : DialogReference) (call : Option Call)
    (inputs : List (Timed CallItem))
    → map first_of (told_from calls invite life call inputs)
    ≡ reported_from calls invite life call inputs
rseqs_shown calls invite life call [] = refl
rseqs_shown calls invite life call (timed ∷ inputs) =
    let number = number_in_life calls invite life call timed in
    let after = done calls invite life call timed in
    let rest = told_from calls invite life after.0 inputs in
    map-append first_of (told_with number after.1) rest
    ∙ (ap (λ rseqs. rseqs ++ map first_of rest) (with_rseqs number after.1)
    ∙ ap (λ rseqs. reported_in number after.1 ++ rseqs)
    (rseqs_shown calls invite life after.0 inputs))

-- ---- who gives them

-- a status that the agent gives by itself isn't that of a reliable provisional response
module _ (config : Config) (rounds : List Round) (request response : Message) (rseq : ℕ) where
  abbrev IsNone : ℕ → Type 0
  IsNone status = provisional_number (Some status) response ≡ Some rseq → ⊥

  own_none : (status : ℕ) → AnswersItself config rounds request status → IsNone status
  own_none status (Proceeds is) = subst IsNone (sym is) (λ number. absurd cc)
  own_none status (Accepts is why) = subst IsNone (sym is) (λ number. absurd cc)
  own_none status (BadExtension is why) = subst IsNone (sym is) (λ number. absurd cc)
  own_none status (NoDialog is why) = subst IsNone (sym is) (λ number. absurd cc)
  own_none status (Merged is why) = subst IsNone (sym is) (λ number. absurd cc)
  own_none status (Terminates is invite why) =
      subst IsNone (sym is) (λ number. absurd cc)
  own_none status (OutOfOrder is why) = subst IsNone (sym is) (λ number. absurd cc)

  by_user : (status : ℕ) → provisional_number (Some status) response ≡ Some rseq
      → IsAnswered config rounds request status response
      → RespondsTo config rounds request status response
  by_user status number (ByUser responds) = responds
  by_user status number (ByAgent why none) = absurd (own_none status why number)

module _ (configs : Side → Config) (fair : IsFair configs) (before : List Turn) (turn : Turn)
    (carried : Carried configs before) (keep : CallsKeepRules configs before) where
  abbrev Said : ℕ → List ℕ → Id → ℕ → List ℕ → List ℕ → List ℕ → Type 0
  Said rseq call_id id status local_tag remote_tag body =
      SaidReliably configs before turn call_id rseq status local_tag remote_tag body

  abbrev Comes : Message → Type 0
  Comes message = Came configs fair before turn carried keep message

  -- the transaction of what comes up was started under this Call-ID and this id
  abbrev Started : List ℕ → Id → Message → Type 0
  Started call_id id response = IsStartedFor (configs turn.side)
      (rounds_of turn.side (before ++ turn ∷ [])) call_id id response

  -- ---- a response that comes

  -- the other side said the response that comes, exactly as it is
  pub record IsReliablySo (call_id : List ℕ) (response : Message) (rseq status : ℕ) : Type 0 where
    pub said : SaidReliably configs before turn call_id rseq status (tag_of response.from)
        (tag_of response.to) response.body
    pub whole : said.response.original ≡ response

  pub said_reliably : (response : Message) → Comes response → (rseq : ℕ)
      → provisional_number (status_of response.start) response ≡ Some rseq → (status : ℕ)
      → status_of response.start ≡ Some status → (call_id : List ℕ) (id : Id)
      → Started call_id id response → IsReliablySo call_id response rseq status
  said_reliably response comes rseq number status is call_id id started =
      let so = response_said configs fair before turn carried keep response comes status is in
      let here : provisional_number (Some status) response ≡ Some rseq =
      ap (λ o. provisional_number o response) (sym is) ∙ number in
      let numbered = ap (provisional_number (Some status)) so.whole ∙ here in
      record {
        said = record {
          response = so.said;
          number = numbered;
          by_user = by_user (configs (peer turn.side)) (rounds_of (peer turn.side) before)
              so.said.request.request so.said.original rseq status numbered so.said.answered;
          pracked = prack_said configs before turn.side (fair.calls (peer turn.side))
              (inputs_unchanged fair.transactions configs fair.addresses before carried keep
              (peer turn.side)) so.said.original so.said.said status rseq so.said.status_is
              numbered;
          call_id_is = (told_response configs fair before turn carried keep call_id id response
              status so started).call_id_is;
        };
        whole = so.whole;
      }

  abbrev StartedSo : List ℕ → Id → Message → Type 0
  StartedSo call_id id response =
      (status : ℕ) → status_of response.start ≡ Some status → Started call_id id response

  said_so : (response : Message) → Comes response → (rseq : ℕ)
      → provisional_number (status_of response.start) response ≡ Some rseq
      → (call_id : List ℕ) (id : Id) → StartedSo call_id id response
      → ResponseTells (Said rseq) call_id id response
  said_so response comes rseq number call_id id started status is =
      (said_reliably response comes rseq number status is call_id id (started status is)).said

  module _ (calls : Calls) (invite : AnInvite) (life : DialogReference) where
    chosen : (b : Bool) (response : Message) → Comes response → (rseq : ℕ)
        → cond b (provisional_number (status_of response.start) response) None ≡ Some rseq
        → (call_id : List ℕ) (id : Id) → StartedSo call_id id response
        → ResponseTells (Said rseq) call_id id response
    chosen true response comes rseq is call_id id started =
        said_so response comes rseq is call_id id started
    chosen false response comes rseq is call_id id started = absurd cc

    by_client : (o : Option Client) (id : Id) (response : Message) → Comes response → (rseq : ℕ)
        → option_and_then (number_for invite life id response) o ≡ Some rseq
        → (call_id : List ℕ) → StartedSo call_id id response
        → ResponseTells (Said rseq) call_id id response
    by_client None id response comes rseq is call_id started = absurd cc
    by_client (Some client) id response comes rseq is call_id started =
        chosen (is_for invite life id client client.kind response) response comes rseq is call_id
        id started

    kind_number : (k : UpKind) (id : Id) (held : Held) → KindCame Comes k → (rseq : ℕ)
        → number_up invite life id k held ≡ Some rseq → (call_id : List ℕ)
        → KindStarted (configs turn.side) (rounds_of turn.side (before ++ turn ∷ [])) id call_id k
        → KindTells (Said rseq) call_id id k
    kind_number (kind.Request request reply_to) id held came rseq is call_id started = tt
    kind_number (kind.Ack ack) id held came rseq is call_id started = tt
    kind_number (kind.Response response) id held came rseq is call_id started =
        by_client (client_at id held.clients) id response came rseq is call_id started
    kind_number kind.Timeout id held came rseq is call_id started = tt
    kind_number kind.Failed id held came rseq is call_id started = tt

    abbrev ComesUp : AnUp → Type 0
    ComesUp up = UpComes configs fair before turn carried keep up

    input_number : (input : Option CallItem) (held : Held)
        → IfSome input (λ i. ItemCame ComesUp i.1) → (rseq : ℕ)
        → number_in invite life input held ≡ Some rseq
        → InputFits (Said rseq) input
    input_number None held came rseq is = tt
    input_number (Some (event, Up up)) held came rseq is =
        kind_number up.kind up.id held came.0 rseq is up.call_id came.1
    input_number (Some (event, User command)) held came rseq is = tt

    -- ---- those that the user is told of

    abbrev Tell : List (ℕ × CallOut) → Type 0
    Tell told = AllByRecursion
        (λ (one : ℕ × CallOut). IsSaidReliably configs before turn one.0 one.1) told

    abbrev Fit : ℕ → List CallOut → Type 0
    Fit rseq outs = AllByRecursion (OutFits (Said rseq)) outs

    notice_told : (rseq : ℕ) (told : Notice) → NoticeTells (Said rseq) told
        → (outs : List CallOut) → Tell (map (λ out. (rseq, out)) (filter is_response outs))
        → Tell (map (λ out. (rseq, out)) (filter is_response (out.Notice told ∷ outs)))
    notice_told rseq (notice.Request call_id id method local_tag remote_tag body) fits outs rest =
        rest
    notice_told rseq (notice.Response call_id id status local_tag remote_tag body) fits outs
        rest = (fits, rest)
    notice_told rseq (notice.Ack call_id id body) fits outs rest = rest
    notice_told rseq (notice.Prack call_id id number body) fits outs rest = rest
    notice_told rseq (notice.Timeout call_id id) fits outs rest = rest
    notice_told rseq (notice.Failed call_id id) fits outs rest = rest
    notice_told rseq (notice.NoAck call_id id) fits outs rest = rest
    notice_told rseq (notice.NoPrack call_id id) fits outs rest = rest
    notice_told rseq (notice.Cancel call_id id) fits outs rest = rest
    notice_told rseq (notice.Ended call_id local_tag remote_tag) fits outs rest = rest
    notice_told rseq (notice.Refused call_id place why) fits outs rest = rest

    outs_told : (rseq : ℕ) (outs : List CallOut) → Fit rseq outs
        → Tell (map (λ out. (rseq, out)) (filter is_response outs))
    outs_told rseq [] fits = tt
    outs_told rseq (out.Notice told ∷ outs) fits =
        notice_told rseq told fits.0 outs (outs_told rseq outs fits.1)
    outs_told rseq (out.Command id command ∷ outs) fits = outs_told rseq outs fits.1
    outs_told rseq (out.Direct to bytes ∷ outs) fits = outs_told rseq outs fits.1

    told_so : (o : Option ℕ) (outs : List CallOut)
        → ((rseq : ℕ) → o ≡ Some rseq → Fit rseq outs) → Tell (told_with o outs)
    told_so None outs fit = tt
    told_so (Some rseq) outs fit = outs_told rseq outs (fit rseq refl)

    in_life_number : (b : Bool) (o : Option ℕ) (rseq : ℕ) → in_life b o ≡ Some rseq
        → o ≡ Some rseq
    in_life_number true o rseq is = is
    in_life_number false o rseq is = absurd cc

    told_said : (call : Option Call) (inputs : List (Timed CallItem))
        → AllByRecursion (TimedCame ComesUp) inputs
        → Tell (told_from calls invite life call inputs)
    told_said call [] came = tt
    told_said call (timed ∷ inputs) came =
        let after = done calls invite life call timed in
        let number = number_in_life calls invite life call timed in
        let alive = lives (side_held after.0).dialogs life in
        both (λ (one : ℕ × CallOut). IsSaidReliably configs before turn one.0 one.1)
        (told_with number after.1) (told_from calls invite life after.0 inputs)
        (told_so number after.1
        (λ rseq is. step_fits (Said rseq) calls call timed.input timed.moment
        (input_number timed.input (side_held call) came.0 rseq
        (in_life_number alive (number_in invite life timed.input (side_held call)) rseq is))))
        (told_said after.0 inputs came.1)

pub provisionals_said : (configs : Side → Config) → IsFair configs
    → ((s : Side) (rounds : List Round) → ProvisionalsInLives (configs s) rounds)
    → (turns : List Turn) → Carried configs turns → CallsKeepRules configs turns
    → ProvisionalsToldAsSaid configs turns
provisionals_said configs fair in_lives turns carried keep before after turn same call_id invite
    life =
    let front = before ++ turn ∷ [] in
    let rounds = rounds_of turn.side front in
    let calls = calls_of (configs turn.side) in
    let inputs = call_inputs_of (configs turn.side) rounds call_id in
    let order = in_lives turn.side rounds call_id invite life in
    let early = carried_before configs turns before after turn same carried in
    let rules = keeps_before configs turns before after turn same keep in
    let rseqs : reported calls invite life inputs
    ≡ rseqs_told configs before turn call_id invite life =
    sym (rseqs_shown calls invite life None inputs) in
    record {
      consecutive = subst IsConsecutive rseqs order.consecutive;
      once = subst (AllPairs (λ x y. x ≢ y)) rseqs order.once;
      said = told_said configs fair before turn early rules calls invite life None inputs
          (inputs_come configs fair before turn early rules
          (carried_to configs turns before after turn same carried)
          (keeps_to configs turns before after turn same keep) call_id);
    }
