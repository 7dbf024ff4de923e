-- The other side's user asked for each request and each CANCEL that a user is told of, and that
-- side said each ACK and each PRACK.
use Rattle.std.proofs.Common.{◌≡◌, ◌⊎◌, inl, inr, ℕ, Bool, true, false, ◌&&◌, ◌||◌, List, [], ◌∷◌, ◌++◌, length, refl, sym, ap, ◌∙◌, subst, arith}
use Rattle.std.specs.Prelude.{◌==◌, Contains, IfSome, IsTrue, Option, None, Some, codes, is_none, if◌then◌else◌}
use Rattle.std.specs.Option.{option_map_or}
use Rattle.std.specs.Str.{bytes_eq, str_eq_ignore_ascii_case, str_to_ascii_lowercase}
use Rattle.std.proofs.lemmas.Bool.{false≢true}
use Rattle.std.proofs.lemmas.Grind.{common_steps}
use Rattle.std.proofs.lemmas.Slice.Eq.{bytes_eq-Decides}
use Rattle.sip_grammar.specs.Tag.{has_good_tag}
use Rattle.sip_grammar.proofs.Characters.{same_lower}
use Rattle.sip_message.specs.declared.addr.Addr.{Addr}
use Rattle.sip_message.specs.declared.id.Id.{Id}
use Rattle.sip_message.specs.declared.key.Key.{Key}
use Rattle.sip_message.specs.declared.key.Key.TheVariants as key
use Rattle.sip_message.specs.declared.message.Message.{Message}
use Rattle.sip_message.specs.Key.{branch_in}
use Rattle.sip_message.specs.TopVia.{top_branch}
use Rattle.sip_message.specs.declared.party.Party.{Party}
use Rattle.sip_message.specs.declared.rack.RAck.{RAck}
use Rattle.sip_message.specs.Response.{tagged}
use Rattle.sip_message.specs.Message.{is_request_message}
use Rattle.sip_message.specs.Party.{tag_of}
use Rattle.sip_message.specs.Source.{stamped}
use Rattle.sip_message.specs.Written.{written}
use Rattle.keyed_machine.specs.Machine.{Timed, given_at}
use Rattle.keyed_machine.proofs.Ordered.{by_bool}
use Rattle.sip_transactions.specs.declared.output.UpKind.{UpKind}
use Rattle.sip_transactions.specs.declared.output.UpKind.TheVariants as kind
use Rattle.sip_transactions.specs.declared.output.Up.{Up as AnUp}
use Rattle.sip_user.specs.OwnCall.{IsItemOf, IsKindOf, call_of_notice}
use Rattle.sip_held_dialogs.specs.Requests.{dialog_id_of_tags, is_cancel, is_invite, is_prack, is_success, local_tag_of}
use Rattle.sip_user.specs.declared.command.UserCommand.{UserCommand}
use Rattle.sip_user.specs.declared.command.UserCommand.TheVariants as user
use Rattle.sip_user.specs.declared.item.CallOut.{CallOut}
use Rattle.sip_user.specs.declared.item.Item.TheVariants.{Up, User}
use Rattle.sip_user.specs.declared.notice.Notice.{Notice}
use Rattle.sip_user.specs.declared.notice.Notice.TheVariants as notice
use Rattle.sip_served.specs.Rules.Arrivals.{is_same_branch}
use Rattle.sip_served.specs.declared.arrival.Arrival.{Arrival}
use Rattle.sip_served.specs.declared.held_request.HeldRequest.{HeldRequest}
use Rattle.sip_served.specs.declared.held_request.Success.{Success}
use Rattle.sip_clients.specs.Name.{name_of}
use Rattle.sip_clients.specs.Rules.Requests.{has_command}
use Rattle.sip_calls.specs.Call.{CallItem}
use Rattle.sip_round.specs.declared.config.Config.{Config}
use Rattle.sip_round.specs.declared.output.Output.TheVariants as output
use Rattle.sip_round.specs.declared.round.Round.{Round}
use Rattle.sip_round.specs.Answers.{calls_of}
use Rattle.sip_round.specs.Laws.{call_inputs_of}
use Rattle.sip_conversation.specs.Acks.{IsForInvite}
use Rattle.sip_conversation.specs.Answers.{AnswersItself, IsAnswered, RespondsTo}
use Rattle.sip_conversation.specs.Answers.AnswersItself.{Accepts, BadExtension, Merged, NoDialog, OutOfOrder, Proceeds, Terminates}
use Rattle.sip_conversation.specs.Answers.IsAnswered.{ByAgent, ByUser}
use Rattle.sip_conversation.specs.Cancels.{CancelsToldWereAskedFor, SaidCancel, UserCancelled}
use Rattle.sip_conversation.specs.Replies.{AreCounted}
use Rattle.sip_conversation.specs.Conversation.{Carried, Side, Turn, given_by, peer, rounds_of}
use Rattle.sip_conversation.specs.Messages.{CallsKeepRules, ComesUp, IsSaid, come_from}
use Rattle.sip_conversation.specs.Requests.{RequestsToldWereAskedFor, SaidRequest}
use Rattle.sip_conversation.specs.ToldPracks.{PracksToldWereSaid, SaidPrackOf}
use Rattle.sip_conversation.proofs.Along.{along, among_after, given_after}
use Rattle.sip_conversation.proofs.Among.{each_of}
use Rattle.sip_transactions.proofs.RowFacts.{and-left}
use Rattle.sip_conversation.proofs.Branches.{invite_none, top_alone}
use Rattle.sip_conversation.proofs.CameUps.{request_first}
use Rattle.sip_conversation.proofs.OneCallId.{lower}
use Rattle.sip_conversation.proofs.OneOrigin.{one_request, said_starts}
use Rattle.sip_conversation.proofs.ToldCallId.{came_same as came_branch}
use Rattle.sip_conversation.proofs.Answered.{AnswersTo, CameTo, Names, own, request_came, user_answers}
use Rattle.sip_conversation.proofs.Fronts.{carried_to, keeps_to, peer_rounds, sent_before}
use Rattle.sip_conversation.proofs.GivenTold.{OutTells, notice_given}
use Rattle.sip_conversation.proofs.HeardUps.{Came, InputHeard, all_heard}
use Rattle.sip_conversation.proofs.NoticesTold.{InputTells, all_tell}
use Rattle.sip_conversation.proofs.OneTransaction.{KindCame}
use Rattle.sip_conversation.proofs.PracksCame.{arrived, equal}
use Rattle.sip_conversation.proofs.PracksSaid.{IsAlike, came_alike}
use Rattle.sip_conversation.proofs.RepliesSaid.{IsFair}
use Rattle.sip_conversation.proofs.RequestsAsked.{user_asked, user_cancelled, user_pracked}
use Rattle.sip_conversation.proofs.ServedReplies.{Acknowledges, AllowsServed, Cancels, IsOther, IsPrackOf, IsSuccessTo, KindBrought}
use Rattle.sip_conversation.proofs.ToTags.{to_tag}
use Rattle.sip_conversation.proofs.UpMethods.{HasMethod}

-- ---- a request as it came, and as it was said

record IsSame (came said : Message) : Type 0 where
  pub is_request : is_request_message said ≡ true
  pub call_id : said.call_id ≡ came.call_id
  pub method : said.cseq.method ≡ came.cseq.method
  pub number : said.cseq.number ≡ came.cseq.number
  pub from : tag_of said.from ≡ tag_of came.from
  pub to : tag_of said.to ≡ tag_of came.to
  pub rack : said.rack ≡ came.rack
  pub body : said.body ≡ came.body

stamped_same : (source : Addr) (said : Message) → is_request_message said ≡ true
    → IsSame (stamped said source) said
unfolding stamped
stamped_same source said is = record {
  is_request = is;
  call_id = refl;
  method = refl;
  number = refl;
  from = refl;
  to = refl;
  rack = refl;
  body = refl;
}

came_same : (source : Addr) (came said : Message) → came ≡ come_from source said
    → is_request_message came ≡ true → IsSame came said
came_same source came said same is =
    let comes : Bool → Message = λ b. if b then stamped said source else said in
    by_bool (is_request_message said)
    (λ asks. subst (λ m. IsSame m said) (sym (same ∙ ap comes asks))
    (stamped_same source said asks))
    (λ other. absurd (false≢true (sym other
    ∙ (ap is_request_message (sym (same ∙ ap comes other)) ∙ is))))

has_bytes : (byte : ℕ) (tag : List ℕ) → (length (byte ∷ tag) == 0) ≡ false
has_bytes byte tag = grind (arith, common_steps)

-- the local tag is that of To, if it has one
local_or_none : (request : Message) (made : List ℕ)
    → (tag_of request.to ≡ local_tag_of request made) ⊎ (tag_of request.to ≡ [])
local_or_none request made = by_tag (tag_of request.to)
  where
    by_tag : (tag : List ℕ) → (tag ≡ (if length tag == 0 then made else tag)) ⊎ (tag ≡ [])
    by_tag [] = inr refl
    by_tag (byte ∷ tag) =
        inl (sym (ap (λ b. if b then made else byte ∷ tag) (has_bytes byte tag)))

-- a request that is no ACK, CANCEL or PRACK
other_kind : (request : Message) → (request.cseq.method ≡ codes "ACK" → ⊥)
    → is_cancel request ≡ false → is_prack request ≡ false
    → has_command request.cseq.method ≡ false
other_kind request no_ack no_cancel no_prack =
    let method = request.cseq.method in
    by_bool (bytes_eq method (codes "ACK"))
    (λ is. absurd (no_ack ((bytes_eq-Decides method (codes "ACK")).0 is)))
    (λ other. ap (λ b. b || is_cancel request || is_prack request) other
    ∙ (ap (λ b. b || is_prack request) no_cancel ∙ no_prack))

-- ---- the branch of a key

one_branch : (one two : Key) → is_same_branch one two ≡ true → branch_in one ≡ branch_in two
one_branch (key.Server branch by method) (key.Server other at named) is =
    (bytes_eq-Decides branch other).0
    (and-left (bytes_eq branch other) (bytes_eq by.host at.host)
    (and-left (bytes_eq branch other && bytes_eq by.host at.host) (by.port == at.port) is))
one_branch (key.Server branch by method) (key.Client other named) is = absurd (false≢true is)
one_branch (key.Client branch method) other is = absurd (false≢true is)

-- ---- the INVITE of an ACK

five_of : (a b c d e : Bool) → (a && b && c && d && e) ≡ true
    → (a ≡ true) × (b ≡ true) × (c ≡ true) × (d ≡ true) × (e ≡ true)
five_of true true true true true all = (refl, refl, refl, refl, refl)
five_of true true true true false all = absurd cc
five_of true true true false e all = absurd cc
five_of true true false d e all = absurd cc
five_of true false c d e all = absurd cc
five_of false b c d e all = absurd cc

-- a 2xx is no 100
not_100 : (status : ℕ) → is_success status ≡ true → (status == 100) ≡ false
not_100 status is =
    by_bool (status == 100)
    (λ hundred. absurd (false≢true (sym (ap is_success (equal status 100 hundred)) ∙ is)))
    (λ other. other)

-- the tag of the answers to a request
own_tag : (b : Bool) (tag made to : List ℕ) → tag ≡ (if b then made else to)
    → (if b then tag else to) ≡ tag
own_tag true tag made to is = refl
own_tag false tag made to is = sym is

module _ (config : Config) (rounds : List Round) (invite : Message) where
  no_other : is_invite invite ≡ true → (is_prack invite || is_cancel invite) ≡ true → ⊥
  no_other is other =
      let method = (bytes_eq-Decides invite.cseq.method (codes "INVITE")).0 is in
      false≢true (sym (ap (λ m. bytes_eq m (codes "PRACK") || bytes_eq m (codes "CANCEL")) method)
      ∙ other)

  abbrev IsNone : ℕ → Type 0
  IsNone status = is_success status ≡ true → ⊥

  -- the agent gives no 2xx to an INVITE by itself
  none_itself : (status : ℕ) → is_invite invite ≡ true
      → AnswersItself config rounds invite status → IsNone status
  none_itself status is (Proceeds same) = subst IsNone (sym same) (λ success. absurd cc)
  none_itself status is (Accepts same other) = λ success. no_other is other
  none_itself status is (BadExtension same why) = subst IsNone (sym same) (λ success. absurd cc)
  none_itself status is (NoDialog same why) = subst IsNone (sym same) (λ success. absurd cc)
  none_itself status is (Merged same why) = subst IsNone (sym same) (λ success. absurd cc)
  none_itself status is (Terminates same inviting why) =
      subst IsNone (sym same) (λ success. absurd cc)
  none_itself status is (OutOfOrder same why) = subst IsNone (sym same) (λ success. absurd cc)

  user_accepts : (status : ℕ) (response : Message) (id : Id) → is_invite invite ≡ true
      → is_success status ≡ true
      → (answered : IsAnswered config rounds invite status response) → Names id answered
      → (responds : RespondsTo config rounds invite status response)
      × (responds.respond.id ≡ id)
  user_accepts status response id is success (ByUser responds) names = (responds, names)
  user_accepts status response id is success (ByAgent why none) names =
      absurd (none_itself status is why success)

-- ---- what comes from the other side

module _ (configs : Side → Config) (fair : IsFair configs) (before : List Turn) (turn : Turn) where
  abbrev front : List Turn
  front = before ++ turn ∷ []

  abbrev other : Side
  other = peer turn.side

  abbrev here : Config
  here = configs turn.side

  abbrev rounds : List Round
  rounds = rounds_of turn.side front

  -- the ACK came up to the call
  pub record AckUp (call_id : List ℕ) (ack : Message) : Type 0 where
    pub up : AnUp
    pub kind_is : up.kind ≡ kind.Ack ack
    pub comes : ComesUp here rounds call_id up
    pub call_is : up.call_id ≡ call_id

  -- in these turns the other side said an ACK with this body, for this INVITE
  pub record IsAckSaid (call_id : List ℕ) (id : Id) (body : List ℕ) : Type 0 where
    pub ack : Message
    pub asks : is_request_message ack ≡ true
    pub up : AckUp call_id ack
    pub came : Came configs front turn.side ack
    pub said : IsSaid (configs other) (rounds_of other before) came.original
    pub is_request : is_request_message came.original ≡ true
    pub method_is : came.original.cseq.method ≡ codes "ACK"
    pub body_is : came.original.body ≡ body
    pub invite : IsForInvite here rounds call_id id came.original

  -- what a user is told of the requests and the ACKs of the other side
  abbrev Told : Notice → Type 0
  Told (notice.Request call_id id method local_tag remote_tag body) =
      SaidRequest configs before turn.side call_id method local_tag remote_tag body
  Told (notice.Ack call_id id body) = IsAckSaid call_id id body
  Told (notice.Prack call_id id rseq body) =
      SaidPrackOf configs before turn.side call_id rseq body
  Told (notice.Cancel call_id id) = SaidCancel configs before turn call_id id
  Told _ = Unit {0}

  others : (told : Notice) → IsOther told → Told told
  others (notice.Request call_id id method local_tag remote_tag body) is = absurd is
  others (notice.Response call_id id status local_tag remote_tag body) is = absurd is
  others (notice.Ack call_id id body) is = absurd is
  others (notice.Prack call_id id rseq body) is = absurd is
  others (notice.Timeout call_id id) is = tt
  others (notice.Failed call_id id) is = tt
  others (notice.NoAck call_id id) is = tt
  others (notice.NoPrack call_id id) is = tt
  others (notice.Cancel call_id id) is = absurd is
  others (notice.Ended call_id local_tag remote_tag) is = tt
  others (notice.Refused call_id place why) is = tt

  -- the other side had said it before the turn
  said_before : (message : Message) (comes : Came configs front turn.side message)
      → IsSaid (configs other) (rounds_of other before) comes.original
  said_before message comes =
      subst (λ rounds. IsSaid (configs other) rounds comes.original) (peer_rounds before turn)
      comes.said

  module _ (call_id : List ℕ) (request : Message) (comes : Came configs front turn.side request)
      (is : is_request_message request ≡ true) (its : request.call_id ≡ call_id) where
    abbrev same : IsSame request comes.original
    same = came_same (configs other).local request comes.original comes.same is

    user_said : (made : List ℕ) → (request.cseq.method ≡ codes "ACK" → ⊥)
        → is_cancel request ≡ false → is_prack request ≡ false
        → SaidRequest configs before turn.side call_id request.cseq.method
        (local_tag_of request made) (tag_of request.from) request.body
    user_said made no_ack no_cancel no_prack = record {
      original = comes.original;
      asked = user_asked (configs other) (rounds_of other before) (fair.calls other)
          comes.original (said_before request comes) comes.rules same.is_request
          (ap has_command same.method ∙ other_kind request no_ack no_cancel no_prack);
      sent = sent_before configs before turn (written comes.original) comes.sent;
      rules = comes.rules;
      call_id_is = same.call_id ∙ its;
      method_is = same.method;
      from = same.from;
      to = subst (λ tag. (tag ≡ local_tag_of request made) ⊎ (tag ≡ [])) (sym same.to)
          (local_or_none request made);
      body_is = same.body;
    }

    prack_said : (rack : RAck) → IsPrackOf request rack
        → SaidPrackOf configs before turn.side call_id rack.rseq request.body
    prack_said rack of =
        let method = same.method
        ∙ (bytes_eq-Decides request.cseq.method (codes "PRACK")).0 of.is_prack in
        let call = same.call_id ∙ its in
        let said = said_before request comes in
        record {
          original = comes.original;
          said = said;
          sent = sent_before configs before turn (written comes.original) comes.sent;
          rules = comes.rules;
          is_request = same.is_request;
          call_id_is = call;
          method_is = method;
          rack = rack;
          has_rack = same.rack ∙ of.has_rack;
          rseq_is = refl;
          body_is = same.body;
          by = user_pracked (configs other) (rounds_of other before) (fair.calls other)
              comes.original said comes.rules same.is_request method;
        }

  -- ---- one call

  -- a request that comes up is no ACK
  abbrev CameSo : Message → Type 0
  CameSo message =
      Came configs front turn.side message × (message.cseq.method ≡ codes "ACK" → ⊥)

  abbrev Given : Arrival → Message → Type 0
  Given = AnswersTo here rounds CameSo

  module _ (call_id : List ℕ) where
    abbrev IsCall : List ℕ → Type 0
    IsCall of = of ≡ call_id

    abbrev Brought : Arrival → Type 0
    Brought = CameTo here rounds CameSo call_id

    abbrev AckCame : Message → Type 0
    AckCame ack = Came configs front turn.side ack × (ack.cseq.method ≡ codes "ACK")
        × (is_request_message ack ≡ true) × AckUp call_id ack

    -- the 2xx that was given to an INVITE that awaits its ACK
    abbrev Accepted : HeldRequest → Type 0
    Accepted held = (response : Message) × IsSuccessTo Brought Given (arrived held) response

    accepted : (held : HeldRequest) (o : Option Success)
        → IfSome o (λ success. IsSuccessTo Brought Given (arrived held) success.response)
        → option_map_or (λ success. is_none success.over) o false ≡ true → Accepted held
    accepted held None fits is = absurd (false≢true is)
    accepted held (Some success) fits is = (success.response, fits)

    good : (held : HeldRequest) → Brought (arrived held)
        → IsTrue (has_good_tag (held.request.to).parameters)
    good held came =
        let asked : Came configs front turn.side held.request = (came.came).0 in
        let alike : IsAlike held.request asked.original =
        subst (λ (m : Message). IsAlike m asked.original) (sym asked.same)
        (came_alike (configs other).local asked.original) in
        subst (λ (party : Party). IsTrue (has_good_tag party.parameters)) (sym alike.to)
        asked.rules.to.tag

    -- its To tag
    success_tag : (held : HeldRequest) (response : Message) → Brought (arrived held)
        → IsSuccessTo Brought Given (arrived held) response → tag_of response.to ≡ held.tag
    success_tag held response came success =
        ap tag_of (success.to ∙ ap (λ b. if b then held.request.to
        else tagged held.request.to held.tag) (not_100 success.status success.success))
        ∙ (to_tag held.request.to held.tag (good held came)
        ∙ own_tag (length (tag_of held.request.to) == 0) held.tag came.made
        (tag_of held.request.to) came.tag_is)

    for_invite : (ack : Message) (held : HeldRequest)
        → Acknowledges IsCall Brought AckCame Given ack held
        → IsForInvite here rounds call_id held.id ack
    for_invite ack held acks =
        let came = acks.keeps.came in
        let parts = five_of (is_invite held.request)
        (option_map_or (λ (success : Success). is_none success.over) held.success false)
        (str_eq_ignore_ascii_case (tag_of ack.to) held.tag)
        (str_eq_ignore_ascii_case (tag_of ack.from) (tag_of held.request.from))
        (ack.cseq.number == held.request.cseq.number) acks.awaits in
        let success = accepted held held.success acks.keeps.success parts.1 in
        let answer = success.1.given success.1.status success.1.status_is in
        let user = user_accepts here rounds held.request success.1.status success.0 held.id
        parts.0 success.1.success answer.answered answer.names in record {
          invite = held.request;
          up = came.up;
          came = came.handed;
          id_is = came.id_is;
          call_id_is = came.call_id_is;
          is_invite = parts.0;
          number = equal ack.cseq.number held.request.cseq.number parts.4;
          response = success.0;
          copies = answer.copies;
          status = success.1.status;
          success = success.1.success;
          answered = user.0;
          names = user.1;
          dialog =
              let to = same_lower (tag_of ack.to) held.tag parts.2
              ∙ ap str_to_ascii_lowercase (sym (success_tag held success.0 came success.1)) in
              let from = same_lower (tag_of ack.from) (tag_of held.request.from) parts.3
              ∙ ap (λ (party : Party). str_to_ascii_lowercase (tag_of party))
              (sym answer.copies.from) in
              (λ i. record { local = to i; remote = from i });
        }

    ack_said : (ack : Message) (held : HeldRequest)
        → Acknowledges IsCall Brought AckCame Given ack held
        → IsAckSaid call_id held.id ack.body
    ack_said ack held acks =
        let comes = (acks.came).0 in
        let same = came_same (configs other).local ack comes.original comes.same (acks.came).2 in
        let invite = for_invite ack held acks in
        record {
          ack = ack;
          asks = (acks.came).2;
          up = (acks.came).3;
          came = comes;
          said = said_before ack comes;
          is_request = same.is_request;
          method_is = same.method ∙ (acks.came).1;
          body_is = same.body;
          invite = record {
            invite = invite.invite;
            up = invite.up;
            came = invite.came;
            id_is = invite.id_is;
            call_id_is = invite.call_id_is;
            is_invite = invite.is_invite;
            number = same.number ∙ invite.number;
            response = invite.response;
            copies = invite.copies;
            status = invite.status;
            success = invite.success;
            answered = invite.answered;
            names = invite.names;
            dialog = (λ i. dialog_id_of_tags (same.to i) (same.from i)) ∙ invite.dialog;
          };
        }

    -- ---- a CANCEL

    -- it and the INVITE for which it came have one branch
    branches : (invite cancel : Arrival) → (came : Brought invite)
        → (cancels : Cancels Brought cancel invite)
        → lower (top_branch invite.request) ≡ lower (top_branch cancel.request)
    branches invite cancel came cancels =
        let brought = cancels.brought in
        let first : (arrival : Arrival) → (brought : Brought arrival)
        → branch_in (brought.up).key ≡ lower (top_branch arrival.request) = λ arrival brought.
        (request_first here rounds fair.transactions (fair.calls turn.side)
        arrival.request.call_id brought.up (brought.handed).comes arrival.request
        (brought.handed).reply_to (brought.handed).kind_is).branch in
        sym (first invite came)
        ∙ (sym (one_branch (brought.up).key (came.up).key
        ((λ i. is_same_branch (brought.key_is i) (came.key_is i)) ∙ cancels.branch_is))
        ∙ first cancel brought)

    -- that INVITE is the one that the other side's user had sent under the id that his command
    -- names
    invite_named : (invite cancel : Arrival) → (came : Brought invite)
        → (cancels : Cancels Brought cancel invite)
        → (asked : UserCancelled (configs other) (rounds_of other before)
        (((cancels.brought).came).0).original)
        → AreCounted (configs other) (rounds_of other before)
        → invite.request ≡ come_from (configs other).local asked.invite
    invite_named invite cancel came cancels asked few =
        let there = configs other in
        let brought = cancels.brought in
        let comes = (came.came).0 in
        let cancel_comes = (brought.came).0 in
        let alike = came_branch there.local invite.request comes.original comes.same
        came.is_request in
        let cancel_alike = came_branch there.local cancel.request cancel_comes.original
        cancel_comes.same brought.is_request in
        let inviting : invite.request.cseq.method ≡ codes "INVITE" =
        (bytes_eq-Decides invite.request.cseq.method (codes "INVITE")).0 cancels.is_invite in
        let same : comes.original ≡ asked.invite =
        one_request there (rounds_of other before) (fair.calls other) few comes.original
        asked.invite
        (said_starts there (rounds_of other before) (fair.calls other) comes.original
        (said_before invite.request comes) comes.rules alike.asks
        (λ ack. (came.came).1 (alike.method ∙ ack)))
        (record {
          id = (asked.command).id;
          key = asked.invite_key;
          at = asked.invite_call;
          to = asked.invite_to;
          says = asked.sent;
        })
        (λ is. invite_none (sym inviting ∙ (alike.method ∙ is)))
        (λ is. invite_none (sym asked.is_invite ∙ is))
        (ap lower (sym alike.branch) ∙ (branches invite cancel came cancels
        ∙ (ap lower cancel_alike.branch ∙ (ap (λ m. lower (top_branch m)) asked.cancels
        ∙ ap lower (top_alone (asked.invite).vias))))) in
        comes.same ∙ ap (come_from there.local) same

    cancel_said : (invite cancel : Arrival) → Brought invite → Cancels Brought cancel invite
        → SaidCancel configs before turn call_id invite.id
    cancel_said invite cancel came cancels =
        let brought = cancels.brought in
        let comes = (brought.came).0 in
        let same = came_same (configs other).local cancel.request comes.original comes.same
        brought.is_request in
        let method : comes.original.cseq.method ≡ codes "CANCEL" = same.method
        ∙ (bytes_eq-Decides cancel.request.cseq.method (codes "CANCEL")).0 cancels.is_cancel in
        let asked = user_cancelled (configs other) (rounds_of other before) (fair.calls other)
        comes.original (said_before cancel.request comes) comes.rules same.is_request method in
        record {
          original = comes.original;
          asked = asked;
          sent = sent_before configs before turn (written comes.original) comes.sent;
          rules = comes.rules;
          method_is = method;
          call_id_is = same.call_id ∙ brought.call_id_is;
          invite = invite.request;
          is_invite = cancels.is_invite;
          cancelled = record {
            up = came.up;
            came = came.handed;
            cancel = cancel.request;
            cancel_up = brought.up;
            cancel_came = brought.handed;
            is_cancel = cancels.is_cancel;
            call_id_is = brought.call_id_is ∙ sym came.call_id_is;
            branch_is = (λ i. is_same_branch (brought.key_is i) (came.key_is i))
                ∙ cancels.branch_is;
          };
          same = comes.same;
          id_is = came.id_is;
          invite_is = invite_named invite cancel came cancels asked;
        }

    served : AllowsServed IsCall Brought AckCame Given (OutTells Told)
    served = record {
      told = others;
      request = λ of arrival its came none other.
          subst (λ tag. SaidRequest configs before turn.side of arrival.request.cseq.method tag
          (tag_of arrival.request.from) arrival.request.body) (sym came.tag_is)
          (user_said of arrival.request (came.came).0 came.is_request
          (came.call_id_is ∙ sym its) came.made (came.came).1 none other);
      prack = λ of arrival invite rack its came is. prack_said of arrival.request (came.came).0
          came.is_request (came.call_id_is ∙ sym its) rack is;
      ack = λ of ack held its acks.
          subst (λ c. IsAckSaid c held.id ack.body) (sym its) (ack_said ack held acks);
      cancel = λ of invite cancel its came cancels.
          subst (λ c. SaidCancel configs before turn c invite.id) (sym its)
          (cancel_said invite cancel came cancels);
      answer = λ invite {message} given. tt;
    }

    -- ---- what the call is given

    abbrev inputs : List (Timed CallItem)
    inputs = call_inputs_of here rounds call_id

    abbrev Tells : List CallOut → Option CallItem → Type 0
    Tells = InputTells IsCall Brought AckCame Given (own here rounds CameSo call_id) Told served
        others (λ call_id id status local_tag remote_tag body. tt) (calls_of here)

    kind_said : (now : ℕ) (event : Id) (up : AnUp) (k : UpKind) → up.kind ≡ k
        → Contains inputs (given_at now (event, Up up))
        → KindCame (Came configs front turn.side) k → HasMethod k → IsItemOf call_id (Up up)
        → KindBrought IsCall Brought AckCame (name_of here.seed event 0) up k
    kind_said now event up (kind.Request request reply_to) is among came no_ack its = (
      its.0,
      request_came here rounds CameSo call_id now event (name_of here.seed event 0) up request
          reply_to is among (came.0, no_ack) came.1
          (subst (IsKindOf call_id) is its.1),
    )
    kind_said now event up (kind.Ack ack) is among came method its = (
      its.0,
      (
        came,
        method.0,
        method.1,
        record { up = up; kind_is = is; comes = (now, event, among); call_is = its.0 },
      ),
    )
    kind_said now event up (kind.Response response) is among came method its = tt
    kind_said now event up kind.Timeout is among came method its = tt
    kind_said now event up kind.Failed is among came method its = tt

    command_said : (earlier : List (Timed CallItem)) (now : ℕ) (event : Id)
        (command : UserCommand) (later : List (Timed CallItem))
        → inputs ≡ earlier ++ given_at now (event, User command) ∷ later
        → Tells (given_after (calls_of here) earlier (given_at now (event, User command)))
        (Some (event, User command))
    command_said earlier now event (user.Invite invite) later are = tt
    command_said earlier now event (user.Plain plain) later are = tt
    command_said earlier now event (user.Request request) later are = tt
    command_said earlier now event (user.Respond respond) later are =
        user_answers here rounds CameSo call_id earlier now event respond later are
    command_said earlier now event (user.Ack ack) later are = tt
    command_said earlier now event (user.Prack prack) later are = tt
    command_said earlier now event (user.Cancel cancel) later are = tt
    command_said earlier now event (user.AbandonRequest abandon) later are = tt
    command_said earlier now event (user.AbandonDialog abandon) later are = tt

    input_said : (earlier : List (Timed CallItem)) (now : ℕ) (input : Option CallItem)
        (later : List (Timed CallItem))
        → inputs ≡ earlier ++ record { moment = now; input = input } ∷ later
        → InputHeard configs front turn.side call_id input
        → Tells (given_after (calls_of here) earlier (record { moment = now; input = input }))
        input
    input_said earlier now None later are heard = tt
    input_said earlier now (Some (event, Up up)) later are heard =
        kind_said now event up up.kind refl
        (among_after earlier (given_at now (event, Up up)) later are) heard.came heard.method
        heard.own
    input_said earlier now (Some (event, User command)) later are heard =
        command_said earlier now event command later are

  notice_said : Carried configs front → CallsKeepRules configs front → (told : Notice)
      → Contains (given_by configs front turn.side) (output.Notice told) → Told told
  notice_said carried keep told among =
      let call_id = call_of_notice told in
      notice_given Told here rounds (fair.calls turn.side) told
      (all_tell (IsCall call_id) (Brought call_id) (AckCame call_id) Given
      (own here rounds CameSo call_id) Told (served call_id) others
      (λ call_id id status local_tag remote_tag body. tt) (calls_of here) call_id None
      (inputs call_id)
      (along (Tells call_id) (calls_of here) (inputs call_id)
      (λ earlier timed later are. input_said call_id earlier timed.moment timed.input later are
      (each_of (λ timed. InputHeard configs front turn.side call_id timed.input)
      (inputs call_id) timed
      (all_heard configs front turn.side fair carried keep call_id)
      (among_after earlier timed later are))) [] (inputs call_id) refl) tt) among

-- ---- in the turns before

module _ (configs : Side → Config) (fair : IsFair configs) (turns : List Turn)
    (carried : Carried configs turns) (keep : CallsKeepRules configs turns) where
  pub requests_said : RequestsToldWereAskedFor configs turns
  requests_said before after turn same call_id id method local_tag remote_tag body among =
      notice_said configs fair before turn
      (carried_to configs turns before after turn same carried)
      (keeps_to configs turns before after turn same keep)
      (notice.Request call_id id method local_tag remote_tag body) among

  pub acks_said : (before after : List Turn) (turn : Turn) → turns ≡ before ++ turn ∷ after
      → (call_id : List ℕ) (id : Id) (body : List ℕ)
      → Contains (given_by configs (before ++ turn ∷ []) turn.side)
      (output.Notice (notice.Ack call_id id body))
      → IsAckSaid configs fair before turn call_id id body
  acks_said before after turn same call_id id body among =
      notice_said configs fair before turn
      (carried_to configs turns before after turn same carried)
      (keeps_to configs turns before after turn same keep) (notice.Ack call_id id body) among

  pub pracks_said : PracksToldWereSaid configs turns
  pracks_said before after turn same call_id id rseq body among =
      notice_said configs fair before turn
      (carried_to configs turns before after turn same carried)
      (keeps_to configs turns before after turn same keep) (notice.Prack call_id id rseq body)
      among

  pub cancels_said : CancelsToldWereAskedFor configs turns
  cancels_said before after turn same call_id id among =
      notice_said configs fair before turn
      (carried_to configs turns before after turn same carried)
      (keeps_to configs turns before after turn same keep) (notice.Cancel call_id id) among
