-- Each reliable provisional response that a side said, its user gave to a request that came up. One
-- with an RSeq above 1 the other side said after this side said the PRACK of the response of RSeq 1
-- to the same INVITE.
use Rattle.std.proofs.Common.{◌≡◌, ℕ, ◌<◌, Bool, true, false, ◌&&◌, not, ◌==◌, List, [], refl, sym, ap, ◌∙◌, subst}
use Rattle.std.specs.Prelude.{IfSome, IsTrue, Option, None, Some, codes, if◌then◌else◌}
use Rattle.std.specs.List.{AllByRecursion}
use Rattle.sip_grammar.specs.Tag.{has_good_tag}
use Rattle.sip_message.specs.Message.{is_request_message}
use Rattle.sip_message.specs.Party.{tag_of}
use Rattle.sip_message.specs.Source.{stamped}
use Rattle.sip_message.specs.Written.{written}
use Rattle.sip_message.specs.declared.addr.Addr.{Addr}
use Rattle.sip_message.specs.declared.cseq.CSeq.{CSeq}
use Rattle.sip_message.specs.declared.id.Id.{Id}
use Rattle.sip_message.specs.declared.message.Message.{Message}
use Rattle.sip_message.specs.declared.party.Party.{Party}
use Rattle.keyed_machine.specs.Laws.{EachKeyAlone}
use Rattle.keyed_machine.specs.Machine.{tick_at}
use Rattle.sip_transactions.specs.declared.input.Command.TheVariants as order
use Rattle.sip_transactions.specs.declared.output.UpKind.{UpKind}
use Rattle.sip_transactions.specs.declared.output.UpKind.TheVariants as kind
use Rattle.sip_user.specs.OwnCall.{IsKindOf}
use Rattle.sip_held_dialogs.specs.Requests.{dialog_id_of_tags, has_to_tag, is_final, local_tag_of, requires_100rel}
use Rattle.sip_user.specs.declared.item.CallOut.{CallOut}
use Rattle.sip_user.specs.declared.item.CallOut.TheVariants as call_out
use Rattle.sip_user.specs.declared.item.Item.TheVariants.{Up, User}
use Rattle.sip_clients.specs.Clients.{status_of}
use Rattle.sip_clients.specs.Provisionals.{provisional_number}
use Rattle.sip_calls.specs.Call.{CallItem, call_machine}
use Rattle.sip_calls.specs.CallShard.{call_cmp}
use Rattle.sip_calls.specs.OwnCall.{IsInputOf}
use Rattle.sip_round.specs.declared.config.Config.{Config}
use Rattle.sip_round.specs.declared.round.Round.{Round}
use Rattle.sip_round.specs.Answers.{calls_of, past_of}
use Rattle.sip_round.specs.Laws.{call_inputs_of, said_of_call}
use Rattle.sip_round.proofs.RequestsDiffer.{brought_rise}
use Rattle.sip_round.proofs.Said.{call_alone}
use Rattle.sip_conversation.specs.Conversation.{AgentSends, Side, Turn, peer, rounds_of}
use Rattle.sip_conversation.specs.Messages.{CallSays, ComesUnchanged, IsSaid, come_from}
use Rattle.sip_conversation.specs.Messages.IsSaid.{Acknowledges, Asked, Direct, Trying}
use Rattle.sip_conversation.specs.Provisionals.{SaidPrack}
use Rattle.sip_conversation.proofs.AckTexts.{no_ack}
use Rattle.sip_conversation.proofs.Among.{all_both, each_of}
use Rattle.sip_conversation.proofs.OneCallId.{out_replies}
use Rattle.sip_conversation.proofs.OneTransaction.{KindCame}
use Rattle.sip_conversation.proofs.Origins.{TimedComes, inputs_come}
use Rattle.sip_conversation.proofs.PracksCame.{GivenTo, OutGiven, no_rseq}
use Rattle.sip_conversation.proofs.GivenReliably.{CameUp, InputBrings, IsAmongGiven, KindBrings, all_came}
use Rattle.sip_conversation.proofs.ToTags.{to_tag}
use Rattle.sip_conversation.proofs.ToldCallId.{peer_peer}
use Rattle.sip_conversation.proofs.Unstamped.{no_status}
use Rattle.sip_conversation.proofs.Ups.{ItemCame, TimedCame, UpCame}

-- ---- its RSeq

pub number_is : (status rseq : ℕ) (response : Message)
    → provisional_number (Some status) response ≡ Some rseq → response.rseq ≡ Some rseq
number_is status rseq response is =
    by_case (is_final status) (not (status == 100) && has_to_tag response)
    (requires_100rel response) is
  where
    by_case : (final fits required : Bool) → (if final then None
        else if fits then (if required then response.rseq else None) else None) ≡ Some rseq
        → response.rseq ≡ Some rseq
    by_case true fits required is = absurd cc
    by_case false true true is = is
    by_case false true false is = absurd cc
    by_case false false required is = absurd cc

-- ---- a PRACK as it came, and as it was said

pub record IsAlike (came said : Message) : Type 0 where
  pub cseq : came.cseq ≡ said.cseq
  pub is_request : is_request_message came ≡ is_request_message said
  pub rack : came.rack ≡ said.rack
  pub call_id : came.call_id ≡ said.call_id
  pub from : came.from ≡ said.from
  pub to : came.to ≡ said.to

stamped_alike : (source : Addr) (said : Message) → IsAlike (stamped said source) said
unfolding stamped
stamped_alike source said =
    record {
      cseq = refl;
      is_request = refl;
      rack = refl;
      call_id = refl;
      from = refl;
      to = refl;
    }

pub came_alike : (source : Addr) (said : Message) → IsAlike (come_from source said) said
came_alike source said = by_request (is_request_message said)
  where
    by_request : (b : Bool) → IsAlike (if b then stamped said source else said) said
    by_request true = stamped_alike source said
    by_request false =
        record {
          cseq = refl;
          is_request = refl;
          rack = refl;
          call_id = refl;
          from = refl;
          to = refl;
        }

-- ---- dialog IDs

turned : (one other three four : List ℕ)
    → dialog_id_of_tags one other ≡ dialog_id_of_tags three four
    → dialog_id_of_tags other one ≡ dialog_id_of_tags four three
turned one other three four same =
    (λ i. record { local = (same i).remote; remote = (same i).local })

-- ---- what a call is given

module _ (Came : Message → Type 0) where
  -- the request came, and has this Call-ID
  abbrev pub OfCall : List ℕ → Message → Type 0
  OfCall call_id message =
      Came message × (message.call_id ≡ call_id) × (is_request_message message ≡ true)

  kind_brought : (call_id : List ℕ) (k : UpKind) → KindCame Came k → IsKindOf call_id k
      → KindBrings (OfCall call_id) k
  kind_brought call_id (kind.Request request reply_to) came own =
      (came.0, own, came.1)
  kind_brought call_id (kind.Ack ack) came own = tt
  kind_brought call_id (kind.Response response) came own = tt
  kind_brought call_id kind.Timeout came own = tt
  kind_brought call_id kind.Failed came own = tt

  pub input_brought : (call_id : List ℕ) (input : Option CallItem)
      → IfSome input (λ i. ItemCame (UpCame Came) i.1) → IsInputOf call_id input
      → InputBrings (OfCall call_id) input
  input_brought call_id None came own = tt
  input_brought call_id (Some (event, Up up)) came own =
      kind_brought call_id up.kind came own.1
  input_brought call_id (Some (event, User command)) came own = tt

  module _ (config : Config) (rounds : List Round) where
    -- the user gave this response with this RSeq, in this call, to the request of this id
    abbrev pub GivenIn : List ℕ → Id → ℕ → Message → Type 0
    GivenIn call_id id rseq response =
        let inputs = call_inputs_of config rounds call_id in
        GivenTo (CameUp (OfCall call_id) (calls_of config) inputs)
        (IsAmongGiven (OfCall call_id) (calls_of config) inputs) id rseq response

    -- so is each that a call asks to send
    abbrev OutGivenIn : List ℕ → CallOut → Type 0
    OutGivenIn call_id out =
        let inputs = call_inputs_of config rounds call_id in
        OutGiven (CameUp (OfCall call_id) (calls_of config) inputs)
        (IsAmongGiven (OfCall call_id) (calls_of config) inputs) out

    -- in some call its user gave this response with this RSeq
    abbrev pub GivenInCall : ℕ → Message → Type 0
    GivenInCall rseq response = (call_id : List ℕ) × (id : Id) × GivenIn call_id id rseq response

    module _ (alone : EachKeyAlone call_cmp (call_machine (calls_of config)) tick_at)
        (came : (call_id : List ℕ)
        → AllByRecursion (TimedCame (UpCame Came)) (call_inputs_of config rounds call_id)) where
      out_given : (out : CallOut) → (says : CallSays config rounds out) → OutGivenIn says.0 out
      out_given out says =
          let call_id = says.0 in
          let inputs = call_inputs_of config rounds call_id in
          each_of (OutGivenIn call_id) (said_of_call config rounds call_id) out
          (subst (AllByRecursion (OutGivenIn call_id))
          (sym (call_alone (calls_of config) alone [] (past_of config rounds).calls call_id))
          (all_came (OfCall call_id) (calls_of config) inputs call_id
          (brought_rise config call_id rounds)
          (all_both {P = TimedCame (UpCame Came)} {Q = TimedComes config rounds call_id}
          {R = λ timed. InputBrings (OfCall call_id) timed.input}
          (λ timed has own. input_brought call_id timed.input has own.0) inputs (came call_id)
          (inputs_come config rounds call_id)))) says.1

      pub given_in_call : (response : Message) → IsSaid config rounds response → (status rseq : ℕ)
          → status_of response.start ≡ Some status
          → provisional_number (Some status) response ≡ Some rseq → GivenInCall rseq response
      given_in_call response (Asked id (order.Start key call_id message to) says same) status rseq is
          number =
          absurd (no_status response.start status (ap is_request_message (sym same)
          ∙ out_replies config alone rounds
          (call_out.Command id (order.Start key call_id message to)) says) is)
      given_in_call response (Asked id (order.Answer key message) says same) status rseq is number = (
        says.0,
        id,
        subst (GivenIn says.0 id rseq) same
            (out_given (call_out.Command id (order.Answer key message)) says rseq
            (ap (λ (m : Message). m.rseq) same ∙ number_is status rseq response number)),
      )
      given_in_call response (Asked id (order.Abandon key) says same) status rseq is number =
          absurd same
      given_in_call response (Direct to says) status rseq is number =
          let text = out_replies config alone rounds (call_out.Direct to (written response)) says in
          absurd (no_ack response text.0 status is (text.2).request (text.2).method text.1)
      given_in_call response (Trying key id request reply_to given asks same) status rseq is number =
          absurd (no_rseq rseq (sym (ap (λ (m : Message). m.rseq) same)
          ∙ number_is status rseq response number))
      given_in_call response (Acknowledges key id other call_id invite answer to reply_to given heard
          failure same) status rseq is number =
          absurd (no_rseq rseq (sym (ap (λ (m : Message). m.rseq) same)
          ∙ number_is status rseq response number))

-- ---- what this side said

module _ (configs : Side → Config) (before : List Turn) (side : Side)
    (alone : EachKeyAlone call_cmp (call_machine (calls_of (configs (peer side)))) tick_at)
    (came : (call_id : List ℕ)
    → AllByRecursion (TimedCame (UpCame (ComesUnchanged configs before (peer side))))
    (call_inputs_of (configs (peer side)) (rounds_of (peer side) before) call_id)) where
  pub prack_said : (response : Message)
      → IsSaid (configs (peer side)) (rounds_of (peer side) before) response
      → (status rseq : ℕ) → status_of response.start ≡ Some status
      → provisional_number (Some status) response ≡ Some rseq → 1 < rseq
      → SaidPrack (configs side) (rounds_of side before) response
  prack_said response said status rseq is number more =
      let Came = ComesUnchanged configs before (peer side) in
      let so = given_in_call Came (configs (peer side)) (rounds_of (peer side) before) alone came
      response said status rseq is number in
      let answer : GivenIn Came (configs (peer side)) (rounds_of (peer side) before) so.0 so.1 rseq
      response = so.2 in
      let invite = answer.invite in
      let its = answer.pracked more in
      let prack = its.prack.request in
      let comes : Came prack = ((its.brought).brought).0 in
      let alike : IsAlike prack comes.original =
      subst (λ (m : Message). IsAlike m comes.original) (sym comes.same)
      (came_alike (configs (peer (peer side))).local comes.original) in
      let asked : Came invite.request = ((answer.came).brought).0 in
      let asked_alike : IsAlike invite.request asked.original =
      subst (λ (m : Message). IsAlike m asked.original) (sym asked.same)
      (came_alike (configs (peer (peer side))).local asked.original) in
      let good : IsTrue (has_good_tag (invite.request.to).parameters) =
      subst (λ (party : Party). IsTrue (has_good_tag party.parameters)) (sym asked_alike.to)
      asked.rules.to.tag in
      let tag : tag_of response.to ≡ local_tag_of invite.request invite.tag =
      ap tag_of answer.to ∙ to_tag invite.request.to invite.tag good in
      let name : dialog_id_of_tags (tag_of prack.to) (tag_of prack.from)
      ≡ dialog_id_of_tags (tag_of response.to) (tag_of response.from) =
      its.name ∙ sym (λ i. dialog_id_of_tags (tag i) (tag_of (answer.copies.from i))) in record {
        prack = comes.original;
        said = subst (λ p. IsSaid (configs p) (rounds_of p before) comes.original)
            (peer_peer side) comes.said;
        sent = subst (λ p. AgentSends (configs p) (rounds_of p before) (written comes.original))
            (peer_peer side) comes.sent;
        is_request = sym alike.is_request ∙ ((its.brought).brought).2;
        method = sym (ap (λ (cseq : CSeq). cseq.method) alike.cseq) ∙ its.method;
        rack = sym alike.rack ∙ (its.rack ∙ ap (λ (cseq : CSeq).
            Some record { rseq = 1; cseq = cseq.number; method = codes "INVITE" })
            (sym answer.copies.cseq));
        call_id = sym alike.call_id ∙ (((its.brought).brought).1
            ∙ (sym ((answer.came).brought).1 ∙ sym answer.copies.call_id));
        dialog = (λ i. dialog_id_of_tags (tag_of (sym alike.from i)) (tag_of (sym alike.to i)))
            ∙ turned (tag_of prack.to) (tag_of prack.from) (tag_of response.to)
            (tag_of response.from) name;
      }
