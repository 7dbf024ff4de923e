-- A PRACK that a side says follows the reliable provisional response that it acknowledges, of which
-- the user was told in its dialog.
use Rattle.std.proofs.Common.{◌≡◌, ℕ, true, List, [], ◌∷◌, ◌++◌, refl, sym, ap, ◌∙◌, subst, append-nil}
use Rattle.std.specs.Prelude.{Contains, IsTrue, None, Some, codes}
use Rattle.std.specs.List.{AllByRecursion}
use Rattle.std.specs.Str.{bytes_eq}
use Rattle.std.proofs.lemmas.Bool.{false≢true}
use Rattle.sip_text.specs.Token.{is_token, is_token_byte}
use Rattle.sip_message.specs.Message.{is_request_message}
use Rattle.sip_message.specs.Party.{tag_of}
use Rattle.sip_message.specs.Written.{written}
use Rattle.sip_message.specs.declared.addr.Addr.{Addr}
use Rattle.sip_message.specs.declared.cseq.CSeq.{CSeq}
use Rattle.sip_message.specs.declared.id.Id.{Id}
use Rattle.sip_message.specs.declared.key.Key.{Key}
use Rattle.sip_message.specs.declared.message.Message.{Message}
use Rattle.sip_message.specs.declared.rack.RAck.{RAck}
use Rattle.keyed_machine.specs.Laws.{EachKeyAlone}
use Rattle.keyed_machine.specs.Machine.{Timed, outputs_from, tick_at}
use Rattle.sip_transactions.specs.declared.input.Command.TheVariants as order
use Rattle.sip_held_dialogs.specs.Requests.{dialog_id_of_tags}
use Rattle.sip_held_dialogs.specs.declared.held_dialog.DialogId.{DialogId}
use Rattle.sip_user.specs.declared.item.CallOut.{CallOut}
use Rattle.sip_user.specs.declared.item.CallOut.TheVariants as call_out
use Rattle.sip_user.specs.declared.notice.Notice.TheVariants as notice
use Rattle.sip_clients.specs.Clients.{status_of}
use Rattle.sip_clients.specs.Provisionals.{is_response, provisional_number}
use Rattle.sip_calls.specs.Call.{CallItem, call_machine, call_step}
use Rattle.sip_calls.specs.CallShard.{call_cmp}
use Rattle.sip_calls.specs.declared.calls.Calls.{Calls}
use Rattle.sip_round.specs.declared.config.Config.{Config}
use Rattle.sip_round.specs.declared.output.Output.TheVariants as output
use Rattle.sip_round.specs.declared.round.Round.{Round}
use Rattle.sip_round.specs.Answers.{calls_of, past_of}
use Rattle.sip_round.specs.Laws.{call_inputs_of, said_of_call}
use Rattle.sip_round.proofs.CallEvents.{events_differ}
use Rattle.sip_calls.specs.Provisionals.{EventsDiffer}
use Rattle.sip_conversation.specs.Conversation.{Carried, Side, Turn, given_by, rounds_of}
use Rattle.sip_conversation.specs.Messages.{CallsKeepRules, IsSaid}
use Rattle.sip_conversation.specs.Messages.IsSaid.{Acknowledges, Asked, Direct, Trying}
use Rattle.sip_conversation.specs.Pracks.{FollowsResponse, PracksFollowResponses, FollowsAt}
use Rattle.sip_conversation.specs.Provisionals.{SaidReliably, told_reliably}
use Rattle.sip_conversation.specs.Replies.{AreCounted, IsStartedFor}
use Rattle.sip_conversation.proofs.AckTexts.{is_ack}
use Rattle.sip_conversation.proofs.Among.{each_of, none_among}
use Rattle.sip_conversation.proofs.CallBranches.{AnyCancel, OutIsOwn, all_own, any_inputs}
use Rattle.sip_conversation.proofs.Fronts.{carried_before, carried_to, keeps_before, keeps_to}
use Rattle.sip_conversation.proofs.OneCallId.{out_replies}
use Rattle.sip_conversation.proofs.Origins.{IsOrigin, inputs_come}
use Rattle.sip_conversation.proofs.OutsInOrder.{given_up_to, its, told_before, up_to, up_to_is}
use Rattle.sip_conversation.proofs.Provisionals.{IsReliablySo, said_reliably}
use Rattle.sip_conversation.proofs.HeardReplies.{invite_answered, has_come, of_up, same_outs, told_so, longer, of_first}
use Rattle.sip_conversation.proofs.RackedCalls.{HasRseq, IsTold, OutIsTold, WasTold, all_told, front_differ}
use Rattle.sip_conversation.proofs.RepliesSaid.{IsFair}
use Rattle.sip_conversation.proofs.ToldInLife.{told_in_life}

-- ---- messages

prack_token : IsTrue (is_token (codes "PRACK"))
unfolding is_token is_token_byte
prack_token = refl

no_ack : codes "ACK" ≡ codes "PRACK" → ⊥
no_ack same = false≢true (ap (λ m. bytes_eq m (codes "PRACK")) same)

-- ---- a call

module _ (config : Config) (rounds : List Round)
    (alone : EachKeyAlone call_cmp (call_machine (calls_of config)) tick_at) (call_id : List ℕ)
  where
    abbrev calls : Calls
    calls = calls_of config

    abbrev inputs : List (Timed CallItem)
    inputs = call_inputs_of config rounds call_id

    abbrev same_so : said_of_call config rounds call_id
        ≡ outputs_from (call_machine calls) call_id None inputs
    same_so = same_outs config rounds alone call_id

    -- what it starts with a RAck is a PRACK of a response in its dialog of which the user was told
    reported_in : (id : Id) (key : Key) (of : List ℕ) (prack : Message) (to : Addr)
        → Contains (said_of_call config rounds call_id)
        (call_out.Command id (order.Start key of prack to)) → (rack : RAck)
        → prack.rack ≡ Some rack
        → IsTold calls inputs (dialog_id_of_tags (tag_of prack.from) (tag_of prack.to)) rack
    reported_in id key of prack to among =
        each_of (OutIsTold calls inputs) (said_of_call config rounds call_id)
        (call_out.Command id (order.Start key of prack to))
        (subst (AllByRecursion (OutIsTold calls inputs)) (sym same_so)
        (all_told calls call_id inputs (events_differ config call_id rounds))) among

    -- at whichever of the call's inputs it starts it
    reported_by : (first later : List (Timed CallItem)) → inputs ≡ first ++ later → (id : Id)
        (key : Key) (of : List ℕ) (prack : Message) (to : Addr)
        → Contains (outputs_from (call_machine calls) call_id None first)
        (call_out.Command id (order.Start key of prack to)) → (rack : RAck)
        → prack.rack ≡ Some rack
        → IsTold calls first (dialog_id_of_tags (tag_of prack.from) (tag_of prack.to)) rack
    reported_by first later are id key of prack to among =
        each_of (OutIsTold calls first) (outputs_from (call_machine calls) call_id None first)
        (call_out.Command id (order.Start key of prack to))
        (all_told calls call_id first (front_differ first later
        (subst EventsDiffer are (events_differ config call_id rounds)))) among

    -- and has its Call-ID
    own_call : (id : Id) (key : Key) (of : List ℕ) (prack : Message) (to : Addr)
        → Contains (said_of_call config rounds call_id)
        (call_out.Command id (order.Start key of prack to)) → prack.call_id ≡ call_id
    own_call id key of prack to among =
        let IsOwn = OutIsOwn calls call_id (IsOrigin config rounds call_id) AnyCancel in
        (each_of IsOwn (said_of_call config rounds call_id)
        (call_out.Command id (order.Start key of prack to))
        (subst (AllByRecursion IsOwn) (sym same_so)
        (all_own calls call_id (IsOrigin config rounds call_id) AnyCancel None inputs
        (inputs_come config rounds call_id)
        (any_inputs calls call_id (IsOrigin config rounds call_id) None inputs) tt tt))
        among).own.call

-- ---- a turn

module _ (configs : Side → Config) (fair : IsFair configs) (before : List Turn) (turn : Turn)
    (carried : Carried configs before) (keep : CallsKeepRules configs before) where
  abbrev local_config : Config
  local_config = configs turn.side

  abbrev rounds_now : List Round
  rounds_now = rounds_of turn.side (before ++ turn ∷ [])

  -- the notice is of this call, and of such a response
  record IsTelling (call_id : List ℕ) (rack : RAck) (of : List ℕ) (id : Id) (status : ℕ)
      (local_tag remote_tag body : List ℕ) : Type 0 where
    pub of_is : of ≡ call_id
    pub said : SaidReliably configs before turn call_id rack.rseq status local_tag remote_tag body
    pub cseq : AreCounted local_config rounds_now
        → said.response.original.cseq.number ≡ rack.cseq

  module _ (call_id : List ℕ) (name : DialogId) (rack : RAck)
      (was : WasTold (calls_of local_config) (call_inputs_of local_config rounds_now call_id) name
      rack.rseq rack.cseq) where
    -- the other side said the response that comes up, to that INVITE
    pub record IsReplySaid (status : ℕ) : Type 0 where
      pub so : IsReliablySo configs fair before turn carried keep call_id was.response rack.rseq
          status
      pub cseq : AreCounted local_config rounds_now
          → so.said.response.original.cseq.number ≡ rack.cseq
      pub from : AreCounted local_config rounds_now
          → so.said.response.original.from ≡ was.client.request.from

    pub reply_said : Carried configs (before ++ turn ∷ [])
        → CallsKeepRules configs (before ++ turn ∷ []) → (status : ℕ)
        → status_of was.response.start ≡ Some status → IsReplySaid status
    reply_said carried_so keep_so status is =
        let response = was.response in
        let HasIt = HasRseq rack.rseq in
        let comes = has_come configs fair before turn call_id HasIt name rack.cseq was carried keep
        carried_so keep_so in
        let number = ap (λ o. provisional_number o response) was.status_is ∙ was.is in
        let started = subst (λ c. IsStartedFor local_config rounds_now c was.up.id response)
        (of_up configs fair before turn call_id HasIt name rack.cseq was) comes.started in
        let so = said_reliably configs fair before turn carried keep response comes.came rack.rseq
        number status is call_id was.up.id started in
        let reply = so.said.response in
        let begun = subst (IsStartedFor local_config rounds_now was.up.call_id was.up.id)
        (sym so.whole) comes.started in
        let own = invite_answered configs fair before turn call_id HasIt name rack.cseq was status
        (tag_of response.from) (tag_of response.to) response.body reply begun in
        record {
          so = so;
          cseq = λ few. ap (λ (c : CSeq). c.number)
              (reply.request.copies.cseq ∙ (own few).alike.cseq) ∙ was.number_is;
          from = λ few. reply.request.copies.from ∙ (own few).alike.from;
        }

    -- what tells of a response at that input is among these outputs
    follows : (outs : List CallOut)
        → ((out : CallOut) → is_response out ≡ true → Contains
        (call_step (calls_of local_config) (Some was.call) was.timed.input was.timed.moment).1 out
        → Contains outs out)
        → rack.method ≡ codes "INVITE" → Carried configs (before ++ turn ∷ [])
        → CallsKeepRules configs (before ++ turn ∷ [])
        → FollowsAt configs before turn call_id outs name rack
    follows outs at method carried_so keep_so =
        let HasIt = HasRseq rack.rseq in
        let one = told_so configs fair before turn call_id HasIt name rack.cseq was
        (IsTelling call_id rack)
        (λ status is. let reply = reply_said carried_so keep_so status is in
        record {
          of_is = of_up configs fair before turn call_id HasIt name rack.cseq was;
          said = reply.so.said;
          cseq = reply.cseq;
        }) in
        let out : CallOut = call_out.Notice
        (notice.Response one.of one.id one.status one.local_tag one.remote_tag one.body) in
        let lives = told_in_life (calls_of local_config)
        (call_inputs_of local_config rounds_now call_id) name rack.rseq rack.cseq was out one.among
        refl in
        record {
          response = record {
            invite = lives.invite;
            life = lives.life;
            life_is = lives.life_is;
            id = one.id;
            status = one.status;
            local_tag = one.local_tag;
            remote_tag = one.remote_tag;
            body = one.body;
            told = subst (λ c. Contains (given_by configs (before ++ turn ∷ []) turn.side)
                (output.Notice (notice.Response c one.id one.status one.local_tag one.remote_tag
                one.body))) one.tells.of_is one.given;
            in_life = subst (λ c. Contains (told_reliably configs before turn call_id lives.invite
                lives.life) (
                  rack.rseq,
                  call_out.Notice (notice.Response c one.id one.status one.local_tag one.remote_tag
                      one.body),
                )) one.tells.of_is lives.among;
            said = one.tells.said;
            cseq = one.tells.cseq;
            method = method;
          };
          by_then = subst (λ c. Contains outs
              (call_out.Notice (notice.Response c one.id one.status one.local_tag one.remote_tag
              one.body))) one.tells.of_is (at out refl one.among);
        }

  said_follows : Carried configs (before ++ turn ∷ [])
      → CallsKeepRules configs (before ++ turn ∷ [])
      → (prack : Message) → IsSaid local_config rounds_now prack
      → is_request_message prack ≡ true → prack.cseq.method ≡ codes "PRACK" → (rack : RAck)
      → prack.rack ≡ Some rack → FollowsResponse configs before turn prack.call_id
      (dialog_id_of_tags (tag_of prack.from) (tag_of prack.to)) rack
  said_follows carried_so keep_so prack (Asked id (order.Start key of sent_so to) says same) asks
      method rack is =
      let alone = fair.calls turn.side in
      let among = subst (λ (m : Message). Contains (said_of_call local_config rounds_now says.0)
      (call_out.Command id (order.Start key of m to))) same says.1 in
      let so = reported_in local_config rounds_now alone says.0 id key of prack to among rack is in
      let name = dialog_id_of_tags (tag_of prack.from) (tag_of prack.to) in
      let inputs = call_inputs_of local_config rounds_now says.0 in
      let at = follows says.0 name rack so.1
      (outputs_from (call_machine (calls_of local_config)) says.0 None inputs)
      (λ out told among. of_first (HasRseq rack.rseq) (calls_of local_config) inputs inputs []
      (sym (append-nil inputs)) name rack.cseq so.1 says.0 out among) so.0 carried_so keep_so in
      subst (λ c. FollowsResponse configs before turn c name rack)
      (sym (own_call local_config rounds_now alone says.0 id key of prack to among)) at.response
  said_follows carried_so keep_so prack (Asked id (order.Answer key answer) says same) asks method
      rack is =
      absurd (false≢true (sym (out_replies local_config (fair.calls turn.side) rounds_now
      (call_out.Command id (order.Answer key answer)) says)
      ∙ (ap is_request_message same ∙ asks)))
  said_follows carried_so keep_so prack (Asked id (order.Abandon key) says same) asks method rack
      is = absurd same
  said_follows carried_so keep_so prack (Direct to says) asks method rack is =
      let ack = out_replies local_config (fair.calls turn.side) rounds_now
      (call_out.Direct to (written prack)) says in
      absurd (no_ack (sym (is_ack prack ack.0 asks
      (subst (λ m. IsTrue (is_token m)) (sym method) prack_token) (ack.2).request (ack.2).method
      ack.1) ∙ method))
  said_follows carried_so keep_so prack (Trying key id request reply_to given asked same) asks
      method rack is =
      absurd (false≢true (sym (ap is_request_message same) ∙ asks))
  said_follows carried_so keep_so prack
      (Acknowledges key id answered of invite response to reply_to begun heard failure same) asks
      method rack is =
      absurd (no_ack (sym (ap (λ (m : Message). m.cseq.method) same) ∙ method))

  -- whenever a call asks to send it
  asked_follows : Carried configs (before ++ turn ∷ [])
      → CallsKeepRules configs (before ++ turn ∷ []) → (call_id : List ℕ)
      (earlier later : List CallOut) (id : Id) (key : Key) (of : List ℕ) (prack : Message)
      (to : Addr)
      → said_of_call local_config rounds_now call_id
      ≡ earlier ++ call_out.Command id (order.Start key of prack to) ∷ later
      → (rack : RAck) → prack.rack ≡ Some rack → FollowsAt configs before turn call_id earlier
      (dialog_id_of_tags (tag_of prack.from) (tag_of prack.to)) rack
  asked_follows carried_so keep_so call_id earlier later id key of prack to same rack is =
      let calls = calls_of local_config in
      let inputs = call_inputs_of local_config rounds_now call_id in
      let out = call_out.Command id (order.Start key of prack to) in
      let said = sym (same_so local_config rounds_now (fair.calls turn.side) call_id) ∙ same in
      let first = up_to calls call_id inputs earlier later out said in
      let rest = (its calls call_id inputs earlier later out said).rest in
      let are = up_to_is calls call_id inputs earlier later out said in
      let so = reported_by local_config rounds_now (fair.calls turn.side) call_id first rest are
      id key of prack to (given_up_to calls call_id inputs earlier later out said) rack is in
      let name = dialog_id_of_tags (tag_of prack.from) (tag_of prack.to) in
      follows call_id name rack
      (longer (HasRseq rack.rseq) calls inputs first rest are name rack.cseq so.1) earlier
      (λ told tells among. told_before calls call_id inputs earlier later out said told refl tells
      (of_first (HasRseq rack.rseq) calls inputs first rest are name rack.cseq so.1 call_id told
      among)) so.0 carried_so keep_so

-- where there is no round nothing is said
pub no_rounds_say : (config : Config) (prack : Message) → is_request_message prack ≡ true
    → prack.cseq.method ≡ codes "PRACK" → IsSaid config [] prack → ⊥
unfolding past_of
no_rounds_say config prack asks method (Asked id command says same) =
    none_among (call_out.Command id command) says.1
no_rounds_say config prack asks method (Direct to says) =
    none_among (call_out.Direct to (written prack)) says.1
no_rounds_say config prack asks method (Trying key id request reply_to given asked same) =
    false≢true (sym (ap is_request_message same) ∙ asks)
no_rounds_say config prack asks method
    (Acknowledges key id answered of invite response to reply_to begun heard failure same) =
    no_ack (sym (ap (λ (m : Message). m.cseq.method) same) ∙ method)

pub pracks_follow : (configs : Side → Config) → IsFair configs → (turns : List Turn)
    → Carried configs turns → CallsKeepRules configs turns → PracksFollowResponses configs turns
pracks_follow configs fair turns carried keep before after turn same =
    let early = carried_before configs turns before after turn same carried in
    let rules = keeps_before configs turns before after turn same keep in
    let carried_so = carried_to configs turns before after turn same carried in
    let keep_so = keeps_to configs turns before after turn same keep in
    record {
      said = said_follows configs fair before turn early rules carried_so keep_so;
      asked = asked_follows configs fair before turn early rules carried_so keep_so;
    }
