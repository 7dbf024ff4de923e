-- An ACK that a call sends follows the 2xx that it acknowledges, of which the user was told.
use Rattle.std.proofs.Common.{◌≡◌, ◌⊎◌, inl, inr, ℕ, true, false, List, [], ◌∷◌, ◌++◌, refl, sym, ap, ◌∙◌, subst}
use Rattle.std.specs.Prelude.{◌==◌, IfSome, Some, codes, length, not, Contains, None}
use Rattle.std.specs.List.{AllByRecursion}
use Rattle.std.proofs.lemmas.Bool.{false≢true}
use Rattle.sip_message.specs.Message.{is_request_message}
use Rattle.sip_message.specs.Party.{tag_of}
use Rattle.sip_message.specs.declared.addr.Addr.{Addr}
use Rattle.sip_message.specs.declared.id.Id.{Id}
use Rattle.sip_message.specs.declared.message.Message.{Message}
use Rattle.sip_message.specs.declared.party.Party.{Party}
use Rattle.keyed_machine.proofs.Ordered.{by_bool}
use Rattle.keyed_machine.specs.Laws.{EachKeyAlone}
use Rattle.keyed_machine.specs.Machine.{Timed, tick_at, outputs_from}
use Rattle.sip_transactions.specs.declared.input.Command.{Command}
use Rattle.sip_transactions.specs.declared.input.Command.TheVariants as order
use Rattle.sip_held_dialogs.specs.Dialogs.{dialog_at}
use Rattle.sip_held_dialogs.specs.Requests.{dialog_id_of_tags, has_to_tag, is_success}
use Rattle.sip_held_dialogs.specs.declared.held_dialog.DialogId.{DialogId}
use Rattle.sip_user.specs.declared.item.CallOut.TheVariants as call_out
use Rattle.sip_held_dialogs.proofs.Each.{both}
use Rattle.sip_clients.specs.Clients.{reply_name}
use Rattle.sip_clients.specs.ReceivedResponse.{has_dialog}
use Rattle.sip_clients.specs.declared.client.RequestKind.{RequestKind}
use Rattle.sip_clients.specs.declared.client.RequestKind.TheVariants.{InDialog, InitialInvite, OutOfDialog, ReInvite}
use Rattle.sip_calls.specs.Call.{CallItem, call_machine, call_step}
use Rattle.sip_calls.specs.CallShard.{call_cmp}
use Rattle.sip_calls.specs.Sides.{side_of}
use Rattle.sip_calls.specs.declared.calls.Calls.{Calls}
use Rattle.sip_round.specs.declared.config.Config.{Config}
use Rattle.sip_round.specs.declared.round.Round.{Round}
use Rattle.sip_round.specs.Answers.{calls_of}
use Rattle.sip_round.specs.Laws.{call_inputs_of, said_of_call}
use Rattle.sip_clients.specs.Provisionals.{is_response}
use Rattle.sip_round.proofs.CallEvents.{events_differ}
use Rattle.sip_user.specs.declared.item.CallOut.{CallOut}
use Rattle.sip_user.specs.declared.notice.Notice.TheVariants.{Response}
use Rattle.sip_conversation.specs.AckedResponses.{AcksFollowResponses, FollowsSuccess, IsAckOfSuccess}
use Rattle.sip_conversation.specs.Commands.{CommandsKeepTypes, EventKeepsTypes}
use Rattle.sip_conversation.specs.Conversation.{Carried, Side, Turn, rounds_of}
use Rattle.sip_conversation.specs.Messages.{Asks, CallSays, CallsKeepRules}
use Rattle.sip_conversation.specs.Replies.{AreCounted, ToldResponse}
use Rattle.sip_conversation.proofs.AckedCalls.{Is2xx}
use Rattle.sip_conversation.proofs.Among.{each_of}
use Rattle.sip_conversation.proofs.CallOuts.{ResponseTells}
use Rattle.sip_conversation.proofs.CallsKeep.{calls_keep_rules}
use Rattle.sip_conversation.proofs.Carrying.{TurnHolds}
use Rattle.sip_conversation.proofs.Fronts.{carried_before, carried_to, keeps_before, keeps_to}
use Rattle.sip_conversation.proofs.HeardReplies.{WasHeard, has_come, invite_answered, of_up, told_so, longer, of_first, same_outs}
use Rattle.sip_conversation.proofs.KeepsRules.{Any, KeepsInput, KeepsRulesWith}
use Rattle.sip_conversation.proofs.SoundCalls.{IsSoundCall, any_pays, held_sound}
use Rattle.sip_conversation.proofs.SoundClients.{IsNamedIn, client_found}
use Rattle.sip_conversation.proofs.OneCallId.{out_replies}
use Rattle.sip_conversation.proofs.OutsInOrder.{given_up_to, its, told_before, up_to, up_to_is}
use Rattle.sip_conversation.proofs.RepliesSaid.{IsFair, response_said, told_response}
use Rattle.sip_conversation.proofs.RequestsAsked.{out_own}
use Rattle.sip_conversation.proofs.Rounds.{all_of_parts}
use Rattle.sip_conversation.proofs.SentAcks.{IsOwnAck, inputs_keep, sent_at}

module _ (configs : Side → Config) (fair : IsFair configs) (before : List Turn) (turn : Turn)
    (carried : Carried configs before) (keep : CallsKeepRules configs before)
    (carried_so : Carried configs (before ++ turn ∷ []))
    (keep_so : CallsKeepRules configs (before ++ turn ∷ [])) where
  abbrev local_config : Config
  local_config = configs turn.side

  abbrev rounds_now : List Round
  rounds_now = rounds_of turn.side (before ++ turn ∷ [])

  abbrev calls : Calls
  calls = calls_of local_config

  abbrev inputs : List ℕ → List (Timed CallItem)
  inputs call_id = call_inputs_of local_config rounds_now call_id

  module _ (call_id : List ℕ) (name : DialogId) (number : ℕ)
      (was : WasHeard Is2xx calls (inputs call_id) name number)
      (keeps : AllByRecursion (λ timed. KeepsInput timed.input) (inputs call_id)) where
    -- an INVITE in a dialog has its tags
    its_name : IsNamedIn was.client.kind was.client.request
    its_name =
        let sound = subst (λ o. IfSome o (IsSoundCall Any)) was.held
        (held_sound Any calls (fair.addresses turn.side) call_id (inputs call_id)
        (any_pays calls (inputs call_id) (events_differ local_config call_id rounds_now))
        was.before (was.timed ∷ was.after) was.are keeps) in
        (client_found Any was.up.id was.call.clients sound.clients was.client was.client_is).named

    -- the notice is of this call, and of such a response
    record IsTelling (of : List ℕ) (id : Id) (status : ℕ) (local_tag remote_tag body : List ℕ)
        : Type 0 where
      pub of_is : of ≡ call_id
      pub success : is_success status ≡ true
      pub said : ToldResponse configs before turn of id status local_tag remote_tag body
      pub cseq : AreCounted local_config rounds_now
          → said.response.original.cseq ≡ record { number = number; method = codes "INVITE" }
      pub dialog_is : AreCounted local_config rounds_now
          → (dialog_id_of_tags local_tag remote_tag ≡ name)
          ⊎ ((dialog_id_of_tags (tag_of said.started.request.from)
          (tag_of said.started.request.to) ≡ name) × (has_to_tag said.started.request ≡ false))

    -- the response has the tags of the dialog, unless an INVITE in it has no To tag
    its_dialog : (k : RequestKind) → was.client.kind ≡ k
        → has_dialog k (dialog_at name (side_of was.call).dialogs) ≡ true
        → reply_name k was.client was.response ≡ name → (local_tag : List ℕ)
        → local_tag ≡ tag_of was.client.request.from
        → (has_to_tag was.client.request ≡ true → was.response.to ≡ was.client.request.to)
        → (dialog_id_of_tags local_tag (tag_of was.response.to) ≡ name)
        ⊎ ((dialog_id_of_tags (tag_of was.client.request.from) (tag_of was.client.request.to)
        ≡ name) × (has_to_tag was.client.request ≡ false))
    its_dialog InitialInvite is has named local_tag from to =
        inl (ap (λ tag. dialog_id_of_tags tag (tag_of was.response.to)) from ∙ named)
    its_dialog (ReInvite life) is has named local_tag from to =
        let own = subst (λ k. IsNamedIn k was.client.request) is its_name ∙ named in
        by_bool (has_to_tag was.client.request)
        (λ tagged. inl ((λ i. dialog_id_of_tags (from i) (tag_of (to tagged i))) ∙ own))
        (λ bare. inr (own, bare))
    its_dialog (InDialog life) is has named local_tag from to = absurd (false≢true has)
    its_dialog OutOfDialog is has named local_tag from to = absurd (false≢true has)

    tells : ResponseTells IsTelling was.up.call_id was.up.id was.response
    tells status is =
        let response = was.response in
        let came = has_come configs fair before turn call_id Is2xx name number was carried keep
        carried_so keep_so in
        let same : was.status ≡ status =
        some_same was.status status (sym was.status_is ∙ is) in
        let so = response_said configs fair before turn carried keep response came.came status is in
        let said = told_response configs fair before turn carried keep was.up.call_id was.up.id
        response status so came.started in
        let that = invite_answered configs fair before turn call_id Is2xx name number was status
        (tag_of response.from) (tag_of response.to) response.body so.said said.started in
        let copies = so.said.request.copies in
        record {
          of_is = of_up configs fair before turn call_id Is2xx name number was;
          success = ap is_success (sym same) ∙ was.is;
          said = said;
          cseq = λ few. copies.cseq ∙ ((that few).alike.cseq
              ∙ (λ i. record { number = was.number_is i; method = (that few).method i }));
          dialog_is = λ few. subst (λ (m : Message).
              (dialog_id_of_tags (tag_of response.from) (tag_of response.to) ≡ name)
              ⊎ ((dialog_id_of_tags (tag_of m.from) (tag_of m.to) ≡ name)
              × (has_to_tag m ≡ false))) (sym (that few).same)
              (its_dialog was.client.kind refl was.has was.name_is (tag_of response.from)
              (sym so.said.from ∙ ap tag_of (copies.from ∙ (that few).alike.from))
              (λ tagged. sym (ap (λ (m : Message). m.to) so.whole)
              ∙ (copies.to (ap (λ (to : Party). not (length (tag_of to) == 0))
              (that few).alike.to ∙ tagged) ∙ (that few).alike.to)));
        }
      where
        some_same : (one other : ℕ) → Some one ≡ Some other → one ≡ other
        some_same one other same = cc

    -- what tells of a response at that input is among these outputs
    follows : (outs : List CallOut)
        → ((out : CallOut) → is_response out ≡ true
        → Contains (call_step calls (Some was.call) was.timed.input was.timed.moment).1 out
        → Contains outs out)
        → FollowsSuccess configs before turn call_id outs name number
    follows outs at =
        let one = told_so configs fair before turn call_id Is2xx name number was IsTelling tells in
        let notice : CallOut = call_out.Notice
        (Response one.of one.id one.status one.local_tag one.remote_tag one.body) in
        subst (λ c. FollowsSuccess configs before turn c outs name number) one.tells.of_is
        record {
          id = one.id;
          status = one.status;
          local_tag = one.local_tag;
          remote_tag = one.remote_tag;
          body = one.body;
          told = one.given;
          by_then = at notice refl one.among;
          success = one.tells.success;
          said = one.tells.said;
          cseq = one.tells.cseq;
          dialog_is = one.tells.dialog_is;
        }

  -- what a call sends as a text is such an ACK
  sent_acked : CommandsKeepTypes (before ++ turn ∷ []) → (call_id : List ℕ)
      (earlier later : List CallOut) (to : Addr) (text : List ℕ)
      → said_of_call local_config rounds_now call_id
      ≡ earlier ++ call_out.Direct to text ∷ later
      → IsAckOfSuccess configs before turn call_id earlier text
  sent_acked types call_id earlier later to text same =
      let out = call_out.Direct to text in
      let said = sym (same_outs local_config rounds_now (fair.calls turn.side) call_id) ∙ same in
      let first = up_to calls call_id (inputs call_id) earlier later out said in
      let rest = (its calls call_id (inputs call_id) earlier later out said).rest in
      let are = up_to_is calls call_id (inputs call_id) earlier later out said in
      let front = before ++ turn ∷ [] in
      let keeps = inputs_keep configs fair front carried_so keep_so types turn.side call_id in
      let sent = each_of
      (KeepsRulesWith (IsOwnAck configs fair front carried_so keep_so types turn.side call_id first))
      (outputs_from (call_machine calls) call_id None first) out
      (sent_at configs fair front carried_so keep_so types turn.side call_id first rest are)
      (given_up_to calls call_id (inputs call_id) earlier later out said) in
      let ack = sent.0 in
      let so = sent.3 in
      let name = dialog_id_of_tags (tag_of ack.from) (tag_of ack.to) in
      record {
        ack = ack;
        text_is = sent.1;
        rules = sent.2;
        is_request = so.is_request;
        method = so.method;
        call_id_is = so.call_id_is;
        follows = follows call_id name ack.cseq.number
            (longer Is2xx calls (inputs call_id) first rest are name ack.cseq.number so.heard)
            keeps earlier
            (λ told is among. told_before calls call_id (inputs call_id) earlier later out said told
            refl is
            (of_first Is2xx calls (inputs call_id) first rest are name ack.cseq.number so.heard
            call_id told among));
      }

-- what a call asks a transaction to send is no ACK
no_ack_asked : (config : Config) (rounds : List Round)
    → EachKeyAlone call_cmp (call_machine (calls_of config)) tick_at → (id : Id)
    (command : Command) → CallSays config rounds (call_out.Command id command)
    → (message : Message) → Asks command message → is_request_message message ≡ true
    → message.cseq.method ≡ codes "ACK" → ⊥
no_ack_asked config rounds alone id (order.Start key call_id request to) says message same is ack =
    (out_own config rounds alone (call_out.Command id (order.Start key call_id request to))
    says).own.method (ap (λ m. m.cseq.method) same ∙ ack)
no_ack_asked config rounds alone id (order.Answer key answer) says message same is ack =
    false≢true (sym (out_replies config alone rounds
    (call_out.Command id (order.Answer key answer)) says) ∙ ap is_request_message same ∙ is)
no_ack_asked config rounds alone id (order.Abandon key) says message asks is ack = asks

pub acks_follow : (configs : Side → Config) → IsFair configs → (turns : List Turn)
    → Carried configs turns → CommandsKeepTypes turns → AcksFollowResponses configs turns
acks_follow configs fair turns carried types before after turn same =
    let keep = calls_keep_rules configs fair turns carried types in
    let early = all_of_parts (TurnHolds (λ s e. EventKeepsTypes e)) before (turn ∷ after)
    (subst CommandsKeepTypes same types) in
    record {
      direct = sent_acked configs fair before turn
          (carried_before configs turns before after turn same carried)
          (keeps_before configs turns before after turn same keep)
          (carried_to configs turns before after turn same carried)
          (keeps_to configs turns before after turn same keep)
          (both (TurnHolds (λ s e. EventKeepsTypes e)) before (turn ∷ []) early.0
          ((early.1).0, tt));
      asked = no_ack_asked (configs turn.side) (rounds_of turn.side (before ++ turn ∷ []))
          (fair.calls turn.side);
    }
