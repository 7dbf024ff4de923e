-- A held request keeps the rules of messages, and so do the responses to it that are kept: so does
-- the answer of the user that goes out, and what a tick sends again.
use Rattle.std.proofs.Common.{◌≡◌, ℕ, ◌≤◌, ◌<◌, ◌^◌, Bool, true, false, ◌&&◌, not, ◌==◌, List, [], ◌∷◌, ◌++◌, map, refl, arith}
use Rattle.std.specs.Prelude.{IsTrue, IfSome, Option, None, Some, filter, is_none, is_some, nat_le, nat_lt}
use Rattle.std.specs.List.{AllByRecursion, list_any}
use Rattle.std.specs.Option.{option_map_or}
use Rattle.std.proofs.lemmas.Grind.{common_steps}
use Rattle.sip_text.specs.Token.{is_token}
use Rattle.sip_message.specs.Addr.{IsAddr}
use Rattle.sip_message.specs.Rules.{IsMessage}
use Rattle.sip_message.specs.declared.addr.Addr.{Addr}
use Rattle.sip_message.specs.declared.id.Id.{Id}
use Rattle.sip_message.specs.declared.key.Key.{Key}
use Rattle.sip_message.specs.declared.message.Message.{Message}
use Rattle.sip_reliable.specs.Ledger.{must_wait}
use Rattle.sip_reliable.specs.Provisional.{Provisional, is_late, is_repeated}
use Rattle.sip_transactions.specs.declared.input.Command.TheVariants as order
use Rattle.sip_held_dialogs.specs.Dialogs.{Dialogs, lives}
use Rattle.sip_user.specs.Refusal.{first_refusal}
use Rattle.sip_held_dialogs.specs.Requests.{is_final, is_invite, is_success}
use Rattle.sip_user.specs.declared.command.Respond.{Respond}
use Rattle.sip_user.specs.declared.item.CallOut.{CallOut}
use Rattle.sip_user.specs.declared.item.CallOut.TheVariants as out
use Rattle.sip_user.specs.declared.refusal.Refusal.{Refusal}
use Rattle.sip_user.specs.declared.refusal.Refusal.TheVariants as why
use Rattle.sip_held_dialogs.proofs.Each.{both, filtered, mapped}
use Rattle.sip_served.specs.Rules.Arrivals.{after_ack, after_prack}
use Rattle.sip_served.specs.Rules.Responses.{held_after, is_dialog_response, is_reliable, is_sent_reliably, may_be_reliable, response_refusal, response_sent, success_sent}
use Rattle.sip_served.specs.Rules.Ticks.{provisionals_tick, success_at, success_tick}
use Rattle.sip_served.specs.declared.held_request.HeldRequest.{HeldRequest}
use Rattle.sip_served.specs.declared.held_request.Success.{Success}
use Rattle.sip_served.specs.declared.provisionals.ReliableResponse.{ReliableResponse}
use Rattle.sip_conversation.specs.Commands.{IsRespond}
use Rattle.sip_conversation.proofs.AnswerRules.{sent_keeps}
use Rattle.sip_conversation.proofs.Branches.{either}
use Rattle.sip_conversation.proofs.KeepsRules.{Keep, KeepsRulesWith}

abbrev SuccessKeeps : Option Success → Type 0
SuccessKeeps success = IfSome success (λ success. IsMessage success.response)

abbrev ProvisionalKeeps : ReliableResponse → Type 0
ProvisionalKeeps one = IsMessage one.response

-- a request that keeps the rules, a tag for the answers to it, and those of them that are kept
pub record IsAnswerable (message : Message) (text : List ℕ) (reliable : List ReliableResponse)
    (final : Option Success) : Type 0 where
  pub request : IsMessage message
  pub tag : IsTrue (is_token text)
  pub provisionals : AllByRecursion ProvisionalKeeps reliable
  pub success : SuccessKeeps final

abbrev pub IsSoundRequest : HeldRequest → Type 0
IsSoundRequest held = IsAnswerable held.request held.tag held.provisionals held.success

-- ---- a PRACK and an ACK

pub prack_keeps : (rseq : ℕ) (held : HeldRequest) → IsSoundRequest held
    → IsSoundRequest (after_prack rseq held)
prack_keeps rseq held its = record {
  request = its.request;
  tag = its.tag;
  provisionals = filtered ProvisionalKeeps (λ one. not (one.number == rseq)) held.provisionals
      its.provisionals;
  success = its.success;
}

pub ack_keeps : (held : HeldRequest) → IsSoundRequest held → IsSoundRequest (after_ack held)
ack_keeps held its = record {
  request = its.request;
  tag = its.tag;
  provisionals = its.provisionals;
  success = by_success held.success its.success;
}
  where
    by_success : (o : Option Success) → SuccessKeeps o
        → SuccessKeeps ((after_ack (record held { success = o })).success)
    by_success None its = tt
    by_success (Some success) its = its

-- ---- an answer of the user

abbrev pub Fails : Bool × Refusal → Type 0
Fails case = case.0 ≡ false

-- if there is no refusal, no condition of one is true
pub none_holds : (cases : List (Bool × Refusal)) → first_refusal cases None ≡ None
    → AllByRecursion Fails cases
none_holds [] none = tt
none_holds ((true, refusal) ∷ cases) none = absurd cc
none_holds ((false, refusal) ∷ cases) none = (refl, none_holds cases none)

in_range : (status : ℕ) → not (nat_le 101 status && nat_le status 699) ≡ false
    → (100 ≤ status) × (status ≤ 699)
in_range status good =
    (grind (arith, common_steps, good), grind (arith, common_steps, good))

-- the next RSeq of a response that is sent reliably
rseq_fits : (reliable : Bool) (next : ℕ) → (reliable && nat_lt 4294967295 next) ≡ false
    → reliable ≡ true → next < 2 ^ 32
rseq_fits true next none is = grind (arith, common_steps, none)
rseq_fits false next none is = absurd cc

pub answer_keeps : (local : Addr) (dialogs : Dialogs) (held : HeldRequest) (respond : Respond)
    → IsAddr local → IsRespond respond → IsSoundRequest held
    → response_refusal dialogs held respond ≡ None → IsMessage (response_sent local held respond)
answer_keeps local dialogs held respond address types its accepted =
    let status = respond.status in
    let reliable = is_sent_reliably held respond in
    let ledger = held.ledger in
    let fail = none_holds ((not (nat_le 101 status && nat_le status 699), why.BadStatus)
    ∷ (is_some held.removal, why.AlreadyFinal)
    ∷ (is_reliable respond.reliability && not (may_be_reliable held status), why.NotSupported)
    ∷ (
      is_dialog_response held status
          && option_map_or (λ reference. not (lives dialogs reference)) held.dialog false,
      why.DialogEnded,
    )
    ∷ (reliable && ledger.closed, why.AlreadyFinal)
    ∷ (reliable && not ledger.supported, why.NotSupported)
    ∷ (reliable && must_wait ledger, why.ReliablePending)
    ∷ (
      is_success status && list_any (λ (p : Provisional). p.has_body) ledger.waiting,
      why.ReliablePending,
    )
    ∷ (reliable && nat_lt 4294967295 ledger.next, why.SequenceUsedUp) ∷ []) accepted in
    let range = in_range status fail.0 in
    sent_keeps local held respond address its.request its.tag (range.0, range.1, types.reason)
    types.content (rseq_fits reliable ledger.next fail.1.1.1.1.1.1.1.1.0)

pub after_keeps : (event : Id) (held : HeldRequest) (respond : Respond) (response : Message)
    (now : ℕ) → IsMessage response → IsSoundRequest held
    → IsSoundRequest (held_after event held respond response now)
after_keeps event held respond response now rules its =
    either IsSoundRequest (is_sent_reliably held respond) _ _
    (λ reliable. record {
      request = its.request;
      tag = its.tag;
      provisionals = both ProvisionalKeeps held.provisionals _ its.provisionals (rules, tt);
      success = its.success;
    })
    (λ plain. either IsSoundRequest (is_final respond.status) _ _
    (λ final. record {
      request = its.request;
      tag = its.tag;
      provisionals = its.provisionals;
      success = either SuccessKeeps (is_invite held.request && is_success respond.status)
          (Some (success_sent response now)) held.success (λ success. rules)
          (λ other. its.success);
    })
    (λ other. its))

-- ---- a tick

abbrev pub ticked : ℕ → HeldRequest → HeldRequest
ticked now held = record held {
  ledger = (provisionals_tick now held).0;
  success = (success_tick now held).0;
}

-- of each ACK that is sent as a text this is said
module _ (AckIs : Message → Type 0) where
  again_keep : (id : Id) (key : Key) (responses : List ReliableResponse)
      → AllByRecursion ProvisionalKeeps responses
      → Keep AckIs (map (λ one. out.Command id (order.Answer key one.response)) responses)
  again_keep id key responses all =
      mapped ProvisionalKeeps (KeepsRulesWith AckIs)
      (λ one. out.Command id (order.Answer key one.response)) (λ one its. its) responses all

  provisionals_keep : (now : ℕ) (held : HeldRequest) → IsSoundRequest held
      → Keep AckIs (provisionals_tick now held).1
  provisionals_keep now held its =
      let ledger = held.ledger in
      let due = map (λ p. p.number) (filter (is_repeated now) ledger.waiting) in
      let Fine : _ × List CallOut → Type 0 = λ done. Keep AckIs done.1 in
      either Fine ledger.closed _ _ (λ closed. tt)
      (λ still. either Fine (list_any (is_late now) ledger.waiting) _ _ (λ late. (tt, tt))
      (λ early. again_keep held.id held.key _ (filtered ProvisionalKeeps
      (λ one. list_any (λ number. one.number == number) due) held.provisionals
      its.provisionals)))

  abbrev SuccessDone : Option Success × List CallOut → Type 0
  SuccessDone done = SuccessKeeps done.0 × Keep AckIs done.1

  success_keeps : (now : ℕ) (held : HeldRequest) (o : Option Success) → SuccessKeeps o
      → SuccessDone (option_map_or (success_at now held) o (None, []))
  success_keeps now held None its = (tt, tt)
  success_keeps now held (Some success) its =
      either SuccessDone (is_none success.over && nat_le success.end now) _ _
      (λ over. (its, (tt, tt)))
      (λ still. either SuccessDone
      (is_none success.over && nat_le success.retransmission.due now) _ _
      (λ again. (its, (its, tt))) (λ early. (its, tt)))

  pub tick_keeps : (now : ℕ) (held : HeldRequest) → IsSoundRequest held
      → IsSoundRequest (ticked now held)
  tick_keeps now held its = record {
    request = its.request;
    tag = its.tag;
    provisionals = its.provisionals;
    success = (success_keeps now held held.success its.success).0;
  }

  pub tick_gives : (now : ℕ) (held : HeldRequest) → IsSoundRequest held
      → Keep AckIs ((success_tick now held).1 ++ (provisionals_tick now held).1)
  tick_gives now held its =
      both (KeepsRulesWith AckIs) (success_tick now held).1 (provisionals_tick now held).1
      (success_keeps now held held.success its.success).1 (provisionals_keep now held its)
