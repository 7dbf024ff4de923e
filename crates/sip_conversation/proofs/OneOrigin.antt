-- Messages that one agent says, with branches that differ in no letter's case, are of one event,
-- and so of one call. Of the requests that are no CANCEL, an event starts one alone.
use Rattle.std.proofs.Common.{◌≡◌, ℕ, true, List, refl, sym, ap, ◌∙◌, subst, arith}
use Rattle.std.specs.Prelude.{Some, codes}
use Rattle.std.proofs.lemmas.Bool.{false≢true}
use Rattle.sip_message.specs.declared.addr.Addr.{Addr}
use Rattle.sip_message.specs.declared.id.Id.{Id}
use Rattle.sip_message.specs.declared.key.Key.{Key}
use Rattle.sip_message.specs.declared.message.Message.{Message}
use Rattle.sip_message.specs.Message.{is_request_message}
use Rattle.sip_message.specs.Rules.{IsMessage}
use Rattle.sip_message.specs.TopVia.{top_branch}
use Rattle.sip_message.specs.Written.{written}
use Rattle.keyed_machine.specs.Laws.{EachKeyAlone}
use Rattle.keyed_machine.specs.Machine.{tick_at}
use Rattle.sip_transactions.specs.declared.input.Command.TheVariants as order
use Rattle.sip_user.specs.declared.item.CallOut.{CallOut}
use Rattle.sip_user.specs.declared.item.CallOut.TheVariants as call_out
use Rattle.sip_clients.specs.Name.{name_of}
use Rattle.sip_clients.proofs.Names.{names_differ}
use Rattle.sip_calls.specs.Call.{call_machine}
use Rattle.sip_calls.specs.CallShard.{call_cmp}
use Rattle.sip_round.specs.declared.config.Config.{Config}
use Rattle.sip_round.specs.declared.round.Round.{Round}
use Rattle.sip_round.specs.Answers.{calls_of}
use Rattle.sip_conversation.specs.Messages.{CallSays, IsSaid}
use Rattle.sip_conversation.specs.Messages.IsSaid.{Acknowledges, Asked, Direct, Trying}
use Rattle.sip_conversation.specs.Replies.{AreCounted}
use Rattle.sip_conversation.proofs.AckTexts.{is_ack}
use Rattle.sip_conversation.proofs.Branches.{HasBranch}
use Rattle.sip_conversation.proofs.CallBranches.{AnyCancel}
use Rattle.sip_conversation.proofs.OneCallId.{branch_low, lower, out_replies, same_name}
use Rattle.sip_conversation.proofs.OneStart.{calls_say, one_start, started_with}
use Rattle.sip_conversation.proofs.Origins.{IsOrigin, counted, one_call}
use Rattle.sip_conversation.proofs.RequestsAsked.{out_own}

module _ (config : Config) (rounds : List Round)
    (alone : EachKeyAlone call_cmp (call_machine (calls_of config)) tick_at) where
  -- an event of this call made the branch
  abbrev pub IsBranch : List ℕ → List ℕ → Type 0
  IsBranch call_id = HasBranch config.local config.seed call_id (IsOrigin config rounds call_id) AnyCancel

  -- the message has the Call-ID of a call, and a branch that an event of the call made
  pub record IsOfCall (message : Message) : Type 0 where
    pub of : List ℕ
    pub call : message.call_id ≡ of
    pub branch : IsBranch of (top_branch message)

  pub started_of : (id : Id) (key : Key) (at : List ℕ) (request : Message) (to : Addr)
      → CallSays config rounds (call_out.Command id (order.Start key at request to))
      → IsOfCall request
  started_of id key at request to says =
      let own = (out_own config rounds alone
      (call_out.Command id (order.Start key at request to)) says).own in
      record { of = says.0; call = own.call; branch = own.branch }

  one_event : AreCounted config rounds → (call_id other : List ℕ) (one two : List ℕ)
      → (has : IsBranch call_id one) → (holds : IsBranch other two) → lower one ≡ lower two
      → has.0 ≡ holds.0
  one_event few call_id other one two has holds same =
      let here = counted config rounds few call_id has.0 has.1 in
      let there = counted config rounds few other holds.0 holds.1 in
      let names : name_of config.seed has.0 0 ≡ name_of config.seed holds.0 0 =
      same_name (name_of config.seed has.0 0) (name_of config.seed holds.0 0)
      (sym (branch_low config.seed has.0) ∙ (ap lower (sym has.2) ∙ (same ∙ (ap lower holds.2
      ∙ branch_low config.seed holds.0)))) in
      (names_differ config.seed config.seed has.0 holds.0 0 0 here.round there.round here.place
      there.place (omega arith) (omega arith) names).0

  pub one_call_id : AreCounted config rounds → (one other : Message) → IsOfCall one
      → IsOfCall other → lower (top_branch one) ≡ lower (top_branch other)
      → one.call_id ≡ other.call_id
  one_call_id few one other here there same =
      let event = one_event few here.of there.of (top_branch one) (top_branch other) here.branch
      there.branch same in
      here.call ∙ (one_call config rounds here.of there.of (there.branch).0
      (subst (IsOrigin config rounds here.of) event (here.branch).1) (there.branch).1
      ∙ sym there.call)

  -- ---- a request that a transaction was to start

  pub record IsStartedHere (request : Message) : Type 0 where
    pub id : Id
    pub key : Key
    pub at : List ℕ
    pub to : Addr
    pub says : CallSays config rounds (call_out.Command id (order.Start key at request to))

  abbrev pub start_of : (request : Message) → IsStartedHere request → CallOut
  start_of request here = call_out.Command here.id (order.Start here.key here.at request here.to)

  pub same_start : AreCounted config rounds → (one other : Message) → (here : IsStartedHere one)
      → (there : IsStartedHere other) → (one.cseq.method ≡ codes "CANCEL" → ⊥)
      → (other.cseq.method ≡ codes "CANCEL" → ⊥)
      → lower (top_branch one) ≡ lower (top_branch other)
      → start_of one here ≡ start_of other there
  same_start few one other here there no_cancel none same =
      let out = start_of one here in
      let out_there = start_of other there in
      let own = (out_own config rounds alone out here.says).own in
      let own_there = (out_own config rounds alone out_there there.says).own in
      let event = one_event few (here.says).0 (there.says).0 (top_branch one) (top_branch other)
      own.branch own_there.branch same in
      let ids : here.id ≡ there.id =
      sym (own.event_is no_cancel) ∙ (event ∙ own_there.event_is none) in
      one_start config rounds there.id out out_there
      (calls_say config rounds out here.says) (calls_say config rounds out_there there.says)
      (ap (λ i. Some i) ids) refl

  pub one_request : AreCounted config rounds → (one other : Message) → IsStartedHere one
      → IsStartedHere other → (one.cseq.method ≡ codes "CANCEL" → ⊥)
      → (other.cseq.method ≡ codes "CANCEL" → ⊥)
      → lower (top_branch one) ≡ lower (top_branch other) → one ≡ other
  one_request few one other here there no_cancel none same =
      ap (started_with one) (same_start few one other here there no_cancel none same)

  -- a request that is said and is no ACK is one that a transaction was to start
  pub said_starts : (request : Message) → IsSaid config rounds request → IsMessage request
      → is_request_message request ≡ true → (request.cseq.method ≡ codes "ACK" → ⊥)
      → IsStartedHere request
  said_starts request (Asked id (order.Start key at sent to) says same) rules asks no_ack =
      record {
        id = id;
        key = key;
        at = at;
        to = to;
        says = subst (λ m. CallSays config rounds (call_out.Command id (order.Start key at m to)))
            same says;
      }
  said_starts request (Asked id (order.Answer key response) says same) rules asks no_ack =
      absurd (false≢true (sym (out_replies config alone rounds
      (call_out.Command id (order.Answer key response)) says)
      ∙ (ap is_request_message same ∙ asks)))
  said_starts request (Asked id (order.Abandon key) says same) rules asks no_ack = absurd same
  said_starts request (Direct to says) rules asks no_ack =
      let text = out_replies config alone rounds (call_out.Direct to (written request)) says in
      absurd (no_ack (is_ack request text.0 asks rules.method (text.2).request (text.2).method
      text.1))
  said_starts request (Trying key id received reply_to given is same) rules asks no_ack =
      absurd (false≢true (sym (ap is_request_message same) ∙ asks))
  said_starts request
      (Acknowledges key id answered of invite response to reply_to given heard failure same) rules
      asks no_ack = absurd (no_ack (ap (λ (m : Message). m.cseq.method) same))
