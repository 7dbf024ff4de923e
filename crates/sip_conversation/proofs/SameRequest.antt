-- A request that comes to a transaction comes up to the call of its Call-ID, once it has come: what
-- the transaction hands up is this request.
use Rattle.std.proofs.Common.{◌≡◌, ℕ, true, false, cond, List, [], refl, sym, ap, ◌∙◌, subst, codes}
use Rattle.std.specs.Prelude.{Contains, None, if◌then◌else◌}
use Rattle.std.specs.Str.{bytes_eq}
use Rattle.std.proofs.lemmas.Bool.{false≢true}
use Rattle.std.proofs.lemmas.Slice.Eq.{bytes_eq-Decides}
use Rattle.sip_message.specs.declared.addr.Addr.{Addr}
use Rattle.sip_message.specs.declared.id.Id.{Id}
use Rattle.sip_message.specs.declared.key.Key.{Key}
use Rattle.sip_message.specs.declared.message.Message.{Message}
use Rattle.sip_message.specs.declared.start_line.StartLine.{StartLine}
use Rattle.sip_message.specs.declared.start_line.StartLine.TheVariants as start
use Rattle.sip_message.specs.Key.{branch_in, method_in}
use Rattle.sip_message.specs.Message.{is_request_line, is_request_message}
use Rattle.sip_message.specs.MessageKey.{key_at, key_of_message, transaction_method}
use Rattle.sip_message.specs.Source.{stamped}
use Rattle.sip_message.specs.TopVia.{top_branch, top_host, top_port}
use Rattle.keyed_machine.specs.Machine.{given_at, outputs_from}
use Rattle.keyed_machine.proofs.Ordered.{by_bool}
use Rattle.sip_transactions.specs.declared.input.Command.TheVariants as order
use Rattle.sip_transactions.specs.declared.input.Input.TheVariants.{Receive}
use Rattle.sip_transactions.specs.declared.output.Out.TheVariants as out
use Rattle.sip_transactions.specs.declared.output.Up.{Up as AnUp}
use Rattle.sip_transactions.specs.declared.output.UpKind.{UpKind}
use Rattle.sip_transactions.specs.declared.output.UpKind.TheVariants as kind
use Rattle.sip_transactions.specs.declared.trigger.Trigger.TheVariants as on
use Rattle.sip_transactions.specs.Laws.{IsServer, is_request_kind}
use Rattle.sip_transactions.specs.Machine.{transaction_machine}
use Rattle.sip_transactions.specs.Steps.Input.{arrival_of}
use Rattle.sip_user.specs.OwnCall.{IsKindOf}
use Rattle.sip_user.specs.declared.item.CallOut.TheVariants as call_out
use Rattle.sip_user.specs.declared.item.Item.TheVariants.{Up}
use Rattle.sip_round.specs.declared.config.Config.{Config}
use Rattle.sip_round.specs.declared.round.Round.{Round}
use Rattle.sip_round.specs.Answers.{past_of}
use Rattle.sip_round.specs.Laws.{call_inputs_of, inputs_of}
use Rattle.sip_round.proofs.Said.{transaction_alone}
use Rattle.sip_conversation.specs.Answers.{IsHandedUp}
use Rattle.sip_conversation.specs.Conversation.{Carried, Side, Turn, peer, rounds_of}
use Rattle.sip_conversation.specs.Messages.{CallSays, CallsKeepRules, ComesUnchanged, ComesUp, IsGiven, IsSaid, come_from}
use Rattle.sip_conversation.specs.Replies.{AreCounted}
use Rattle.sip_conversation.specs.Steps.Fair.{IsFair}
use Rattle.sip_conversation.proofs.Among.{each_of}
use Rattle.sip_conversation.proofs.ComesUp.{comes_up}
use Rattle.sip_conversation.proofs.HandedUp.{request_handed}
use Rattle.sip_conversation.proofs.HeardUps.{InputHeard, IsHeard, all_heard}
use Rattle.sip_conversation.proofs.OneCallId.{lower}
use Rattle.sip_conversation.proofs.OneOrigin.{IsStartedHere, one_request, said_starts}
use Rattle.sip_conversation.proofs.OneTransaction.{IsFaithful, KindCame}
use Rattle.sip_conversation.proofs.RequestsAsked.{out_own}
use Rattle.sip_conversation.proofs.StartedFor.{Any, HasKey, faithful_keys, has_key}
use Rattle.sip_conversation.proofs.ToldCallId.{IsSame, came_same, peer_peer}
use Rattle.sip_conversation.proofs.UpMethods.{HasMethod}

-- ---- the key of a request other than ACK

-- its branch and its method
pub record HasKeyOf (message : Message) (key : Key) : Type 0 where
  pub server : IsServer key
  pub branch : branch_in key ≡ lower (top_branch message)
  pub method : method_in key ≡ message.cseq.method

pub not_ack : (method : List ℕ) → (method ≡ codes "ACK" → ⊥) → bytes_eq method (codes "ACK") ≡ false
not_ack method other =
    by_bool (bytes_eq method (codes "ACK"))
    (λ ack. absurd (other ((bytes_eq-Decides method (codes "ACK")).0 ack)))
    (λ none. none)

own_method : (method : List ℕ) → (method ≡ codes "ACK" → ⊥) → transaction_method method ≡ method
unfolding transaction_method
own_method method other =
    ap (λ ack. cond ack (codes "INVITE") method) (not_ack method other)

parts_of : (message : Message) (line : StartLine) (host : List ℕ) (port : ℕ)
    → is_request_line line ≡ true → (message.cseq.method ≡ codes "ACK" → ⊥)
    → HasKeyOf message (key_at line (top_branch message) host port message.cseq.method)
parts_of message (start.Request uri) host port asks other = record {
  server = tt;
  branch = refl;
  method = own_method message.cseq.method other;
}
parts_of message (start.Response status reason) host port asks other = absurd (false≢true asks)

pub key_parts : (message : Message) → is_request_message message ≡ true
    → (message.cseq.method ≡ codes "ACK" → ⊥) → HasKeyOf message (key_of_message message)
unfolding key_of_message
key_parts message asks other =
    parts_of message message.start (top_host message) (top_port message) asks other

comes_as_request : (line : StartLine) (method : List ℕ) → is_request_line line ≡ true
    → (method ≡ codes "ACK" → ⊥) → arrival_of line method ≡ on.Request
comes_as_request (start.Request uri) method asks other =
    ap (λ ack. cond ack on.Ack on.Request) (not_ack method other)
comes_as_request (start.Response status reason) method asks other = absurd (false≢true asks)

-- ---- the request of a transaction

module _ (configs : Side → Config) (fair : IsFair configs) (turns : List Turn)
    (carried : Carried configs turns) (keep : CallsKeepRules configs turns) (s : Side)
    (few : AreCounted (configs s) (rounds_of s turns)) (id : Id) (own : Key) (of : List ℕ)
    (request : Message) (to : Addr)
    (says : CallSays (configs s) (rounds_of s turns)
    (call_out.Command id (order.Start own of request to)))
    (asks : is_request_message request ≡ true) (no_cancel : request.cseq.method ≡ codes "CANCEL" → ⊥)
  where
    abbrev other : Side
    other = peer s

    abbrev rounds : List Round
    rounds = rounds_of other turns

    abbrev source : Addr
    source = (configs s).local

    abbrev as_it_comes : Message
    as_it_comes = come_from source request

    pub no_ack : request.cseq.method ≡ codes "ACK" → ⊥
    no_ack = (out_own (configs s) (rounds_of s turns) (fair.calls s)
        (call_out.Command id (order.Start own of request to)) says).own.method

    started : IsStartedHere (configs s) (rounds_of s turns) (fair.calls s) request
    started = record { id = id; key = own; at = of; to = to; says = says }

    pub comes_asking : is_request_message as_it_comes ≡ true
    unfolding stamped
    comes_asking =
        ap (λ b. is_request_message (if b then stamped request source else request)) asks ∙ asks

    pub stamped_same : IsSame as_it_comes request
    stamped_same = came_same source as_it_comes request refl comes_asking

    -- a request with the same branch and method is the same
    pub same_branch : (message : Message) (comes : ComesUnchanged configs turns other message)
        → is_request_message message ≡ true → (message.cseq.method ≡ codes "ACK" → ⊥)
        → lower (top_branch message) ≡ lower (top_branch request)
        → message.cseq.method ≡ request.cseq.method → comes.original ≡ request
    same_branch message comes is plain branches methods =
        let asked : Message = comes.original in
        let same : IsSame message asked =
        came_same (configs (peer other)).local message asked comes.same is in
        let spoken : IsSaid (configs s) (rounds_of s turns) asked =
        subst (λ p. IsSaid (configs p) (rounds_of p turns) asked) (peer_peer s) comes.said in
        one_request (configs s) (rounds_of s turns) (fair.calls s) few asked request
        (said_starts (configs s) (rounds_of s turns) (fair.calls s) asked spoken comes.rules same.asks
        (λ ack. plain (same.method ∙ ack)))
        started (λ cancel. no_cancel (sym methods ∙ (same.method ∙ cancel))) no_cancel
        (ap lower (sym same.branch) ∙ branches)

    -- it comes as this does
    pub as_this : (message : Message) (comes : ComesUnchanged configs turns other message)
        → comes.original ≡ request → message ≡ as_it_comes
    as_this message comes one =
        comes.same ∙ (ap (λ p. come_from (configs p).local comes.original) (peer_peer s)
        ∙ ap (come_from source) one)

    -- a request with the same key is the same
    pub same_original : (message : Message) (comes : ComesUnchanged configs turns other message)
        → is_request_message message ≡ true → (message.cseq.method ≡ codes "ACK" → ⊥)
        → key_of_message message ≡ key_of_message as_it_comes → comes.original ≡ request
    same_original message comes is plain keys =
        let there = key_parts message is plain in
        let here = key_parts as_it_comes comes_asking
        (λ ack. no_ack (sym stamped_same.method ∙ ack)) in
        same_branch message comes is plain
        (sym there.branch ∙ (ap branch_in keys ∙ (here.branch ∙ ap lower stamped_same.branch)))
        (sym there.method ∙ (ap method_in keys ∙ (here.method ∙ stamped_same.method)))

    pub same_request : (message : Message) → ComesUnchanged configs turns other message
        → is_request_message message ≡ true → (message.cseq.method ≡ codes "ACK" → ⊥)
        → key_of_message message ≡ key_of_message as_it_comes → message ≡ as_it_comes
    same_request message comes is plain keys =
        as_this message comes (same_original message comes is plain keys)

    pub record IsUp : Type 0 where
      pub up : AnUp
      pub handed : IsHandedUp (configs other) rounds as_it_comes up
      pub method : as_it_comes.cseq.method ≡ request.cseq.method

    module _ (key : Key) (key_is : key_of_message as_it_comes ≡ key) (up : AnUp) where
      of_kind : (k : UpKind) → up.kind ≡ k → is_request_kind k ≡ true
          → KindCame (ComesUnchanged configs turns other) k → HasMethod k
          → KindCame (HasKey (configs other) rounds key) k → IsKindOf up.call_id k
          → ComesUp (configs other) rounds up.call_id up → IsUp
      of_kind (kind.Request message reply_to) is asks came method keyed call comes =
          let same : message ≡ as_it_comes =
          same_request message came.0 came.1 method (keyed.0 ∙ sym key_is) in
          record {
            up = up;
            handed = record {
              reply_to = reply_to;
              kind_is = is ∙ ap (λ m. kind.Request m reply_to) same;
              comes = subst (λ of. ComesUp (configs other) rounds of up)
                  (sym call ∙ ap (λ (m : Message). m.call_id) same) comes;
            };
            method = stamped_same.method;
          }
      of_kind (kind.Ack message) is asks came method keyed call comes = absurd (false≢true asks)
      of_kind (kind.Response message) is asks came method keyed call comes =
          absurd (false≢true asks)
      of_kind kind.Timeout is asks came method keyed call comes = absurd (false≢true asks)
      of_kind kind.Failed is asks came method keyed call comes = absurd (false≢true asks)

      of_up : is_request_kind up.kind ≡ true
          → Contains (outputs_from transaction_machine key None (inputs_of (configs other) rounds key))
          (out.Up up)
          → ComesUp (configs other) rounds up.call_id up → IsUp
      of_up asks among comes =
          let heard : IsHeard configs turns other up.call_id up =
          each_of (λ timed. InputHeard configs turns other up.call_id timed.input)
          (call_inputs_of (configs other) rounds up.call_id)
          (given_at comes.0 (comes.1, Up up))
          (all_heard configs turns other fair carried keep up.call_id) comes.2 in
          of_kind up.kind refl asks heard.came heard.method
          (each_of (IsFaithful Any (HasKey (configs other) rounds key))
          (outputs_from transaction_machine key None (inputs_of (configs other) rounds key))
          (out.Up up) (faithful_keys (configs other) rounds key) among)
          (heard.own).1 comes

    -- it comes up, if it comes
    pub handed_up : (key : Key) (heard : Id) (reply_to : Addr)
        → IsGiven (configs other) rounds key (Receive heard as_it_comes reply_to) → IsUp
    handed_up key heard reply_to given =
        let plain : as_it_comes.cseq.method ≡ codes "ACK" → ⊥ =
        λ ack. no_ack (sym stamped_same.method ∙ ack) in
        let key_is : key_of_message as_it_comes ≡ key =
        has_key (configs other) rounds key heard as_it_comes reply_to given in
        let has = request_handed key
        (subst IsServer key_is (key_parts as_it_comes comes_asking plain).server)
        (inputs_of (configs other) rounds key) given.0 heard as_it_comes reply_to given.1
        (comes_as_request as_it_comes.start as_it_comes.cseq.method comes_asking plain) in
        of_up key key_is has.up has.asks has.among
        (comes_up has.up (configs other) key rounds
        (subst (λ outs. Contains outs (out.Up has.up))
        (sym (transaction_alone fair.transactions []
        (past_of (configs other) rounds).transactions key)) has.among))
