-- A response that is told has the Call-ID with which it is told, and answers the request of the id
-- with which it is told.
use Rattle.std.proofs.Common.{◌≡◌, ℕ, Bool, true, List, [], ◌∷◌, ◌++◌, refl, sym, ap, ◌∙◌, subst, codes}
use Rattle.std.specs.Prelude.{Some, if◌then◌else◌}
use Rattle.std.specs.List.{slice_get}
use Rattle.std.specs.Option.{option_map_or}
use Rattle.std.proofs.lemmas.Bool.{false≢true}
use Rattle.sip_message.specs.Key.{client_key}
use Rattle.sip_message.specs.Message.{is_request_message}
use Rattle.sip_message.specs.MessageKey.{key_of_message}
use Rattle.sip_message.specs.Source.{stamped, stamped_vias}
use Rattle.sip_message.specs.TopVia.{top_branch}
use Rattle.sip_message.specs.Via.{branch_of}
use Rattle.sip_message.specs.declared.addr.Addr.{Addr}
use Rattle.sip_message.specs.declared.cseq.CSeq.{CSeq}
use Rattle.sip_message.specs.declared.id.Id.{Id}
use Rattle.sip_message.specs.declared.message.Message.{Message}
use Rattle.sip_message.specs.declared.via.Via.{Via}
use Rattle.sip_message.proofs.Stamps.{stamp_leaves}
use Rattle.keyed_machine.specs.Laws.{EachKeyAlone}
use Rattle.keyed_machine.specs.Machine.{tick_at}
use Rattle.keyed_machine.proofs.Ordered.{by_bool}
use Rattle.sip_transactions.specs.declared.input.Input.TheVariants.{Start}
use Rattle.sip_calls.specs.Call.{call_machine}
use Rattle.sip_calls.specs.CallShard.{call_cmp}
use Rattle.sip_clients.specs.Clients.{status_of}
use Rattle.sip_round.specs.declared.config.Config.{Config}
use Rattle.sip_round.specs.Answers.{calls_of}
use Rattle.sip_conversation.specs.Answers.{AnswersARequest}
use Rattle.sip_conversation.specs.Conversation.{Side, Turn, peer, rounds_of}
use Rattle.sip_conversation.specs.Conversation as side
use Rattle.sip_conversation.specs.Messages.{ComesUnchanged, IsGiven, IsSaid, come_from}
use Rattle.sip_conversation.specs.Replies.{AreCounted, IsStartedFor}
use Rattle.sip_conversation.proofs.Longer.{rounds_of-append}
use Rattle.sip_conversation.proofs.OneCallId.{one_start_of}
use Rattle.sip_conversation.proofs.StartedFor.{response_key}

-- ---- a request as it came, and as it was said

stamp_branch : (source : Addr) (vias : List Via)
    → option_map_or branch_of (slice_get (stamped_vias source vias) 0) []
    ≡ option_map_or branch_of (slice_get vias 0) []
stamp_branch source [] = refl
stamp_branch source (via ∷ vias) = stamp_leaves source (via ∷ vias) via refl

pub record IsSame (came said : Message) : Type 0 where
  pub asks : is_request_message said ≡ true
  pub branch : top_branch came ≡ top_branch said
  pub method : came.cseq.method ≡ said.cseq.method
  pub call : came.call_id ≡ said.call_id

stamped_same : (source : Addr) (said : Message) → is_request_message said ≡ true
    → IsSame (stamped said source) said
unfolding stamped
stamped_same source said asks = record {
  asks = asks;
  branch = stamp_branch source said.vias;
  method = refl;
  call = refl;
}

pub came_same : (source : Addr) (came said : Message) → came ≡ come_from source said
    → is_request_message came ≡ true → IsSame came said
came_same source came said same asks =
    let comes : Bool → Message = λ b. if b then stamped said source else said in
    by_bool (is_request_message said)
    (λ is. subst (λ m. IsSame m said) (sym (same ∙ ap comes is)) (stamped_same source said is))
    (λ other. absurd (false≢true (sym other
    ∙ (ap is_request_message (sym (same ∙ ap comes other)) ∙ asks))))

pub peer_peer : (s : Side) → peer (peer s) ≡ s
peer_peer side.One = refl
peer_peer side.Other = refl

module _ (configs : Side → Config)
    (alone : (s : Side) → EachKeyAlone call_cmp (call_machine (calls_of (configs s))) tick_at)
    (before : List Turn) (turn : Turn) where
  abbrev whole : List Turn
  whole = before ++ turn ∷ []

  -- the response is to the request with which the transaction was started
  pub record IsOwnReply (call_id : List ℕ) (response came request : Message) : Type 0 where
    pub call : response.call_id ≡ call_id
    pub same : (response.cseq.method ≡ codes "CANCEL" → ⊥)
        → came ≡ come_from (configs turn.side).local request

  pub own_reply : (call_id : List ℕ) (id : Id) (response : Message) (status : ℕ)
      → status_of response.start ≡ Some status
      → (answers : AnswersARequest (ComesUnchanged configs before (peer turn.side)) response)
      → (started : IsStartedFor (configs turn.side) (rounds_of turn.side whole) call_id id
      response)
      → AreCounted (configs turn.side) (rounds_of turn.side whole)
      → IsOwnReply call_id response answers.request started.request
  own_reply call_id id response status is answers started few =
      let s = turn.side in
      let came = answers.request in
      let copies = answers.copies in
      let comes : ComesUnchanged configs before (peer s) came = answers.came in
      let asked = comes.original in
      let same : IsSame came asked =
      came_same (configs (peer (peer s))).local came asked comes.same answers.is_request in
      let spoken : IsSaid (configs s) (rounds_of s before) asked =
      subst (λ p. IsSaid (configs p) (rounds_of p before) asked) (peer_peer s) comes.said in
      let branch : top_branch response ≡ top_branch asked =
      ap (λ (vias : List Via). option_map_or branch_of (slice_get vias 0) []) copies.vias
      ∙ same.branch in
      let method : response.cseq.method ≡ asked.cseq.method =
      ap (λ (cseq : CSeq). cseq.method) copies.cseq ∙ same.method in
      let key : key_of_message response ≡ client_key (top_branch asked) asked.cseq.method =
      response_key response status is ∙ (λ i. client_key (branch i) (method i)) in
      let longer = rounds_of-append s before (turn ∷ []) in
      let so = one_start_of (configs s) (alone s) (rounds_of s before) (rounds_of s (turn ∷ []))
      (subst (AreCounted (configs s)) longer few) asked spoken same.asks comes.rules.method
      (key_of_message response) key id call_id started.request started.to
      (subst (λ rounds. IsGiven (configs s) rounds (key_of_message response)
      (Start id call_id started.request started.to)) longer started.given) in
      record {
        call = copies.call_id ∙ (same.call ∙ so.call);
        same = λ other.
            comes.same
            ∙ (ap (λ p. come_from (configs p).local asked) (peer_peer s)
            ∙ ap (come_from (configs s).local) (so.same (λ cancel. other (method ∙ cancel))));
      }
