-- The reliable provisional responses that a user is told of have consecutive RSeqs, each is told
-- once, and the other side sent each of them before (RFC 3262, section 4).
use Rattle.std.specs.Prelude.{◌≡◌, ◌≢◌, ◌<◌, ℕ, true, List, [], ◌∷◌, ◌++◌, AllPairs, Option, None, Some, codes, filter, map}
use Rattle.std.specs.List.{AllByRecursion}
use Rattle.sip_message.specs.Message.{is_request_message}
use Rattle.sip_message.specs.Party.{tag_of}
use Rattle.sip_message.specs.Written.{written}
use Rattle.sip_message.specs.declared.message.Message.{Message}
use Rattle.keyed_machine.specs.Machine.{Timed}
use Rattle.sip_held_dialogs.specs.Requests.{dialog_id_of_tags}
use Rattle.sip_held_dialogs.specs.declared.held_dialog.DialogReference.{DialogReference}
use Rattle.sip_user.specs.declared.item.CallOut.{CallOut}
use Rattle.sip_user.specs.declared.item.CallOut.TheVariants.{Notice}
use Rattle.sip_user.specs.declared.notice.Notice.TheVariants.{Response}
use Rattle.sip_clients.specs.Provisionals.{AnInvite, is_response, provisional_number}
use Rattle.sip_calls.specs.declared.call.Call.{Call}
use Rattle.sip_calls.specs.declared.calls.Calls.{Calls}
use Rattle.sip_calls.specs.Call.{CallItem}
use Rattle.sip_calls.specs.Provisionals.{IsConsecutive, done, number_in_life}
use Rattle.sip_round.specs.declared.config.Config.{Config}
use Rattle.sip_round.specs.declared.round.Round.{Round}
use Rattle.sip_round.specs.Answers.{calls_of}
use Rattle.sip_round.specs.Laws.{call_inputs_of}
use Rattle.sip_conversation.specs.Answers.{RespondsTo}
use Rattle.sip_conversation.specs.Conversation.{AgentSends, Side, Turn, peer, rounds_of}
use Rattle.sip_conversation.specs.Messages.{IsSaid}
use Rattle.sip_conversation.specs.Replies.{AreCounted, SaidResponse}

-- ---- what a user is told of them

-- the notices of a response, each with the response's RSeq
abbrev pub told_with : Option ℕ → List CallOut → List (ℕ × CallOut)
told_with None outs = []
told_with (Some rseq) outs = map (λ out. (rseq, out)) (filter is_response outs)

-- those about the reliable provisional responses to an INVITE in one life of a dialog, in order
abbrev pub told_from : Calls → AnInvite → DialogReference → Option Call → List (Timed CallItem)
    → List (ℕ × CallOut)
told_from calls invite life call [] = []
told_from calls invite life call (input ∷ inputs) =
    told_with (number_in_life calls invite life call input) (done calls invite life call input).1
    ++ told_from calls invite life (done calls invite life call input).0 inputs

-- ---- what the other side said

-- in these rounds an agent said and sent the PRACK of the response of RSeq 1 to the INVITE that
-- this response answers, in the dialog of this response (RFC 3262, sections 4 and 7.2)
pub record SaidPrack (config : Config) (rounds : List Round) (response : Message) : Type 0 where
  pub prack : Message
  pub said : IsSaid config rounds prack
  pub sent : AgentSends config rounds (written prack)
  pub is_request : is_request_message prack ≡ true
  pub method : prack.cseq.method ≡ codes "PRACK"
  pub rack : prack.rack
      ≡ Some record { rseq = 1; cseq = response.cseq.number; method = codes "INVITE" }
  pub call_id : prack.call_id ≡ response.call_id
  pub dialog : dialog_id_of_tags (tag_of prack.from) (tag_of prack.to)
      ≡ dialog_id_of_tags (tag_of response.from) (tag_of response.to)

-- Before this turn the other side said and sent such a response as a reliable provisional one,
-- with this RSeq and a tag in To, because its user answered the request that way. If the RSeq is
-- above 1, this side said and sent the PRACK of the first before this turn. If the rounds of this
-- side are counted up to the turn's end, the response has this Call-ID.
pub record SaidReliably (configs : Side → Config) (before : List Turn) (turn : Turn)
    (call_id : List ℕ) (rseq status : ℕ) (local_tag remote_tag body : List ℕ) : Type 0 where
  pub response : SaidResponse configs before turn.side status local_tag remote_tag body
  pub number : provisional_number (Some status) response.original ≡ Some rseq
  pub by_user : RespondsTo (configs (peer turn.side)) (rounds_of (peer turn.side) before)
      response.request.request status response.original
  pub pracked : 1 < rseq
      → SaidPrack (configs turn.side) (rounds_of turn.side before) response.original
  pub call_id_is : AreCounted (configs turn.side) (rounds_of turn.side (before ++ turn ∷ []))
      → response.original.call_id ≡ call_id

-- it is the notice of a response, and the other side said that response
abbrev pub IsSaidReliably : (Side → Config) → List Turn → Turn → ℕ → CallOut → Type 0
IsSaidReliably configs before turn rseq
    (Notice (Response call_id id status local_tag remote_tag body)) =
    SaidReliably configs before turn call_id rseq status local_tag remote_tag body
IsSaidReliably configs before turn rseq _ = ⊥

-- ---- a turn after others

module _ (configs : Side → Config) (before : List Turn) (turn : Turn) where
  -- what the turn's user is told up to its end about those to an INVITE in one life of a dialog,
  -- each with its RSeq
  abbrev pub told_reliably : List ℕ → AnInvite → DialogReference → List (ℕ × CallOut)
  told_reliably call_id invite life = told_from (calls_of (configs turn.side)) invite life None
      (call_inputs_of (configs turn.side) (rounds_of turn.side (before ++ turn ∷ [])) call_id)

  abbrev pub rseqs_told : List ℕ → AnInvite → DialogReference → List ℕ
  rseqs_told call_id invite life = map (λ told. told.0) (told_reliably call_id invite life)

  pub record ToldAsSaid (call_id : List ℕ) (invite : AnInvite) (life : DialogReference)
      : Type 0 where
    pub consecutive : IsConsecutive (rseqs_told call_id invite life)
    pub once : AllPairs (λ x y. x ≢ y) (rseqs_told call_id invite life)
    pub said : AllByRecursion (λ told. IsSaidReliably configs before turn told.0 told.1)
        (told_reliably call_id invite life)

-- for every turn, call, INVITE and life of a dialog
abbrev pub ProvisionalsToldAsSaid : (Side → Config) → List Turn → Type 0
ProvisionalsToldAsSaid configs turns =
    (before after : List Turn) (turn : Turn) → turns ≡ before ++ turn ∷ after
    → (call_id : List ℕ) (invite : AnInvite) (life : DialogReference)
    → ToldAsSaid configs before turn call_id invite life
