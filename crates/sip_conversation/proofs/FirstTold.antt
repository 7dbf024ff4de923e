-- Where the user is told of a reliable provisional response with an RSeq above 1, he was told of
-- one with RSeq 1 before, in its dialog.
use Rattle.std.proofs.Common.{◌≡◌, ◌⊎◌, inl, inr, ℕ, Bool, true, false, cond, List, [], ◌∷◌, ◌++◌, map, refl, sym, ap, ◌∙◌, subst, append-nil, append_assoc, ⊎_elim}
use Rattle.std.specs.Prelude.{codes}
use Rattle.std.proofs.lemmas.Bool.{false≢true}
use Rattle.sip_message.specs.Party.{tag_of}
use Rattle.sip_message.specs.declared.message.Message.{Message}
use Rattle.sip_held_dialogs.specs.Requests.{dialog_id_of_tags}
use Rattle.sip_held_dialogs.specs.declared.held_dialog.DialogId.{DialogId}
use Rattle.sip_user.specs.declared.item.CallOut.{CallOut}
use Rattle.sip_user.specs.declared.item.CallOut.TheVariants as out
use Rattle.sip_user.specs.declared.notice.Notice.TheVariants as notice
use Rattle.sip_round.specs.declared.config.Config.{Config}
use Rattle.sip_round.specs.declared.round.Round.{Round}
use Rattle.sip_round.specs.Laws.{ProvisionalsInLives}
use Rattle.sip_conversation.specs.Conversation.{Carried, Side, Turn, is_side, rounds_of}
use Rattle.sip_conversation.specs.Conversation as side
use Rattle.sip_conversation.specs.Messages.{CallsKeepRules, IsSaid}
use Rattle.sip_conversation.specs.Pracks.{FollowsResponse, IsAfterTheFirst, PracksFollowResponses, TheFirstIsToldFirst, WasToldFirst}
use Rattle.sip_conversation.specs.Provisionals.{IsSaidReliably, SaidPrack, told_reliably}
use Rattle.sip_conversation.proofs.Among.{all_go}
use Rattle.sip_conversation.proofs.Fronts.{carried_before, keeps_before}
use Rattle.sip_conversation.proofs.Longer.{rounds_of-append}
use Rattle.sip_conversation.proofs.PracksFollow.{no_rounds_say, pracks_follow}
use Rattle.sip_conversation.proofs.Provisionals.{provisionals_said}
use Rattle.sip_conversation.proofs.RepliesSaid.{IsFair}

-- ---- the last turn of a side

pub same_side : (one two : Side) → is_side one two ≡ true → two ≡ one
same_side side.One side.One is = refl
same_side side.Other side.Other is = refl
same_side side.One side.Other is = absurd (false≢true is)
same_side side.Other side.One is = absurd (false≢true is)

-- there is a last one, and then no rounds of that side
pub record LastTurn (s : Side) (turns : List Turn) : Type 0 where
  pub before : List Turn
  pub turn : Turn
  pub after : List Turn
  pub turns_are : turns ≡ before ++ turn ∷ after
  pub side_is : turn.side ≡ s
  pub no_more : rounds_of s after ≡ []

pub last_turn : (s : Side) (turns : List Turn) → (rounds_of s turns ≡ []) ⊎ LastTurn s turns
last_turn s [] = inl refl
last_turn s (turn ∷ turns) =
    ⊎_elim (λ none. by_own none (is_side s turn.side) refl)
    (λ later. inr record {
      before = turn ∷ later.before;
      turn = later.turn;
      after = later.after;
      turns_are = ap (λ ts. turn ∷ ts) later.turns_are;
      side_is = later.side_is;
      no_more = later.no_more;
    }) (last_turn s turns)
  where
    by_own : rounds_of s turns ≡ [] → (b : Bool) → is_side s turn.side ≡ b
        → (rounds_of s (turn ∷ turns) ≡ []) ⊎ LastTurn s (turn ∷ turns)
    by_own none true is = inr record {
      before = [];
      turn = turn;
      after = turns;
      turns_are = refl;
      side_is = same_side s turn.side is;
      no_more = none;
    }
    by_own none false is =
        inl (rounds_of-append s (turn ∷ []) turns
        ∙ (λ i. map (λ (t : Turn). t.round) (cond (is i) (turn ∷ []) []) ++ none i))

-- up to its last turn a side has all its rounds
pub last_rounds : (s : Side) (turns : List Turn) → (last : LastTurn s turns)
    → rounds_of s turns ≡ rounds_of s (last.before ++ last.turn ∷ [])
last_rounds s turns last =
    let front = last.before ++ last.turn ∷ [] in
    ap (rounds_of s) (last.turns_are ∙ sym (append_assoc last.before (last.turn ∷ []) last.after))
    ∙ (rounds_of-append s front last.after
    ∙ (ap (λ more. rounds_of s front ++ more) last.no_more
    ∙ append-nil (rounds_of s front)))

module _ (configs : Side → Config) where
  -- what a side said, it said up to its last turn
  said_by_last : (s : Side) (turns : List Turn) (message : Message) → (last : LastTurn s turns)
      → IsSaid (configs s) (rounds_of s turns) message
      → IsSaid (configs (last.turn).side)
      (rounds_of (last.turn).side (last.before ++ last.turn ∷ [])) message
  said_by_last s turns message last said =
      let front = last.before ++ last.turn ∷ [] in
      subst (λ t. IsSaid (configs t) (rounds_of t front) message) (sym last.side_is)
      (subst (λ rounds. IsSaid (configs s) rounds message) (last_rounds s turns last) said)

  module _ (turns : List Turn) (follow : PracksFollowResponses configs turns) (s : Side) where
    pub told_first : (response : Message) → SaidPrack (configs s) (rounds_of s turns) response
        → WasToldFirst configs turns s response
    told_first response so =
        ⊎_elim
        (λ none. absurd (no_rounds_say (configs s) so.prack so.is_request so.method
        (subst (λ rounds. IsSaid (configs s) rounds so.prack) none so.said)))
        (λ last. record {
          before = last.before;
          turn = last.turn;
          after = last.after;
          turns_are = last.turns_are;
          side_is = last.side_is;
          first = subst (FollowsAs last response.call_id) so.dialog
              (subst (λ c. FollowsAs last c
              (dialog_id_of_tags (tag_of so.prack.from) (tag_of so.prack.to))) so.call_id
              ((follow last.before last.after last.turn last.turns_are).said so.prack
              (said_by_last s turns so.prack last so.said) so.is_request so.method
              record { rseq = 1; cseq = response.cseq.number; method = codes "INVITE" } so.rack));
        })
        (last_turn s turns)
      where
        FollowsAs : LastTurn s turns → List ℕ → DialogId → Type 0
        FollowsAs last call_id name = FollowsResponse configs last.before last.turn call_id name
            record { rseq = 1; cseq = response.cseq.number; method = codes "INVITE" }

  module _ (before : List Turn) (turn : Turn) (follow : PracksFollowResponses configs before) where
    notice_after : (rseq : ℕ) (one : CallOut) → IsSaidReliably configs before turn rseq one
        → IsAfterTheFirst configs before turn rseq one
    notice_after rseq
        (out.Notice (notice.Response call_id id status local_tag remote_tag body)) said =
        record {
          said = said;
          first = λ more.
              told_first before follow turn.side said.response.original (said.pracked more);
        }
    notice_after rseq (out.Notice (notice.Request call_id id method local_tag remote_tag body))
        said = absurd said
    notice_after rseq (out.Notice (notice.Ack call_id id body)) said = absurd said
    notice_after rseq (out.Notice (notice.Prack call_id id number body)) said = absurd said
    notice_after rseq (out.Notice (notice.Timeout call_id id)) said = absurd said
    notice_after rseq (out.Notice (notice.Failed call_id id)) said = absurd said
    notice_after rseq (out.Notice (notice.NoAck call_id id)) said = absurd said
    notice_after rseq (out.Notice (notice.NoPrack call_id id)) said = absurd said
    notice_after rseq (out.Notice (notice.Cancel call_id id)) said = absurd said
    notice_after rseq (out.Notice (notice.Ended call_id local_tag remote_tag)) said = absurd said
    notice_after rseq (out.Notice (notice.Refused call_id place why)) said = absurd said
    notice_after rseq (out.Command id command) said = absurd said
    notice_after rseq (out.Direct to bytes) said = absurd said

pub first_is_told : (configs : Side → Config) → IsFair configs
    → ((s : Side) (rounds : List Round) → ProvisionalsInLives (configs s) rounds)
    → (turns : List Turn) → Carried configs turns → CallsKeepRules configs turns
    → TheFirstIsToldFirst configs turns
first_is_told configs fair in_lives turns carried keep before after turn same call_id invite life =
    let early = carried_before configs turns before after turn same carried in
    let rules = keeps_before configs turns before after turn same keep in
    all_go
    {P = λ (told : ℕ × CallOut). IsSaidReliably configs before turn told.0 told.1}
    {Q = λ (told : ℕ × CallOut). IsAfterTheFirst configs before turn told.0 told.1}
    (λ told said. notice_after configs before turn (pracks_follow configs fair before early rules)
    told.0 told.1 said)
    (told_reliably configs before turn call_id invite life)
    (provisionals_said configs fair in_lives turns carried keep before after turn same call_id
    invite life).said
