-- A front of a carried conversation is carried, and its rounds are counted if all are; its last
-- turn adds nothing to what the other side says.
use Rattle.std.proofs.Common.{◌≡◌, ℕ, ◌<◌, ◌^◌, true, false, cond, List, [], ◌∷◌, ◌++◌, length, map, refl, sym, ap, ◌∙◌, subst, append-nil, append_assoc, length-append, arith}
use Rattle.sip_round.specs.declared.config.Config.{Config}
use Rattle.sip_round.specs.declared.round.Round.{Round}
use Rattle.sip_conversation.specs.Conversation.{AgentSends, Carried, CarriedAfter, Side, Turn, WasSent, is_side, peer, rounds_of}
use Rattle.sip_conversation.specs.Conversation as side
use Rattle.sip_conversation.specs.Messages.{CallSays, CallsKeepRules}
use Rattle.sip_conversation.specs.Replies.{AreCounted}
use Rattle.sip_conversation.proofs.Longer.{rounds_of-append, says_longer}
use Rattle.sip_conversation.proofs.Rounds.{all_of_parts}

module _ (configs : Side → Config) where
  carried_front : (start front more : List Turn) → CarriedAfter configs start (front ++ more)
      → CarriedAfter configs start front
  carried_front start [] more carried = tt
  carried_front start (turn ∷ front) more carried =
      (carried.0, carried_front (start ++ turn ∷ []) front more carried.1)

  pub front_carried : (front more : List Turn) → Carried configs (front ++ more)
      → Carried configs front
  front_carried front more carried = carried_front [] front more carried

  -- in a front of the turns calls also keep the rules
  pub front_keeps : (front more : List Turn) → CallsKeepRules configs (front ++ more)
      → CallsKeepRules configs front
  front_keeps front more keep s out says =
      keep s out (subst (λ rounds. CallSays (configs s) rounds out)
      (sym (rounds_of-append s front more))
      (says_longer (configs s) (rounds_of s front) (rounds_of s more) out says))

  -- ---- up to a turn

  whole : (turns before after : List Turn) (turn : Turn) → turns ≡ before ++ turn ∷ after
      → turns ≡ (before ++ turn ∷ []) ++ after
  whole turns before after turn same = same ∙ sym (append_assoc before (turn ∷ []) after)

  pub carried_to : (turns before after : List Turn) (turn : Turn) → turns ≡ before ++ turn ∷ after
      → Carried configs turns → Carried configs (before ++ turn ∷ [])
  carried_to turns before after turn same carried =
      front_carried (before ++ turn ∷ []) after
      (subst (Carried configs) (whole turns before after turn same) carried)

  pub keeps_to : (turns before after : List Turn) (turn : Turn) → turns ≡ before ++ turn ∷ after
      → CallsKeepRules configs turns → CallsKeepRules configs (before ++ turn ∷ [])
  keeps_to turns before after turn same keep =
      front_keeps (before ++ turn ∷ []) after
      (subst (CallsKeepRules configs) (whole turns before after turn same) keep)

  -- ---- before a turn

  pub carried_before : (turns before after : List Turn) (turn : Turn)
      → turns ≡ before ++ turn ∷ after → Carried configs turns → Carried configs before
  carried_before turns before after turn same carried =
      front_carried before (turn ∷ after) (subst (Carried configs) same carried)

  pub keeps_before : (turns before after : List Turn) (turn : Turn)
      → turns ≡ before ++ turn ∷ after → CallsKeepRules configs turns
      → CallsKeepRules configs before
  keeps_before turns before after turn same keep =
      front_keeps before (turn ∷ after) (subst (CallsKeepRules configs) same keep)

-- ---- counted rounds

pub counted_front : (config : Config) (rounds more : List Round)
    → AreCounted config (rounds ++ more)
    → AreCounted config rounds
counted_front config rounds more few = record {
  numbers = omega (arith, length-append rounds more, few.numbers);
  events = (all_of_parts (λ round. length round.events < 2 ^ 64) rounds more few.events).0;
}

-- if those of all turns are counted, so are those up to a turn
pub counted_to : (config : Config) (s : Side) (turns before after : List Turn) (turn : Turn)
    → turns ≡ before ++ turn ∷ after → AreCounted config (rounds_of s turns)
    → AreCounted config (rounds_of s (before ++ turn ∷ []))
counted_to config s turns before after turn same few =
    let front = before ++ turn ∷ [] in
    counted_front config (rounds_of s front) (rounds_of s after)
    (subst (AreCounted config)
    (ap (rounds_of s) (same ∙ sym (append_assoc before (turn ∷ []) after))
    ∙ rounds_of-append s front after) few)

-- ---- a turn of one side isn't one of the other side

pub own_side : (s : Side) → is_side s s ≡ true
own_side side.One = refl
own_side side.Other = refl

pub other_side : (s : Side) → is_side (peer s) s ≡ false
other_side side.One = refl
other_side side.Other = refl

pub peer_rounds : (before : List Turn) (turn : Turn)
    → rounds_of (peer turn.side) (before ++ turn ∷ []) ≡ rounds_of (peer turn.side) before
peer_rounds before turn =
    let s = peer turn.side in
    rounds_of-append s before (turn ∷ [])
    ∙ (ap (λ own. rounds_of s before ++ map (λ (t : Turn). t.round) (cond own (turn ∷ []) []))
    (other_side turn.side)
    ∙ append-nil (rounds_of s before))

-- so the other side had sent these bytes before the turn
pub sent_before : (configs : Side → Config) (before : List Turn) (turn : Turn) (bytes : List ℕ)
    → WasSent configs (before ++ turn ∷ []) turn.side bytes
    → WasSent configs before turn.side bytes
sent_before configs before turn bytes =
    subst (λ rounds. AgentSends (configs (peer turn.side)) rounds bytes) (peer_rounds before turn)
