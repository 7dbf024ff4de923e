-- If the user is told of reliable provisional responses in one life of a dialog alone, and only to
-- the INVITE of the call, then also of the first in it, where he is told of one with an RSeq above
-- 1.
use Rattle.std.proofs.Common.{◌≡◌, ◌<◌, ℕ, List, [], ◌∷◌, ◌++◌, sym, ap, ◌∙◌, subst, append_assoc}
use Rattle.std.specs.Prelude.{Contains, None, codes}
use Rattle.sip_message.specs.Party.{tag_of}
use Rattle.sip_message.specs.declared.rack.RAck.{RAck}
use Rattle.sip_held_dialogs.specs.Requests.{dialog_id_of_tags}
use Rattle.sip_held_dialogs.specs.declared.held_dialog.DialogReference.{DialogReference}
use Rattle.sip_user.specs.declared.item.CallOut.{CallOut}
use Rattle.sip_user.specs.declared.item.CallOut.TheVariants as out
use Rattle.sip_user.specs.declared.notice.Notice.TheVariants as notice
use Rattle.sip_clients.specs.Clients.{reply_name}
use Rattle.sip_clients.specs.Provisionals.{AnInvite, OfTheCall}
use Rattle.sip_round.specs.declared.config.Config.{Config}
use Rattle.sip_round.specs.Answers.{calls_of}
use Rattle.sip_round.specs.Laws.{call_inputs_of}
use Rattle.sip_conversation.specs.ComeWhole.{NoOthersTold}
use Rattle.sip_conversation.specs.Conversation.{Carried, Side, Turn, rounds_of}
use Rattle.sip_conversation.specs.Messages.{CallsKeepRules}
use Rattle.sip_conversation.specs.Provisionals.{rseqs_told, told_from, told_reliably}
use Rattle.sip_conversation.specs.Replies.{AreCounted}
use Rattle.sip_conversation.proofs.Among.{mapped_among, none_among}
use Rattle.sip_conversation.proofs.FirstTold.{told_first}
use Rattle.sip_conversation.proofs.Fronts.{carried_before, carried_to, counted_to, keeps_before, keeps_to}
use Rattle.sip_conversation.proofs.Longer.{inputs_longer, rounds_of-append}
use Rattle.sip_conversation.proofs.PracksFollow.{pracks_follow, reply_said}
use Rattle.sip_conversation.proofs.RepliesSaid.{IsFair}
use Rattle.sip_conversation.proofs.ToldInLife.{told_by_first, told_came}

module _ (configs : Side → Config) (call_id : List ℕ) (invite : AnInvite) (life : DialogReference)
    (told : ℕ × CallOut) where
  -- what the user was told up to an earlier turn, he was told up to a later one
  told_later : (before : List Turn) (turn : Turn) (early : List Turn) (one : Turn)
      (late : List Turn) → before ≡ early ++ one ∷ late → one.side ≡ turn.side
      → Contains (told_reliably configs early one call_id invite life) told
      → Contains (told_reliably configs before turn call_id invite life) told
  told_later before turn early one late are own among =
      let s = turn.side in
      let front = early ++ one ∷ [] in
      let back = late ++ turn ∷ [] in
      let config = configs s in
      let rounds : rounds_of s (before ++ turn ∷ []) ≡ rounds_of s front ++ rounds_of s back =
      ap (λ turns. rounds_of s (turns ++ turn ∷ [])) are
      ∙ (ap (rounds_of s) (append_assoc early (one ∷ late) (turn ∷ [])
      ∙ sym (append_assoc early (one ∷ []) back))
      ∙ rounds_of-append s front back) in
      let longer = inputs_longer config (rounds_of s front) (rounds_of s back) call_id in
      subst (λ rounds. Contains (told_from (calls_of config) invite life None
      (call_inputs_of config rounds call_id)) told) (sym rounds)
      (subst (λ inputs. Contains (told_from (calls_of config) invite life None inputs) told)
      (sym longer.1)
      (told_by_first (calls_of config) invite life
      (call_inputs_of config (rounds_of s front) call_id) longer.0 told
      (subst (λ t. Contains (told_from (calls_of (configs t)) invite life None
      (call_inputs_of (configs t) (rounds_of t front) call_id)) told) own among)))

-- if he was told of no others in that dialog, what he was told in it is of this life
only_here : (configs : Side → Config) (call_id : List ℕ) (before : List Turn) (turn : Turn)
    (life : DialogReference) → NoOthersTold configs before turn call_id OfTheCall life
    → (other : AnInvite) (later : DialogReference) → later.name ≡ life.name → (rseq : ℕ)
    → Contains (rseqs_told configs before turn call_id other later) rseq
    → Contains (rseqs_told configs before turn call_id OfTheCall life) rseq
only_here configs call_id before turn life only other later named rseq among =
    let same = only other later named
    (λ none. none_among rseq (subst (λ rseqs. Contains rseqs rseq) none among)) in
    subst (λ rseqs. Contains rseqs rseq)
    (λ i. rseqs_told configs before turn call_id (same.0 i) (same.1 i)) among

pub first_in_life : (configs : Side → Config) → IsFair configs → (turns : List Turn)
    → Carried configs turns → CallsKeepRules configs turns → (before after : List Turn)
    (turn : Turn) → turns ≡ before ++ turn ∷ after
    → AreCounted (configs turn.side) (rounds_of turn.side turns)
    → (call_id : List ℕ) (life : DialogReference)
    → NoOthersTold configs before turn call_id OfTheCall life → (told : ℕ × CallOut)
    → Contains (told_reliably configs before turn call_id OfTheCall life) told → 1 < told.0
    → Contains (rseqs_told configs before turn call_id OfTheCall life) 1
first_in_life configs fair turns carried keep before after turn same counted call_id life only
    told among more =
    let config = configs turn.side in
    let few = counted_to config turn.side turns before after turn same counted in
    let early = carried_before configs turns before after turn same carried in
    let rules = keeps_before configs turns before after turn same keep in
    let came = told_came (calls_of config)
    (call_inputs_of config (rounds_of turn.side (before ++ turn ∷ [])) call_id) life told among in
    let was = came.was in
    let rack : RAck = record { rseq = told.0; cseq = came.number; method = codes "INVITE" } in
    let reply = reply_said configs fair before turn early rules call_id life.name rack was
    (carried_to configs turns before after turn same carried)
    (keeps_to configs turns before after turn same keep) was.status was.status_is in
    let response = reply.so.said.response.original in
    let first = told_first configs before (pracks_follow configs fair before early rules) turn.side
    response (reply.so.said.pracked more) in
    let follows = first.first in
    let named : follows.life.name ≡ life.name =
    follows.life_is
    ∙ ((λ i. dialog_id_of_tags (tag_of (reply.from few i)) (tag_of (reply.so.whole i).to))
    ∙ (sym (ap (λ kind. reply_name kind was.client was.response) came.first) ∙ was.name_is)) in
    let first_told : CallOut = out.Notice (notice.Response response.call_id follows.id
    follows.status follows.local_tag follows.remote_tag follows.body) in
    let one : Contains (rseqs_told configs before turn call_id follows.invite follows.life) 1 =
    mapped_among (λ (told : ℕ × CallOut). told.0)
    (told_reliably configs before turn call_id follows.invite follows.life) (1, first_told)
    (told_later configs call_id follows.invite follows.life (1, first_told) before turn
    first.before first.turn first.after first.turns_are first.side_is
    (subst (λ c. Contains (told_reliably configs first.before first.turn c follows.invite
    follows.life) (1, first_told)) (reply.so.said.call_id_is few) follows.in_life)) in
    only_here configs call_id before turn life only follows.invite follows.life named 1 one
