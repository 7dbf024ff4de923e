-- The reliable provisional responses to the INVITE of a call that a user is told of are consecutive
-- ones of those that the other user gave, or the first ones.
use Rattle.std.proofs.Common.{◌≡◌, ◌≤◌, ◌<◌, ℕ, suc, ◌==◌, true, false, List, [], ◌∷◌, ◌++◌, refl, sym, ap, ◌∙◌, subst, ⊎_elim, arith}
use Rattle.std.specs.Prelude.{Contains, map}
use Rattle.std.specs.List.{AllByRecursion, AllZip}
use Rattle.std.proofs.lemmas.Grind.{common_steps}
use Rattle.sip_message.specs.declared.id.Id.{Id}
use Rattle.sip_message.specs.declared.message.Message.{Message}
use Rattle.sip_held_dialogs.specs.declared.held_dialog.DialogReference.{DialogReference}
use Rattle.sip_user.specs.declared.item.CallOut.{CallOut}
use Rattle.sip_user.specs.declared.item.CallOut.TheVariants as out
use Rattle.sip_user.specs.declared.notice.Notice.TheVariants as notice
use Rattle.sip_clients.specs.Provisionals.{OfTheCall}
use Rattle.sip_round.specs.declared.config.Config.{Config}
use Rattle.sip_round.specs.declared.round.Round.{Round}
use Rattle.sip_round.specs.Answers.{calls_of}
use Rattle.sip_round.specs.Laws.{ProvisionalsInLives, call_inputs_of}
use Rattle.sip_conversation.specs.ComeWhole.{AreNumberedFrom, IsNoticeFor, IsToldOf, NoOthersTold, ProvisionalsComeWhole, ToldWhole, given_reliably}
use Rattle.sip_conversation.specs.Conversation.{Carried, Side, Turn, peer, rounds_of}
use Rattle.sip_conversation.specs.Messages.{CallsKeepRules}
use Rattle.sip_conversation.specs.Provisionals.{rseqs_told, told_reliably}
use Rattle.sip_conversation.specs.Replies.{AreCounted}
use Rattle.sip_conversation.proofs.Among.{all_go, among_mapped, first_or_later, none_among, among_first}
use Rattle.sip_conversation.proofs.FirstInLife.{first_in_life}
use Rattle.sip_conversation.proofs.Fronts.{carried_before, carried_to, counted_front, counted_to, keeps_before, keeps_to}
use Rattle.sip_conversation.proofs.InOrder.{Follow, TellsOfOne, next_follow, run_of}
use Rattle.sip_conversation.proofs.Longer.{rounds_of-append}
use Rattle.sip_conversation.proofs.Provisionals.{provisionals_said}
use Rattle.sip_conversation.proofs.RepliesSaid.{IsFair}
use Rattle.sip_conversation.proofs.ToldAt.{told_at}
use Rattle.sip_conversation.proofs.ToldGiven.{IsGivenThere, is_given, same_request}
use Rattle.sip_reliable.specs.Inbound.{IsConsecutive}
use Rattle.keyed_machine.proofs.Ordered.{by_bool}
use Rattle.sip_round.proofs.RequestsDiffer.{requests_differ}
use Rattle.sip_conversation.proofs.GivenInOrder.{given_in_order}

-- ---- numbers

-- a notice that tells of a response has its RSeq
same_number : (told : ℕ × CallOut) (given : ℕ × Message) → IsToldOf told given
    → told.0 ≡ given.0
same_number (rseq, out.Notice (notice.Response call_id id status local_tag remote_tag body))
    (number, response) tells = tells.0
same_number (rseq, out.Notice (notice.Request call_id id method local_tag remote_tag body)) given
    tells = absurd tells
same_number (rseq, out.Notice (notice.Ack call_id id body)) given tells = absurd tells
same_number (rseq, out.Notice (notice.Prack call_id id number body)) given tells = absurd tells
same_number (rseq, out.Notice (notice.Timeout call_id id)) given tells = absurd tells
same_number (rseq, out.Notice (notice.Failed call_id id)) given tells = absurd tells
same_number (rseq, out.Notice (notice.NoAck call_id id)) given tells = absurd tells
same_number (rseq, out.Notice (notice.NoPrack call_id id)) given tells = absurd tells
same_number (rseq, out.Notice (notice.Cancel call_id id)) given tells = absurd tells
same_number (rseq, out.Notice (notice.Ended call_id local_tag remote_tag)) given tells =
    absurd tells
same_number (rseq, out.Notice (notice.Refused call_id place why)) given tells = absurd tells
same_number (rseq, out.Command id command) given tells = absurd tells
same_number (rseq, out.Direct to bytes) given tells = absurd tells

at_least : {X : Type 0} (least : ℕ) (xs : List (ℕ × X)) → Follow least xs → (x : ℕ × X)
    → Contains xs x → least ≤ x.0
at_least least [] follow x among = absurd (none_among x among)
at_least least (y ∷ ys) follow x among =
    ⊎_elim (λ same. omega (arith, follow.0, ap (λ (z : _ × _). z.0) same))
    (λ later. omega (arith, at_least (suc least) ys follow.1 x later))
    (first_or_later y ys x among)

numbered : (number : ℕ) (given : List (ℕ × Message)) → Follow number given
    → AreNumberedFrom number given
numbered number [] follow = tt
numbered number (one ∷ given) follow =
    (follow.0, numbered (suc number) given follow.1)

above_one : (n : ℕ) → 1 ≤ n → (n == 1) ≡ false → 1 < n
above_one n least isnt = grind (arith, common_steps, least, isnt)

equal : (one two : ℕ) → (one == two) ≡ true → one ≡ two
equal one two is = grind (arith, common_steps, is)

-- ---- the law

module _ (configs : Side → Config) (fair : IsFair configs)
    (in_lives : (s : Side) (rounds : List Round) → ProvisionalsInLives (configs s) rounds)
    (turns : List Turn) (carried : Carried configs turns) (keep : CallsKeepRules configs turns)
    (before after : List Turn) (turn : Turn) (same : turns ≡ before ++ turn ∷ after)
    (few : (side : Side) → AreCounted (configs side) (rounds_of side turns))
    (call_id : List ℕ) (life : DialogReference) where
  abbrev here : Config
  here = configs turn.side

  abbrev there : Config
  there = configs (peer turn.side)

  few_here : AreCounted here (rounds_of turn.side (before ++ turn ∷ []))
  few_here = counted_to here turn.side turns before after turn same (few turn.side)

  few_there : AreCounted there (rounds_of (peer turn.side) before)
  few_there =
      counted_front there (rounds_of (peer turn.side) before)
      (rounds_of (peer turn.side) (turn ∷ after))
      (subst (AreCounted there)
      (ap (rounds_of (peer turn.side)) same
      ∙ rounds_of-append (peer turn.side) before (turn ∷ after)) (few (peer turn.side)))

  carried_early : Carried configs before
  carried_early = carried_before configs turns before after turn same carried

  keep_early : CallsKeepRules configs before
  keep_early = keeps_before configs turns before after turn same keep

  carried_so : Carried configs (before ++ turn ∷ [])
  carried_so = carried_to configs turns before after turn same carried

  keep_so : CallsKeepRules configs (before ++ turn ∷ [])
  keep_so = keeps_to configs turns before after turn same keep

  abbrev told : List (ℕ × CallOut)
  told = told_reliably configs before turn call_id OfTheCall life

  abbrev given : Id → List (ℕ × Message)
  given request = given_reliably configs before turn call_id request

  -- each was given by the other user
  abbrev GivenThere : ℕ × CallOut → Type 0
  GivenThere one = IsGivenThere configs fair before turn carried_early keep_early carried_so keep_so
      few_here few_there call_id life one.0 one.1

  each_given : AllByRecursion GivenThere told
  each_given =
      all_go (λ (one : ℕ × CallOut) at. is_given configs fair before turn carried_early keep_early
      carried_so keep_so few_here few_there call_id life one.0 one.1 at) told
      (told_at (calls_of here) OfTheCall life
      (call_inputs_of here (rounds_of turn.side (before ++ turn ∷ [])) call_id))

  -- all were given to the request of the first
  one_request : (first : ℕ × CallOut) → (its : GivenThere first) → (rest : List (ℕ × CallOut))
      → AllByRecursion GivenThere rest
      → AllByRecursion (TellsOfOne IsToldOf same_number (given its.id)) rest
  one_request first its rest all =
      all_go (λ (one : ℕ × CallOut) so. (
        (one.0, so.response),
        subst (λ id. Contains (given id) (one.0, so.response))
            (same_request configs fair before turn carried_early keep_early carried_so keep_so
            few_here few_there call_id life one.0 first.0 one.1 first.1 so its) so.answer.given,
        so.tells,
      )) rest all

  -- and all notices are of that request
  same_notices : (first : ℕ × CallOut) → (its : GivenThere first) → (rest : List (ℕ × CallOut))
      → AllByRecursion GivenThere rest
      → AllByRecursion (λ (one : ℕ × CallOut).
      IsNoticeFor configs before turn call_id its.id one.1) rest
  same_notices first its rest all =
      all_go (λ (one : ℕ × CallOut) so.
      subst (λ id. IsNoticeFor configs before turn call_id id one.1)
      (same_request configs fair before turn carried_early keep_early carried_so keep_so
      few_here few_there call_id life one.0 first.0 one.1 first.1 so its) so.notice) rest all

  -- the RSeqs that are told are consecutive
  told_follows : (first : ℕ × CallOut) (rest : List (ℕ × CallOut))
      → IsConsecutive (map (λ one. one.0) (first ∷ rest)) → Follow first.0 (first ∷ rest)
  told_follows first rest consecutive = (refl, next_follow first.0 rest consecutive)

  given_follow : (request : Id) → Follow 1 (given request)
  given_follow request =
      next_follow 0 (given request)
      (given_in_order (calls_of there) request
      (call_inputs_of there (rounds_of (peer turn.side) before) call_id)
      (requests_differ there call_id (rounds_of (peer turn.side) before)))

  by_told : (all : List (ℕ × CallOut)) → told ≡ all → AllByRecursion GivenThere all
      → ToldWhole configs before turn call_id life
  by_told [] is all = record {
    request = record { round = 0; place = 0 };
    of_request = subst (AllByRecursion (λ (one : ℕ × CallOut).
        IsNoticeFor configs before turn call_id (record { round = 0; place = 0 }) one.1))
        (sym is) tt;
    numbers = numbered 1 (given record { round = 0; place = 0 })
        (given_follow record { round = 0; place = 0 });
    told = record {
      earlier = [];
      run = [];
      later = given record { round = 0; place = 0 };
      given_is = refl;
      tell = subst (λ t. AllZip IsToldOf t []) (sym is) tt;
    };
    front = λ alone. refl;
  }
  by_told (first ∷ rest) is all =
      let its : GivenThere first = all.0 in
      let follow : Follow first.0 (first ∷ rest) =
      told_follows first rest (subst (λ t. IsConsecutive (map (λ one. one.0) t)) is
      (provisionals_said configs fair in_lives turns carried keep before after turn same call_id
      OfTheCall life).consecutive) in
      let tells = one_request first its (first ∷ rest) all in
      let least : 1 ≤ first.0 =
      omega (
        arith,
        at_least 1 (given its.id) (given_follow its.id) tells.0.0 tells.0.1,
        same_number first tells.0.0 tells.0.2,
      ) in
      let so = run_of IsToldOf same_number 1 (given its.id) first.0 (first ∷ rest) least follow
      (given_follow its.id) tells in
      record {
        request = its.id;
        of_request = subst (AllByRecursion (λ (one : ℕ × CallOut).
            IsNoticeFor configs before turn call_id its.id one.1)) (sym is)
            (same_notices first its (first ∷ rest) all);
        numbers = numbered 1 (given its.id) (given_follow its.id);
        told = record {
          earlier = (so.0).earlier;
          run = (so.0).run;
          later = (so.0).later;
          given_is = (so.0).given_is;
          tell = subst (λ t. AllZip IsToldOf t (so.0).run) (sym is) (so.0).tell;
        };
        front = λ alone. so.1 (begins_with_one first rest is follow least alone);
      }
    where
      begins_with_one : (first : ℕ × CallOut) (rest : List (ℕ × CallOut)) → told ≡ first ∷ rest
          → Follow first.0 (first ∷ rest) → 1 ≤ first.0
          → NoOthersTold configs before turn call_id OfTheCall life → first.0 ≡ 1
      begins_with_one first rest is follow least alone =
          by_bool (first.0 == 1) (λ one. equal first.0 1 one)
          (λ isnt.
          let one : Contains (rseqs_told configs before turn call_id OfTheCall life) 1 =
          first_in_life configs fair turns carried keep before after turn same (few turn.side)
          call_id life alone first (subst (λ t. Contains t first) (sym is) (among_first first rest))
          (above_one first.0 least isnt) in
          let mapped = among_mapped (λ (one : ℕ × CallOut). one.0) (first ∷ rest) 1
          (subst (λ t. Contains (map (λ (one : ℕ × CallOut). one.0) t) 1) is one) in
          absurd (omega (
            arith,
            above_one first.0 least isnt,
            at_least first.0 (first ∷ rest) follow mapped.0 mapped.1,
            mapped.2,
          )))

pub come_whole : (configs : Side → Config) → IsFair configs
    → ((s : Side) (rounds : List Round) → ProvisionalsInLives (configs s) rounds)
    → (turns : List Turn) → Carried configs turns → CallsKeepRules configs turns
    → ProvisionalsComeWhole configs turns
come_whole configs fair in_lives turns carried keep before after turn same few call_id life =
    by_told configs fair in_lives turns carried keep before after turn same few call_id life
    (told_reliably configs before turn call_id OfTheCall life) refl
    (each_given configs fair in_lives turns carried keep before after turn same few call_id life)
