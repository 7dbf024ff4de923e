-- The notices with a Call-ID that rounds give are those that the call's own history says.
use Rattle.std.proofs.Common.{◌≡◌, ℕ, suc, List, [], ◌∷◌, ◌++◌, refl, sym, ap, ◌∙◌, append-nil, append_assoc, subst}
use Rattle.std.specs.List.{flat_map}
use Rattle.std.proofs.lemmas.Cmp.{nat_list_cmp_total}
use Rattle.std.proofs.lemmas.Grind.{flat_map-append}
use Rattle.std.proofs.lemmas.List.Elements.{filter-append}
use Rattle.std.proofs.lemmas.Map.Lookups.{exact_bytes}
use Rattle.keyed_machine.specs.Laws.{said_by}
use Rattle.keyed_machine.specs.Machine.{Timed, tick_at}
use Rattle.keyed_machine.specs.Phase.{Phase, states_after}
use Rattle.keyed_machine.specs.Rules.{said_since}
use Rattle.keyed_machine.proofs.Spoken.{own_after, spoken}
use Rattle.sip_user.specs.declared.item.CallOut.{CallOut}
use Rattle.sip_calls.specs.Call.{call_machine, CallItem}
use Rattle.sip_calls.specs.CallShard.{call_cmp}
use Rattle.sip_calls.specs.OwnCall.{IsCallOf}
use Rattle.sip_round.specs.declared.config.Config.{Config}
use Rattle.sip_round.specs.declared.output.Output.{Output}
use Rattle.sip_round.specs.declared.round.Round.{Round}
use Rattle.sip_round.specs.Answers.{Past, answer, answers, answers_from, calls_of, given_second, no_past, past_after, past_from, past_of, said_by_calls, second}
use Rattle.sip_round.specs.Given.{AnswersGiveOwnNotices, all_given, is_notice_of, notice_in, notices_of}
use Rattle.sip_round.specs.Outputs.{all_said, call_outputs}
use Rattle.sip_round.proofs.NotTold.{told_in_second}
use Rattle.sip_round.proofs.OwnItems.{second_own}
use Rattle.sip_round.proofs.OwnNotices.{IsTimedOf, own_kept, own_notices, picked}
use Rattle.sip_round.proofs.Said.{calls_say}

notices_append : (q : List ℕ) (xs ys : List Output)
    → notices_of q (xs ++ ys) ≡ notices_of q xs ++ notices_of q ys
notices_append q xs ys = filter-append _ xs ys

-- ---- what transactions say, and what a call says

notices_shown : (q : List ℕ) (outs : List CallOut)
    → notices_of q (flat_map call_outputs outs) ≡ flat_map (picked q) outs
notices_shown q [] = refl
notices_shown q (out ∷ outs) =
    notices_append q (call_outputs out) (flat_map call_outputs outs)
    ∙ ap (λ notices. picked q out ++ notices) (notices_shown q outs)

-- ---- one round

-- each call that phases leave has its own Call-ID
abbrev pub AreOwnCalls : Config → List (Phase (List ℕ) (Timed CallItem)) → Type 0
AreOwnCalls config phases = (key : List ℕ)
    → IsCallOf key (states_after call_cmp (call_machine (calls_of config)) tick_at phases key)

module _ (q : List ℕ) (config : Config) (number : ℕ) (past : Past) (round : Round)
    (own : AreOwnCalls config past.calls) where
  abbrev of_round : List Output
  of_round = flat_map notice_in (said_by call_cmp (call_machine (calls_of config)) tick_at q
      (said_by_calls (calls_of config) past.calls (second config number past round)))

  second_told : notices_of q (flat_map call_outputs (given_second config number past round)) ≡ of_round
  unfolding given_second
  second_told =
      let calls = calls_of config in
      let phase = second config number past round in
      notices_shown q (given_second config number past round)
      ∙ subst (λ said. flat_map (picked q) (all_said said)
      ≡ flat_map notice_in (said_by call_cmp (call_machine calls) tick_at q said))
      (calls_say calls past.calls phase)
      (spoken call_cmp (call_machine calls) notice_in picked IsCallOf IsTimedOf
      nat_list_cmp_total exact_bytes (own_kept calls) tick_at (λ moment key. tt)
      (own_notices calls) q past.calls phase own (second_own config number past round))

  answer_told : notices_of q (answer config number past round) ≡ of_round
  answer_told =
      told_in_second (is_notice_of q) (λ key to bytes. refl) (λ place why. refl) config number past
      round ∙ second_told

  own_then : AreOwnCalls config (past_after config number past round).calls
  unfolding past_after
  own_then key =
      own_after call_cmp (call_machine (calls_of config)) notice_in picked IsCallOf IsTimedOf
      nat_list_cmp_total exact_bytes (own_kept (calls_of config)) tick_at (λ moment key. tt)
      past.calls (second config number past round) own (second_own config number past round) key

-- ---- over rounds

module _ (config : Config) where
  -- the calls' phases in these rounds, numbered upwards from this number, after a past
  abbrev pub calls_from : ℕ → Past → List Round → List (Phase (List ℕ) (Timed CallItem))
  calls_from number past [] = []
  calls_from number past (round ∷ rounds) = second config number past round
      ∷ calls_from (suc number) (past_after config number past round) rounds

  pub calls_are : (number : ℕ) (past : Past) (rounds : List Round)
      → (past_from config number past rounds).calls ≡ past.calls ++ calls_from number past rounds
  unfolding past_after
  calls_are number past [] = sym (append-nil past.calls)
  calls_are number past (round ∷ rounds) =
      let next = past_after config number past round in
      calls_are (suc number) next rounds
      ∙ append_assoc past.calls (second config number past round ∷ [])
      (calls_from (suc number) next rounds)

  pub own_from : (q : List ℕ) (number : ℕ) (past : Past) (rounds : List Round)
      → AreOwnCalls config past.calls
      → AreOwnCalls config (past_from config number past rounds).calls
  own_from q number past [] own = own
  own_from q number past (round ∷ rounds) own =
      own_from q (suc number) (past_after config number past round) rounds
      (own_then q config number past round own)

  pub given_from : (q : List ℕ) (number : ℕ) (past : Past) (rounds : List Round)
      → AreOwnCalls config past.calls
      → notices_of q (all_given (answers_from config number past rounds))
      ≡ flat_map notice_in (said_since call_cmp (call_machine (calls_of config)) tick_at q
      past.calls (calls_from number past rounds))
  unfolding past_after
  given_from q number past [] own = refl
  given_from q number past (round ∷ rounds) own =
      let phase = second config number past round in
      let machine = call_machine (calls_of config) in
      let next = past_after config number past round in
      notices_append q (answer config number past round)
      (all_given (answers_from config (suc number) next rounds))
      ∙ (λ i. answer_told q config number past round own i
      ++ given_from q (suc number) next rounds (own_then q config number past round own) i)
      ∙ sym (flat_map-append notice_in
      (said_by call_cmp machine tick_at q (said_by_calls (calls_of config) past.calls phase))
      (said_since call_cmp machine tick_at q (past.calls ++ phase ∷ [])
      (calls_from (suc number) next rounds)))

pub notices_given : AnswersGiveOwnNotices
unfolding answers past_of
notices_given config rounds q =
    given_from config q config.first no_past rounds (λ key. tt)
    ∙ ap (λ phases. flat_map notice_in
    (said_since call_cmp (call_machine (calls_of config)) tick_at q [] phases))
    (sym (calls_are config config.first no_past rounds))
