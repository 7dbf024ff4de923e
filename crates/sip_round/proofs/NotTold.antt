-- What no transaction gives, the calls give in the second phase of a round's answer.
use Rattle.std.proofs.Common.{◌≡◌, ℕ, Bool, false, cond, List, [], ◌∷◌, ◌++◌, refl, ap, ◌∙◌, append-nil}
use Rattle.std.specs.Prelude.{Option, Some, filter}
use Rattle.std.specs.List.{flat_map}
use Rattle.std.proofs.lemmas.List.Elements.{filter-append}
use Rattle.sip_message.specs.declared.addr.Addr.{Addr}
use Rattle.sip_message.specs.declared.id.Id.{Id}
use Rattle.sip_message.specs.declared.key.Key.{Key}
use Rattle.sip_transactions.specs.declared.output.DropReason.{DropReason}
use Rattle.sip_transactions.specs.declared.output.Out.{Out}
use Rattle.sip_transactions.specs.declared.output.Out.TheVariants as out
use Rattle.sip_round.specs.Arrivals.{Arrival}
use Rattle.sip_round.specs.declared.config.Config.{Config}
use Rattle.sip_round.specs.declared.output.Output.{Output}
use Rattle.sip_round.specs.declared.output.Output.TheVariants as output
use Rattle.sip_round.specs.declared.round.Round.{Round}
use Rattle.sip_round.specs.Answers.{Past, answer, arrivals, first, given_second, said_by_transactions, third}
use Rattle.sip_round.specs.Outputs.{all_said, joined, outs_of, said_at, sent_of, call_outputs}
use Rattle.sip_round.proofs.AnswerParts.{answer_parts, sent_first}

-- no Send and no drop passes the test
module _ (passes : Output → Bool)
    (no_send : (key : Option Key) (to : Addr) (bytes : List ℕ)
    → passes (output.Send key to bytes) ≡ false)
    (no_drop : (place : ℕ) (why : DropReason) → passes (output.Dropped place why) ≡ false) where
  abbrev passing : List Output → List Output
  passing outputs = filter passes outputs

  skipped : (o : Output) (rest : List Output) → passes o ≡ false → passing (o ∷ rest) ≡ passing rest
  skipped o rest none = λ i. cond (none i) (o ∷ passing rest) (passing rest)

  none_sent : (outs : List Out) → passing (flat_map sent_of outs) ≡ []
  none_sent [] = refl
  none_sent (out.Up up ∷ outs) = none_sent outs
  none_sent (out.Send key to bytes ∷ outs) =
      skipped (output.Send (Some key) to bytes) (flat_map sent_of outs)
      (no_send (Some key) to bytes)
      ∙ none_sent outs
  none_sent (out.Dropped place why ∷ outs) =
      skipped (output.Dropped place why) (flat_map sent_of outs) (no_drop place why)
      ∙ none_sent outs

  none_of_arrivals : (said : ℕ → List Out) (arrivals : List (Id × Arrival))
      → passing (flat_map (λ a. flat_map sent_of (outs_of said a.0 a.1)) arrivals) ≡ []
  none_of_arrivals said [] = refl
  none_of_arrivals said (a ∷ arrivals) =
      filter-append passes (flat_map sent_of (outs_of said a.0 a.1))
      (flat_map (λ a. flat_map sent_of (outs_of said a.0 a.1)) arrivals)
      ∙ (λ i. none_sent (outs_of said a.0 a.1) i ++ none_of_arrivals said arrivals i)

  pub told_in_second : (config : Config) (number : ℕ) (past : Past) (round : Round)
      → passing (answer config number past round)
      ≡ passing (flat_map call_outputs (given_second config number past round))
  told_in_second config number past round =
      let told = said_by_transactions past.transactions (first config number past round) in
      let one = sent_first told (arrivals config number past round) in
      let reported = flat_map call_outputs (given_second config number past round) in
      let last = all_said (said_by_transactions
      (past.transactions ++ first config number past round ∷ [])
      (third config number past round)) in
      let none_first : passing one ≡ [] =
      filter-append passes (flat_map sent_of (joined told.ticks))
      (flat_map (λ a. flat_map sent_of (outs_of (said_at told) a.0 a.1))
      (arrivals config number past round))
      ∙ (λ i. none_sent (joined told.ticks) i
      ++ none_of_arrivals (said_at told) (arrivals config number past round) i) in
      ap passing (answer_parts config number past round)
      ∙ filter-append passes (one ++ reported) (flat_map sent_of last)
      ∙ (λ i. filter-append passes one reported i ++ none_sent last i)
      ∙ append-nil (passing one ++ passing reported)
      ∙ (λ i. none_first i ++ passing reported)
