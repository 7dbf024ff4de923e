-- What is sent in rounds: by transactions, with their keys, and by calls, directly.
use Rattle.std.proofs.Common.{ℕ, suc, List, [], ◌∷◌, ◌++◌, sym, subst}
use Rattle.std.specs.Prelude.{Contains, None, Some}
use Rattle.std.specs.List.{AllByRecursion, flat_map}
use Rattle.sip_message.specs.declared.addr.Addr.{Addr}
use Rattle.sip_message.specs.declared.id.Id.{Id}
use Rattle.sip_message.specs.declared.key.Key.{Key}
use Rattle.sip_message.specs.Key.{keys_total}
use Rattle.keyed_machine.proofs.Ordered.{is_at_itself}
use Rattle.sip_transactions.specs.declared.output.Out.{Out}
use Rattle.sip_transactions.specs.declared.output.Out.TheVariants as out
use Rattle.sip_user.specs.declared.item.CallOut.{CallOut}
use Rattle.sip_user.specs.declared.item.CallOut.TheVariants as call_out
use Rattle.sip_held_dialogs.proofs.Each.{all_of_each, both}
use Rattle.sip_round.specs.declared.config.Config.{Config}
use Rattle.sip_round.specs.declared.output.Output.{Output}
use Rattle.sip_round.specs.declared.output.Output.TheVariants as output
use Rattle.sip_round.specs.declared.round.Round.{Round}
use Rattle.sip_round.specs.Answers.{Past, answer, answers, answers_from, arrivals, first, given_second, no_past, past_after, said_by_transactions, third}
use Rattle.sip_round.specs.Arrivals.{Arrival}
use Rattle.sip_round.specs.Given.{all_given, is_send_with, send_in}
use Rattle.sip_round.specs.Laws.{said_of}
use Rattle.sip_round.specs.Outputs.{all_said, joined, outs_of, said_at, sent_of, call_outputs}
use Rattle.sip_round.proofs.AnswerParts.{answer_parts, sent_first}
use Rattle.sip_round.proofs.GivenSends.{sends_given}
use Rattle.sip_conversation.proofs.Among.{among_kept, each_of}
use Rattle.sip_conversation.proofs.Rounds.{all_of_parts, calls_give}

-- ---- with the key of a transaction

module _ (config : Config) (rounds : List Round) (Fits : List ℕ → Type 0) where
  abbrev pub SendFits : Out → Type 0
  SendFits (out.Up up) = Unit {0}
  SendFits (out.Send key to bytes) = Fits bytes
  SendFits (out.Dropped place why) = Unit {0}

  abbrev OutputFits : Output → Type 0
  OutputFits (output.Send key to bytes) = Fits bytes
  OutputFits (output.Dropped place why) = Unit {0}
  OutputFits (output.Notice notice) = Unit {0}

  sends_fit : (outs : List Out) → AllByRecursion SendFits outs
      → AllByRecursion OutputFits (flat_map send_in outs)
  sends_fit [] fit = tt
  sends_fit (out.Up up ∷ outs) fit = sends_fit outs fit.1
  sends_fit (out.Send key to bytes ∷ outs) fit = (fit.0, sends_fit outs fit.1)
  sends_fit (out.Dropped place why ∷ outs) fit = sends_fit outs fit.1

  -- what transactions send fits, if all that each of them says to send does
  pub own_sends_fit : ((key : Key) → AllByRecursion SendFits (said_of config rounds key))
      → (key : Key) (to : Addr) (bytes : List ℕ)
      → Contains (all_given (answers config rounds)) (output.Send (Some key) to bytes)
      → Fits bytes
  own_sends_fit fit key to bytes among =
      let sent : Output = output.Send (Some key) to bytes in
      each_of OutputFits (flat_map send_in (said_of config rounds key)) sent
      (sends_fit (said_of config rounds key) (fit key))
      (subst (λ outs. Contains outs sent) (sends_given config rounds key)
      (among_kept (is_send_with key) (all_given (answers config rounds)) sent among
      (is_at_itself keys_total key)))

-- ---- outside of any transaction

module _ (Fits : CallOut → Type 0) where
  abbrev DirectFits : Output → Type 0
  DirectFits (output.Send (Some key) to bytes) = Unit {0}
  DirectFits (output.Send None to bytes) = Fits (call_out.Direct to bytes)
  DirectFits (output.Dropped place why) = Unit {0}
  DirectFits (output.Notice notice) = Unit {0}

  sent_fit : (outs : List Out) → AllByRecursion DirectFits (flat_map sent_of outs)
  sent_fit [] = tt
  sent_fit (out.Up up ∷ outs) = sent_fit outs
  sent_fit (out.Send key to bytes ∷ outs) = (tt, sent_fit outs)
  sent_fit (out.Dropped place why ∷ outs) = (tt, sent_fit outs)

  shown_fit : (outs : List CallOut) → AllByRecursion Fits outs
      → AllByRecursion DirectFits (flat_map call_outputs outs)
  shown_fit [] fit = tt
  shown_fit (call_out.Notice notice ∷ outs) fit = (tt, shown_fit outs fit.1)
  shown_fit (call_out.Command id command ∷ outs) fit = shown_fit outs fit.1
  shown_fit (call_out.Direct to bytes ∷ outs) fit = (fit.0, shown_fit outs fit.1)

  module _ (config : Config) where
    answer_fits : (number : ℕ) (past : Past) (round : Round)
        → AllByRecursion Fits (given_second config number past round)
        → AllByRecursion DirectFits (answer config number past round)
    answer_fits number past round fit =
        let told = said_by_transactions past.transactions (first config number past round) in
        let came = arrivals config number past round in
        let reported = flat_map call_outputs (given_second config number past round) in
        let last = all_said (said_by_transactions
        (past.transactions ++ first config number past round ∷ [])
        (third config number past round)) in
        let sent : Id × Arrival → List Output =
        λ a. flat_map sent_of (outs_of (said_at told) a.0 a.1) in
        subst (AllByRecursion DirectFits) (sym (answer_parts config number past round))
        (both DirectFits (sent_first told came ++ reported) (flat_map sent_of last)
        (both DirectFits (sent_first told came) reported
        (both DirectFits (flat_map sent_of (joined told.ticks)) (flat_map sent came)
        (sent_fit (joined told.ticks))
        (all_of_each DirectFits sent (λ a. sent_fit (outs_of (said_at told) a.0 a.1)) came))
        (shown_fit (given_second config number past round) fit))
        (sent_fit last))

    given_fits : (number : ℕ) (past : Past) (rounds : List Round)
        → AllByRecursion Fits (calls_give config number past rounds)
        → AllByRecursion DirectFits (all_given (answers_from config number past rounds))
    given_fits number past [] fit = tt
    given_fits number past (round ∷ rounds) fit =
        let next = past_after config number past round in
        let parts = all_of_parts Fits (given_second config number past round)
        (calls_give config (suc number) next rounds) fit in
        both DirectFits (answer config number past round)
        (all_given (answers_from config (suc number) next rounds))
        (answer_fits number past round parts.0)
        (given_fits (suc number) next rounds parts.1)

    -- what is sent without a key is sent directly by a call
    pub direct_sends_fit : (rounds : List Round)
        → AllByRecursion Fits (calls_give config config.first no_past rounds)
        → (to : Addr) (bytes : List ℕ)
        → Contains (all_given (answers config rounds)) (output.Send None to bytes)
        → Fits (call_out.Direct to bytes)
    unfolding answers
    direct_sends_fit rounds fit to bytes among =
        each_of DirectFits (all_given (answers_from config config.first no_past rounds))
        (output.Send None to bytes) (given_fits config.first no_past rounds fit) among
