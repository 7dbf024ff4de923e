-- What a transaction sends to an address is among what its agent sends there.
use Rattle.std.proofs.Common.{◌≡◌, ℕ, ◌+◌, ◌≤◌, Bool, true, false, cond, List, [], ◌∷◌, ◌++◌, drop, length, refl, sym, ap, ◌∙◌, subst, arith, append_assoc}
use Rattle.std.specs.Prelude.{Option, None, count_by, filter}
use Rattle.std.specs.List.{flat_map}
use Rattle.std.proofs.Math.Seq.{drop-append_seam}
use Rattle.std.proofs.lemmas.Grind.{flat_map-append}
use Rattle.std.proofs.lemmas.List.Elements.{filter-append}
use Rattle.std.proofs.lemmas.List.Sums.{sum_by-append}
use Rattle.sip_message.specs.declared.addr.Addr.{Addr}
use Rattle.sip_message.specs.declared.key.Key.{Key}
use Rattle.sip_message.specs.Key.{key_cmp}
use Rattle.keyed_machine.specs.Laws.{EachKeyAlone}
use Rattle.keyed_machine.specs.Machine.{Machine, Timed, outputs_from, state_after, state_from, tick_at}
use Rattle.sip_transactions.specs.declared.input.Input.{Input}
use Rattle.sip_transactions.specs.declared.life.Life.{Life}
use Rattle.sip_transactions.specs.declared.output.Out.{Out}
use Rattle.sip_transactions.specs.declared.output.Out.TheVariants as out
use Rattle.sip_transactions.specs.Machine.{transaction_machine}
use Rattle.sip_round.specs.declared.config.Config.{Config}
use Rattle.sip_round.specs.declared.output.Output.{Output}
use Rattle.sip_round.specs.declared.round.Round.{Round}
use Rattle.sip_round.specs.Answers.{answer, answers, each_from, no_past, past_from, past_of}
use Rattle.sip_round.specs.Given.{all_given, is_send_with, send_in}
use Rattle.sip_round.specs.Laws.{inputs_of, said_of}
use Rattle.sip_round.proofs.GivenSends.{sends_given}
use Rattle.sip_round.proofs.Runs.{answers_count, each_from-append}
use Rattle.sip_round.proofs.Said.{transaction_alone}
use Rattle.sip_agent_laws.specs.Transactions.Copies.{copies, is_copy}
use Rattle.sip_conversation.specs.Delivery.{is_sent}
use Rattle.sip_conversation.proofs.RoundInputs.{inputs-append, inputs_after}

-- the outputs to inputs after others
pub outputs-append : (machine : Machine Key Life (Timed Input) Out) (key : Key)
    (held : Option Life) (before after : List (Timed Input))
    → outputs_from machine key held (before ++ after)
    ≡ outputs_from machine key held before
    ++ outputs_from machine key (state_from machine key held before) after
outputs-append machine key held [] after = refl
outputs-append machine key held (timed ∷ before) after =
    let step = machine.step key held timed in
    ap (λ more. step.1 ++ more) (outputs-append machine key step.0 before after)
    ∙ sym (append_assoc step.1 (outputs_from machine key step.0 before)
    (outputs_from machine key (state_from machine key step.0 before) after))

-- those that pass a test are no more than all
kept_step : {X : Type 0} (p q : X → Bool) (x : X) (xs kept : List X) (b : Bool)
    → count_by p kept ≤ count_by p xs
    → count_by p (cond b (x ∷ kept) kept) ≤ count_by p (x ∷ xs)
kept_step p q x xs kept true fewer =
    let one = sum_by-append (λ y. cond {A = ℕ} (p y) 1 0) (x ∷ []) kept in
    let other = sum_by-append (λ y. cond {A = ℕ} (p y) 1 0) (x ∷ []) xs in
    omega (arith, one, other, fewer)
kept_step p q x xs kept false fewer =
    let other = sum_by-append (λ y. cond {A = ℕ} (p y) 1 0) (x ∷ []) xs in
    omega (arith, other, fewer)

fewer_kept : {X : Type 0} (p q : X → Bool) (xs : List X) → count_by p (filter q xs) ≤ count_by p xs
fewer_kept p q [] = omega arith
fewer_kept p q (x ∷ xs) = kept_step p q x xs (filter q xs) (q x) (fewer_kept p q xs)

module _ (to : Addr) (bytes : List ℕ) where
  abbrev weight : Output → ℕ
  weight o = cond (is_sent to bytes o) 1 0

  -- the same of the outputs of a transaction, and of an agent
  same_count : (outs : List Out)
      → count_by (is_sent to bytes) (flat_map send_in outs) ≡ copies to bytes outs
  same_count [] = refl
  same_count (o ∷ outs) =
      sum_by-append weight (send_in o) (flat_map send_in outs)
      ∙ (ap (λ n. n + count_by (is_sent to bytes) (flat_map send_in outs)) (one o)
      ∙ (ap (λ n. copies to bytes (o ∷ []) + n) (same_count outs)
      ∙ sym (sum_by-append (λ o. cond {A = ℕ} (is_copy to bytes o) 1 0) (o ∷ []) outs)))
    where
      one : (o : Out) → count_by (is_sent to bytes) (send_in o) ≡ copies to bytes (o ∷ [])
      one (out.Up up) = refl
      one (out.Send key at sent) = refl
      one (out.Dropped place why) = refl

  module _ (alone : EachKeyAlone key_cmp transaction_machine tick_at) (config : Config)
      (rounds : List Round) (key : Key) where
    own_count : count_by (is_sent to bytes) (filter (is_send_with key)
        (all_given (answers config rounds)))
        ≡ copies to bytes (outputs_from transaction_machine key None (inputs_of config rounds key))
    own_count =
        ap (count_by (is_sent to bytes)) (sends_given config rounds key)
        ∙ (same_count (said_of config rounds key)
        ∙ ap (copies to bytes) (transaction_alone alone [] (past_of config rounds).transactions key))

    -- what it sends, from all its inputs
    pub sent_at_least : copies to bytes
        (outputs_from transaction_machine key None (inputs_of config rounds key))
        ≤ count_by (is_sent to bytes) (all_given (answers config rounds))
    sent_at_least =
        let given = all_given (answers config rounds) in
        subst (λ n. n ≤ count_by (is_sent to bytes) given) own_count
        (fewer_kept (is_sent to bytes) (is_send_with key) given)

  -- what it sends in rounds after others
  pub sent_after : EachKeyAlone key_cmp transaction_machine tick_at → (config : Config)
      (rounds more : List Round) (key : Key)
      → copies to bytes (outputs_from transaction_machine key
      (state_after transaction_machine key (inputs_of config rounds key))
      (inputs_after config key rounds more))
      ≤ count_by (is_sent to bytes)
      (all_given (drop (length rounds) (answers config (rounds ++ more))))
  unfolding answers
  sent_after alone config rounds more key =
      let first = inputs_of config rounds key in
      let later = inputs_after config key rounds more in
      let outs = outputs_from transaction_machine key None first in
      let more_outs = outputs_from transaction_machine key
      (state_after transaction_machine key first) later in
      let own = is_send_with key in
      let before = each_from answer config config.first no_past rounds in
      let after = each_from answer config (config.first + length rounds)
      (past_from config config.first no_past rounds) more in
      let parts : answers config (rounds ++ more) ≡ before ++ after =
      each_from-append config answer config.first no_past rounds more in
      let dropped : drop (length rounds) (answers config (rounds ++ more)) ≡ after =
      ap (drop (length rounds)) parts
      ∙ (ap (λ n. drop n (before ++ after)) (sym (answers_count config config.first no_past rounds))
      ∙ drop-append_seam before after) in
      subst (λ given. copies to bytes more_outs ≤ count_by (is_sent to bytes) (all_given given))
      (sym dropped)
      (omega (
        arith,
        own_count alone config (rounds ++ more) key,
        ap (λ inputs. copies to bytes (outputs_from transaction_machine key None inputs))
            (inputs-append config key rounds more),
        ap (copies to bytes) (outputs-append transaction_machine key None first later),
        sum_by-append (λ o. cond {A = ℕ} (is_copy to bytes o) 1 0) outs more_outs,
        ap (λ given. count_by (is_sent to bytes) (filter own (all_given given))) parts,
        ap (λ given. count_by (is_sent to bytes) (filter own given))
            (flat_map-append (λ outputs. outputs) before after),
        ap (count_by (is_sent to bytes)) (filter-append own (all_given before) (all_given after)),
        sum_by-append (λ o. cond {A = ℕ} (is_sent to bytes o) 1 0) (filter own (all_given before))
            (filter own (all_given after)),
        own_count alone config rounds key,
        fewer_kept (is_sent to bytes) own (all_given after),
      ))

  pub later_copies : (key : Key) (before after : List (Timed Input))
      → state_after transaction_machine key before ≡ None
      → copies to bytes (outputs_from transaction_machine key None after)
      ≤ copies to bytes (outputs_from transaction_machine key None (before ++ after))
  later_copies key before after new =
      let early = outputs_from transaction_machine key None before in
      let later = outputs_from transaction_machine key None after in
      let all = outputs-append transaction_machine key None before after
      ∙ ap (λ held. early ++ outputs_from transaction_machine key held after) new in
      let sum = sum_by-append (λ o. cond {A = ℕ} (is_copy to bytes o) 1 0) early later in
      subst (λ outs. copies to bytes later ≤ copies to bytes outs) (sym all)
      (omega (arith, sum))
