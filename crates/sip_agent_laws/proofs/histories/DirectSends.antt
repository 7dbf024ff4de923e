-- The Sends without a transaction's key that rounds give are those that the calls say.
use Rattle.std.proofs.Common.{◌≡◌, ◌⊎◌, inl, inr, ⊎_elim, ℕ, suc, Bool, true, false, cond, List, [], ◌∷◌, ◌++◌, map, refl, sym, ap, ◌∙◌, subst, append-nil, arith}
use Rattle.std.specs.Prelude.{Contains, None, filter}
use Rattle.std.specs.declared.cmp.Ordering.{Ordering}
use Rattle.std.specs.BTreeMap.{is_at}
use Rattle.std.specs.Cmp.{IsTotalOrder}
use Rattle.std.specs.List.{AllByRecursion, flat_map}
use Rattle.std.proofs.lemmas.Bool.{false≢true}
use Rattle.std.proofs.lemmas.Cmp.{nat_list_cmp_total}
use Rattle.std.proofs.lemmas.List.Elements.{Contains-append_cases, Contains-append_left, Contains-append_right, Contains-push, Contains-push_cases, filter-append}
use Rattle.sip_message.specs.declared.addr.Addr.{Addr}
use Rattle.sip_message.specs.declared.id.Id.{Id}
use Rattle.keyed_machine.specs.Laws.{EachKeyAlone, said_by}
use Rattle.keyed_machine.specs.Machine.{Machine, tick_at}
use Rattle.keyed_machine.specs.Phase.{PhaseOutputs}
use Rattle.keyed_machine.specs.Rules.{said_since}
use Rattle.keyed_machine.proofs.Ordered.{is_at_itself}
use Rattle.sip_transactions.specs.declared.output.Out.{Out}
use Rattle.sip_transactions.specs.declared.output.Out.TheVariants as out
use Rattle.sip_user.specs.declared.item.CallOut.{CallOut}
use Rattle.sip_user.specs.declared.item.CallOut.TheVariants as call_out
use Rattle.sip_calls.specs.Call.{call_machine}
use Rattle.sip_calls.specs.CallShard.{call_cmp}
use Rattle.sip_round.specs.Answers.{Past, answer, answers, answers_from, arrivals, calls_of, each_from, first, given_second, no_past, past_after, past_of, said_by_calls, said_by_transactions, second, third}
use Rattle.sip_round.specs.Arrivals.{Arrival}
use Rattle.sip_round.specs.Given.{all_given}
use Rattle.sip_round.specs.Outputs.{all_said, call_outputs, joined, outs_of, said_at, sent_of}
use Rattle.sip_round.specs.declared.config.Config.{Config}
use Rattle.sip_round.specs.declared.output.Output.{Output}
use Rattle.sip_round.specs.declared.output.Output.TheVariants as output
use Rattle.sip_round.specs.declared.round.Round.{Round}
use Rattle.sip_round.proofs.AnswerParts.{answer_parts, sent_first}
use Rattle.sip_round.proofs.GivenNotices.{calls_are, calls_from}
use Rattle.sip_agent_laws.specs.Histories.DirectSends.{GivesAcksOfCalls, GivesDirectSends, direct_in, direct_sends, is_direct_send}
use Rattle.sip_agent_laws.proofs.histories.AckTexts.{directs_are_acks}

sends_append : (xs ys : List Output) → direct_sends (xs ++ ys) ≡ direct_sends xs ++ direct_sends ys
sends_append xs ys = filter-append is_direct_send xs ys

-- ---- what transactions send has their key

none_sent : (outs : List Out) → direct_sends (flat_map sent_of outs) ≡ []
none_sent [] = refl
none_sent (out.Up up ∷ outs) = none_sent outs
none_sent (out.Send key to bytes ∷ outs) = none_sent outs
none_sent (out.Dropped place why ∷ outs) = none_sent outs

none_of_arrivals : (said : ℕ → List Out) (arrivals : List (Id × Arrival))
    → direct_sends (flat_map (λ a. flat_map sent_of (outs_of said a.0 a.1)) arrivals) ≡ []
none_of_arrivals said [] = refl
none_of_arrivals said (a ∷ arrivals) =
    sends_append (flat_map sent_of (outs_of said a.0 a.1))
    (flat_map (λ a. flat_map sent_of (outs_of said a.0 a.1)) arrivals)
    ∙ (λ i. none_sent (outs_of said a.0 a.1) i ++ none_of_arrivals said arrivals i)

-- ---- what calls send

sent_directly : (outs : List CallOut)
    → direct_sends (flat_map call_outputs outs) ≡ flat_map direct_in outs
sent_directly [] = refl
sent_directly (call_out.Notice notice ∷ outs) = sent_directly outs
sent_directly (call_out.Command id command ∷ outs) = sent_directly outs
sent_directly (call_out.Direct to bytes ∷ outs) =
    ap (λ sends. output.Send None to bytes ∷ sends) (sent_directly outs)

-- ---- one round

module _ (config : Config) where
  answer_sends : (number : ℕ) (past : Past) (round : Round)
      → direct_sends (answer config number past round)
      ≡ flat_map direct_in (given_second config number past round)
  answer_sends number past round =
      let told = said_by_transactions past.transactions (first config number past round) in
      let one = sent_first told (arrivals config number past round) in
      let shown = flat_map call_outputs (given_second config number past round) in
      let last = all_said (said_by_transactions
      (past.transactions ++ first config number past round ∷ [])
      (third config number past round)) in
      let none_first : direct_sends one ≡ [] =
      sends_append (flat_map sent_of (joined told.ticks))
      (flat_map (λ a. flat_map sent_of (outs_of (said_at told) a.0 a.1))
      (arrivals config number past round))
      ∙ (λ i. none_sent (joined told.ticks) i
      ++ none_of_arrivals (said_at told) (arrivals config number past round) i) in
      ap direct_sends (answer_parts config number past round)
      ∙ sends_append (one ++ shown) (flat_map sent_of last)
      ∙ (λ i. sends_append one shown i ++ none_sent last i)
      ∙ append-nil (direct_sends one ++ direct_sends shown)
      ∙ (λ i. none_first i ++ sent_directly (given_second config number past round) i)

  sends_from : (number : ℕ) (past : Past) (rounds : List Round)
      → map direct_sends (answers_from config number past rounds)
      ≡ map (flat_map direct_in) (each_from given_second config number past rounds)
  sends_from number past [] = refl
  sends_from number past (round ∷ rounds) =
      λ i. answer_sends number past round i
      ∷ sends_from (suc number) (past_after config number past round) rounds i

pub direct_sends_given : (config : Config) (rounds : List Round)
    → GivesDirectSends config rounds (answers config rounds)
unfolding answers
direct_sends_given config rounds = sends_from config config.first no_past rounds

-- ---- the elements of lists

module _ {X : Type 0} where
  none_among : (x : X) → Contains [] x → ⊥
  none_among x among = let within = among.1 in absurd (omega arith)

  first_or_later : (y : X) (ys : List X) (x : X) → Contains (y ∷ ys) x → (y ≡ x) ⊎ Contains ys x
  first_or_later y ys x among =
      ⊎_elim (λ one. ⊎_elim (λ none. absurd (none_among x none)) (λ same. inl same)
      (Contains-push_cases [] y x one)) (λ later. inr later)
      (Contains-append_cases (y ∷ []) ys x among)

  among_first : (x : X) (xs : List X) → Contains (x ∷ xs) x
  among_first x xs = Contains-append_left (x ∷ []) xs x (Contains-push [] x)

  among_later : (y : X) (xs : List X) (x : X) → Contains xs x → Contains (y ∷ xs) x
  among_later y xs x among = Contains-append_right (y ∷ []) xs x among

  each_of : (P : X → Type 0) (xs : List X) (x : X) → AllByRecursion P xs → Contains xs x → P x
  each_of P [] x all among = absurd (none_among x among)
  each_of P (y ∷ ys) x all among =
      ⊎_elim (λ same. subst P same all.0) (λ later. each_of P ys x all.1 later)
      (first_or_later y ys x among)

-- ---- whatever is said in a phase, some key says

module _ {K S I O : Type 0} (cmp : K → K → Ordering) (total : IsTotalOrder cmp)
    (machine : Machine K S I O) (tick : ℕ → I) where
  in_groups : {L : Type 0} (key_of : L → K) (groups : List (L × List O)) (o : O)
      → Contains (joined groups) o → (key : K)
      × Contains (joined (filter (λ group. is_at (cmp key) (key_of group.0)) groups)) o
  in_groups key_of [] o among = absurd (none_among o among)
  in_groups {L} key_of (group ∷ groups) o among =
      ⊎_elim (λ here. (
        key_of group.0,
        subst (λ b. Contains (kept (key_of group.0) b) o)
            (sym (is_at_itself total (key_of group.0)))
            (Contains-append_left group.1 (rest (key_of group.0)) o here),
      ))
      (λ later. let one = in_groups key_of groups o later in
      (one.0, or_first one.0 (is_at (cmp one.0) (key_of group.0)) one.1))
      (Contains-append_cases group.1 (joined groups) o among)
    where
      rest : K → List O
      rest key = joined (filter (λ group. is_at (cmp key) (key_of group.0)) groups)

      kept : K → Bool → List O
      kept key b = joined (cond b (group
          ∷ filter (λ group. is_at (cmp key) (key_of group.0)) groups)
          (filter (λ group. is_at (cmp key) (key_of group.0)) groups))

      or_first : (key : K) (b : Bool) → Contains (rest key) o → Contains (kept key b) o
      or_first key true later = Contains-append_right group.1 (rest key) o later
      or_first key false later = later

  some_key : (told : PhaseOutputs K O) (o : O) → Contains (all_said told) o
      → (key : K) × Contains (said_by cmp machine tick key told) o
  some_key told o among =
      ⊎_elim
      (λ tick_says. let one = in_groups (λ key. key) told.ticks o tick_says in
      (one.0, Contains-append_left _ _ o one.1))
      (λ item_says. let one = in_groups (λ (place : ℕ × K). place.1) told.items o item_says in
      (one.0, Contains-append_right _ _ o one.1))
      (Contains-append_cases (joined told.ticks) (joined told.items) o among)

-- ---- whatever is sent without a key, some call says

-- the call that says a Send
abbrev SaidFrom : Config → ℕ → Past → List Round → CallOut → Type 0
SaidFrom config number past rounds o = (call_id : List ℕ)
    × Contains (said_since call_cmp (call_machine (calls_of config)) tick_at call_id past.calls
    (calls_from config number past rounds)) o

-- a Send without a key is what one of these says
shown_by : (outs : List CallOut) (to : Addr) (bytes : List ℕ)
    → Contains (flat_map direct_in outs) (output.Send None to bytes)
    → Contains outs (call_out.Direct to bytes)
shown_by [] to bytes among = absurd (none_among (output.Send None to bytes) among)
shown_by (call_out.Notice notice ∷ outs) to bytes among =
    among_later (call_out.Notice notice) outs (call_out.Direct to bytes)
    (shown_by outs to bytes among)
shown_by (call_out.Command id command ∷ outs) to bytes among =
    among_later (call_out.Command id command) outs (call_out.Direct to bytes)
    (shown_by outs to bytes among)
shown_by (call_out.Direct other text ∷ outs) to bytes among =
    ⊎_elim
    (λ same. let there : other ≡ to = cc in
    let so : text ≡ bytes = cc in
    subst (λ (o : CallOut). Contains (call_out.Direct other text ∷ outs) o)
    (λ i. call_out.Direct (there i) (so i))
    (among_first (call_out.Direct other text) outs))
    (λ later. among_later (call_out.Direct other text) outs (call_out.Direct to bytes)
    (shown_by outs to bytes later))
    (first_or_later (output.Send None other text) (flat_map direct_in outs)
    (output.Send None to bytes) among)

-- what is among outputs and passes the test is among those that pass
kept_direct : (outputs : List Output) (to : Addr) (bytes : List ℕ)
    → Contains outputs (output.Send None to bytes)
    → Contains (direct_sends outputs) (output.Send None to bytes)
kept_direct [] to bytes among = absurd (none_among (output.Send None to bytes) among)
kept_direct (o ∷ outputs) to bytes among =
    by_test (is_direct_send o) refl
    (⊎_elim (λ same. inl same) (λ later. inr (kept_direct outputs to bytes later))
    (first_or_later o outputs (output.Send None to bytes) among))
  where
    one : Output
    one = output.Send None to bytes

    by_test : (b : Bool) → is_direct_send o ≡ b → (o ≡ one) ⊎ Contains (direct_sends outputs) one
        → Contains (cond b (o ∷ direct_sends outputs) (direct_sends outputs)) one
    by_test true is (inl same) =
        subst (Contains (o ∷ direct_sends outputs)) same (among_first o (direct_sends outputs))
    by_test true is (inr later) = among_later o (direct_sends outputs) one later
    by_test false is (inl same) = absurd (false≢true (sym is ∙ ap is_direct_send same))
    by_test false is (inr later) = later

module _ (config : Config) (to : Addr) (bytes : List ℕ) where
  said_from : (number : ℕ) (past : Past) (rounds : List Round)
      → Contains (all_given (answers_from config number past rounds)) (output.Send None to bytes)
      → SaidFrom config number past rounds (call_out.Direct to bytes)
  unfolding given_second past_after
  said_from number past [] among = absurd (none_among (output.Send None to bytes) among)
  said_from number past (round ∷ rounds) among =
      let machine = call_machine (calls_of config) in
      let next = past_after config number past round in
      let told = said_by_calls (calls_of config) past.calls (second config number past round) in
      let rest = calls_from config (suc number) next rounds in
      ⊎_elim
      (λ here. let one = some_key call_cmp nat_list_cmp_total machine tick_at told
      (call_out.Direct to bytes)
      (shown_by (given_second config number past round) to bytes
      (subst (λ sends. Contains sends (output.Send None to bytes))
      (answer_sends config number past round)
      (kept_direct (answer config number past round) to bytes here))) in (
        one.0,
        Contains-append_left (said_by call_cmp machine tick_at one.0 told)
            (said_since call_cmp machine tick_at one.0 next.calls rest)
            (call_out.Direct to bytes) one.1,
      ))
      (λ later. let one = said_from (suc number) next rounds later in (
        one.0,
        Contains-append_right (said_by call_cmp machine tick_at one.0 told)
            (said_since call_cmp machine tick_at one.0 next.calls rest)
            (call_out.Direct to bytes) one.1,
      ))
      (Contains-append_cases (answer config number past round)
      (all_given (answers_from config (suc number) next rounds)) (output.Send None to bytes)
      among)

pub acks_of_calls_given : (config : Config)
    → EachKeyAlone call_cmp (call_machine (calls_of config)) tick_at
    → (rounds : List Round) → GivesAcksOfCalls config rounds (answers config rounds)
unfolding answers past_of
acks_of_calls_given config alone rounds to bytes among =
    let one = said_from config to bytes config.first no_past rounds among in
    let said = subst (λ phases. Contains (said_since call_cmp (call_machine (calls_of config))
    tick_at one.0 [] phases) (call_out.Direct to bytes))
    (sym (calls_are config config.first no_past rounds)) one.1 in
    record {
      call_id = one.0;
      said = said;
      ack = directs_are_acks config alone rounds one.0 to bytes said;
    }
