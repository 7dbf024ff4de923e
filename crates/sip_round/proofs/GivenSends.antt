-- The Sends with a transaction's key that rounds give are those that its own history says.
use Rattle.std.proofs.Common.{◌≡◌, ℕ, suc, ◌≤◌, Bool, true, false, cond, List, [], ◌∷◌, ◌++◌, map, nat_eq, refl, sym, ap, ◌∙◌, append-nil, append_assoc, subst, arith}
use Rattle.std.specs.Prelude.{Option, filter}
use Rattle.std.specs.BTreeMap.{is_at}
use Rattle.std.specs.List.{flat_map}
use Rattle.std.proofs.lemmas.Grind.{common_steps, flat_map-append}
use Rattle.std.proofs.lemmas.List.Elements.{filter-append}
use Rattle.sip_message.specs.declared.addr.Addr.{Addr}
use Rattle.sip_message.specs.declared.id.Id.{Id}
use Rattle.sip_message.specs.declared.key.Key.{Key}
use Rattle.sip_message.specs.Key.{key_cmp}
use Rattle.keyed_machine.specs.declared.item.Item as model
use Rattle.keyed_machine.specs.Laws.{said_by}
use Rattle.keyed_machine.specs.Machine.{Timed, adds, given_at, next, tick_at}
use Rattle.keyed_machine.specs.Phase.{Phase, states_after, stepped, timed_items, told_items}
use Rattle.keyed_machine.specs.Rules.{said_since}
use Rattle.sip_transactions.specs.declared.input.Input.{Input}
use Rattle.sip_transactions.specs.declared.life.Life.{Life}
use Rattle.sip_transactions.specs.declared.output.Out.{Out}
use Rattle.sip_transactions.specs.Machine.{transaction_machine}
use Rattle.sip_user.specs.declared.item.CallOut.{CallOut}
use Rattle.sip_user.specs.declared.item.CallOut.TheVariants as call_out
use Rattle.sip_round.specs.Arrivals as arrival
use Rattle.sip_round.specs.declared.config.Config.{Config}
use Rattle.sip_round.specs.declared.output.Output.{Output}
use Rattle.sip_round.specs.declared.round.Event.{Event}
use Rattle.sip_round.specs.declared.round.Round.{Round}
use Rattle.sip_round.specs.Answers.{Past, answer, answers, answers_from, arrivals, first, given_second, no_past, past_after, past_of, said_by_transactions, third}
use Rattle.sip_round.specs.Arrivals.{Arrival, arrival_of, arrivals_from}
use Rattle.sip_round.specs.Given.{AnswersGiveOwnSends, all_given, send_in, sends_with}
use Rattle.sip_round.specs.Outputs.{all_said, joined, outs_of, said_at, sent_of, call_outputs}
use Rattle.sip_round.specs.Phases.{transaction_item, transaction_items}
use Rattle.sip_round.proofs.AnswerParts.{answer_parts, sent_first}
use Rattle.sip_round.proofs.CallEvents.{TellsAt, arrivals_climb, none_later}
use Rattle.sip_shards.proofs.Climbing.{Climbs}
use Rattle.sip_round.proofs.NamesRise.{Later, one_round_more}
use Rattle.sip_round.proofs.OwnOutputs.{AreAllOwn, none_own, phase_own}
use Rattle.sip_round.proofs.Said.{told_by_transactions, transactions_say}

-- ---- what a transaction says, and what calls say

-- the Sends with a key, of what a transaction sends or drops
abbrev picked : Key → Out → List Output
picked q out = sends_with q (sent_of out)

pub sends_append : (q : Key) (xs ys : List Output)
    → sends_with q (xs ++ ys) ≡ sends_with q xs ++ sends_with q ys
sends_append q xs ys = filter-append _ xs ys

sends_said : (q : Key) (outs : List Out)
    → sends_with q (flat_map sent_of outs) ≡ flat_map (picked q) outs
sends_said q [] = refl
sends_said q (out ∷ outs) =
    sends_append q (sent_of out) (flat_map sent_of outs)
    ∙ ap (λ sends. picked q out ++ sends) (sends_said q outs)

-- what a call says never has a transaction's key
none_shown : (q : Key) (outs : List CallOut) → sends_with q (flat_map call_outputs outs) ≡ []
none_shown q [] = refl
none_shown q (call_out.Notice notice ∷ outs) = none_shown q outs
none_shown q (call_out.Command id command ∷ outs) = none_shown q outs
none_shown q (call_out.Direct to bytes ∷ outs) = none_shown q outs

-- ---- what the items of the first phase say, by place

abbrev told_by : (Key → Option Life) → ℕ → List (model.Item Key Input)
    → List ((ℕ × Key) × List Out)
told_by states now items = told_items key_cmp transaction_machine states (timed_items now items)

abbrev sent_at : (ℕ → List Out) → Id × Arrival → List Output
sent_at said a = flat_map sent_of (outs_of said a.0 a.1)

same_place : (place : ℕ) → nat_eq place place ≡ true
same_place place = grind (arith, common_steps)

other_place : (place at : ℕ) → suc place ≤ at → nat_eq place at ≡ false
other_place place at above = grind (arith, common_steps, above)

module _ (q : Key) (now round : ℕ) (said : ℕ → List Out) where
  -- what is said from a place on is said for these items
  abbrev TellFrom : ℕ → (Key → Option Life) → List (model.Item Key Input) → Type 0
  TellFrom place states items =
      (at : ℕ) → place ≤ at → said at ≡ TellsAt at (told_by states now items)

  -- the Sends for these arrivals are those that their items say
  abbrev SendsOf : List (Id × Arrival) → (Key → Option Life) → List (model.Item Key Input) → Type 0
  SendsOf arrivals states items = sends_with q (flat_map (sent_at said) arrivals)
      ≡ flat_map (picked q) (joined (told_by states now items))

  one_sent : (place : ℕ) (states : Key → Option Life) (a : Arrival) (later : List (Id × Arrival))
      → Climbs (suc place) (map (λ item. item.place) (timed_items now (transaction_items later)))
      → TellFrom place states
      (transaction_item (record { round = round; place = place }) a ++ transaction_items later)
      → ((after : Key → Option Life) → TellFrom (suc place) after (transaction_items later)
      → SendsOf later after (transaction_items later))
      → SendsOf ((record { round = round; place = place }, a) ∷ later) states
      (transaction_item (record { round = round; place = place }) a ++ transaction_items later)
  one_sent place states (arrival.Transaction key input) later climbs tells more =
      let item : model.Item Key (Timed Input) =
      record { place = place; key = key; input = given_at now input } in
      let after = stepped key_cmp transaction_machine states item in
      let here = adds transaction_machine key (states key) (given_at now input) in
      let rest = told_by after now (transaction_items later) in
      let told : ℕ → Bool → List Out = λ at hit.
      joined (cond hit (((place, key), here) ∷ filter (λ group. nat_eq (group.0).0 at) rest)
      (filter (λ group. nat_eq (group.0).0 at) rest)) in
      let said_here : said place ≡ here =
      tells place (omega arith) ∙ ap (told place) (same_place place)
      ∙ ap (λ outs. here ++ outs)
      (none_later place (suc place) after (timed_items now (transaction_items later)) (omega arith)
      climbs)
      ∙ append-nil here in
      sends_append q (flat_map sent_of (said place)) (flat_map (sent_at said) later)
      ∙ ap (λ sends. sends ++ sends_with q (flat_map (sent_at said) later))
      (sends_said q (said place) ∙ ap (flat_map (picked q)) said_here)
      ∙ ap (λ sends. flat_map (picked q) here ++ sends)
      (more after (λ at above. tells at (omega (arith, above))
      ∙ ap (told at) (other_place place at above)))
      ∙ sym (flat_map-append (picked q) here (joined rest))
  one_sent place states (arrival.Dropped why) later climbs tells more =
      more states (λ at above. tells at (omega (arith, above)))
  one_sent place states (arrival.User command) later climbs tells more =
      more states (λ at above. tells at (omega (arith, above)))

  sent_of_arrivals : (local : Addr) (place : ℕ) (states : Key → Option Life) (events : List Event)
      → TellFrom place states (transaction_items (arrivals_from local round place events))
      → SendsOf (arrivals_from local round place events) states
      (transaction_items (arrivals_from local round place events))
  sent_of_arrivals local place states [] tells = refl
  sent_of_arrivals local place states (e ∷ events) tells =
      one_sent place states (arrival_of local (record { round = round; place = place }) e)
      (arrivals_from local round (suc place) events)
      (arrivals_climb now local round (suc place) events) tells
      (λ after later. sent_of_arrivals local (suc place) after events later)

-- ---- one round

-- what a phase sends with a key
sends_are_own : AreAllOwn Output send_in picked
sends_are_own = record {
  sends = λ q key to bytes. refl;
  ups = λ q key context kind. none_own Output (is_at (key_cmp q) key);
  drops = λ q key place. none_own Output (is_at (key_cmp q) key);
}

module _ (q : Key) (config : Config) (number : ℕ) (past : Past) (round : Round) where
  abbrev of_phase : List (Phase Key (Timed Input)) → Phase Key (Timed Input) → List Output
  of_phase before phase = flat_map send_in
      (said_by key_cmp transaction_machine tick_at q (said_by_transactions before phase))

  first_sent : sends_with q (sent_first
      (said_by_transactions past.transactions (first config number past round))
      (arrivals config number past round))
      ≡ of_phase past.transactions (first config number past round)
  unfolding first
  first_sent =
      let phase = first config number past round in
      let came = arrivals config number past round in
      let told = told_by_transactions past.transactions phase in
      let states : Key → Option Life = λ key.
      next transaction_machine key
      (states_after key_cmp transaction_machine tick_at past.transactions key)
      (tick_at round.moment) in
      subst (λ said. sends_with q (sent_first said came) ≡ flat_map (picked q) (all_said said))
      (transactions_say past.transactions phase)
      (sends_append q (flat_map sent_of (joined told.ticks))
      (flat_map (sent_at (said_at told)) came)
      ∙ (λ i. sends_said q (joined told.ticks) i
      ++ sent_of_arrivals q round.moment number (said_at told) config.local 1 states round.events
      (λ at above. refl) i)
      ∙ sym (flat_map-append (picked q) (joined told.ticks) (joined told.items)))
      ∙ phase_own Output send_in picked sends_are_own q past.transactions phase

  answer_sent : sends_with q (answer config number past round)
      ≡ of_phase past.transactions (first config number past round)
      ++ of_phase (past.transactions ++ first config number past round ∷ [])
      (third config number past round)
  answer_sent =
      let before = past.transactions ++ first config number past round ∷ [] in
      let told = said_by_transactions before (third config number past round) in
      let one = sent_first
      (said_by_transactions past.transactions (first config number past round))
      (arrivals config number past round) in
      let reported = flat_map call_outputs (given_second config number past round) in
      ap (sends_with q) (answer_parts config number past round)
      ∙ sends_append q (one ++ reported) (flat_map sent_of (all_said told))
      ∙ ap (λ sends. sends ++ sends_with q (flat_map sent_of (all_said told)))
      (sends_append q one reported
      ∙ (λ i. first_sent i ++ none_shown q (given_second config number past round) i)
      ∙ append-nil (of_phase past.transactions (first config number past round)))
      ∙ ap (λ sends. of_phase past.transactions (first config number past round) ++ sends)
      (sends_said q (all_said told)
      ∙ phase_own Output send_in picked sends_are_own q before (third config number past round))

-- ---- over rounds

module _ (q : Key) (config : Config) where
  -- what rounds give is what their phases say
  abbrev Given : ℕ → Past → List Round → List (Phase Key (Timed Input)) → Type 0
  Given number past rounds phases =
      sends_with q (all_given (answers_from config number past rounds))
      ≡ flat_map send_in (said_since key_cmp transaction_machine tick_at q past.transactions phases)

  one_round_given : (number : ℕ) (past : Past) (round : Round) (rounds : List Round)
      (phases : List (Phase Key (Timed Input)))
      → Given (suc number) (past_after config number past round) rounds phases
      → Given number past (round ∷ rounds)
      (first config number past round ∷ third config number past round ∷ phases)
  unfolding past_after
  one_round_given number past round rounds phases later =
      let one = first config number past round in
      let two = third config number past round in
      let between = past.transactions ++ one ∷ [] in
      let by : List (Phase Key (Timed Input)) → Phase Key (Timed Input) → List Out =
      λ before phase.
      said_by key_cmp transaction_machine tick_at q (said_by_transactions before phase) in
      let rest = said_since key_cmp transaction_machine tick_at q (between ++ two ∷ []) phases in
      sends_append q (answer config number past round)
      (all_given (answers_from config (suc number) (past_after config number past round) rounds))
      ∙ (λ i. answer_sent q config number past round i ++ later i)
      ∙ append_assoc (flat_map send_in (by past.transactions one))
      (flat_map send_in (by between two)) (flat_map send_in rest)
      ∙ ap (λ sends. flat_map send_in (by past.transactions one) ++ sends)
      (sym (flat_map-append send_in (by between two) rest))
      ∙ sym (flat_map-append send_in (by past.transactions one) (by between two ++ rest))

  given : (rounds : List Round) (number : ℕ) (past : Past)
      → Later config number past rounds (Given number past rounds)
  given [] number past = record {
    more = [];
    transactions = sym (append-nil past.transactions);
    holds = refl;
  }
  given (round ∷ rounds) number past =
      one_round_more config number past round rounds
      (Given (suc number) (past_after config number past round) rounds)
      (Given number past (round ∷ rounds))
      (one_round_given number past round rounds)
      (given rounds (suc number) (past_after config number past round))

pub sends_given : AnswersGiveOwnSends
unfolding answers past_of
sends_given config rounds q =
    let all = given q config rounds config.first no_past in
    all.holds ∙ ap (λ phases. flat_map send_in
    (said_since key_cmp transaction_machine tick_at q [] phases)) (sym all.transactions)
