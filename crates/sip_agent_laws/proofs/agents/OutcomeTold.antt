-- Once a request doesn't wait for its outcome any longer, the application was told of it.
use Rattle.std.proofs.Common.{◌≡◌, ◌⊎◌, inl, inr, ⊎_elim, ℕ, suc, ◌+◌, ◌*◌, ◌≤◌, Bool, true, false, cond, ◌&&◌, ◌||◌, List, [], ◌∷◌, ◌++◌, refl, sym, ap, ◌∙◌, subst, arith}
use Rattle.std.specs.Prelude.{Contains, Option, None, Some, count_by, nat_le}
use Rattle.std.specs.List.{AllByRecursion, list_any}
use Rattle.std.proofs.lemmas.Bool.{false≢true}
use Rattle.std.proofs.lemmas.Grind.{flat_map-append}
use Rattle.std.proofs.lemmas.List.Elements.{Contains-append_left, Contains-append_right, Contains-push}
use Rattle.sip_message.specs.Key.{key_cmp}
use Rattle.sip_message.specs.declared.id.Id.{Id}
use Rattle.sip_message.specs.declared.key.Key.{Key}
use Rattle.sip_message.specs.declared.start_line.StartLine.{StartLine}
use Rattle.sip_message.specs.declared.start_line.StartLine.TheVariants as start_line
use Rattle.sip_timers.specs.declared.estimate.TheConstants.{LIFETIME, T1}
use Rattle.keyed_machine.specs.declared.item.Item as model
use Rattle.keyed_machine.specs.Machine.{Timed, state_from, tick_at}
use Rattle.keyed_machine.specs.Phase.{inputs_of as own_items, own_inputs, timed_items}
use Rattle.keyed_machine.proofs.Ordered.{by_bool}
use Rattle.sip_transactions.specs.declared.input.Input.{Input}
use Rattle.sip_transactions.specs.declared.life.Life.{Life}
use Rattle.sip_transactions.specs.declared.output.UpKind.{UpKind}
use Rattle.sip_transactions.specs.declared.output.UpKind.TheVariants as kind
use Rattle.sip_transactions.specs.declared.state.Role.TheVariants as role
use Rattle.sip_transactions.specs.Steps.Input.{is_abandon, role_of}
use Rattle.sip_transactions.proofs.Rules.{at_steps}
use Rattle.sip_user.specs.Command.{call_of_item}
use Rattle.sip_user.specs.declared.item.Item.{Item}
use Rattle.sip_user.specs.declared.notice.Notice.{Notice}
use Rattle.sip_held_dialogs.specs.Requests.{is_final}
use Rattle.sip_held_dialogs.proofs.Starts.{starts}
use Rattle.sip_clients.specs.Rules.Responses.{status_of}
use Rattle.sip_calls.specs.Call.{CallItem}
use Rattle.sip_round.specs.declared.config.Config.{Config}
use Rattle.sip_round.specs.declared.output.Output.{Output}
use Rattle.sip_round.specs.declared.output.Output.TheVariants as output
use Rattle.sip_round.specs.declared.round.Round.{Round}
use Rattle.sip_round.specs.Answers.{Past, answer, answers, each_from, first, given_second, items_of_round, no_past, past_after, past_from, past_of, third}
use Rattle.sip_round.specs.Given.{all_given}
use Rattle.sip_round.specs.Laws.{inputs_of}
use Rattle.sip_round.specs.Phases.{call_items}
use Rattle.sip_agent_laws.specs.Agents.AtRest.{reaches}
use Rattle.sip_agent_laws.specs.Agents.Outcomes.{Causes, EachRequestHasOneOutcome, OutcomeIsTold, Sends, Tells, is_given_up, is_outcome_of, outcomes_told, tells_outcome}
use Rattle.sip_agent_laws.specs.Transactions.Outcomes.{is_final as is_final_line, is_outcome}
use Rattle.sip_agent_laws.proofs.agents.Apart.{starts_from}
use Rattle.sip_agent_laws.proofs.agents.ClientsHeld.{IsCommanded, id_itself}
use Rattle.sip_agent_laws.proofs.agents.EachOutcome.{IsKept, RoundCame, all_kept, answer_sides, given_to, is_commanded, number_from, one_kept, past_parts, round_goes, told_given, two_parts, walk}
use Rattle.sip_agent_laws.proofs.agents.EachOutcome as round_of
use Rattle.sip_agent_laws.proofs.agents.EndTold.{one_counted}
use Rattle.sip_agent_laws.proofs.agents.Going.{GoesOn, IsGoing, IsNew, going_new, new_run, none_at, none_then}
use Rattle.sip_agent_laws.proofs.agents.Items.{requests_among}
use Rattle.sip_agent_laws.proofs.agents.Linked.{IsLinked, after_is, first_items, given, items, lives_between, lives_in, lives_ticked, no_events}
use Rattle.sip_agent_laws.proofs.agents.LinkedRounds.{IsFair, all_fair, fair_next, linked_next, nothing_linked}
use Rattle.sip_agent_laws.proofs.agents.Lists.{Among, among_left, among_right}
use Rattle.sip_agent_laws.proofs.agents.OneOutcome.{at_most_one_is_told, brings, brought, brought_once}
use Rattle.sip_agent_laws.proofs.agents.OneUp.{count_first, left}
use Rattle.sip_agent_laws.proofs.agents.OpenLives.{is_server}
use Rattle.sip_agent_laws.proofs.calls.OneTold.{brings_outcome}
use Rattle.sip_agent_laws.proofs.transactions.Inputs.{HeldIn}
use Rattle.sip_agent_laws.proofs.transactions.Timed.{IsTimed, is_timed, reached}
use Rattle.sip_agent_laws.proofs.agents.Commands.{orders}

-- ---- lists

contained : {X : Type 0} (xs : List X) (x : X) → Among xs x → Contains xs x
contained [] x among = absurd among
contained (y ∷ ys) x (inl same) =
    subst (Contains (y ∷ ys)) same (Contains-append_left (y ∷ []) ys y (Contains-push [] y))
contained (y ∷ ys) x (inr later) = Contains-append_right (y ∷ []) ys x (contained ys x later)

all_each : {X : Type 0} (P : X → Type 0) (xs : List X) → ((x : X) → Among xs x → P x)
    → AllByRecursion P xs
all_each P [] each = tt
all_each P (x ∷ xs) each = (each x (inl refl), all_each P xs (λ y among. each y (inr among)))

-- ---- the items of the calls, counted

counts_same : (x : Id) (now at : ℕ) (came : List (Id × Item))
    → count_by (λ item. brings_outcome x item.input.input) (timed_items now (call_items at came))
    ≡ brought x came
counts_same x now at [] = refl
counts_same x now at (i ∷ came) =
    let rest = timed_items now (call_items (suc at) came) in
    let first : model.Item (List ℕ) (Timed CallItem) = record {
      place = at;
      key = call_of_item i.1;
      input = record { moment = now; input = Some i };
    } in
    count_first (λ item. brings_outcome x item.input.input) first rest
    ∙ (ap (λ n. cond {A = ℕ} (brings_outcome x (Some i)) 1 0 + n) (counts_same x now (suc at) came)
    ∙ sym (count_first (brings x) i came))

at_most_one : (a b : Bool) → cond {A = ℕ} a (cond {A = ℕ} b 1 0) 0 ≤ 1
at_most_one true true = omega arith
at_most_one true false = omega arith
at_most_one false b = omega arith

-- ---- the inputs of a transaction

module _ (config : Config) (k : Key) where
  given_grows : (rounds : List Round) (number : ℕ) (past : Past) (timed : Timed Input)
      → Among (given_to past.transactions k) timed
      → Among (given_to (past_from config number past rounds).transactions k) timed
  unfolding past_after
  given_grows [] number past timed among = among
  given_grows (round ∷ rounds) number past timed among =
      let one = first config number past round ∷ [] in
      let last = third config number past round ∷ [] in
      given_grows rounds (suc number) (past_after config number past round) timed
      (subst (λ all. Among all timed) (sym (two_parts (past.transactions ++ one) last k))
      (among_left (given_to (past.transactions ++ one) k) (given_to last k) timed
      (subst (λ all. Among all timed) (sym (two_parts past.transactions one k))
      (among_left (given_to past.transactions k) (given_to one k) timed among))))

  round_given : (number : ℕ) (past : Past) (round : Round) (timed : Timed Input)
      → Among (own_inputs key_cmp tick_at (first config number past round) k) timed
      → Among (given_to (past_after config number past round).transactions k) timed
  unfolding past_after
  round_given number past round timed among =
      let one = first config number past round ∷ [] in
      let last = third config number past round ∷ [] in
      subst (λ all. Among all timed) (sym (two_parts (past.transactions ++ one) last k))
      (among_left (given_to (past.transactions ++ one) k) (given_to last k) timed
      (subst (λ all. Among all timed) (sym (two_parts past.transactions one k))
      (among_right (given_to past.transactions k) (given_to one k) timed
      (among_left (own_inputs key_cmp tick_at (first config number past round) k) [] timed among))))

  round_came : (number : ℕ) (past : Past) (round : Round) (Came : Timed Input → Type 0)
      → ((timed : Timed Input)
      → Among (own_inputs key_cmp tick_at (first config number past round) k) timed → Came timed)
      → RoundCame config number past round k Came
  unfolding first
  round_came number past round Came each = record {
    tick = each (tick_at round.moment) (inl refl);
    items = all_each Came (own_items key_cmp (first_items config number past round) k)
        (λ timed among. each timed (inr among));
  }

  -- ---- rounds

  module _ (client : role_of k ≡ role.Client) (commanded : IsCommanded k) (id : Id)
      (call_id : List ℕ) (end : ℕ) (Came : Timed Input → Type 0) where
    record IsTelling (number : ℕ) (past : Past) (rounds : List Round) : Type 0 where
      outcome : UpKind
      final : is_outcome outcome ≡ true
      cause : Timed Input
      came : Came cause
      causes : Causes end cause outcome
      notice : Notice
      tells : Tells call_id id outcome notice
      told : Among (all_given (each_from answer config number past rounds)) (output.Notice notice)

    abbrev Goes : Past → Type 0
    Goes past = GoesOn k client id call_id end Came (lives_in past k)

    round_once : (number : ℕ) (past : Past) (round : Round) (rounds : List Round)
        (said : List (Id × Key)) (came : List Id)
        (fair : IsFair config number past (round ∷ rounds) said came)
        (linked : IsLinked config past said came) → Goes past
        → round_of.brought config number past round id ≤ 1
    round_once number past round rounds said came fair linked (life, is, going) =
        let here : Among said (id, k) =
        subst (λ i. Among said (i, k)) going.id_is
        (linked.started k (ap is_server client) life is) in
        let once = brought_once config number past round rounds said came fair linked k client id
        (among_left said (starts_from config number past (round ∷ rounds)) (id, k) here) in
        let same = counts_same id round.moment 0 (items config number past round) in
        let few : left k client id (lives_in past k) ≤ 1 =
        by_held (lives_in past k) in
        omega (arith, once, same, few)
      where
        by_held : (held : Option Life) → left k client id held ≤ 1
        by_held None = omega arith
        by_held (Some life) = at_most_one _ _

    later_told : (rounds : List Round) (number : ℕ) (past : Past) (said : List (Id × Key))
        (came : List Id) → IsFair config number past rounds said came
        → IsLinked config past said came → IsKept config k (past_from config number past rounds)
        → ((timed : Timed Input)
        → Among (given_to (past_from config number past rounds).transactions k) timed → Came timed)
        → Goes past
        → (Goes (past_from config number past rounds) × (reaches end rounds → ⊥))
        ⊎ IsTelling number past rounds
    later_told [] number past said came fair linked none each goes =
        inl (goes, λ reached. false≢true reached)
    later_told (round ∷ rounds) number past said came fair linked none each goes =
        let next = past_after config number past round in
        let kept = one_kept config k number past round
        (all_kept config k rounds (suc number) next none) in
        let here = answer config number past round in
        let rest = all_given (each_from answer config (suc number) next rounds) in
        ⊎_elim
        (λ on. ⊎_elim
        (λ still. inl (
          still.0,
          λ reached. by_bool (nat_le end round.moment) (λ late. on.1 late)
              (λ early. still.1 (sym (ap (λ b. b || list_any (λ (r : Round). nat_le end r.moment)
              rounds) early) ∙ reached)),
        ))
        (λ later. inr record {
          outcome = later.outcome;
          final = later.final;
          cause = later.cause;
          came = later.came;
          causes = later.causes;
          notice = later.notice;
          tells = later.tells;
          told = among_right here rest (output.Notice later.notice) later.told;
        })
        (later_told rounds (suc number) next
        (said ++ starts (given_second config number past round))
        (came ++ requests_among (items_of_round config number past round))
        (fair_next config number past round rounds said came fair)
        (linked_next config number past round rounds said came fair linked) none each on.0))
        (λ tells. inr record {
          outcome = tells.up.kind;
          final = tells.outcome;
          cause = tells.cause;
          came = tells.came;
          causes = tells.causes;
          notice = (tells.told).0;
          tells = subst (λ i. Tells call_id i tells.up.kind (tells.told).0) tells.id_is
              (subst (λ c. Tells c tells.up.id tells.up.kind (tells.told).0) tells.call_is
              (tells.told).2);
          told = among_left here rest (output.Notice (tells.told).0)
              (told_given config number past round (tells.told).0 (tells.told).1);
        })
        (round_goes config number past round rounds said came fair linked k client commanded id
        call_id end Came kept.1
        (round_once number past round rounds said came fair linked goes)
        (round_came number past round Came
        (λ timed among. each timed (given_grows rounds (suc number) next timed
        (round_given number past round timed among))))
        goes)

-- ---- the laws

final_status : (line : StartLine) → is_final_line line ≡ true → (status : ℕ)
    → status_of line ≡ Some status → is_final status ≡ true
final_status (start_line.Request uri) final status is = absurd (false≢true final)
final_status (start_line.Response one reason) final status is =
    let same : one ≡ status = cc in sym (ap (λ n. nat_le 200 n) same) ∙ final

tells_it : (call_id : List ℕ) (id : Id) (outcome : UpKind) (notice : Notice)
    → is_outcome outcome ≡ true → Tells call_id id outcome notice
    → is_outcome_of id notice ≡ true
tells_it call_id id (kind.Request request reply_to) notice final tells = absurd tells
tells_it call_id id (kind.Ack ack) notice final tells = absurd tells
tells_it call_id id (kind.Response response) notice final tells =
    let ends = final_status response.start final tells.0 tells.1 in
    ap (is_outcome_of id) tells.2 ∙ (λ i. id_itself id i && ends i)
tells_it call_id id kind.Timeout notice final tells = ap (is_outcome_of id) tells ∙ id_itself id
tells_it call_id id kind.Failed notice final tells = ap (is_outcome_of id) tells ∙ id_itself id

among_sides : (config : Config) (key : Key) (earlier later : List Round) (o : Output)
    → Among (all_given (each_from answer config (number_from config key config.first earlier)
    (past_from config config.first no_past earlier) later)) o
    → Among (all_given (answers config (earlier ++ later))) o
unfolding answers
among_sides config key earlier later o among =
    let start = config.first in
    let first_given = all_given (each_from answer config start no_past earlier) in
    let rest = each_from answer config (number_from config key start earlier)
    (past_from config start no_past earlier) later in
    subst (λ outs. Among outs o)
    (sym (ap all_given (answer_sides config key earlier later start no_past)
    ∙ flat_map-append (λ outputs. outputs) (each_from answer config start no_past earlier) rest))
    (among_right first_given (all_given rest) o among)

each_has_an_outcome : (config : Config) (earlier later : List Round) (round : Round)
    (key : Key) (id : Id) → Sends config earlier round key id
    → is_given_up config (earlier ++ round ∷ later) key ≡ false
    → reaches (round.moment + 64 * T1) later
    → 1 ≤ outcomes_told config (earlier ++ round ∷ later) id
unfolding past_of
each_has_an_outcome config earlier later round key id sends kept late =
    let start = config.first in
    let number = number_from config key start earlier in
    let past = past_from config start no_past earlier in
    let next = past_after config number past round in
    let more = round ∷ later in
    let client = sends.other in
    let now = round.moment in
    let before = walk config key earlier more start no_past [] []
    (all_fair config (earlier ++ more)) (nothing_linked config) in
    let said = before.0 in
    let came = before.1 in
    let fair = before.2 in
    let linked = before.3 in
    let none : lives_in past key ≡ None = sends.none_before in
    let between : lives_between config number past round key ≡ None =
    none_then key client now (first_items config number past round)
    (lives_ticked config number past round) (no_events config number past round)
    (none_at key client now (lives_in past key) None now tt none) in
    let new : HeldIn (IsNew key client now) (lives_in next key) =
    subst (HeldIn (IsNew key client now)) (sym (after_is config number past round key))
    (new_run key client now (orders (given config number past round))
    (lives_between config number past round key)
    (subst (HeldIn (IsNew key client now)) (sym between) tt)) in
    let is : lives_in next key ≡ Some sends.life =
    ap (λ p. lives_in p key) (sym (past_parts config key earlier (round ∷ []) start no_past))
    ∙ sends.begins in
    let life = sends.life in
    let Any : Timed Input → Type 0 = λ timed. Unit {0} in
    let going = going_new key client now (lives_in next key) life Any is new in
    let kept_all : IsKept config key (past_from config (suc number) next later) =
    sym (ap (λ (p : Past). list_any (λ timed. is_abandon timed.input)
    (given_to p.transactions key)) (past_parts config key earlier more start no_past)) ∙ kept in
    ⊎_elim
    (λ goes. absurd (goes.1 late))
    (λ told.
    let here = answer config number past round in
    let rest = all_given (each_from answer config (suc number) next later) in
    let o = output.Notice told.notice in
    one_counted (tells_outcome id) (all_given (answers config (earlier ++ more))) o
    (among_sides config key earlier more o (among_right here rest o told.told))
    (ap (λ i. tells_outcome i o) (sym sends.id_is)
    ∙ tells_it life.context.call_id life.context.id told.outcome told.notice told.final told.tells))
    (later_told config key client (is_commanded key sends.commanded) life.context.id
    life.context.call_id (now + LIFETIME) Any later (suc number) next
    (said ++ starts (given_second config number past round))
    (came ++ requests_among (items_of_round config number past round))
    (fair_next config number past round later said came fair)
    (linked_next config number past round later said came fair linked) kept_all
    (λ timed among. tt) (life, is, going))

pub each_has_one_outcome : EachRequestHasOneOutcome
each_has_one_outcome config earlier later round key id sends kept late =
    omega (
      arith,
      each_has_an_outcome config earlier later round key id sends kept late,
      at_most_one_is_told config earlier later round key id sends,
    )

pub outcome_is_told : OutcomeIsTold
unfolding past_of
outcome_is_told config earlier later key end waits kept closed =
    let start = config.first in
    let number = number_from config key start earlier in
    let past = past_from config start no_past earlier in
    let life = waits.life in
    let parts = past_parts config key earlier later start no_past in
    let before = walk config key earlier later start no_past [] []
    (all_fair config (earlier ++ later)) (nothing_linked config) in
    let Came : Timed Input → Type 0 =
    λ timed. Contains (inputs_of config (earlier ++ later) key) timed in
    let in_time : HeldIn (IsTimed (role_of key)) (lives_in past key) =
    at_steps (λ machine. HeldIn (IsTimed (role_of key))
    (state_from machine key None (given_to past.transactions key)))
    (reached key (given_to past.transactions key)) in
    let going : IsGoing key waits.other life.context.id life.context.call_id end Came life = record {
      still = waits.still;
      id_is = refl;
      call_is = refl;
      timed = is_timed (role_of key) (lives_in past key) life in_time waits.held;
      asks = λ asking. waits.ends;
    } in
    ⊎_elim
    (λ goes. absurd (closed (goes.0).0
    (ap (λ p. lives_in p key) parts ∙ (goes.0).1) (goes.0).2.still))
    (λ told. record {
      outcome = told.outcome;
      final = told.final;
      cause = told.cause;
      came = told.came;
      causes = told.causes;
      notice = told.notice;
      tells = told.tells;
      told = contained (all_given (answers config (earlier ++ later))) (output.Notice told.notice)
          (among_sides config key earlier later (output.Notice told.notice) told.told);
    })
    (later_told config key waits.other (is_commanded key waits.commanded) life.context.id
    life.context.call_id end Came later number past before.0 before.1 before.2 before.3
    (sym (ap (λ (p : Past). list_any (λ timed. is_abandon timed.input)
    (given_to p.transactions key)) parts) ∙ kept)
    (λ timed among. contained (inputs_of config (earlier ++ later) key) timed
    (subst (λ (p : Past). Among (given_to p.transactions key) timed) (sym parts) among))
    (life, waits.held, going))
