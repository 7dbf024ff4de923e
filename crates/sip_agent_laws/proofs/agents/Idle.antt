-- A round without events: each call takes a tick and reports of transactions that timed out.
use Rattle.std.proofs.Common.{◌≡◌, ℕ, suc, true, false, cond, List, [], ◌∷◌, map, refl, sym, ap, ◌∙◌, append-nil, subst}
use Rattle.std.specs.Prelude.{Option, None, Some, filter}
use Rattle.std.specs.BTreeMap.{is_at}
use Rattle.std.specs.List.{AllByRecursion, flat_map}
use Rattle.std.specs.declared.cmp.Ordering.{Ordering}
use Rattle.sip_message.specs.Key.{key_cmp}
use Rattle.sip_message.specs.declared.id.Id.{Id}
use Rattle.sip_message.specs.declared.key.Key.{Key}
use Rattle.keyed_machine.specs.declared.item.Item as model
use Rattle.keyed_machine.specs.Groups.{speaks}
use Rattle.keyed_machine.specs.Machine.{Timed, adds, tick_at}
use Rattle.keyed_machine.specs.Phase.{inputs_of, keys_of_phases, stepped, timed_items, told_items}
use Rattle.sip_transactions.proofs.Rules.{at_steps}
use Rattle.sip_transactions.specs.declared.life.Life.{Life}
use Rattle.sip_transactions.specs.declared.output.DropReason.{DropReason}
use Rattle.sip_transactions.specs.declared.output.Out.{Out}
use Rattle.sip_transactions.specs.declared.output.Out.TheVariants as out
use Rattle.sip_transactions.specs.declared.output.Up.{Up as AnUp}
use Rattle.sip_transactions.specs.declared.output.UpKind.TheVariants as kind
use Rattle.sip_transactions.specs.Machine.{transaction_machine}
use Rattle.sip_agent_laws.specs.Transactions.Timers.{IsQuiet, TicksAreQuiet}
use Rattle.sip_agent_laws.proofs.transactions.Ticks as ticks
use Rattle.sip_user.specs.declared.item.Item.{Item}
use Rattle.sip_user.specs.declared.item.Item.TheVariants.{Up, User}
use Rattle.sip_calls.specs.declared.call.Call.{Call}
use Rattle.sip_calls.specs.declared.calls.Calls.{Calls}
use Rattle.sip_calls.specs.Call.{CallItem, call_machine, call_step, event_of, new_call, received}
use Rattle.sip_calls.specs.CallShard.{call_cmp}
use Rattle.sip_calls.specs.Sides.{side_of}
use Rattle.sip_agent_laws.specs.Calls.Rest.{is_from_outside, is_message}
use Rattle.sip_round.specs.declared.config.Config.{Config}
use Rattle.sip_round.specs.declared.round.Round.{Round}
use Rattle.sip_round.specs.Answers.{Past, calls_of, items_first, items_of_round}
use Rattle.sip_round.specs.Arrivals.{Arrival, arrivals_from}
use Rattle.sip_round.specs.Outputs.{joined, raised_of}
use Rattle.sip_round.specs.Phases.{call_items, transaction_items}
use Rattle.sip_agent_laws.proofs.agents.Commands.{orders}
use Rattle.sip_agent_laws.proofs.agents.Items.{ItemIs, all_given, items_all}
use Rattle.sip_agent_laws.proofs.agents.Linked.{calls_ticked, came_in, first_ticks, first_told, items_are, lives_in, lives_ticked, second_items}
use Rattle.sip_agent_laws.proofs.agents.CallServes.{lost_silent}
use Rattle.sip_agent_laws.proofs.agents.ServedFrom.{both_silent}
use Rattle.sip_agent_laws.proofs.agents.Lists.{both}
use Rattle.sip_agent_laws.proofs.agents.SecondPhase.{CallItems, CallStates, says}

-- ---- what comes up

-- at most that a transaction timed out
abbrev pub IsReport : Out → Type 0
IsReport (out.Up up) = up.kind ≡ kind.Timeout
IsReport (out.Send key to bytes) = Unit {0}
IsReport (out.Dropped place why) = Unit {0}

quiet_reports : (outs : List Out) → AllByRecursion IsQuiet outs → AllByRecursion IsReport outs
quiet_reports [] all = tt
quiet_reports (out.Up up ∷ outs) all = (all.0, quiet_reports outs all.1)
quiet_reports (out.Send key to bytes ∷ outs) all = (tt, quiet_reports outs all.1)
quiet_reports (out.Dropped place why ∷ outs) all = (tt, quiet_reports outs all.1)

pub tick_reports : (key : Key) (held : Option Life) (now : ℕ)
    → AllByRecursion IsReport (adds transaction_machine key held (tick_at now))
tick_reports key held now =
    quiet_reports (adds transaction_machine key held (tick_at now))
    (at_steps TicksAreQuiet ticks.ticks_are_quiet key held now)

pub all_joined : (P : Out → Type 0) (f : Key → List Out) (keys : List Key)
    → ((key : Key) → AllByRecursion P (f key))
    → AllByRecursion P (joined (map (λ key. (key, f key)) keys))
all_joined P f [] each = tt
all_joined P f (key ∷ keys) each = both P (f key) _ (each key) (all_joined P f keys each)

-- an item that reports that a transaction timed out
abbrev pub ReportsTimeout : Option CallItem → Type 0
ReportsTimeout None = ⊥
ReportsTimeout (Some (id, Up up)) = up.kind ≡ kind.Timeout
ReportsTimeout (Some (id, User command)) = ⊥

module _ (config : Config) (number : ℕ) (past : Past) (round : Round)
    (none : round.events ≡ []) where
  pub no_arrivals : came_in config number past round ≡ []
  no_arrivals = ap (arrivals_from config.local number 1) none

  drops : (place : ℕ) (why : DropReason) → IsReport (out.Dropped place why)
  drops place why = tt

  reports : AllByRecursion (ItemIs IsReport drops) (items_of_round config number past round)
  reports =
      subst (AllByRecursion (ItemIs IsReport drops)) (sym (items_are config number past round))
      (items_all IsReport drops number (first_told config number past round)
      (came_in config number past round)
      (all_joined IsReport
      (λ q. adds transaction_machine q (lives_in past q) (tick_at round.moment))
      (filter (λ q. speaks (adds transaction_machine q (lives_in past q) (tick_at round.moment)))
      (keys_of_phases key_cmp past.transactions))
      (λ q. tick_reports q (lives_in past q) round.moment))
      (subst (λ (arrivals : List (Id × Arrival)). AllByRecursion IsReport (joined
      (told_items key_cmp transaction_machine (lives_ticked config number past round)
      (timed_items round.moment (transaction_items arrivals))))) (sym no_arrivals) tt))

  -- all that calls are given are such reports
  pub no_users : AllByRecursion (λ (item : Id × Item). ReportsTimeout (Some item))
      (items_of_round config number past round)
  no_users =
      subst (λ (all : List (Id × Item)). AllByRecursion (λ item. ReportsTimeout (Some item)) all)
      (sym (items_are config number past round))
      (from_ticks (subst (AllByRecursion (ItemIs IsReport drops))
      (items_are config number past round) reports))
    where
      zero : Id
      zero = record { round = number; place = 0 }

      raised : (outs : List Out) → AllByRecursion (ItemIs IsReport drops)
          (flat_map (raised_of zero) outs)
          → AllByRecursion (λ (item : Id × Item). ReportsTimeout (Some item))
          (flat_map (raised_of zero) outs)
      raised [] all = tt
      raised (out.Up up ∷ outs) all = (all.0, raised outs all.1)
      raised (out.Send key to bytes ∷ outs) all = raised outs all
      raised (out.Dropped place why ∷ outs) all = raised outs all

      from_ticks : AllByRecursion (ItemIs IsReport drops)
          (items_first number (first_told config number past round)
          (came_in config number past round))
          → AllByRecursion (λ (item : Id × Item). ReportsTimeout (Some item))
          (items_first number (first_told config number past round)
          (came_in config number past round))
      from_ticks all =
          subst (λ (arrivals : List (Id × Arrival)).
          AllByRecursion (ItemIs IsReport drops)
          (items_first number (first_told config number past round) arrivals)
          → AllByRecursion (λ (item : Id × Item). ReportsTimeout (Some item))
          (items_first number (first_told config number past round) arrivals)) (sym no_arrivals)
          (λ some. subst (AllByRecursion (λ (item : Id × Item). ReportsTimeout (Some item)))
          (sym (append-nil (flat_map (raised_of zero)
          (joined (first_ticks config number past round)))))
          (raised (joined (first_ticks config number past round))
          (subst (AllByRecursion (ItemIs IsReport drops))
          (append-nil (flat_map (raised_of zero)
          (joined (first_ticks config number past round)))) some))) all

-- ---- what a call is given

pub all_own : {K I : Type 0} (cmp : K → K → Ordering) (P : I → Type 0)
    (items : List (model.Item K I)) (q : K)
    → AllByRecursion (λ (item : model.Item K I). P item.input) items
    → AllByRecursion P (inputs_of cmp items q)
all_own cmp P [] q all = tt
all_own {K} {I} cmp P (item ∷ items) q all =
    elim (is_at (cmp item.key) q) as (λ b. AllByRecursion P
    (map (λ (i : model.Item K I). i.input)
    (cond b (item ∷ filter (λ i. is_at (cmp i.key) q) items)
    (filter (λ i. is_at (cmp i.key) q) items)))) [
      | true ↦ (all.0, all_own cmp P items q all.1)
      | false ↦ all_own cmp P items q all.1
    ]

pub report_inside : (input : Option CallItem) → ReportsTimeout input → is_from_outside input ≡ false
report_inside None is = absurd is
report_inside (Some (id, Up up)) is = ap is_message is
report_inside (Some (id, User command)) is = absurd is

each_inside : (now at : ℕ) (items : List (Id × Item))
    → AllByRecursion (λ (item : Id × Item). ReportsTimeout (Some item)) items
    → AllByRecursion (λ (item : model.Item (List ℕ) (Timed CallItem)).
    is_from_outside item.input.input ≡ false) (timed_items now (call_items at items))
each_inside now at [] all = tt
each_inside now at (item ∷ items) all =
    (report_inside (Some item) all.0, each_inside now (suc at) items all.1)

-- a tick, and no message and no command
pub inside_only : (config : Config) (number : ℕ) (past : Past) (round : Round)
    → round.events ≡ [] → (q : List ℕ)
    → AllByRecursion (λ (timed : Timed CallItem). is_from_outside timed.input ≡ false)
    (inputs_of call_cmp (second_items config number past round) q)
inside_only config number past round none q =
    all_own call_cmp (λ (timed : Timed CallItem). is_from_outside timed.input ≡ false)
    (second_items config number past round) q
    (each_inside round.moment 0 (items_of_round config number past round)
    (no_users config number past round none))

-- ---- what calls say to reports: no commands

timeout_silent : (calls : Calls) (call : Call) (id : Id) (now : ℕ) (up : AnUp)
    → up.kind ≡ kind.Timeout
    → orders (received call (event_of calls id now) up up.kind).1 ≡ []
timeout_silent calls call id now up is =
    ap (λ its. orders (received call (event_of calls id now) up its).1) is
    ∙ lost_silent up.id true (side_of call)

report_silent : (calls : Calls) (call : Option Call) (input : Option CallItem) (now : ℕ)
    → ReportsTimeout input → orders (call_step calls call input now).1 ≡ []
report_silent calls call None now is = absurd is
report_silent calls None (Some (id, Up up)) now is =
    timeout_silent calls (new_call calls.local) id now up is
report_silent calls (Some call) (Some (id, Up up)) now is =
    timeout_silent calls call id now up is
report_silent calls call (Some (id, User command)) now is = absurd is

says_silent : (calls : Calls) (k : Key) (now : ℕ) (items : CallItems) (states : CallStates)
    → AllByRecursion (λ (item : model.Item (List ℕ) (Timed CallItem)).
    ReportsTimeout item.input.input) items
    → orders (says calls k now states items) ≡ []
says_silent calls k now [] states all = refl
says_silent calls k now (item ∷ items) states all =
    both_silent (adds (call_machine calls) item.key (states item.key) item.input) _
    (report_silent calls (states item.key) item.input.input item.input.moment all.0)
    (says_silent calls k now items (stepped call_cmp (call_machine calls) states item) all.1)

-- so in a round without events calls give commands at their ticks alone
pub reports_silent : (config : Config) (number : ℕ) (past : Past) (round : Round)
    → round.events ≡ [] → (k : Key)
    → orders (says (calls_of config) k round.moment (calls_ticked config number past round)
    (second_items config number past round)) ≡ []
reports_silent config number past round none k =
    says_silent (calls_of config) k round.moment (second_items config number past round)
    (calls_ticked config number past round)
    (all_given round.moment ReportsTimeout 0 (items_of_round config number past round)
    (no_users config number past round none))
