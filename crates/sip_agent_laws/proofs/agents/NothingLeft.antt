-- If nothing waits in any call, nothing is held in the end.
use Rattle.std.proofs.Common.{◌≡◌, inl, inr, ℕ, suc, ◌+◌, Bool, true, false, cond, ◌||◌, List, [], ◌∷◌, ◌++◌, length, refl, sym, ap, ◌∙◌, subst, arith}
use Rattle.std.specs.Prelude.{◌&&◌, not, Option, None, Some, count_by, is_none, is_some}
use Rattle.std.specs.List.{AllByRecursion, list_any}
use Rattle.std.specs.Map.{lookup, remove_entry, values_of}
use Rattle.std.proofs.lemmas.Bool.{false≢true, and_from}
use Rattle.std.proofs.lemmas.List.Sums.{sum_by-cons}
use Rattle.sip_message.specs.Key.{key_cmp}
use Rattle.sip_message.specs.declared.id.Id.{Id}
use Rattle.sip_message.specs.declared.key.Key.{Key}
use Rattle.keyed_machine.specs.Machine.{Timed}
use Rattle.keyed_machine.specs.Phase.{keys_of_phases}
use Rattle.keyed_machine.proofs.Ordered.{by_bool}
use Rattle.sip_transactions.specs.declared.life.Life.{Life}
use Rattle.sip_transactions.specs.declared.output.UpKind.{UpKind}
use Rattle.sip_transactions.specs.declared.output.UpKind.TheVariants as kind
use Rattle.sip_transactions.specs.declared.output.Up.{Up as AnUp}
use Rattle.sip_transactions.specs.declared.state.Role.{Role}
use Rattle.sip_transactions.specs.declared.state.Role.TheVariants as role
use Rattle.sip_transactions.specs.declared.state.State.{State}
use Rattle.sip_transactions.specs.declared.state.State.TheVariants.{Calling, Trying, Proceeding, Completed, Accepted, Confirmed}
use Rattle.sip_transactions.specs.Steps.Input.{role_of}
use Rattle.sip_agent_laws.specs.Transactions.Timers.{is_gone_or_waits, waits}
use Rattle.sip_user.specs.declared.item.Item.TheVariants.{Up, User}
use Rattle.sip_held_dialogs.specs.Ids.{is_id}
use Rattle.sip_held_dialogs.proofs.Each.{filtered}
use Rattle.sip_clients.specs.declared.client.Client.{Client}
use Rattle.sip_clients.specs.Client.{Clients, Side}
use Rattle.sip_clients.specs.Rules.Ends.{client_tick, is_over, request_is_lost}
use Rattle.sip_clients.specs.Rules.Requests.{is_invite_kind}
use Rattle.sip_calls.specs.declared.call.Call.{Call}
use Rattle.sip_calls.specs.declared.calls.Calls.{Calls}
use Rattle.sip_calls.specs.Call.{CallItem, call_step, call_tick, event_of, item_of_call, kept_call, new_call, received}
use Rattle.sip_calls.specs.CallShard.{call_cmp}
use Rattle.sip_served.specs.State.{has_id}
use Rattle.sip_calls.specs.HeldRequests.{requests_held}
use Rattle.sip_calls.specs.Histories.{call_from}
use Rattle.sip_calls.specs.Provisionals.{side_held}
use Rattle.sip_calls.specs.Sides.{side_of}
use Rattle.sip_calls.proofs.KeptSides.{kept_side}
use Rattle.sip_agent_laws.specs.Calls.Rest.{is_from_outside, is_message}
use Rattle.sip_agent_laws.specs.Calls.Waiting.{NothingWaits, OfPeer, OurInvite, Waiting, awaits_report, lacks_final, lacks_response}
use Rattle.sip_agent_laws.specs.Calls.Waiting as call_waits
use Rattle.sip_agent_laws.proofs.calls.AtRest.{nothing_left}
use Rattle.sip_agent_laws.proofs.calls.Waits.{others_add_nothing}
use Rattle.sip_round.specs.declared.config.Config.{Config}
use Rattle.sip_round.specs.declared.round.Round.{Round}
use Rattle.sip_round.specs.Answers.{Past, calls_of, no_past, past_after, past_from, past_of}
use Rattle.sip_round.specs.CallsHeld.{call_after}
use Rattle.sip_round.specs.Live.{live_of}
use Rattle.sip_round.proofs.Runs.{past_from-append}
use Rattle.sip_agent_laws.specs.Agents.AtRest.{AreWithoutEvents}
use Rattle.sip_agent_laws.specs.Agents.NothingLeft.{NoTransactionStays, NothingStays}
use Rattle.sip_agent_laws.specs.Agents.Open.{HoldsInvite, HoldsOfPeer, HoldsOpen, is_open, life_after}
use Rattle.sip_agent_laws.proofs.agents.Idle.{inside_only}
use Rattle.sip_agent_laws.proofs.agents.Linked.{calls_in}
use Rattle.sip_agent_laws.proofs.agents.LinkedRounds.{given_to, own}
use Rattle.sip_agent_laws.proofs.agents.Lists.{Among, found_among, found_passes, same_some}
use Rattle.sip_agent_laws.proofs.agents.OpenHeld.{each_open_is_held}
use Rattle.sip_agent_laws.proofs.agents.RestFrom.{at_rest, calls_longer}
use Rattle.sip_agent_laws.proofs.histories.CallsAfter.{same_call}

-- ---- the client requests of a call after a tick or a report

abbrev pub IsInvite : Id × Client → Type 0
IsInvite entry = is_invite_kind entry.1.kind ≡ true

abbrev pub AreInvites : Clients → Type 0
AreInvites clients = AllByRecursion IsInvite clients

none_awaited : (clients : Clients)
    → list_any (λ (client : Client). not (is_invite_kind client.kind)) (values_of clients) ≡ false
    → AreInvites clients
none_awaited [] none = tt
none_awaited (entry ∷ clients) none =
    by_kind (is_invite_kind entry.1.kind) refl none (λ rest. none_awaited clients rest)
  where
    by_kind : (b : Bool) → is_invite_kind entry.1.kind ≡ b
        → (not b || list_any (λ (client : Client). not (is_invite_kind client.kind))
        (values_of clients)) ≡ false
        → (list_any (λ (client : Client). not (is_invite_kind client.kind)) (values_of clients)
        ≡ false → AreInvites clients)
        → AreInvites (entry ∷ clients)
    by_kind true is none rest = (is, rest none)
    by_kind false is none rest = absurd (false≢true (sym none))

pub invites_alone : (clients : Clients) → AreInvites clients
    → list_any (λ (client : Client). not (is_invite_kind client.kind)) (values_of clients) ≡ false
invites_alone [] all = refl
invites_alone (entry ∷ clients) all =
    ap (λ b. not b || list_any (λ (client : Client). not (is_invite_kind client.kind))
    (values_of clients)) all.0 ∙ invites_alone clients all.1

-- what is true of all of them stays so, since ticks and reports only remove some
module _ (P : Id × Client → Type 0) where
  abbrev pub AllAre : Option Call → Type 0
  AllAre call = AllByRecursion P (side_held call).clients

  all_but_one : (id : Id) (clients : Clients) → AllByRecursion P clients
      → AllByRecursion P (remove_entry (is_id id) clients)
  all_but_one id [] all = tt
  all_but_one id (entry ∷ clients) all =
      elim (is_id id entry.0) as (λ b. AllByRecursion P
      (cond b clients (entry ∷ remove_entry (is_id id) clients))) [
        | true ↦ all.1
        | false ↦ (all.0, all_but_one id clients all.1)
      ]

  lost_keeps : (id : Id) (timed_out : Bool) (side : Side) → AllByRecursion P side.clients
      → AllByRecursion P ((request_is_lost id timed_out side).0).clients
  unfolding request_is_lost
  lost_keeps id timed_out side all = all_but_one id side.clients all

  tick_keeps : (side : Side) (now : ℕ) → AllByRecursion P side.clients
      → AllByRecursion P ((client_tick side now).0).clients
  unfolding client_tick
  tick_keeps side now all =
      filtered P (λ (entry : Id × Client). not (is_over now entry.1)) side.clients all

  up_keeps : (calls : Calls) (call : Call) (event : Id) (now : ℕ) (up : AnUp) (k : UpKind)
      → is_message k ≡ false → AllByRecursion P call.clients
      → AllByRecursion P ((received call (event_of calls event now) up k).0).clients
  up_keeps calls call event now up (kind.Request request reply_to) inside all = all
  up_keeps calls call event now up (kind.Ack ack) inside all = all
  up_keeps calls call event now up (kind.Response response) inside all =
      absurd (false≢true (sym inside))
  up_keeps calls call event now up kind.Timeout inside all =
      lost_keeps up.id true (side_of call) all
  up_keeps calls call event now up kind.Failed inside all =
      lost_keeps up.id false (side_of call) all

  pub kept_all : (call : Call) → AllByRecursion P call.clients → AllAre (kept_call call)
  kept_all call all =
      subst (λ (side : Side). AllByRecursion P side.clients) (sym (kept_side call)) all

  pub step_keeps : (calls : Calls) (call : Option Call) (input : Option CallItem) (now : ℕ)
      → is_from_outside input ≡ false → AllAre call → AllAre (call_step calls call input now).0
  step_keeps calls None None now inside all = tt
  step_keeps calls (Some call) None now inside all =
      kept_all (call_tick call now).0 (tick_keeps _ now all)
  step_keeps calls None (Some (event, Up up)) now inside all =
      kept_all (item_of_call false (new_call calls.local) (event_of calls event now) (Up up)).0
      (up_keeps calls (new_call calls.local) event now up up.kind inside tt)
  step_keeps calls (Some call) (Some (event, Up up)) now inside all =
      kept_all (item_of_call true call (event_of calls event now) (Up up)).0
      (up_keeps calls call event now up up.kind inside all)
  step_keeps calls call (Some (event, User c)) now inside all =
      absurd (false≢true (sym inside))

-- ---- what each tick and each report of a call keeps

module _ (calls : Calls) (P : Option Call → Type 0)
    (keeps : (call : Option Call) (input : Option CallItem) (now : ℕ)
    → is_from_outside input ≡ false → P call → P (call_step calls call input now).0) where
  pub from_keeps : (inputs : List (Timed CallItem)) (call : Option Call)
      → AllByRecursion (λ (timed : Timed CallItem). is_from_outside timed.input ≡ false) inputs
      → P call → P (call_from calls call inputs)
  from_keeps [] call inside holds = holds
  from_keeps (input ∷ inputs) call inside holds =
      from_keeps inputs (call_step calls call input.input input.moment).0 inside.1
      (keeps call input.input input.moment inside.0 holds)

pub call_on : (calls : Calls) (call : Option Call) (before after : List (Timed CallItem))
    → call_from calls call (before ++ after)
    ≡ call_from calls (call_from calls call before) after
call_on calls call [] after = refl
call_on calls call (input ∷ before) after =
    call_on calls (call_step calls call input.input input.moment).0 before after

-- is true after rounds without events, if it was before
module _ (config : Config) (P : Option Call → Type 0)
    (keeps : (call : Option Call) (input : Option CallItem) (now : ℕ)
    → is_from_outside input ≡ false → P call → P (call_step (calls_of config) call input now).0)
  where
    round_keeps : (number : ℕ) (past : Past) (round : Round) → round.events ≡ []
        → (q : List ℕ) → P (calls_in config past q)
        → P (calls_in config (past_after config number past round) q)
    round_keeps number past round none q holds =
        let calls = calls_of config in
        let before = given_to past.calls q in
        let after = own config number past round q in
        subst P
        (sym (call_on calls None before after)
        ∙ (ap (call_from calls None) (sym (calls_longer config number past round q))
        ∙ same_call calls q None (given_to (past_after config number past round).calls q)))
        (from_keeps calls P keeps after (call_from calls None before)
        (refl, inside_only config number past round none q)
        (subst P (sym (same_call calls q None before)) holds))

    rounds_keep : (rounds : List Round) (number : ℕ) (past : Past) → AreWithoutEvents rounds
        → (q : List ℕ) → P (calls_in config past q)
        → P (calls_in config (past_from config number past rounds) q)
    rounds_keep [] number past none q holds = holds
    rounds_keep (round ∷ rounds) number past none q holds =
        rounds_keep rounds (suc number) (past_after config number past round) none.1 q
        (round_keeps number past round none.0 q holds)

    idle_keeps : (rounds idle : List Round) → AreWithoutEvents idle
        → (q : List ℕ) → P (call_after config rounds q) → P (call_after config (rounds ++ idle) q)
    unfolding past_of
    idle_keeps rounds idle none q holds =
        subst (λ past. P (calls_in config past q))
        (sym (past_from-append config config.first no_past rounds idle))
        (rounds_keep idle (config.first + length rounds)
        (past_from config config.first no_past rounds) none q holds)

-- nothing waits still
nothing_kept : (calls : Calls) (call : Option Call) (input : Option CallItem) (now : ℕ)
    → is_from_outside input ≡ false → NothingWaits call
    → NothingWaits (call_step calls call input now).0
nothing_kept calls call input now inside none = λ one.
    by_bool (call_waits.waits one (call_step calls call input now).0)
    (λ waits. absurd (false≢true (sym (none one)
    ∙ others_add_nothing calls call input now inside one waits)))
    (λ no. no)

-- ---- nothing is held

waits_open : (r : Role) (state : State) → waits r state ≡ true → is_open r state ≡ true
waits_open role.InviteClient Calling is = refl
waits_open role.InviteClient Proceeding is = refl
waits_open role.Client state is = absurd (by_state state is)
  where
    by_state : (state : State) → waits role.Client state ≡ true → ⊥
    by_state Calling is = false≢true is
    by_state Trying is = false≢true is
    by_state Proceeding is = false≢true is
    by_state Completed is = false≢true is
    by_state Accepted is = false≢true is
    by_state Confirmed is = false≢true is
waits_open role.InviteServer Proceeding is = refl
waits_open role.Server Trying is = refl
waits_open role.Server Proceeding is = refl
waits_open role.InviteServer _ is = absurd (false≢true is)
waits_open role.InviteClient _ is = absurd (false≢true is)
waits_open role.Server _ is = absurd (false≢true is)

client_not : (state : State) → waits role.Client state ≡ true → ⊥
client_not Calling is = false≢true is
client_not _ is = false≢true is

nothing_found : {X : Type 0} (x : X) → None ≡ Some x → ⊥
nothing_found x same = absurd cc

pub counts_none : {X : Type 0} (test : X → Bool) (xs : List X) → ((x : X) → test x ≡ false)
    → count_by test xs ≡ 0
counts_none test [] none = refl
counts_none test (x ∷ xs) none =
    let here = ap {B = ℕ} (λ b. cond b 1 0) (none x) in
    omega (arith, sum_by-cons (λ y. cond (test y) 1 0) x xs, here, counts_none test xs none)

any_among : {X : Type 0} (test : X → Bool) (xs : List X) (x : X) → Among xs x → test x ≡ true
    → list_any test xs ≡ true
any_among test [] x among is = absurd among
any_among test (y ∷ xs) x (inl same) is =
    ap (λ b. b || list_any test xs) (ap test same ∙ is)
any_among test (y ∷ xs) x (inr later) is =
    by_bool (test y) (λ hit. ap (λ b. b || list_any test xs) hit)
    (λ miss. ap (λ b. b || list_any test xs) miss ∙ any_among test xs x later is)

peer_waits : (call : Option Call) (key : Key) (id : Id) → HoldsOfPeer call key id
    → call_waits.waits (OfPeer id) call ≡ true
peer_waits call key id holds =
    any_among (λ held. has_id id held && lacks_final held) (requests_held call) holds.held
    (found_among (has_id id) (requests_held call) holds.held holds.found)
    (and_from (has_id id holds.held) (lacks_final holds.held)
    (found_passes (has_id id) (requests_held call) holds.held holds.found)
    (ap is_none holds.unanswered))

looked_up : (id : Id) (clients : Clients) (client : Client)
    → lookup (is_id id) clients ≡ Some client → lacks_response client ≡ true
    → list_any (λ (entry : Id × Client). is_id id entry.0 && lacks_response entry.1) clients
    ≡ true
looked_up id [] client found lacks = absurd (nothing_found client found)
looked_up id (entry ∷ clients) client found lacks =
    by_hit (is_id id entry.0) found (λ more. looked_up id clients client more lacks)
  where
    by_hit : (b : Bool) → cond b (Some entry.1) (lookup (is_id id) clients) ≡ Some client
        → (lookup (is_id id) clients ≡ Some client → list_any (λ (entry : Id × Client).
        is_id id entry.0 && lacks_response entry.1) clients ≡ true)
        → ((b && lacks_response entry.1) || list_any (λ (entry : Id × Client).
        is_id id entry.0 && lacks_response entry.1) clients) ≡ true
    by_hit true same more =
        ap (λ c. c || list_any (λ (entry : Id × Client).
        is_id id entry.0 && lacks_response entry.1) clients)
        (ap lacks_response (same_some entry.1 client same) ∙ lacks)
    by_hit false other more = more other

invite_waits : (call : Option Call) (key : Key) (id : Id) → HoldsInvite call key id
    → call_waits.waits (OurInvite id) call ≡ true
invite_waits call key id holds =
    looked_up id (side_held call).clients holds.client holds.found
    (and_from (is_invite_kind holds.client.kind) (is_none holds.client.removal) holds.invites
    (ap is_none holds.unanswered))

-- what waits for the user belongs to a call in which something waits
open_waits : (r : Role) (state : State) (call : Option Call) (key : Key) (id : Id)
    → waits r state ≡ true → HoldsOpen r call key id → NothingWaits call → ⊥
open_waits role.InviteClient state call key id is holds none =
    false≢true (sym (none (OurInvite id)) ∙ invite_waits call key id holds)
open_waits role.Client state call key id is holds none = client_not state is
open_waits _ state call key id is holds none =
    false≢true (sym (none (OfPeer id)) ∙ peer_waits call key id holds)

module _ (config : Config) (rounds : List Round)
    (none : (call_id : List ℕ) → NothingWaits (call_after config rounds call_id))
    (lives : (key : Key) → is_gone_or_waits (role_of key) (life_after config rounds key) ≡ true)
  where
    life_gone : (key : Key) (held : Option Life) → life_after config rounds key ≡ held
        → is_gone_or_waits (role_of key) held ≡ true → held ≡ None
    life_gone key None is gone = refl
    life_gone key (Some life) is waiting =
        absurd (open_waits (role_of key) life.state
        (call_after config rounds life.context.call_id) key life.context.id waiting
        (each_open_is_held config rounds key life is
        (waits_open (role_of key) life.state waiting))
        (none life.context.call_id))

    no_transaction : (live_of config (past_of config rounds)).0 ≡ 0
    no_transaction =
        counts_none (λ key. is_some (life_after config rounds key))
        (keys_of_phases key_cmp (past_of config rounds).transactions)
        (λ key. ap is_some (life_gone key (life_after config rounds key) refl (lives key)))

pub no_transaction_stays : NoTransactionStays
no_transaction_stays config moment rounds idle none quiet =
    no_transaction config (rounds ++ idle)
    (λ q. idle_keeps config NothingWaits (nothing_kept (calls_of config)) rounds idle quiet.none q
    (none q))
    (at_rest config moment rounds idle quiet).transactions

pub nothing_stays : NothingStays
nothing_stays config moment rounds idle settled quiet =
    let all = rounds ++ idle in
    let gone : (call_id : List ℕ) → call_after config all call_id ≡ None = λ q.
    nothing_left (call_after config all q) ((at_rest config moment rounds idle quiet).calls q)
    (idle_keeps config NothingWaits (nothing_kept (calls_of config)) rounds idle quiet.none q
    (settled q).user)
    (invites_alone (side_held (call_after config all q)).clients
    (idle_keeps config (AllAre IsInvite) (step_keeps IsInvite (calls_of config)) rounds idle
    quiet.none q (none_awaited (side_held (call_after config rounds q)).clients
    (settled q).transaction))) in
    λ i. (
      no_transaction_stays config moment rounds idle (λ q. (settled q).user) quiet i,
      counts_none (λ call_id. is_some (call_after config all call_id))
          (keys_of_phases call_cmp (past_of config all).calls)
          (λ call_id. ap is_some (gone call_id)) i,
    )
