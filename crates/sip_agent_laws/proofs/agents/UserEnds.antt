-- The user ends all that an agent holds, in one round.
use Rattle.std.proofs.Common.{◌≡◌, ◌⊎◌, inl, inr, ℕ, suc, ◌+◌, Bool, true, false, cond, List, [], ◌∷◌, ◌++◌, length, map, refl, sym, ap, ◌∙◌, append-nil, append_assoc, subst}
use Rattle.std.specs.Prelude.{Option, None, Some, filter, filter_map}
use Rattle.std.specs.BTreeMap.{is_at}
use Rattle.std.specs.List.{AllByRecursion, IsDistinct, flat_map}
use Rattle.std.specs.Map.{keys_of, lookup, remove_entry}
use Rattle.std.proofs.lemmas.Bool.{false≢true}
use Rattle.std.proofs.lemmas.Cmp.{nat_list_cmp_total}
use Rattle.std.proofs.lemmas.List.Elements.{filter_map-append}
use Rattle.std.proofs.lemmas.Map.Keys.{IsDistinct-cons, IsDistinct-head, IsDistinct-tail}
use Rattle.sip_message.specs.Key.{key_cmp}
use Rattle.sip_message.specs.declared.addr.Addr.{Addr}
use Rattle.sip_message.specs.declared.id.Id.{Id}
use Rattle.keyed_machine.specs.declared.item.Item as model
use Rattle.keyed_machine.specs.Groups.{speaks}
use Rattle.keyed_machine.specs.Machine.{Timed, adds, given_at, tick_at}
use Rattle.keyed_machine.specs.Phase.{inputs_of, keys_of_phases, timed_items}
use Rattle.keyed_machine.proofs.Ordered.{by_bool, is_at_itself}
use Rattle.sip_transactions.specs.declared.output.Out.{Out}
use Rattle.sip_transactions.specs.declared.output.Out.TheVariants as out
use Rattle.sip_transactions.specs.Machine.{transaction_machine}
use Rattle.sip_user.specs.Command.{call_of_command, call_of_item}
use Rattle.sip_user.specs.declared.command.AbandonDialog.{AbandonDialog}
use Rattle.sip_user.specs.declared.command.AbandonRequest.{AbandonRequest}
use Rattle.sip_user.specs.declared.command.UserCommand.{UserCommand}
use Rattle.sip_user.specs.declared.command.UserCommand.TheVariants as user
use Rattle.sip_user.specs.declared.item.Item.{Item}
use Rattle.sip_user.specs.declared.item.Item.TheVariants.{Up, User}
use Rattle.sip_user.specs.declared.refusal.Refusal.TheVariants.{NoSuchDialog, NoSuchRequest}
use Rattle.sip_held_dialogs.specs.Dialogs.{is_dialog_id}
use Rattle.sip_held_dialogs.specs.Ids.{is_id}
use Rattle.sip_held_dialogs.proofs.Entries.{none_apart}
use Rattle.sip_clients.specs.declared.client.Client.{Client}
use Rattle.sip_clients.specs.declared.event.Event.{Event as ClientEvent}
use Rattle.sip_clients.specs.Client.{ClientTaken, Clients, Side}
use Rattle.sip_clients.specs.Rules.Abandon.{abandon_dialog_command, abandon_of_dialog, abandon_of_request, abandon_request_command}
use Rattle.sip_clients.specs.Rules.Ends.{request_is_lost}
use Rattle.sip_clients.specs.Rules.Requests.{is_invite_kind, refuse}
use Rattle.sip_clients.proofs.FirstInvite.{id_exact}
use Rattle.sip_calls.specs.declared.call.Call.{Call}
use Rattle.sip_calls.specs.declared.calls.Calls.{Calls}
use Rattle.sip_calls.specs.Call.{CallItem, call_step, event_of, item_of_call, new_call}
use Rattle.sip_calls.specs.CallShard.{call_cmp}
use Rattle.sip_calls.specs.HeldRequests.{RequestsDiffer, request_brought}
use Rattle.sip_calls.specs.Histories.{call_from}
use Rattle.sip_calls.specs.Provisionals.{side_held}
use Rattle.sip_calls.specs.Sides.{side_of}
use Rattle.sip_agent_laws.specs.Calls.Ending.{Ends, IsEndOf, SomeEnds, dialog_named}
use Rattle.sip_agent_laws.specs.Calls.Rest.{is_from_outside}
use Rattle.sip_agent_laws.specs.Calls.Waiting.{InDialog, NothingWaits, OfPeer, OurInvite, Waiting, waits}
use Rattle.sip_agent_laws.proofs.calls.Differ.{clients_sound}
use Rattle.sip_agent_laws.proofs.calls.Ended.{user_ends_all}
use Rattle.sip_agent_laws.proofs.calls.Waits.{others_add_nothing}
use Rattle.sip_round.specs.Arrivals.{Arrival, arrival_of, arrivals_from}
use Rattle.sip_round.specs.declared.config.Config.{Config}
use Rattle.sip_round.specs.declared.round.Event.{Event}
use Rattle.sip_round.specs.declared.round.Event.TheVariants as event
use Rattle.sip_round.specs.declared.round.Round.{Round}
use Rattle.sip_round.specs.Answers.{Past, calls_of, items_of_round, no_past, past_of}
use Rattle.sip_round.specs.CallsHeld.{call_after}
use Rattle.sip_round.specs.Outputs.{joined, outs_of, raised_of, said_at, user_items}
use Rattle.sip_round.specs.Phases.{call_items}
use Rattle.sip_round.proofs.RequestsDiffer.{requests_differ}
use Rattle.sip_round.proofs.Runs.{past_from-append}
use Rattle.sip_agent_laws.specs.Agents.NothingLeft.{IsSettled}
use Rattle.sip_agent_laws.specs.Agents.UserEnds.{EndsWhatWaits, GivesUp, IsEnding, SomeCommand, UserEndsAgent, UserEndsTransactions}
use Rattle.sip_agent_laws.proofs.agents.Idle.{IsReport, all_joined, report_inside, tick_reports}
use Rattle.sip_agent_laws.proofs.agents.Linked.{first_ticks, first_told, items_are, lives_in}
use Rattle.sip_agent_laws.proofs.agents.LinkedRounds.{given_to}
use Rattle.sip_agent_laws.proofs.agents.Lists.{by_found, front_of, same_some}
use Rattle.sip_agent_laws.proofs.agents.NothingLeft.{AllAre, AreInvites, call_on, from_keeps, invites_alone, kept_all, no_transaction_stays, nothing_stays, step_keeps}
use Rattle.sip_agent_laws.proofs.agents.RestFrom.{all_goes, calls_longer}
use Rattle.sip_agent_laws.proofs.agents.Sound.{one_more}
use Rattle.sip_agent_laws.proofs.agents.ClientsHeld.{id_itself}
use Rattle.sip_agent_laws.proofs.histories.CallsAfter.{same_call}

-- ---- the items of a round of commands

-- the commands of events, by their ids
users : ℕ → ℕ → List Event → List (Id × Item)
users number place [] = []
users number place (event.Datagram from bytes ∷ events) = users number (suc place) events
users number place (event.Failed key ∷ events) = users number (suc place) events
users number place (event.Command command ∷ events) =
    (record { round = number; place = place }, User command) ∷ users number (suc place) events

-- those of one call, as its inputs
picked : ℕ → List ℕ → List (Id × Item) → List (Timed CallItem)
picked now q [] = []
picked now q (item ∷ items) = cond (is_at (call_cmp (call_of_item item.1)) q)
    (given_at now item ∷ picked now q items) (picked now q items)

picked_both : (now : ℕ) (q : List ℕ) (xs ys : List (Id × Item))
    → picked now q (xs ++ ys) ≡ picked now q xs ++ picked now q ys
unfolding picked
picked_both now q [] ys = refl
picked_both now q (item ∷ xs) ys =
    elim (is_at (call_cmp (call_of_item item.1)) q) as (λ b.
    cond b (given_at now item ∷ picked now q (xs ++ ys)) (picked now q (xs ++ ys))
    ≡ cond b (given_at now item ∷ picked now q xs) (picked now q xs) ++ picked now q ys) [
      | true ↦ ap (λ rest. given_at now item ∷ rest) (picked_both now q xs ys)
      | false ↦ picked_both now q xs ys
    ]

inputs_picked : (now at : ℕ) (q : List ℕ) (items : List (Id × Item))
    → inputs_of call_cmp (timed_items now (call_items at items)) q ≡ picked now q items
unfolding picked
inputs_picked now at q [] = refl
inputs_picked now at q (item ∷ items) =
    let rest = timed_items now (call_items (suc at) items) in
    let this : model.Item (List ℕ) (Timed CallItem) = record {
      place = at;
      key = call_of_item item.1;
      input = given_at now item;
    } in
    elim (is_at (call_cmp (call_of_item item.1)) q) as (λ b.
    map (λ (i : model.Item (List ℕ) (Timed CallItem)). i.input)
    (cond b (this ∷ filter (λ i. is_at (call_cmp i.key) q) rest)
    (filter (λ i. is_at (call_cmp i.key) q) rest))
    ≡ cond b (given_at now item ∷ picked now q items) (picked now q items)) [
      | true ↦ ap (λ more. given_at now item ∷ more) (inputs_picked now (suc at) q items)
      | false ↦ inputs_picked now (suc at) q items
    ]

all_picked : (P : Timed CallItem → Type 0) (now : ℕ) (q : List ℕ) (items : List (Id × Item))
    → AllByRecursion (λ item. P (given_at now item)) items
    → AllByRecursion P (picked now q items)
unfolding picked
all_picked P now q [] all = tt
all_picked P now q (item ∷ items) all =
    elim (is_at (call_cmp (call_of_item item.1)) q) as (λ b. AllByRecursion P
    (cond b (given_at now item ∷ picked now q items) (picked now q items))) [
      | true ↦ (all.0, all_picked P now q items all.1)
      | false ↦ all_picked P now q items all.1
    ]

-- what comes up at ticks
raised_reports : (id : Id) (outs : List Out) → AllByRecursion IsReport outs
    → AllByRecursion (λ (item : Id × Item). is_from_outside (Some item) ≡ false)
    (flat_map (raised_of id) outs)
raised_reports id [] all = tt
raised_reports id (out.Up up ∷ outs) all =
    (report_inside (Some (id, Up up)) all.0, raised_reports id outs all.1)
raised_reports id (out.Send key to bytes ∷ outs) all = raised_reports id outs all.1
raised_reports id (out.Dropped place why ∷ outs) all = raised_reports id outs all.1

abbrev items_at : (ℕ → List Out) → Id × Arrival → List (Id × Item)
items_at said a = flat_map (raised_of a.0) (outs_of said a.0 a.1) ++ user_items a.0 a.1

only_users : (local : Addr) (said : ℕ → List Out) (number place : ℕ) (events : List Event)
    → AllByRecursion IsEnding events
    → flat_map (items_at said) (arrivals_from local number place events)
    ≡ users number place events
unfolding users arrival_of
only_users local said number place [] all = refl
only_users local said number place (event.Datagram from bytes ∷ events) all = absurd all.0
only_users local said number place (event.Failed key ∷ events) all = absurd all.0
only_users local said number place (event.Command command ∷ events) all =
    ap (λ rest. (record { round = number; place = place }, User command) ∷ rest)
    (only_users local said number (suc place) events all.1)

-- one of the inputs is such a command
abbrev SomeInput : (UserCommand → Type 0) → List (Timed CallItem) → Type 0
SomeInput Is [] = ⊥
SomeInput Is (timed ∷ inputs) = ((event : Id) × (command : UserCommand)
    × (timed.input ≡ Some (event, User command)) × Is command) ⊎ SomeInput Is inputs

some_ends : (one : Waiting) (inputs : List (Timed CallItem)) → SomeInput (Ends one) inputs
    → SomeEnds one inputs
some_ends one [] some = some
some_ends one (timed ∷ inputs) (inl here) = inl here
some_ends one (timed ∷ inputs) (inr later) = inr (some_ends one inputs later)

module _ (now : ℕ) (q : List ℕ) where
  -- each is a command that ends something
  users_end : (number place : ℕ) (events : List Event) → AllByRecursion IsEnding events
      → AllByRecursion (λ (item : Id × Item). (one : Waiting) × IsEndOf one (given_at now item))
      (users number place events)
  unfolding users
  users_end number place [] all = tt
  users_end number place (event.Datagram from bytes ∷ events) all = absurd all.0
  users_end number place (event.Failed key ∷ events) all = absurd all.0
  users_end number place (event.Command command ∷ events) all = (
    (all.0.0, (record { round = number; place = place }, command, refl, all.0.1)),
    users_end number (suc place) events all.1,
  )

  in_picked : (Is : UserCommand → Type 0) (number place : ℕ) (events : List Event)
      → SomeCommand q Is events → SomeInput Is (picked now q (users number place events))
  unfolding users picked
  in_picked Is number place [] some = some
  in_picked Is number place (event.Datagram from bytes ∷ events) some =
      in_picked Is number (suc place) events some
  in_picked Is number place (event.Failed key ∷ events) some =
      in_picked Is number (suc place) events some
  in_picked Is number place (event.Command command ∷ events) (inl here) =
      let id : Id = record { round = number; place = place } in
      subst (λ b. SomeInput Is (cond b (given_at now (id, User command)
      ∷ picked now q (users number (suc place) events))
      (picked now q (users number (suc place) events))))
      (sym (ap (λ c. is_at (call_cmp c) q) here.0 ∙ is_at_itself nat_list_cmp_total q))
      (inl (id, command, refl, here.1))
  in_picked Is number place (event.Command command ∷ events) (inr later) =
      let id : Id = record { round = number; place = place } in
      let rest = in_picked Is number (suc place) events later in
      elim (is_at (call_cmp (call_of_command command)) q) as (λ b. SomeInput Is
      (cond b (given_at now (id, User command) ∷ picked now q (users number (suc place) events))
      (picked now q (users number (suc place) events)))) [
        | true ↦ inr rest
        | false ↦ rest
      ]

-- ---- client requests

some_none : (client : Client) → Some client ≡ None → ⊥
some_none client same = absurd cc

module _ {P Q : Id × Client → Type 0} (j : Id)
    (goes : (e : Id × Client) → P e → is_id j e.0 ≡ false → Q e) where
  apart_from : (e : Id × Client) (es : Clients) → is_id j e.0 ≡ true
      → AllByRecursion (λ y. is_id e.0 y ≡ false) (keys_of es) → AllByRecursion P es
      → AllByRecursion Q es
  apart_from e [] same apart all = tt
  apart_from e (x ∷ es) same apart all = (
    goes x all.0 (ap (λ i. is_id i x.0) (id_exact j e.0 same) ∙ apart.0),
    apart_from e es same apart.1 all.1,
  )

  removed_all : (es : Clients) → IsDistinct is_id (keys_of es) → AllByRecursion P es
      → AllByRecursion Q (remove_entry (is_id j) es)
  removed_all [] apart all = tt
  removed_all (e ∷ es) apart all =
      by_hit (is_id j e.0) refl
      (removed_all es (IsDistinct-tail is_id e.0 (keys_of es) apart) all.1)
    where
      by_hit : (b : Bool) → is_id j e.0 ≡ b → AllByRecursion Q (remove_entry (is_id j) es)
          → AllByRecursion Q (cond b es (e ∷ remove_entry (is_id j) es))
      by_hit true is rest =
          apart_from e es is (IsDistinct-head is_id e.0 (keys_of es) apart) all.1
      by_hit false is rest = (goes e all.0 is, rest)

  none_all : (es : Clients) → lookup (is_id j) es ≡ None → AllByRecursion P es
      → AllByRecursion Q es
  none_all [] none all = tt
  none_all (e ∷ es) none all =
      by_hit (is_id j e.0) refl none (λ more. none_all es more all.1)
    where
      by_hit : (b : Bool) → is_id j e.0 ≡ b → cond b (Some e.1) (lookup (is_id j) es) ≡ None
          → (lookup (is_id j) es ≡ None → AllByRecursion Q es) → AllByRecursion Q (e ∷ es)
      by_hit true is none more = absurd (some_none e.1 none)
      by_hit false is none more = (goes e all.0 is, more none)

-- ---- a command that ends something

abbrev IsEnder : UserCommand → Type 0
IsEnder (user.Invite invite) = ⊥
IsEnder (user.Plain plain) = ⊥
IsEnder (user.Request request) = ⊥
IsEnder (user.Respond respond) = Unit {0}
IsEnder (user.Ack ack) = ⊥
IsEnder (user.Prack prack) = ⊥
IsEnder (user.Cancel cancel) = ⊥
IsEnder (user.AbandonRequest abandon) = Unit {0}
IsEnder (user.AbandonDialog abandon) = Unit {0}

is_ender : (one : Waiting) (c : UserCommand) → Ends one c → IsEnder c
is_ender (OfPeer id) (user.Respond respond) ends = tt
is_ender (OfPeer id) (user.AbandonRequest abandon) ends = tt
is_ender (OfPeer id) (user.AbandonDialog abandon) ends = tt
is_ender (OurInvite id) (user.Respond respond) ends = tt
is_ender (OurInvite id) (user.AbandonRequest abandon) ends = tt
is_ender (OurInvite id) (user.AbandonDialog abandon) ends = tt
is_ender (InDialog name) (user.Respond respond) ends = tt
is_ender (InDialog name) (user.AbandonRequest abandon) ends = tt
is_ender (InDialog name) (user.AbandonDialog abandon) ends = tt
is_ender (OfPeer id) _ ends = ends
is_ender (OurInvite id) _ ends = ends
is_ender (InDialog name) _ ends = ends

-- each request other than an INVITE is given up by one of these commands
abbrev AreGivenUp : List (Timed CallItem) → Clients → Type 0
AreGivenUp commands clients = AllByRecursion (λ (entry : Id × Client).
    is_invite_kind entry.1.kind ≡ false → SomeInput (GivesUp entry.0) commands) clients

same_command : (event other : Id) (c command : UserCommand)
    → ◌≡◌ {A = Option CallItem} (Some (event, User c)) (Some (other, User command))
    → c ≡ command
same_command event other c command same =
    let items : User c ≡ User command = ap (λ (item : Id × Item). item.1)
    (same_some (event, User c) (other, User command) same) in
    cc

by_first : (timed : Timed CallItem) (rest : List (Timed CallItem)) (event id : Id)
    (c : UserCommand) → timed.input ≡ Some (event, User c)
    → (GivesUp id c → ⊥) → SomeInput (GivesUp id) (timed ∷ rest) → SomeInput (GivesUp id) rest
by_first timed rest event id c is never (inl (other, command, same, gives)) =
    absurd (never (subst (GivesUp id) (sym (same_command event other c command (sym is ∙ same)))
    gives))
by_first timed rest event id c is never (inr later) = later

module _ (timed : Timed CallItem) (rest : List (Timed CallItem)) (event : Id) where
  no_gift : (c : UserCommand) → timed.input ≡ Some (event, User c)
      → ((id : Id) → GivesUp id c → ⊥) → (clients : Clients)
      → AreGivenUp (timed ∷ rest) clients → AreGivenUp rest clients
  no_gift c is never clients all =
      all_goes (λ entry given other. by_first timed rest event entry.0 c is (never entry.0)
      (given other)) clients all

  gift : (abandon : AbandonRequest) → timed.input ≡ Some (event, User (user.AbandonRequest abandon))
      → (entry : Id × Client)
      → (is_invite_kind entry.1.kind ≡ false → SomeInput (GivesUp entry.0) (timed ∷ rest))
      → is_id abandon.id entry.0 ≡ false
      → is_invite_kind entry.1.kind ≡ false → SomeInput (GivesUp entry.0) rest
  gift abandon is entry given apart other =
      by_first timed rest event entry.0 (user.AbandonRequest abandon) is
      (λ same. false≢true (sym apart ∙ (ap (λ i. is_id i entry.0) same ∙ id_itself entry.0)))
      (given other)

  given_up : (abandon : AbandonRequest) (of : ClientEvent) (side : Side)
      → timed.input ≡ Some (event, User (user.AbandonRequest abandon))
      → IsDistinct is_id (keys_of side.clients) → AreGivenUp (timed ∷ rest) side.clients
      → AreGivenUp rest ((abandon_request_command of abandon side).0).clients
  unfolding abandon_request_command request_is_lost
  given_up abandon of side is apart all =
      by_found (λ (taken : ClientTaken). AreGivenUp rest (taken.0).clients)
      (abandon_of_request abandon side) (lookup (is_id abandon.id) side.clients)
      (refuse of abandon.call_id side NoSuchRequest)
      (λ client found. removed_all abandon.id (gift abandon is) side.clients apart all)
      (λ none. none_all abandon.id (gift abandon is) side.clients none all)

  dialog_given_up : (abandon : AbandonDialog) (of : ClientEvent) (side : Side)
      → AreGivenUp rest side.clients
      → AreGivenUp rest ((abandon_dialog_command of abandon side).0).clients
  unfolding abandon_dialog_command
  dialog_given_up abandon of side all =
      by_found (λ (taken : ClientTaken). AreGivenUp rest (taken.0).clients)
      (abandon_of_dialog (dialog_named abandon) side)
      (lookup (is_dialog_id (dialog_named abandon)) side.dialogs)
      (refuse of abandon.call_id side NoSuchDialog) (λ held found. all) (λ none. all)

  abbrev Left : Id × Client → Type 0
  Left entry = is_invite_kind entry.1.kind ≡ false → SomeInput (GivesUp entry.0) rest

  command_left : (calls : Calls) (call : Option Call) (now : ℕ) (c : UserCommand) → IsEnder c
      → timed.input ≡ Some (event, User c)
      → IsDistinct is_id (keys_of (side_held call).clients)
      → AreGivenUp (timed ∷ rest) (side_held call).clients
      → AreGivenUp rest (side_held (call_step calls call (Some (event, User c)) now).0).clients
  command_left calls (Some call) now (user.Respond respond) ender is apart all =
      kept_all Left (item_of_call true call (event_of calls event now)
      (User (user.Respond respond))).0
      (no_gift (user.Respond respond) is (λ id gives. gives) call.clients all)
  command_left calls (Some call) now (user.AbandonRequest abandon) ender is apart all =
      kept_all Left (item_of_call true call (event_of calls event now)
      (User (user.AbandonRequest abandon))).0
      (given_up abandon (event_of calls event now) (side_of call) is apart all)
  command_left calls (Some call) now (user.AbandonDialog abandon) ender is apart all =
      kept_all Left (item_of_call true call (event_of calls event now)
      (User (user.AbandonDialog abandon))).0
      (dialog_given_up abandon (event_of calls event now) (side_of call)
      (no_gift (user.AbandonDialog abandon) is (λ id gives. gives) call.clients all))
  command_left calls call now (user.Invite invite) ender is apart all = absurd ender
  command_left calls call now (user.Plain plain) ender is apart all = absurd ender
  command_left calls call now (user.Request request) ender is apart all = absurd ender
  command_left calls call now (user.Ack ack) ender is apart all = absurd ender
  command_left calls call now (user.Prack prack) ender is apart all = absurd ender
  command_left calls call now (user.Cancel cancel) ender is apart all = absurd ender
  command_left calls None now _ ender is apart all =
      kept_all Left (new_call calls.local) tt

only_invites : (clients : Clients) → AreGivenUp [] clients → AreInvites clients
only_invites [] all = tt
only_invites (entry ∷ clients) all = (
  by_bool (is_invite_kind entry.1.kind) (λ is. is) (λ other. absurd (all.0 other)),
  only_invites clients all.1,
)

commands_end : (calls : Calls) (commands inputs : List (Timed CallItem))
    → AllByRecursion (λ (timed : Timed CallItem). (one : Waiting) × IsEndOf one timed) commands
    → AreGivenUp commands (side_held (call_from calls None inputs)).clients
    → AreInvites (side_held (call_from calls None (inputs ++ commands))).clients
commands_end calls [] inputs all given =
    subst (λ these. AreInvites (side_held (call_from calls None these)).clients)
    (sym (append-nil inputs))
    (only_invites (side_held (call_from calls None inputs)).clients given)
commands_end calls (timed ∷ rest) inputs all given =
    let call = call_from calls None inputs in
    let one = all.0.0 in
    let event = all.0.1.0 in
    let c = all.0.1.1 in
    let is : timed.input ≡ Some (event, User c) = all.0.1.2 in
    let after = command_left timed rest event calls call timed.moment c
    (is_ender one c all.0.1.3) is (clients_sound calls inputs).0 given in
    subst (λ these. AreInvites (side_held (call_from calls None these)).clients)
    (append_assoc inputs (timed ∷ []) rest)
    (commands_end calls rest (inputs ++ timed ∷ []) all.1
    (subst (λ (now : Option Call). AreGivenUp rest (side_held now).clients)
    (sym (one_more calls None inputs timed
    ∙ ap (λ input. (call_step calls call input timed.moment).0) is)) after))

-- ---- what waits after ticks and reports waited before

waited : (calls : Calls) (inputs : List (Timed CallItem)) (call : Option Call) (one : Waiting)
    → AllByRecursion (λ (timed : Timed CallItem). is_from_outside timed.input ≡ false) inputs
    → waits one (call_from calls call inputs) ≡ true → waits one call ≡ true
waited calls [] call one inside is = is
waited calls (input ∷ inputs) call one inside is =
    others_add_nothing calls call input.input input.moment inside.0 one
    (waited calls inputs (call_step calls call input.input input.moment).0 one inside.1 is)

-- ---- one round

front_apart : (xs ys : List Id) → IsDistinct is_id (xs ++ ys) → IsDistinct is_id xs
front_apart [] ys apart = none_apart is_id
front_apart (x ∷ xs) ys apart =
    IsDistinct-cons is_id x xs
    (front_of (λ y. is_id x y ≡ false) xs ys (IsDistinct-head is_id x (xs ++ ys) apart))
    (front_apart xs ys (IsDistinct-tail is_id x (xs ++ ys) apart))

first_differ : (one other : List (Timed CallItem)) → RequestsDiffer (one ++ other)
    → RequestsDiffer one
first_differ one other differ =
    front_apart (filter_map (λ (timed : Timed CallItem). request_brought timed.input) one)
    (filter_map (λ (timed : Timed CallItem). request_brought timed.input) other)
    (subst (IsDistinct is_id)
    (filter_map-append (λ (timed : Timed CallItem). request_brought timed.input) one other) differ)

module _ (config : Config) (rounds : List Round) (round : Round)
    (ends : EndsWhatWaits config rounds round) (q : List ℕ) where
  abbrev past : Past
  past = past_of config rounds

  abbrev now : ℕ
  now = round.moment

  abbrev place : ℕ
  place = config.first + length rounds

  abbrev reported : List (Id × Item)
  reported = flat_map (raised_of (record { round = place; place = 0 }))
      (joined (first_ticks config place past round))

  abbrev asked : List (Id × Item)
  asked = users place 1 round.events

  items_split : items_of_round config place past round ≡ reported ++ asked
  items_split =
      items_are config place past round
      ∙ ap (λ rest. reported ++ rest)
      (only_users config.local (said_at (first_told config place past round)) place 1 round.events
      ends.only)

  abbrev before : List (Timed CallItem)
  before = given_to past.calls q ++ tick_at now ∷ picked now q reported

  abbrev commands : List (Timed CallItem)
  commands = picked now q asked

  inputs_are : given_to (past_of config (rounds ++ round ∷ [])).calls q ≡ before ++ commands
  unfolding past_of
  inputs_are =
      ap (λ (p : Past). given_to p.calls q)
      (past_from-append config config.first no_past rounds (round ∷ []))
      ∙ (calls_longer config place past round q
      ∙ (ap (λ more. given_to past.calls q ++ tick_at now ∷ more)
      (inputs_picked now 0 q (items_of_round config place past round)
      ∙ (ap (picked now q) items_split ∙ picked_both now q reported asked))
      ∙ sym (append_assoc (given_to past.calls q) (tick_at now ∷ picked now q reported)
      commands)))

  inside : AllByRecursion (λ (timed : Timed CallItem). is_from_outside timed.input ≡ false)
      (tick_at now ∷ picked now q reported)
  inside = (
    refl,
    all_picked (λ (timed : Timed CallItem). is_from_outside timed.input ≡ false) now q reported
        (raised_reports (record { round = place; place = 0 })
        (joined (first_ticks config place past round))
        (all_joined IsReport
        (λ k. adds transaction_machine k (lives_in past k) (tick_at now))
        (filter (λ k. speaks (adds transaction_machine k (lives_in past k) (tick_at now)))
        (keys_of_phases key_cmp past.transactions))
        (λ k. tick_reports k (lives_in past k) now))),
  )

  ending : AllByRecursion (λ (timed : Timed CallItem). (one : Waiting) × IsEndOf one timed)
      commands
  ending = all_picked (λ (timed : Timed CallItem). (one : Waiting) × IsEndOf one timed) now q asked
      (users_end now q place 1 round.events ends.only)

  held_before : call_from (calls_of config) None (given_to past.calls q)
      ≡ call_after config rounds q
  held_before = same_call (calls_of config) q None (given_to past.calls q)

  after_reports : call_from (calls_of config) None before
      ≡ call_from (calls_of config) (call_after config rounds q)
      (tick_at now ∷ picked now q reported)
  after_reports =
      call_on (calls_of config) None (given_to past.calls q) (tick_at now ∷ picked now q reported)
      ∙ ap (λ call. call_from (calls_of config) call (tick_at now ∷ picked now q reported))
      held_before

  differ : RequestsDiffer before
  differ = first_differ before commands
      (subst RequestsDiffer inputs_are (requests_differ config q (rounds ++ round ∷ [])))

  nothing_waits : NothingWaits (call_from (calls_of config) None (before ++ commands))
  nothing_waits =
      user_ends_all (calls_of config) before commands differ ending
      (λ one is. some_ends one commands (in_picked now q (Ends one) place 1 round.events
      (ends.each q one (waited (calls_of config) (tick_at now ∷ picked now q reported)
      (call_after config rounds q) one inside
      (ap (waits one) (sym after_reports) ∙ is)))))

  whole : call_from (calls_of config) None (before ++ commands)
      ≡ call_after config (rounds ++ round ∷ []) q
  whole =
      ap (call_from (calls_of config) None) (sym inputs_are)
      ∙ same_call (calls_of config) q None
      (given_to (past_of config (rounds ++ round ∷ [])).calls q)

  pub user_done : NothingWaits (call_after config (rounds ++ round ∷ []) q)
  user_done = subst NothingWaits whole nothing_waits

  module _ (others : AllByRecursion (λ (entry : Id × Client).
      is_invite_kind entry.1.kind ≡ false → SomeCommand q (GivesUp entry.0) round.events)
      (side_held (call_after config rounds q)).clients) where
    all_given : AreGivenUp commands (side_held (call_from (calls_of config) None before)).clients
    all_given =
        let Given : Id × Client → Type 0 = λ entry. is_invite_kind entry.1.kind ≡ false
        → SomeInput (GivesUp entry.0) commands in
        subst (λ (call : Option Call). AreGivenUp commands (side_held call).clients)
        (sym after_reports)
        (from_keeps (calls_of config) (AllAre Given) (step_keeps Given (calls_of config))
        (tick_at now ∷ picked now q reported) (call_after config rounds q) inside
        (all_goes (λ entry given other. in_picked now q (GivesUp entry.0) place 1 round.events
        (given other)) (side_held (call_after config rounds q)).clients others))

    pub settled : IsSettled (call_after config (rounds ++ round ∷ []) q)
    settled =
        subst IsSettled whole
        (record {
          user = nothing_waits;
          transaction = invites_alone
              (side_held (call_from (calls_of config) None (before ++ commands))).clients
              (commands_end (calls_of config) commands before ending all_given);
        })

pub user_ends_transactions : UserEndsTransactions
user_ends_transactions config moment rounds round idle ends quiet =
    no_transaction_stays config moment (rounds ++ round ∷ []) idle
    (λ q. user_done config rounds round ends q) quiet

pub user_ends_agent : UserEndsAgent
user_ends_agent config moment rounds round idle ends quiet =
    nothing_stays config moment (rounds ++ round ∷ []) idle
    (λ q. settled config rounds round ends.waiting q (ends.others q)) quiet
