-- What is held of each call after rounds is what the laws of calls say about its inputs.
use Rattle.std.proofs.Common.{◌≡◌, ℕ, ◌+◌, false, List, [], ◌∷◌, ◌++◌, length, refl, sym, ap, subst, ◌∙◌}
use Rattle.std.specs.Prelude.{Option, None, Some, filter_map, find, fold, map, unwrap_or}
use Rattle.std.specs.List.{AllByRecursion, IsDistinct}
use Rattle.std.proofs.lemmas.List.Elements.{filter_map-append}
use Rattle.std.proofs.lemmas.Map.Keys.{IsDistinct-cons, IsDistinct-head, IsDistinct-tail}
use Rattle.sip_message.specs.declared.id.Id.{Id}
use Rattle.keyed_machine.specs.Laws.{EachKeyAlone}
use Rattle.keyed_machine.specs.Machine.{Timed, state_from, tick_at}
use Rattle.sip_dialog.specs.Life.{accepted_number, greater, routes_by, target_by}
use Rattle.sip_dialog.specs.Opening.{opened}
use Rattle.sip_transactions.specs.Ids.{IdsRise}
use Rattle.sip_held_dialogs.specs.Dialogs.{dialog_at}
use Rattle.sip_held_dialogs.specs.Ids.{is_id}
use Rattle.sip_held_dialogs.specs.Sent.{NumberedAfter, cseqs_in}
use Rattle.sip_held_dialogs.proofs.Entries.{none_apart}
use Rattle.sip_served.specs.State.{has_id}
use Rattle.sip_calls.specs.declared.call.Call.{Call}
use Rattle.sip_calls.specs.declared.calls.Calls.{Calls}
use Rattle.sip_calls.specs.HeldRequests.{requests_held}
use Rattle.sip_calls.specs.Call.{CallItem, call_machine, call_step}
use Rattle.sip_calls.specs.CallShard.{call_cmp}
use Rattle.sip_calls.specs.Histories.{History, call_from, history_of}
use Rattle.sip_calls.specs.Provisionals.{event_in, side_held}
use Rattle.sip_calls.proofs.Awaiting.{awaits_as_told}
use Rattle.sip_calls.proofs.HeldById.{held_by_id}
use Rattle.sip_calls.proofs.Histories.{counts_its_requests, has_its_name, has_the_greatest_number, has_the_latest_route, has_the_next_number, holds_its_history, numbers_its_requests}
use Rattle.sip_calls.proofs.Owing.{owes_as_told}
use Rattle.sip_calls.proofs.RequestHistories.{holds_its_stories}
use Rattle.sip_calls.proofs.Unacknowledged.{awaited_as_told, kept_as_told, repeated_as_told}
use Rattle.sip_round.specs.declared.config.Config.{Config}
use Rattle.sip_round.specs.declared.round.Round.{Round}
use Rattle.sip_round.specs.Answers.{calls_of, past_of}
use Rattle.sip_round.specs.CallsHeld.{DialogsHaveTheirHistory, EachDialogOwesAsTold, EachInviteAwaitsAsTold, EachRequestHasItsStory, EachRequestHeldById, EachResponseAwaitsAsTold, InputsNumberOn, call_after}
use Rattle.sip_round.specs.Laws.{call_inputs_of}
use Rattle.sip_round.proofs.CallEvents.{events_differ}
use Rattle.sip_round.proofs.RequestsDiffer.{brought_rise, requests_differ}
use Rattle.sip_round.proofs.Said.{call_alone}
use Rattle.sip_round.proofs.SaidInDialogs.{said_in_dialog}

-- what is held after rounds, input by input
same_call : (calls : Calls) (key : List ℕ) (state : Option Call) (inputs : List (Timed CallItem))
    → call_from calls state inputs ≡ state_from (call_machine calls) key state inputs
same_call calls key state [] = refl
same_call calls key state (input ∷ inputs) =
    same_call calls key (call_step calls state input.input input.moment).0 inputs

module _ (config : Config) (rounds : List Round) (call_id : List ℕ) where
  abbrev inputs : List (Timed CallItem)
  inputs = call_inputs_of config rounds call_id

  held_so : call_from (calls_of config) None inputs ≡ call_after config rounds call_id
  held_so = same_call (calls_of config) call_id None inputs

same_history : (told : Option History) (one other : History) → told ≡ Some one → told ≡ Some other
    → other ≡ one
same_history told one other first second =
    ap (λ o. unwrap_or o one) (sym second ∙ first)

pub dialogs_have_their_history : (config : Config)
    → EachKeyAlone call_cmp (call_machine (calls_of config)) tick_at
    → (rounds : List Round) → DialogsHaveTheirHistory config rounds
dialogs_have_their_history config alone rounds call_id name held is =
    let calls = calls_of config in
    let given = call_inputs_of config rounds call_id in
    let differ = events_differ config call_id rounds in
    let at : dialog_at name (side_held (call_from calls None given)).dialogs ≡ Some held =
    ap (λ call. dialog_at name (side_held call).dialogs) (held_so config rounds call_id) ∙ is in
    let value = holds_its_history calls given differ name held at in
    let local = counts_its_requests calls given differ name held at in
    let numbers = numbers_its_requests calls given differ name held at in
    let remote = has_the_greatest_number calls given differ name held at in
    let route = has_the_latest_route calls given differ name held at in
    let told = history_of calls name given in
    let end = said_in_dialog calls call_id name given value.0 value.1 in
    let of : (other : History) → told ≡ Some other → other ≡ value.0 =
    λ other so. same_history told value.0 other value.1 so in
    record {
      history = value.0;
      of_its_inputs = value.1;
      value = value.2;
      named = has_its_name calls given differ name held at;
      local = subst (λ (history : History). held.dialog.local_cseq
          ≡ (opened history.opening).local_cseq + length history.sent)
          (of local.0 local.1) local.2;
      numbers = subst (λ (history : History).
          NumberedAfter (opened history.opening).local_cseq history.sent)
          (of numbers.0 numbers.1) numbers.2;
      said = (
        end.0,
        ap (cseqs_in name)
            (call_alone calls alone [] (past_of config rounds).calls call_id) ∙ end.1,
      );
      remote = subst (λ (history : History). held.dialog.remote_cseq
          ≡ fold greater (opened history.opening).remote_cseq
          (filter_map accepted_number history.life))
          (of remote.0 remote.1) remote.2;
      route = subst (λ (history : History). held.dialog.route_set
          ≡ fold (routes_by (opened history.opening).side) (opened history.opening).route_set
          history.life) (of route.0 route.1) (route.2).0;
      target = subst (λ (history : History). held.dialog.target
          ≡ fold (target_by (opened history.opening).side) (opened history.opening).target
          history.life) (of route.0 route.1) (route.2).1;
    }

-- ---- the inputs before one

all_front : (P : Id → Type 0) (xs ys : List Id) → AllByRecursion P (xs ++ ys) → AllByRecursion P xs
all_front P [] ys all = tt
all_front P (x ∷ xs) ys all = (all.0, all_front P xs ys all.1)

front_apart : (xs ys : List Id) → IsDistinct is_id (xs ++ ys) → IsDistinct is_id xs
front_apart [] ys apart = none_apart is_id
front_apart (x ∷ xs) ys apart =
    IsDistinct-cons is_id x xs
    (all_front (λ y. is_id x y ≡ false) xs ys (IsDistinct-head is_id x (xs ++ ys) apart))
    (front_apart xs ys (IsDistinct-tail is_id x (xs ++ ys) apart))

abbrev events_in : List (Timed CallItem) → List Id
events_in inputs = filter_map (λ timed. event_in timed.input) inputs

pub inputs_number_on : (config : Config) (rounds : List Round) → InputsNumberOn config rounds
inputs_number_on config rounds call_id before after input are name =
    let whole : IsDistinct is_id (events_in before ++ events_in (input ∷ after)) =
    subst (IsDistinct is_id)
    (ap events_in are ∙ filter_map-append (λ timed. event_in timed.input) before (input ∷ after))
    (events_differ config call_id rounds) in
    has_the_next_number (calls_of config) before input
    (front_apart (events_in before) (events_in (input ∷ after)) whole) name

-- ---- requests

pub requests_held_by_id : EachRequestHeldById
requests_held_by_id config rounds call_id =
    subst (λ call. IdsRise (map (λ held. held.id) (requests_held call)))
    (held_so config rounds call_id)
    (held_by_id (calls_of config) (call_inputs_of config rounds call_id)
    (brought_rise config call_id rounds))

pub requests_have_their_stories : EachRequestHasItsStory
requests_have_their_stories config rounds call_id =
    ap requests_held (sym (held_so config rounds call_id))
    ∙ holds_its_stories (calls_of config) (call_inputs_of config rounds call_id)

pub invites_await_as_told : EachInviteAwaitsAsTold
invites_await_as_told config rounds call_id invite held is =
    awaits_as_told (calls_of config) (call_inputs_of config rounds call_id)
    (requests_differ config call_id rounds) invite held
    (ap (λ call. find (has_id invite) (requests_held call)) (held_so config rounds call_id) ∙ is)

pub responses_await_as_told : EachResponseAwaitsAsTold
responses_await_as_told config rounds call_id invite held is =
    let calls = calls_of config in
    let given = call_inputs_of config rounds call_id in
    let differ = requests_differ config call_id rounds in
    let at : find (has_id invite) (requests_held (call_from calls None given)) ≡ Some held =
    ap (λ call. find (has_id invite) (requests_held call)) (held_so config rounds call_id) ∙ is in
    record {
      kept = kept_as_told calls given differ invite held at;
      awaited = awaited_as_told calls given differ invite held at;
      repeated = repeated_as_told calls given differ invite held at;
    }

-- ---- what is owed

pub dialogs_owe_as_told : EachDialogOwesAsTold
dialogs_owe_as_told config rounds call_id name held is =
    owes_as_told (calls_of config) (call_inputs_of config rounds call_id)
    (events_differ config call_id rounds) name held
    (ap (λ call. dialog_at name (side_held call).dialogs) (held_so config rounds call_id) ∙ is)
