-- The requests that are held: their ids differ, and none of them comes up again.
use Rattle.std.proofs.Common.{◌≡◌, inl, inr, ℕ, Bool, true, false, not, ◌||◌, ◌==◌, cond, List, [], ◌∷◌, ◌++◌, length, nat_lt, refl, sym, ap, subst, ◌∙◌}
use Rattle.std.specs.Prelude.{Option, None, Some, find, if◌then◌else◌}
use Rattle.std.specs.List.{AllByRecursion, IsDistinct, cons_option, list_any}
use Rattle.std.proofs.lemmas.Map.Keys.{IsDistinct-push, IsDistinct-tail}
use Rattle.keyed_machine.proofs.Ordered.{by_bool}
use Rattle.sip_message.specs.declared.id.Id.{Id}
use Rattle.sip_user.specs.declared.command.UserCommand.{UserCommand}
use Rattle.sip_user.specs.declared.command.UserCommand.TheVariants.{Invite, Plain as PlainCommand, Request, Respond, Ack, Prack, Cancel, AbandonRequest, AbandonDialog}
use Rattle.sip_held_dialogs.specs.Ids.{is_id}
use Rattle.sip_held_dialogs.proofs.Heard.{id_laws}
use Rattle.sip_served.specs.declared.held_request.HeldRequest.{HeldRequest}
use Rattle.sip_served.specs.State.{has_id}
use Rattle.sip_served.proofs.RequestIds.{Adds, ids_of}
use Rattle.sip_clients.proofs.Hearing.{NoneOf}
use Rattle.sip_calls.specs.declared.call.Call.{Call}
use Rattle.sip_calls.specs.declared.calls.Calls.{Calls}
use Rattle.sip_calls.specs.HeldRequests.{requests_held}
use Rattle.sip_calls.specs.Call.{event_of, kept_call, new_call}
use Rattle.sip_calls.specs.Sides.{holds_any}
use Rattle.sip_calls.specs.Steps.Call.{first_command_taken}
use Rattle.sip_calls.proofs.KeptSides.{some_items}

-- ---- what is held

abbrev pub requests_of : Call → List HeldRequest
requests_of call = (call.served).requests

or_first : (x y z : Bool) → x ≡ true → ((x || y) || z) ≡ true
or_first true y z e = refl
or_first false y z e = absurd cc

pub kept_requests : (call : Call) → requests_held (kept_call call) ≡ requests_of call
kept_requests call = by_list (requests_of call) refl
  where
    if_held : holds_any call ≡ true → requests_held (kept_call call) ≡ requests_of call
    if_held e = ap (λ b. requests_held (if b then Some call else None)) e

    by_list : (requests : List HeldRequest) → requests_of call ≡ requests
        → requests_held (kept_call call) ≡ requests_of call
    by_list [] none =
        by_bool (holds_any call) if_held
        (λ e. ap (λ b. requests_held (if b then Some call else None)) e ∙ sym none)
    by_list (request ∷ requests) some =
        if_held (or_first (nat_lt 0 (length (requests_of call)))
        (nat_lt 0 (length (call.served).dialogs)) (not (length call.clients == 0))
        (ap (λ xs. nat_lt 0 (length xs)) some ∙ some_items request requests))

-- the ids of what is held differ, and none of them comes up again
pub record Sound (requests : List HeldRequest) (ids : List Id) : Type 0 where
  pub apart : IsDistinct is_id (ids_of requests)
  pub later : AllByRecursion (λ id. NoneOf id ids) (ids_of requests)

pub none_differ : IsDistinct is_id []
unfolding IsDistinct
none_differ = tt

pub none_found : (id : Id) (requests : List HeldRequest)
    → AllByRecursion (λ held. is_id held id ≡ false) (ids_of requests)
    → find (has_id id) requests ≡ None
none_found id [] all = refl
none_found id (held ∷ requests) all =
    ap (λ b. cond b (Some held) (find (has_id id) requests)) all.0 ∙ none_found id requests all.1

-- each of the ids, past the first that comes
pub heads : (id : Id) (ids all : List Id) → AllByRecursion (λ held. NoneOf held (id ∷ ids)) all
    → AllByRecursion (λ held. is_id held id ≡ false) all
heads id ids [] so = tt
heads id ids (held ∷ all) so = (so.0.0, heads id ids all so.1)

tails : (id : Id) (ids all : List Id) → AllByRecursion (λ held. NoneOf held (id ∷ ids)) all
    → AllByRecursion (λ held. NoneOf held ids) all
tails id ids [] so = tt
tails id ids (held ∷ all) so = (so.0.1, tails id ids all so.1)

all_and_one : (P : Id → Type 0) (ids : List Id) (id : Id) → AllByRecursion P ids → P id
    → AllByRecursion P (ids ++ id ∷ [])
all_and_one P [] id all one = (one, tt)
all_and_one P (first ∷ ids) id all one = (all.0, all_and_one P ids id all.1 one)

not_among : (id : Id) (ids : List Id) → AllByRecursion (λ held. is_id held id ≡ false) ids
    → list_any (is_id id) ids ≡ false
not_among id [] all = refl
not_among id (held ∷ ids) all =
    (λ i. (id_laws.symm id held ∙ all.0) i || list_any (is_id id) ids) ∙ not_among id ids all.1

pub adds_sound : (id : Id) (ids : List Id) (before after : List HeldRequest)
    → Sound before (id ∷ ids) → NoneOf id ids → Adds id before after → Sound after ids
adds_sound id ids before after sound others (inl same) = record {
  apart = subst (IsDistinct is_id) (sym same) sound.apart;
  later = subst (AllByRecursion (λ id. NoneOf id ids)) (sym same)
      (tails id ids (ids_of before) sound.later);
}
adds_sound id ids before after sound others (inr more) = record {
  apart = subst (IsDistinct is_id) (sym more)
      (IsDistinct-push id_laws (ids_of before) id sound.apart
      (not_among id (ids_of before) (heads id ids (ids_of before) sound.later)));
  later = subst (AllByRecursion (λ id. NoneOf id ids)) (sym more)
      (all_and_one (λ id. NoneOf id ids) (ids_of before) id
      (tails id ids (ids_of before) sound.later) others);
}

pub same_sound : (ids : List Id) (before after : List HeldRequest) → Sound before ids
    → ids_of after ≡ ids_of before → Sound after ids
same_sound ids before after sound same = record {
  apart = subst (IsDistinct is_id) (sym same) sound.apart;
  later = subst (AllByRecursion (λ id. NoneOf id ids)) (sym same) sound.later;
}

pub first_command : (calls : Calls) (id : Id) (now : ℕ) (command : UserCommand)
    → [] ≡ requests_of (first_command_taken (new_call calls.local) (event_of calls id now)
    command).0
first_command calls id now (Invite invite) = refl
first_command calls id now (PlainCommand plain) = refl
first_command calls id now (Request request) = refl
first_command calls id now (Respond respond) = refl
first_command calls id now (Ack ack) = refl
first_command calls id now (Prack prack) = refl
first_command calls id now (Cancel cancel) = refl
first_command calls id now (AbandonRequest abandon) = refl
first_command calls id now (AbandonDialog abandon) = refl

pub rest_differ : (o : Option Id) (ids : List Id) → IsDistinct is_id (cons_option o ids)
    → IsDistinct is_id ids
rest_differ None ids differ = differ
rest_differ (Some id) ids differ = IsDistinct-tail is_id id ids differ
