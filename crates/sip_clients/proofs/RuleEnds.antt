-- How a client request ends: the rules say the same as the steps.
use Rattle.std.proofs.Common.{◌≡◌, ℕ, Bool, true, false, cond, ◌&&◌, ◌||◌, List, [], ◌∷◌, ◌++◌, refl, ap}
use Rattle.std.specs.Prelude.{Option, None, Some, filter, not, if◌then◌else◌}
use Rattle.std.specs.List.{flat_map, list_any}
use Rattle.std.specs.Map.{remove_entry, values_of}
use Rattle.std.specs.Option.{option_map_or}
use Rattle.sip_message.specs.declared.id.Id.{Id}
use Rattle.sip_held_dialogs.specs.declared.held_dialog.HeldDialog.{HeldDialog}
use Rattle.sip_user.specs.declared.item.CallOut.{CallOut}
use Rattle.sip_held_dialogs.specs.Dialogs.{early_ended, ended_at, is_early_of, lives, Dialogs}
use Rattle.sip_held_dialogs.specs.Ids.{is_id}
use Rattle.sip_clients.specs.declared.client.RequestKind.{RequestKind}
use Rattle.sip_clients.specs.declared.client.RequestKind.TheVariants.{InitialInvite, ReInvite, InDialog, OutOfDialog}
use Rattle.sip_clients.specs.declared.client.Client.{Client}
use Rattle.sip_clients.specs.Client.{Clients, Side, ClientTaken, client_at}
use Rattle.sip_clients.specs.Clients.{lost_of, request_lost}
use Rattle.sip_clients.specs.Dialogs.{ended_with, own_ended}
use Rattle.sip_clients.specs.Rules.Ends.{is_over, request_is_lost, client_due, request_over, client_tick}
use Rattle.sip_clients.specs.Rules.Requests.{dialog_of_kind}
use Rattle.sip_clients.specs.Tick.{clients_ticked, next_removal}

-- ---- a request that is over

both : {X : Type 0} (a b : Bool) (x y : X) → cond (a && b) x y ≡ cond a (cond b x y) y
both true b x y = refl
both false b x y = refl

own_same : (kind : RequestKind) (gone : Bool) (dialogs : Dialogs)
    → option_map_or (λ life. if gone && lives dialogs life
    then ended_at life.name dialogs else (dialogs, [])) (dialog_of_kind kind) (dialogs, [])
    ≡ own_ended kind gone dialogs
own_same InitialInvite gone dialogs = refl
own_same (ReInvite life) gone dialogs =
    both gone (lives dialogs life) (ended_at life.name dialogs) (dialogs, [])
own_same (InDialog life) gone dialogs =
    both gone (lives dialogs life) (ended_at life.name dialogs) (dialogs, [])
own_same OutOfDialog gone dialogs = refl

pub over_same : (client : Client) (gone : Bool) (dialogs : Dialogs)
    → request_over client gone dialogs ≡ ended_with client gone dialogs
over_same client gone dialogs =
    let early = early_ended client.id dialogs in
    ap (λ (own : Dialogs × List CallOut). (own.0, early.1 ++ own.1))
    (own_same client.kind gone early.0)

abbrev lost_after : Id → Side → Dialogs × List CallOut → ClientTaken
lost_after id side ended =
    (record { dialogs = ended.0; clients = remove_entry (is_id id) side.clients }, ended.1)

lost_held : (id : Id) (timed_out : Bool) (side : Side) (held : Option Client)
    → lost_after id side (option_map_or
    (λ client. request_over client timed_out side.dialogs) held (side.dialogs, []))
    ≡ lost_of id timed_out held side
lost_held id timed_out side None = refl
lost_held id timed_out side (Some client) =
    ap (lost_after id side) (over_same client timed_out side.dialogs)

pub lost_same : (id : Id) (timed_out : Bool) (side : Side)
    → request_is_lost id timed_out side ≡ request_lost id timed_out side
unfolding request_is_lost
lost_same id timed_out side = lost_held id timed_out side (client_at id side.clients)

-- ---- a tick

module _ {X : Type 0} (p : X → Bool) where
  any_step : (q : X → Bool) (x : X) (xs : List X) (b : Bool)
      → list_any q (filter p xs) ≡ list_any (λ x. p x && q x) xs
      → list_any q (cond b (x ∷ filter p xs) (filter p xs))
      ≡ ((b && q x) || list_any (λ x. p x && q x) xs)
  any_step q x xs true later = ap (λ rest. q x || rest) later
  any_step q x xs false later = later

  any_filtered : (q : X → Bool) (xs : List X)
      → list_any q (filter p xs) ≡ list_any (λ x. p x && q x) xs
  any_filtered q [] = refl
  any_filtered q (x ∷ xs) = any_step q x xs (p x) (any_filtered q xs)

  map_step : {Y : Type 0} (f : X → List Y) (x : X) (xs : List X) (b : Bool)
      → flat_map f (filter p xs) ≡ flat_map (λ x. if p x then f x else []) xs
      → flat_map f (cond b (x ∷ filter p xs) (filter p xs))
      ≡ cond b (f x) [] ++ flat_map (λ x. if p x then f x else []) xs
  map_step {Y} f x xs true later = ap (λ (rest : List Y). f x ++ rest) later
  map_step f x xs false later = later

  map_filtered : {Y : Type 0} (f : X → List Y) (xs : List X)
      → flat_map f (filter p xs) ≡ flat_map (λ x. if p x then f x else []) xs
  map_filtered f [] = refl
  map_filtered f (x ∷ xs) = map_step f x xs (p x) (map_filtered f xs)

pub tick_same : (side : Side) (now : ℕ) → client_tick side now ≡ clients_ticked side now
unfolding client_tick
tick_same side now =
    let clients = values_of side.clients in
    let ends = λ (held : HeldDialog).
    any_filtered (is_over now) (λ (client : Client). is_early_of client.id held) clients in
    let outs = map_filtered (is_over now)
    (λ (client : Client). (early_ended client.id side.dialogs).1) clients in
    λ i. (
      record {
        dialogs = filter (λ entry. not (ends entry.1 i)) side.dialogs;
        clients = filter (λ entry. not (is_over now entry.1)) side.clients;
      },
      outs i,
    )

pub removal_same : (clients : Clients) → client_due clients ≡ next_removal clients
unfolding client_due
removal_same clients = refl
