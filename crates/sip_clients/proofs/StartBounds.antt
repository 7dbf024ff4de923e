-- Which transactions a step of the client side may start: at most one under the id of its event,
-- and one under the id of each command whose CANCEL waited.
use Rattle.std.proofs.Common.{◌≡◌, ℕ, ◌+◌, ◌≤◌, cond, List, [], ◌∷◌, ◌++◌, map, refl, sym, ap, subst, ◌∙◌, append-nil, arith}
use Rattle.std.specs.Prelude.{Option, None, Some, count_by, filter_map}
use Rattle.std.specs.List.{AllByRecursion}
use Rattle.std.specs.Map.{values_of}
use Rattle.std.specs.Option.{option_map}
use Rattle.std.specs.Str.{str_to_ascii_lowercase}
use Rattle.std.proofs.lemmas.List.{map-append}
use Rattle.std.proofs.lemmas.List.Elements.{filter_map-append}
use Rattle.std.proofs.lemmas.List.Sums.{sum_by_push}
use Rattle.sip_message.specs.TopVia.{top_branch}
use Rattle.sip_message.specs.declared.id.Id.{Id}
use Rattle.sip_message.specs.declared.key.Key.{Key}
use Rattle.sip_message.specs.declared.key.Key.TheVariants as key
use Rattle.sip_held_dialogs.specs.declared.held_dialog.DialogId.{DialogId}
use Rattle.sip_user.specs.declared.item.CallOut.{CallOut}
use Rattle.sip_held_dialogs.specs.Ids.{is_id}
use Rattle.sip_held_dialogs.proofs.Starts.{start_in, starts}
use Rattle.sip_clients.specs.declared.client.Cancelling.{Cancelling}
use Rattle.sip_clients.specs.declared.client.Cancelling.TheVariants as cancel
use Rattle.sip_clients.specs.declared.client.Client.{Client}
use Rattle.sip_clients.specs.declared.event.Event.{Event}
use Rattle.sip_clients.specs.declared.outputs.ClientChange.{ClientChange}
use Rattle.sip_clients.specs.declared.outputs.ClientChange.TheVariants.{Stays, Over, Starts}
use Rattle.sip_clients.specs.declared.send_outcome.SendOutcome.{SendOutcome}
use Rattle.sip_clients.specs.declared.send_outcome.SendOutcome.TheVariants.{Sent, Waits, Refused}
use Rattle.sip_clients.specs.Cancel.{cancel_client, sent_beside}
use Rattle.sip_clients.specs.Client.{Clients, with_client, without_client}
use Rattle.sip_clients.specs.Clients.{settled, started}
use Rattle.sip_clients.specs.Outputs.{request_said, start_command}
use Rattle.sip_clients.proofs.Tally.{tally_inserted, tally_removed, weight}

-- ---- what fits

abbrev pub waits_in : Cancelling → Option Id
waits_in cancel.NotAsked = None
waits_in (cancel.Waits id) = Some id
waits_in cancel.Sent = None

abbrev pub waits_for : Client → Option Id
waits_for client = waits_in client.cancel

-- the ids of the commands whose CANCEL waits
abbrev pub waiting : Clients → List Id
waiting clients = filter_map waits_for (values_of clients)

abbrev pub IsClient : Key → Type 0
IsClient (key.Client branch method) = Unit {0}
IsClient (key.Server branch sent_by method) = ⊥

abbrev pub AllClients : List (Id × Key) → Type 0
AllClients started = AllByRecursion (λ start. IsClient start.1) started

abbrev pub how_many : Id → List Id → ℕ
how_many id ids = count_by (is_id id) ids

abbrev pub ids_of : List (Id × Key) → List Id
ids_of started = map (λ start. start.0) started

-- A step that starts only client transactions. Each has the id of the event, if the step is by a
-- response or a command, or that of a command whose CANCEL no longer waits. It uses each of these
-- ids at most once.
pub record Fits (own : Option Id) (before : Clients) (outs : List CallOut) (after : Clients)
    : Type 0 where
  pub of_clients : AllClients (starts outs)
  pub few : (id : Id)
      → how_many id (ids_of (starts outs)) + how_many id (waiting after)
      ≤ weight (is_id id) own + how_many id (waiting before)

-- the same, if each id may be used so often
pub record Within (allowed : Id → ℕ) (started : List (Id × Key)) (after : Clients) : Type 0 where
  pub of_clients : AllClients started
  pub few : (id : Id)
      → how_many id (ids_of started) + how_many id (waiting after) ≤ allowed id

pub fits : (own : Option Id) (before : Clients) (outs : List CallOut) (after : Clients)
    → Within (λ id. weight (is_id id) own + how_many id (waiting before)) (starts outs) after
    → Fits own before outs after
fits own before outs after within =
    record { of_clients = within.of_clients; few = λ id. within.few id }

-- ---- numbers

pub none_more : (n m : ℕ) → n ≤ m → 0 + n ≤ m
none_more n m few = omega arith

own_more : (n m own : ℕ) → n ≤ m → 0 + n ≤ own + m
own_more n m own few = omega arith

one_more : (n m one total extra : ℕ) → total ≡ n + one → n + m ≤ extra → total + m ≤ one + extra
one_more n m one total extra is few = omega arith

fewer_more : (n m later extra : ℕ) → n + m ≤ extra → later ≤ m → n + later ≤ extra
fewer_more n m later extra few fewer = omega arith

zero_more : (n m : ℕ) → n ≤ m → n ≤ 0 + m
zero_more n m few = omega arith

pub no_weight : (n m : ℕ) → n ≤ m + 0 → n ≤ m
no_weight n m few = omega arith

pub at_most_as : (n m l : ℕ) → n ≤ m → m ≤ l → n ≤ l
at_most_as n m l first second = omega arith

pub same_weight : (n : ℕ) → n ≤ n + 0
same_weight n = omega arith

pub more_weight : (n m : ℕ) → m ≤ n + m
more_weight n m = omega arith

pub swapped : (n m w : ℕ) → n ≤ m + w → n ≤ w + m
swapped n m w few = omega arith

pub balanced : (freed own put before old new : ℕ) → put + old ≡ before + new → freed + new ≤ old
    → freed + (own + put) ≤ own + before
balanced freed own put before old new is few = omega arith

-- ---- lists of starts

pub none_of : (xs ys : List CallOut) → starts xs ≡ [] → starts (xs ++ ys) ≡ starts ys
none_of xs ys none = filter_map-append start_in xs ys ∙ ap (λ zs. zs ++ starts ys) none

pub of_none : (xs ys : List CallOut) → starts ys ≡ [] → starts (xs ++ ys) ≡ starts xs
of_none xs ys none =
    filter_map-append start_in xs ys ∙ ap (λ zs. starts xs ++ zs) none ∙ append-nil (starts xs)

all_and_one : (started : List (Id × Key)) (start : Id × Key) → AllClients started
    → IsClient start.1 → AllClients (started ++ start ∷ [])
all_and_one [] start all one = (one, tt)
all_and_one (first ∷ started) start all one = (all.0, all_and_one started start all.1 one)

ids_and_one : (id : Id) (started : List (Id × Key)) (start : Id × Key)
    → how_many id (ids_of (started ++ start ∷ []))
    ≡ how_many id (ids_of started) + weight (is_id id) (Some start.0)
ids_and_one id started start =
    ap (how_many id) (map-append (λ (start : Id × Key). start.0) started (start ∷ []))
    ∙ sum_by_push (λ (other : Id). cond (is_id id other) 1 0) (ids_of started) start.0

-- ---- what starts nothing, or one more

pub nothing : (clients after : Clients)
    → ((id : Id) → how_many id (waiting after) ≤ how_many id (waiting clients))
    → Within (λ id. how_many id (waiting clients)) [] after
nothing clients after fewer = record {
  of_clients = tt;
  few = λ id. none_more (how_many id (waiting after))
      (how_many id (waiting clients)) (fewer id);
}

pub own_nothing : (own : Option Id) (clients after : Clients)
    → ((id : Id) → how_many id (waiting after) ≤ how_many id (waiting clients))
    → Within (λ id. weight (is_id id) own + how_many id (waiting clients)) [] after
own_nothing own clients after fewer = record {
  of_clients = tt;
  few = λ id. own_more (how_many id (waiting after))
      (how_many id (waiting clients)) (weight (is_id id) own) (fewer id);
}

pub at_most_same : (clients : Clients) (id : Id)
    → how_many id (waiting clients) ≤ how_many id (waiting clients)
at_most_same clients id = omega arith

-- no CANCEL of a request that was just sent waits
with_fewer : (id : Id) (client : Client) → client.cancel ≡ cancel.NotAsked
    → (clients : Clients) (of : Id)
    → how_many of (waiting (with_client id client clients)) ≤ how_many of (waiting clients)
with_fewer id client fresh clients of =
    no_weight (how_many of (waiting (with_client id client clients)))
    (how_many of (waiting clients))
    (subst (λ (state : Cancelling). how_many of (waiting (with_client id client clients))
    ≤ how_many of (waiting clients) + weight (is_id of) (waits_in state)) fresh
    (tally_inserted waits_for (is_id of) is_id id client clients))

-- one transaction more
and_one : (allowed : Id → ℕ) (started : List (Id × Key)) (id : Id) (client : Client)
    (branch method : List ℕ) (clients : Clients) → client.cancel ≡ cancel.NotAsked
    → Within allowed started clients
    → Within (λ of. weight (is_id of) (Some id) + allowed of)
    (started ++ (id, key.Client branch method) ∷ []) (with_client id client clients)
and_one allowed started id client branch method clients fresh within = record {
  of_clients = all_and_one started (id, key.Client branch method) within.of_clients tt;
  few = λ of. let start : Id × Key = (id, key.Client branch method) in
      one_more (how_many of (ids_of started))
      (how_many of (waiting (with_client id client clients))) (weight (is_id of) (Some id))
      (how_many of (ids_of (started ++ start ∷ []))) (allowed of)
      (ids_and_one of started start)
      (fewer_more (how_many of (ids_of started)) (how_many of (waiting clients))
      (how_many of (waiting (with_client id client clients))) (allowed of) (within.few of)
      (with_fewer id client fresh clients of));
}

pub started_within : (event : Event) (client : Client) (clients : Clients) → client.cancel
    ≡ cancel.NotAsked
    → Within (λ id. weight (is_id id) (Some event.id) + how_many id (waiting clients))
    (starts (start_command event.id client ∷ [])) (with_client event.id client clients)
unfolding start_command
started_within event client clients fresh =
    and_one (λ id. how_many id (waiting clients)) [] event.id client
    (str_to_ascii_lowercase (top_branch client.request)) ((client.request).cseq).method clients
    fresh (nothing clients clients (at_most_same clients))

-- a request that was just sent waits for no CANCEL, and no RSeq came for it
abbrev pub StartsFresh : ClientChange → Type 0
StartsFresh Stays = Unit {0}
StartsFresh Over = Unit {0}
StartsFresh (Starts client) = (client.cancel ≡ cancel.NotAsked) × (client.last_rseq ≡ None)

pub settled_within : (event : Event) (id : Id) (change : ClientChange) (clients : Clients)
    → StartsFresh change
    → Within (λ of. weight (is_id of) (Some event.id) + how_many of (waiting clients))
    (starts (settled event id change clients).1) (settled event id change clients).0
settled_within event id Stays clients fresh =
    own_nothing (Some event.id) clients clients (at_most_same clients)
settled_within event id Over clients fresh =
    own_nothing (Some event.id) clients (without_client id clients)
    (λ of. tally_removed waits_for (is_id of) (is_id id) clients)
settled_within event id (Starts client) clients fresh =
    started_within event client clients fresh.0

pub said_fresh : (event : Event) (call_id : List ℕ) (name : DialogId) (outcome : SendOutcome)
    → StartsFresh (request_said event call_id name outcome).1
said_fresh event call_id name (Sent sending) = (refl, refl)
said_fresh event call_id name Waits = tt
said_fresh event call_id name (Refused refusal) = tt

-- a CANCEL that may be sent after the rest
pub sent_within : (freed : Option Id) (invite : Client) (allowed : Id → ℕ)
    (done : Clients × List CallOut) → Within allowed (starts done.1) done.0
    → Within (λ id. weight (is_id id) freed + allowed id)
    (starts (sent_beside (option_map (λ id. cancel_client id invite) freed) done).1)
    (sent_beside (option_map (λ id. cancel_client id invite) freed) done).0
unfolding start_command
sent_within None invite allowed done within = record {
  of_clients = within.of_clients;
  few = λ id. zero_more (how_many id (ids_of (starts done.1)) + how_many id (waiting done.0))
      (allowed id) (within.few id);
}
sent_within (Some id) invite allowed done within =
    let sent = cancel_client id invite in
    let branch = str_to_ascii_lowercase (top_branch sent.request) in
    let method = ((sent.request).cseq).method in
    let after = with_client id sent done.0 in
    subst (λ started. Within (λ of. weight (is_id of) (Some id) + allowed of) started after)
    (sym (filter_map-append start_in done.1 (start_command id sent ∷ [])))
    (and_one allowed (starts done.1) id sent branch method done.0 refl within)
