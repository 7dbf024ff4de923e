-- The first moment at which a client request is removed, after a change of one.
use Rattle.std.proofs.Common.{◌≡◌, ℕ, ◌≤◌, Bool, true, false, cond, min, List, [], ◌∷◌, ◌++◌, refl, sym, ap, ◌∙◌, arith}
use Rattle.std.specs.Prelude.{Option, None, Some, fold, is_some}
use Rattle.std.specs.Map.{lookup, remove_entry, set_value, values_of}
use Rattle.indexmap.specs.IndexMap.{insert_entry}
use Rattle.ordered_map.specs.OrderedMap.{Ordered}
use Rattle.sip_message.specs.declared.id.Id.{Id}
use Rattle.sip_timers.specs.Earlier.{earlier}
use Rattle.sip_held_dialogs.specs.Ids.{is_id}
use Rattle.sip_clients.specs.declared.client.Client.{Client}
use Rattle.sip_clients.specs.Client.{Clients, client_at, with_client, without_client}
use Rattle.sip_clients.specs.Steps.ClientMap.{has_removal}
use Rattle.sip_clients.specs.Tick.{next_removal}

pub earlier_none : (due : Option ℕ) → earlier due None ≡ due
earlier_none None = refl
earlier_none (Some moment) = refl

earlier_assoc : (a b c : Option ℕ) → earlier a (earlier b c) ≡ earlier (earlier a b) c
earlier_assoc None b c = refl
earlier_assoc (Some a) None c = refl
earlier_assoc (Some a) (Some b) None = refl
earlier_assoc (Some a) (Some b) (Some c) = ap (λ m. Some m) (omega arith)

min_swap : (a b c : ℕ) → min (min a b) c ≡ min (min a c) b
min_swap a b c = omega arith

earlier_swap : (a b c : Option ℕ) → earlier (earlier a b) c ≡ earlier (earlier a c) b
earlier_swap None None c = sym (earlier_none (earlier None c))
earlier_swap None (Some b) None = refl
earlier_swap None (Some b) (Some c) = ap (λ m. Some m) (omega arith)
earlier_swap (Some a) None None = refl
earlier_swap (Some a) None (Some c) = refl
earlier_swap (Some a) (Some b) None = refl
earlier_swap (Some a) (Some b) (Some c) = ap (λ m. Some m) (min_swap a b c)

-- the first moment of these and of requests
abbrev first_of : Option ℕ → Clients → Option ℕ
first_of due clients = fold (λ due client. earlier due client.removal) due (values_of clients)

first_with : (due moment : Option ℕ) (clients : Clients)
    → first_of (earlier due moment) clients ≡ earlier (first_of due clients) moment
first_with due moment [] = refl
first_with due moment (entry ∷ clients) =
    ap (λ due. first_of due clients) (earlier_swap due moment entry.1.removal)
    ∙ first_with (earlier due entry.1.removal) moment clients

-- ---- one more

new_first : (due : Option ℕ) (id : Id) (client : Client) (clients : Clients)
    → client_at id clients ≡ None
    → first_of due (with_client id client clients) ≡ earlier (first_of due clients) client.removal
new_first due id client [] none = refl
new_first due id client (entry ∷ clients) none =
    by_first (is_id id entry.0) none
    (new_first (earlier due entry.1.removal) id client clients)
  where
    by_first : (b : Bool) → cond b (Some entry.1) (client_at id clients) ≡ None
        → (client_at id clients ≡ None
        → first_of (earlier due entry.1.removal) (with_client id client clients)
        ≡ earlier (first_of (earlier due entry.1.removal) clients) client.removal)
        → first_of due (cond b ((entry.0, client) ∷ clients)
        (entry ∷ with_client id client clients))
        ≡ earlier (first_of (earlier due entry.1.removal) clients) client.removal
    by_first true none later = absurd cc
    by_first false none later = later none

pub new_removal : (id : Id) (client : Client) (clients : Clients)
    → is_some (client_at id clients) ≡ false
    → next_removal (with_client id client clients)
    ≡ earlier (next_removal clients) client.removal
new_removal id client clients none =
    new_first None id client clients (absent (client_at id clients) none)
  where
    absent : (o : Option Client) → is_some o ≡ false → o ≡ None
    absent None none = refl
    absent (Some client) none = absurd cc

-- ---- one less

left_first : (due : Option ℕ) (id : Id) (client : Client) (clients : Clients)
    → client_at id clients ≡ Some client → client.removal ≡ None
    → first_of due (without_client id clients) ≡ first_of due clients
left_first due id client [] found none = absurd cc
left_first due id client (entry ∷ clients) found none =
    by_first (is_id id entry.0) found
    (left_first (earlier due entry.1.removal) id client clients)
  where
    by_first : (b : Bool) → cond b (Some entry.1) (client_at id clients) ≡ Some client
        → (client_at id clients ≡ Some client → client.removal ≡ None
        → first_of (earlier due entry.1.removal) (without_client id clients)
        ≡ first_of (earlier due entry.1.removal) clients)
        → first_of due (cond b clients (entry ∷ without_client id clients))
        ≡ first_of (earlier due entry.1.removal) clients
    by_first true found later =
        let same : entry.1 ≡ client = cc in
        ap (λ due. first_of due clients)
        (sym (ap (λ (client : Client). earlier due client.removal) same
        ∙ ap (λ moment. earlier due moment) none ∙ earlier_none due))
    by_first false found later = later found none

none_left : (id : Id) (clients : Clients) → client_at id clients ≡ None
    → without_client id clients ≡ clients
none_left id [] none = refl
none_left id (entry ∷ clients) none =
    by_first (is_id id entry.0) none (none_left id clients)
  where
    by_first : (b : Bool) → cond b (Some entry.1) (client_at id clients) ≡ None
        → (client_at id clients ≡ None → without_client id clients ≡ clients)
        → cond b clients (entry ∷ without_client id clients) ≡ entry ∷ clients
    by_first true none later = absurd cc
    by_first false none later = ap (λ rest. entry ∷ rest) (later none)

pub left_removal : (id : Id) (clients : Clients) (o : Option Client) → client_at id clients ≡ o
    → has_removal o ≡ false → next_removal (without_client id clients) ≡ next_removal clients
left_removal id clients None found none = ap next_removal (none_left id clients found)
left_removal id clients (Some client) found none =
    left_first None id client clients found (absent client.removal none)
  where
    absent : (o : Option ℕ) → is_some o ≡ false → o ≡ None
    absent None none = refl
    absent (Some moment) none = absurd cc

-- ---- one changed

set_first : (due moment : Option ℕ) (id : Id) (client new : Client) (clients : Clients)
    → client_at id clients ≡ Some client → new.removal ≡ earlier client.removal moment
    → first_of due (set_value (is_id id) clients new) ≡ earlier (first_of due clients) moment
set_first due moment id client new [] found is = absurd cc
set_first due moment id client new (entry ∷ clients) found is =
    by_first (is_id id entry.0) found
    (set_first (earlier due entry.1.removal) moment id client new clients)
  where
    by_first : (b : Bool) → cond b (Some entry.1) (client_at id clients) ≡ Some client
        → (client_at id clients ≡ Some client → new.removal ≡ earlier client.removal moment
        → first_of (earlier due entry.1.removal) (set_value (is_id id) clients new)
        ≡ earlier (first_of (earlier due entry.1.removal) clients) moment)
        → first_of due (cond b ((entry.0, new) ∷ clients)
        (entry ∷ set_value (is_id id) clients new))
        ≡ earlier (first_of (earlier due entry.1.removal) clients) moment
    by_first true found later =
        let same : entry.1 ≡ client = cc in
        ap (λ due. first_of due clients)
        (ap (λ moment. earlier due moment) is
        ∙ earlier_assoc due client.removal moment
        ∙ ap (λ (client : Client). earlier (earlier due client.removal) moment) (sym same))
        ∙ first_with (earlier due entry.1.removal) moment clients
    by_first false found later = later found is

-- it has the same moment as before
pub kept_removal : (id : Id) (client new : Client) (clients : Clients)
    → client_at id clients ≡ Some client → new.removal ≡ client.removal
    → next_removal (set_value (is_id id) clients new) ≡ next_removal clients
kept_removal id client new clients found same =
    set_first None None id client new clients found
    (same ∙ sym (earlier_none client.removal))
    ∙ earlier_none (next_removal clients)

-- it had none
pub set_removal : (id : Id) (client new : Client) (clients : Clients)
    → client_at id clients ≡ Some client → client.removal ≡ None
    → next_removal (set_value (is_id id) clients new)
    ≡ earlier (next_removal clients) new.removal
set_removal id client new clients found none =
    set_first None new.removal id client new clients found
    (ap (λ moment. earlier moment new.removal) (sym none))

-- the one that was found is the one that is held
pub same_client : (id : Id) (all clients : Ordered Id Client) (client other : Client)
    → all ≡ clients → Some client ≡ client_at id all.entries
    → client_at id clients.entries ≡ Some other → client ≡ other
same_client id all clients client other is found held =
    let same : Some client ≡ Some other =
    found ∙ ap (λ (all : Ordered Id Client). client_at id all.entries) is ∙ held in
    cc
