-- Before the first INVITE is due to be removed, a tick does nothing.
use Rattle.std.proofs.Common.{◌≡◌, ℕ, Bool, true, false, not, cond, ◌&&◌, ◌||◌, List, [], ◌∷◌, ◌++◌, refl, sym, ap, ◌∙◌}
use Rattle.std.specs.Prelude.{Option, None, Some, fold, if◌then◌else◌}
use Rattle.std.specs.List.{flat_map, list_any}
use Rattle.std.specs.Map.{values_of}
use Rattle.sip_timers.specs.Queue.{is_due}
use Rattle.sip_timers.specs.Earlier.{earlier}
use Rattle.sip_held_dialogs.proofs.Dues.{earlier_due, or_assoc, or_false}
use Rattle.sip_held_dialogs.specs.declared.held_dialog.HeldDialog.{HeldDialog}
use Rattle.sip_held_dialogs.specs.Dialogs.{early_ended, is_early_of, Dialogs}
use Rattle.sip_user.specs.declared.item.CallOut.{CallOut}
use Rattle.sip_clients.specs.declared.client.Client.{Client}
use Rattle.sip_clients.specs.Client.{Clients, Side, nothing_done}
use Rattle.sip_clients.specs.Tick.{clients_left, dialogs_left, ends_early_at, is_over, next_removal, early_ends_told, clients_ticked}

neither : (x y : Bool) → (x || y) ≡ false → (x ≡ false) × (y ≡ false)
neither true y e = absurd cc
neither false y e = (refl, e)

over_is_due : (now : ℕ) (o : Option ℕ) (client : Client) → client.removal ≡ o
    → is_due now o ≡ is_over now client
over_is_due now None client e =
    sym (ap (λ removal. is_over now (record client { removal = removal })) e)
over_is_due now (Some moment) client e =
    sym (ap (λ removal. is_over now (record client { removal = removal })) e)

all_due : (now : ℕ) (due : Option ℕ) (clients : List Client)
    → is_due now (fold (λ due client. earlier due client.removal) due clients)
    ≡ (is_due now due || list_any (is_over now) clients)
all_due now due [] = sym (or_false (is_due now due))
all_due now due (client ∷ clients) =
    all_due now (earlier due client.removal) clients
    ∙ ap (λ b. b || list_any (is_over now) clients)
    (earlier_due now due client.removal
    ∙ ap (λ b. is_due now due || b) (over_is_due now client.removal client refl))
    ∙ or_assoc (is_due now due) (is_over now client) (list_any (is_over now) clients)

-- one is over if the first is due
pub any_over : (now : ℕ) (clients : Clients)
    → is_due now (next_removal clients) ≡ list_any (is_over now) (values_of clients)
any_over now clients = all_due now None (values_of clients)

none_over : (now : ℕ) (clients : Clients) → is_due now (next_removal clients) ≡ false
    → list_any (is_over now) (values_of clients) ≡ false
none_over now clients calm = sym (any_over now clients) ∙ calm

-- ---- lists in which nothing passes

silent_step : (over : Bool) (outs change : List CallOut) → over ≡ false → change ≡ []
    → (if over then outs else []) ++ change ≡ []
silent_step true outs change e silent = absurd cc
silent_step false outs change e silent = silent

silent : (now : ℕ) (dialogs : Dialogs) (clients : List Client)
    → list_any (is_over now) clients ≡ false → flat_map (early_ends_told now dialogs) clients ≡ []
silent now dialogs [] calm = refl
silent now dialogs (client ∷ clients) calm =
    let parts = neither (is_over now client) (list_any (is_over now) clients) calm in
    silent_step (is_over now client) (early_ended client.id dialogs).1
    (flat_map (early_ends_told now dialogs) clients) parts.0 (silent now dialogs clients parts.1)

kept_step : {X : Type 0} (dropped : Bool) (x : X) (xs change : List X) → dropped ≡ false → change
    ≡ xs
    → cond (not dropped) (x ∷ change) change ≡ x ∷ xs
kept_step true x xs change e same = absurd cc
kept_step false x xs change e same = ap (λ ys. x ∷ ys) same

kept_clients : (now : ℕ) (clients : Clients) → list_any (is_over now) (values_of clients) ≡ false
    → clients_left now clients ≡ clients
kept_clients now [] calm = refl
kept_clients now (entry ∷ clients) calm =
    let parts = neither (is_over now entry.1) (list_any (is_over now) (values_of clients)) calm in
    kept_step (is_over now entry.1) entry clients (clients_left now clients) parts.0
    (kept_clients now clients parts.1)

and_false : (x y : Bool) → x ≡ false → (x && y) ≡ false
and_false true y e = absurd cc
and_false false y e = refl

or_neither : (x y : Bool) → x ≡ false → y ≡ false → (x || y) ≡ false
or_neither true y e f = absurd cc
or_neither false y e f = f

none_ends : (now : ℕ) (held : HeldDialog) (clients : List Client)
    → list_any (is_over now) clients ≡ false
    → list_any (λ client. is_over now client && is_early_of client.id held) clients ≡ false
none_ends now held [] calm = refl
none_ends now held (client ∷ clients) calm =
    let parts = neither (is_over now client) (list_any (is_over now) clients) calm in
    or_neither (is_over now client && is_early_of client.id held)
    (list_any (λ client. is_over now client && is_early_of client.id held) clients)
    (and_false (is_over now client) (is_early_of client.id held) parts.0)
    (none_ends now held clients parts.1)

kept_dialogs : (now : ℕ) (clients : Clients) → list_any (is_over now) (values_of clients) ≡ false
    → (dialogs : Dialogs) → dialogs_left now dialogs clients ≡ dialogs
kept_dialogs now clients calm [] = refl
kept_dialogs now clients calm (entry ∷ dialogs) =
    kept_step (ends_early_at now clients entry.1) entry dialogs (dialogs_left now dialogs clients)
    (none_ends now entry.1 (values_of clients) calm) (kept_dialogs now clients calm dialogs)

pub clients_quiet : (side : Side) (now : ℕ) → list_any (is_over now) (values_of side.clients) ≡ false
    → clients_ticked side now ≡ nothing_done side
clients_quiet side now none =
    let dialogs = kept_dialogs now side.clients none side.dialogs in
    let clients = kept_clients now side.clients none in
    let outs = silent now side.dialogs (values_of side.clients) none in
    λ i. (record { dialogs = dialogs i; clients = clients i }, outs i)

pub clients_quiet_before : (side : Side) (now : ℕ) → is_due now (next_removal side.clients) ≡ false
    → clients_ticked side now ≡ nothing_done side
clients_quiet_before side now calm = clients_quiet side now (none_over now side.clients calm)
