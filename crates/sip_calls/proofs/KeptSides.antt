-- A call under which nothing is held is over, so its sides hold nothing.
use Rattle.std.proofs.Common.{◌≡◌, Bool, true, false, not, ◌||◌, ◌==◌, List, [], ◌∷◌, length, nat_lt, refl, sym, ap, ◌∙◌, arith}
use Rattle.std.specs.Prelude.{None, Some, if◌then◌else◌}
use Rattle.std.proofs.lemmas.Grind.{common_steps}
use Rattle.keyed_machine.proofs.Ordered.{by_bool}
use Rattle.sip_held_dialogs.specs.Dialogs.{Dialogs}
use Rattle.sip_clients.specs.Client.{Clients}
use Rattle.sip_calls.specs.declared.call.Call.{Call}
use Rattle.sip_calls.specs.Call.{kept_call}
use Rattle.sip_calls.specs.Sides.{holds_any, side_of}
use Rattle.sip_calls.specs.Provisionals.{side_held}

pub some_items : {X : Type 0} (x : X) (xs : List X) → nat_lt 0 (length (x ∷ xs)) ≡ true
some_items x xs = grind (arith, common_steps)

not_none : {X : Type 0} (x : X) (xs : List X) → not (length (x ∷ xs) == 0) ≡ true
not_none x xs = grind (arith, common_steps)

or_second : (x y z : Bool) → y ≡ true → ((x || y) || z) ≡ true
or_second true y z e = refl
or_second false true z e = refl
or_second false false z e = absurd cc

or_third : (x z : Bool) → z ≡ true → (x || z) ≡ true
or_third true z e = refl
or_third false z e = e

pub kept_side : (call : Call) → side_held (kept_call call) ≡ side_of call
kept_side call = by_lists ((call.served).dialogs) call.clients refl refl
  where
    if_held : holds_any call ≡ true → side_held (kept_call call) ≡ side_of call
    if_held e = ap (λ b. side_held (if b then Some call else None)) e

    by_lists : (dialogs : Dialogs) (clients : Clients) → (call.served).dialogs ≡ dialogs
        → call.clients ≡ clients → side_held (kept_call call) ≡ side_of call
    by_lists [] [] d c =
        by_bool (holds_any call) if_held
        (λ e. ap (λ b. side_held (if b then Some call else None)) e
        ∙ (λ i. record { dialogs = sym d i; clients = sym c i }))
    by_lists (dialog ∷ dialogs) clients d c =
        if_held (or_second (nat_lt 0 (length (call.served).requests))
        (nat_lt 0 (length (call.served).dialogs)) (not (length call.clients == 0))
        (ap (λ xs. nat_lt 0 (length xs)) d ∙ some_items dialog dialogs))
    by_lists [] (client ∷ clients) d c =
        if_held (or_third (nat_lt 0 (length (call.served).requests)
        || nat_lt 0 (length (call.served).dialogs)) (not (length call.clients == 0))
        (ap (λ xs. not (length xs == 0)) c ∙ not_none client clients))
