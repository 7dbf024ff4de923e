-- `take_reply`: if the dialog of the response is held, it is replaced in its place.
use Rattle.std.proofs.Common.{◌≡◌, Bool, true, false, cond, List, [], ◌∷◌, refl, sym, ap, ◌∙◌, rules}
use Rattle.std.specs.Prelude.{Option, None, Some, unwrap_or, if◌then◌else◌}
use Rattle.std.specs.Map.{lookup, set_value}
use Rattle.std.proofs.lemmas.Map.Steps.{set_value_same}
use Rattle.indexmap.specs.IndexMap.{insert_entry}
use Rattle.ordered_map.specs.OrderedMap.{Ordered}
use Rattle.sip_held_dialogs.proofs.Counts.{kept_counted}
use Rattle.sip_held_dialogs.specs.declared.held_dialog.DialogId.{DialogId}
use Rattle.sip_held_dialogs.specs.declared.held_dialog.HeldDialog.{HeldDialog}
use Rattle.sip_held_dialogs.specs.Dialogs.{dialog_at, is_dialog_id, Dialogs}
use Rattle.sip_clients.specs.Replied.{after_dialog, request_over, replied_in, dialogs_with}
use Rattle.sip_clients.specs.ReceivedResponse.{is_last}
use Rattle.sip_clients.proofs.Results.{if_ok}
use Rattle.sip_clients.proofs.replied.take_reply.Goals as goal

-- a key that was found keeps its place
there_step : {K X : Type 0} (b : Bool) (e : K × X) (es set put : List (K × X)) (v x : X)
    → (lookup_is : Option X) → cond b (Some e.1) lookup_is ≡ Some x
    → (lookup_is ≡ Some x → set ≡ put)
    → cond b ((e.0, v) ∷ es) (e ∷ set) ≡ cond b ((e.0, v) ∷ es) (e ∷ put)
there_step true e es set put v x found is later = refl
there_step false e es set put v x found is later = ap (λ rest. e ∷ rest) (later is)

put_there : {K X : Type 0} (eq : K → K → Bool) (k : K) (es : List (K × X)) (v x : X)
    → lookup (eq k) es ≡ Some x → set_value (eq k) es v ≡ insert_entry eq es k v
put_there eq k [] v x is = absurd cc
put_there eq k (e ∷ es) v x is =
    there_step (eq k e.0) e es (set_value (eq k) es v) (insert_entry eq es k v) v x
    (lookup (eq k) es) is (put_there eq k es v x)

put : (name : DialogId) (held : HeldDialog) (after : Option HeldDialog) (dialogs : Dialogs)
    → dialog_at name dialogs ≡ Some held
    → set_value (is_dialog_id name) dialogs (unwrap_or after held) ≡ dialogs_with name after dialogs
put name held None dialogs is = set_value_same (is_dialog_id name) dialogs held is
put name held (Some after) dialogs is = put_there is_dialog_id name dialogs after held is

pub invariant_of-dialogs : goal.invariant_of-dialogs
invariant_of-dialogs c =
    kept_counted c.dialogs.inside.invites c.args.reply.now.name c.in-Some.held.now
    c.take_in.new.held c.dialogs.inside.all.entries (sym c.in-Some.ensures.value)
    c.take_in.ensures.same_invite c.dialogs.invariant

pub returns-in-Some : goal.returns-in-Some
returns-in-Some c =
    let reply = c.args.reply.now in
    let client = c.args.client.now in
    let dialogs : Dialogs = c.args.dialogs.now.entries in
    let held = c.in-Some.held.now in
    let last : is_last client.kind reply.status ≡ false = search rules in
    let found : dialog_at reply.name dialogs ≡ Some held =
    ap (λ (all : Ordered DialogId HeldDialog). dialog_at reply.name all.entries)
    (sym c.dialogs.view_is) ∙ sym c.in-Some.ensures.value in
    let lent : set_value (is_dialog_id reply.name) c.dialogs.inside.all.entries c.take_in.new.held
    ≡ set_value (is_dialog_id reply.name) dialogs c.take_in.new.held =
    ap (λ (all : Ordered DialogId HeldDialog).
    set_value (is_dialog_id reply.name) all.entries c.take_in.new.held) c.dialogs.view_is in
    let after = (replied_in client (Some held) reply).1 in
    if_ok c.take_in.result _ _ c.take_in.ensures.told (λ told is.
    let kept = lent ∙ (λ i. set_value (is_dialog_id reply.name) dialogs (is i).1)
    ∙ put reply.name held after dialogs found in
    ◌∙◌ {b = after_dialog reply.name dialogs (replied_in client (Some held) reply)}
    (λ i. ((is i).0, kept i, (is i).2, (is i).3))
    (λ i. if sym last i then request_over client dialogs reply
    else after_dialog reply.name dialogs (replied_in client (sym found i) reply)))

pub returns-in-None : goal.returns-in-None
returns-in-None c =
    let reply = c.args.reply.now in
    let client = c.args.client.now in
    let dialogs : Dialogs = c.args.dialogs.now.entries in
    let last : is_last client.kind reply.status ≡ false = search rules in
    let none : dialog_at reply.name c.dialogs.inside.all.entries ≡ None = search rules in
    let found : dialog_at reply.name dialogs ≡ None =
    ap (λ (all : Ordered DialogId HeldDialog). dialog_at reply.name all.entries)
    (sym c.dialogs.view_is) ∙ none in
    if_ok c.take_new.result _ _ c.take_new.ensures (λ told is.
    is
    ∙ ap (λ (all : Ordered DialogId HeldDialog).
    after_dialog reply.name all.entries (replied_in client None reply)) c.dialogs.view_is
    ∙ (λ i. if sym last i then request_over client dialogs reply
    else after_dialog reply.name dialogs (replied_in client (sym found i) reply)))
