-- One held request changed in its place.
use Rattle.std.proofs.Common.{◌≡◌, ℕ, ◌<◌, List, length, get_or, refl, sym, ap, subst, ◌∙◌}
use Rattle.std.specs.Prelude.{None, Some, Result, Ok, Err, IfOk, find}
use Rattle.std.specs.List.{slice_get, slice_set}
use Rattle.std.proofs.lemmas.Option.{slice_get_read}
use Rattle.sip_message.specs.declared.id.Id.{Id}
use Rattle.sip_user.specs.declared.command.Respond.{Respond}
use Rattle.sip_served.specs.declared.held_request.HeldRequest.{HeldRequest}
use Rattle.sip_served.specs.Respond.{answer_given, by_refusal, by_request, refusal_for, respond_taken}
use Rattle.sip_served.specs.State.{State, changed_at, has_id}

abbrev ChangesAt : Id → ℕ → List HeldRequest → Type 0
ChangesAt id index requests =
    (change : HeldRequest → HeldRequest) (held : HeldRequest) → slice_get requests index ≡ Some held
    → changed_at id change requests ≡ slice_set requests index (change held)

-- what is written at the place is the change of the request of this id
pub written : (seen requests : List HeldRequest) (id : Id) (index : ℕ) (held new : HeldRequest)
    (change : HeldRequest → HeldRequest) → seen ≡ requests → index < length seen
    → held ≡ get_or requests index held → new ≡ change held → ChangesAt id index seen
    → slice_set requests index new ≡ changed_at id change requests
written seen requests id index held new change same within read after changes =
    let there : index < length requests =
    subst (λ (ys : List HeldRequest). index < length ys) same within in
    let at : slice_get requests index ≡ Some held =
    slice_get_read requests (length requests) index held refl there read in
    let moved : ChangesAt id index requests =
    subst (λ (ys : List HeldRequest). ChangesAt id index ys) same changes in
    ap (slice_set requests index) after ∙ sym (moved change held at)

-- an answer that isn't refused, given to the request of its id, is what is to be done
pub given : (state : State) (event : Id) (respond : Respond) (now : ℕ) (held : HeldRequest)
    → find (has_id respond.id) state.requests ≡ Some held
    → refusal_for state.dialogs respond held ≡ None
    → answer_given state event respond now held ≡ respond_taken state event respond now
given state event respond now held found unrefused =
    sym (ap (by_refusal state event respond now held) unrefused)
    ∙ sym (ap (by_request state event respond now) found)

-- if P gives Q, and P is true of what a call returned, so is Q
pub ok_mapped : {A E : Type 0} (P Q : A → Type 0) (answer : Result A E)
    → ((value : A) → P value → Q value) → IfOk answer P → IfOk answer Q
ok_mapped P Q (Ok value) step holds = step value holds
ok_mapped P Q (Err error) step holds = tt
