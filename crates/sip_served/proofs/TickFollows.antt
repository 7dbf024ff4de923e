-- What is read of the request of an id after a tick of the server side is what the outputs say, if
-- the outputs of each change of a request say so.
use Rattle.std.proofs.Common.{◌≡◌, ℕ, Bool, true, false, cond, List, [], ◌∷◌, ◌++◌, map, refl, sym, ap, subst, ◌∙◌}
use Rattle.std.specs.Prelude.{Option, None, Some, filter, find, fold}
use Rattle.std.specs.List.{AllByRecursion, IsDistinct, flat_map}
use Rattle.std.proofs.lemmas.Map.Keys.{IsDistinct-head, IsDistinct-tail}
use Rattle.sip_message.specs.declared.id.Id.{Id}
use Rattle.sip_user.specs.declared.item.CallOut.{CallOut}
use Rattle.sip_held_dialogs.specs.Ids.{is_id}
use Rattle.sip_held_dialogs.proofs.Heard.{id_laws}
use Rattle.sip_served.specs.declared.held_request.HeldRequest.{HeldRequest}
use Rattle.sip_served.specs.State.{has_id}
use Rattle.sip_served.specs.Tick.{is_kept_at, request_ticked}
use Rattle.sip_served.proofs.Found.{passed_id}
use Rattle.sip_served.proofs.Reading.{IsTold, Quiet, Reading, TicksAs, fold_on, quiet_both, read_of}

module _ {X : Type 0} (reading : Reading X) (invite : Id) (told : IsTold X reading invite) (now : ℕ)
  where
    abbrev pub passed : HeldRequest → HeldRequest
    passed held = (request_ticked now held).0

    abbrev pub reported_in : HeldRequest → List CallOut
    reported_in held = (request_ticked now held).1

    abbrev NoneOfIt : List HeldRequest → Type 0
    NoneOfIt requests = AllByRecursion (λ held. is_id held.id invite ≡ false) requests

    abbrev pub left : List HeldRequest → List HeldRequest
    left requests = filter (is_kept_at now) (map passed requests)

    -- past a request of another id
    past : (held : HeldRequest) (requests : List HeldRequest) → is_id held.id invite ≡ false
        → find (has_id invite) (left (held ∷ requests)) ≡ find (has_id invite) (left requests)
    past held requests other =
        elim (is_kept_at now (passed held)) as (λ b. find (has_id invite)
        (cond b (passed held ∷ left requests) (left requests))
        ≡ find (has_id invite) (left requests)) [
          | true ↦ ap (λ b. cond b (Some (passed held)) (find (has_id invite) (left requests)))
              (ap (λ id. is_id id invite) (passed_id now held) ∙ other)
          | false ↦ refl
        ]

    none_left : (requests : List HeldRequest) → NoneOfIt requests
        → find (has_id invite) (left requests) ≡ None
    none_left [] all = refl
    none_left (held ∷ requests) all = past held requests all.0 ∙ none_left requests all.1

    none_told : (requests : List HeldRequest) → NoneOfIt requests
        → Quiet reading (flat_map reported_in requests)
    none_told [] all x = refl
    none_told (held ∷ requests) all x =
        quiet_both reading (reported_in held) (flat_map reported_in requests)
        (told.other_ticked now held all.0) (none_told requests all.1) x

    abbrev pub Ticks : List HeldRequest → Type 0
    Ticks requests = TicksAs reading (find (has_id invite) requests)
        (find (has_id invite) (left requests)) (flat_map reported_in requests)

    none_of_it : (held : HeldRequest) (requests : List HeldRequest) → is_id held.id invite ≡ true
        → AllByRecursion (λ id. is_id held.id id ≡ false) (map (λ held. held.id) requests)
        → NoneOfIt requests
    none_of_it held [] own all = tt
    none_of_it held (other ∷ requests) own all = (
      id_laws.symm other.id invite
          ∙ sym (id_laws.congr held.id invite other.id own) ∙ all.0,
      none_of_it held requests own all.1,
    )

    pub tick_follows : (requests : List HeldRequest)
        → IsDistinct is_id (map (λ held. held.id) requests) → Ticks requests
    tick_follows [] apart = tt
    tick_follows (held ∷ requests) apart =
        by_id (is_id held.id invite) refl
        (tick_follows requests
        (IsDistinct-tail is_id held.id (map (λ held. held.id) requests) apart))
      where
        rest : List CallOut
        rest = flat_map reported_in requests

        as_later : is_id held.id invite ≡ false → (before after : Option HeldRequest)
            → TicksAs reading before after rest → TicksAs reading before after
            (reported_in held ++ rest)
        as_later other before None later = tt
        as_later other before (Some after) later =
            later ∙ sym (fold_on reading.ticks (read_of reading before) (reported_in held) rest
            ∙ ap (λ x. fold reading.ticks x rest)
            (told.other_ticked now held other (read_of reading before)))

        by_id : (b : Bool) → is_id held.id invite ≡ b → Ticks requests → Ticks (held ∷ requests)
        by_id false other later =
            let before = find (has_id invite) requests in
            subst (λ after. TicksAs reading
            (cond (is_id held.id invite) (Some held) before) after (reported_in held ++ rest))
            (sym (past held requests other))
            (subst (λ b. TicksAs reading (cond b (Some held) before)
            (find (has_id invite) (left requests)) (reported_in held ++ rest)) (sym other)
            (as_later other before (find (has_id invite) (left requests)) later))
        by_id true own later =
            let none = none_of_it held requests own
            (IsDistinct-head is_id held.id (map (λ held. held.id) requests) apart) in
            subst (λ b. TicksAs reading (cond b (Some held) (find (has_id invite) requests))
            (find (has_id invite) (left (held ∷ requests))) (reported_in held ++ rest)) (sym own)
            (elim (is_kept_at now (passed held)) as (λ b. TicksAs reading (Some held)
            (find (has_id invite) (cond b (passed held ∷ left requests) (left requests)))
            (reported_in held ++ rest)) [
              | true ↦ subst (λ b. TicksAs reading (Some held)
                  (cond b (Some (passed held)) (find (has_id invite) (left requests)))
                  (reported_in held ++ rest))
                  (sym (ap (λ id. is_id id invite) (passed_id now held) ∙ own))
                  (told.ticked now held own
                  ∙ sym (fold_on reading.ticks (reading.read held) (reported_in held) rest
                  ∙ none_told requests none
                  (fold reading.ticks (reading.read held) (reported_in held))))
              | false ↦ subst (λ after. TicksAs reading (Some held) after (reported_in held ++ rest))
                  (sym (none_left requests none)) tt
            ])
