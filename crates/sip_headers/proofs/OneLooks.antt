-- A draft whose headers are all there as they may be has no fault.
use Rattle.std.proofs.Common.{◌≡◌, Bool, true, false, not, List, [], ◌∷◌, Option, Some, None, Ok, refl, sym, subst}
use Rattle.std.specs.Prelude.{is_some}
use Rattle.std.proofs.lemmas.Bool.{and_parts}
use Rattle.sip_message.specs.declared.fault.ReadFault.{ReadFault}
use Rattle.sip_headers.specs.Complete.{slot_of, once, fault_in, unless_fault, draft_with, IsComplete}
use Rattle.sip_headers.specs.Headers.{Headers}
use Rattle.sip_headers.specs.Steps.OneLook.{is_fitting, is_at_most_once, is_whole}
use Rattle.sip_headers.specs.Presence.{list_presence}
use Rattle.sip_headers.specs.declared.header_fields.HeaderFields.{HeaderFields}
use Rattle.sip_headers.specs.declared.slot.Slot.{Slot}
use Rattle.sip_headers.specs.declared.slot.Slot.TheVariants.{Absent, Once, Twice, Bad}
use Rattle.sip_headers.proofs.Completes.{complete_with}
use Rattle.sip_headers.proofs.FaultlessDrafts.{no_fault}

not_true : (b : Bool) → not b ≡ true → b ≡ false
not_true true e = absurd cc
not_true false e = refl

list_there : {X : Type 0} (o : Option X) → is_some o ≡ true → (x : X) × (o ≡ Some x)
list_there None e = absurd cc
list_there (Some x) e = (x, refl)

once_there : {X : Type 0} (s : Slot X) → is_some (once s) ≡ true → (x : X) × (s ≡ Once x)
once_there Absent e = absurd cc
once_there (Once x) e = (x, refl)
once_there Twice e = absurd cc
once_there Bad e = absurd cc

slot_there : {X : Type 0} (s : Slot X) → is_at_most_once s ≡ true
    → (o : Option X) × (s ≡ slot_of o)
slot_there Absent e = (None, refl)
slot_there (Once x) e = (Some x, refl)
slot_there Twice e = absurd cc
slot_there Bad e = absurd cc

fitting_there : {X : Type 0} (o : Option (List X)) → is_fitting (list_presence o) ≡ true
    → (xs : List X) × (o ≡ Some xs) × (xs ≡ [] → ⊥)
fitting_there None e = absurd cc
fitting_there (Some []) e = absurd cc
fitting_there (Some (x ∷ xs)) e = (x ∷ xs, refl, λ none. absurd cc)

whole_draft : (d : HeaderFields) → is_whole d ≡ true
    → (h : Headers) × (d ≡ draft_with h) × (h.vias ≡ [] → ⊥)
whole_draft d whole =
    let to_supported = and_parts _ _ whole in
    let to_require = and_parts _ _ to_supported.0 in
    let to_routes = and_parts _ _ to_require.0 in
    let to_record_routes = and_parts _ _ to_routes.0 in
    let to_contacts = and_parts _ _ to_record_routes.0 in
    let to_rack = and_parts _ _ to_contacts.0 in
    let to_rseq = and_parts _ _ to_rack.0 in
    let to_content_length = and_parts _ _ to_rseq.0 in
    let to_max_forwards = and_parts _ _ to_content_length.0 in
    let to_needed = and_parts _ _ to_max_forwards.0 in
    let first = and_parts _ _ to_needed.0 in
    let to_cseq = and_parts _ _ to_needed.1 in
    let to_call_id = and_parts _ _ to_cseq.0 in
    let to_to = and_parts _ _ to_call_id.0 in
    let to_from = and_parts _ _ to_to.0 in
    let supported = list_there d.supported to_supported.1 in
    let require = list_there d.require to_require.1 in
    let routes = list_there d.routes to_routes.1 in
    let record_routes = list_there d.record_routes to_record_routes.1 in
    let contacts = list_there d.contacts to_contacts.1 in
    let rack = slot_there d.rack to_rack.1 in
    let rseq = slot_there d.rseq to_rseq.1 in
    let content_length = slot_there d.content_length to_content_length.1 in
    let max_forwards = slot_there d.max_forwards to_max_forwards.1 in
    let cseq = once_there d.cseq to_cseq.1 in
    let call_id = once_there d.call_id to_call_id.1 in
    let to = once_there d.to to_to.1 in
    let from = once_there d.from to_from.1 in
    let vias = fitting_there d.vias to_from.0 in
    let others = list_there d.others first.1 in (
      record {
        vias = vias.0;
        max_forwards = max_forwards.0;
        from = from.0;
        to = to.0;
        call_id = call_id.0;
        cseq = cseq.0;
        contacts = contacts.0;
        record_routes = record_routes.0;
        routes = routes.0;
        require = require.0;
        supported = supported.0;
        rseq = rseq.0;
        rack = rack.0;
        content_length = content_length.0;
        others = others.0;
      },
      λ i. record {
        is_bad = not_true d.is_bad first.0 i;
        vias = vias.1 i;
        max_forwards = max_forwards.1 i;
        from = from.1 i;
        to = to.1 i;
        call_id = call_id.1 i;
        cseq = cseq.1 i;
        contacts = contacts.1 i;
        record_routes = record_routes.1 i;
        routes = routes.1 i;
        require = require.1 i;
        supported = supported.1 i;
        rseq = rseq.1 i;
        rack = rack.1 i;
        content_length = content_length.1 i;
        others = others.1 i;
      },
      vias.2,
    )

none_told : (o : Option ReadFault) (d e : HeaderFields) → unless_fault o d ≡ Ok e → o ≡ None
none_told None d e same = refl
none_told (Some fault) d e same = absurd cc

pub whole_faultless : (d : HeaderFields) → is_whole d ≡ true → (fault_in d ≡ None) × IsComplete d
whole_faultless d whole =
    let all = whole_draft d whole in
    subst (λ (e : HeaderFields). (fault_in e ≡ None) × IsComplete e) (sym all.1) (
      none_told (fault_in (draft_with all.0)) (draft_with all.0) (draft_with all.0)
          (no_fault all.0 all.2),
      complete_with all.0,
    )
