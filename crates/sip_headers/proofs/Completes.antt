-- A draft without a fault has each header in its place.
use Rattle.std.proofs.Common.{◌≡◌, Bool, true, false, ◌&&◌, List, [], ◌∷◌, cond, Option, Some, None, find, refl, sym, subst}
use Rattle.std.specs.Prelude.{is_none}
use Rattle.std.specs.List.{AllByRecursion}
use Rattle.std.proofs.lemmas.Bool.{or_parts}
use Rattle.sip_grammar.specs.HeaderEntry.{entry, headers, is_needed}
use Rattle.sip_headers.specs.Complete.{slot_of, IsComplete, draft_with}
use Rattle.sip_headers.specs.Headers.{Headers}
use Rattle.sip_headers.specs.Presence.{slot_presence, list_presence, presence_of, is_nowhere, is_repeated, is_unfit, has_bad_header, missing, repeated}
use Rattle.sip_headers.specs.declared.header_fields.HeaderFields.{HeaderFields}
use Rattle.sip_headers.specs.declared.slot.Slot.{Slot}
use Rattle.sip_headers.specs.declared.slot.Slot.TheVariants.{Absent, Once, Twice, Bad}
use Rattle.sip_headers.proofs.Presences.{fits}

not_found_by : {A : Type 0} (b : Bool) (x : A) (more : Option A) → cond b (Some x) more ≡ None
    → (b ≡ false) × (more ≡ None)
not_found_by true x more e = absurd cc
not_found_by false x more e = (refl, e)

pub not_found : {A : Type 0} (p : A → Bool) (xs : List A) → find p xs ≡ None
    → AllByRecursion (λ x. p x ≡ false) xs
not_found p [] e = tt
not_found p (x ∷ xs) e =
    let parts = not_found_by (p x) x (find p xs) e in (parts.0, not_found p xs parts.1)

once_slot : {X : Type 0} (s : Slot X) → is_unfit (slot_presence s) ≡ false
    → is_nowhere (slot_presence s) ≡ false → is_repeated (slot_presence s) ≡ false
    → (x : X) × (s ≡ Once x)
once_slot Absent fit there single = absurd cc
once_slot (Once x) fit there single = (x, refl)
once_slot Twice fit there single = absurd cc
once_slot Bad fit there single = absurd cc

open_slot : {X : Type 0} (s : Slot X) → is_unfit (slot_presence s) ≡ false
    → is_repeated (slot_presence s) ≡ false → (o : Option X) × (s ≡ slot_of o)
open_slot Absent fit single = (None, refl)
open_slot (Once x) fit single = (Some x, refl)
open_slot Twice fit single = absurd cc
open_slot Bad fit single = absurd cc

fit_list : {X : Type 0} (list : Option (List X)) → is_unfit (list_presence list) ≡ false
    → (xs : List X) × (list ≡ Some xs)
fit_list None fit = absurd cc
fit_list (Some xs) fit = (xs, refl)

pub is_there : {X : Type 0} (o : Option X) → is_none o ≡ false → (x : X) × (o ≡ Some x)
is_there None e = absurd cc
is_there (Some x) e = (x, refl)

pub headers_there : (d : HeaderFields) → has_bad_header d ≡ false → missing d ≡ None
    → repeated d ≡ None
    → (h : Headers) × (d ≡ draft_with h)
headers_there d bad none single =
    let flags = or_parts _ _ (or_parts _ _ bad).0 in
    let fit = fits d bad in
    let there = not_found (λ header. is_needed (entry header).kind
    && is_nowhere (presence_of d header)) headers none in
    let one = not_found (λ header. is_repeated (presence_of d header)) headers single in
    let vias = fit_list d.vias fit.0 in
    let from = once_slot d.from fit.1.0 there.1.0 one.1.0 in
    let to = once_slot d.to fit.1.1.0 there.1.1.0 one.1.1.0 in
    let call_id = once_slot d.call_id fit.1.1.1.0 there.1.1.1.0 one.1.1.1.0 in
    let cseq = once_slot d.cseq fit.1.1.1.1.0 there.1.1.1.1.0 one.1.1.1.1.0 in
    let max_forwards = open_slot d.max_forwards fit.1.1.1.1.1.0 one.1.1.1.1.1.0 in
    let content_length = open_slot d.content_length fit.1.1.1.1.1.1.0 one.1.1.1.1.1.1.0 in
    let rseq = open_slot d.rseq fit.1.1.1.1.1.1.1.0 one.1.1.1.1.1.1.1.0 in
    let rack = open_slot d.rack fit.1.1.1.1.1.1.1.1.0 one.1.1.1.1.1.1.1.1.0 in
    let contacts = fit_list d.contacts fit.1.1.1.1.1.1.1.1.1.0 in
    let record_routes = fit_list d.record_routes fit.1.1.1.1.1.1.1.1.1.1.0 in
    let routes = fit_list d.routes fit.1.1.1.1.1.1.1.1.1.1.1.0 in
    let require = fit_list d.require fit.1.1.1.1.1.1.1.1.1.1.1.1.0 in
    let supported = fit_list d.supported fit.1.1.1.1.1.1.1.1.1.1.1.1.1.0 in
    let others = is_there d.others flags.1 in (
      record {
        vias = vias.0;
        max_forwards = max_forwards.0;
        from = from.0;
        to = to.0;
        call_id = call_id.0;
        cseq = cseq.0;
        contacts = contacts.0;
        record_routes = record_routes.0;
        routes = routes.0;
        require = require.0;
        supported = supported.0;
        rseq = rseq.0;
        rack = rack.0;
        content_length = content_length.0;
        others = others.0;
      },
      λ i. record {
        is_bad = flags.0 i;
        vias = vias.1 i;
        max_forwards = max_forwards.1 i;
        from = from.1 i;
        to = to.1 i;
        call_id = call_id.1 i;
        cseq = cseq.1 i;
        contacts = contacts.1 i;
        record_routes = record_routes.1 i;
        routes = routes.1 i;
        require = require.1 i;
        supported = supported.1 i;
        rseq = rseq.1 i;
        rack = rack.1 i;
        content_length = content_length.1 i;
        others = others.1 i;
      },
    )

pub complete_with : (h : Headers) → IsComplete (draft_with h)
complete_with h = record {
  vias = refl;
  from = refl;
  to = refl;
  call_id = refl;
  cseq = refl;
  contacts = refl;
  record_routes = refl;
  routes = refl;
  require = refl;
  supported = refl;
  others = refl;
}

pub complete_of : (d : HeaderFields) → has_bad_header d ≡ false → missing d ≡ None
    → repeated d ≡ None
    → IsComplete d
complete_of d bad none single =
    let all = headers_there d bad none single in
    subst (λ (e : HeaderFields). IsComplete e) (sym all.1) (complete_with all.0)

pub via_there : (d : HeaderFields) → missing d ≡ None → is_nowhere (list_presence d.vias) ≡ false
via_there d none =
    (not_found (λ header. is_needed (entry header).kind && is_nowhere (presence_of d header))
    headers none).0
