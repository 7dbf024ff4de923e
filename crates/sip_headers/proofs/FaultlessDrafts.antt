-- A draft with headers has no fault.
use Rattle.std.proofs.Common.{◌≡◌, Bool, false, ◌&&◌, ◌||◌, List, [], ◌∷◌, cond, Option, Some, None, Ok, find, refl, ap, ◌∙◌}
use Rattle.std.specs.List.{AllByRecursion, list_any}
use Rattle.sip_grammar.specs.HeaderEntry.{entry, headers, is_needed}
use Rattle.sip_grammar.specs.declared.header_name.HeaderName.{HeaderName}
use Rattle.sip_message.specs.declared.fault.ReadFault.TheVariants as fault
use Rattle.sip_headers.specs.Complete.{slot_of, draft_with, fault_in, first_fault, unless_fault, faultless}
use Rattle.sip_headers.specs.Headers.{Headers}
use Rattle.sip_headers.specs.Presence.{slot_presence, list_presence, presence_of, is_nowhere, is_repeated, is_unfit, has_bad_header, missing, repeated}
use Rattle.sip_headers.specs.declared.header_fields.HeaderFields.{HeaderFields}
use Rattle.sip_headers.proofs.Presences.{list_never_repeated}

none_any : {A : Type 0} (p : A → Bool) (xs : List A) → AllByRecursion (λ x. p x ≡ false) xs
    → list_any p xs ≡ false
none_any p [] all = refl
none_any p (x ∷ xs) all = ap (λ b. b || list_any p xs) all.0 ∙ none_any p xs all.1

none_found : {A : Type 0} (p : A → Bool) (xs : List A) → AllByRecursion (λ x. p x ≡ false) xs
    → find p xs ≡ None
none_found p [] all = refl
none_found p (x ∷ xs) all = ap (λ b. cond b (Some x) (find p xs)) all.0 ∙ none_found p xs all.1

fit_list : {X : Type 0} (xs : List X) → is_unfit (list_presence (Some xs)) ≡ false
fit_list [] = refl
fit_list (x ∷ xs) = refl

fit_slot : {X : Type 0} (o : Option X) → is_unfit (slot_presence (slot_of o)) ≡ false
fit_slot None = refl
fit_slot (Some x) = refl

single_slot : {X : Type 0} (o : Option X) → is_repeated (slot_presence (slot_of o)) ≡ false
single_slot None = refl
single_slot (Some x) = refl

list_there : {X : Type 0} (xs : List X) → (xs ≡ [] → ⊥)
    → is_nowhere (list_presence (Some xs)) ≡ false
list_there [] some = absurd (some refl)
list_there (x ∷ xs) some = refl

no_bad_header : (h : Headers) → has_bad_header (draft_with h) ≡ false
no_bad_header h =
    none_any (λ header. is_unfit (presence_of (draft_with h) header)) headers (
      fit_list h.vias,
      (
        refl,
        (
          refl,
          (
            refl,
            (
              refl,
              (
                fit_slot h.max_forwards,
                (
                  fit_slot h.content_length,
                  (
                    fit_slot h.rseq,
                    (
                      fit_slot h.rack,
                      (
                        fit_list h.contacts,
                        (
                          fit_list h.record_routes,
                          (
                            fit_list h.routes,
                            (fit_list h.require, (fit_list h.supported, tt)),
                          ),
                        ),
                      ),
                    ),
                  ),
                ),
              ),
            ),
          ),
        ),
      ),
    )

none_missing : (h : Headers) → (h.vias ≡ [] → ⊥) → missing (draft_with h) ≡ None
none_missing h some =
    none_found (λ header. is_needed (entry header).kind
    && is_nowhere (presence_of (draft_with h) header)) headers (
      list_there h.vias some,
      (
        refl,
        (
          refl,
          (
            refl,
            (
              refl,
              (
                refl,
                (refl, (refl, (refl, (refl, (refl, (refl, (refl, (refl, tt)))))))),
              ),
            ),
          ),
        ),
      ),
    )

none_repeated : (h : Headers) → repeated (draft_with h) ≡ None
none_repeated h =
    none_found (λ header. is_repeated (presence_of (draft_with h) header)) headers (
      list_never_repeated (Some h.vias),
      (
        refl,
        (
          refl,
          (
            refl,
            (
              refl,
              (
                single_slot h.max_forwards,
                (
                  single_slot h.content_length,
                  (
                    single_slot h.rseq,
                    (
                      single_slot h.rack,
                      (
                        list_never_repeated (Some h.contacts),
                        (
                          list_never_repeated (Some h.record_routes),
                          (
                            list_never_repeated (Some h.routes),
                            (
                              list_never_repeated (Some h.require),
                              (list_never_repeated (Some h.supported), tt),
                            ),
                          ),
                        ),
                      ),
                    ),
                  ),
                ),
              ),
            ),
          ),
        ),
      ),
    )

pub fault_from : (d : HeaderFields) (b : Bool) (m r : Option HeaderName) → has_bad_header d ≡ b
    → missing d ≡ m → repeated d ≡ r → fault_in d ≡ cond b (Some fault.BadHeader) (first_fault m r)
unfolding fault_in
fault_from d b m r e f g =
    ap (λ x. cond x (Some fault.BadHeader) (first_fault (missing d) (repeated d))) e
    ∙ ap (λ x. cond b (Some fault.BadHeader) (first_fault x (repeated d))) f
    ∙ ap (λ x. cond b (Some fault.BadHeader) (first_fault m x)) g

pub no_fault : (h : Headers) → (h.vias ≡ [] → ⊥) → faultless (draft_with h) ≡ Ok (draft_with h)
no_fault h some =
    ap (λ o. unless_fault o (draft_with h))
    (fault_from (draft_with h) false None None (no_bad_header h) (none_missing h some)
    (none_repeated h))
