-- Hosts: their bytes, and the separators that don't cut them.
use Rattle.std.proofs.Common.{◌≡◌, ℕ, Bool, true, false, cond, eqb, List, [], ◌∷◌, ◌++◌, Option, Some, None, refl, sym, ap, subst, ◌∙◌}
use Rattle.std.specs.List.{list_all}
use Rattle.std.proofs.lemmas.Bool.{and_parts, and_from, eqb-true}
use Rattle.std.proofs.lemmas.List.Folds.{list_all-append}
use Rattle.sip_text.specs.Cut.{cut_at}
use Rattle.sip_text.specs.Separator.{place_after}
use Rattle.sip_text.specs.declared.separator.Separator.TheVariants.{Byte, Anywhere, Colon}
use Rattle.sip_text.specs.declared.separator.Place.TheVariants.{Plain, Bracketed}
use Rattle.sip_grammar.specs.Host.{is_host_byte, is_bracket_byte, is_closed, is_host}
use Rattle.sip_grammar.proofs.Characters.{full_at}
use Rattle.sip_grammar.proofs.Cuts.{all_imply, at_takes}
use Rattle.sip_grammar.proofs.Passing.{Passes, clear, all_pass, place_append, byte_clear, anywhere_clear}
use Rattle.sip_grammar.proofs.WrittenBytes.{is_solid, solid, solid_byte}

closed_by : (bs : List ℕ) (o : Option (List ℕ × List ℕ)) → cut_at 93 bs ≡ o → is_closed o ≡ true
    → (inside : List ℕ) × (bs ≡ inside ++ (93 ∷ [])) × (list_all is_bracket_byte inside ≡ true)
closed_by bs None is e = absurd cc
closed_by bs (Some (inside, [])) is e = (inside, (at_takes 93 bs (inside, []) is).0, e)
closed_by bs (Some (inside, b ∷ more)) is e = absurd cc

-- all bytes of a host
host_all : (q : ℕ → Bool) → ((b : ℕ) → is_host_byte b ≡ true → q b ≡ true)
    → ((b : ℕ) → is_bracket_byte b ≡ true → q b ≡ true) → q 91 ≡ true → q 93 ≡ true
    → (host : List ℕ) → is_host host ≡ true → list_all q host ≡ true
unfolding is_host
host_all q bytes inner open_q close_q [] is = refl
host_all q bytes inner open_q close_q (b ∷ bs) is = by_first (eqb b 91) refl is
  where
    by_first : (r : Bool) → eqb b 91 ≡ r
        → cond r (is_closed (cut_at 93 bs)) (list_all is_host_byte (b ∷ bs)) ≡ true
        → list_all q (b ∷ bs) ≡ true
    by_first true e f =
        let closed = closed_by bs (cut_at 93 bs) refl f in
        let first : q b ≡ true = ap q (eqb-true b 91 e) ∙ open_q in
        and_from _ _ first (ap (list_all q) closed.1 ∙ list_all-append q closed.0 (93 ∷ [])
        ∙ and_from _ _ (all_imply is_bracket_byte q inner closed.0 closed.2)
        (and_from _ _ close_q refl))
    by_first false e f = all_imply is_host_byte q bytes (b ∷ bs) f

pub host_solid : (host : List ℕ) → is_host host ≡ true → solid host ≡ true
unfolding is_host_byte is_bracket_byte
host_solid host is =
    host_all is_solid (solid_byte is_host_byte refl refl refl refl)
    (solid_byte is_bracket_byte refl refl refl refl) refl refl host is

pub host_passes_semicolon : (host : List ℕ) → is_host host ≡ true → Passes (Anywhere 59) host
unfolding is_host_byte is_bracket_byte
host_passes_semicolon host is =
    all_pass (Anywhere 59) host (host_all (clear (Anywhere 59))
    (anywhere_clear is_host_byte 59 refl) (anywhere_clear is_bracket_byte 59 refl) refl refl
    host is)

pub host_passes_comma : (host : List ℕ) → is_host host ≡ true → Passes (Byte 44) host
unfolding is_host_byte is_bracket_byte
host_passes_comma host is =
    all_pass (Byte 44) host (host_all (clear (Byte 44)) (byte_clear is_host_byte 44 refl refl refl)
    (byte_clear is_bracket_byte 44 refl refl refl) refl refl host is)

inside_hidden : (inside : List ℕ) → list_all is_bracket_byte inside ≡ true
    → place_after Colon Bracketed inside ≡ Some Bracketed
unfolding is_bracket_byte
inside_hidden [] all = refl
inside_hidden (b ∷ bs) all =
    let parts = and_parts (is_bracket_byte b) (list_all is_bracket_byte bs) all in
    ap (λ r. place_after Colon (cond r Plain Bracketed) bs)
    (full_at is_bracket_byte b 93 refl parts.0) ∙ inside_hidden bs parts.1

pub host_passes_colon : (host : List ℕ) → is_host host ≡ true → Passes Colon host
unfolding is_host is_host_byte
host_passes_colon [] is = refl
host_passes_colon (b ∷ bs) is = by_first (eqb b 91) refl is
  where
    by_first : (r : Bool) → eqb b 91 ≡ r
        → cond r (is_closed (cut_at 93 bs)) (list_all is_host_byte (b ∷ bs)) ≡ true
        → Passes Colon (b ∷ bs)
    by_first true e f =
        let closed = closed_by bs (cut_at 93 bs) refl f in
        subst (λ (xs : List ℕ). Passes Colon xs)
        (sym (ap (λ (c : ℕ). c ∷ bs) (eqb-true b 91 e)
        ∙ ap (λ (xs : List ℕ). 91 ∷ xs) closed.1))
        (place_append Colon Bracketed Bracketed Plain closed.0 (93 ∷ [])
        (inside_hidden closed.0 closed.2) refl)
    by_first false e f =
        all_pass Colon (b ∷ bs) (all_imply is_host_byte (clear Colon)
        (λ c p. rw (full_at is_host_byte c 58 refl p, full_at is_host_byte c 91 refl p) refl)
        (b ∷ bs) f)
