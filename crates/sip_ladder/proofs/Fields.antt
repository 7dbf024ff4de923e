-- The label of a line is that of its first field, and then that of what follows.
use Rattle.std.proofs.Common.{◌≡◌, ℕ, ◌==◌, Bool, true, false, cond, List, [], ◌∷◌, ◌++◌, codes, refl, ap, sym, subst, ◌∙◌, append_assoc, append-nil}
use Rattle.std.specs.Prelude.{Option, Some, None}
use Rattle.std.specs.Option.{option_map}
use Rattle.sip_text.specs.Cut.{cut_at}
use Rattle.sip_ladder.specs.Label.{fields_from, fields_label, word}
use Rattle.sip_ladder.proofs.Printable.{AreShown, both, either, word_is}

-- what follows the first field of a text, by the place of the first space
abbrev Follows : List ℕ → List ℕ → Option (List ℕ × List ℕ) → List ℕ → Type 0
Follows field text None label = label ≡ word (field ++ text)
Follows field text (Some parts) label =
    label ≡ word (field ++ parts.0) ++ codes " " ++ fields_from [] parts.1

one_byte : (byte : ℕ) (field bytes label : List ℕ) (found : Option (List ℕ × List ℕ))
    → Follows (field ++ byte ∷ []) bytes found label
    → Follows field (byte ∷ bytes) (option_map (λ p. (byte ∷ p.0, p.1)) found) label
one_byte byte field bytes label None is = is ∙ ap word (append_assoc field (byte ∷ []) bytes)
one_byte byte field bytes label (Some parts) is =
    is ∙ ap (λ f. word f ++ codes " " ++ fields_from [] parts.1)
    (append_assoc field (byte ∷ []) parts.0)

at_byte : (byte : ℕ) (field bytes : List ℕ) (test : Bool)
    → Follows (field ++ byte ∷ []) bytes (cut_at 32 bytes) (fields_from (field ++ byte ∷ []) bytes)
    → Follows field (byte ∷ bytes)
    (cond test (Some ([], bytes)) (option_map (λ p. (byte ∷ p.0, p.1)) (cut_at 32 bytes)))
    (cond test (word field ++ codes " " ++ fields_from [] bytes)
    (fields_from (field ++ byte ∷ []) bytes))
at_byte byte field bytes true after =
    ap (λ f. word f ++ codes " " ++ fields_from [] bytes) (sym (append-nil field))
at_byte byte field bytes false after =
    one_byte byte field bytes (fields_from (field ++ byte ∷ []) bytes) (cut_at 32 bytes) after

follows : (field text : List ℕ) → Follows field text (cut_at 32 text) (fields_from field text)
follows field [] = ap word (sym (append-nil field))
follows field (byte ∷ bytes) =
    at_byte byte field bytes (byte == 32) (follows (field ++ byte ∷ []) bytes)

pub next_field : (text field after : List ℕ) → cut_at 32 text ≡ Some (field, after)
    → fields_label text ≡ word field ++ codes " " ++ fields_label after
next_field text field after found =
    subst (λ f. Follows [] text f (fields_label text)) found (follows [] text)

pub last_field : (text : List ℕ) → cut_at 32 text ≡ None → fields_label text ≡ word text
last_field text none = subst (λ f. Follows [] text f (fields_label text)) none (follows [] text)

pub fields_is : (field text : List ℕ) → AreShown (fields_from field text)
fields_is field [] = word_is field
fields_is field (byte ∷ bytes) =
    either (byte == 32) (word field ++ codes " " ++ fields_from [] bytes)
    (fields_from (field ++ byte ∷ []) bytes)
    (both (word field ++ codes " ") (fields_from [] bytes)
    (both (word field) (codes " ") (word_is field) refl) (fields_is [] bytes))
    (fields_is (field ++ byte ∷ []) bytes)

-- a label grows by a field and a space
pub next_of : (line rest field after label next : List ℕ)
    → fields_label line ≡ label ++ fields_label rest → cut_at 32 rest ≡ Some (field, after)
    → next ≡ (label ++ word field) ++ codes " " → fields_label line ≡ next ++ fields_label after
next_of line rest field after label next so_far found pushed =
    so_far ∙ ap (λ l. label ++ l) (next_field rest field after found)
    ∙ sym (append_assoc label (word field ++ codes " ") (fields_label after))
    ∙ ap (λ l. l ++ fields_label after)
    (sym (append_assoc label (word field) (codes " ")) ∙ sym pushed)

-- and at the end by the last field
pub last_of : (line rest label whole : List ℕ) → fields_label line ≡ label ++ fields_label rest
    → cut_at 32 rest ≡ None → whole ≡ label ++ word rest → whole ≡ fields_label line
last_of line rest label whole so_far none pushed =
    pushed ∙ ap (λ l. label ++ l) (sym (last_field rest none)) ∙ sym so_far
