-- Parameters without white space and quotes.
use Rattle.std.proofs.Common.{◌≡◌, ℕ, true, List, ◌∷◌, ◌++◌, Option, Some, None, refl, sym, ap, ◌∙◌, append_assoc}
use Rattle.std.proofs.lemmas.List.{append-nil}
use Rattle.sip_text.specs.Parameter.{is_parameter_value, is_value_word, name_from, parameter_from, value_from}
use Rattle.sip_text.specs.Quoted.{is_quoted}
use Rattle.sip_text.specs.Token.{is_token}
use Rattle.sip_text.specs.declared.separator.Separator.TheVariants.{Byte}
use Rattle.std.proofs.lemmas.Bool.{or_right}
use Rattle.sip_grammar.specs.Steps.First.{behind, first}
use Rattle.sip_grammar.proofs.Characters.{no_equals}
use Rattle.sip_grammar.proofs.Firsts.{first_ends, first_goes_on, follows}
use Rattle.sip_grammar.proofs.Passing.{Passes, both_pass, cut_here, none_here, semicolon_marks, token_passes, value_passes}
use Rattle.sip_grammar.proofs.WrittenBytes.{solid_kept, token_solid, value_solid}

pub word_is_value : (text : List ℕ) → is_value_word text ≡ true → is_parameter_value text ≡ true
unfolding is_parameter_value
word_is_value text word = or_right (is_quoted text) (is_value_word text) word

name_read : (name : List ℕ) → is_token name ≡ true → name_from name ≡ Some name
name_read name token = rw (solid_kept name (token_solid name token), token) refl

value_read : (value : List ℕ) → is_value_word value ≡ true → value_from value ≡ Some value
value_read value word =
    rw (solid_kept value (value_solid value word), word_is_value value word) refl

alone : (name : List ℕ) → is_token name ≡ true → parameter_from name ≡ Some (name, None)
alone name token =
    rw (none_here (Byte 61) name (token_passes 61 no_equals name token), name_read name token) refl

valued : (name value : List ℕ) → is_token name ≡ true → is_value_word value ≡ true
    → parameter_from (name ++ (61 ∷ value)) ≡ Some (name, Some value)
valued name value token word =
    rw (
      cut_here (Byte 61) name 61 value (token_passes 61 no_equals name token) refl,
      name_read name token,
      value_read value word,
    ) refl

name_passes : (name : List ℕ) → is_token name ≡ true → Passes (Byte 59) name
name_passes name token = token_passes 59 semicolon_marks.token name token

both_passes : (name value : List ℕ) → is_token name ≡ true → is_value_word value ≡ true
    → Passes (Byte 59) (name ++ (61 ∷ value))
both_passes name value token word =
    both_pass (Byte 59) name (61 ∷ value) (name_passes name token)
    (value_passes 59 semicolon_marks value (word_is_value value word))

-- ---- the first parameter of a text

pub name_ends : (name : List ℕ) → is_token name ≡ true
    → first (Byte 59) parameter_from name ≡ Some ((name, None), None)
name_ends name token =
    first_ends (Byte 59) parameter_from name (name, None) (name_passes name token)
    (alone name token)

pub name_goes_on : (name after : List ℕ) → is_token name ≡ true
    → first (Byte 59) parameter_from (name ++ (59 ∷ after)) ≡ Some ((name, None), Some after)
name_goes_on name after token =
    first_goes_on (Byte 59) parameter_from name 59 after (name, None) (name_passes name token) refl
    (alone name token)

pub value_ends : (name value : List ℕ) → is_token name ≡ true → is_value_word value ≡ true
    → first (Byte 59) parameter_from (name ++ (61 ∷ value)) ≡ Some ((name, Some value), None)
value_ends name value token word =
    first_ends (Byte 59) parameter_from (name ++ (61 ∷ value)) (name, Some value)
    (both_passes name value token word) (valued name value token word)

pub value_goes_on : (name value after : List ℕ) → is_token name ≡ true → is_value_word value ≡ true
    → first (Byte 59) parameter_from (name ++ (61 ∷ (value ++ (59 ∷ after))))
    ≡ Some ((name, Some value), Some after)
value_goes_on name value after token word =
    ap (first (Byte 59) parameter_from) (sym (append_assoc name (61 ∷ value) (59 ∷ after)))
    ∙ first_goes_on (Byte 59) parameter_from (name ++ (61 ∷ value)) 59 after (name, Some value)
    (both_passes name value token word) refl (valued name value token word)

-- ---- by what follows it

pub name_first : (text name rest : List ℕ) (next : Option (List ℕ)) → text ≡ name ++ rest
    → is_token name ≡ true → behind 59 rest ≡ Some next
    → first (Byte 59) parameter_from text ≡ Some ((name, None), next)
name_first text name rest next whole token e =
    ap (first (Byte 59) parameter_from) whole
    ∙ follows (λ (r : List ℕ) (n : Option (List ℕ)).
    first (Byte 59) parameter_from (name ++ r) ≡ Some ((name, None), n)) rest next e
    (ap (first (Byte 59) parameter_from) (append-nil name) ∙ name_ends name token)
    (λ after. name_goes_on name after token)

pub value_first : (text name value rest : List ℕ) (next : Option (List ℕ)) → text ≡ value ++ rest
    → is_token name ≡ true → is_value_word value ≡ true → behind 59 rest ≡ Some next
    → first (Byte 59) parameter_from (name ++ (61 ∷ text)) ≡ Some ((name, Some value), next)
value_first text name value rest next whole token word e =
    ap (λ (t : List ℕ). first (Byte 59) parameter_from (name ++ (61 ∷ t))) whole
    ∙ follows (λ (r : List ℕ) (n : Option (List ℕ)).
    first (Byte 59) parameter_from (name ++ (61 ∷ (value ++ r))) ≡ Some ((name, Some value), n))
    rest next e
    (ap (λ (t : List ℕ). first (Byte 59) parameter_from (name ++ (61 ∷ t))) (append-nil value)
    ∙ value_ends name value token word)
    (λ after. value_goes_on name value after token word)
