-- What is written for parameters is read as these.
use Rattle.std.proofs.Common.{◌≡◌, ℕ, true, false, cond, eqb, ◌||◌, List, [], ◌∷◌, ◌++◌, Option, Some, None, refl, sym, ap, subst, ◌∙◌, append_assoc}
use Rattle.std.specs.Prelude.{option_and_then, IfSome, IsTrue}
use Rattle.std.specs.List.{AllByRecursion}
use Rattle.std.specs.Option.{option_map}
use Rattle.std.proofs.lemmas.List.{append-nil}
use Rattle.sip_text.specs.Character.{is_token_byte}
use Rattle.sip_text.specs.Forms.{each, by_cut, both, told}
use Rattle.sip_text.specs.Parameter.{is_parameter_value, is_value_word, name_from, value_from, with_value, without_value}
use Rattle.sip_text.specs.Quoted.{is_quoted}
use Rattle.sip_text.specs.Token.{is_token}
use Rattle.sip_text.specs.Trimmed.{trimmed, trimmed_end}
use Rattle.sip_text.specs.declared.separator.Separator.TheVariants.{Byte}
use Rattle.sip_text.specs.declared.separator.Place.TheVariants.{Plain}
use Rattle.sip_text.proofs.Ends.{trimmed_end-other}
use Rattle.sip_text.proofs.Splits.{split_some, split_none}
use Rattle.sip_grammar.specs.HeaderValue.{has_no_line_byte}
use Rattle.sip_grammar.specs.declared.parameter.Parameter.{Parameter}
use Rattle.sip_grammar.specs.WrittenParameters.{value_text, parameter_text, parameters_text}
use Rattle.sip_grammar.specs.ParameterValues.{parameter_of, one_parameter, many_parameters, all_parameters}
use Rattle.sip_grammar.specs.ParameterRules.{IsParameter}
use Rattle.sip_grammar.proofs.Blanks.{End}
use Rattle.sip_grammar.proofs.Passing.{Passes, both_pass, cut_here, none_here, Marks, semicolon_marks, token_passes, quoted_begins, quoted_ends, quoted_plain, value_passes}
use Rattle.sip_grammar.proofs.Pieces.{by_bool}
use Rattle.sip_grammar.proofs.WrittenBytes.{token_solid, value_solid, solid_line, solid_end, solid_kept}
use Rattle.sip_grammar.proofs.TextEnds.{full_cons, end_behind, plain_both, end_after, trimmed_some, token_kept}

abbrev pub body_with : List ℕ → Option (List ℕ) → List ℕ
body_with name value = name ++ value_text value

abbrev pub body : Parameter → List ℕ
body p = body_with p.name p.value

pub quoted_kept : (text : List ℕ) → is_quoted text ≡ true → End text
quoted_kept text is =
    let ends = quoted_ends text is in
    ap trimmed_end ends.1 ∙ trimmed_end-other ends.0 34 refl ∙ sym ends.1

value_end : (text : List ℕ) → is_parameter_value text ≡ true → End text
unfolding is_parameter_value
value_end text value =
    by_bool (is_quoted text) (λ r. is_quoted text ≡ r → (r || is_value_word text) ≡ true → End text)
    (λ t e f. quoted_kept text e) (λ t e f. solid_end text (value_solid text f)) refl value

pub quoted_trimmed : (text : List ℕ) → is_quoted text ≡ true → trimmed text ≡ text
quoted_trimmed text is =
    let begins = quoted_begins text is in
    ap trimmed begins.1 ∙ ap trimmed_end (sym begins.1) ∙ quoted_kept text is

value_trimmed : (text : List ℕ) → is_parameter_value text ≡ true → trimmed text ≡ text
unfolding is_parameter_value
value_trimmed text value =
    by_bool (is_quoted text) (λ r. is_quoted text ≡ r → (r || is_value_word text) ≡ true
    → trimmed text ≡ text)
    (λ t e f. quoted_trimmed text e) (λ t e f. solid_kept text (value_solid text f)) refl value

value_plain : (text : List ℕ) → is_parameter_value text ≡ true → has_no_line_byte text ≡ true
unfolding is_parameter_value
value_plain text value =
    by_bool (is_quoted text) (λ r. is_quoted text ≡ r → (r || is_value_word text) ≡ true
    → has_no_line_byte text ≡ true)
    (λ t e f. quoted_plain text e) (λ t e f. solid_line text (value_solid text f)) refl value

pub body_passes : (c : ℕ) → Marks c → (name : List ℕ) (value : Option (List ℕ))
    → is_token name ≡ true → IfSome value (λ v. IsTrue (is_parameter_value v))
    → Passes (Byte c) (body_with name value)
body_passes c marks name None token is =
    both_pass (Byte c) name [] (token_passes c marks.token name token) refl
body_passes c marks name (Some v) token is =
    both_pass (Byte c) name (61 ∷ v) (token_passes c marks.token name token)
    (both_pass (Byte c) (61 ∷ []) v
    (ap (λ r. option_and_then (λ p. Some p) (cond r None (Some Plain))) marks.equals)
    (value_passes c marks v is))

body_end : (name : List ℕ) (value : Option (List ℕ)) → is_token name ≡ true
    → IfSome value (λ v. IsTrue (is_parameter_value v)) → End (body_with name value)
body_end name None token is = end_after name [] (token_solid name token) refl
body_end name (Some v) token is =
    end_after name (61 ∷ v) (token_solid name token)
    (ap (λ (xs : List ℕ). 61 ∷ xs) (value_end v is))

body_plain : (name : List ℕ) (value : Option (List ℕ)) → is_token name ≡ true
    → IfSome value (λ v. IsTrue (is_parameter_value v))
    → has_no_line_byte (body_with name value) ≡ true
body_plain name None token is = plain_both name [] (solid_line name (token_solid name token)) refl
body_plain name (Some v) token is =
    plain_both name (61 ∷ v) (solid_line name (token_solid name token)) (value_plain v is)

no_equals : is_token_byte 61 ≡ false
unfolding is_token_byte
no_equals = refl

name_again : (name : List ℕ) → is_token name ≡ true → name_from name ≡ Some name
name_again name token = trimmed_some is_token name (token_kept name token) token

pub one_again : (name : List ℕ) (value : Option (List ℕ)) → is_token name ≡ true
    → IfSome value (λ v. IsTrue (is_parameter_value v))
    → one_parameter (body_with name value) ≡ Some (record { name = name; value = value })
one_again name None token is =
    ap one_parameter (append-nil name)
    ∙ ap (λ o. option_map parameter_of
    (by_cut o (told with_value (both name_from value_from))
    (told without_value name_from name)))
    (none_here (Byte 61) name (token_passes 61 no_equals name token))
    ∙ ap (λ o. option_map parameter_of (option_map without_value o)) (name_again name token)
one_again name (Some v) token is =
    ap (λ o. option_map parameter_of
    (by_cut o (told with_value (both name_from value_from))
    (told without_value name_from (name ++ (61 ∷ v)))))
    (cut_here (Byte 61) name 61 v (token_passes 61 no_equals name token) refl)
    ∙ ap (λ o. option_map parameter_of
    (option_map with_value (option_and_then
    (λ x. option_and_then (λ y. Some (x, y)) (value_from v)) o))) (name_again name token)
    ∙ ap (λ o. option_map parameter_of
    (option_map with_value (option_and_then (λ y. Some (name, y)) o)))
    (trimmed_some is_parameter_value v (value_trimmed v is) is)

many_again : (p : Parameter) (ps : List Parameter) → IsParameter p → AllByRecursion IsParameter ps
    → many_parameters (body p ++ parameters_text ps) ≡ Some (p ∷ ps)
unfolding parameter_text
many_again p [] is all =
    ap many_parameters (append-nil (body p))
    ∙ ap (each one_parameter) (split_none (Byte 59) Plain (body p)
    (none_here (Byte 59) (body p) (body_passes 59 semicolon_marks p.name p.value is.name
    is.value)))
    ∙ ap (λ o. option_and_then (λ x. Some (x ∷ [])) o) (one_again p.name p.value is.name is.value)
many_again p (q ∷ qs) is all =
    ap (each one_parameter) (split_some (Byte 59) Plain
    (body p ++ (59 ∷ (body q ++ parameters_text qs))) (body p) (body q ++ parameters_text qs)
    (cut_here (Byte 59) (body p) 59 (body q ++ parameters_text qs)
    (body_passes 59 semicolon_marks p.name p.value is.name is.value) refl))
    ∙ ap (λ o. option_and_then (λ x.
    option_and_then (λ xs. Some (x ∷ xs)) (many_parameters (body q ++ parameters_text qs))) o)
    (one_again p.name p.value is.name is.value)
    ∙ ap (λ o. option_and_then (λ xs. Some (p ∷ xs)) o) (many_again q qs all.0 all.1)

pub all_again : (ps : List Parameter) → AllByRecursion IsParameter ps
    → all_parameters (parameters_text ps) ≡ Some ps
unfolding parameter_text
all_again [] all = refl
all_again (p ∷ ps) all = many_again p ps all.0 all.1

pub parameters_pass : (c : ℕ) → Marks c → eqb 59 c ≡ false → (ps : List Parameter)
    → AllByRecursion IsParameter ps → Passes (Byte c) (parameters_text ps)
unfolding parameter_text
parameters_pass c marks other [] all = refl
parameters_pass c marks other (p ∷ ps) all =
    both_pass (Byte c) (59 ∷ []) (body p ++ parameters_text ps)
    (ap (λ r. option_and_then (λ x. Some x) (cond r None (Some Plain))) other)
    (both_pass (Byte c) (body p) (parameters_text ps)
    (body_passes c marks p.name p.value all.0.name all.0.value)
    (parameters_pass c marks other ps all.1))

pub parameters_plain : (ps : List Parameter) → AllByRecursion IsParameter ps
    → has_no_line_byte (parameters_text ps) ≡ true
unfolding parameter_text
parameters_plain [] all = refl
parameters_plain (p ∷ ps) all =
    plain_both (body p) (parameters_text ps) (body_plain p.name p.value all.0.name all.0.value)
    (parameters_plain ps all.1)

pub parameters_end : (front : List ℕ) (ps : List Parameter) → AllByRecursion IsParameter ps
    → End front
    → End (front ++ parameters_text ps)
unfolding parameter_text
parameters_end front [] all e = ap trimmed_end (append-nil front) ∙ e ∙ sym (append-nil front)
parameters_end front (p ∷ ps) all e =
    let more = parameters_end (front ++ (59 ∷ body p)) ps all.1
    (end_behind front (59 ∷ body p) (full_cons 59 (body p))
    (ap (λ (xs : List ℕ). 59 ∷ xs) (body_end p.name p.value all.0.name all.0.value))) in
    subst (λ (xs : List ℕ). End xs) (append_assoc front (59 ∷ body p) (parameters_text ps)) more
