-- A tag is added at the end of parameters that have none.
use Rattle.std.proofs.Common.{◌≡◌, ℕ, Bool, true, false, cond, List, [], ◌∷◌, ◌++◌, Some, None, refl, ap, ◌∙◌, IsTrue, codes}
use Rattle.std.specs.Prelude.{find}
use Rattle.std.specs.Str.{str_eq_ignore_ascii_case}
use Rattle.sip_text.specs.Token.{is_token}
use Rattle.sip_grammar.specs.declared.parameter.Parameter.{Parameter}
use Rattle.sip_grammar.specs.Parameters.{parameter_named}
use Rattle.sip_grammar.specs.Tag.{has_good_tag, is_good_tag}
use Rattle.sip_message.specs.Response.{tag_parameter}

step : {X : Type 0} (p : X → Bool) (x : X) (xs : List X) (y : X) (b : Bool)
    → cond b (Some x) (find p xs) ≡ None
    → (find p xs ≡ None → find p (xs ++ y ∷ []) ≡ cond (p y) (Some y) None)
    → cond b (Some x) (find p (xs ++ y ∷ [])) ≡ cond (p y) (Some y) None
step p x xs y true none rest = absurd cc
step p x xs y false none rest = rest none

-- if no earlier element passes, only the last one may be found
pub find-push : {X : Type 0} (p : X → Bool) (xs : List X) (y : X) → find p xs ≡ None
    → find p (xs ++ y ∷ []) ≡ cond (p y) (Some y) None
find-push p [] y none = refl
find-push p (x ∷ xs) y none = step p x xs y (p x) none (find-push p xs y)

pub good_tag_added : (parameters : List Parameter) (tag : List ℕ)
    → parameter_named (codes "tag") parameters ≡ None → IsTrue (is_token tag)
    → IsTrue (has_good_tag (parameters ++ tag_parameter tag ∷ []))
unfolding has_good_tag
good_tag_added parameters tag none token =
    ap is_good_tag (find-push (λ p. str_eq_ignore_ascii_case p.name (codes "tag")) parameters
    (tag_parameter tag) none) ∙ token
