-- The To tag of a response.
use Rattle.std.proofs.Common.{◌≡◌, ℕ, Bool, true, false, ◌==◌, List, [], ◌∷◌, ◌++◌, refl, sym, ap, ◌∙◌, arith}
use Rattle.std.specs.Prelude.{IsTrue, Option, None, Some, codes, find, is_some, length, not, unwrap_or, if◌then◌else◌}
use Rattle.std.specs.Str.{str_eq_ignore_ascii_case}
use Rattle.std.proofs.lemmas.Bool.{false≢true}
use Rattle.std.proofs.lemmas.Bool.Decides.{nat_tests}
use Rattle.sip_text.specs.Token.{is_token}
use Rattle.sip_grammar.specs.Parameters.{parameter_named, value_named, value_or_nothing}
use Rattle.sip_grammar.specs.Tag.{has_good_tag, is_good_tag, is_token_value}
use Rattle.sip_grammar.specs.declared.parameter.Parameter.{Parameter}
use Rattle.sip_message.specs.Party.{tag_of}
use Rattle.sip_message.specs.Response.{answering_to, is_tagged, tag_parameter, tagged}
use Rattle.sip_message.specs.declared.message.Message.{Message}
use Rattle.sip_message.specs.declared.party.Party.{Party}
use Rattle.sip_held_dialogs.specs.Requests.{has_to_tag}
use Rattle.sip_conversation.proofs.Branches.{either}

-- what is looked for after others that don't pass
find_last : (p : Parameter → Bool) (parameters : List Parameter) (last : Parameter)
    → find p parameters ≡ None → p last ≡ true → find p (parameters ++ last ∷ []) ≡ Some last
find_last p [] last none passes = ap (λ b. if b then Some last else None) passes
find_last p (first ∷ parameters) last none passes =
    by_first (p first) none (λ later. find_last p parameters last later passes)
  where
    by_first : (b : Bool) → (if b then Some first else find p parameters) ≡ None
        → (find p parameters ≡ None → find p (parameters ++ last ∷ []) ≡ Some last)
        → (if b then Some first else find p (parameters ++ last ∷ [])) ≡ Some last
    by_first true none rest = absurd cc
    by_first false none rest = rest none

no_empty_token : (value : List ℕ) → IsTrue (is_token value) → (length value == 0) ≡ false
unfolding is_token
no_empty_token [] token = absurd (false≢true token)
no_empty_token (byte ∷ bytes) token = grind (arith, nat_tests)

-- it is that of its request, or else the made one
pub to_tag : (party : Party) (made : List ℕ) → IsTrue (has_good_tag party.parameters)
    → tag_of (tagged party made)
    ≡ (if length (tag_of party) == 0 then made else tag_of party)
unfolding tagged is_tagged value_named has_good_tag
to_tag party made good =
    by_parameter (parameter_named (codes "tag") party.parameters) refl good
  where
    tag_is : Parameter → Bool
    tag_is p = str_eq_ignore_ascii_case p.name (codes "tag")

    by_value : (o : Option (List ℕ)) → IsTrue (is_token_value o)
        → unwrap_or o [] ≡ (if length (unwrap_or o []) == 0 then made else unwrap_or o [])
    by_value None good = absurd (false≢true good)
    by_value (Some value) good =
        sym (ap (λ b. if b then made else value) (no_empty_token value good))

    by_parameter : (o : Option Parameter)
        → parameter_named (codes "tag") party.parameters ≡ o → IsTrue (is_good_tag o)
        → tag_of (if is_some o then party
        else record party { parameters = party.parameters ++ tag_parameter made ∷ [] })
        ≡ (if length (value_or_nothing o) == 0 then made else value_or_nothing o)
    by_parameter None is good =
        ap value_or_nothing (find_last tag_is party.parameters (tag_parameter made) is refl)
    by_parameter (Some p) is good = ap value_or_nothing is ∙ by_value p.value good

-- a party with a tag stays as it is
tagged_same : (party : Party) (made : List ℕ) → not (length (tag_of party) == 0) ≡ true
    → tagged party made ≡ party
unfolding tagged is_tagged value_named
tagged_same party made has =
    by_parameter (parameter_named (codes "tag") party.parameters) has
  where
    by_parameter : (o : Option Parameter) → not (length (value_or_nothing o) == 0) ≡ true
        → (if is_some o then party
        else record party { parameters = party.parameters ++ tag_parameter made ∷ [] }) ≡ party
    by_parameter None has = absurd (false≢true has)
    by_parameter (Some p) has = refl

pub answered_to : (request : Message) (status : ℕ) (tag : List ℕ) → has_to_tag request ≡ true
    → answering_to request.to status tag ≡ request.to
answered_to request status tag has =
    either (λ to. to ≡ request.to) (status == 100) request.to (tagged request.to tag)
    (λ trying. refl) (λ other. tagged_same request.to tag has)
