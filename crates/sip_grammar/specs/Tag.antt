-- The tag of a From or a To (RFC 3261, section 19.3): its parameter `tag`, a token.
use Rattle.std.specs.Prelude.{ℕ, Bool, true, false, List, Option, Some, None, codes}
use Rattle.sip_text.specs.Token.{is_token}
use Rattle.sip_grammar.specs.declared.parameter.Parameter.{Parameter}
use Rattle.sip_grammar.specs.Parameters.{parameter_named, value_named}

-- the tag, empty if there is none
abbrev pub tag_in : List Parameter → List ℕ
tag_in parameters = value_named (codes "tag") parameters

-- a value that is there and is a token
abbrev pub is_token_value : Option (List ℕ) → Bool
is_token_value None = false
is_token_value (Some value) = is_token value

-- no parameter, or one whose value is a token
abbrev pub is_good_tag : Option Parameter → Bool
is_good_tag None = true
is_good_tag (Some p) = is_token_value p.value

-- the first parameter `tag`, if there is one, has a token as its value
unfoldable pub has_good_tag : List Parameter → Bool
has_good_tag parameters = is_good_tag (parameter_named (codes "tag") parameters)
