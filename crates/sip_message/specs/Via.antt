-- Via values (RFC 3261, sections 8.1.1.7 and 20.42).
use Rattle.std.specs.Prelude.{ℕ, Bool, false, List, [], ◌∷◌, codes, take}
use Rattle.std.specs.Str.{str_eq_ignore_ascii_case}
use Rattle.sip_grammar.specs.declared.parameter.Parameter.{Parameter}
use Rattle.sip_message.specs.declared.via.Via.{Via}
use Rattle.sip_grammar.specs.Parameters.{value_named}

-- the branch, empty if there is none
abbrev pub branch_of : Via → List ℕ
branch_of via = value_named (codes "branch") via.parameters

-- the branch begins with `z9hG4bK`, in any case of the letters
unfoldable pub has_cookie : List ℕ → Bool
has_cookie branch = str_eq_ignore_ascii_case (take 7 branch) (codes "z9hG4bK")

-- there is at least one value, and the branch of the first has the cookie
unfoldable pub are_vias : List Via → Bool
are_vias [] = false
are_vias (via ∷ vias) = has_cookie (branch_of via)

-- the same values, the top one with other parameters
abbrev pub with_top_parameters : List Via → List Parameter → List Via
with_top_parameters [] parameters = []
with_top_parameters (via ∷ vias) parameters = record via { parameters = parameters } ∷ vias

-- the branch of the top value
abbrev pub first_branch : List Via → List ℕ
first_branch [] = []
first_branch (via ∷ vias) = branch_of via
