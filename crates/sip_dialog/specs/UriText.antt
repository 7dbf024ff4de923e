-- The parts of a URI that routing looks at (RFC 3261, section 19.1.1):
-- `scheme:userinfo@host:port;parameters?headers`.
use Rattle.std.specs.Prelude.{ℕ, Bool, false, ◌==◌, List, [], Option, Some, codes, if◌then◌else◌}
use Rattle.std.specs.List.{list_any, after_last, slice_split}
use Rattle.std.specs.Option.{option_map, option_map_or}
use Rattle.std.specs.Str.{str_eq_ignore_ascii_case}
use Rattle.sip_text.specs.Cut.{cut_at}

-- `:`
abbrev pub colon : ℕ
colon = 58

-- `;`
abbrev pub semicolon : ℕ
semicolon = 59

-- `=`
abbrev pub equals_sign : ℕ
equals_sign = 61

-- `?`
abbrev pub question_mark : ℕ
question_mark = 63

-- `@`
abbrev pub is_at_sign : ℕ → Bool
is_at_sign b = b == 64

-- `;`, as a test
abbrev pub is_semicolon : ℕ → Bool
is_semicolon b = b == semicolon

-- the text before the first such byte, or all of it if there is none
abbrev pub before : ℕ → List ℕ → List ℕ
before byte text = option_map_or (λ p. p.0) (cut_at byte text) text

-- what follows the scheme
abbrev pub after_scheme : List ℕ → Option (List ℕ)
after_scheme uri = option_map (λ p. p.1) (cut_at colon uri)

-- What begins with the host. It follows the last `@` of the URI, or the `:` of the scheme if there
-- is no `@`. A URI with neither has no host.
unfoldable pub after_userinfo : List ℕ → Option (List ℕ)
after_userinfo uri =
    if list_any is_at_sign uri then Some (after_last is_at_sign uri)
    else after_scheme uri

-- the host, port and parameters, if the URI has a host; a `?` ends them
unfoldable pub host_part : List ℕ → Option (List ℕ)
host_part uri = option_map (before question_mark) (after_userinfo uri)

-- the parameters: the first follows the first `;` behind the host, and a `;` separates them
abbrev pub uri_parameters : List ℕ → List (List ℕ)
uri_parameters part = option_map_or (λ p. slice_split is_semicolon p.1) (cut_at semicolon part) []

-- whether it is the parameter `lr`, in any case of the letters, with or without a value
unfoldable pub is_lr : List ℕ → Bool
is_lr parameter = str_eq_ignore_ascii_case (before equals_sign parameter) (codes "lr")

-- whether a URI has the parameter `lr` (RFC 3261, section 19.1.1)
abbrev pub has_lr : List ℕ → Bool
has_lr part = list_any is_lr (uri_parameters part)

-- whether it is the URI of a loose router: it has a host, and the parameter `lr`
unfoldable pub is_loose : List ℕ → Bool
is_loose uri = option_map_or has_lr (host_part uri) false
