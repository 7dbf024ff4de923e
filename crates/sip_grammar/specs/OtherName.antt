-- The name of a header that is kept as it is (RFC 3261, sections 7.3.1 and 7.3.3).
use Rattle.std.specs.Prelude.{ℕ, Bool, not, ◌&&◌, ◌||◌, List, codes, is_some}
use Rattle.std.specs.Str.{str_eq_ignore_ascii_case}
use Rattle.sip_text.specs.Token.{is_token}
use Rattle.sip_grammar.specs.HeaderEntry.{header_named}

-- the compact names of Content-Type, Subject and Content-Encoding, which are kept under their long
-- names
unfoldable pub is_compact_name : List ℕ → Bool
is_compact_name name =
    str_eq_ignore_ascii_case name (codes "c")
    || (str_eq_ignore_ascii_case name (codes "s") || str_eq_ignore_ascii_case name (codes "e"))

-- a token, and no name of a header that is parsed into a field of its own
unfoldable pub is_other_name : List ℕ → Bool
is_other_name name = is_token name && not (is_some (header_named name) || is_compact_name name)
