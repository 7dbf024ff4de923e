-- The reason phrase of a status line (RFC 3261, section 7.2).
use Rattle.std.specs.Prelude.{ℕ, Bool, List}
use Rattle.sip_grammar.specs.HeaderValue.{has_no_line_byte}

-- one line, which may be empty
abbrev pub is_reason : List ℕ → Bool
is_reason text = has_no_line_byte text
