-- The value of a header that is kept as it is (RFC 3261, section 7.3.1).
use Rattle.std.specs.Prelude.{ℕ, Bool, not, ◌&&◌, List}
use Rattle.std.specs.List.{list_all}
use Rattle.std.specs.Str.{bytes_eq}
use Rattle.sip_text.specs.Character.{is_line_byte}
use Rattle.sip_text.specs.Trimmed.{trimmed}

-- a text without blanks at its ends
abbrev pub has_no_blank_ends : List ℕ → Bool
has_no_blank_ends text = bytes_eq (trimmed text) text

-- a text without CR and LF
abbrev pub has_no_line_byte : List ℕ → Bool
has_no_line_byte text = list_all (λ b. not (is_line_byte b)) text

-- one line, without blanks at its ends
unfoldable pub is_header_value : List ℕ → Bool
is_header_value text = has_no_blank_ends text && has_no_line_byte text
