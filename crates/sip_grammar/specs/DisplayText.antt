-- The display text of an address in a list, where a comma ends the address (RFC 3261, section
-- 20.10).
use Rattle.std.specs.Prelude.{ℕ, Bool, not, ◌&&◌, ◌||◌, List, codes}
use Rattle.std.specs.List.{list_all}
use Rattle.sip_text.specs.Character.{is_among}
use Rattle.sip_text.specs.Quoted.{is_quoted}
use Rattle.sip_grammar.specs.HeaderValue.{has_no_blank_ends}

-- a byte of a display text without quotes
unfoldable pub is_display_text_byte : ℕ → Bool
is_display_text_byte b = not (is_among (codes "\r\n<>\",") b)

-- a quoted string, or bytes of one class without blanks at the ends
abbrev pub is_display : (ℕ → Bool) → List ℕ → Bool
is_display is_byte text = is_quoted text || (has_no_blank_ends text && list_all is_byte text)

-- a display text of these bytes
unfoldable pub is_display_text : List ℕ → Bool
is_display_text text = is_display is_display_text_byte text
