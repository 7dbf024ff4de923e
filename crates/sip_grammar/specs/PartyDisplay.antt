-- The display text of a From or a To (RFC 3261, section 20.10).
use Rattle.std.specs.Prelude.{ℕ, Bool, not, List, codes}
use Rattle.sip_text.specs.Character.{is_among}
use Rattle.sip_grammar.specs.DisplayText.{is_display}

-- a byte of such a display text without quotes
unfoldable pub is_party_display_byte : ℕ → Bool
is_party_display_byte b = not (is_among (codes "\r\n<>\"") b)

-- a quoted string, or such bytes without blanks at their ends
unfoldable pub is_party_display : List ℕ → Bool
is_party_display text = is_display is_party_display_byte text
