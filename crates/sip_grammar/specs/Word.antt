-- A word: a Request-URI or a Call-ID (RFC 3261, sections 7.1 and 20.8).
use Rattle.std.specs.Prelude.{ℕ, Bool, not, List, codes}
use Rattle.sip_text.specs.Character.{is_among}
use Rattle.sip_text.specs.Token.{is_run}

-- a byte of a word: no space, tab, CR or LF
unfoldable pub is_word_byte : ℕ → Bool
is_word_byte b = not (is_among (codes " \t\r\n") b)

-- a run of such bytes that isn't empty
unfoldable pub is_word : List ℕ → Bool
is_word text = is_run is_word_byte text
