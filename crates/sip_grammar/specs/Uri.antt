-- A URI as a header field has it (RFC 3261, sections 19.1 and 20.10).
use Rattle.std.specs.Prelude.{ℕ, Bool, not, List, codes}
use Rattle.sip_text.specs.Character.{is_among}
use Rattle.sip_text.specs.Token.{is_run}

-- a byte of a URI: no white space, angle bracket or quote
unfoldable pub is_uri_byte : ℕ → Bool
is_uri_byte b = not (is_among (codes " \t\r\n<>\"") b)

-- a run of such bytes that isn't empty
unfoldable pub is_uri : List ℕ → Bool
is_uri text = is_run is_uri_byte text
