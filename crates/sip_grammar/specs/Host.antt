-- The host of a Via (RFC 3261, section 20.42): a name, an IPv4 address, or a text in brackets.
use Rattle.std.specs.Prelude.{ℕ, Bool, false, not, ◌==◌, List, [], ◌∷◌, codes, if◌then◌else◌, Option, Some, None}
use Rattle.std.specs.List.{list_all}
use Rattle.sip_text.specs.Character.{is_among}
use Rattle.sip_text.specs.Cut.{cut_at}

-- a byte of a host that is a name or an IPv4 address
unfoldable pub is_host_byte : ℕ → Bool
is_host_byte b = not (is_among (codes " \t\r\n:;,[\"<>") b)

-- a byte between brackets
unfoldable pub is_bracket_byte : ℕ → Bool
is_bracket_byte b = not (is_among (codes " \t\r\n,;]\"<>") b)

-- whether a text that was cut at its first `]` ends there, with bytes for brackets before it
abbrev pub is_closed : Option (List ℕ × List ℕ) → Bool
is_closed None = false
is_closed (Some (inside, [])) = list_all is_bracket_byte inside
is_closed (Some (inside, b ∷ bs)) = false

-- bytes between brackets, and then the closing bracket, which is the last byte
abbrev pub ends_in_bracket : List ℕ → Bool
ends_in_bracket text = is_closed (cut_at 93 text)

-- a text in brackets, or a run of such bytes that isn't empty
unfoldable pub is_host : List ℕ → Bool
is_host [] = false
is_host (b ∷ bs) = if b == 91 then ends_in_bracket bs else list_all is_host_byte (b ∷ bs)
