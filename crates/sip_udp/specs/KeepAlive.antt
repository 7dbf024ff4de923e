-- Datagrams that only keep a NAT binding alive.
use Rattle.std.specs.Prelude.{ℕ, Bool, ◌&&◌, ◌||◌, ◌==◌, List, [], ◌∷◌, length, nat_le, nat_lt, drop, take, slice_index}
use Rattle.std.specs.List.{list_all}
use Rattle.std.specs.Str.{bytes_eq}

-- CR, LF or NUL
abbrev pub is_blank_byte : ℕ → Bool
is_blank_byte byte = byte == 13 || (byte == 10 || byte == 0)

-- the magic cookie 0x2112A442 (RFC 5389, section 6)
abbrev pub magic_cookie : List ℕ
magic_cookie = 33 ∷ 18 ∷ 164 ∷ 66 ∷ []

-- a STUN message: its first byte is 0 or 1, and the magic cookie stands behind four bytes
abbrev pub is_stun : List ℕ → Bool
is_stun bytes =
    nat_le 8 (length bytes) && (nat_lt (slice_index bytes 0) 2
    && bytes_eq (take 4 (drop 4 bytes)) magic_cookie)

-- only CR, LF and NUL bytes (RFC 5626, section 3.5.1), or STUN
abbrev pub is_keep_alive : List ℕ → Bool
is_keep_alive bytes = list_all is_blank_byte bytes || is_stun bytes
