-- An IPv4 address as text (RFC 3261, section 25.1).
use Rattle.std.specs.Prelude.{◌≡◌, ℕ, Bool, List, [], ◌∷◌, ◌++◌, Option, Some, IsTrue, codes, decimal, length, nat_lt, slice_index}
use Rattle.std.specs.List.{list_all}
use Rattle.sip_text.specs.Cut.{field_at}
use Rattle.sip_text.specs.Number.{number_at}
use Rattle.sip_text.specs.Options.{◌>>=◌}

-- four decimal numbers with dots between them
abbrev pub ip_text : List ℕ → List ℕ
ip_text ip =
    decimal (slice_index ip 0) ++ codes "." ++ decimal (slice_index ip 1) ++ codes "."
    ++ decimal (slice_index ip 2) ++ codes "." ++ decimal (slice_index ip 3)

-- numbers below 256
abbrev pub are_octets : List ℕ → Bool
are_octets numbers = list_all (λ n. nat_lt n 256) numbers

-- four of them
abbrev pub IsIp : List ℕ → Type 0
IsIp ip = (length ip ≡ 4) × IsTrue (are_octets ip)

-- a number up to 255 before a dot, and what follows that
abbrev pub octet_at : List ℕ → Option (ℕ × List ℕ)
octet_at text = field_at 46 (number_at 255) text

-- the four numbers of a text, read from left to right
unfoldable pub ip_at : List ℕ → Option (List ℕ)
ip_at text = do
  a ← octet_at text
  b ← octet_at a.1
  c ← octet_at b.1
  d ← number_at 255 c.1
  Some (a.0 ∷ b.0 ∷ c.0 ∷ d ∷ [])
