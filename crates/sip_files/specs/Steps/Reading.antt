-- Reading the fields of a line from left to right, with a function for each. What a field means is
-- defined by the spellings.
use Rattle.std.specs.Prelude.{ℕ, zero, suc, Bool, ◌&&◌, ◌||◌, ◌==◌, ◌+◌, ◌-◌, ◌*◌, nat_le, List, [], ◌∷◌, length, Option, Some, None, is_some, codes, if◌then◌else◌}
use Rattle.std.specs.Option.{option_map}
use Rattle.std.specs.Borrow.{Bor}
use Rattle.std.specs.Str.{bytes_eq}
use Rattle.sip_text.specs.Cut.{field_at}
use Rattle.sip_text.specs.Number.{number_at}
use Rattle.sip_text.specs.Options.{◌>>=◌}
use Rattle.sip_message.specs.declared.addr.Addr.{Addr}
use Rattle.sip_message.specs.declared.id.Id.{Id}
use Rattle.sip_message.specs.Ip.{ip_at}
use Rattle.sip_files.specs.Word.{is_plain, is_plain_or_space, letter_of}

-- what a reader gave, without its reference
abbrev pub read_now : {A : Type 0} → Option (A × Bor (List ℕ)) → Option (A × List ℕ)
read_now read = option_map (λ p. (p.0, p.1.now)) read

-- ---- words and rests

-- the byte that the letter of an escape stands for
abbrev pub byte_of_letter : ℕ → Option ℕ
byte_of_letter letter =
    if letter == 115 then Some 32
    else if letter == 114 then Some 13
    else if letter == 110 then Some 10
    else if letter == 116 then Some 9
    else if letter == 92 then Some 92
    else None

abbrev pub hex_value : ℕ → Option ℕ
hex_value digit =
    if nat_le 48 digit && nat_le digit 57 then Some (digit - 48)
    else if nat_le 97 digit && nat_le digit 102 then Some (digit - 87)
    else None

unfoldable pub hex_byte : ℕ → ℕ → Option ℕ
hex_byte high low = hex_value high >>= λ h. hex_value low >>= λ l. Some (h * 16 + l)

-- two digits, if their byte has no shorter spelling
unfoldable pub hex_at : (ℕ → Bool) → List ℕ → Option (ℕ × List ℕ)
hex_at is_itself [] = None
hex_at is_itself (high ∷ []) = None
hex_at is_itself (high ∷ low ∷ rest) =
    hex_byte high low >>= λ b. if is_itself b || is_some (letter_of b) then None else Some (b, rest)

-- a letter, if its byte doesn't stand for itself
unfoldable pub letter_at : (ℕ → Bool) → ℕ → List ℕ → Option (ℕ × List ℕ)
letter_at is_itself letter rest =
    byte_of_letter letter >>= λ b. if is_itself b then None else Some (b, rest)

-- what follows a backslash
unfoldable pub escape_at : (ℕ → Bool) → List ℕ → Option (ℕ × List ℕ)
escape_at is_itself [] = None
escape_at is_itself (letter ∷ rest) =
    if letter == 120 then hex_at is_itself rest else letter_at is_itself letter rest

-- the first byte that is spelled, and what follows it
unfoldable pub byte_at : (ℕ → Bool) → List ℕ → Option (ℕ × List ℕ)
byte_at is_itself [] = None
byte_at is_itself (b ∷ rest) =
    if b == 92 then escape_at is_itself rest
    else if is_itself b then Some (b, rest) else None

-- all bytes, if there are at most this number
abbrev pub bytes_from : (ℕ → Bool) → ℕ → List ℕ → Option (List ℕ)
bytes_from is_itself zero [] = Some []
bytes_from is_itself zero (b ∷ bs) = None
bytes_from is_itself (suc n) [] = Some []
bytes_from is_itself (suc n) (b ∷ bs) =
    byte_at is_itself (b ∷ bs) >>= λ p. bytes_from is_itself n p.1 >>= λ more. Some (p.0 ∷ more)

unfoldable pub bytes_at : (ℕ → Bool) → List ℕ → Option (List ℕ)
bytes_at is_itself text = bytes_from is_itself (length text) text

unfoldable pub word_at : List ℕ → Option (List ℕ)
word_at field =
    if length field == 0 then None
    else if bytes_eq field (codes "-") then Some []
    else if bytes_eq field (codes "\\x2d") then Some (codes "-")
    else bytes_at is_plain field

unfoldable pub rest_at : List ℕ → Option (List ℕ)
rest_at field = bytes_at is_plain_or_space field

-- ---- ids and addresses

-- two parts at the front, one after the other
abbrev pub both_at : {A B : Type 0} → (List ℕ → Option (A × List ℕ))
    → (List ℕ → Option (B × List ℕ)) → List ℕ → Option ((A × B) × List ℕ)
both_at first second text = first text >>= λ a. second a.1 >>= λ b. Some ((a.0, b.0), b.1)

-- a part at the front, and all that follows it
abbrev pub ended_by : {A B : Type 0} → (List ℕ → Option (A × List ℕ)) → (List ℕ → Option B) → List ℕ
    → Option (A × B)
ended_by front last text = front text >>= λ a. last a.1 >>= λ b. Some (a.0, b)

unfoldable pub id_at : List ℕ → Option Id
id_at field = do
  round ← field_at 46 (number_at 18446744073709551615) field
  place ← number_at 4294967295 round.1
  Some (record { round = round.0; place = place })

unfoldable pub address_at : List ℕ → Option Addr
address_at field = do
  ip ← field_at 58 ip_at field
  port ← number_at 65535 ip.1
  Some (record { ip = ip.0; port = port })

-- ---- the seed

-- the byte of two digits, and what follows them
unfoldable pub pair_at : List ℕ → Option (ℕ × List ℕ)
pair_at [] = None
pair_at (high ∷ []) = None
pair_at (high ∷ low ∷ rest) = hex_byte high low >>= λ b. Some (b, rest)

-- so many bytes, and no more
unfoldable pub pairs_at : ℕ → List ℕ → Option (List ℕ)
pairs_at zero [] = Some []
pairs_at zero (b ∷ bs) = None
pairs_at (suc n) text = pair_at text >>= λ p. pairs_at n p.1 >>= λ more. Some (p.0 ∷ more)

unfoldable pub seed_at : List ℕ → Option (List ℕ)
seed_at field = pairs_at 32 field
