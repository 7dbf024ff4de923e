-- The numbers of an address.
use Rattle.std.proofs.Common.{◌≡◌, ℕ, zero, suc, ◌<◌, Bool, true, false, ◌&&◌, List, [], ◌∷◌, length, refl, IsTrue, slice_index, arith}
use Rattle.std.specs.Prelude.{nat_lt}
use Rattle.std.proofs.lemmas.Bool.{and_from, lt-ltb, ltb-true}
use Rattle.sip_message.specs.Ip.{IsIp, are_octets}

both_true : (a b : Bool) → (a && b) ≡ true → (a ≡ true) × (b ≡ true)
both_true true b is = (refl, is)
both_true false b is = absurd cc

-- each of them is an octet
pub octet : (numbers : List ℕ) → IsTrue (are_octets numbers) → (k : ℕ)
    → slice_index numbers k < 256
octet [] all k = omega arith
octet (n ∷ numbers) all zero =
    ltb-true n 256 (both_true (nat_lt n 256) (are_octets numbers) all).0
octet (n ∷ numbers) all (suc k) =
    octet numbers (both_true (nat_lt n 256) (are_octets numbers) all).1 k

-- four octets are an IP address
pub four_octets : (ip : List ℕ) → length ip ≡ 4 → slice_index ip 0 < 256 → slice_index ip 1 < 256
    → slice_index ip 2 < 256 → slice_index ip 3 < 256 → IsIp ip
four_octets [] long one two three four = absurd (omega arith)
four_octets (a ∷ []) long one two three four = absurd (omega arith)
four_octets (a ∷ b ∷ []) long one two three four = absurd (omega arith)
four_octets (a ∷ b ∷ c ∷ []) long one two three four = absurd (omega arith)
four_octets (a ∷ b ∷ c ∷ d ∷ []) long one two three four = (
  refl,
  and_from _ _ (lt-ltb a 256 one)
      (and_from _ _ (lt-ltb b 256 two)
      (and_from _ _ (lt-ltb c 256 three) (and_from _ _ (lt-ltb d 256 four) refl))),
)
four_octets (a ∷ b ∷ c ∷ d ∷ e ∷ more) long one two three four = absurd (omega arith)
