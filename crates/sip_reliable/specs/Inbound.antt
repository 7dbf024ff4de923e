-- Of the reliable provisional responses that come in one dialog for one INVITE, those that
-- are taken (RFC 3262, section 4).
use Rattle.std.specs.Prelude.{◌≡◌, ℕ, ◌+◌, ◌<◌, ◌==◌, nat_le, if◌then◌else◌, List, [], ◌∷◌, length, Option, None, Some, slice_index}
use Rattle.std.specs.List.{last_or}
use Rattle.sip_reliable.specs.declared.offer.Offer.{Offer}
use Rattle.sip_reliable.specs.declared.offer.Offer.TheVariants.{Taken, Repeat, Gap}

-- of the RSeq numbers that come after `latest` was taken, those taken: each is one more than the
-- one taken before it
abbrev pub following : ℕ → List ℕ → List ℕ
following latest [] = []
following latest (number ∷ numbers) =
    if number == latest + 1 then number ∷ following number numbers else following latest numbers

-- of the RSeq numbers that came, those taken: the first, and then each that is one more than the
-- latest taken
abbrev pub in_order : List ℕ → List ℕ
in_order [] = []
in_order (number ∷ numbers) = number ∷ following number numbers

-- the latest number taken
abbrev pub latest : List ℕ → Option ℕ
latest came = last_or None (in_order came)

-- what becomes of a number, by the latest taken
abbrev pub offered : Option ℕ → ℕ → Offer
offered None number = Taken
offered (Some last) number =
    if number == last + 1 then Taken else if nat_le number last then Repeat else Gap

-- the number as a list, if it is taken
abbrev pub taken : Offer → ℕ → List ℕ
taken Taken number = number ∷ []
taken Repeat number = []
taken Gap number = []

-- the latest number taken afterwards
abbrev pub latest_after : Offer → Option ℕ → ℕ → Option ℕ
latest_after Taken last number = Some number
latest_after Repeat last number = last
latest_after Gap last number = last

-- each number is one more than the one before it
abbrev pub IsConsecutive : List ℕ → Type 0
IsConsecutive numbers =
    (k : ℕ) → k + 1 < length numbers → slice_index numbers (k + 1) ≡ slice_index numbers k + 1
