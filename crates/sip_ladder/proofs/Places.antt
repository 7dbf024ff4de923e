-- Where a peer stands among others.
use Rattle.std.proofs.Common.{◌≡◌, ℕ, ◌+◌, true, false, List, [], ◌∷◌, ap, sym, ◌∙◌}
use Rattle.std.specs.Prelude.{if◌then◌else◌}
use Rattle.sip_message.specs.declared.addr.Addr.{Addr}
use Rattle.sip_ladder.specs.Row.{is_same_address, place_of}

pub place_none : (peers : List Addr) (address : Addr) → peers ≡ [] → 0 ≡ place_of peers address
place_none peers address none = sym (ap (λ ps. place_of ps address) none)

pub place_first : (peers others : List Addr) (peer address : Addr) → peers ≡ peer ∷ others
    → is_same_address peer address ≡ true → 0 ≡ place_of peers address
place_first peers others peer address cut same =
    sym (ap (λ ps. place_of ps address) cut
    ∙ ap (λ b. if b then 0 else 1 + place_of others address) same)

pub place_later : (peers others : List Addr) (peer address : Addr) (place : ℕ)
    → peers ≡ peer ∷ others → is_same_address peer address ≡ false → place ≡ place_of others address
    → 1 + place ≡ place_of peers address
place_later peers others peer address place cut differs later =
    ap (λ n. 1 + n) later
    ∙ sym (ap (λ ps. place_of ps address) cut
    ∙ ap (λ b. if b then 0 else 1 + place_of others address) differs)
