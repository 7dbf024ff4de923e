-- Ids, addresses and the seed: what is read is spelled that way, and that spelling is read.
use Rattle.std.proofs.Common.{◌≡◌, ℕ, ◌≤◌, true, false, eqb, List, ◌∷◌, ◌++◌, Some, refl, sym, ap, subst, ◌∙◌, append_assoc, arith, codes, decimal}
use Rattle.std.specs.Char.{is_ascii_digit}
use Rattle.std.proofs.lemmas.Bool.{and_from, not_from_false}
use Rattle.sip_text.specs.Cut.{field_at}
use Rattle.sip_text.specs.Number.{number_at}
use Rattle.sip_text.specs.Options.{◌>>=◌}
use Rattle.sip_text.proofs.Cuts.{has_no, has_no-append, Reads, field_took, field_again}
use Rattle.sip_text.proofs.Numerals.{number_took, number_again, number_reads, number_has_no}
use Rattle.sip_text.proofs.Options.{bind_some, same_some}
use Rattle.sip_message.specs.declared.addr.Addr.{Addr}
use Rattle.sip_message.specs.declared.id.Id.{Id}
use Rattle.sip_message.specs.Addr.{addr_text, IsAddr}
use Rattle.sip_message.specs.Ip.{IsIp, ip_text, ip_at}
use Rattle.sip_message.proofs.Ips.{ip_reads, ip_no}
use Rattle.sip_files.specs.Field.{id_text}
use Rattle.sip_files.specs.Events.{IsId, IsSeed}
use Rattle.sip_files.specs.Steps.Reading.{id_at, address_at, pairs_at, seed_at}
use Rattle.sip_files.proofs.Pairs.{spelled_pairs, pairs_took, pairs_again}

-- ---- ids

id_took : (field : List ℕ) (id : Id) → id_at field ≡ Some id → IsId id × (field ≡ id_text id)
unfolding id_at id_text
id_took field id e =
    let r = bind_some (field_at 46 (number_at 18446744073709551615) field)
    (λ round. number_at 4294967295 round.1 >>= λ place.
    Some (record { round = round.0; place = place })) id e in
    let p = bind_some (number_at 4294967295 r.0.1)
    (λ place. Some (record { round = r.0.0; place = place })) id r.2 in
    let round = field_took 46 (λ n. n ≤ 18446744073709551615) decimal
    (number_at 18446744073709551615)
    (number_reads 18446744073709551615 (omega arith)) field r.0 r.1 in
    let place = number_took 4294967295 (omega arith) r.0.1 p.0 p.1 in
    let made : Id = record { round = r.0.0; place = p.0 } in
    let whole : field ≡ (decimal r.0.0 ++ codes ".") ++ decimal p.0 =
    round.1 ∙ ap (λ (x : List ℕ). decimal r.0.0 ++ 46 ∷ x) place.1
    ∙ sym (append_assoc (decimal r.0.0) (codes ".") (decimal p.0)) in
    let P : Id → Type 0 =
    λ y. IsId y × (field ≡ (decimal y.round ++ codes ".") ++ decimal y.place) in
    subst P (same_some made id p.2) ((round.0, place.0), whole)

id_again : (id : Id) → IsId id → id_at (id_text id) ≡ Some id
unfolding id_at id_text
id_again id fits =
    let round = field_again 46 (λ n. n ≤ 18446744073709551615) decimal
    (number_at 18446744073709551615) (number_reads 18446744073709551615 (omega arith)) id.round
    (decimal id.place) fits.0 (number_has_no 46 id.round refl (omega (arith, fits.0))) in
    let regrouped : (decimal id.round ++ codes ".") ++ decimal id.place ≡ decimal id.round
    ++ 46 ∷ decimal id.place = append_assoc (decimal id.round) (codes ".") (decimal id.place) in
    ap (λ (t : List ℕ). field_at 46 (number_at 18446744073709551615) t >>= λ r.
    number_at 4294967295 r.1 >>= λ p. Some (record { round = r.0; place = p })) regrouped
    ∙ ap (λ o. o >>= λ r. number_at 4294967295 r.1 >>= λ p.
    Some (record { round = r.0; place = p })) round
    ∙ ap (λ o. o >>= λ p. Some (record { round = id.round; place = p }))
    (number_again 4294967295 (omega arith) id.place fits.1)

pub id_reads : Reads IsId id_text id_at
id_reads = record { took = id_took; again = id_again }

-- ---- addresses

address_took : (field : List ℕ) (address : Addr) → address_at field ≡ Some address
    → IsAddr address × (field ≡ addr_text address)
unfolding address_at
address_took field address e =
    let i = bind_some (field_at 58 ip_at field)
    (λ ip. number_at 65535 ip.1 >>= λ port. Some (record { ip = ip.0; port = port })) address
    e in
    let p = bind_some (number_at 65535 i.0.1)
    (λ port. Some (record { ip = i.0.0; port = port })) address i.2 in
    let ip = field_took 58 IsIp ip_text ip_at ip_reads
    field i.0 i.1 in
    let port = number_took 65535 (omega arith) i.0.1 p.0 p.1 in
    let made : Addr = record { ip = i.0.0; port = p.0 } in
    let whole : field ≡ addr_text made =
    ip.1 ∙ ap (λ (x : List ℕ). ip_text i.0.0 ++ 58 ∷ x) port.1
    ∙ sym (append_assoc (ip_text i.0.0) (codes ":") (decimal p.0)) in
    let P : Addr → Type 0 = λ y. IsAddr y × (field ≡ addr_text y) in
    subst P (same_some made address p.2) ((ip.0, omega (arith, port.0)), whole)

address_again : (address : Addr) → IsAddr address → address_at (addr_text address) ≡ Some address
unfolding address_at
address_again address fits =
    let ip = field_again 58 IsIp ip_text ip_at ip_reads
    address.ip (decimal address.port) fits.0
    (ip_no 58 address.ip refl refl fits.0) in
    ap (λ (t : List ℕ). field_at 58 ip_at t >>= λ i. number_at 65535 i.1 >>= λ p.
    Some (record { ip = i.0; port = p }))
    (append_assoc (ip_text address.ip) (codes ":") (decimal address.port))
    ∙ ap (λ o. o >>= λ i. number_at 65535 i.1 >>= λ p. Some (record { ip = i.0; port = p })) ip
    ∙ ap (λ o. o >>= λ p. Some (record { ip = address.ip; port = p }))
    (number_again 65535 (omega arith) address.port (omega (arith, fits.1)))

pub address_reads : Reads IsAddr addr_text address_at
address_reads = record { took = address_took; again = address_again }

-- an address has neither a space nor a line end
pub address_no : (at : ℕ) (address : Addr) → is_ascii_digit at ≡ false → eqb 46 at ≡ false
    → eqb 58 at ≡ false → IsAddr address → has_no at (addr_text address) ≡ true
address_no at address no_digit no_dot no_colon fits =
    let colon : has_no at (codes ":") ≡ true = and_from _ _ (not_from_false _ no_colon) refl in
    has_no-append at _ _ (has_no-append at _ _
    (ip_no at address.ip no_digit no_dot fits.0) colon)
    (number_has_no at address.port no_digit (omega (arith, fits.1)))

pub id_no : (at : ℕ) (id : Id) → is_ascii_digit at ≡ false → eqb 46 at ≡ false → IsId id
    → has_no at (id_text id) ≡ true
unfolding id_text
id_no at id no_digit no_dot fits =
    let dot : has_no at (codes ".") ≡ true = and_from _ _ (not_from_false _ no_dot) refl in
    has_no-append at _ _ (has_no-append at _ _
    (number_has_no at id.round no_digit (omega (arith, fits.0))) dot)
    (number_has_no at id.place no_digit (omega (arith, fits.1)))

-- ---- the seed

seed_took : (field seed : List ℕ) → seed_at field ≡ Some seed
    → IsSeed seed × (field ≡ spelled_pairs seed)
unfolding seed_at
seed_took field seed e = let t = pairs_took 32 field seed e in ((t.1, t.2), t.0)

seed_again : (seed : List ℕ) → IsSeed seed → seed_at (spelled_pairs seed) ≡ Some seed
unfolding seed_at
seed_again seed fits =
    ap (λ n. pairs_at n (spelled_pairs seed)) (sym fits.0) ∙ pairs_again seed fits.1

pub seed_reads : Reads IsSeed spelled_pairs seed_at
seed_reads = record { took = seed_took; again = seed_again }
