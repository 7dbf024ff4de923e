-- Addresses: what is read is spelled that way, and what is spelled that way is read.
use Rattle.std.proofs.Common.{◌≡◌, ℕ, inl, inr, List, ◌∷◌, ◌++◌, Option, Some, None, refl, sym, ap, subst, ◌∙◌, append_assoc, arith, codes, decimal}
use Rattle.sip_text.specs.Cut.{cut_at}
use Rattle.sip_text.specs.Number.{number_at}
use Rattle.sip_text.specs.Options.{◌>>=◌}
use Rattle.sip_text.proofs.Cuts.{cut_took, cut_again, uncut}
use Rattle.sip_text.proofs.Numerals.{number_took, number_again}
use Rattle.sip_text.proofs.Options.{bind_some, same_some}
use Rattle.sip_message.specs.declared.addr.Addr.{Addr}
use Rattle.sip_message.specs.Addr.{addr_text, IsAddr}
use Rattle.sip_message.specs.Ip.{ip_text, ip_at}
use Rattle.sip_message.proofs.Ips.{ip_took, ip_again, ip_no}
use Rattle.sip_dialog.specs.Address.{address_in, address_at, IsTextOf}

took_by : (text : List ℕ) (o : Option (List ℕ × List ℕ)) → cut_at 58 text ≡ o → (address : Addr)
    → address_in text o ≡ Some address → IsAddr address × IsTextOf address text
took_by text None cut address e =
    let ip = bind_some (ip_at text) (λ ip. Some (record { ip = ip; port = 5060 })) address e in
    let whole = ip_took text ip.0 ip.1 in
    let made : Addr = record { ip = ip.0; port = 5060 } in
    let P : Addr → Type 0 = λ y. IsAddr y × IsTextOf y text in
    subst P (same_some made address ip.2) ((whole.0, omega arith), inr (refl, whole.1))
took_by text (Some (host, port)) cut address e =
    let ip = bind_some (ip_at host)
    (λ ip. number_at 65535 port >>= λ number. Some (record { ip = ip; port = number })) address
    e in
    let number = bind_some (number_at 65535 port)
    (λ number. Some (record { ip = ip.0; port = number })) address ip.2 in
    let front = ip_took host ip.0 ip.1 in
    let back = number_took 65535 (omega arith) port number.0 number.1 in
    let made : Addr = record { ip = ip.0; port = number.0 } in
    let whole : text ≡ addr_text made =
    (cut_took 58 text (host, port) cut).whole ∙ ap (λ (x : List ℕ). x ++ 58 ∷ port) front.1
    ∙ ap (λ (x : List ℕ). ip_text ip.0 ++ 58 ∷ x) back.1
    ∙ sym (append_assoc (ip_text ip.0) (codes ":") (decimal number.0)) in
    let P : Addr → Type 0 = λ y. IsAddr y × IsTextOf y text in
    subst P (same_some made address number.2) ((front.0, omega (arith, back.0)), inl whole)

pub address_took : (address : Addr) (text : List ℕ) → address_at text ≡ Some address
    → IsAddr address × IsTextOf address text
unfolding address_at
address_took address text e = took_by text (cut_at 58 text) refl address e

pub address_again : (address : Addr) (text : List ℕ) → IsAddr address → IsTextOf address text
    → address_at text ≡ Some address
unfolding address_at
address_again address text fits (inl whole) =
    let regrouped : text ≡ ip_text address.ip ++ 58 ∷ decimal address.port =
    whole ∙ append_assoc (ip_text address.ip) (codes ":") (decimal address.port) in
    rw (
      regrouped,
      cut_again 58 (ip_text address.ip) (decimal address.port)
          (ip_no 58 address.ip refl refl fits.0),
      ip_again address.ip fits.0,
      number_again 65535 (omega arith) address.port (omega (arith, fits.1)),
    ) refl
address_again address text fits (inr (is, whole)) =
    rw (
      whole,
      uncut 58 (ip_text address.ip) (ip_no 58 address.ip refl refl fits.0),
      ip_again address.ip fits.0,
      ← is,
    ) refl
