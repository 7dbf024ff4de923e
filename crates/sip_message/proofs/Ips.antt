-- IP addresses: what is read is spelled that way, and that spelling is read.
use Rattle.std.proofs.Common.{◌≡◌, ℕ, suc, ◌≤◌, true, false, eqb, leb, List, [], ◌∷◌, ◌++◌, Some, refl, sym, ap, subst, ◌∙◌, append_assoc, arith, codes, decimal}
use Rattle.std.specs.Char.{is_ascii_digit}
use Rattle.std.proofs.lemmas.Bool.{and_parts, and_from, leb-true, le-leb, not_from_false}
use Rattle.sip_text.specs.Number.{number_at}
use Rattle.sip_text.specs.Options.{◌>>=◌}
use Rattle.sip_text.proofs.Cuts.{has_no, has_no-append, Reads, field_took, field_again}
use Rattle.sip_text.proofs.Numerals.{number_took, number_again, number_reads, number_has_no}
use Rattle.sip_text.proofs.Options.{bind_some, same_some}
use Rattle.sip_message.specs.Ip.{are_octets, IsIp, ip_text, octet_at, ip_at}

regroup_ip : (s : ℕ) (a b c d : List ℕ)
    → ((((((a ++ s ∷ []) ++ b) ++ s ∷ []) ++ c) ++ s ∷ []) ++ d) ≡ a ++ s ∷ (b ++ s ∷ (c ++ s ∷ d))
regroup_ip s a b c d = simp append_assoc

abbrev four : ℕ → ℕ → ℕ → ℕ → List ℕ
four a b c d = decimal a ++ 46 ∷ (decimal b ++ 46 ∷ (decimal c ++ 46 ∷ decimal d))

octets : Reads (λ n. n ≤ 255) decimal (number_at 255)
octets = number_reads 255 (omega arith)

one_more : (n : ℕ) (bs : List ℕ) → n ≤ 255 → are_octets bs ≡ true → are_octets (n ∷ bs) ≡ true
one_more n bs le others = and_from _ _ (le-leb (suc n) 256 (omega (arith, le))) others

pub ip_took : (field ip : List ℕ) → ip_at field ≡ Some ip
    → IsIp ip × (field ≡ ip_text ip)
unfolding ip_at
ip_took field ip e =
    let a = bind_some (octet_at field)
    (λ a. octet_at a.1 >>= λ b. octet_at b.1 >>= λ c.
    number_at 255 c.1 >>= λ d. Some (a.0 ∷ b.0 ∷ c.0 ∷ d ∷ [])) ip e in
    let b = bind_some (octet_at a.0.1)
    (λ b. octet_at b.1 >>= λ c. number_at 255 c.1 >>= λ d.
    Some (a.0.0 ∷ b.0 ∷ c.0 ∷ d ∷ [])) ip a.2 in
    let c = bind_some (octet_at b.0.1)
    (λ c. number_at 255 c.1 >>= λ d. Some (a.0.0 ∷ b.0.0 ∷ c.0 ∷ d ∷ [])) ip b.2 in
    let d = bind_some (number_at 255 c.0.1) (λ d. Some (a.0.0 ∷ b.0.0 ∷ c.0.0 ∷ d ∷ [])) ip c.2 in
    let first = field_took 46 (λ n. n ≤ 255) decimal (number_at 255) octets field a.0 a.1 in
    let second = field_took 46 (λ n. n ≤ 255) decimal (number_at 255) octets a.0.1 b.0 b.1 in
    let third = field_took 46 (λ n. n ≤ 255) decimal (number_at 255) octets b.0.1 c.0 c.1 in
    let last = number_took 255 (omega arith) c.0.1 d.0 d.1 in
    let whole : field ≡ four a.0.0 b.0.0 c.0.0 d.0 =
    first.1 ∙ ap (λ (x : List ℕ). decimal a.0.0 ++ 46 ∷ x)
    (second.1 ∙ ap (λ (x : List ℕ). decimal b.0.0 ++ 46 ∷ x)
    (third.1 ∙ ap (λ (x : List ℕ). decimal c.0.0 ++ 46 ∷ x) last.1)) in
    let P : List ℕ → Type 0 = λ y. IsIp y × (field ≡ ip_text y) in
    subst P (same_some (a.0.0 ∷ b.0.0 ∷ c.0.0 ∷ d.0 ∷ []) ip d.2) (
      (
        refl,
        one_more a.0.0 (b.0.0 ∷ c.0.0 ∷ d.0 ∷ []) first.0
            (one_more b.0.0 (c.0.0 ∷ d.0 ∷ []) second.0
            (one_more c.0.0 (d.0 ∷ []) third.0 (one_more d.0 [] last.0 refl))),
      ),
      whole
          ∙ sym (regroup_ip 46 (decimal a.0.0) (decimal b.0.0) (decimal c.0.0) (decimal d.0)),
    )

no_dot : (n : ℕ) → n ≤ 255 → has_no 46 (decimal n) ≡ true
no_dot n le = number_has_no 46 n refl (omega (arith, le))

four_again : (a b c d : ℕ) → a ≤ 255 → b ≤ 255 → c ≤ 255 → d ≤ 255
    → ip_at (four a b c d) ≡ Some (a ∷ b ∷ c ∷ d ∷ [])
unfolding ip_at
four_again a b c d p q r s =
    ap (λ o. o >>= λ a. octet_at a.1 >>= λ b.
    octet_at b.1 >>= λ c. number_at 255 c.1 >>= λ d.
    Some (a.0 ∷ b.0 ∷ c.0 ∷ d ∷ []))
    (field_again 46 (λ n. n ≤ 255) decimal (number_at 255) octets a
    (decimal b ++ 46 ∷ (decimal c ++ 46 ∷ decimal d)) p (no_dot a p))
    ∙ ap (λ o. o >>= λ b. octet_at b.1 >>= λ c. number_at 255 c.1 >>= λ d.
    Some (a ∷ b.0 ∷ c.0 ∷ d ∷ []))
    (field_again 46 (λ n. n ≤ 255) decimal (number_at 255) octets b
    (decimal c ++ 46 ∷ decimal d) q (no_dot b q))
    ∙ ap (λ o. o >>= λ c. number_at 255 c.1 >>= λ d. Some (a ∷ b ∷ c.0 ∷ d ∷ []))
    (field_again 46 (λ n. n ≤ 255) decimal (number_at 255) octets c (decimal d) r (no_dot c r))
    ∙ ap (λ o. o >>= λ d. Some (a ∷ b ∷ c ∷ d ∷ [])) (number_again 255 (omega arith) d s)

one_less : (n : ℕ) (bs : List ℕ) → are_octets (n ∷ bs) ≡ true → (n ≤ 255) × (are_octets bs ≡ true)
one_less n bs fits =
    let parts : (leb (suc n) 256 ≡ true) × (are_octets bs ≡ true) = and_parts _ _ fits in
    (omega (arith, leb-true (suc n) 256 parts.0), parts.1)

pub ip_again : (ip : List ℕ) → IsIp ip → ip_at (ip_text ip) ≡ Some ip
ip_again [] fits = absurd (omega (arith, fits.0))
ip_again (a ∷ []) fits = absurd (omega (arith, fits.0))
ip_again (a ∷ b ∷ []) fits = absurd (omega (arith, fits.0))
ip_again (a ∷ b ∷ c ∷ []) fits = absurd (omega (arith, fits.0))
ip_again (a ∷ b ∷ c ∷ d ∷ []) fits =
    let p = one_less a (b ∷ c ∷ d ∷ []) fits.1 in
    let q = one_less b (c ∷ d ∷ []) p.1 in
    let r = one_less c (d ∷ []) q.1 in
    let s = one_less d [] r.1 in
    ap ip_at (regroup_ip 46 (decimal a) (decimal b) (decimal c) (decimal d))
    ∙ four_again a b c d p.0 q.0 r.0 s.0
ip_again (a ∷ b ∷ c ∷ d ∷ e ∷ es) fits = absurd (omega (arith, fits.0))

pub ip_reads : Reads IsIp ip_text ip_at
ip_reads = record { took = ip_took; again = ip_again }

-- an IP address has only digits and dots
pub ip_no : (at : ℕ) (ip : List ℕ) → is_ascii_digit at ≡ false → eqb 46 at ≡ false
    → IsIp ip → has_no at (ip_text ip) ≡ true
ip_no at [] no_digit other fits = absurd (omega (arith, fits.0))
ip_no at (a ∷ []) no_digit other fits = absurd (omega (arith, fits.0))
ip_no at (a ∷ b ∷ []) no_digit other fits = absurd (omega (arith, fits.0))
ip_no at (a ∷ b ∷ c ∷ []) no_digit other fits = absurd (omega (arith, fits.0))
ip_no at (a ∷ b ∷ c ∷ d ∷ []) no_digit other fits =
    let p = one_less a (b ∷ c ∷ d ∷ []) fits.1 in
    let q = one_less b (c ∷ d ∷ []) p.1 in
    let r = one_less c (d ∷ []) q.1 in
    let s = one_less d [] r.1 in
    let dot : has_no at (codes ".") ≡ true = and_from _ _ (not_from_false _ other) refl in
    let digits : (n : ℕ) → n ≤ 255 → has_no at (decimal n) ≡ true =
    λ n le. number_has_no at n no_digit (omega (arith, le)) in
    has_no-append at _ _ (has_no-append at _ _
    (has_no-append at _ _ (has_no-append at _ _
    (has_no-append at _ _ (has_no-append at _ _ (digits a p.0) dot) (digits b q.0)) dot)
    (digits c r.0)) dot) (digits d s.0)
ip_no at (a ∷ b ∷ c ∷ d ∷ e ∷ es) no_digit other fits = absurd (omega (arith, fits.0))
