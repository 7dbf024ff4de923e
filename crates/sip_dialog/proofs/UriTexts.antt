-- What follows the last `@` of a URI, found by the place of that `@`.
use Rattle.std.proofs.Common.{◌≡◌, ℕ, suc, ◌+◌, ◌-◌, ◌<◌, Bool, true, false, not, List, [], ◌∷◌, length, get_or, take, drop, Some, refl, sym, ap, ◌∙◌, arith, length-drop}
use Rattle.std.specs.List.{list_any, after_last, suffix_len}
use Rattle.std.proofs.lemmas.Bool.{false_from_ne_true}
use Rattle.std.proofs.lemmas.List.{take_all}
use Rattle.std.proofs.lemmas.List.Folds.{list_any_at}
use Rattle.std.proofs.lemmas.List.Sums.{suffix_len_is}
use Rattle.memchr.specs.Find.{Nowhere}
use Rattle.sip_dialog.specs.UriText.{is_at_sign, after_userinfo, after_scheme}

any_none : (test : ℕ → Bool) (text : List ℕ)
    → Nowhere (λ k. test (get_or text k 0) ≡ true) 0 (length text) → list_any test text ≡ false
any_none test [] none = refl
any_none test (b ∷ bs) none =
    let here : test b ≡ false = false_from_ne_true (test b) (none 0 (omega arith) (omega arith)) in
    let rest = any_none test bs (λ k low high. none (suc k) (omega arith) (omega arith)) in
    rw (here, rest) refl

pub without_at_sign : (uri : List ℕ)
    → Nowhere (λ k. is_at_sign (get_or uri k 0) ≡ true) 0 (length uri)
    → after_userinfo uri ≡ after_scheme uri
unfolding after_userinfo
without_at_sign uri none = rw (any_none is_at_sign uri none) refl

after_last_at : (uri : List ℕ) (k : ℕ) → k < length uri
    → Nowhere (λ i. is_at_sign (get_or uri i 0) ≡ true) (k + 1) (length uri)
    → is_at_sign (get_or uri k 0) ≡ true → after_last is_at_sign uri ≡ drop (k + 1) uri
after_last_at uri k lt none is =
    let back : k + 1 - 1 ≡ k = omega arith in
    let count : suffix_len (λ b. not (is_at_sign b)) uri ≡ length uri - (k + 1) =
    suffix_len_is (λ b. not (is_at_sign b)) uri (k + 1) 0 (omega arith)
    (λ i low high. ap not (false_from_ne_true _ (none i low high)))
    (λ _. ap not (ap (λ n. is_at_sign (get_or uri n 0)) back ∙ is)) in
    let place : length uri - suffix_len (λ b. not (is_at_sign b)) uri ≡ k + 1 = omega arith in
    ap (λ n. drop n uri) place

pub at_the_last : (uri : List ℕ) (k : ℕ) → k < length uri
    → Nowhere (λ i. is_at_sign (get_or uri i 0) ≡ true) (k + 1) (length uri)
    → is_at_sign (get_or uri k 0) ≡ true
    → Some (take (length uri - (k + 1)) (drop (k + 1) uri)) ≡ after_userinfo uri
unfolding after_userinfo
at_the_last uri k lt none is =
    let len = length-drop (k + 1) uri in
    let whole : take (length uri - (k + 1)) (drop (k + 1) uri) ≡ drop (k + 1) uri =
    take_all _ _ (omega arith) in
    rw (list_any_at is_at_sign uri k 0 lt is)
    (ap Some (whole ∙ sym (after_last_at uri k lt none is)))
