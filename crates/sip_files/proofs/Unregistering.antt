-- Header lines after which a command may still follow, and the Contact `*` among them.
use Rattle.std.proofs.Common.{◌≡◌, ◌⊎◌, inl, inr, ℕ, zero, suc, ◌+◌, ◌&&◌, ◌||◌, Bool, true, false, not, cond, eqb, List, [], ◌∷◌, ◌++◌, refl, sym, ap, ◌∙◌, arith, append-nil, codes}
use Rattle.std.specs.Prelude.{count_by}
use Rattle.std.specs.List.{flat_map, list_any}
use Rattle.std.proofs.lemmas.Bool.{eqb-true, eq-eqb}
use Rattle.std.proofs.lemmas.List.Concat.{flat_map-append}
use Rattle.std.proofs.lemmas.List.Folds.{list_any-append}
use Rattle.std.proofs.lemmas.List.Sums.{sum_by-append, sum_by-cons}
use Rattle.sip_message.specs.Wildcard.{has_wildcard_uri}
use Rattle.sip_message.specs.declared.header.Header.{Header}
use Rattle.sip_message.specs.declared.name_addr.NameAddr.{NameAddr}
use Rattle.sip_user.specs.declared.command.UserCommand.{UserCommand}
use Rattle.sip_files.specs.declared.given_header.GivenHeader.{GivenHeader}
use Rattle.sip_files.specs.declared.given_header.GivenHeader.TheVariants as given
use Rattle.sip_files.specs.declared.given_headers.GivenHeaders.{GivenHeaders}
use Rattle.sip_files.specs.Given.{contacts_in, gathered, others_in}
use Rattle.sip_files.specs.Steps.Drafting.{may_go_on, may_unregister}
use Rattle.sip_files.specs.Unregister.{contacts_fit, expires_at_once, is_expires, is_expires_of_zero, is_only_wildcard, is_register, is_zero}

pub by_bool : {G : Type 0} (b : Bool) → (b ≡ true → G) → (b ≡ false → G) → G
by_bool true on_true on_false = on_true refl
by_bool false on_true on_false = on_false refl

both : (a b : Bool) → (a && b) ≡ true → (a ≡ true) × (b ≡ true)
both true b e = (refl, e)
both false b e = absurd cc

one_of : (a b : Bool) → (a || b) ≡ true → a ≡ false → b ≡ true
one_of true b e other = absurd cc
one_of false b e other = e

abbrev zero_of : Header → Bool
zero_of header = is_zero header.value

differ : false ≡ true → ⊥
differ e = cc

or_first : (a b : Bool) → b ≡ false → (a || b) ≡ true → a ≡ true
or_first true b none e = refl
or_first false b none e = sym none ∙ e

or_none : (a b : Bool) → b ≡ false → (a || b) ≡ a
or_none true b e = refl
or_none false b e = e

or_true : (a b : Bool) → b ≡ true → (a || b) ≡ true
or_true true b e = refl
or_true false b e = e

-- a list of values has one that passes just if the values of a line have
pub any_flat : {H X : Type 0} (p : X → Bool) (f : H → List X) (hs : List H)
    → list_any p (flat_map f hs) ≡ list_any (λ h. list_any p (f h)) hs
any_flat p f [] = refl
any_flat p f (h ∷ hs) =
    list_any-append p (f h) (flat_map f hs) ∙ ap (λ b. list_any p (f h) || b) (any_flat p f hs)

-- ---- an Expires beside it

module _ {X : Type 0} (is_expires is_zero : X → Bool) where
  abbrev expires : List X → ℕ
  expires headers = count_by is_expires headers

  abbrev zeros : List X → Bool
  zeros headers = list_any (λ h. is_expires h && is_zero h) headers

  abbrev may_expire : List X → Bool
  may_expire headers =
      eqb (expires headers) 0 || (eqb (expires headers) 1 && zeros headers)

  none_of_zero : (headers : List X) → expires headers ≡ 0 → zeros headers ≡ false
  none_of_zero [] none = refl
  none_of_zero (h ∷ headers) none =
      let first = sum_by-cons (λ header. cond (is_expires header) 1 0) h headers in
      by_bool (is_expires h)
      (λ yes. let here : ◌≡◌ {A = ℕ} (cond (is_expires h) 1 0) 1 = ap (λ b. cond b 1 0) yes in
      absurd (omega (arith, first, none, here)))
      (λ not_one. let here : ◌≡◌ {A = ℕ} (cond (is_expires h) 1 0) 0 = ap (λ b. cond b 1 0) not_one in
      let rest : expires headers ≡ 0 = omega (arith, first, none, here) in
      ap (λ b. (b && is_zero h) || zeros headers) not_one ∙ none_of_zero headers rest)

  of_one : (a b : ℕ) → a + b ≡ 1 → (eqb a 0 ≡ true) ⊎ ((eqb a 1 ≡ true) × (b ≡ 0))
  of_one zero b sum = inl refl
  of_one (suc a) b sum =
      let none : suc a ≡ 1 = omega (arith, sum) in
      inr (eq-eqb (suc a) 1 none, omega (arith, sum))

  pub expiry_before : (one other : List X) → may_expire (one ++ other) ≡ true
      → may_expire one ≡ true
  expiry_before one other may =
      let sum : expires (one ++ other) ≡ expires one + expires other =
      sum_by-append (λ header. cond (is_expires header) 1 0) one other in
      by_bool (eqb (expires (one ++ other)) 0)
      (λ none.
      let all : expires (one ++ other) ≡ 0 = eqb-true (expires (one ++ other)) 0 none in
      let here : expires one ≡ 0 = omega (arith, all, sum) in
      ap (λ b. b || (eqb (expires one) 1 && zeros one)) (eq-eqb (expires one) 0 here))
      (λ some.
      let once = both (eqb (expires (one ++ other)) 1) (zeros (one ++ other))
      (one_of _ _ may some) in
      let all : expires (one ++ other) ≡ 1 = eqb-true (expires (one ++ other)) 1 once.0 in
      let total : expires one + expires other ≡ 1 = omega (arith, all, sum) in
      elim (of_one (expires one) (expires other) total) as (λ _. may_expire one ≡ true) [
        | inl none ↦ ap (λ b. b || (eqb (expires one) 1 && zeros one)) none
        | inr last ↦ or_true (eqb (expires one) 0) (eqb (expires one) 1 && zeros one)
            (ap (λ b. b && zeros one) last.0
            ∙ sym (or_none (zeros one) (zeros other) (none_of_zero other last.1))
            ∙ sym (list_any-append (λ h. is_expires h && is_zero h) one other) ∙ once.1)
      ])

-- ---- the Contact `*`

alone_before : (one other : List NameAddr) → list_any has_wildcard_uri one ≡ true
    → is_only_wildcard (one ++ other) ≡ true → is_only_wildcard one ≡ true
alone_before [] other some alone = absurd cc
alone_before (c ∷ []) [] some alone = alone
alone_before (c ∷ []) (d ∷ other) some alone = absurd cc
alone_before (c ∷ d ∷ one) other some alone = absurd cc

abbrev may : List NameAddr → List Header → Bool
may contacts headers = not (list_any has_wildcard_uri contacts)
    || (is_only_wildcard contacts && may_expire is_expires zero_of headers)

may_before : (contacts more : List NameAddr) (headers later : List Header)
    → may (contacts ++ more) (headers ++ later) ≡ true → may contacts headers ≡ true
may_before contacts more headers later all =
    by_bool (list_any has_wildcard_uri contacts)
    (λ some.
    let wide : not (list_any has_wildcard_uri (contacts ++ more)) ≡ false =
    ap not (list_any-append has_wildcard_uri contacts more
    ∙ ap (λ b. b || list_any has_wildcard_uri more) some) in
    let rest = both (is_only_wildcard (contacts ++ more))
    (may_expire is_expires zero_of (headers ++ later)) (one_of _ _ all wide) in
    or_true (not (list_any has_wildcard_uri contacts)) _
    (ap (λ b. b && may_expire is_expires zero_of headers)
    (alone_before contacts more some rest.0)
    ∙ expiry_before is_expires zero_of headers later rest.1))
    (λ none. ap (λ b. not b || (is_only_wildcard contacts
    && may_expire is_expires zero_of headers)) none)

-- it depends on whether a line names a `*`
pub without_wildcard : (headers : List GivenHeader)
    → list_any (λ header. list_any has_wildcard_uri (contacts_in header)) headers ≡ false
    → may_go_on (gathered headers) ≡ true
without_wildcard headers none =
    ap (λ b. not b || may_unregister (gathered headers))
    (any_flat has_wildcard_uri contacts_in headers ∙ none)

pub with_wildcard : (headers : List GivenHeader)
    → list_any (λ header. list_any has_wildcard_uri (contacts_in header)) headers ≡ true
    → may_go_on (gathered headers) ≡ may_unregister (gathered headers)
with_wildcard headers some =
    ap (λ b. not b || may_unregister (gathered headers))
    (any_flat has_wildcard_uri contacts_in headers ∙ some)

-- a command may follow the first of some lines if one may follow all of them
pub may_prefix : (headers more : List GivenHeader) → may_go_on (gathered (headers ++ more)) ≡ true
    → may_go_on (gathered headers) ≡ true
may_prefix headers more all =
    may_before (flat_map contacts_in headers) (flat_map contacts_in more)
    (flat_map others_in headers) (flat_map others_in more)
    (sym (λ i. may (flat_map-append contacts_in headers more i)
    (flat_map-append others_in headers more i)) ∙ all)

-- ---- the command that follows

-- where a command does follow, one may
pub fit_goes_on : (headers : GivenHeaders) (c : UserCommand) → contacts_fit headers c ≡ true
    → may_go_on headers ≡ true
fit_goes_on headers c fits =
    by_bool (list_any has_wildcard_uri headers.contacts)
    (λ some.
    let parts = both (is_register c && is_only_wildcard headers.contacts)
    (expires_at_once headers.others) (one_of _ _ fits (ap not some)) in
    or_true (not (list_any has_wildcard_uri headers.contacts)) (may_unregister headers)
    (ap (λ b. b && may_expire is_expires zero_of headers.others)
    (both (is_register c) (is_only_wildcard headers.contacts) parts.0).1
    ∙ or_true (eqb (count_by is_expires headers.others) 0) (expires_at_once headers.others)
    parts.1))
    (λ none. ap (λ b. not b || may_unregister headers) none)

-- an Expires of 0 seconds
abbrev pub at_once : Header
at_once = record { name = codes "Expires"; value = codes "0" }

-- where a REGISTER may follow but doesn't yet, it does after an Expires of 0 seconds
pub register_fits : (headers : List GivenHeader) (c : UserCommand) → is_register c ≡ true
    → may_go_on (gathered headers) ≡ true → contacts_fit (gathered headers) c ≡ false
    → contacts_fit (gathered (headers ++ given.Other at_once ∷ [])) c ≡ true
register_fits headers c registers may_follow unfit =
    let contacts = flat_map contacts_in headers in
    let others = flat_map others_in headers in
    let last : List GivenHeader = given.Other at_once ∷ [] in
    let fits : List NameAddr → List Header → Bool =
    λ cs hs. not (list_any has_wildcard_uri cs)
    || (is_register c && is_only_wildcard cs && expires_at_once hs) in
    let some : list_any has_wildcard_uri contacts ≡ true =
    by_bool (list_any has_wildcard_uri contacts) (λ e. e)
    (λ none. absurd (differ (sym unfit ∙ ap (λ b. not b
    || (is_register c && is_only_wildcard contacts && expires_at_once others)) none))) in
    let both_are = both (is_only_wildcard contacts) (may_expire is_expires zero_of others)
    (one_of _ _ may_follow (ap not some)) in
    let late : expires_at_once others ≡ false =
    by_bool (expires_at_once others)
    (λ e. absurd (differ (sym unfit ∙ or_true (not (list_any has_wildcard_uri contacts))
    (is_register c && is_only_wildcard contacts && expires_at_once others)
    (ap (λ b. b && is_only_wildcard contacts && expires_at_once others) registers
    ∙ ap (λ b. b && expires_at_once others) both_are.0 ∙ e)))) (λ e. e) in
    let none : count_by is_expires others ≡ 0 =
    eqb-true (count_by is_expires others) 0
    (or_first (eqb (count_by is_expires others) 0) (expires_at_once others) late both_are.1) in
    let counts : count_by is_expires (others ++ at_once ∷ []) ≡ 1 =
    sum_by-append (λ header. cond (is_expires header) 1 0) others (at_once ∷ [])
    ∙ ap (λ n. n + 1) none in
    let zero : list_any is_expires_of_zero (others ++ at_once ∷ []) ≡ true =
    list_any-append is_expires_of_zero others (at_once ∷ []) ∙ or_true _ _ refl in
    (λ i. fits (flat_map-append contacts_in headers last i)
    (flat_map-append others_in headers last i))
    ∙ ap (λ cs. fits cs (others ++ at_once ∷ [])) (append-nil contacts)
    ∙ or_true (not (list_any has_wildcard_uri contacts))
    (is_register c && is_only_wildcard contacts && expires_at_once (others ++ at_once ∷ []))
    (ap (λ b. b && is_only_wildcard contacts && expires_at_once (others ++ at_once ∷ []))
    registers
    ∙ ap (λ b. b && expires_at_once (others ++ at_once ∷ [])) both_are.0
    ∙ ap (λ b. b && list_any is_expires_of_zero (others ++ at_once ∷ []))
    (eq-eqb (count_by is_expires (others ++ at_once ∷ [])) 1 counts) ∙ zero)
