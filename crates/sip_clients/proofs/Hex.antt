-- Hexadecimal digits, one at a time, and that a made name is a token.
use Rattle.std.proofs.Common.{◌≡◌, ℕ, zero, suc, ◌+◌, ◌*◌, ◌-◌, ◌/◌, ◌%◌, ◌^◌, ◌<◌, ◌≤◌, Bool, true, List, [], ◌∷◌, ◌++◌, length, refl, arith, sym, ap, ◌∙◌, pow-add, length-append, IsTrue, codes}
use Rattle.std.proofs.Math.Nat.{div-div-eq-div-mul}
use Rattle.std.specs.List.{list_all}
use Rattle.std.proofs.lemmas.List.Folds.{list_all-append}
use Rattle.sip_message.specs.declared.id.Id.{Id}
use Rattle.sip_text.specs.Character.{is_token_byte}
use Rattle.sip_text.specs.Token.{is_run, is_token}
use Rattle.sip_message.specs.Via.{has_cookie}
use Rattle.sip_text.specs.Number.{hex_digit}
use Rattle.sip_clients.specs.Name.{hex, name_of, word_of_name}

-- so many digits: one fewer of the number without its last digit, and then that digit
pub hex-last : (count number : ℕ) → 0 < count
    → hex count number ≡ hex (count - 1) (number / 16) ++ hex_digit (number % 16) ∷ []
unfolding hex
hex-last zero number some = absurd (omega arith)
hex-last (suc count) number some = let e : suc count - 1 ≡ count = omega arith in rw e refl

-- no digits
pub hex-none : (number : ℕ) → hex 0 number ≡ []
unfolding hex
hex-none number = refl

-- without one digit more
digit_less : (number left : ℕ) → 0 < left
    → number / 2 ^ (4 * (left - 1)) / 16 ≡ number / 2 ^ (4 * left)
digit_less number left some =
    let e : 4 * (left - 1) + 4 ≡ 4 * left = omega arith in
    div-div-eq-div-mul number (2 ^ (4 * (left - 1))) 16
    ∙ ap (λ d. number / d) (sym (pow-add 2 (4 * (left - 1)) 4) ∙ ap (λ x. 2 ^ x) e)

-- the next digit after those before it
pub digit_next : (count number left : ℕ) → 0 < left → left ≤ count
    → hex (count - left) (number / 2 ^ (4 * left))
    ++ hex_digit (number / 2 ^ (4 * (left - 1)) % 16) ∷ []
    ≡ hex (count - (left - 1)) (number / 2 ^ (4 * (left - 1)))
digit_next count number left some most =
    let fewer : count - (left - 1) - 1 ≡ count - left = omega arith in
    let more : 0 < count - (left - 1) = omega arith in
    sym (hex-last (count - (left - 1)) (number / 2 ^ (4 * (left - 1))) more
    ∙ ap (λ n. hex n (number / 2 ^ (4 * (left - 1)) / 16)
    ++ hex_digit (number / 2 ^ (4 * (left - 1)) % 16) ∷ []) fewer
    ∙ ap (λ n. hex (count - left) n ++ hex_digit (number / 2 ^ (4 * (left - 1)) % 16) ∷ [])
    (digit_less number left some))

pub no_digit_yet : (count number : ℕ) → hex (count - count) (number / 2 ^ (4 * count)) ≡ []
no_digit_yet count number =
    let e : count - count ≡ 0 = omega arith in rw e (hex-none (number / 2 ^ (4 * count)))

-- each digit is a byte of a token
digit-token : (value : ℕ) → value < 16 → is_token_byte (hex_digit value) ≡ true
unfolding is_token_byte
digit-token zero small = refl
digit-token (suc zero) small = refl
digit-token (suc (suc zero)) small = refl
digit-token (suc (suc (suc zero))) small = refl
digit-token (suc (suc (suc (suc zero)))) small = refl
digit-token (suc (suc (suc (suc (suc zero))))) small = refl
digit-token (suc (suc (suc (suc (suc (suc zero)))))) small = refl
digit-token (suc (suc (suc (suc (suc (suc (suc zero))))))) small = refl
digit-token (suc (suc (suc (suc (suc (suc (suc (suc zero)))))))) small = refl
digit-token (suc (suc (suc (suc (suc (suc (suc (suc (suc zero))))))))) small = refl
digit-token (suc (suc (suc (suc (suc (suc (suc (suc (suc (suc zero)))))))))) small = refl
digit-token (suc (suc (suc (suc (suc (suc (suc (suc (suc (suc (suc zero))))))))))) small = refl
digit-token (suc (suc (suc (suc (suc (suc (suc (suc (suc (suc (suc (suc zero)))))))))))) small =
    refl
digit-token (suc (suc (suc (suc (suc (suc (suc (suc (suc (suc (suc (suc (suc zero)))))))))))))
    small = refl
digit-token (suc (suc (suc (suc (suc (suc (suc (suc (suc (suc (suc (suc (suc (suc zero))))))))))))))
    small = refl
digit-token (suc (suc (suc (suc
    (suc (suc (suc (suc (suc (suc (suc (suc (suc (suc (suc zero))))))))))))))) small = refl
digit-token (suc (suc (suc (suc
    (suc (suc (suc (suc (suc (suc (suc (suc (suc (suc (suc (suc n)))))))))))))))) small =
    absurd (omega arith)

hex-token : (count number : ℕ) → list_all is_token_byte (hex count number) ≡ true
unfolding hex
hex-token zero number = refl
hex-token (suc count) number =
    let small : number % 16 < 16 = omega arith in
    rw (list_all-append, hex-token count (number / 16), digit-token (number % 16) small) refl

pub length-hex : (count number : ℕ) → length (hex count number) ≡ count
unfolding hex
length-hex zero number = refl
length-hex (suc count) number =
    omega (
      arith,
      length-append (hex count (number / 16)) (hex_digit (number % 16) ∷ []),
      length-hex count (number / 16),
    )

run-all : (test : ℕ → Bool) (text : List ℕ) → 0 < length text → list_all test text ≡ true
    → is_run test text ≡ true
run-all test [] some all = absurd (omega arith)
run-all test (b ∷ bs) some all = all

-- if each part passes, the whole passes
all-append : (xs ys : List ℕ) → list_all is_token_byte xs ≡ true → list_all is_token_byte ys ≡ true
    → list_all is_token_byte (xs ++ ys) ≡ true
all-append xs ys p q = rw (list_all-append, p, q) refl

name_bytes : (seed : List ℕ) (id : Id) (index : ℕ)
    → list_all is_token_byte (name_of seed id index) ≡ true
name_bytes seed id index =
    let word = word_of_name seed id index in
    let front : List ℕ = (hex 16 id.round ++ hex 16 id.place) ++ hex 1 index in
    all-append front (hex 8 word) (all-append (hex 16 id.round ++ hex 16 id.place) (hex 1 index)
    (all-append (hex 16 id.round) (hex 16 id.place) (hex-token 16 id.round)
    (hex-token 16 id.place)) (hex-token 1 index)) (hex-token 8 word)

name_is_long : (seed : List ℕ) (id : Id) (index : ℕ) → 0 < length (name_of seed id index)
name_is_long seed id index =
    let word = word_of_name seed id index in
    let front : List ℕ = (hex 16 id.round ++ hex 16 id.place) ++ hex 1 index in
    omega (arith, length-append front (hex 8 word), length-hex 8 word)

pub name_is_token : (seed : List ℕ) (id : Id) (index : ℕ)
    → IsTrue (is_token (name_of seed id index))
unfolding is_token
name_is_token seed id index = run-all is_token_byte (name_of seed id index)
    (name_is_long seed id index) (name_bytes seed id index)

cookie_bytes : list_all is_token_byte (codes "z9hG4bK") ≡ true
unfolding is_token_byte
cookie_bytes = refl

-- a branch is a token, and begins with its cookie
pub branch_is_token : (seed : List ℕ) (id : Id) (index : ℕ)
    → IsTrue (is_token (codes "z9hG4bK" ++ name_of seed id index))
unfolding is_token
branch_is_token seed id index =
    all-append (codes "z9hG4bK") (name_of seed id index) cookie_bytes (name_bytes seed id index)

pub branch_has_cookie : (name : List ℕ) → IsTrue (has_cookie (codes "z9hG4bK" ++ name))
unfolding has_cookie
branch_has_cookie name = refl
