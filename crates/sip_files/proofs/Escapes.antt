-- The bytes of a field, one after another: what is read is spelled that way, and that spelling is
-- read.
use Rattle.std.proofs.Common.{◌≡◌, ℕ, zero, suc, ◌<◌, ◌≤◌, Bool, true, false, cond, eqb, ◌||◌, List, [], ◌∷◌, ◌++◌, length, Option, Some, None, refl, sym, ap, subst, ◌∙◌, append_assoc, arith, inl, inr}
use Rattle.std.specs.Option.{option_map, is_some}
use Rattle.std.proofs.lemmas.Bool.{eqb-true, or_parts, or_from, cases_Bool}
use Rattle.std.proofs.lemmas.Bool.Decides.{nat_tests}
use Rattle.std.proofs.lemmas.List.{append-nil}
use Rattle.sip_text.proofs.Options.{bind_some, chosen, passed, not_stopped}
use Rattle.sip_text.specs.Options.{◌>>=◌}
use Rattle.sip_files.specs.declared.words.Form.{Form}
use Rattle.sip_files.specs.declared.words.Form.TheVariants.{Word, Rest}
use Rattle.sip_files.specs.Steps.Form.{itself_in}
use Rattle.sip_files.specs.Word.{is_plain, is_plain_or_space, letter_of, hex_pair, escape_with, spelled_byte}
use Rattle.sip_files.specs.Steps.Reading.{byte_of_letter, hex_byte, hex_at, letter_at, escape_at, byte_at, bytes_from, bytes_at}
use Rattle.sip_files.proofs.Hex.{letter_again, letter_takes, letter_not_x, letter_small, pair_takes, pair_again}

-- a backslash never stands for itself; only a byte does
pub record IsSound (is_itself : ℕ → Bool) : Type 0 where
  pub backslash : is_itself 92 ≡ false
  pub small : (b : ℕ) → is_itself b ≡ true → b < 256

pub plain_sound : IsSound is_plain
plain_sound = record { backslash = refl; small = λ b h. grind (arith, nat_tests) }

pub plain_or_space_sound : IsSound is_plain_or_space
plain_or_space_sound = record { backslash = refl; small = λ b h. grind (arith, nat_tests) }

-- ---- a spelling by its case

pub spelled_itself : (t : ℕ → Bool) (b : ℕ) → t b ≡ true → spelled_byte t b ≡ b ∷ []
unfolding spelled_byte
spelled_itself t b h = ap (λ r. cond r (b ∷ []) (escape_with b (letter_of b))) h

pub spelled_letter : (t : ℕ → Bool) (b l : ℕ) → t b ≡ false → letter_of b ≡ Some l
    → spelled_byte t b ≡ 92 ∷ l ∷ []
unfolding spelled_byte
spelled_letter t b l h g =
    ap (λ r. cond r (b ∷ []) (escape_with b (letter_of b))) h ∙ ap (escape_with b) g

pub spelled_hex : (t : ℕ → Bool) (b : ℕ) → t b ≡ false → letter_of b ≡ None
    → spelled_byte t b ≡ 92 ∷ 120 ∷ hex_pair b
unfolding spelled_byte
spelled_hex t b h g =
    ap (λ r. cond r (b ∷ []) (escape_with b (letter_of b))) h ∙ ap (escape_with b) g

-- ---- a byte that is read is spelled that way

-- what was taken from the front of a text
pub record Took (t : ℕ → Bool) (text : List ℕ) (b : ℕ) (rest : List ℕ) : Type 0 where
  pub parts : text ≡ spelled_byte t b ++ rest
  pub small : b < 256

none_of : {A : Type 0} (o : Option A) → is_some o ≡ false → o ≡ None
none_of None e = refl
none_of (Some x) e = absurd cc

hex_took : (t : ℕ → Bool) (text : List ℕ) (b : ℕ) (rest : List ℕ) → hex_at t text ≡ Some (b, rest)
    → Took t (92 ∷ 120 ∷ text) b rest
unfolding hex_at
hex_took t [] b rest e = absurd cc
hex_took t (high ∷ []) b rest e = absurd cc
hex_took t (high ∷ low ∷ after) b rest e =
    let x = bind_some (hex_byte high low)
    (λ b. cond (t b || is_some (letter_of b)) None (Some (b, after))) (b, rest) e in
    let g = not_stopped (t x.0 || is_some (letter_of x.0)) (x.0, after) (b, rest) x.2 in
    let no = or_parts (t x.0) (is_some (letter_of x.0)) g.0 in
    let p = pair_takes high low x.0 x.1 in
    let whole : 92 ∷ 120 ∷ high ∷ low ∷ after ≡ spelled_byte t x.0 ++ after =
    ap (λ (d : List ℕ). 92 ∷ 120 ∷ (d ++ after)) p.0
    ∙ ap (λ (s : List ℕ). s ++ after)
    (sym (spelled_hex t x.0 no.0 (none_of (letter_of x.0) no.1))) in
    let P : ℕ × List ℕ → Type 0 = λ y. Took t (92 ∷ 120 ∷ high ∷ low ∷ after) y.0 y.1 in
    subst P g.1 (record { parts = whole; small = p.1 })

letter_took : (t : ℕ → Bool) (letter : ℕ) (after : List ℕ) (b : ℕ) (rest : List ℕ)
    → letter_at t letter after ≡ Some (b, rest) → Took t (92 ∷ letter ∷ after) b rest
unfolding letter_at
letter_took t letter after b rest e =
    let x = bind_some (byte_of_letter letter) (λ b. cond (t b) None (Some (b, after)))
    (b, rest) e in
    let g = not_stopped (t x.0) (x.0, after) (b, rest) x.2 in
    let is = letter_takes letter x.0 x.1 in
    let whole : 92 ∷ letter ∷ after ≡ spelled_byte t x.0 ++ after =
    ap (λ (s : List ℕ). s ++ after) (sym (spelled_letter t x.0 letter g.0 is)) in
    let P : ℕ × List ℕ → Type 0 = λ y. Took t (92 ∷ letter ∷ after) y.0 y.1 in
    subst P g.1 (record { parts = whole; small = letter_small x.0 letter is })

escape_took : (t : ℕ → Bool) (text : List ℕ) (b : ℕ) (rest : List ℕ)
    → escape_at t text ≡ Some (b, rest) → Took t (92 ∷ text) b rest
unfolding escape_at
escape_took t [] b rest e = absurd cc
escape_took t (letter ∷ after) b rest e =
    elim (chosen (eqb letter 120) (hex_at t after) (letter_at t letter after) (Some (b, rest)) e) [
      | inl w ↦ (let P : ℕ → Type 0 = λ l. Took t (92 ∷ l ∷ after) b rest in
          subst P (sym (eqb-true letter 120 w.0)) (hex_took t after b rest w.1))
      | inr w ↦ letter_took t letter after b rest w.1
    ]

pub byte_took : (t : ℕ → Bool) (text : List ℕ) (b : ℕ) (rest : List ℕ) → IsSound t
    → byte_at t text ≡ Some (b, rest) → Took t text b rest
unfolding byte_at
byte_took t [] b rest sound e = absurd cc
byte_took t (c ∷ after) b rest sound e =
    elim (chosen (eqb c 92) (escape_at t after) (cond (t c) (Some (c, after)) None)
    (Some (b, rest)) e) [
      | inl w ↦ (let P : ℕ → Type 0 = λ x. Took t (x ∷ after) b rest in
          subst P (sym (eqb-true c 92 w.0)) (escape_took t after b rest w.1))
      | inr w ↦
          (let g = passed (t c) (c, after) (b, rest) w.1 in
          let whole : c ∷ after ≡ spelled_byte t c ++ after =
          ap (λ (s : List ℕ). s ++ after) (sym (spelled_itself t c g.0)) in
          let P : ℕ × List ℕ → Type 0 = λ y. Took t (c ∷ after) y.0 y.1 in
          subst P g.1 (record { parts = whole; small = sound.small c g.0 }))
    ]

-- ---- a byte that is spelled is read

abbrev read : ℕ → List ℕ → Option (ℕ × List ℕ)
read b rest = Some (b, rest)

hex_again : (t : ℕ → Bool) (b : ℕ) (rest : List ℕ) → b < 256 → t b ≡ false → letter_of b ≡ None
    → hex_at t (hex_pair b ++ rest) ≡ read b rest
unfolding hex_at
hex_again t b rest lt h g =
    let no : (t b || is_some (letter_of b)) ≡ false = or_from _ _ h (ap is_some g) in
    ap (λ o. o >>= λ b. cond (t b || is_some (letter_of b)) None (Some (b, rest))) (pair_again b lt)
    ∙ ap (λ r. cond r None (read b rest)) no

letter_again_at : (t : ℕ → Bool) (b l : ℕ) (rest : List ℕ) → t b ≡ false → letter_of b ≡ Some l
    → letter_at t l rest ≡ read b rest
unfolding letter_at
letter_again_at t b l rest h g =
    ap (λ o. o >>= λ b. cond (t b) None (Some (b, rest))) (letter_again b l g)
    ∙ ap (λ r. cond r None (read b rest)) h

by_letter : (t : ℕ → Bool) (b : ℕ) (rest : List ℕ) (o : Option ℕ) → letter_of b ≡ o → b < 256
    → t b ≡ false → byte_at t (spelled_byte t b ++ rest) ≡ read b rest
unfolding byte_at escape_at
by_letter t b rest None g lt h =
    ap (λ (s : List ℕ). byte_at t (s ++ rest)) (spelled_hex t b h g) ∙ hex_again t b rest lt h g
by_letter t b rest (Some l) g lt h =
    ap (λ (s : List ℕ). byte_at t (s ++ rest)) (spelled_letter t b l h g)
    ∙ ap (λ r. cond r (hex_at t rest) (letter_at t l rest)) (letter_not_x b l g)
    ∙ letter_again_at t b l rest h g

itself_again : (t : ℕ → Bool) (b : ℕ) (rest : List ℕ) → eqb b 92 ≡ false → t b ≡ true
    → byte_at t (spelled_byte t b ++ rest) ≡ read b rest
unfolding byte_at
itself_again t b rest ne h =
    ap (λ (s : List ℕ). byte_at t (s ++ rest)) (spelled_itself t b h)
    ∙ ap (λ r. cond r (escape_at t rest) (cond (t b) (Some (b, rest)) None)) ne
    ∙ ap (λ r. cond r (read b rest) None) h

not_backslash : (t : ℕ → Bool) (b : ℕ) → IsSound t → t b ≡ true → (r : Bool) → eqb b 92 ≡ r
    → eqb b 92 ≡ false
not_backslash t b sound h true e =
    let is : b ≡ 92 = eqb-true b 92 e in
    let no : t b ≡ false = ap t is ∙ sound.backslash in
    absurd cc
not_backslash t b sound h false e = e

pub byte_again : (t : ℕ → Bool) (b : ℕ) (rest : List ℕ) → IsSound t → b < 256
    → byte_at t (spelled_byte t b ++ rest) ≡ read b rest
byte_again t b rest sound lt =
    elim (cases_Bool (t b)) [
      | inl h ↦ itself_again t b rest (not_backslash t b sound h (eqb b 92) refl) h
      | inr h ↦ by_letter t b rest (letter_of b) refl lt h
    ]

-- ---- all bytes

-- a spelling has a byte
nonempty : (t : ℕ → Bool) (b : ℕ) (r : Bool) (o : Option ℕ) → t b ≡ r → letter_of b ≡ o
    → 0 < length (spelled_byte t b)
nonempty t b true o h g = rw (spelled_itself t b h) (omega arith)
nonempty t b false None h g = rw (spelled_hex t b h g) (omega arith)
nonempty t b false (Some l) h g = rw (spelled_letter t b l h g) (omega arith)

pub spelled_longer : (t : ℕ → Bool) (b : ℕ) → 0 < length (spelled_byte t b)
spelled_longer t b = nonempty t b (t b) (letter_of b) refl refl

longer : (text spelled rest : List ℕ) → text ≡ spelled ++ rest → 0 < length spelled
    → length rest < length text
longer text [] rest e some = absurd (omega arith)
longer text (b ∷ bs) rest e some =
    omega (arith, ap length e, more bs rest)
  where
    more : (xs ys : List ℕ) → length ys ≤ length (xs ++ ys)
    more [] ys = omega arith
    more (x ∷ xs) ys = omega (arith, more xs ys)

pub byte_shorter : (t : ℕ → Bool) (text : List ℕ) (p : ℕ × List ℕ) → IsSound t
    → byte_at t text ≡ Some p → length p.1 < length text
byte_shorter t text p sound e =
    longer text (spelled_byte t p.0) p.1 (byte_took t text p.0 p.1 sound e).parts
    (spelled_longer t p.0)

-- more turns than needed change nothing
enough_step : (t : ℕ → Bool) (n m : ℕ) (o : Option (ℕ × List ℕ))
    → ((p : ℕ × List ℕ) → o ≡ Some p → bytes_from t n p.1 ≡ bytes_from t m p.1)
    → (o >>= λ p. bytes_from t n p.1 >>= λ more. Some (p.0 ∷ more))
    ≡ (o >>= λ p. bytes_from t m p.1 >>= λ more. Some (p.0 ∷ more))
enough_step t n m None same = refl
enough_step t n m (Some p) same = ap (λ o. o >>= λ more. Some (p.0 ∷ more)) (same p refl)

enough : (t : ℕ → Bool) (n m : ℕ) (text : List ℕ) → IsSound t → length text ≤ n → length text ≤ m
    → bytes_from t n text ≡ bytes_from t m text
enough t zero zero [] sound ln lm = refl
enough t zero (suc m) [] sound ln lm = refl
enough t (suc n) zero [] sound ln lm = refl
enough t (suc n) (suc m) [] sound ln lm = refl
enough t zero m (b ∷ bs) sound ln lm = absurd (omega arith)
enough t (suc n) zero (b ∷ bs) sound ln lm = absurd (omega arith)
enough t (suc n) (suc m) (b ∷ bs) sound ln lm =
    enough_step t n m (byte_at t (b ∷ bs))
    (λ p e. enough t n m p.1 sound (omega (arith, byte_shorter t (b ∷ bs) p sound e))
    (omega (arith, byte_shorter t (b ∷ bs) p sound e)))

-- what was read so far, in front of what is still read
abbrev pub onto : List ℕ → Option (List ℕ) → Option (List ℕ)
onto front read = option_map (λ more. front ++ more) read

abbrev pub after_byte : (ℕ → Bool) → Option (ℕ × List ℕ) → Option (List ℕ)
after_byte t None = None
after_byte t (Some p) = onto (p.0 ∷ []) (bytes_at t p.1)

step_at : (t : ℕ → Bool) (b : ℕ) (bs : List ℕ) (o : Option (ℕ × List ℕ)) → byte_at t (b ∷ bs) ≡ o
    → IsSound t → (o >>= λ p. bytes_from t (length bs) p.1 >>= λ more. Some (p.0 ∷ more))
    ≡ after_byte t o
unfolding bytes_at
step_at t b bs None e sound = refl
step_at t b bs (Some p) e sound =
    let same : bytes_from t (length bs) p.1 ≡ bytes_from t (length p.1) p.1 =
    enough t (length bs) (length p.1) p.1 sound
    (omega (arith, byte_shorter t (b ∷ bs) p sound e)) (omega arith) in
    ap (λ o. o >>= λ more. Some (p.0 ∷ more)) same ∙ mapped p.0 (bytes_from t (length p.1) p.1)
  where
    mapped : (c : ℕ) (o : Option (List ℕ)) → (o >>= λ more. Some (c ∷ more)) ≡ onto (c ∷ []) o
    mapped c None = refl
    mapped c (Some more) = refl

-- a text that isn't empty is its first byte, and the bytes after it
pub bytes_at-step : (t : ℕ → Bool) (text : List ℕ) → IsSound t → 0 < length text
    → bytes_at t text ≡ after_byte t (byte_at t text)
unfolding bytes_at
bytes_at-step t [] sound some = absurd (omega arith)
bytes_at-step t (b ∷ bs) sound some = step_at t b bs (byte_at t (b ∷ bs)) refl sound

pub form_sound : (form : Form) → IsSound (itself_in form)
form_sound Word = plain_sound
form_sound Rest = plain_or_space_sound

-- ---- a loop over the bytes of a field

regroup : (front : List ℕ) (b : ℕ) (read : Option (List ℕ))
    → onto front (onto (b ∷ []) read) ≡ onto (front ++ b ∷ []) read
regroup front b None = refl
regroup front b (Some more) = ap (λ (bs : List ℕ). Some bs) (sym (append_assoc front (b ∷ []) more))

pub stops : (t : ℕ → Bool) (front left : List ℕ) (total : Option (List ℕ)) → IsSound t
    → 0 < length left → None ≡ byte_at t left → onto front (bytes_at t left) ≡ total → None ≡ total
stops t front left total sound some none so_far =
    sym (ap (onto front) (bytes_at-step t left sound some ∙ ap (after_byte t) (sym none))) ∙ so_far

pub goes_on : (t : ℕ → Bool) (front left : List ℕ) (b : ℕ) (after : List ℕ)
    (total : Option (List ℕ)) → IsSound t → 0 < length left → Some (b, after) ≡ byte_at t left
    → onto front (bytes_at t left) ≡ total → onto (front ++ b ∷ []) (bytes_at t after) ≡ total
goes_on t front left b after total sound some is so_far =
    sym (ap (onto front) (bytes_at-step t left sound some ∙ ap (after_byte t) (sym is))
    ∙ regroup front b (bytes_at t after)) ∙ so_far

pub ends : (t : ℕ → Bool) (front left : List ℕ) (total : Option (List ℕ)) → length left ≡ 0
    → onto front (bytes_at t left) ≡ total → Some front ≡ total
unfolding bytes_at
ends t front [] total none so_far = sym (ap (λ (bs : List ℕ). Some bs) (append-nil front)) ∙ so_far
ends t front (b ∷ bs) total none so_far = absurd (omega arith)
