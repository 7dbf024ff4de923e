-- The start line and the body of a message.
use Rattle.std.proofs.Common.{◌≡◌, ℕ, ◌<◌, Bool, true, false, cond, ltb, List, [], ◌++◌, length, take, drop, Option, Some, None, refl, sym, ap, subst, ◌∙◌, bytes_eq, arith}
use Rattle.std.proofs.lemmas.Bool.{ltb-false, ltb-true, le-ltb, lt-ltb, true≢false}
use Rattle.std.proofs.lemmas.List.{length-append, length-take-le, take_at, take-append-drop}
use Rattle.std.proofs.lemmas.Option.{same_Some}
use Rattle.std.proofs.lemmas.Slice.Eq.{bytes_eq-Decides}
use Rattle.sip_message.specs.declared.start_line.StartLine.{StartLine}
use Rattle.sip_message.specs.declared.start_line.StartLine.TheVariants as start
use Rattle.sip_reader.specs.declared.first_line.FirstLine.{FirstLine}
use Rattle.sip_reader.specs.declared.first_line.FirstLine.TheVariants as first
use Rattle.sip_reader.specs.ReadMessage.{start_line_of, body_of}
use Rattle.sip_reader.specs.Spells.{IsBody}
use Rattle.sip_reader.specs.Head.{SpellsFirst, first_of}
use Rattle.sip_reader.specs.StartLine.{SpellsStart, IsRequestLine}
use Rattle.sip_grammar.proofs.Pieces.{guard_some, by_bool}

-- ---- the start line

pub start_takes : (line : FirstLine (List ℕ)) (method : List ℕ) (says : StartLine) (text : List ℕ)
    → start_line_of line method ≡ Some says → SpellsFirst line text → SpellsStart says method text
unfolding start_line_of
start_takes (first.Request own uri) method says text e spelled =
    let g = guard_some (bytes_eq own method) (start.Request uri) says e in
    subst (λ (s : StartLine). SpellsStart s method text) g.1
    (subst (λ (m : List ℕ). IsRequestLine m uri text)
    ((bytes_eq-Decides own method).0 g.0) spelled)
start_takes (first.Response status reason) method says text e spelled =
    subst (λ (s : StartLine). SpellsStart s method text)
    (same_Some (start.Response status reason) says e) spelled

pub first_spelled : (says : StartLine) (method text : List ℕ) → SpellsStart says method text
    → SpellsFirst (first_of says method) text
first_spelled (start.Request uri) method text spelled = spelled
first_spelled (start.Response status reason) method text spelled = spelled

pub start_line_again : (says : StartLine) (method : List ℕ)
    → start_line_of (first_of says method) method ≡ Some says
unfolding start_line_of
start_line_again (start.Request uri) method = rw ((bytes_eq-Decides method method).1 refl) refl
start_line_again (start.Response status reason) method = refl

-- what a start line says, for some method
pub some_start : (line : FirstLine (List ℕ)) (text : List ℕ) → SpellsFirst line text
    → (says : StartLine) × (method : List ℕ) × SpellsStart says method text
some_start (first.Request method uri) text spelled = (start.Request uri, method, spelled)
some_start (first.Response status reason) text spelled = (start.Response status reason, [], spelled)

pub other_method : (line : FirstLine (List ℕ)) (method : List ℕ) → start_line_of line method ≡ None
    → (own : List ℕ) × (uri : List ℕ) × (line ≡ first.Request own uri) × (own ≡ method → ⊥)
unfolding start_line_of
other_method (first.Request own uri) method e = (
  own,
  uri,
  refl,
  λ same. true≢false
      (sym ((bytes_eq-Decides own method).1 same)
      ∙ by_bool (bytes_eq own method)
      (λ r. cond r (Some (start.Request uri)) None ≡ None → r ≡ false) (λ t f. absurd cc)
      (λ t f. refl) e),
)
other_method (first.Response status reason) method e = absurd cc

-- a request line with this method has no other
pub own_method : (line : FirstLine (List ℕ)) (method : List ℕ) (says : StartLine) (own uri : List ℕ)
    → start_line_of line method ≡ Some says → line ≡ first.Request own uri → own ≡ method
unfolding start_line_of
own_method (first.Request m u) method says own uri e same =
    let g = guard_some (bytes_eq m method) (start.Request u) says e in
    let mine : m ≡ own = cc in
    sym mine ∙ (bytes_eq-Decides m method).0 g.0
own_method (first.Response status reason) method says own uri e same = absurd cc

-- ---- the body

body_from : (rest : List ℕ) (n : ℕ) (body : List ℕ) (r : Bool) → ltb (length rest) n ≡ r
    → cond r None (Some (take n rest)) ≡ Some body → IsBody (Some n) body rest
body_from rest n body true short e = absurd cc
body_from rest n body false short e =
    subst (λ (b : List ℕ). IsBody (Some n) b rest) (same_Some (take n rest) body e) (
      drop n rest,
      sym (take-append-drop n rest),
      length-take-le n rest (ltb-false (length rest) n short),
    )

pub body_takes : (rest : List ℕ) (number : Option ℕ) (body : List ℕ)
    → body_of rest number ≡ Some body → IsBody number body rest
unfolding body_of
body_takes rest None body e = same_Some rest body e
body_takes rest (Some n) body e = body_from rest n body (ltb (length rest) n) refl e

pub body_again : (rest : List ℕ) (number : Option ℕ) (body : List ℕ) → IsBody number body rest
    → body_of rest number ≡ Some body
unfolding body_of
body_again rest None body is = ap (λ (xs : List ℕ). Some xs) is
body_again rest (Some n) body is =
    let long : ltb (length (body ++ is.0)) n ≡ false =
    le-ltb (length (body ++ is.0)) n (omega (arith, length-append body is.0, is.2)) in
    rw (is.1, long, take_at body is.0 n is.2) refl

pub body_short : (rest : List ℕ) (number : Option ℕ) → body_of rest number ≡ None
    → (n : ℕ) × (number ≡ Some n) × (length rest < n)
unfolding body_of
body_short rest None e = absurd cc
body_short rest (Some n) e = (
  n,
  refl,
  ltb-true (length rest) n
      (by_bool (ltb (length rest) n) (λ r. cond r None (Some (take n rest)) ≡ None → r ≡ true)
      (λ t f. refl) (λ t f. absurd cc) e),
)

pub body_long : (rest : List ℕ) (n : ℕ) (body : List ℕ) → body_of rest (Some n) ≡ Some body
    → length rest < n → ⊥
unfolding body_of
body_long rest n body e short =
    let none : ◌≡◌ {A = Option (List ℕ)} None (Some body) =
    sym (ap (λ r. cond r None (Some (take n rest))) (lt-ltb (length rest) n short)) ∙ e in
    absurd cc
