-- A text passes the test of quoted strings if it is a quote, units, and a quote.
use Rattle.std.proofs.Common.{◌≡◌, ℕ, Bool, true, false, cond, eqb, ◌||◌, IsTrue, List, [], ◌∷◌, ◌++◌, refl, sym, ap, ◌∙◌, append_assoc}
use Rattle.std.specs.List.{AllByRecursion, concat}
use Rattle.std.proofs.lemmas.Bool.{eqb-true, not-true, or_parts, or_from, not_from_false}
use Rattle.sip_text.specs.Character.{is_line_byte}
use Rattle.sip_text.specs.Quoted.{IsUnit, IsQuoted, is_nothing, ends_in_quote, is_quoted}

-- units and a quote
pub record Closes (text : List ℕ) : Type 0 where
  pub units : List (List ℕ)
  pub parts : text ≡ concat units ++ (34 ∷ [])
  pub each : AllByRecursion IsUnit units

-- a byte, and then units and a quote
abbrev ClosesAfterByte : List ℕ → Type 0
ClosesAfterByte [] = ⊥
ClosesAfterByte (b ∷ bs) = (is_line_byte b ≡ false) × Closes bs

-- what the walk says, behind a backslash or not
abbrev Goes : Bool → List ℕ → Type 0
Goes true text = ClosesAfterByte text
Goes false text = Closes text

pub nothing_more : (bs : List ℕ) → is_nothing bs ≡ true → bs ≡ []
nothing_more [] e = refl
nothing_more (b ∷ bs) e = absurd cc

with_unit : (unit bs : List ℕ) → IsUnit unit → Closes bs → Closes (unit ++ bs)
with_unit unit bs is closes = record {
  units = unit ∷ closes.units;
  parts = ap (λ (rest : List ℕ). unit ++ rest) closes.parts
      ∙ sym (append_assoc unit (concat closes.units) (34 ∷ []));
  each = (is, closes.each);
}

escape : (b : ℕ) (bs : List ℕ) → b ≡ 92 → ClosesAfterByte bs → Closes (b ∷ bs)
escape b [] is closes = absurd closes
escape b (c ∷ cs) is closes = with_unit (b ∷ (c ∷ [])) cs (is, closes.0) closes.1

walk : (escaped line back quote : Bool) (b : ℕ) (bs : List ℕ) → is_line_byte b ≡ line
    → eqb b 92 ≡ back → eqb b 34 ≡ quote → ((e : Bool) → ends_in_quote e bs ≡ true → Goes e bs)
    → cond line false (cond escaped (ends_in_quote false bs)
    (cond back (ends_in_quote true bs) (cond quote (is_nothing bs) (ends_in_quote false bs))))
    ≡ true → Goes escaped (b ∷ bs)
walk escaped true back quote b bs l k q more e = absurd cc
walk true false back quote b bs l k q more e = (l, more false e)
walk false false true quote b bs l k q more e = escape b bs (eqb-true b 92 k) (more true e)
walk false false false true b bs l k q more e =
    record { units = []; parts = rw (nothing_more bs e, eqb-true b 34 q) refl; each = tt }
walk false false false false b bs l k q more e =
    with_unit (b ∷ []) bs (not_from_false (eqb b 34 || (eqb b 92 || is_line_byte b))
    (or_from (eqb b 34) (eqb b 92 || is_line_byte b) q
    (or_from (eqb b 92) (is_line_byte b) k l))) (more false e)

goes : (escaped : Bool) (text : List ℕ) → ends_in_quote escaped text ≡ true → Goes escaped text
goes escaped [] e = absurd cc
goes escaped (b ∷ bs) e =
    walk escaped (is_line_byte b) (eqb b 92) (eqb b 34) b bs refl refl refl (λ r f. goes r bs f) e

pub quoted_takes : (text : List ℕ) → IsTrue (is_quoted text) → IsQuoted text
unfolding is_quoted
quoted_takes [] e = absurd cc
quoted_takes (b ∷ bs) e = by (eqb b 34) refl e
  where
    by : (r : Bool) → eqb b 34 ≡ r → cond r (ends_in_quote false bs) false ≡ true
        → IsQuoted (b ∷ bs)
    by true is e =
        let closes = goes false bs e in
        record {
          units = closes.units;
          parts = rw (eqb-true b 34 is) (ap (λ (rest : List ℕ). 34 ∷ rest) closes.parts);
          each =
              closes.each;
        }
    by false is e = absurd cc

closes_again : (units : List (List ℕ)) → AllByRecursion IsUnit units
    → ends_in_quote false (concat units ++ (34 ∷ [])) ≡ true
closes_again [] each = refl
closes_again ([] ∷ units) each = absurd each.0
closes_again ((b ∷ []) ∷ units) each =
    let others = or_parts (eqb b 34) (eqb b 92 || is_line_byte b) (not-true _ each.0) in
    let more = or_parts (eqb b 92) (is_line_byte b) others.1 in
    rw (more.1, more.0, others.0) (closes_again units each.1)
closes_again ((b ∷ (c ∷ [])) ∷ units) each = rw (each.0.0, each.0.1) (closes_again units each.1)
closes_again ((b ∷ (c ∷ (d ∷ ds))) ∷ units) each = absurd each.0

pub quoted_again : (text : List ℕ) → IsQuoted text → IsTrue (is_quoted text)
unfolding is_quoted
quoted_again text quoted = rw quoted.parts (closes_again quoted.units quoted.each)
