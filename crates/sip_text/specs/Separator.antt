-- A text cut at a separator. Most separators count only outside quoted strings and brackets (RFC
-- 3261, sections 7.3.1 and 25.1).
use Rattle.std.specs.Prelude.{◌≡◌, ℕ, Bool, false, List, [], ◌∷◌, ◌++◌, Option, Some, None, ◌==◌, ◌||◌, if◌then◌else◌, option_and_then}
use Rattle.std.specs.Option.{option_map}
use Rattle.std.specs.List.{onto_first}
use Rattle.sip_text.specs.Character.{is_blank}
use Rattle.sip_text.specs.declared.separator.Separator.{Separator}
use Rattle.sip_text.specs.declared.separator.Separator.TheVariants.{Byte, Anywhere, Blank, Colon}
use Rattle.sip_text.specs.declared.separator.Place.{Place}
use Rattle.sip_text.specs.declared.separator.Place.TheVariants.{Plain, Quoted, Escaped, Bracketed}

-- ---- where a reader of a text stands

-- A quote opens a quoted string, and the next one not behind a backslash closes it. `<` opens
-- brackets, `>` closes them.
abbrev pub after : Place → ℕ → Place
after Plain b = if b == 34 then Quoted else (if b == 60 then Bracketed else Plain)
after Quoted b = if b == 34 then Plain else (if b == 92 then Escaped else Quoted)
after Escaped b = Quoted
after Bracketed b = if b == 62 then Plain else Bracketed

-- `[` opens brackets, `]` closes them
abbrev pub after_bracket : Place → ℕ → Place
after_bracket Plain b = if b == 91 then Bracketed else Plain
after_bracket Bracketed b = if b == 93 then Plain else Bracketed
after_bracket place b = place

-- ---- separators

-- the byte is this separator, if it stands where separators count
abbrev pub separates : Separator → ℕ → Bool
separates (Byte at) b = b == at
separates (Anywhere at) b = b == at
separates Blank b = is_blank b
separates Colon b = b == 58

-- the byte may begin something in which the separator doesn't count
abbrev pub opens : Separator → ℕ → Bool
opens (Byte at) b = b == 34 || b == 60
opens (Anywhere at) b = false
opens Blank b = false
opens Colon b = b == 91

-- what hides a separator: quotes and angle brackets, nothing, or square brackets
abbrev pub step : Separator → Place → ℕ → Place
step (Byte at) place b = after place b
step (Anywhere at) place b = Plain
step Blank place b = Plain
step Colon place b = after_bracket place b

-- where the reader stands after one more byte; nothing if that is a separator that counts
abbrev pub next_place : Separator → Place → ℕ → Option Place
next_place at Plain b = if separates at b then None else Some (step at Plain b)
next_place at place b = Some (step at place b)

-- where the reader stands after these bytes; nothing if one is a separator that counts
abbrev pub place_after : Separator → Place → List ℕ → Option Place
place_after at place [] = Some place
place_after at place (b ∷ bs) = option_and_then (λ p. place_after at p bs) (next_place at place b)

-- ---- cuts

-- Read from this place on, the text is cut into these parts at the first separator that counts.
pub record IsCutFrom (at : Separator) (place : Place) (parts : List ℕ × List ℕ)
    (text : List ℕ) : Type 0 where
  pub byte : ℕ
  pub last : Place
  pub together : text ≡ parts.0 ++ (byte ∷ parts.1)
  pub none : place_after at place parts.0 ≡ Some last
  pub stops : next_place at last byte ≡ None

-- No separator counts in the text.
pub record IsWholeFrom (at : Separator) (place : Place) (text : List ℕ) : Type 0 where
  pub last : Place
  pub none : place_after at place text ≡ Some last

-- the text is cut at the first separator that counts
abbrev pub IsCut : Separator → List ℕ × List ℕ → List ℕ → Type 0
IsCut at parts text = IsCutFrom at Plain parts text

-- no separator counts
abbrev pub IsWhole : Separator → List ℕ → Type 0
IsWhole at text = IsWholeFrom at Plain text

-- The text is these pieces, with a separator that counts between one and the next.
abbrev pub IsSplitFrom : Separator → Place → List (List ℕ) → List ℕ → Type 0
IsSplitFrom at place [] text = ⊥
IsSplitFrom at place (piece ∷ []) text = (text ≡ piece) × IsWholeFrom at place piece
IsSplitFrom at place (piece ∷ (next ∷ pieces)) text =
    (rest : List ℕ) × IsCutFrom at place (piece, rest) text
    × IsSplitFrom at Plain (next ∷ pieces) rest

-- the text is cut at each separator that counts
abbrev pub IsSplit : Separator → List (List ℕ) → List ℕ → Type 0
IsSplit at pieces text = IsSplitFrom at Plain pieces text

-- ---- the same, from left to right

-- the byte cuts, or is put in front of the cut that is found behind it
abbrev pub by_place : ℕ → List ℕ → Option Place → (Place → Option (List ℕ × List ℕ))
    → Option (List ℕ × List ℕ)
by_place b bs None more = Some ([], bs)
by_place b bs (Some place) more = option_map (λ p. (b ∷ p.0, p.1)) (more place)

-- the parts before and after the first separator that counts
abbrev pub cut_from : Separator → Place → List ℕ → Option (List ℕ × List ℕ)
cut_from at place [] = None
cut_from at place (b ∷ bs) = by_place b bs (next_place at place b) (λ p. cut_from at p bs)

-- the byte cuts, or is put in front of the first piece of what is behind it
abbrev pub by_piece : ℕ → Option Place → (Place → List (List ℕ)) → List (List ℕ)
by_piece b None more = [] ∷ more Plain
by_piece b (Some place) more = onto_first b (more place)

-- the pieces between the separators that count
abbrev pub split_from : Separator → Place → List ℕ → List (List ℕ)
split_from at place [] = [] ∷ []
split_from at place (b ∷ bs) = by_piece b (next_place at place b) (λ p. split_from at p bs)
