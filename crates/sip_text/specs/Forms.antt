-- Forms of text, made of smaller ones. A form (capital letter) says which value a text stands for.
-- The same name in small letters is the value found by reading from left to right, and nothing if
-- there is none.
use Rattle.std.specs.Prelude.{◌≡◌, ◌⊎◌, ℕ, Bool, IsTrue, List, [], ◌∷◌, Option, Some, None, option_and_then, if◌then◌else◌}
use Rattle.std.specs.Option.{option_map}
use Rattle.std.specs.List.{AllZip}
use Rattle.sip_text.specs.Separator.{IsCut, IsWhole, IsSplit, cut_from, split_from}
use Rattle.sip_text.specs.declared.separator.Separator.{Separator}
use Rattle.sip_text.specs.declared.separator.Place.TheVariants.{Plain}

-- ---- one text

-- the text itself, if it passes the test
abbrev pub Passing : (List ℕ → Bool) → List ℕ → List ℕ → Type 0
Passing test x text = (x ≡ text) × IsTrue (test text)

-- the text itself, if it passes the test
abbrev pub passing : (List ℕ → Bool) → List ℕ → Option (List ℕ)
passing test text = if test text then Some text else None

-- this value, whatever the text is
abbrev pub Always : {A X : Type 0} → X → X → A → Type 0
Always value x a = x ≡ value

-- this value for any text
abbrev pub always : {A X : Type 0} → X → A → Option X
always value a = Some value

-- no value
abbrev pub Never : {A X : Type 0} → X → A → Type 0
Never x a = ⊥

-- nothing for any text
abbrev pub never : {A X : Type 0} → A → Option X
never a = None

-- no values for an empty text, otherwise those of the form
abbrev pub OrEmpty : {X : Type 0} → (List X → List ℕ → Type 0) → List X → List ℕ → Type 0
OrEmpty P xs [] = xs ≡ []
OrEmpty P xs (b ∷ bs) = P xs (b ∷ bs)

-- no values for an empty text
abbrev pub or_empty : {X : Type 0} → (List ℕ → Option (List X)) → List ℕ → Option (List X)
or_empty f [] = Some []
or_empty f (b ∷ bs) = f (b ∷ bs)

-- the form of what a function makes of the text
abbrev pub Of : {A B X : Type 0} → (X → B → Type 0) → (A → B) → X → A → Type 0
Of P f x a = P x (f a)

-- the value read from what a function makes of the text
abbrev pub reading_of : {A B X : Type 0} → (B → Option X) → (A → B) → A → Option X
reading_of g f a = g (f a)

-- the form, if the text passes the test
abbrev pub Guarded : {A X : Type 0} → (A → Bool) → (X → A → Type 0) → X → A → Type 0
Guarded test P x a = IsTrue (test a) × P x a

-- the value, if the text passes the test
abbrev pub guarded : {A X : Type 0} → (A → Bool) → (A → Option X) → A → Option X
guarded test f a = if test a then f a else None

-- the form, if the value passes the test
abbrev pub Checked : {A X : Type 0} → (X → Bool) → (X → A → Type 0) → X → A → Type 0
Checked test P x a = P x a × IsTrue (test x)

-- the value, if it passes the test
abbrev pub checked : {A X : Type 0} → (X → Bool) → (A → Option X) → A → Option X
checked test f a = option_and_then (λ x. if test x then Some x else None) (f a)

-- a value made from the form's value
abbrev pub Told : {A X Y : Type 0} → (X → Y) → (X → A → Type 0) → Y → A → Type 0
Told {X = X} to P y a = (x : X) × (y ≡ to x) × P x a

-- a value made from the one that is found
abbrev pub told : {A X Y : Type 0} → (X → Y) → (A → Option X) → A → Option Y
told to f a = option_map to (f a)

-- ---- two texts, and a text that is cut

-- the form of the second text, if the first passes the test
abbrev pub Behind : {X : Type 0} → (List ℕ → Bool) → (X → List ℕ → Type 0) → X → List ℕ × List ℕ
    → Type 0
Behind test P x parts = IsTrue (test parts.0) × P x parts.1

-- the value found in the second of two texts, if the first passes the test
abbrev pub behind : {X : Type 0} → (List ℕ → Bool) → (List ℕ → Option X) → List ℕ × List ℕ
    → Option X
behind test f parts = if test parts.0 then f parts.1 else None

-- a form for each of two texts
abbrev pub Both : {A B X Y : Type 0} → (X → A → Type 0) → (Y → B → Type 0) → X × Y → A × B → Type 0
Both P Q xy ab = P xy.0 ab.0 × Q xy.1 ab.1

-- the values found in each of two texts
abbrev pub both : {A B X Y : Type 0} → (A → Option X) → (B → Option Y) → A × B → Option (X × Y)
both f g ab = option_and_then (λ x. option_and_then (λ y. Some (x, y)) (g ab.1)) (f ab.0)

-- the form of the two parts if a separator cuts the text, otherwise that of the whole
abbrev pub OnCut : {X : Type 0} → Separator → (X → List ℕ × List ℕ → Type 0) → (X → List ℕ → Type 0)
    → X → List ℕ → Type 0
OnCut at P Q x text =
    ((parts : List ℕ × List ℕ) × IsCut at parts text × P x parts) ⊎ (IsWhole at text × Q x text)

-- the value of the parts if the text was cut, otherwise of the whole
abbrev pub by_cut : {X : Type 0} → Option (List ℕ × List ℕ) → (List ℕ × List ℕ → Option X)
    → Option X → Option X
by_cut None f whole = whole
by_cut (Some parts) f whole = f parts

-- the value of the parts if a separator cuts the text, otherwise of the whole
abbrev pub on_cut : {X : Type 0} → Separator → (List ℕ × List ℕ → Option X) → (List ℕ → Option X)
    → List ℕ → Option X
on_cut at f g text = by_cut (cut_from at Plain text) f (g text)

-- a value for each piece between separators
abbrev pub Split : {X : Type 0} → Separator → (X → List ℕ → Type 0) → List X → List ℕ → Type 0
Split at P xs text = (pieces : List (List ℕ)) × IsSplit at pieces text × AllZip P xs pieces

-- the values found in each text of a list
abbrev pub each : {A X : Type 0} → (A → Option X) → List A → Option (List X)
each f [] = Some []
each f (a ∷ as') = option_and_then (λ x. option_and_then (λ xs. Some (x ∷ xs)) (each f as')) (f a)

-- the values found in each piece
abbrev pub split : {X : Type 0} → Separator → (List ℕ → Option X) → List ℕ → Option (List X)
split at f text = each f (split_from at Plain text)
