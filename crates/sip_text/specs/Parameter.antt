-- Parameters as text (RFC 3261, sections 7.3.1 and 25.1): each a semicolon, a token, and optionally
-- `=` and a value, with white space allowed around both marks.
use Rattle.std.specs.Prelude.{ℕ, Bool, not, ◌||◌, List, [], Option, Some, None, codes}
use Rattle.std.specs.List.{list_all}
use Rattle.sip_text.specs.Character.{is_among, is_blank}
use Rattle.sip_text.specs.Token.{is_run, is_token}
use Rattle.sip_text.specs.Trimmed.{trimmed}
use Rattle.sip_text.specs.Quoted.{is_quoted}
use Rattle.sip_text.specs.Forms.{Passing, passing, Always, always, Of, reading_of, Guarded, guarded, Behind, behind, Told, told, Both, both, OnCut, on_cut, Split, split}
use Rattle.sip_text.specs.declared.separator.Separator.TheVariants.{Byte}

-- ---- names and values

-- a byte of a value without quotes
unfoldable pub is_value_byte : ℕ → Bool
is_value_byte b = not (is_among (codes " \t\r\n;,<>\"") b)

-- a run of such bytes that isn't empty
unfoldable pub is_value_word : List ℕ → Bool
is_value_word text = is_run is_value_byte text

-- a quoted string, or a run without white space and marks
unfoldable pub is_parameter_value : List ℕ → Bool
is_parameter_value text = is_quoted text || is_value_word text

-- nothing but blanks, or nothing at all
abbrev pub is_blanks : List ℕ → Bool
is_blanks text = list_all is_blank text

-- a token, with white space allowed around it
abbrev pub Name : List ℕ → List ℕ → Type 0
Name name text = Of (Passing is_token) trimmed name text

-- the name, with white space allowed around it
abbrev pub name_from : List ℕ → Option (List ℕ)
name_from text = reading_of (passing is_token) trimmed text

-- a value, with white space allowed around it
abbrev pub Value : List ℕ → List ℕ → Type 0
Value value text = Of (Passing is_parameter_value) trimmed value text

-- the value, with white space allowed around it
abbrev pub value_from : List ℕ → Option (List ℕ)
value_from text = reading_of (passing is_parameter_value) trimmed text

-- ---- one parameter, and several

-- a name and a value
abbrev pub with_value : List ℕ × List ℕ → List ℕ × Option (List ℕ)
with_value parts = (parts.0, Some parts.1)

-- a name alone
abbrev pub without_value : List ℕ → List ℕ × Option (List ℕ)
without_value name = (name, None)

-- a name, `=` and a value, or a name alone
abbrev pub IsParameter : List ℕ × Option (List ℕ) → List ℕ → Type 0
IsParameter parameter text =
    OnCut (Byte 61) (Told with_value (Both Name Value)) (Told without_value Name) parameter text

-- the parameter that is read
abbrev pub parameter_from : List ℕ → Option (List ℕ × Option (List ℕ))
parameter_from text = on_cut (Byte 61) (told with_value (both name_from value_from))
    (told without_value name_from) text

-- nothing, or once or more a semicolon and what has this form; white space may stand first
abbrev pub Parameters : {X : Type 0} → (X → List ℕ → Type 0) → List X → List ℕ → Type 0
Parameters P xs text =
    OnCut (Byte 59) (Behind is_blanks (Split (Byte 59) P)) (Guarded is_blanks (Always [])) xs text

-- the parameters that are read
abbrev pub parameters_from : {X : Type 0} → (List ℕ → Option X) → List ℕ → Option (List X)
parameters_from f text =
    on_cut (Byte 59) (behind is_blanks (split (Byte 59) f)) (guarded is_blanks (always [])) text

abbrev pub AreParameters : List (List ℕ × Option (List ℕ)) → List ℕ → Type 0
AreParameters parameters text = Parameters IsParameter parameters text
