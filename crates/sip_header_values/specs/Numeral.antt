-- Words in the place of a number (RFC 3261, section 25.1).
use Rattle.std.specs.Prelude.{ℕ, List, Option}
use Rattle.std.specs.Option.{option_map_or}
use Rattle.std.specs.Result.{result_ok}
use Rattle.sip_text.specs.Forms.{Passing, passing, Told, told}
use Rattle.sip_text.specs.Number.{number_of}
use Rattle.sip_grammar.specs.Word.{is_word}
use Rattle.sip_header_values.specs.declared.numeral.Numeral.{Numeral}
use Rattle.sip_header_values.specs.declared.numeral.Numeral.TheVariants.{Number, NotANumber}

-- the number that a word stands for, or that it stands for none
abbrev pub numeral : List ℕ → Numeral
numeral word = option_map_or Number (result_ok (number_of word)) NotANumber

-- a word without white space, and the number that it stands for, if any
abbrev pub IsNumeral : Numeral → List ℕ → Type 0
IsNumeral value text = Told numeral (Passing is_word) value text

-- what reading such a word finds
abbrev pub numeral_from : List ℕ → Option Numeral
numeral_from text = told numeral (passing is_word) text
