-- What the pieces of a text are, and why there are none.
use Rattle.std.specs.Prelude.{◌≡◌, ℕ, true, false, List, map, Option}
use Rattle.std.specs.Option.{option_copied}
use Rattle.std.specs.Borrow.{Bor}
use Rattle.sip_text.specs.Forms.{Split}
use Rattle.sip_text.specs.OpenQuote.{has_open_quote}
use Rattle.sip_text.specs.Parameter.{AreParameters}
use Rattle.sip_text.specs.Trimmed.{trimmed}
use Rattle.sip_text.specs.declared.fault.TextFault.{TextFault}
use Rattle.sip_text.specs.declared.fault.TextFault.TheVariants as fault
use Rattle.sip_text.specs.declared.parameters.ParameterText.{ParameterText}
use Rattle.sip_text.specs.declared.separator.Separator.TheVariants.{Byte}

-- what the references point to
abbrev pub all_now : List (Bor (List ℕ)) → List (List ℕ)
all_now texts = map (λ text. text.now) texts

abbrev pub parameter_now : ParameterText → List ℕ × Option (List ℕ)
parameter_now p = (p.name.now, option_copied p.value)

abbrev pub IsTrimmed : List ℕ → List ℕ → Type 0
IsTrimmed value text = value ≡ trimmed text

-- The values of a list, without the white space around them; no quoted string is left open.
pub record AreValues (values : List (List ℕ)) (text : List ℕ) : Type 0 where
  pub closed : has_open_quote text ≡ false
  pub values_are : Split (Byte 44) IsTrimmed values text

-- The parameters of a text; no quoted string is left open.
pub record AreClosedParameters (parameters : List (List ℕ × Option (List ℕ)))
    (text : List ℕ) : Type 0 where
  pub closed : has_open_quote text ≡ false
  pub parameters_are : AreParameters parameters text

-- why a text isn't a list of values
abbrev pub TellsList : TextFault → List ℕ → Type 0
TellsList fault.OpenQuote text = has_open_quote text ≡ true
TellsList fault.NoMemory text = Unit {0}
TellsList other text = ⊥

-- why a text isn't parameters
abbrev pub TellsParameters : TextFault → List ℕ → Type 0
TellsParameters fault.OpenQuote text = has_open_quote text ≡ true
TellsParameters fault.NotAToken text =
    (has_open_quote text ≡ false) × ((parameters : List (List ℕ × Option (List ℕ)))
    → AreParameters parameters text → ⊥)
TellsParameters fault.NoMemory text = Unit {0}
TellsParameters fault.NumberTooLarge text = ⊥

-- memory ran out; there is no other reason
abbrev pub TellsMemory : TextFault → Type 0
TellsMemory fault.NoMemory = Unit {0}
TellsMemory other = ⊥
