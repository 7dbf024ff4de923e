-- Reading parameters finds exactly what their form says.
use Rattle.std.proofs.Common.{ℕ, List, Option, refl, map, [], ◌∷◌}
use Rattle.std.specs.List.{AllZip}
use Rattle.sip_text.specs.Parameter.{Name, name_from, Value, value_from, with_value, without_value, IsParameter, parameter_from, Parameters, parameters_from, is_blanks, is_parameter_value}
use Rattle.sip_text.specs.Token.{is_token}
use Rattle.sip_text.specs.Pieces.{IsTrimmed}
use Rattle.sip_text.specs.Trimmed.{trimmed}
use Rattle.sip_text.specs.declared.separator.Separator.TheVariants.{Byte}
use Rattle.sip_text.proofs.ReadForms.{Reads, passing_reads, always_reads, of_reads, guarded_reads, behind_reads, told_reads, both_reads, cut_reads, split_reads}

pub name_reads : Reads (List ℕ) (List ℕ) name_from Name
name_reads = of_reads trimmed (passing_reads is_token)

pub value_reads : Reads (List ℕ) (List ℕ) value_from Value
value_reads = of_reads trimmed (passing_reads is_parameter_value)

pub parameter_reads : Reads (List ℕ) (List ℕ × Option (List ℕ)) parameter_from IsParameter
parameter_reads = cut_reads (Byte 61) (told_reads with_value (both_reads name_reads value_reads))
    (told_reads without_value name_reads)

pub parameters_reads : {X : Type 0} {f : List ℕ → Option X} {P : X → List ℕ → Type 0}
    → Reads (List ℕ) X f P → Reads (List ℕ) (List X) (parameters_from f) (Parameters P)
parameters_reads reads =
    cut_reads (Byte 59) (behind_reads is_blanks (split_reads (Byte 59) reads))
    (guarded_reads is_blanks (always_reads []))

pub all_trimmed : (texts : List (List ℕ)) → AllZip IsTrimmed (map trimmed texts) texts
all_trimmed [] = tt
all_trimmed (text ∷ texts) = (refl, all_trimmed texts)
