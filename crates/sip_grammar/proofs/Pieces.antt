-- Steps that give a value or none.
use Rattle.std.proofs.Common.{◌≡◌, Bool, true, false, refl}
pub use Rattle.std.proofs.lemmas.Option.{cond_some as guard_some}
pub use Rattle.sip_text.proofs.Separators.{mapped as map_some, not_mapped as map_none}

pub by_bool : (b : Bool) (P : Bool → Type 0) → (b ≡ true → P true) → (b ≡ false → P false) → P b
by_bool true P yes_case no_case = yes_case refl
by_bool false P yes_case no_case = no_case refl
