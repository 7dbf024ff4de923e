-- Entries that have the same keys and the same values.
use Rattle.std.proofs.Common.{◌≡◌, List, [], ◌∷◌, refl}
use Rattle.std.specs.Map.{keys_of, values_of}

pub same_entries : {K V : Type 0} (es fs : List (K × V)) → keys_of es ≡ keys_of fs
    → values_of es ≡ values_of fs → es ≡ fs
same_entries [] [] keys values = refl
same_entries [] (f ∷ fs) keys values = cc
same_entries (e ∷ es) [] keys values = cc
same_entries ((k, v) ∷ es) ((l, w) ∷ fs) keys values =
    let other_keys : keys_of es ≡ keys_of fs = cc in
    let other_values : values_of es ≡ values_of fs = cc in
    let rest = same_entries es fs other_keys other_values in
    cc
