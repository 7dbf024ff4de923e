-- Keys that compare equal are the same.
use Rattle.std.proofs.Common.{◌≡◌, true, subst}
use Rattle.std.specs.Cmp.{eq_by_cmp_equiv}
use Rattle.std.specs.Ordering.{eq_by_cmp}
use Rattle.std.proofs.lemmas.Map.Views.{tells_apart}
use Rattle.sip_message.specs.Key.{key_cmp, keys_total}
use Rattle.sip_message.specs.Keys.{exact_keys}
use Rattle.sip_message.specs.declared.key.Key.{Key}

pub same_keys : (a b : Key) → eq_by_cmp key_cmp a b ≡ true → a ≡ b
same_keys a b equal = tells_apart exact_keys a b equal

pub equal_keys : (a b : Key) → a ≡ b → eq_by_cmp key_cmp a b ≡ true
equal_keys a b same = subst (λ key. eq_by_cmp key_cmp a key ≡ true) same
    ((eq_by_cmp_equiv keys_total).refl a)
