-- Keys that compare equal are equal.
use Rattle.std.proofs.Common.{◌≡◌, true, refl, ap}
use Rattle.std.specs.declared.cmp.Ordering.{Ordering}
use Rattle.std.specs.declared.cmp.Ordering.TheVariants.{Less, Equal, Greater}
use Rattle.std.specs.Ordering.{is_eq, ordering_then}
use Rattle.std.proofs.lemmas.Map.Lookups.{CmpEqualImpliesEq, exact_unsigned, exact_bytes}
use Rattle.std.proofs.lemmas.Map.Views.{tells_apart}
use Rattle.sip_message.specs.declared.key.Key.{Key}
use Rattle.sip_message.specs.declared.key.Key.TheVariants.{Client, Server}
use Rattle.sip_message.specs.declared.sent_by.SentBy.{SentBy}
use Rattle.sip_message.specs.Key.{key_cmp, key_writes, side_of, branch_in, host_in, port_in, method_in}

then_equal : (o p : Ordering) → ordering_then o p ≡ Equal → (o ≡ Equal) × (p ≡ Equal)
then_equal Less p e = cc
then_equal Equal p e = (refl, e)
then_equal Greater p e = cc

same_sent_by : (a b : SentBy) → a.host ≡ b.host → a.port ≡ b.port → a ≡ b
same_sent_by a b hosts ports = λ i. record { host = hosts i; port = ports i }

record SameParts (a b : Key) : Type 0 where
  side : side_of a ≡ side_of b
  branch : branch_in a ≡ branch_in b
  host : host_in a ≡ host_in b
  port : port_in a ≡ port_in b
  method : method_in a ≡ method_in b

parts : (a b : Key) → key_cmp a b ≡ Equal → SameParts a b
parts a b e =
    let m = then_equal _ _ e in
    let p = then_equal _ _ m.0 in
    let h = then_equal _ _ p.0 in
    let s = then_equal _ _ h.0 in
    record {
      side = exact_unsigned _ _ s.0;
      branch = exact_bytes _ _ s.1;
      host = exact_bytes _ _ h.1;
      port = exact_unsigned _ _ p.1;
      method = exact_bytes _ _ m.1;
    }

by_parts : (a b : Key) → SameParts a b → a ≡ b
by_parts (Client branch method) (Client branch' method') same =
    let b = same.branch in let m = same.method in cc
by_parts (Client branch method) (Server branch' sent_by' method') same = let s = same.side in cc
by_parts (Server branch sent_by method) (Client branch' method') same = let s = same.side in cc
by_parts (Server branch sent_by method) (Server branch' sent_by' method') same =
    let b = same.branch in let m =
    same.method in let s = same_sent_by sent_by sent_by' same.host same.port in cc

pub exact_keys : CmpEqualImpliesEq key_cmp
exact_keys a b e = by_parts a b (parts a b e)

-- and they are hashed alike
pub hashed_alike : (a b : Key) → is_eq (key_cmp a b) ≡ true → key_writes a ≡ key_writes b
hashed_alike a b same = ap key_writes (tells_apart exact_keys a b same)
