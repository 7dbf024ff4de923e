-- What a way in or out tells, from one step to the next.
use Rattle.std.proofs.Common.{◌≡◌, List, [], ◌++◌, ap, append-nil, append_assoc, subst, sym, ◌∙◌}
use Rattle.std.specs.Prelude.{Option, Some, None}
use Rattle.sip_udp.specs.Adds.{Adds}

module _ {A : Type 0} where
  pub adds_nothing : (now : Option (List A)) → Adds now now []
  adds_nothing None = tt
  adds_nothing (Some before) = ap Some (sym (append-nil before))

  pub adds_more : (a b c : Option (List A)) (xs ys : List A) → Adds a b xs → Adds b c ys
      → Adds a c (xs ++ ys)
  adds_more None b c xs ys p q = tt
  adds_more (Some before) b c xs ys p q =
      let at : c ≡ Some ((before ++ xs) ++ ys) = subst (λ x. Adds x c ys) p q in
      at ∙ ap Some (append_assoc before xs ys)
