-- `AddrDisplay::fmt` writes the address as `a.b.c.d:port`.
use Rattle.std.proofs.Common.{◌≡◌, ℕ, List, [], ◌∷◌, ◌++◌, sym, ◌∙◌, append_assoc, codes}
use Rattle.std.proofs.Output.{has_written_of_eq}
use Rattle.sip_message.proofs.addr.AddrDisplay.fmt.Goals as goal

regrouped : (front : List ℕ) (mark : ℕ) (word rest : List ℕ)
    → front ++ mark ∷ (word ++ rest) ≡ front ++ mark ∷ [] ++ word ++ rest
regrouped front mark word rest =
    sym (append_assoc front (mark ∷ []) (word ++ rest))
    ∙ sym (append_assoc (front ++ mark ∷ []) word rest)

dotted : (a b c d port : List ℕ)
    → a ++ 46 ∷ (b ++ 46 ∷ (c ++ 46 ∷ (d ++ 58 ∷ port))) ≡ a ++ codes "." ++ b ++ codes "." ++ c
    ++ codes "." ++ d ++ codes ":" ++ port
dotted a b c d port =
    let two : List ℕ = a ++ codes "." ++ b in
    let three : List ℕ = two ++ codes "." ++ c in
    let four : List ℕ = three ++ codes "." ++ d in
    regrouped a 46 b (46 ∷ (c ++ 46 ∷ (d ++ 58 ∷ port)))
    ∙ regrouped two 46 c (46 ∷ (d ++ 58 ∷ port))
    ∙ regrouped three 46 d (58 ∷ port)
    ∙ sym (append_assoc four (codes ":") port)

pub returns-clause-writes : goal.returns-clause-writes
returns-clause-writes g c plain ok =
    has_written_of_eq _ _ _ _ _ (dotted _ _ _ _ _) (c.write.ensures.writes plain ok)
