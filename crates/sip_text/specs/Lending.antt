-- What a boxed value is after it was lent for writing.
use denote.RattleType.{RattleType}
use Rattle.std.specs.Borrow.{Fml, Lends, MutBor}
use Rattle.sip_text.specs.contracts.boxed.Boxed.{the_row}

-- it is what the reference left behind
abbrev pub BoxedLends : (T : RattleType) → MutBor T.Denot → MutBor T.Denot → Fml
BoxedLends T s r = Lends (the_row T) T s r (λ value. value)
