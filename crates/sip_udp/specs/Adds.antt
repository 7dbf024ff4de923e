-- What a way in or out tells of itself, if it does.
use Rattle.std.specs.Prelude.{◌≡◌, List, ◌++◌, Option, Some, IfSome}

-- if it tells all so far, these come next, in order
abbrev pub Adds : {A : Type 0} → Option (List A) → Option (List A) → List A → Type 0
Adds old new more = IfSome old (λ before. new ≡ Some (before ++ more))
