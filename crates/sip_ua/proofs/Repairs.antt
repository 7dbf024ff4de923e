-- The front of a file that is written where only what is whole of the input is replayed.
use Rattle.std.proofs.Common.{◌≡◌, ℕ, Bool, true, false, List, Option, Some, None, IfSome, ap, subst, ◌∙◌}
use Rattle.sip_files.specs.declared.version.FileKind.{FileKind}
use Rattle.sip_files.specs.Replay.{WritesFront}
use Rattle.sip_ua.specs.Repair.{replayed, whole}

pub whole_front : (kind : FileKind) (repairs : Bool) → repairs ≡ true
    → (old new known : Option (List ℕ)) (text front : List ℕ) → front ≡ whole kind text
    → IfSome known (λ input. text ≡ input) → WritesFront kind old new front
    → IfSome known (λ input. WritesFront kind old new (replayed kind repairs input))
whole_front kind false is old new known text front parts all writes = absurd cc
whole_front kind true is old new None text front parts all writes = tt
whole_front kind true is old new (Some input) text front parts all writes =
    subst (WritesFront kind old new) (parts ∙ ap (whole kind) all) writes
