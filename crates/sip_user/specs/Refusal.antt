-- Refusals: the first that fits, and their numbers in an output file.
use Rattle.std.specs.Prelude.{ℕ, Bool, List, [], ◌∷◌, Option, Some, if◌then◌else◌}
use Rattle.sip_user.specs.declared.refusal.Refusal.{Refusal}
use Rattle.sip_user.specs.declared.refusal.Refusal.TheVariants.{CallInUse, NoSuchCall, NoSuchDialog, NoSuchRequest, AlreadyFinal, BadStatus, ReliablePending, NotSupported, NothingToAck, NothingToPrack, SequenceUsedUp, StrictRoute, DialogEnded, BadMethod}

-- the refusal of the first condition that is true, or the given one if none is
abbrev pub first_refusal : List (Bool × Refusal) → Option Refusal → Option Refusal
first_refusal [] otherwise = otherwise
first_refusal ((holds, refusal) ∷ others) otherwise =
    if holds then Some refusal else first_refusal others otherwise

-- ---- for steps and laws: `run` needs nothing of what follows

-- the number of a refusal
abbrev pub number_of : Refusal → ℕ
number_of CallInUse = 1
number_of NoSuchCall = 2
number_of NoSuchDialog = 3
number_of NoSuchRequest = 4
number_of AlreadyFinal = 5
number_of BadStatus = 6
number_of ReliablePending = 7
number_of NotSupported = 8
number_of NothingToAck = 9
number_of NothingToPrack = 10
number_of SequenceUsedUp = 11
number_of StrictRoute = 12
number_of DialogEnded = 13
number_of BadMethod = 14
