-- What the statuses 1 and 3 of a replay tell of its input, and that a file never ends in status 1.
use Rattle.std.proofs.Common.{◌≡◌, ◌≢◌, ◌⊎◌, inl, inr, ℕ, ◌<◌, ◌≤◌, ◌^◌, Bool, List, length, Option, Some, None, IfSome, ap, arith, sym, ◌∙◌}
use Rattle.std.specs.Prelude.{IfErr, MatchResult, Result, Ok, Err}
use Rattle.sip_files.specs.declared.version.FileKind.{FileKind}
use Rattle.sip_files.specs.EventFile.{IsFile}
use Rattle.sip_files.proofs.FileFaults.{never_bad}
use Rattle.sip_files.specs.declared.events_fault.EventsFault.{EventsFault}
use Rattle.sip_files.specs.declared.events_fault.EventsFault.TheVariants.{TooLong, BadVersion, BadLine}
use Rattle.sip_files.specs.declared.events_fault.EventsFault.TheVariants as events_fault
use Rattle.sip_files.specs.declared.file_replay.ReplayFault.{ReplayFault}
use Rattle.sip_files.specs.declared.file_replay.ReplayFault.TheVariants.{Input, Events, Round, Output, NoMemory}
use Rattle.sip_round.specs.declared.round_fault.RoundFault.{RoundFault}
use Rattle.sip_round.specs.declared.round_fault.RoundFault.TheVariants as round_fault
use Rattle.sip_ua.specs.EventsStatus.{events_status}
use Rattle.sip_ua.specs.Inputs.{HasRefusedRound, IsNoFile}
use Rattle.sip_ua.specs.Repair.{TellsRepair, replayed}
use Rattle.sip_ua.specs.RoundStatus.{round_status}
use Rattle.sip_ua.specs.Status.{fault_status}

differs : (status : ℕ) → status ≡ 1 → status ≡ 5 → ⊥
differs status one five = omega arith

no_file : (kind : FileKind) (text : List ℕ) → IsNoFile kind text → IsFile kind text → ⊥
no_file kind text none file =
    differs (events_status none.0) none.1
    (ap events_status (never_bad kind none.0 text none.2 file))

-- what an end in status 1 tells of the input
abbrev pub IsNoInput : FileKind → Bool → List ℕ → Type 0
IsNoInput kind repairs input = (2 ^ 26 < length input) ⊎ IsNoFile kind (replayed kind repairs input)

too_long : (size : ℕ) → 2 ^ 26 < size → size ≤ 2 ^ 26 → ⊥
too_long size long short = omega arith

never_ends_in_1 : (kind : FileKind) (repairs : Bool) (known : Option (List ℕ)) (status : ℕ)
    → (status ≡ 1 → IfSome known (IsNoInput kind repairs))
    → IfSome known
    (λ input. length input ≤ 2 ^ 26 → IsFile kind (replayed kind repairs input) → status ≢ 1)
never_ends_in_1 kind repairs None status tells = tt
never_ends_in_1 kind repairs (Some input) status tells = λ short file is.
    elim (tells is) [
      | inl long ↦ too_long (length input) long short
      | inr none ↦ no_file kind (replayed kind repairs input) none file
    ]

pub zero : (status : ℕ) → status ≡ 0 → status ≡ 1 → ⊥
zero status is one = omega arith

three : (status : ℕ) → status ≡ 3 → status ≡ 1 → ⊥
three status is one = omega arith

pub four : (status : ℕ) → status ≡ 4 → status ≡ 1 → ⊥
four status is one = omega arith

pub five : (status : ℕ) → status ≡ 5 → status ≡ 1 → ⊥
five status is one = omega arith

pub a_round : (fault : RoundFault) (status : ℕ) → status ≡ round_status fault → status ≡ 1 → ⊥
a_round round_fault.Broken status is one = three status is one
a_round round_fault.MomentBackwards status is one = three status is one
a_round round_fault.MomentTooLarge status is one = three status is one
a_round round_fault.TooManyEvents status is one = three status is one
a_round round_fault.RoundsUsedUp status is one = three status is one
a_round (round_fault.NoMemory broken) status is one = five status is one

-- what a replay that ends in status 1 tells of its input
pub status_1 : (kind : FileKind) (repairs : Bool) (known : Option (List ℕ))
    (end : Result (Unit {0}) ReplayFault) (status : ℕ)
    → MatchResult end (λ done. status ≡ 0) (λ fault. status ≡ fault_status fault)
    → IfErr end (λ fault. IfSome known (TellsRepair kind repairs fault))
    → status ≡ 1 → IfSome known (IsNoInput kind repairs)
status_1 kind repairs None end status ends tells one = tt
status_1 kind repairs (Some input) (Ok done) status ends tells one = absurd (zero status ends one)
status_1 kind repairs (Some input) (Err fault) status ends (inl long) one = inl long.1
status_1 kind repairs (Some input) (Err Input) status ends (inr tells) one =
    absurd (four status ends one)
status_1 kind repairs (Some input) (Err (Events fault)) status ends (inr tells) one =
    inr (fault, sym ends ∙ one, tells)
status_1 kind repairs (Some input) (Err (Round index fault)) status ends (inr tells) one =
    absurd (a_round fault status ends one)
status_1 kind repairs (Some input) (Err Output) status ends (inr tells) one =
    absurd (four status ends one)
status_1 kind repairs (Some input) (Err NoMemory) status ends (inr tells) one =
    absurd (five status ends one)

apart : (status other : ℕ) → status ≡ other → status ≡ 3 → (other ≡ 3 → ⊥) → ⊥
apart status other is three not = not (sym is ∙ three)

a_file_fault : (fault : EventsFault) → events_status fault ≡ 3 → ⊥
a_file_fault TooLong is = omega arith
a_file_fault BadVersion is = omega arith
a_file_fault (BadLine number) is = omega arith
a_file_fault events_fault.NoMemory is = omega arith

five_or_three : (status : ℕ) → status ≡ 5 → status ≡ 3 → ⊥
five_or_three status five three = omega arith

out_of_memory : (fault : RoundFault) (broken : Bool) → fault ≡ round_fault.NoMemory broken
    → round_status fault ≡ 3 → ⊥
out_of_memory fault broken is three =
    five_or_three (round_status fault) (ap round_status is) three

-- what a replay that ends in status 3 tells of its input
pub status_3 : (kind : FileKind) (repairs : Bool) (known : Option (List ℕ))
    (end : Result (Unit {0}) ReplayFault) (status : ℕ)
    → MatchResult end (λ done. status ≡ 0) (λ fault. status ≡ fault_status fault)
    → IfErr end (λ fault. IfSome known (TellsRepair kind repairs fault))
    → status ≡ 3 → IfSome known (λ input. HasRefusedRound kind (replayed kind repairs input))
status_3 kind repairs None end status ends tells three = tt
status_3 kind repairs (Some input) (Ok done) status ends tells three =
    absurd (apart status 0 ends three (λ is. omega arith))
status_3 kind repairs (Some input) (Err fault) status ends (inl long) three =
    absurd (apart status 1 (ends ∙ ap fault_status long.0) three (λ is. omega arith))
status_3 kind repairs (Some input) (Err Input) status ends (inr tells) three =
    absurd (apart status 4 ends three (λ is. omega arith))
status_3 kind repairs (Some input) (Err (Events fault)) status ends (inr tells) three =
    absurd (a_file_fault fault (sym ends ∙ three))
status_3 kind repairs (Some input) (Err (Round index fault)) status ends (inr (inl none)) three =
    absurd (out_of_memory fault none.0 none.1 (sym ends ∙ three))
status_3 kind repairs (Some input) (Err (Round index fault)) status ends (inr (inr told)) three =
    (index, fault, told)
status_3 kind repairs (Some input) (Err Output) status ends (inr tells) three =
    absurd (apart status 4 ends three (λ is. omega arith))
status_3 kind repairs (Some input) (Err NoMemory) status ends (inr tells) three =
    absurd (apart status 5 ends three (λ is. omega arith))

pub never_status_1 : (kind : FileKind) (repairs : Bool) (known : Option (List ℕ))
    (end : Result (Unit {0}) ReplayFault) (status : ℕ)
    → MatchResult end (λ done. status ≡ 0) (λ fault. status ≡ fault_status fault)
    → IfErr end (λ fault. IfSome known (TellsRepair kind repairs fault))
    → IfSome known
    (λ input. length input ≤ 2 ^ 26 → IsFile kind (replayed kind repairs input) → status ≢ 1)
never_status_1 kind repairs known end status ends tells =
    never_ends_in_1 kind repairs known status (status_1 kind repairs known end status ends tells)
