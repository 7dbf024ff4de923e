-- When something of a held request is due.
use Rattle.std.proofs.Common.{◌≡◌, ℕ, Bool, true, false, not, ◌||◌, min, nat_le, nat_lt, List, [], ◌∷◌, refl, sym, ap, subst, ◌∙◌, arith}
use Rattle.std.specs.Prelude.{Option, None, Some, fold, if◌then◌else◌}
use Rattle.std.specs.List.{list_any}
use Rattle.std.specs.Option.{is_some, option_and_then, option_map_or}
use Rattle.std.proofs.lemmas.Grind.{common_steps}
use Rattle.sip_timers.specs.Queue.{is_due}
use Rattle.sip_timers.specs.Earlier.{earlier}
use Rattle.keyed_machine.specs.Groups.{speaks}
use Rattle.sip_message.specs.declared.message.Message.{Message}
use Rattle.sip_reliable.specs.Ledger.{next_moment, tick_answer}
use Rattle.sip_held_dialogs.proofs.Dues.{earlier_due, earliest, or_assoc, or_false}
use Rattle.sip_served.specs.declared.held_request.HeldRequest.{HeldRequest}
use Rattle.sip_served.specs.declared.held_request.Success.{Success}
use Rattle.sip_served.specs.declared.retransmissions.SuccessDue.{SuccessDue}
use Rattle.sip_served.specs.declared.retransmissions.SuccessDue.TheVariants as repeat
use Rattle.sip_served.specs.Tick.{next_due_of, request_due, request_ticked, success_answer, success_moment, success_at_tick, success_ticked, success_told}
use Rattle.sip_served.proofs.RequestLives.{provisionals_alone, success_alone}

-- ---- the 2xx

abbrev pub is_something : SuccessDue → Bool
is_something repeat.Nothing = false
is_something repeat.Again = true
is_something repeat.GivenUp = true

by_answer : (late repeated : Bool) → (late || repeated)
    ≡ is_something (if late then repeat.GivenUp
    else (if repeated then repeat.Again else repeat.Nothing))
by_answer true repeated = refl
by_answer false true = refl
by_answer false false = refl

two_due : (over : Bool) (now end due : ℕ)
    → is_due now (if over then None else Some (min end due))
    ≡ is_something (if over then repeat.Nothing
    else (if nat_le end now then repeat.GivenUp
    else (if nat_le due now then repeat.Again else repeat.Nothing)))
two_due true now end due = refl
two_due false now end due = earliest now end due ∙ by_answer (nat_le end now) (nat_le due now)

pub success_due : (now : ℕ) (success : Success)
    → is_due now (success_moment success) ≡ is_something (success_answer now success)
success_due now success =
    two_due (is_some success.over) now success.end (success.retransmission).due

told_some : (t : SuccessDue) (held : HeldRequest) (response : Message)
    → speaks (success_told t held response) ≡ is_something t
told_some repeat.Nothing held response = refl
told_some repeat.Again held response = refl
told_some repeat.GivenUp held response = refl

pub nothing_from : (t : SuccessDue) → is_something t ≡ false → t ≡ repeat.Nothing
nothing_from repeat.Nothing e = refl
nothing_from repeat.Again e = absurd cc
nothing_from repeat.GivenUp e = absurd cc

pub success_says : (now : ℕ) (held : HeldRequest) (o : Option Success)
    → speaks (success_at_tick now held o).1 ≡ is_due now (option_and_then success_moment o)
success_says now held None = refl
success_says now held (Some success) =
    told_some (success_answer now success) held success.response ∙ sym (success_due now success)

-- ---- one request

-- a tick of the 2xx changes neither the provisional responses nor the removal
pub record Kept (held after : HeldRequest) : Type 0 where
  pub ledger : after.ledger ≡ held.ledger
  pub removal : after.removal ≡ held.removal

pub success_keeps : (now : ℕ) (held : HeldRequest) (o : Option Success)
    → Kept held (success_at_tick now held o).0
success_keeps now held o =
    subst (Kept held) (sym (success_alone now held o).1) record { ledger = refl; removal = refl }

pub removal_kept : (now : ℕ) (held : HeldRequest)
    → ((request_ticked now held).0).removal ≡ held.removal
removal_kept now held =
    let first = (success_ticked now held).0 in
    ap (λ (held : HeldRequest). held.removal)
    (provisionals_alone (tick_answer first.ledger now) now first)
    ∙ (success_keeps now held held.success).removal

pub removal_due : (now : ℕ) (removal : Option ℕ)
    → not (option_map_or (λ moment. nat_lt now moment) removal true) ≡ is_due now removal
removal_due now None = refl
removal_due now (Some moment) = grind (arith, common_steps)

-- something of a request is due if its 2xx, its provisional responses or its removal is due
pub request_due_of : (now : ℕ) (held : HeldRequest)
    → is_due now (request_due held)
    ≡ ((is_due now (option_and_then success_moment held.success)
    || is_due now (next_moment held.ledger)) || is_due now held.removal)
request_due_of now held =
    earlier_due now (earlier (option_and_then success_moment held.success)
    (next_moment held.ledger)) held.removal
    ∙ ap (λ b. b || is_due now held.removal)
    (earlier_due now (option_and_then success_moment held.success) (next_moment held.ledger))

-- ---- all requests

all_due : (now : ℕ) (due : Option ℕ) (requests : List HeldRequest)
    → is_due now (fold (λ due held. earlier due (request_due held)) due requests)
    ≡ (is_due now due || list_any (λ held. is_due now (request_due held)) requests)
all_due now due [] = sym (or_false (is_due now due))
all_due now due (held ∷ requests) =
    all_due now (earlier due (request_due held)) requests
    ∙ ap (λ b. b || list_any (λ held. is_due now (request_due held)) requests)
    (earlier_due now due (request_due held))
    ∙ or_assoc (is_due now due) (is_due now (request_due held))
    (list_any (λ held. is_due now (request_due held)) requests)

pub requests_due : (now : ℕ) (requests : List HeldRequest)
    → is_due now (next_due_of requests) ≡ list_any (λ held. is_due now (request_due held)) requests
requests_due now requests = all_due now None requests
