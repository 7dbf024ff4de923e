-- When something is next due in a ledger.
use Rattle.std.proofs.Common.{◌≡◌, ◌≢◌, ℕ, ◌+◌, nat_le, ◌||◌, ◌&&◌, Bool, true, false, cond, List, [], ◌∷◌, fold, min, Option, Some, None, refl, sym, ap, ◌∙◌, arith}
use Rattle.std.specs.List.{list_any}
use Rattle.std.specs.Option.{is_some, option_map, option_map_or}
use Rattle.std.proofs.lemmas.Bool.{lt-leb, le-leb}
use Rattle.std.proofs.lemmas.Grind.{common_steps}
use Rattle.sip_timers.specs.Earlier.{earlier}
use Rattle.sip_timers.specs.Queue.{is_due}
use Rattle.sip_reliable.specs.declared.provisional.Retransmission.{Retransmission}
use Rattle.sip_reliable.specs.declared.tick.Tick.{Tick}
use Rattle.sip_reliable.specs.declared.tick.Tick.TheVariants.{Nothing, Again, GivenUp}
use Rattle.sip_reliable.specs.Provisional.{Provisional, due_moment, is_late, is_repeated}
use Rattle.sip_reliable.specs.Ledger.{Ledger, IsNextDue, due_numbers, first_moment, next_moment, tick_answer}

or_false : (x : Bool) → (x || false) ≡ x
or_false true = refl
or_false false = refl

or_assoc : (x y z : Bool) → ((x || y) || z) ≡ (x || (y || z))
or_assoc true y z = refl
or_assoc false y z = refl

or_comm : (x y : Bool) → (x || y) ≡ (y || x)
or_comm true true = refl
or_comm true false = refl
or_comm false true = refl
or_comm false false = refl

or_swap : (a b c d : Bool) → ((a || b) || (c || d)) ≡ ((a || c) || (b || d))
or_swap true b c d = refl
or_swap false true true d = refl
or_swap false true false d = refl
or_swap false false c d = refl

earliest : (now a b : ℕ) → nat_le (min a b) now ≡ (nat_le a now || nat_le b now)
earliest now a b = grind (arith, common_steps)

earlier_due : (now : ℕ) (a b : Option ℕ)
    → is_due now (earlier a b) ≡ (is_due now a || is_due now b)
earlier_due now None b = refl
earlier_due now (Some a) None = sym (or_false (nat_le a now))
earlier_due now (Some a) (Some b) = earliest now a b

-- ---- when something is due

one_due : (now end : ℕ) (r : Option Retransmission)
    → is_due now (option_map (λ r. min r.due end) r)
    ≡ ((is_some r && nat_le end now) || option_map_or (λ r. nat_le r.due now) r false)
one_due now end None = refl
one_due now end (Some r) =
    earliest now r.due end ∙ or_comm (nat_le r.due now) (nat_le end now)

all_due : (now : ℕ) (due : Option ℕ) (ps : List Provisional)
    → is_due now (fold (λ due p. earlier due (due_moment p)) due ps)
    ≡ (is_due now due || list_any (λ p. is_due now (due_moment p)) ps)
all_due now due [] = sym (or_false (is_due now due))
all_due now due (p ∷ ps) =
    all_due now (earlier due (due_moment p)) ps
    ∙ ap (λ b. b || list_any (λ p. is_due now (due_moment p)) ps)
    (earlier_due now due (due_moment p))
    ∙ or_assoc (is_due now due) (is_due now (due_moment p))
    (list_any (λ p. is_due now (due_moment p)) ps)

some_due : (now : ℕ) (ps : List Provisional)
    → list_any (λ p. is_due now (due_moment p)) ps
    ≡ (list_any (is_late now) ps || list_any (is_repeated now) ps)
some_due now [] = refl
some_due now (p ∷ ps) =
    (λ i. one_due now (p.sent + 32000) p.retransmission i || some_due now ps i)
    ∙ or_swap (is_late now p) (is_repeated now p) (list_any (is_late now) ps)
    (list_any (is_repeated now) ps)

-- ---- what a tick answers then

abbrev pub is_something : Tick → Bool
is_something Nothing = false
is_something (Again numbers) = true
is_something GivenUp = true

by_answer : (late repeated : Bool) (again : Tick) → is_something again ≡ true
    → (late || repeated) ≡ is_something (cond late GivenUp (cond repeated again Nothing))
by_answer true repeated again some = refl
by_answer false true again some = sym some
by_answer false false again some = refl

open_due : (now : ℕ) (closed : Bool) (ps : List Provisional)
    → is_due now (cond closed None (first_moment ps))
    ≡ is_something (cond closed Nothing
    (cond (list_any (is_late now) ps) GivenUp
    (cond (list_any (is_repeated now) ps) (Again record { items = due_numbers now ps }) Nothing)))
open_due now true ps = refl
open_due now false ps =
    all_due now None ps ∙ some_due now ps
    ∙ by_answer (list_any (is_late now) ps) (list_any (is_repeated now) ps)
    (Again record { items = due_numbers now ps }) refl

-- something is due in a ledger exactly if a tick of it isn't nothing
pub ledger_due : (now : ℕ) (l : Ledger)
    → is_due now (next_moment l) ≡ is_something (tick_answer l now)
ledger_due now l = open_due now l.closed l.waiting

pub nothing_from : (t : Tick) → is_something t ≡ false → t ≡ Nothing
nothing_from Nothing e = refl
nothing_from (Again numbers) e = absurd cc
nothing_from GivenUp e = absurd cc

something_from : (t : Tick) → is_something t ≡ true → t ≢ Nothing
something_from Nothing e = absurd cc
something_from (Again numbers) e = λ same. absurd cc
something_from GivenUp e = λ same. absurd cc

next_by : (answers : ℕ → Tick) (moment : Option ℕ)
    → ((now : ℕ) → is_due now moment ≡ is_something (answers now)) → IsNextDue answers moment
next_by answers None stands = λ now. nothing_from (answers now) (sym (stands now))
next_by answers (Some due) stands = (
  something_from (answers due) (sym (stands due) ∙ le-leb due due (omega arith)),
  λ now early. nothing_from (answers now) (sym (stands now) ∙ lt-leb due now early),
)

pub next_is_earliest : (l : Ledger) → IsNextDue (tick_answer l) (next_moment l)
next_is_earliest l = next_by (tick_answer l) (next_moment l) (λ now. ledger_due now l)
