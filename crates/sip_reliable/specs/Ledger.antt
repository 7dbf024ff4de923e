-- The reliable provisional responses of one INVITE that wait for a PRACK (RFC 3262, section 3).
-- Moments are in milliseconds.
use Rattle.std.specs.Prelude.{◌≡◌, ◌≢◌, ◌<◌, ◌≤◌, ℕ, ◌+◌, ◌==◌, nat_lt, not, Bool, true, IsTrue, ◌||◌, if◌then◌else◌, List, [], ◌∷◌, ◌++◌, map, filter, count_by, fold, Option, None, Some, Result, Ok, Err, length}
use Rattle.std.specs.List.{list_any}
use Rattle.sip_timers.specs.Earlier.{earlier}
use Rattle.sip_reliable.specs.declared.provisional.TheConstants.{MOST_WAITING}
use Rattle.sip_reliable.specs.declared.tick.Tick.{Tick}
use Rattle.sip_reliable.specs.declared.tick.Tick.TheVariants.{Nothing, Again, GivenUp}
use Rattle.sip_reliable.specs.declared.send_fault.SendFault.{SendFault}
use Rattle.sip_reliable.specs.declared.send_fault.SendFault.TheVariants as fault
use Rattle.sip_reliable.specs.Happening.{Happening, Sends, Repeats, GivesUp, Acknowledges, Closes, is_sending, is_acknowledgment_of, is_closing}
use Rattle.sip_reliable.specs.Provisional.{Provisional, after_repeat, due_moment, given_up, is_given_up, is_late, is_repeated, sent_before}

-- the RSeq of the first response, that of the next, whether the INVITE has 100rel, whether a final
-- response was sent, and the responses that wait for their PRACK, in the order of their RSeqs
pub record Ledger : Type 0 where
  pub first : ℕ
  pub next : ℕ
  pub supported : Bool
  pub closed : Bool
  pub waiting : List Provisional

-- whether the response with this number waits for its PRACK
abbrev pub waits_for : ℕ → Ledger → Bool
waits_for number l = list_any (λ p. p.number == number) l.waiting

-- None may be sent yet: the first waits for its PRACK, or 8 do, or one that was given up does.
abbrev pub must_wait : Ledger → Bool
must_wait l =
    waits_for l.first l || (length l.waiting == MOST_WAITING) || list_any is_given_up l.waiting

-- the response with this number waits no longer
abbrev pub acknowledged : ℕ → Ledger → Ledger
acknowledged number l = record l { waiting = filter (λ p. not (p.number == number)) l.waiting }

-- no further reliable response is sent, and none is sent again
abbrev pub closed_now : Ledger → Ledger
closed_now l = record l { closed = true }

-- ---- for steps and laws: `run` needs none of what follows

-- why the next response can't be sent: the first reason that fits
abbrev pub send_fault : Ledger → Option SendFault
send_fault l =
    if l.closed then Some fault.Closed
    else if not l.supported then Some fault.NotSupported
    else if must_wait l then Some fault.Unacknowledged
    else if nat_lt 4294967295 l.next then Some fault.NumbersUsedUp
    else None

-- a fault if there is one, otherwise the value
abbrev pub ok_unless : {A E : Type 0} → Option E → A → Result A E
ok_unless None value = Ok value
ok_unless (Some fault) value = Err fault

-- the number sent, or why none was
abbrev pub send_answer : Ledger → Result ℕ SendFault
send_answer l = ok_unless (send_fault l) l.next

-- one more response waits, with the next number
abbrev pub with_sent : Bool → ℕ → Ledger → Ledger
with_sent has_body now l =
    record l { next = l.next + 1; waiting = l.waiting ++ sent_before l.next has_body now [] ∷ [] }

-- ---- how many wait

-- at most 8 wait for their PRACK; while the first one waits, no other does
abbrev pub FewWait : Ledger → Type 0
FewWait l =
    (length l.waiting ≤ MOST_WAITING) × (IsTrue (waits_for l.first l) → length l.waiting ≤ 1)

-- ---- read from all that happened, for the law over a whole life

-- the responses that were sent and have no PRACK after them
abbrev pub waiting_after : List Happening → List Provisional
waiting_after [] = []
waiting_after (Sends number has_body now ∷ later) =
    if list_any (is_acknowledgment_of number) later then waiting_after later
    else sent_before number has_body now later ∷ waiting_after later
waiting_after (Repeats numbers now ∷ later) = waiting_after later
waiting_after (GivesUp ∷ later) = waiting_after later
waiting_after (Acknowledges number ∷ later) = waiting_after later
waiting_after (Closes ∷ later) = waiting_after later

-- the ledger of an INVITE, whose first RSeq number is `first`, after all that happened; each
-- response has the next number
abbrev pub ledger_after : ℕ → Bool → List Happening → Ledger
ledger_after first supported life =
    record {
      first = first;
      next = first + count_by is_sending life;
      supported = supported;
      closed = list_any is_closing life;
      waiting = waiting_after life;
    }

-- ---- what is due at a moment

-- the numbers of those that are to be sent again
abbrev pub due_numbers : ℕ → List Provisional → List ℕ
due_numbers now waiting = map (λ p. p.number) (filter (is_repeated now) waiting)

-- what is due for all responses: giving up comes before sending again, and nothing is due after a
-- final response
abbrev pub tick_answer : Ledger → ℕ → Tick
tick_answer l now =
    if l.closed then Nothing
    else if list_any (is_late now) l.waiting then GivenUp
    else if list_any (is_repeated now) l.waiting
    then Again record { items = due_numbers now l.waiting }
    else Nothing

-- what happens at such a tick
abbrev pub happenings_of : Tick → ℕ → List Happening
happenings_of Nothing now = []
happenings_of (Again numbers) now = Repeats numbers.items now ∷ []
happenings_of GivenUp now = GivesUp ∷ []

-- the ledger after such a tick
abbrev pub ticked : Tick → Ledger → ℕ → Ledger
ticked Nothing l now = l
ticked (Again numbers) l now = record l { waiting = map (after_repeat now) l.waiting }
ticked GivenUp l now = record l { waiting = map given_up l.waiting }

-- the earliest moment at which something is due
abbrev pub first_moment : List Provisional → Option ℕ
first_moment waiting = fold (λ due p. earlier due (due_moment p)) None waiting

abbrev pub next_moment : Ledger → Option ℕ
next_moment l = if l.closed then None else first_moment l.waiting

-- nothing is due before the moment, and something is at it; without a moment nothing ever is
abbrev pub IsNextDue : (ℕ → Tick) → Option ℕ → Type 0
IsNextDue answers None = (now : ℕ) → answers now ≡ Nothing
IsNextDue answers (Some due) =
    (answers due ≢ Nothing) × ((now : ℕ) → now < due → answers now ≡ Nothing)
