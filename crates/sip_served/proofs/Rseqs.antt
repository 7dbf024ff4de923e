-- The RSeqs of the reliable provisional responses to a request after an answer, a tick and a PRACK.
use Rattle.std.proofs.Common.{◌≡◌, ℕ, Bool, true, false, not, ◌==◌, cond, List, [], ◌∷◌, ◌++◌, map, refl, sym, ap, subst, ◌∙◌}
use Rattle.std.specs.Prelude.{Option, None, Some, filter, fold, is_none, length, nat_lt, if◌then◌else◌}
use Rattle.std.specs.Result.{result_ok}
use Rattle.sip_message.specs.declared.addr.Addr.{Addr}
use Rattle.sip_message.specs.declared.id.Id.{Id}
use Rattle.sip_message.specs.declared.message.Message.{Message}
use Rattle.sip_message.specs.declared.start_line.StartLine.TheVariants as start
use Rattle.sip_message.specs.Content.{with_content_of}
use Rattle.sip_message.specs.Response.{response_of}
use Rattle.sip_reliable.specs.declared.send_fault.SendFault.{SendFault}
use Rattle.sip_reliable.specs.declared.send_fault.SendFault.TheVariants as fault
use Rattle.sip_reliable.specs.declared.tick.Tick.{Tick}
use Rattle.sip_reliable.specs.declared.provisional.Retransmission.{Retransmission}
use Rattle.sip_reliable.specs.Ledger.{Ledger, ok_unless, send_answer, send_fault, tick_answer}
use Rattle.sip_reliable.specs.Provisional.{Provisional, after_repeat, given_up, is_given_up, is_repeated, sent_again, sent_before}
use Rattle.sip_transactions.specs.declared.input.Command.{Command as Order}
use Rattle.sip_transactions.specs.declared.input.Command.TheVariants as order
use Rattle.sip_user.specs.declared.command.Respond.{Respond as Answer}
use Rattle.sip_held_dialogs.specs.declared.held_dialog.DialogReference.{DialogReference}
use Rattle.sip_user.specs.declared.item.CallOut.TheVariants as out
use Rattle.sip_user.specs.declared.notice.Notice.TheVariants as notice
use Rattle.sip_held_dialogs.specs.Ids.{is_id}
use Rattle.sip_held_dialogs.specs.Requests.{dialog_id_of, is_final}
use Rattle.sip_served.specs.declared.held_request.HeldRequest.{HeldRequest}
use Rattle.sip_served.specs.declared.held_request.Success.{Success}
use Rattle.sip_served.specs.declared.provisionals.ReliableResponse.{ReliableResponse}
use Rattle.sip_served.specs.declared.retransmissions.SuccessDue.{SuccessDue}
use Rattle.sip_served.specs.declared.retransmissions.SuccessDue.TheVariants as repeat
use Rattle.sip_served.specs.Arrival.{pracked}
use Rattle.sip_served.specs.RequestLife.{Finishes, MakesDialog, went_on}
use Rattle.sip_served.specs.Respond.{after_answer, answer_to, answered, if_so, makes_or_confirms_dialog, is_sent_reliably, makes_dialog, sends_as, sent_as, with_routes, with_rseq}
use Rattle.sip_served.specs.Tick.{provisionals_by, provisionals_ticked, provisionals_told, request_ticked, success_answer, success_at_tick, success_ticked, success_told}
use Rattle.sip_served.specs.Unacknowledged.{awaited_rseqs, kept_rseqs, repeated_rseqs, with_number}
use Rattle.sip_served.proofs.Awaiting.{reliable_not_final}
use Rattle.sip_served.proofs.Mapped.{append_mapped, filter_mapped}
use Rattle.sip_served.proofs.Reading.{Quiet, Reading, fold_on, quiet_both}
use Rattle.sip_served.proofs.RequestLives.{success_alone}

-- ---- the response of an answer

pub answer_start : (local : Addr) (held : HeldRequest) (r : Answer)
    → (answer_to local held r).start ≡ start.Response r.status r.reason
unfolding with_content_of
answer_start local held r =
    by_case (is_sent_reliably held r.status r.reliability) (makes_or_confirms_dialog held r.status)
  where
    by_case : (reliable routed : Bool)
        → (if_so reliable (with_rseq (result_ok (send_answer held.ledger)))
        (if_so routed (with_routes local held.request)
        (response_of held.request r.status r.reason held.tag))).start
        ≡ start.Response r.status r.reason
    by_case true true = refl
    by_case true false = refl
    by_case false true = refl
    by_case false false = refl

-- the response has the next RSeq if it is sent reliably
abbrev pub next_rseq : HeldRequest → Answer → Option ℕ
next_rseq held r =
    if is_sent_reliably held r.status r.reliability
    then result_ok (send_answer held.ledger) else None

pub answer_rseq : (local : Addr) (held : HeldRequest) (r : Answer)
    → (answer_to local held r).rseq ≡ next_rseq held r
unfolding with_content_of
answer_rseq local held r =
    by_case (is_sent_reliably held r.status r.reliability) (makes_or_confirms_dialog held r.status)
  where
    by_case : (reliable routed : Bool)
        → (if_so reliable (with_rseq (result_ok (send_answer held.ledger)))
        (if_so routed (with_routes local held.request)
        (response_of held.request r.status r.reason held.tag))).rseq
        ≡ (if reliable then result_ok (send_answer held.ledger) else None)
    by_case true true = refl
    by_case true false = refl
    by_case false true = refl
    by_case false false = refl

-- ---- what is read after an answer

-- what is said of it: its RSeq, and, for those that are sent again, whether it is final
abbrev pub said : HeldRequest → Answer → List ℕ → List ℕ
said held r numbers = with_number (next_rseq held r) numbers

abbrev pub said_of_repeats : HeldRequest → Answer → List ℕ → List ℕ
said_of_repeats held r numbers =
    if is_final r.status then [] else with_number (next_rseq held r) numbers

module _ (r : Answer) (response : Message) (now : ℕ) (held : HeldRequest) where
  keeps_sent : (o : Option SendFault)
      → kept_rseqs (sent_as (ok_unless o held.ledger.next) response now held)
      ≡ with_number (result_ok (ok_unless o held.ledger.next)) (kept_rseqs held)
  keeps_sent None =
      append_mapped (λ (one : ReliableResponse). one.number) held.provisionals _
  keeps_sent (Some fault) = refl

  awaits_sent : (o : Option SendFault)
      → awaited_rseqs (sent_as (ok_unless o held.ledger.next) response now held)
      ≡ with_number (result_ok (ok_unless o held.ledger.next)) (awaited_rseqs held)
  awaits_sent None = append_mapped (λ (p : Provisional). p.number) held.ledger.waiting _
  awaits_sent (Some fault) = refl

  pub keeps_answered : kept_rseqs (answered r.status r.reliability response now held)
      ≡ said held r (kept_rseqs held)
  keeps_answered =
      elim (is_sent_reliably held r.status r.reliability) as (λ b. kept_rseqs (went_on (if b
      then sends_as (send_answer held.ledger) response now
      else (if is_final r.status then Finishes response r.status now ∷ [] else [])) held)
      ≡ with_number (if b then result_ok (send_answer held.ledger) else None) (kept_rseqs held)) [
        | true ↦ keeps_sent (send_fault held.ledger)
        | false ↦ elim (is_final r.status) as (λ b. kept_rseqs (went_on (if b
            then Finishes response r.status now ∷ [] else []) held) ≡ kept_rseqs held)
            [ true ↦ refl | false ↦ refl ]
      ]

  pub awaits_answered : awaited_rseqs (answered r.status r.reliability response now held)
      ≡ said held r (awaited_rseqs held)
  awaits_answered =
      elim (is_sent_reliably held r.status r.reliability) as (λ b. awaited_rseqs (went_on (if b
      then sends_as (send_answer held.ledger) response now
      else (if is_final r.status then Finishes response r.status now ∷ [] else [])) held)
      ≡ with_number (if b then result_ok (send_answer held.ledger) else None)
      (awaited_rseqs held)) [
        | true ↦ awaits_sent (send_fault held.ledger)
        | false ↦ elim (is_final r.status) as (λ b. awaited_rseqs (went_on (if b
            then Finishes response r.status now ∷ [] else []) held) ≡ awaited_rseqs held)
            [ true ↦ refl | false ↦ refl ]
      ]

  -- one more is sent again if no final response was sent
  abbrev one_more : Bool → List Provisional → List ℕ
  one_more closed waiting =
      if closed then []
      else map (λ p. p.number) (filter (λ p. not (is_given_up p)) waiting)

  filter_more : (waiting : List Provisional) (p : Provisional) → is_given_up p ≡ false
      → filter (λ p. not (is_given_up p)) (waiting ++ p ∷ [])
      ≡ filter (λ p. not (is_given_up p)) waiting ++ p ∷ []
  filter_more [] p new = ap (λ b. cond (not b) (p ∷ []) []) new
  filter_more (q ∷ waiting) p new =
      elim (is_given_up q) as (λ b. cond (not b)
      (q ∷ filter (λ p. not (is_given_up p)) (waiting ++ p ∷ []))
      (filter (λ p. not (is_given_up p)) (waiting ++ p ∷ []))
      ≡ cond (not b) (q ∷ filter (λ p. not (is_given_up p)) waiting)
      (filter (λ p. not (is_given_up p)) waiting) ++ p ∷ []) [
        | true ↦ filter_more waiting p new
        | false ↦ ap (λ ps. q ∷ ps) (filter_more waiting p new)
      ]

  closed_fault : (l : Ledger) → l.closed ≡ true → send_fault l ≡ Some fault.Closed
  closed_fault l closed = rw closed refl

  repeats_sent : (o : Option SendFault) → send_fault held.ledger ≡ o
      → repeated_rseqs (sent_as (ok_unless o held.ledger.next) response now held)
      ≡ with_number (result_ok (ok_unless o held.ledger.next)) (repeated_rseqs held)
  repeats_sent (Some fault) is = refl
  repeats_sent None is = by_closed held.ledger.closed refl
    where
      more : Provisional
      more = sent_before held.ledger.next (nat_lt 0 (length response.body)) now []

      by_closed : (b : Bool) → held.ledger.closed ≡ b
          → one_more b (held.ledger.waiting ++ more ∷ [])
          ≡ one_more b held.ledger.waiting ++ held.ledger.next ∷ []
      by_closed true closed =
          let full : Some fault.Closed ≡ None = sym (closed_fault held.ledger closed) ∙ is in
          absurd cc
      by_closed false still =
          ap (λ ps. map (λ (p : Provisional). p.number) ps)
          (filter_more held.ledger.waiting more refl)
          ∙ append_mapped (λ (p : Provisional). p.number)
          (filter (λ p. not (is_given_up p)) held.ledger.waiting) (more ∷ [])

  abbrev pub RepeatsAfter : Bool → Bool → Type 0
  RepeatsAfter reliable final =
      repeated_rseqs (went_on (if reliable then sends_as (send_answer held.ledger) response now
      else (if final then Finishes response r.status now ∷ [] else [])) held)
      ≡ (if final then []
      else with_number (if reliable then result_ok (send_answer held.ledger) else None)
      (repeated_rseqs held))

  pub repeats_answered : RepeatsAfter (is_sent_reliably held r.status r.reliability)
      (is_final r.status)
  repeats_answered = by_reliable (is_sent_reliably held r.status r.reliability) refl
    where
      by_reliable : (b : Bool) → is_sent_reliably held r.status r.reliability ≡ b
          → RepeatsAfter b (is_final r.status)
      by_reliable true is =
          subst (RepeatsAfter true) (sym (reliable_not_final held r is))
          (repeats_sent (send_fault held.ledger) refl)
      by_reliable false is =
          elim (is_final r.status) as (RepeatsAfter false) [ true ↦ refl | false ↦ refl ]

-- whether it makes a dialog or not
pub given_as : (read : HeldRequest → List ℕ) (by : HeldRequest → List ℕ → List ℕ)
    → ((held : HeldRequest) (dialog : Option DialogReference)
    → by record held { dialog = dialog } (read record held { dialog = dialog })
    ≡ by held (read held))
    → (response : Message) (event : Id) (r : Answer) (now : ℕ)
    → ((held : HeldRequest) → read (answered r.status r.reliability response now held)
    ≡ by held (read held))
    → (held : HeldRequest)
    → read (after_answer event r response now held) ≡ by held (read held)
given_as read by same response event r now answers held =
    let made : DialogReference = record {
      name = dialog_id_of held.request held.tag;
      created_by = event;
    } in
    elim (makes_dialog held r.status) as (λ b. read (answered r.status r.reliability response now
    (went_on (if b then MakesDialog made ∷ [] else []) held)) ≡ by held (read held)) [
      | true ↦ answers record held { dialog = Some made } ∙ same held (Some made)
      | false ↦ answers held
    ]

-- ---- a tick

module _ (reading : Reading (List ℕ)) (invite : Id)
    (sends : (id : Id) (command : Order) (numbers : List ℕ)
    → reading.ticks numbers (out.Command id command) ≡ numbers)
    (no_ack : (call_id : List ℕ) (id : Id) (numbers : List ℕ)
    → reading.ticks numbers (out.Notice (notice.NoAck call_id id)) ≡ numbers)
    (success : (held : HeldRequest) (success : Option Success)
    → reading.read record held { success = success } ≡ reading.read held) where
  success_quiet : (now : ℕ) (held : HeldRequest) (o : Option Success)
      → Quiet reading (success_at_tick now held o).1
  success_quiet now held None numbers = refl
  success_quiet now held (Some success) numbers = by_due (success_answer now success)
    where
      by_due : (due : SuccessDue)
          → fold reading.ticks numbers (success_told due held success.response) ≡ numbers
      by_due repeat.Nothing = refl
      by_due repeat.Again = sends held.id (order.Answer held.key success.response) numbers
      by_due repeat.GivenUp = no_ack held.request.call_id held.id numbers

  success_same : (now : ℕ) (held : HeldRequest) (o : Option Success)
      → reading.read (success_at_tick now held o).0 ≡ reading.read held
  success_same now held o =
      let after = success_alone now held o in ap reading.read after.1 ∙ success held after.0

  success_id : (now : ℕ) (held : HeldRequest) (o : Option Success)
      → ((success_at_tick now held o).0).id ≡ held.id
  success_id now held o = ap (λ (held : HeldRequest). held.id) (success_alone now held o).1

  pub again_quiet : (held : HeldRequest) (responses : List ReliableResponse)
      → Quiet reading
      (map (λ one. out.Command held.id (order.Answer held.key one.response)) responses)
  again_quiet held [] numbers = refl
  again_quiet held (one ∷ responses) numbers =
      ap (λ numbers. fold reading.ticks numbers
      (map (λ one. out.Command held.id (order.Answer held.key one.response)) responses))
      (sends held.id (order.Answer held.key one.response) numbers)
      ∙ again_quiet held responses numbers

  pub own_ticked : ((t : Tick) (now : ℕ) (held : HeldRequest) → is_id held.id invite ≡ true
      → reading.read (provisionals_by t now held).0
      ≡ fold reading.ticks (reading.read held) (provisionals_told t held))
      → (now : ℕ) (held : HeldRequest) → is_id held.id invite ≡ true
      → reading.read (request_ticked now held).0
      ≡ fold reading.ticks (reading.read held) (request_ticked now held).1
  own_ticked provisionals now held own =
      let first = success_ticked now held in
      let second = provisionals_ticked now first.0 in
      provisionals (tick_answer (first.0).ledger now) now first.0
      (ap (λ id. is_id id invite) (success_id now held held.success) ∙ own)
      ∙ ap (λ numbers. fold reading.ticks numbers second.1) (success_same now held held.success)
      ∙ sym (fold_on reading.ticks (reading.read held) first.1 second.1
      ∙ ap (λ numbers. fold reading.ticks numbers second.1)
      (success_quiet now held held.success (reading.read held)))

  pub another_ticked : ((t : Tick) (held : HeldRequest) → is_id held.id invite ≡ false
      → Quiet reading (provisionals_told t held))
      → (now : ℕ) (held : HeldRequest) → is_id held.id invite ≡ false
      → Quiet reading (request_ticked now held).1
  another_ticked provisionals now held other =
      let first = success_ticked now held in
      quiet_both reading first.1 (provisionals_ticked now first.0).1
      (success_quiet now held held.success)
      (provisionals (tick_answer (first.0).ledger now) first.0
      (ap (λ id. is_id id invite) (success_id now held held.success) ∙ other))

-- the RSeqs of the responses that wait don't change
pub repeated_numbers : (now : ℕ) (waiting : List Provisional)
    → map (λ p. p.number) (map (after_repeat now) waiting) ≡ map (λ p. p.number) waiting
repeated_numbers now [] = refl
repeated_numbers now (p ∷ waiting) =
    λ i. (elim (is_repeated now p) as (λ b. (if b then sent_again now p else p).number ≡ p.number)
    [ true ↦ refl | false ↦ refl ]) i ∷ repeated_numbers now waiting i

pub given_up_numbers : (waiting : List Provisional)
    → map (λ p. p.number) (map given_up waiting) ≡ map (λ p. p.number) waiting
given_up_numbers [] = refl
given_up_numbers (p ∷ waiting) = ap (λ numbers. p.number ∷ numbers) (given_up_numbers waiting)

-- the responses that weren't given up
abbrev open_ones : List Provisional → List Provisional
open_ones waiting = filter (λ p. not (is_given_up p)) waiting

abbrev pub open_numbers : List Provisional → List ℕ
open_numbers waiting = map (λ p. p.number) (open_ones waiting)

one_open : (b : Bool) (p q : Provisional) (before after : List Provisional)
    → q.number ≡ p.number
    → map (λ (p : Provisional). p.number) after ≡ map (λ (p : Provisional). p.number) before
    → map (λ (p : Provisional). p.number) (cond b (q ∷ after) after)
    ≡ map (λ (p : Provisional). p.number) (cond b (p ∷ before) before)
one_open true p q before after same rest = λ i. same i ∷ rest i
one_open false p q before after same rest = rest

again_open : (now : ℕ) (p : Provisional)
    → (is_given_up (after_repeat now p) ≡ is_given_up p) × ((after_repeat now p).number ≡ p.number)
again_open now p =
    elim (is_repeated now p) as (λ b.
    (is_given_up (if b then sent_again now p else p) ≡ is_given_up p)
    × ((if b then sent_again now p else p).number ≡ p.number)) [
      | true ↦ (by_open p.retransmission, refl)
      | false ↦ (refl, refl)
    ]
  where
    by_open : (o : Option Retransmission)
        → is_given_up (sent_again now record p { retransmission = o }) ≡ is_none o
    by_open None = refl
    by_open (Some r) = refl

pub open_repeated : (now : ℕ) (waiting : List Provisional)
    → open_numbers (map (after_repeat now) waiting) ≡ open_numbers waiting
open_repeated now [] = refl
open_repeated now (p ∷ waiting) =
    let again = after_repeat now p in
    let same = again_open now p in
    let later = open_ones (map (after_repeat now) waiting) in
    ap (λ b. map (λ (p : Provisional). p.number) (cond (not b) (again ∷ later) later)) same.0
    ∙ one_open (not (is_given_up p)) p again (open_ones waiting) later same.1
    (open_repeated now waiting)

pub none_open : (waiting : List Provisional) → open_numbers (map given_up waiting) ≡ []
none_open [] = refl
none_open (p ∷ waiting) = none_open waiting

-- ---- a PRACK

swapped : {X : Type 0} (p q : X → Bool) (xs : List X)
    → filter p (filter q xs) ≡ filter q (filter p xs)
swapped p q [] = refl
swapped p q (x ∷ xs) = by_both (p x) (q x) refl refl (swapped p q xs)
  where
    by_both : (b c : Bool) → p x ≡ b → q x ≡ c → filter p (filter q xs) ≡ filter q (filter p xs)
        → filter p (cond c (x ∷ filter q xs) (filter q xs))
        ≡ filter q (cond b (x ∷ filter p xs) (filter p xs))
    by_both true true e f rest =
        ap (λ b. cond b (x ∷ filter p (filter q xs)) (filter p (filter q xs))) e
        ∙ ap (λ ys. x ∷ ys) rest
        ∙ sym (ap (λ b. cond b (x ∷ filter q (filter p xs)) (filter q (filter p xs))) f)
    by_both true false e f rest =
        rest ∙ sym (ap (λ b. cond b (x ∷ filter q (filter p xs)) (filter q (filter p xs))) f)
    by_both false true e f rest =
        ap (λ b. cond b (x ∷ filter p (filter q xs)) (filter p (filter q xs))) e ∙ rest
    by_both false false e f rest = rest

-- the response of this number no longer waits
abbrev but_for : ℕ → List ℕ → List ℕ
but_for rseq numbers = filter (λ one. not (one == rseq)) numbers

open_pracked : (rseq : ℕ) (waiting : List Provisional)
    → open_numbers (filter (λ p. not (p.number == rseq)) waiting)
    ≡ but_for rseq (open_numbers waiting)
open_pracked rseq waiting =
    ap (λ ps. map (λ (p : Provisional). p.number) ps)
    (swapped (λ (p : Provisional). not (is_given_up p))
    (λ (p : Provisional). not (p.number == rseq)) waiting)
    ∙ sym (filter_mapped (λ (p : Provisional). p.number) (λ one. not (one == rseq))
    (open_ones waiting))

pub repeats_pracked : (rseq : ℕ) (held : HeldRequest)
    → repeated_rseqs (pracked rseq held) ≡ but_for rseq (repeated_rseqs held)
repeats_pracked rseq held =
    elim held.ledger.closed as (λ b. (if b then []
    else open_numbers (filter (λ p. not (p.number == rseq)) held.ledger.waiting))
    ≡ but_for rseq (if b then [] else open_numbers held.ledger.waiting)) [
      | true ↦ refl
      | false ↦ open_pracked rseq held.ledger.waiting
    ]
