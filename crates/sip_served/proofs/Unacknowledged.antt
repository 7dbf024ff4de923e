-- After each item of the server side the reliable provisional responses to the INVITE of an id
-- await their PRACK, and are sent again, exactly as the outputs say.
use Rattle.std.proofs.Common.{◌≡◌, ℕ, true, false, not, ◌&&◌, ◌==◌, List, [], map, refl, sym, ap, ◌∙◌}
use Rattle.std.specs.Prelude.{None, Some, fold, if◌then◌else◌}
use Rattle.sip_message.specs.declared.id.Id.{Id}
use Rattle.sip_message.specs.declared.message.Message.{Message}
use Rattle.sip_reliable.specs.declared.tick.Tick.{Tick}
use Rattle.sip_reliable.specs.declared.tick.Tick.TheVariants as tick
use Rattle.sip_reliable.specs.Provisional.{Provisional, given_up}
use Rattle.sip_transactions.specs.declared.input.Command.TheVariants as order
use Rattle.sip_user.specs.declared.command.Respond.{Respond}
use Rattle.sip_user.specs.declared.item.CallOut.TheVariants as out
use Rattle.sip_held_dialogs.specs.Ids.{is_id}
use Rattle.sip_held_dialogs.specs.Requests.{is_final}
use Rattle.sip_served.specs.declared.held_request.HeldRequest.{HeldRequest}
use Rattle.sip_served.specs.declared.provisionals.ReliableResponse.{ReliableResponse}
use Rattle.sip_served.specs.Provisionals.{of_numbers}
use Rattle.sip_served.specs.Arrival.{pracked}
use Rattle.sip_served.specs.Respond.{answer_to, answered}
use Rattle.sip_served.specs.Tick.{provisionals_by, provisionals_told}
use Rattle.sip_served.specs.Unacknowledged.{at_tick, awaited_by, awaited_rseqs, has_final, kept_rseqs, repeated_by, repeated_rseqs, with_number, without_number}
use Rattle.sip_served.proofs.Mapped.{filter_mapped}
use Rattle.sip_served.proofs.Reading.{IsTold, Quiet, Reading}
use Rattle.sip_served.proofs.RequestLives.{provisionals_alone}
use Rattle.sip_served.proofs.Rseqs.{again_quiet, another_ticked, answer_rseq, answer_start, awaits_answered, given_as, given_up_numbers, keeps_answered, none_open, open_numbers, open_repeated, own_ticked, repeated_numbers, repeats_answered, repeats_pracked, said, said_of_repeats}

-- the RSeqs that are kept, those whose PRACK gets a 200, and those that are sent again
abbrev pub until_pracked : (HeldRequest → List ℕ) → Id → Reading (List ℕ)
until_pracked read invite = record {
  none = [];
  read = read;
  by = awaited_by invite;
  ticks = at_tick (awaited_by invite);
}

abbrev pub keeping : Id → Reading (List ℕ)
keeping = until_pracked kept_rseqs

abbrev pub awaiting : Id → Reading (List ℕ)
awaiting = until_pracked awaited_rseqs

abbrev pub repeating : Id → Reading (List ℕ)
repeating invite = record {
  none = [];
  read = repeated_rseqs;
  by = repeated_by invite;
  ticks = at_tick (repeated_by invite);
}

-- ---- those that are kept, and those whose PRACK gets a 200

-- numbers of what awaits its PRACK, which change only by answers and by PRACKs
module _ (invite : Id) (numbers : List ReliableResponse → List Provisional → List ℕ) where
  abbrev read : HeldRequest → List ℕ
  read held = numbers held.provisionals held.ledger.waiting

  abbrev reading : Reading (List ℕ)
  reading = until_pracked read invite

  told_quiet : (t : Tick) (held : HeldRequest) → Quiet reading (provisionals_told t held)
  told_quiet tick.Nothing held numbers = refl
  told_quiet (tick.Again again) held numbers =
      again_quiet reading invite (λ id command numbers. refl) (λ call_id id numbers. refl)
      (λ held success. refl) held (of_numbers again.items held.provisionals) numbers
  told_quiet tick.GivenUp held numbers = refl

  told_until_pracked : numbers [] [] ≡ []
      → ((rseq : ℕ) (held : HeldRequest)
      → without_number (Some rseq) (read held) ≡ read (pracked rseq held))
      → ((r : Respond) (response : Message) (now : ℕ) (held : HeldRequest)
      → read (answered r.status r.reliability response now held) ≡ said held r (read held))
      → ((t : Tick) (now : ℕ) (held : HeldRequest)
      → read (provisionals_by t now held).0 ≡ read held)
      → IsTold (List ℕ) reading invite
  told_until_pracked none pracks answers same = record {
    another = λ id other key response numbers.
        ap (λ b. with_number (if b then response.rseq else None) numbers) other;
    request = λ call_id id method local remote body numbers. refl;
    ended = λ dialog numbers. refl;
    refusal = λ call_id place refusal numbers. refl;
    cancel = λ call_id id numbers. refl;
    new = λ arrival dialog. none;
    prack = λ call_id id rseq body own held.
        sym (ap (λ b. without_number (if b then Some rseq else None) (read held)) own
        ∙ pracks rseq held);
    other_prack = λ call_id id rseq body other numbers.
        ap (λ b. without_number (if b then Some rseq else None) numbers) other;
    ack = λ call_id id body own held. refl;
    other_ack = λ call_id id body other numbers. refl;
    terminated = λ id own of key now held.
        sym (ap (λ b. with_number (if b then None else None) (read held)) own);
    given = λ id own local key event r now held.
        given_as read (λ held numbers. said held r numbers) (λ held dialog. refl)
        (answer_to local held r) event r now (answers r (answer_to local held r) now) held
        ∙ sym (λ i. with_number (if own i then answer_rseq local held r i else None) (read held));
    ticked = own_ticked reading invite (λ id command numbers. refl) (λ call_id id numbers. refl)
        (λ held success. refl)
        (λ t now held own. same t now held ∙ sym (told_quiet t held (read held)));
    other_ticked = another_ticked reading invite (λ id command numbers. refl)
        (λ call_id id numbers. refl) (λ held success. refl)
        (λ t held other. told_quiet t held);
  }

same_waits : (t : Tick) (now : ℕ) (held : HeldRequest)
    → awaited_rseqs (provisionals_by t now held).0 ≡ awaited_rseqs held
same_waits tick.Nothing now held = refl
same_waits (tick.Again again) now held = repeated_numbers now held.ledger.waiting
same_waits tick.GivenUp now held = given_up_numbers held.ledger.waiting

module _ (invite : Id) where
  pub told_kept : IsTold (List ℕ) (keeping invite) invite
  told_kept =
      told_until_pracked invite (λ kept waiting. map (λ one. one.number) kept) refl
      (λ rseq held. filter_mapped (λ (one : ReliableResponse). one.number)
      (λ one. not (one == rseq)) held.provisionals)
      keeps_answered (λ t now held. ap kept_rseqs (provisionals_alone t now held))

  pub told_awaited : IsTold (List ℕ) (awaiting invite) invite
  told_awaited =
      told_until_pracked invite (λ kept waiting. map (λ one. one.number) waiting) refl
      (λ rseq held. filter_mapped (λ (one : Provisional). one.number)
      (λ one. not (one == rseq)) held.ledger.waiting)
      awaits_answered same_waits

  -- ---- those that are sent again

  pub told_repeated : IsTold (List ℕ) (repeating invite) invite
  told_repeated = record {
    another = λ id other key response numbers.
        ap (λ b. if b && has_final response.start then []
        else with_number (if b then response.rseq else None) numbers) other;
    request = λ call_id id method local remote body numbers. refl;
    ended = λ dialog numbers. refl;
    refusal = λ call_id place refusal numbers. refl;
    cancel = λ call_id id numbers. refl;
    new = λ arrival dialog. refl;
    prack = λ call_id id rseq body own held.
        repeats_pracked rseq held
        ∙ sym (ap (λ b. without_number (if b then Some rseq else None) (repeated_rseqs held)) own);
    other_prack = λ call_id id rseq body other numbers.
        ap (λ b. without_number (if b then Some rseq else None) numbers) other;
    ack = λ call_id id body own held. refl;
    other_ack = λ call_id id body other numbers. refl;
    terminated = λ id own of key now held.
        sym (ap (λ b. if b && is_final 487 then []
        else with_number (if b then None else None) (repeated_rseqs held)) own);
    given = λ id own local key event r now held.
        given_as repeated_rseqs (λ held numbers. said_of_repeats held r numbers)
        (λ held dialog. refl) (answer_to local held r) event r now
        (repeats_answered r (answer_to local held r) now) held
        ∙ sym (λ i. if own i && has_final (answer_start local held r i) then []
        else with_number (if own i then answer_rseq local held r i else None)
        (repeated_rseqs held));
    ticked = own_ticked (repeating invite) invite (λ id command numbers. refl)
        (λ call_id id numbers. refl) (λ held success. refl) by_tick;
    other_ticked = another_ticked (repeating invite) invite (λ id command numbers. refl)
        (λ call_id id numbers. refl) (λ held success. refl) other_quiet;
  }
    where
      again : (held : HeldRequest) (responses : List ReliableResponse) → Quiet (repeating invite)
          (map (λ one. out.Command held.id (order.Answer held.key one.response)) responses)
      again held responses =
          again_quiet (repeating invite) invite (λ id command numbers. refl)
          (λ call_id id numbers. refl) (λ held success. refl) held responses

      by_tick : (t : Tick) (now : ℕ) (held : HeldRequest) → is_id held.id invite ≡ true
          → repeated_rseqs (provisionals_by t now held).0
          ≡ fold (at_tick (repeated_by invite)) (repeated_rseqs held) (provisionals_told t held)
      by_tick tick.Nothing now held own = refl
      by_tick (tick.Again numbers) now held own =
          ap (λ numbers. if held.ledger.closed then [] else numbers)
          (open_repeated now held.ledger.waiting)
          ∙ sym (again held (of_numbers numbers.items held.provisionals) (repeated_rseqs held))
      by_tick tick.GivenUp now held own =
          (elim held.ledger.closed as (λ b. (if b then []
          else open_numbers (map given_up held.ledger.waiting)) ≡ [])
          [ true ↦ refl | false ↦ none_open held.ledger.waiting ])
          ∙ sym (ap (λ b. if b then [] else repeated_rseqs held) own)

      other_quiet : (t : Tick) (held : HeldRequest) → is_id held.id invite ≡ false
          → Quiet (repeating invite) (provisionals_told t held)
      other_quiet tick.Nothing held other numbers = refl
      other_quiet (tick.Again some) held other numbers =
          again held (of_numbers some.items held.provisionals) numbers
      other_quiet tick.GivenUp held other numbers =
          ap (λ b. if b then [] else numbers) other
