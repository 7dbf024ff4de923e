-- What a held request keeps: the user gave the reliable responses that go out to it. Where some
-- above RSeq 1 may go out, a PRACK came in its dialog whose RAck has RSeq 1 and the CSeq of that
-- request.
use Rattle.std.proofs.Common.{◌≡◌, ℕ, ◌+◌, ◌<◌, Bool, true, false, ◌||◌, ◌&&◌, not, ◌==◌, cond, List, [], ◌∷◌, ◌++◌, map, refl, sym, ap, ◌∙◌, arith}
use Rattle.std.specs.Prelude.{IfSome, Option, None, Some, codes, filter, is_none, is_some, length, nat_le, nat_lt, if◌then◌else◌}
use Rattle.std.specs.List.{AllByRecursion, flat_map, list_any}
use Rattle.std.specs.Option.{option_map_or}
use Rattle.std.proofs.lemmas.Bool.{false≢true}
use Rattle.std.proofs.lemmas.Grind.{common_steps}
use Rattle.std.proofs.lemmas.List.Folds.{list_any-append}
use Rattle.sip_message.specs.Content.{with_content_of}
use Rattle.sip_message.specs.Party.{tag_of}
use Rattle.sip_message.specs.Response.{answering_to, response_of, tagged}
use Rattle.sip_message.specs.declared.key.Key.{Key}
use Rattle.sip_dialog.specs.Request.{contact_of}
use Rattle.sip_transactions.specs.declared.input.Command.TheVariants as order
use Rattle.sip_user.specs.declared.item.CallOut.{CallOut}
use Rattle.sip_user.specs.declared.item.CallOut.TheVariants as out
use Rattle.sip_message.specs.declared.addr.Addr.{Addr}
use Rattle.sip_message.specs.declared.id.Id.{Id}
use Rattle.sip_message.specs.declared.message.Message.{Message}
use Rattle.keyed_machine.proofs.Ordered.{by_bool}
use Rattle.sip_reliable.specs.Ledger.{Ledger, must_wait, waits_for}
use Rattle.sip_reliable.specs.Provisional.{Provisional, is_given_up, is_late, is_repeated}
use Rattle.sip_reliable.specs.declared.provisional.TheConstants.{MOST_WAITING}
use Rattle.sip_held_dialogs.specs.Dialogs.{Dialogs, lives}
use Rattle.sip_user.specs.Refusal.{first_refusal}
use Rattle.sip_held_dialogs.specs.Requests.{dialog_id_of, dialog_id_of_tags, is_final, is_invite, is_success}
use Rattle.sip_held_dialogs.specs.declared.held_dialog.DialogReference.{DialogReference}
use Rattle.sip_user.specs.declared.command.Respond.{Respond}
use Rattle.sip_user.specs.declared.refusal.Refusal.TheVariants as why
use Rattle.sip_held_dialogs.proofs.Each.{both, filtered}
use Rattle.sip_served.specs.declared.arrival.Arrival.{Arrival}
use Rattle.sip_served.specs.declared.held_request.HeldRequest.{HeldRequest}
use Rattle.sip_served.specs.declared.held_request.Success.{Success}
use Rattle.sip_served.specs.declared.provisionals.ReliableResponse.{ReliableResponse}
use Rattle.sip_served.specs.Rules.Arrivals.{after_487, after_ack, after_prack}
use Rattle.sip_served.specs.Rules.Responses.{held_after, is_dialog_response, is_reliable, is_sent_reliably, makes_dialog, may_be_reliable, provisional_sent, response_refusal, response_sent, success_sent}
use Rattle.sip_served.specs.Rules.Ticks.{provisionals_tick, server_tick, success_at, success_tick}
use Rattle.sip_served.specs.State.{ServedTaken, State}
use Rattle.sip_served.proofs.Rseqs.{given_up_numbers, repeated_numbers}
use Rattle.sip_conversation.specs.Answers.{IsResponseTo}
use Rattle.sip_conversation.proofs.ToTags.{answered_to}
use Rattle.sip_conversation.proofs.Branches.{either}

-- ---- numbers among which one is, or isn't

abbrev pub has_number : ℕ → List ℕ → Bool
has_number number numbers = list_any (λ one. one == number) numbers

abbrev pub numbers_of : List Provisional → List ℕ
numbers_of waiting = map (λ p. p.number) waiting

waits_as : (number : ℕ) (waiting : List Provisional)
    → list_any (λ p. p.number == number) waiting ≡ has_number number (numbers_of waiting)
waits_as number [] = refl
waits_as number (p ∷ waiting) = ap (λ b. (p.number == number) || b) (waits_as number waiting)

numbers_more : (waiting more : List Provisional)
    → numbers_of (waiting ++ more) ≡ numbers_of waiting ++ numbers_of more
numbers_more [] more = refl
numbers_more (p ∷ waiting) more = ap (λ numbers. p.number ∷ numbers) (numbers_more waiting more)

pub equal : (one two : ℕ) → (one == two) ≡ true → one ≡ two
equal one two is = grind (arith, common_steps, is)

apart : (one two : ℕ) → (one == two) ≡ false → one ≡ two → ⊥
apart one two isnt same = grind (arith, common_steps, isnt, same)

or_left : (one two : Bool) → (one || two) ≡ false → one ≡ false
or_left true two none = none
or_left false two none = refl

or_right : (one two : Bool) → (one || two) ≡ false → two ≡ false
or_right true two none = absurd (false≢true (sym none))
or_right false two none = none

-- all but another number
but_other : (number other : ℕ) → (other == number) ≡ false → (waiting : List Provisional)
    → has_number number (numbers_of (filter (λ p. not (p.number == other)) waiting))
    ≡ has_number number (numbers_of waiting)
but_other number other isnt [] = refl
but_other number other isnt (p ∷ waiting) =
    by_bool (p.number == other)
    (λ is. ap (λ b. has_number number (numbers_of (cond (not b) (p ∷ rest) rest))) is
    ∙ but_other number other isnt waiting
    ∙ sym (ap (λ b. b || has_number number (numbers_of waiting)) (none is)))
    (λ other_one. ap (λ b. has_number number (numbers_of (cond (not b) (p ∷ rest) rest))) other_one
    ∙ ap (λ b. (p.number == number) || b) (but_other number other isnt waiting))
  where
    rest : List Provisional
    rest = filter (λ p. not (p.number == other)) waiting

    none : (p.number == other) ≡ true → (p.number == number) ≡ false
    none is = ap (λ n. n == number) (equal p.number other is) ∙ isnt

pub no_rseq : (rseq : ℕ) → None ≡ Some rseq → ⊥
no_rseq rseq is = absurd cc

-- a held request, as it came up
abbrev pub arrived : HeldRequest → Arrival
arrived held = record {
  id = held.id;
  key = held.key;
  request = held.request;
  reply_to = held.reply_to;
  tag = held.tag;
}

-- ---- the answer of a user

module _ (local : Addr) (held : HeldRequest) (respond : Respond) where
  -- the response, as it is sent reliably or not, and with a route or without
  abbrev sent_so : Bool → Bool → Message
  sent_so reliable routed =
      let plain = if routed then record (response_of held.request respond.status respond.reason
      held.tag) {
        contacts = contact_of local ∷ [];
        record_routes = held.request.record_routes;
      } else response_of held.request respond.status respond.reason held.tag in
      with_content_of (if reliable
      then record plain { require = codes "100rel" ∷ []; rseq = Some held.ledger.next }
      else plain) respond.content

  -- what it copies, its status, its body, and its RSeq
  pub record SentSo (reliable : Bool) (response : Message) : Type 0 where
    pub copies : IsResponseTo held.request response
    pub start : response.start
        ≡ (response_of held.request respond.status respond.reason held.tag).start
    pub body : response.body ≡ respond.content.body
    pub to : response.to ≡ answering_to held.request.to respond.status held.tag
    pub rseq : response.rseq ≡ (if reliable then Some held.ledger.next else None)

  so_sent : (reliable routed : Bool) → SentSo reliable (sent_so reliable routed)
  unfolding with_content_of
  so_sent true true = record {
    copies = record {
      vias = refl;
      from = refl;
      to = answered_to held.request respond.status held.tag;
      call_id = refl;
      cseq = refl;
    };
    start = refl;
    body = refl;
    to = refl;
    rseq = refl;
  }
  so_sent true false = record {
    copies = record {
      vias = refl;
      from = refl;
      to = answered_to held.request respond.status held.tag;
      call_id = refl;
      cseq = refl;
    };
    start = refl;
    body = refl;
    to = refl;
    rseq = refl;
  }
  so_sent false true = record {
    copies = record {
      vias = refl;
      from = refl;
      to = answered_to held.request respond.status held.tag;
      call_id = refl;
      cseq = refl;
    };
    start = refl;
    body = refl;
    to = refl;
    rseq = refl;
  }
  so_sent false false = record {
    copies = record {
      vias = refl;
      from = refl;
      to = answered_to held.request respond.status held.tag;
      call_id = refl;
      cseq = refl;
    };
    start = refl;
    body = refl;
    to = refl;
    rseq = refl;
  }

  pub was_sent : SentSo (is_sent_reliably held respond) (response_sent local held respond)
  was_sent = so_sent (is_sent_reliably held respond) (is_dialog_response held respond.status)

-- ---- what a held request keeps

-- a PRACK came of the response of RSeq 1 to this INVITE, in the dialog that its tag makes
pub record Pracked (Brought : Arrival → Type 0) (invite : Arrival) : Type 0 where
  pub prack : Arrival
  pub brought : Brought prack
  pub method : prack.request.cseq.method ≡ codes "PRACK"
  pub rack : prack.request.rack
      ≡ Some record { rseq = 1; cseq = invite.request.cseq.number; method = codes "INVITE" }
  pub name : dialog_id_of_tags (tag_of prack.request.to) (tag_of prack.request.from)
      ≡ dialog_id_of invite.request invite.tag

module _ (Brought : Arrival → Type 0) (Gave : Id → ℕ → Message → Type 0) where
  -- The user gave this response with this RSeq to a request of this id, and that request came. If
  -- the RSeq is above 1, a PRACK came of the response of RSeq 1 to it.
  pub record GivenTo (id : Id) (rseq : ℕ) (response : Message) : Type 0 where
    pub gave : Gave id rseq response
    pub invite : Arrival
    pub came : Brought invite
    pub id_is : invite.id ≡ id
    pub copies : IsResponseTo invite.request response
    pub to : response.to ≡ tagged invite.request.to invite.tag
    pub pracked : 1 < rseq → Pracked Brought invite

  -- so it is, if the response has an RSeq
  abbrev pub Given : Id → Message → Type 0
  Given id response = (rseq : ℕ) → response.rseq ≡ Some rseq → GivenTo id rseq response

  pub none_given : (id : Id) (response : Message) → response.rseq ≡ None → Given id response
  none_given id response none rseq is = absurd (no_rseq rseq (sym none ∙ is))

  -- the name of a dialog is that of this request's answers
  abbrev pub IsNamed : HeldRequest → Type 0
  IsNamed held = IfSome held.dialog
      (λ reference. reference.name ≡ dialog_id_of held.request held.tag)

  pub record Holds (held : HeldRequest) : Type 0 where
    pub came : Brought (arrived held)
    pub named : IsNamed held
    pub first : held.ledger.first ≡ 1
    pub acked : 1 < held.ledger.next
        → has_number 1 (numbers_of held.ledger.waiting) ≡ false
        → Pracked Brought (arrived held)
    pub kept : AllByRecursion (λ one. Given held.id one.response) held.provisionals
    pub success : IfSome held.success (λ success. Given held.id success.response)

  -- ---- a PRACK, an ACK and a CANCEL

  pub prack_holds : (rseq : ℕ) (held : HeldRequest) → Holds held
      → (rseq ≡ 1 → Pracked Brought (arrived held)) → Holds (after_prack rseq held)
  prack_holds rseq held holds pracked = record {
    came = holds.came;
    named = holds.named;
    first = holds.first;
    acked = λ more none. by_bool (rseq == 1)
        (λ is. pracked (equal rseq 1 is))
        (λ isnt. holds.acked more (sym (but_other 1 rseq isnt held.ledger.waiting) ∙ none));
    kept = filtered (λ one. Given held.id one.response) (λ one. not (one.number == rseq))
        held.provisionals holds.kept;
    success = holds.success;
  }

  pub ack_holds : (held : HeldRequest) → Holds held → Holds (after_ack held)
  ack_holds held holds = record {
    came = holds.came;
    named = holds.named;
    first = holds.first;
    acked = holds.acked;
    kept = holds.kept;
    success = by_success held.success holds.success;
  }
    where
      by_success : (o : Option Success) → IfSome o (λ success. Given held.id success.response)
          → IfSome ((after_ack (record held { success = o })).success)
          (λ success. Given held.id success.response)
      by_success None given = tt
      by_success (Some success) given = given

  pub cancel_holds : (now : ℕ) (held : HeldRequest) → Holds held → Holds (after_487 now held)
  cancel_holds now held holds = record {
    came = holds.came;
    named = holds.named;
    first = holds.first;
    acked = holds.acked;
    kept = holds.kept;
    success = holds.success;
  }

  -- ---- an answer of the user

  none_refuses : (a b c d e f g h i : Bool) → first_refusal ((a, why.BadStatus)
      ∷ (b, why.AlreadyFinal) ∷ (c, why.NotSupported) ∷ (d, why.DialogEnded)
      ∷ (e, why.AlreadyFinal) ∷ (f, why.NotSupported) ∷ (g, why.ReliablePending)
      ∷ (h, why.ReliablePending) ∷ (i, why.SequenceUsedUp) ∷ []) None ≡ None
      → (a ≡ false) × (g ≡ false)
  none_refuses true b c d e f g h i none = absurd cc
  none_refuses false true c d e f g h i none = absurd cc
  none_refuses false false true d e f g h i none = absurd cc
  none_refuses false false false true e f g h i none = absurd cc
  none_refuses false false false false true f g h i none = absurd cc
  none_refuses false false false false false true g h i none = absurd cc
  none_refuses false false false false false false true h i none = absurd cc
  none_refuses false false false false false false false h i none = (refl, refl)

  not_100 : (status : ℕ) → not (nat_le 101 status && nat_le status 699) ≡ false
      → (status == 100) ≡ false
  not_100 status good =
      by_bool (status == 100)
      (λ is. absurd (false≢true (sym good
      ∙ ap (λ n. not (nat_le 101 n && nat_le n 699)) (equal status 100 is))))
      (λ isnt. isnt)

  -- a response that isn't refused
  pub record Sends (held : HeldRequest) (respond : Respond) : Type 0 where
    pub above_100 : (respond.status == 100) ≡ false
    pub none_wait : (is_sent_reliably held respond && must_wait held.ledger) ≡ false

  pub may_send : (dialogs : Dialogs) (held : HeldRequest) (respond : Respond)
      → response_refusal dialogs held respond ≡ None → Sends held respond
  may_send dialogs held respond none =
      let status = respond.status in
      let reliable = is_sent_reliably held respond in
      let ledger = held.ledger in
      let parts = none_refuses (not (nat_le 101 status && nat_le status 699))
      (is_some held.removal)
      (is_reliable respond.reliability && not (may_be_reliable held status))
      (is_dialog_response held status
      && option_map_or (λ reference. not (lives dialogs reference)) held.dialog false)
      (reliable && ledger.closed) (reliable && not ledger.supported)
      (reliable && must_wait ledger)
      (is_success status && list_any (λ (p : Provisional). p.has_body) ledger.waiting)
      (reliable && nat_lt 4294967295 ledger.next) none in
      record { above_100 = not_100 status parts.0; none_wait = parts.1 }

  -- the first awaits its PRACK no more
  none_waits : (ledger : Ledger) → ledger.first ≡ 1 → must_wait ledger ≡ false
      → has_number 1 (numbers_of ledger.waiting) ≡ false
  none_waits ledger first none =
      sym (waits_as 1 ledger.waiting)
      ∙ (ap (λ n. list_any (λ (p : Provisional). p.number == n) ledger.waiting) (sym first)
      ∙ or_left (waits_for ledger.first ledger) (length ledger.waiting == MOST_WAITING)
      (or_left (waits_for ledger.first ledger || (length ledger.waiting == MOST_WAITING))
      (list_any is_given_up ledger.waiting) none))

  module _ (local : Addr) (held : HeldRequest) (respond : Respond) where
    module _ (holds : Holds held) (sends : Sends held respond)
        (gave : (rseq : ℕ) → (response_sent local held respond).rseq ≡ Some rseq
        → Gave held.id rseq (response_sent local held respond)) where
      pub answer_given : Given held.id (response_sent local held respond)
      answer_given rseq is =
          let number : Bool → Option ℕ = λ b. if b then Some held.ledger.next else None in
          by_bool (is_sent_reliably held respond)
          (λ reliable. let next : held.ledger.next ≡ rseq =
          same_number held.ledger.next rseq (sym (ap number reliable) ∙ (sym sent.rseq ∙ is)) in
          let none : must_wait held.ledger ≡ false =
          sym (ap (λ b. b && must_wait held.ledger) reliable) ∙ sends.none_wait in
          record {
            gave = gave rseq is;
            invite = arrived held;
            came = holds.came;
            id_is = refl;
            copies = sent.copies;
            to = sent.to ∙ ap (λ b. if b then held.request.to
                else tagged held.request.to held.tag) sends.above_100;
            pracked = λ more. holds.acked (omega (arith, next, more))
                (none_waits held.ledger holds.first none);
          })
          (λ plain. absurd (no_rseq rseq (sym (ap number plain) ∙ (sym sent.rseq ∙ is))))
        where
          sent : SentSo local held respond (is_sent_reliably held respond)
              (response_sent local held respond)
          sent = was_sent local held respond

          same_number : (one two : ℕ) → Some one ≡ Some two → one ≡ two
          same_number one two same = cc

      more_wait : (sent : Provisional) → sent.number ≡ held.ledger.next
          → 1 < held.ledger.next + 1
          → has_number 1 (numbers_of (held.ledger.waiting ++ sent ∷ [])) ≡ false
          → Pracked Brought (arrived held)
      more_wait sent is more none =
          let waiting = held.ledger.waiting in
          let parts : (has_number 1 (numbers_of waiting) || ((sent.number == 1) || false)) ≡ false =
          sym (list_any-append (λ one. one == 1) (numbers_of waiting) (sent.number ∷ []))
          ∙ (sym (ap (has_number 1) (numbers_more waiting (sent ∷ []))) ∙ none) in
          let other : held.ledger.next ≡ 1 → ⊥ = λ one. apart sent.number 1
          (or_left (sent.number == 1) false
          (or_right (has_number 1 (numbers_of waiting)) ((sent.number == 1) || false) parts))
          (is ∙ one) in
          holds.acked (above held.ledger.next more other)
          (or_left (has_number 1 (numbers_of waiting)) ((sent.number == 1) || false) parts)
        where
          above : (next : ℕ) → 1 < next + 1 → (next ≡ 1 → ⊥) → 1 < next
          above next more other = by_bool (next == 1) (λ is. absurd (other (equal next 1 is)))
              (λ isnt. grind (arith, common_steps, more, isnt))

      -- the dialog that it makes has that name
      answer_named : (event : Id)
          → IfSome (if makes_dialog held respond.status then Some record {
            name = dialog_id_of held.request held.tag;
            created_by = event;
          } else held.dialog) (λ reference. reference.name ≡ dialog_id_of held.request held.tag)
      answer_named event =
          either (λ o. IfSome o (λ (reference : DialogReference).
          reference.name ≡ dialog_id_of held.request held.tag)) (makes_dialog held respond.status)
          (Some record { name = dialog_id_of held.request held.tag; created_by = event })
          held.dialog (λ makes. refl) (λ other. holds.named)

      pub answer_holds : (event : Id) (now : ℕ)
          → Holds (held_after event held respond (response_sent local held respond) now)
      answer_holds event now =
          either Holds (is_sent_reliably held respond) _ _
          (λ reliable. record {
            came = holds.came;
            named = answer_named event;
            first = holds.first;
            acked = λ more none. more_wait (provisional_sent held.ledger.next
                (response_sent local held respond) now) refl more none;
            kept = both (λ one. Given held.id one.response) held.provisionals _ holds.kept
                (answer_given, tt);
            success = holds.success;
          })
          (λ plain. either Holds (is_final respond.status) _ _
          (λ final. record {
            came = holds.came;
            named = answer_named event;
            first = holds.first;
            acked = holds.acked;
            kept = holds.kept;
            success = either (λ o. IfSome o (λ success. Given held.id success.response))
                (is_invite held.request && is_success respond.status)
                (Some (success_sent (response_sent local held respond) now)) held.success
                (λ accepted. answer_given) (λ other. holds.success);
          })
          (λ other. record {
            came = holds.came;
            named = answer_named event;
            first = holds.first;
            acked = holds.acked;
            kept = holds.kept;
            success = holds.success;
          }))

  -- ---- a tick

  abbrev pub OutGiven : CallOut → Type 0
  OutGiven (out.Notice notice) = Unit {0}
  OutGiven (out.Command id (order.Start key call_id request to)) = Unit {0}
  OutGiven (out.Command id (order.Answer key response)) = Given id response
  OutGiven (out.Command id (order.Abandon key)) = Unit {0}
  OutGiven (out.Direct to bytes) = Unit {0}

  abbrev pub OutsGiven : List CallOut → Type 0
  OutsGiven outs = AllByRecursion OutGiven outs

  -- the user gives each reliable response among them
  abbrev pub OutGave : CallOut → Type 0
  OutGave (out.Notice notice) = Unit {0}
  OutGave (out.Command id (order.Start key call_id request to)) = Unit {0}
  OutGave (out.Command id (order.Answer key response)) =
      (rseq : ℕ) → response.rseq ≡ Some rseq → Gave id rseq response
  OutGave (out.Command id (order.Abandon key)) = Unit {0}
  OutGave (out.Direct to bytes) = Unit {0}

  abbrev pub OutsGave : List CallOut → Type 0
  OutsGave outs = AllByRecursion OutGave outs

  record StaysSame (before : Ledger) (done : Ledger × List CallOut) : Type 0 where
    pub first : (done.0).first ≡ before.first
    pub next : (done.0).next ≡ before.next
    pub numbers : numbers_of (done.0).waiting ≡ numbers_of before.waiting
    pub outs : OutsGiven done.1

  again_given : (id : Id) (key : Key) (responses : List ReliableResponse)
      → AllByRecursion (λ one. Given id one.response) responses
      → OutsGiven (map (λ one. out.Command id (order.Answer key one.response)) responses)
  again_given id key [] all = tt
  again_given id key (one ∷ responses) all = (all.0, again_given id key responses all.1)

  provisionals_same : (now : ℕ) (held : HeldRequest) → Holds held
      → StaysSame held.ledger (provisionals_tick now held)
  provisionals_same now held holds =
      let ledger = held.ledger in
      let due = map (λ (p : Provisional). p.number) (filter (is_repeated now) ledger.waiting) in
      either (StaysSame ledger) ledger.closed _ _
      (λ closed. record { first = refl; next = refl; numbers = refl; outs = tt })
      (λ still. either (StaysSame ledger) (list_any (is_late now) ledger.waiting) _ _
      (λ late. record {
        first = refl;
        next = refl;
        numbers = given_up_numbers ledger.waiting;
        outs = (tt, tt);
      })
      (λ early. record {
        first = refl;
        next = refl;
        numbers = repeated_numbers now ledger.waiting;
        outs = again_given held.id held.key _ (filtered (λ one. Given held.id one.response)
            (λ one. list_any (λ number. one.number == number) due) held.provisionals holds.kept);
      }))

  abbrev SuccessSo : Id → Option Success × List CallOut → Type 0
  SuccessSo id done = IfSome done.0 (λ success. Given id success.response) × OutsGiven done.1

  success_so : (now : ℕ) (held : HeldRequest) (o : Option Success)
      → IfSome o (λ success. Given held.id success.response)
      → SuccessSo held.id (option_map_or (success_at now held) o (None, []))
  success_so now held None given = (tt, tt)
  success_so now held (Some success) given =
      either (SuccessSo held.id) (is_none success.over && nat_le success.end now) _ _
      (λ over. (given, (tt, tt)))
      (λ still. either (SuccessSo held.id)
      (is_none success.over && nat_le success.retransmission.due now) _ _
      (λ again. (given, (given, tt))) (λ early. (given, tt)))

  abbrev ticked_request : ℕ → HeldRequest → HeldRequest
  ticked_request now held = record held {
    ledger = (provisionals_tick now held).0;
    success = (success_tick now held).0;
  }

  tick_holds : (now : ℕ) (held : HeldRequest) → Holds held → Holds (ticked_request now held)
  tick_holds now held holds =
      let same = provisionals_same now held holds in
      let success = success_so now held held.success holds.success in record {
        came = holds.came;
        named = holds.named;
        first = same.first ∙ holds.first;
        acked = λ more none. holds.acked (omega (arith, more, same.next))
            (sym (ap (has_number 1) same.numbers) ∙ none);
        kept = holds.kept;
        success = success.0;
      }

  tick_given : (now : ℕ) (held : HeldRequest) → Holds held
      → OutsGiven ((success_tick now held).1 ++ (provisionals_tick now held).1)
  tick_given now held holds =
      both OutGiven (success_tick now held).1 (provisionals_tick now held).1
      (success_so now held held.success holds.success).1
      (provisionals_same now held holds).outs

  all_tick : (now : ℕ) (requests : List HeldRequest) → AllByRecursion Holds requests
      → AllByRecursion Holds (map (ticked_request now) requests)
      × OutsGiven (flat_map (λ held. (success_tick now held).1 ++ (provisionals_tick now held).1)
      requests)
  all_tick now [] all = (tt, tt)
  all_tick now (held ∷ requests) all =
      let rest = all_tick now requests all.1 in (
        (tick_holds now held all.0, rest.0),
        both OutGiven ((success_tick now held).1 ++ (provisionals_tick now held).1) _
            (tick_given now held all.0) rest.1,
      )

  pub record ServedHolds (taken : ServedTaken) : Type 0 where
    pub requests : AllByRecursion Holds (taken.0).requests
    pub outs : OutsGiven taken.1

  pub served_tick : (state : State) (now : ℕ) → AllByRecursion Holds state.requests
      → ServedHolds (server_tick state now)
  unfolding server_tick
  served_tick state now all =
      let ticked = all_tick now state.requests all in record {
        requests = filtered Holds _ (map (ticked_request now) state.requests) ticked.0;
        outs = ticked.1;
      }
