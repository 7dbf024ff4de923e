-- What a tick removes and tells.
use Rattle.std.proofs.Common.{◌≡◌, ℕ, Bool, true, false, not, ◌&&◌, ◌||◌, ◌==◌, cond, List, [], ◌∷◌, ◌++◌, map, nat_le, nat_lt, refl, sym, ap, ◌∙◌, arith}
use Rattle.std.specs.Prelude.{Option, None, Some, filter, flat_map, is_none}
use Rattle.std.specs.List.{list_any}
use Rattle.std.specs.Map.{values_of}
use Rattle.std.specs.Option.{option_map_or}
use Rattle.std.proofs.lemmas.Bool.{false≢true, true≢false, and_right}
use Rattle.std.proofs.lemmas.Grind.{common_steps}
use Rattle.std.proofs.lemmas.List.Folds.{list_any-append}
use Rattle.keyed_machine.proofs.Ordered.{by_bool}
use Rattle.sip_message.specs.declared.id.Id.{Id}
use Rattle.sip_message.specs.declared.message.Message.{Message}
use Rattle.sip_reliable.specs.Provisional.{Provisional, is_late, is_repeated}
use Rattle.sip_transactions.specs.declared.input.Command.TheVariants.{Answer}
use Rattle.sip_user.specs.declared.item.CallOut.{CallOut}
use Rattle.sip_user.specs.declared.item.CallOut.TheVariants.{Command}
use Rattle.sip_held_dialogs.specs.declared.held_dialog.HeldDialog.{HeldDialog}
use Rattle.sip_held_dialogs.specs.Dialogs.{Dialogs, early_ended, ended_notice, is_early_of}
use Rattle.sip_held_dialogs.specs.Ids.{is_id}
use Rattle.sip_served.specs.declared.held_request.HeldRequest.{HeldRequest}
use Rattle.sip_served.specs.declared.held_request.Success.{Success}
use Rattle.sip_served.specs.declared.provisionals.ReliableResponse.{ReliableResponse}
use Rattle.sip_served.specs.Rules.Ticks.{provisionals_tick, server_tick, success_at, success_tick}
use Rattle.sip_clients.specs.declared.client.Client.{Client}
use Rattle.sip_clients.specs.Client.{Side}
use Rattle.sip_clients.specs.Rules.Ends.{client_tick, is_over}
use Rattle.sip_calls.specs.declared.call.Call.{Call}
use Rattle.sip_calls.specs.declared.calls.Calls.{Calls}
use Rattle.sip_calls.specs.Call.{call_step, call_tick}
use Rattle.sip_calls.proofs.HeldRequests.{kept_requests}
use Rattle.sip_calls.proofs.KeptSides.{kept_side}
use Rattle.sip_agent_laws.specs.Calls.InTime.{ClientsRemoved, NoAckTold, NoPrackTold, RequestsRemoved, has_come, lacks_ack, lacks_prack, tells_no_ack, tells_no_prack}
use Rattle.sip_agent_laws.proofs.calls.ServedBounds.{ticked}

-- ---- what is removed

pub later_same : (now : ℕ) (o : Option ℕ)
    → option_map_or (λ moment. nat_lt now moment) o true ≡ not (has_come now o)
later_same now None = refl
later_same now (Some moment) = grind (arith, common_steps)

abbrev ids : List HeldRequest → List Id
ids requests = map (λ held. held.id) requests

abbrev pub left : ℕ → List HeldRequest → List HeldRequest
left now requests =
    filter (λ held. option_map_or (λ moment. nat_lt now moment) held.removal true)
    (map (ticked now) requests)

removed : (now : ℕ) (requests : List HeldRequest)
    → ids (left now requests) ≡ ids (filter (λ held. not (has_come now held.removal)) requests)
removed now [] = refl
removed now (held ∷ requests) =
    by_kept (not (has_come now held.removal))
    (option_map_or (λ moment. nat_lt now moment) held.removal true)
    (later_same now held.removal) (removed now requests)
  where
    by_kept : (b c : Bool) → c ≡ b
        → ids (left now requests) ≡ ids (filter (λ held. not (has_come now held.removal)) requests)
        → ids (cond c (ticked now held ∷ left now requests) (left now requests))
        ≡ ids (cond b (held ∷ filter (λ held. not (has_come now held.removal)) requests)
        (filter (λ held. not (has_come now held.removal)) requests))
    by_kept true true same later = ap (λ rest. held.id ∷ rest) later
    by_kept true false same later = absurd (false≢true same)
    by_kept false true same later = absurd (true≢false same)
    by_kept false false same later = later

pub requests_removed : RequestsRemoved
unfolding server_tick
requests_removed calls call now =
    ap ids (kept_requests (call_tick call now).0) ∙ removed now (call.served).requests

pub clients_removed : ClientsRemoved
unfolding client_tick
clients_removed calls call now =
    ap (λ (side : Side). side.clients) (kept_side (call_tick call now).0)

-- ---- what is told

or_false : (b : Bool) → (b || false) ≡ b
or_false true = refl
or_false false = refl

and_true : (b : Bool) → (b && true) ≡ b
and_true true = refl
and_true false = refl

or_both : (a b c : Bool) → a ≡ c → b ≡ false → (a || b) ≡ c
or_both a b c first second = (λ i. first i || second i) ∙ or_false c

abbrev tick_outs : ℕ → HeldRequest → List CallOut
tick_outs now held = (success_tick now held).1 ++ (provisionals_tick now held).1

-- nothing of the kind is told by the ends of dialogs
module _ (tells : CallOut → Bool) (ended : (held : HeldDialog) → tells (ended_notice held) ≡ false)
  where
    ends_silent : (dialogs : List HeldDialog) → list_any tells (map ended_notice dialogs) ≡ false
    ends_silent [] = refl
    ends_silent (held ∷ dialogs) = λ i. ended held i || ends_silent dialogs i

    over_silent : (dialogs : Dialogs) (clients : List Client)
        → list_any tells (flat_map (λ client. (early_ended client.id dialogs).1) clients) ≡ false
    over_silent dialogs [] = refl
    over_silent dialogs (client ∷ clients) =
        list_any-append tells (early_ended client.id dialogs).1
        (flat_map (λ client. (early_ended client.id dialogs).1) clients)
        ∙ (λ i. ends_silent (filter (is_early_of client.id) (values_of dialogs)) i
        || over_silent dialogs clients i)

    -- by what a tick of each request tells
    module _ (now : ℕ) (owed : HeldRequest → Bool)
        (one : (held : HeldRequest) → list_any tells (tick_outs now held) ≡ owed held) where
      requests_told : (requests : List HeldRequest)
          → list_any tells (flat_map (tick_outs now) requests) ≡ list_any owed requests
      requests_told [] = refl
      requests_told (held ∷ requests) =
          list_any-append tells (tick_outs now held) (flat_map (tick_outs now) requests)
          ∙ (λ i. one held i || requests_told requests i)

      tick_told : (calls : Calls) (call : Call)
          → list_any tells (call_step calls (Some call) None now).1
          ≡ list_any owed (call.served).requests
      unfolding server_tick client_tick
      tick_told calls call =
          let first = server_tick call.served now in
          let over = filter (is_over now) (values_of call.clients) in
          let last = flat_map (λ client. (early_ended client.id (first.0).dialogs).1) over in
          list_any-append tells first.1 last
          ∙ or_both (list_any tells first.1) (list_any tells last)
          (list_any owed (call.served).requests) (requests_told (call.served).requests)
          (over_silent (first.0).dialogs over)

-- the responses that go out again
abbrev due_again : ℕ → HeldRequest → List ReliableResponse
due_again now held =
    let due = map (λ (p : Provisional). p.number) (filter (is_repeated now) held.ledger.waiting) in
    filter (λ one. list_any (λ number. one.number == number) due) held.provisionals

repeats_silent : (tells : CallOut → Bool) → ((id : Id) (held : HeldRequest) (response : Message)
    → tells (Command id (Answer held.key response)) ≡ false) → (held : HeldRequest)
    → (responses : List ReliableResponse)
    → list_any tells (map (λ one. Command held.id (Answer held.key one.response)) responses)
    ≡ false
repeats_silent tells none held [] = refl
repeats_silent tells none held (one ∷ responses) =
    λ i. none held.id held one.response i || repeats_silent tells none held responses i

module _ (now : ℕ) (id : Id) where
  -- ---- no ACK

  success_ack : (held : HeldRequest) (success : Success)
      → list_any (tells_no_ack id) (success_at now held success).1
      ≡ (is_id id held.id && (is_none success.over && nat_le success.end now))
  success_ack held success =
      by_bool (is_none success.over && nat_le success.end now)
      (λ e. rw e (or_false (is_id id held.id) ∙ sym (and_true (is_id id held.id))))
      (λ e. by_bool (is_none success.over && nat_le success.retransmission.due now)
      (λ f. rw (e, f) (sym (and_right (is_id id held.id) false refl)))
      (λ f. rw (e, f) (sym (and_right (is_id id held.id) false refl))))

  ack_told : (held : HeldRequest) (o : Option Success)
      → list_any (tells_no_ack id) (option_map_or (success_at now held) o (None, [])).1
      ≡ (is_id id held.id
      && option_map_or (λ success. is_none success.over && nat_le success.end now) o false)
  ack_told held None = sym (and_right (is_id id held.id) false refl)
  ack_told held (Some success) = success_ack held success

  ack_untold : (held : HeldRequest)
      → list_any (tells_no_ack id) (provisionals_tick now held).1 ≡ false
  ack_untold held =
      by_bool held.ledger.closed (λ e. rw e refl)
      (λ e. by_bool (list_any (is_late now) held.ledger.waiting) (λ f. rw (e, f) refl)
      (λ f. rw (e, f) (repeats_silent (tells_no_ack id) (λ id held response. refl) held (due_again now held))))

  request_ack : (held : HeldRequest)
      → list_any (tells_no_ack id) (tick_outs now held) ≡ (is_id id held.id && lacks_ack now held)
  request_ack held =
      list_any-append (tells_no_ack id) (success_tick now held).1 (provisionals_tick now held).1
      ∙ or_both (list_any (tells_no_ack id) (success_tick now held).1)
      (list_any (tells_no_ack id) (provisionals_tick now held).1)
      (is_id id held.id && lacks_ack now held) (ack_told held held.success) (ack_untold held)

  -- ---- no PRACK

  success_prack : (held : HeldRequest) (success : Success)
      → list_any (tells_no_prack id) (success_at now held success).1 ≡ false
  success_prack held success =
      by_bool (is_none success.over && nat_le success.end now) (λ e. rw e refl)
      (λ e. by_bool (is_none success.over && nat_le success.retransmission.due now)
      (λ f. rw (e, f) refl) (λ f. rw (e, f) refl))

  prack_untold : (held : HeldRequest) (o : Option Success)
      → list_any (tells_no_prack id) (option_map_or (success_at now held) o (None, [])).1 ≡ false
  prack_untold held None = refl
  prack_untold held (Some success) = success_prack held success

  prack_told : (held : HeldRequest)
      → list_any (tells_no_prack id) (provisionals_tick now held).1
      ≡ (is_id id held.id && lacks_prack now held)
  prack_told held =
      by_bool held.ledger.closed (λ e. rw e (sym (and_right (is_id id held.id) false refl)))
      (λ e. by_bool (list_any (is_late now) held.ledger.waiting)
      (λ f. rw (e, f) (or_false (is_id id held.id) ∙ sym (and_true (is_id id held.id))))
      (λ f. rw (e, f) (repeats_silent (tells_no_prack id) (λ id held response. refl) held (due_again now held)
      ∙ sym (and_right (is_id id held.id) false refl))))

  request_prack : (held : HeldRequest)
      → list_any (tells_no_prack id) (tick_outs now held)
      ≡ (is_id id held.id && lacks_prack now held)
  request_prack held =
      list_any-append (tells_no_prack id) (success_tick now held).1 (provisionals_tick now held).1
      ∙ (λ i. prack_untold held held.success i
      || list_any (tells_no_prack id) (provisionals_tick now held).1)
      ∙ prack_told held

pub no_ack_told : NoAckTold
no_ack_told calls call now id =
    tick_told (tells_no_ack id) (λ held. refl) now (λ held. is_id id held.id && lacks_ack now held)
    (request_ack now id) calls call

pub no_prack_told : NoPrackTold
no_prack_told calls call now id =
    tick_told (tells_no_prack id) (λ held. refl) now
    (λ held. is_id id held.id && lacks_prack now held) (request_prack now id) calls call
