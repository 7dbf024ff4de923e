-- What a tick sends again.
use Rattle.std.proofs.Common.{◌≡◌, ℕ, Bool, true, false, not, ◌&&◌, ◌||◌, ◌==◌, cond, List, [], ◌∷◌, ◌++◌, map, nat_le, refl, sym, ap, ◌∙◌, arith}
use Rattle.std.specs.Prelude.{Option, None, Some, filter, flat_map, is_none}
use Rattle.std.specs.List.{list_any}
use Rattle.std.specs.Map.{values_of}
use Rattle.std.specs.Option.{option_map_or, option_to_list}
use Rattle.std.proofs.lemmas.Grind.{common_steps}
use Rattle.std.proofs.lemmas.List.{append-nil, map-append}
use Rattle.std.proofs.lemmas.List.Elements.{filter-append}
use Rattle.keyed_machine.proofs.Ordered.{by_bool}
use Rattle.sip_message.specs.declared.message.Message.{Message}
use Rattle.sip_reliable.specs.Ledger.{Ledger}
use Rattle.sip_reliable.specs.Provisional.{Provisional, is_late, is_repeated}
use Rattle.sip_transactions.specs.declared.input.Command.TheVariants.{Answer}
use Rattle.sip_user.specs.declared.item.CallOut.{CallOut}
use Rattle.sip_user.specs.declared.item.CallOut.TheVariants as out
use Rattle.sip_user.specs.declared.item.CallOut.TheVariants.{Command}
use Rattle.sip_user.specs.declared.notice.Notice.{Notice}
use Rattle.sip_held_dialogs.specs.Dialogs.{Dialogs, early_ended, is_early_of}
use Rattle.sip_served.specs.declared.held_request.HeldRequest.{HeldRequest}
use Rattle.sip_served.specs.declared.held_request.Success.{Success}
use Rattle.sip_served.specs.declared.provisionals.ReliableResponse.{ReliableResponse}
use Rattle.sip_served.specs.Rules.Ticks.{provisionals_tick, server_tick, success_at, success_tick}
use Rattle.sip_clients.specs.declared.client.Client.{Client}
use Rattle.sip_clients.specs.Rules.Ends.{client_tick, is_over}
use Rattle.sip_agent_laws.specs.Calls.Commanded.{goes_out, is_notice}
use Rattle.sip_agent_laws.specs.Repeats.Repeats.{SentAgain, is_due, provisionals_due, responses_to, success_due}
use Rattle.sip_agent_laws.proofs.calls.Commanded.{ends_stay}

-- ---- what goes out of a list of outputs

goes_out-append : (xs ys : List CallOut) → goes_out (xs ++ ys) ≡ goes_out xs ++ goes_out ys
goes_out-append xs ys = filter-append (λ out. not (is_notice out)) xs ys

all_go_out : (held : HeldRequest) (responses : List Message)
    → goes_out (responses_to held responses) ≡ responses_to held responses
all_go_out held [] = refl
all_go_out held (response ∷ responses) =
    ap (λ rest. Command held.id (Answer held.key response) ∷ rest) (all_go_out held responses)

-- nothing goes out by the ends of dialogs
over_stay : (dialogs : Dialogs) (clients : List Client)
    → goes_out (flat_map (λ client. (early_ended client.id dialogs).1) clients) ≡ []
over_stay dialogs [] = refl
over_stay dialogs (client ∷ clients) =
    goes_out-append (early_ended client.id dialogs).1
    (flat_map (λ client. (early_ended client.id dialogs).1) clients)
    ∙ (λ i. ends_stay (filter (is_early_of client.id) (values_of dialogs)) i
    ++ over_stay dialogs clients i)

-- ---- one request

pub ended : (now : ℕ) (success : Success) → (is_none success.over && nat_le success.end now) ≡ true
    → is_due now success ≡ false
ended now success e = grind (arith, common_steps)

pub due : (now : ℕ) (success : Success) → (is_none success.over && nat_le success.end now) ≡ false
    → (is_none success.over && nat_le success.retransmission.due now) ≡ true
    → is_due now success ≡ true
due now success e f = grind (arith, common_steps)

pub not_due : (now : ℕ) (success : Success)
    → (is_none success.over && nat_le success.retransmission.due now) ≡ false
    → is_due now success ≡ false
not_due now success f = grind (arith, common_steps)

module _ (now : ℕ) (held : HeldRequest) where
  success_sent : (success : Success) → goes_out (success_at now held success).1
      ≡ responses_to held
      (map (λ (s : Success). s.response) (filter (is_due now) (option_to_list (Some success))))
  success_sent success =
      by_bool (is_none success.over && nat_le success.end now)
      (λ e. rw (e, ended now success e) refl)
      (λ e. by_bool (is_none success.over && nat_le success.retransmission.due now)
      (λ f. rw (e, f, due now success e f) refl) (λ f. rw (e, f, not_due now success f) refl))

  successes_sent : (o : Option Success)
      → goes_out (option_map_or (success_at now held) o (None, [])).1
      ≡ responses_to held
      (map (λ (s : Success). s.response) (filter (is_due now) (option_to_list o)))
  successes_sent None = refl
  successes_sent (Some success) = success_sent success

  -- ---- the reliable provisional responses

  pub number_due : (one : ReliableResponse) (waiting : List Provisional)
      → list_any (λ number. one.number == number)
      (map (λ (p : Provisional). p.number) (filter (is_repeated now) waiting))
      ≡ list_any (λ p. is_repeated now p && (one.number == p.number)) waiting
  number_due one [] = refl
  number_due one (p ∷ waiting) =
      by_bool (is_repeated now p)
      (λ e. rw e (ap (λ b. (one.number == p.number) || b) (number_due one waiting)))
      (λ e. rw e (number_due one waiting))

  pub none_due : (responses : List ReliableResponse) → filter (λ _. false) responses ≡ []
  none_due [] = refl
  none_due (one ∷ responses) = none_due responses

  abbrev again : List ReliableResponse → List CallOut
  again responses = map (λ one. Command held.id (Answer held.key one.response)) responses

  again_same : (responses : List ReliableResponse)
      → again responses ≡ responses_to held (map (λ (one : ReliableResponse). one.response) responses)
  again_same [] = refl
  again_same (one ∷ responses) =
      ap (λ rest. Command held.id (Answer held.key one.response) ∷ rest) (again_same responses)

  abbrev to : List ReliableResponse → List CallOut
  to responses = responses_to held (map (λ (one : ReliableResponse). one.response) responses)

  by_case : (closed late : Bool) (l1 l2 l3 : Ledger) (notice : Notice)
      (sent g : ReliableResponse → Bool)
      → goes_out (again (filter sent held.provisionals)) ≡ to (filter g held.provisionals)
      → goes_out (cond {A = Ledger × List CallOut} closed (l1, [])
      (cond late (l2, out.Notice notice ∷ []) (l3, again (filter sent held.provisionals)))).1
      ≡ to (filter (λ one. not closed && not late && g one) held.provisionals)
  by_case true late l1 l2 l3 notice sent g same = sym (ap to (none_due held.provisionals))
  by_case false true l1 l2 l3 notice sent g same = sym (ap to (none_due held.provisionals))
  by_case false false l1 l2 l3 notice sent g same = same

  provisionals_sent : goes_out (provisionals_tick now held).1
      ≡ responses_to held (provisionals_due now held)
  provisionals_sent =
      by_case held.ledger.closed (list_any (is_late now) held.ledger.waiting) _ _ _ _ _
      (λ one. list_any (λ p. is_repeated now p && (one.number == p.number)) held.ledger.waiting)
      sent
    where
      sent : goes_out (again (filter (λ one. list_any (λ number. one.number == number)
          (map (λ (p : Provisional). p.number) (filter (is_repeated now) held.ledger.waiting)))
          held.provisionals))
          ≡ to (filter (λ one. list_any (λ p. is_repeated now p && (one.number == p.number))
          held.ledger.waiting) held.provisionals)
      sent =
          ap goes_out (again_same (filter (λ one. list_any (λ number. one.number == number)
          (map (λ (p : Provisional). p.number) (filter (is_repeated now) held.ledger.waiting)))
          held.provisionals))
          ∙ all_go_out held (map (λ (one : ReliableResponse). one.response)
          (filter (λ one. list_any (λ number. one.number == number)
          (map (λ (p : Provisional). p.number) (filter (is_repeated now) held.ledger.waiting)))
          held.provisionals))
          ∙ (λ i. to (filter (λ one. number_due one held.ledger.waiting i) held.provisionals))

  request_sent : goes_out ((success_tick now held).1 ++ (provisionals_tick now held).1)
      ≡ responses_to held (success_due now held ++ provisionals_due now held)
  request_sent =
      goes_out-append (success_tick now held).1 (provisionals_tick now held).1
      ∙ (λ i. successes_sent held.success i ++ provisionals_sent i)
      ∙ sym (map-append (λ response. Command held.id (Answer held.key response))
      (success_due now held) (provisionals_due now held))

-- ---- all of them

requests_sent : (now : ℕ) (requests : List HeldRequest)
    → goes_out
    (flat_map (λ held. (success_tick now held).1 ++ (provisionals_tick now held).1) requests)
    ≡ flat_map (λ held. responses_to held (success_due now held ++ provisionals_due now held))
    requests
requests_sent now [] = refl
requests_sent now (held ∷ requests) =
    goes_out-append ((success_tick now held).1 ++ (provisionals_tick now held).1)
    (flat_map (λ held. (success_tick now held).1 ++ (provisionals_tick now held).1) requests)
    ∙ (λ i. request_sent now held i ++ requests_sent now requests i)

pub sent_again : SentAgain
unfolding server_tick client_tick
sent_again calls call now =
    let first = server_tick call.served now in
    let over = filter (is_over now) (values_of call.clients) in
    let last = flat_map (λ client. (early_ended client.id (first.0).dialogs).1) over in
    goes_out-append first.1 last
    ∙ (λ i. requests_sent now (call.served).requests i ++ over_stay (first.0).dialogs over i)
    ∙ append-nil (flat_map
    (λ held. responses_to held (success_due now held ++ provisionals_due now held))
    (call.served).requests)
