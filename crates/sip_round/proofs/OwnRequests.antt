-- A request is handed up with the input that begins its life. So its message has the life's
-- Call-ID, and it is handed up under the id of that input.
use Rattle.std.proofs.Common.{◌≡◌, ℕ, ◌+◌, true, false, cond, List, [], ◌∷◌, refl, sym, ◌∙◌, ap, subst, arith}
use Rattle.std.specs.Prelude.{Option, None, Some, option_to_list, codes, if◌then◌else◌}
use Rattle.std.specs.List.{AllByRecursion}
use Rattle.std.specs.Option.{option_map}
use Rattle.std.proofs.lemmas.Bool.{false≢true}
use Rattle.std.proofs.lemmas.List.Sums.{sum_by-cons}
use Rattle.sip_message.specs.declared.addr.Addr.{Addr}
use Rattle.sip_message.specs.declared.id.Id.{Id}
use Rattle.sip_message.specs.declared.key.Key.{Key}
use Rattle.sip_message.specs.declared.message.Message.{Message}
use Rattle.sip_message.specs.declared.start_line.StartLine.{StartLine}
use Rattle.sip_message.specs.declared.start_line.StartLine.TheVariants as start
use Rattle.keyed_machine.specs.Machine.{adds, Timed, Machine}
use Rattle.keyed_machine.proofs.Ordered.{by_bool}
use Rattle.sip_transactions.specs.declared.input.Input.{Input}
use Rattle.sip_transactions.specs.declared.input.Input.TheVariants.{Receive, Start, Answer, Failed, Abandon}
use Rattle.sip_transactions.specs.declared.life.Context.{Context}
use Rattle.sip_transactions.specs.declared.life.Life.{Life}
use Rattle.sip_transactions.specs.declared.output.UpKind.{UpKind}
use Rattle.sip_transactions.specs.declared.output.UpKind.TheVariants as kind
use Rattle.sip_transactions.specs.declared.output.Out.{Out}
use Rattle.sip_transactions.specs.declared.output.Out.TheVariants as out
use Rattle.sip_transactions.specs.declared.step.UpAction.{UpAction}
use Rattle.sip_transactions.specs.declared.step.UpAction.TheVariants as handed
use Rattle.sip_transactions.specs.declared.step.Step.{Step}
use Rattle.sip_transactions.specs.Steps.Input.{is_same_method, message_in, role_of}
use Rattle.sip_transactions.specs.Laws.{arrival_id, is_request_kind, is_request_up, naming_id, requests_in}
use Rattle.sip_transactions.specs.Steps.Life.{acted_if, begun, context_by, keeps_request, step_for, stepped, stepped_by, step_machine}
use Rattle.sip_transactions.specs.Machine.{transaction_machine}
use Rattle.sip_transactions.proofs.Rules.{machine_is}
use Rattle.sip_transactions.specs.Steps.Output.{handed_out, kind_of, made_bytes, outputs_of, send_out, sent_bytes}
use Rattle.sip_transactions.proofs.OneRequest.{held_silent}
use Rattle.sip_user.specs.OwnCall.{IsKindOf}
use Rattle.sip_held_dialogs.proofs.Each.{both}

-- a request belongs to this event
abbrev pub IsKindBy : Option Id → Id → UpKind → Type 0
IsKindBy event id (kind.Request request reply_to) = event ≡ Some id
IsKindBy event id (kind.Ack ack) = Unit {0}
IsKindBy event id (kind.Response response) = Unit {0}
IsKindBy event id kind.Timeout = Unit {0}
IsKindBy event id kind.Failed = Unit {0}

-- a request that is handed up has the Call-ID under which it is handed up, and the id of this event
abbrev pub IsOwnUp : Option Id → Out → Type 0
IsOwnUp event (out.Up up) = IsKindOf up.call_id up.kind × IsKindBy event up.id up.kind
IsOwnUp event (out.Send key to bytes) = Unit {0}
IsOwnUp event (out.Dropped place why) = Unit {0}

abbrev pub AreOwnUps : Option Id → List Out → Type 0
AreOwnUps event outs = AllByRecursion (IsOwnUp event) outs

sends_own : (event : Option Id) (key : Key) (to : Addr) (sent : Option (List ℕ))
    → AreOwnUps event (option_to_list (option_map (send_out key to) sent))
sends_own event key to None = tt
sends_own event key to (Some bytes) = (tt, tt)

-- ---- a held life hands up no request

none_first : (o : Out) (outs : List Out) → requests_in (o ∷ outs) ≡ 0 → is_request_up o ≡ false
none_first o outs none =
    by_bool (is_request_up o)
    (λ is. let one : requests_in (o ∷ outs) ≡ 1 + requests_in outs =
    sum_by-cons (λ o. cond (is_request_up o) 1 0) o outs
    ∙ ap (λ b. cond b 1 0 + requests_in outs) is in
    absurd (omega (arith, none, one)))
    (λ isnt. isnt)

none_later : (o : Out) (outs : List Out) → requests_in (o ∷ outs) ≡ 0 → requests_in outs ≡ 0
none_later o outs none =
    omega (arith, none, sum_by-cons (λ o. cond (is_request_up o) 1 0) o outs)

kind_own : (event : Option Id) (call_id : List ℕ) (id : Id) (k : UpKind)
    → is_request_kind k ≡ false → IsKindOf call_id k × IsKindBy event id k
kind_own event call_id id (kind.Request request reply_to) isnt = absurd (false≢true (sym isnt))
kind_own event call_id id (kind.Ack ack) isnt = (tt, tt)
kind_own event call_id id (kind.Response response) isnt = (tt, tt)
kind_own event call_id id kind.Timeout isnt = (tt, tt)
kind_own event call_id id kind.Failed isnt = (tt, tt)

no_request : (event : Option Id) (o : Out) → is_request_up o ≡ false → IsOwnUp event o
no_request event (out.Up up) isnt = kind_own event up.call_id up.id up.kind isnt
no_request event (out.Send key to bytes) isnt = tt
no_request event (out.Dropped place why) isnt = tt

no_requests : (event : Option Id) (outs : List Out) → requests_in outs ≡ 0 → AreOwnUps event outs
no_requests event [] none = tt
no_requests event (o ∷ outs) none =
    (no_request event o (none_first o outs none), no_requests event outs (none_later o outs none))

-- ---- what begins a life gives it its Call-ID and its id

message_own : (id : Id) (line : StartLine) (message : Message) (reply_to : Addr)
    → IsKindOf message.call_id (kind_of line message reply_to)
    × IsKindBy (arrival_id line id) id (kind_of line message reply_to)
message_own id (start.Request uri) message reply_to =
    elim (is_same_method message.cseq.method (codes "ACK")) as (λ b. IsKindOf message.call_id
    (if b then kind.Ack message else kind.Request message reply_to)
    × IsKindBy (Some id) id (if b then kind.Ack message else kind.Request message reply_to)) [
      | true ↦ (tt, tt)
      | false ↦ (refl, refl)
    ]
message_own id (start.Response status reason) message reply_to = (tt, tt)

handed_own : (key : Key) (context : Context) (h : UpAction) (message : Message) (reply_to : Addr)
    → context.call_id ≡ message.call_id
    → AreOwnUps (arrival_id message.start context.id)
    (option_to_list (handed_out key context h (Some (message, reply_to))))
unfolding handed_out
handed_own key context handed.Nothing message reply_to same = tt
handed_own key context handed.Message message reply_to same =
    let own = message_own context.id message.start message reply_to in (
      (
        subst (λ id. IsKindOf id (kind_of message.start message reply_to)) (sym same) own.0,
        own.1,
      ),
      tt,
    )
handed_own key context handed.Timeout message reply_to same = ((tt, tt), tt)
handed_own key context handed.Failed message reply_to same = ((tt, tt), tt)
handed_own key context handed.NoTransaction message reply_to same = (tt, tt)

handed_nothing : (event : Option Id) (key : Key) (context : Context) (h : UpAction)
    → AreOwnUps event (option_to_list (handed_out key context h None))
unfolding handed_out
handed_nothing event key context handed.Nothing = tt
handed_nothing event key context handed.Message = tt
handed_nothing event key context handed.Timeout = ((tt, tt), tt)
handed_nothing event key context handed.Failed = ((tt, tt), tt)
handed_nothing event key context handed.NoTransaction = (tt, tt)

begun_own : (key : Key) (now : ℕ) (input : Option Input) (step : Step)
    → AreOwnUps (naming_id input)
    (acted_if key now input None (begun (role_of key) input) step).1
unfolding begun outputs_of
begun_own key now None step = tt
begun_own key now (Some (Answer id message)) step = tt
begun_own key now (Some (Failed id)) step = tt
begun_own key now (Some Abandon) step = tt
begun_own key now (Some (Receive id message reply_to)) step =
    let context = context_by id message.call_id reply_to None in
    let event = arrival_id message.start id in
    both (IsOwnUp event)
    (option_to_list (handed_out key context step.handed (Some (message, reply_to))))
    (option_to_list (option_map (send_out key context.to) (sent_bytes context.last step.sent
    (made_bytes context.request step.sent (message_in (Some (Receive id message reply_to)))))))
    (handed_own key context step.handed message reply_to refl)
    (sends_own event key context.to (sent_bytes context.last step.sent
    (made_bytes context.request step.sent (message_in (Some (Receive id message reply_to))))))
begun_own key now (Some (Start id call_id message to)) step =
    let context = context_by id call_id to
    (if keeps_request (role_of key) then Some message else None) in
    both (IsOwnUp (Some id))
    (option_to_list (handed_out key context step.handed None))
    (option_to_list (option_map (send_out key context.to) (sent_bytes context.last step.sent
    (made_bytes context.request step.sent (message_in (Some (Start id call_id message to)))))))
    (handed_nothing (Some id) key context step.handed)
    (sends_own (Some id) key context.to (sent_bytes context.last step.sent
    (made_bytes context.request step.sent (message_in (Some (Start id call_id message to))))))

-- ---- one input

first_own : (key : Key) (timed : Timed Input) (o : Option Step)
    → AreOwnUps (naming_id timed.input) (stepped_by key None timed.moment timed.input o).1
first_own key timed None = tt
first_own key timed (Some step) = begun_own key timed.moment timed.input step

own_steps : (key : Key) (held : Option Life) (timed : Timed Input)
    → AreOwnUps (naming_id timed.input) (adds step_machine key held timed)
unfolding stepped
own_steps key None timed = first_own key timed (step_for key None timed.moment timed.input)
own_steps key (Some life) timed =
    no_requests (naming_id timed.input) (adds step_machine key (Some life) timed)
    (held_silent key life timed)

pub own_ups : (key : Key) (held : Option Life) (timed : Timed Input)
    → AreOwnUps (naming_id timed.input) (adds transaction_machine key held timed)
own_ups key held timed =
    subst (λ (machine : Machine Key Life (Timed Input) Out).
    AreOwnUps (naming_id timed.input) (adds machine key held timed)) (sym machine_is)
    (own_steps key held timed)
