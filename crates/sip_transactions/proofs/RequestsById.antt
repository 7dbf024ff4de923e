-- If ids rise, requests come up in the order of their ids.
use Rattle.std.proofs.Common.{◌≡◌, ◌⊎◌, inl, inr, ℕ, ◌+◌, Bool, cond, List, [], ◌∷◌, ◌++◌, refl, sym, ◌∙◌, ap, subst}
use Rattle.std.specs.Prelude.{Option, None, Some, option_map, option_to_list, codes}
use Rattle.std.specs.List.{AllByRecursion, cons_option}
use Rattle.std.specs.List.Sorted.{IsStrictlySortedBy}
use Rattle.std.specs.declared.cmp.Ordering.TheVariants.{Less}
use Rattle.std.proofs.lemmas.List.{append-nil}
use Rattle.std.proofs.lemmas.List.Elements.{filter_map-append}
use Rattle.sip_message.specs.declared.addr.Addr.{Addr}
use Rattle.sip_message.specs.declared.id.Id.{Id}
use Rattle.sip_message.specs.declared.key.Key.{Key}
use Rattle.sip_message.specs.declared.message.Message.{Message}
use Rattle.sip_message.specs.declared.start_line.StartLine.{StartLine}
use Rattle.sip_message.specs.declared.start_line.StartLine.TheVariants as start
use Rattle.keyed_machine.specs.Machine.{outputs_from, Timed}
use Rattle.sip_transactions.specs.declared.input.Input.{Input}
use Rattle.sip_transactions.specs.declared.input.Input.TheVariants.{Receive, Start, Answer, Failed, Abandon}
use Rattle.sip_transactions.specs.declared.life.Context.{Context}
use Rattle.sip_transactions.specs.declared.life.Life.{Life}
use Rattle.sip_transactions.specs.declared.output.UpKind.TheVariants as kind
use Rattle.sip_transactions.specs.declared.output.Out.{Out}
use Rattle.sip_transactions.specs.declared.output.Out.TheVariants as out
use Rattle.sip_transactions.specs.declared.step.UpAction.{UpAction}
use Rattle.sip_transactions.specs.declared.step.UpAction.TheVariants as up
use Rattle.sip_transactions.specs.declared.step.Step.{Step}
use Rattle.sip_transactions.specs.Ids.{IdsRise, id_cmp}
use Rattle.sip_transactions.specs.Steps.Input.{role_of, is_same_method}
use Rattle.sip_transactions.specs.Laws.{RequestsComeUpById, arrival_id, is_request_kind, names_in, naming_id, request_id, request_ids, requests_in}
use Rattle.sip_transactions.specs.Steps.Life.{stepped, acted_if, begun}
use Rattle.sip_transactions.specs.Steps.Output.{handed_out, kind_of, outputs_of, send_out, sent_bytes, up_out}
use Rattle.sip_transactions.specs.Rows.{rows_of}
use Rattle.sip_transactions.specs.Steps.Life.{step_machine}
use Rattle.sip_transactions.proofs.LawSteps.{by_step, later_in_tables, later_not_handed_up}
use Rattle.sip_transactions.proofs.OneRequest.{later_once}
use Rattle.sip_transactions.proofs.RowFacts.{by_test, row_passes}

-- no request, or one under this id
abbrev Named : Option Id → List Id → Type 0
Named name ids = (ids ≡ []) ⊎ (ids ≡ cons_option name [])

-- ---- what a row says
none_sent : (key : Key) (to : Addr) (o : Option (List ℕ))
    → request_ids (option_to_list (option_map (send_out key to) o)) ≡ []
none_sent key to None = refl
none_sent key to (Some bytes) = refl

ids-outputs : (key : Key) (context : Context) (step : Step) (made : Option (List ℕ))
    (arrived : Option (Message × Addr))
    → request_ids (outputs_of key context step made arrived)
    ≡ request_ids (option_to_list (handed_out key context step.handed arrived))
unfolding outputs_of
ids-outputs key context step made arrived =
    let handed = option_to_list (handed_out key context step.handed arrived) in
    filter_map-append request_id handed
    (option_to_list (option_map (send_out key context.to) (sent_bytes context.last step.sent made)))
    ∙ ap (λ ids. request_ids handed ++ ids)
    (none_sent key context.to (sent_bytes context.last step.sent made))
    ∙ append-nil (request_ids handed)

one_is_some : (n : ℕ) → 0 + 1 ≡ n → n ≡ 0 → ⊥
one_is_some n one none = cc

none_counted : (o : Option Out) → requests_in (option_to_list o) ≡ 0
    → request_ids (option_to_list o) ≡ []
none_counted None none = refl
none_counted (Some (out.Send key to bytes)) none = refl
none_counted (Some (out.Dropped place reason)) none = refl
none_counted (Some (out.Up up)) none =
    by_test (is_request_kind up.kind)
    (λ is. absurd (one_is_some _ (sym (ap (λ b. 0 + cond {A = ℕ} b 1 0) is)) none))
    (λ other. ap (λ b. cons_option (cond b (Some up.id) None) []) other)

held_ids : (key : Key) (life : Life) (timed : Timed Input)
    → request_ids (stepped key (Some life) timed).1 ≡ []
held_ids key life timed =
    by_step (λ after. request_ids after.1 ≡ []) key (Some life) timed refl refl
    (λ step row. ids-outputs key life.context step _ _
    ∙ none_counted (handed_out key life.context step.handed _)
    (later_once key (Some life) life.context step.handed timed.moment timed.input row.trigger
    row.triggered (row_passes later_not_handed_up (rows_of (role_of key))
    (later_in_tables (role_of key)) (Some life.state) row.trigger step row.row)))

-- a message that came
handed_ids : (key : Key) (context : Context) (handed : UpAction) (message : Message)
    (reply_to : Addr) (line : StartLine) → message.start ≡ line
    → Named (arrival_id line context.id)
    (request_ids (option_to_list (handed_out key context handed (Some (message, reply_to)))))
unfolding handed_out
handed_ids key context up.Nothing message reply_to line is = inl refl
handed_ids key context up.Timeout message reply_to line is = inl refl
handed_ids key context up.Failed message reply_to line is = inl refl
handed_ids key context up.NoTransaction message reply_to line is = inl refl
handed_ids key context up.Message message reply_to (start.Response status reason) is =
    inl (ap (λ l. request_ids (up_out key context (kind_of l message reply_to) ∷ [])) is)
handed_ids key context up.Message message reply_to (start.Request uri) is =
    let by_line = ap (λ l. request_ids (up_out key context (kind_of l message reply_to) ∷ [])) is in
    let by_kind : Bool → List Id = λ b. request_ids
    (up_out key context (cond b (kind.Ack message) (kind.Request message reply_to)) ∷ []) in
    by_test (is_same_method message.cseq.method (codes "ACK"))
    (λ ack. inl (by_line ∙ ap by_kind ack))
    (λ other. inr (by_line ∙ ap by_kind other))

nothing_handed : (key : Key) (context : Context) (handed : UpAction)
    → request_ids (option_to_list (handed_out key context handed None)) ≡ []
unfolding handed_out
nothing_handed key context up.Nothing = refl
nothing_handed key context up.Message = refl
nothing_handed key context up.Timeout = refl
nothing_handed key context up.Failed = refl
nothing_handed key context up.NoTransaction = refl

begun_ids : (key : Key) (now : ℕ) (input : Option Input) (step : Step)
    → Named (naming_id input)
    (request_ids (acted_if key now input None (begun (role_of key) input) step).1)
unfolding begun
begun_ids key now None step = inl refl
begun_ids key now (Some (Answer id message)) step = inl refl
begun_ids key now (Some (Failed id)) step = inl refl
begun_ids key now (Some Abandon) step = inl refl
begun_ids key now (Some (Start id call_id message to)) step =
    inl (ids-outputs key _ step _ None ∙ nothing_handed key _ step.handed)
begun_ids key now (Some (Receive id message reply_to)) step =
    subst (Named (arrival_id message.start id)) (sym (ids-outputs key _ step _ _))
    (handed_ids key _ step.handed message reply_to message.start refl)

-- ---- one input, and then more
input_ids : (key : Key) (held : Option Life) (timed : Timed Input)
    → Named (naming_id timed.input) (request_ids (stepped key held timed).1)
input_ids key (Some life) timed = inl (held_ids key life timed)
input_ids key None timed =
    by_step (λ after. Named (naming_id timed.input) (request_ids after.1)) key None timed
    (inl refl) (inl refl) (λ step row. begun_ids key timed.moment timed.input step)

all_later : (P : Id → Type 0) (name : Option Id) (names : List Id)
    → AllByRecursion P (cons_option name names) → AllByRecursion P names
all_later P None names all = all
all_later P (Some id) names all = all.1

all_on : (P : Id → Type 0) (name : Option Id) (ids later names : List Id) → Named name ids
    → AllByRecursion P later → AllByRecursion P (cons_option name names)
    → AllByRecursion P (ids ++ later)
all_on P name ids later names (inl none) all named =
    subst (λ l. AllByRecursion P (l ++ later)) (sym none) all
all_on P None ids later names (inr is) all named =
    subst (λ l. AllByRecursion P (l ++ later)) (sym is) all
all_on P (Some id) ids later names (inr is) all named =
    subst (λ l. AllByRecursion P (l ++ later)) (sym is) (named.0, all)

all_ids : (P : Id → Type 0) (key : Key) (held : Option Life) (inputs : List (Timed Input))
    → AllByRecursion P (names_in inputs)
    → AllByRecursion P (request_ids (outputs_from step_machine key held inputs))
all_ids P key held [] all = tt
all_ids P key held (timed ∷ inputs) all =
    let said = (stepped key held timed).1 in
    let more = outputs_from step_machine key (stepped key held timed).0 inputs in
    let later = all_ids P key (stepped key held timed).0 inputs
    (all_later P (naming_id timed.input) (names_in inputs) all) in
    subst (AllByRecursion P) (sym (filter_map-append request_id said more))
    (all_on P (naming_id timed.input) (request_ids said) (request_ids more) (names_in inputs)
    (input_ids key held timed) later all)

rise_later : (name : Option Id) (names : List Id) → IdsRise (cons_option name names)
    → IdsRise names
unfolding IsStrictlySortedBy
rise_later None names rise = rise
rise_later (Some id) names rise = rise.1

rise_on : (name : Option Id) (ids later names : List Id) → Named name ids
    → ((P : Id → Type 0) → AllByRecursion P names → AllByRecursion P later) → IdsRise later
    → IdsRise (cons_option name names) → IdsRise (ids ++ later)
unfolding IsStrictlySortedBy
rise_on name ids later names (inl none) all rise named =
    subst (λ l. IdsRise (l ++ later)) (sym none) rise
rise_on None ids later names (inr is) all rise named =
    subst (λ l. IdsRise (l ++ later)) (sym is) rise
rise_on (Some id) ids later names (inr is) all rise named =
    subst (λ l. IdsRise (l ++ later)) (sym is) (all (λ y. id_cmp id y ≡ Less) named.0, rise)

rise_from : (key : Key) (held : Option Life) (inputs : List (Timed Input))
    → IdsRise (names_in inputs)
    → IdsRise (request_ids (outputs_from step_machine key held inputs))
rise_from key held [] rise = rise
rise_from key held (timed ∷ inputs) rise =
    let after = (stepped key held timed).0 in
    let said = (stepped key held timed).1 in
    let more = outputs_from step_machine key after inputs in
    subst IdsRise (sym (filter_map-append request_id said more))
    (rise_on (naming_id timed.input) (request_ids said) (request_ids more) (names_in inputs)
    (input_ids key held timed) (λ P. all_ids P key after inputs)
    (rise_from key after inputs
    (rise_later (naming_id timed.input) (names_in inputs) rise)) rise)

pub requests_come_up_by_id : RequestsComeUpById step_machine
requests_come_up_by_id key inputs rise = rise_from key None inputs rise
