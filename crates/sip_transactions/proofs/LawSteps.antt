-- One input of a transaction, in the form that the laws need.
use Rattle.std.proofs.Common.{◌≡◌, ℕ, ◌+◌, Bool, true, false, cond, ◌&&◌, ◌||◌, List, [], ◌++◌, refl, sym, ◌∙◌, ap, subst, add-zero}
use Rattle.std.specs.Prelude.{not, Option, None, Some, is_none, option_and_then, option_map, option_to_list, codes}
use Rattle.std.specs.List.{AllByRecursion}
use Rattle.std.proofs.lemmas.Bool.{false≢true}
use Rattle.std.proofs.lemmas.Option.{option_and_then_some}
use Rattle.std.proofs.lemmas.List.Sums.{sum_by-append}
use Rattle.sip_message.specs.declared.addr.Addr.{Addr}
use Rattle.sip_message.specs.declared.id.Id.{Id}
use Rattle.sip_message.specs.declared.key.Key.{Key}
use Rattle.sip_message.specs.declared.key.Key.TheVariants as key
use Rattle.sip_message.specs.declared.message.Message.{Message}
use Rattle.sip_message.specs.declared.start_line.StartLine.{StartLine}
use Rattle.sip_message.specs.declared.start_line.StartLine.TheVariants as start
use Rattle.sip_transactions.specs.declared.input.Command.{Command}
use Rattle.sip_transactions.specs.declared.input.Command.TheVariants as command
use Rattle.sip_transactions.specs.declared.input.Input.{Input}
use Rattle.sip_transactions.specs.declared.input.Input.TheVariants.{Receive, Start, Answer, Failed, Abandon}
use Rattle.keyed_machine.specs.Machine.{Timed}
use Rattle.sip_transactions.specs.declared.life.Context.{Context}
use Rattle.sip_transactions.specs.declared.life.Life.{Life}
use Rattle.sip_transactions.specs.declared.output.Out.{Out}
use Rattle.sip_transactions.specs.declared.state.State.{State}
use Rattle.sip_transactions.specs.declared.state.Role.{Role}
use Rattle.sip_transactions.specs.declared.state.Role.TheVariants.{InviteClient, Client, InviteServer, Server}
use Rattle.sip_transactions.specs.declared.step.Step.{Step}
use Rattle.sip_transactions.specs.declared.step.Next.{Next}
use Rattle.sip_transactions.specs.declared.step.Next.TheVariants.{Same, Ended, Become}
use Rattle.sip_transactions.specs.declared.step.UpAction.{UpAction}
use Rattle.sip_transactions.specs.declared.step.UpAction.TheVariants as up
use Rattle.sip_transactions.specs.declared.trigger.Trigger.{Trigger}
use Rattle.sip_transactions.specs.declared.trigger.Trigger.TheVariants as on
use Rattle.sip_transactions.specs.Rows.{row_of, rows_of}
use Rattle.sip_transactions.specs.Steps.Input.{role_of, trigger_of, is_abandon, is_same_method, answer_of, class_of, arrived_in, message_in}
use Rattle.sip_transactions.specs.Steps.Output.{outputs_of, handed_out, sent_bytes, made_bytes, send_out}
use Rattle.sip_transactions.specs.Steps.Life.{stepped, step_for, stepped_by, acted_if, begun, context_of, given_up, life_after, state_of}
use Rattle.sip_transactions.specs.Laws.{IsSend, CommandsOnlySend, IsServer, is_request_up, requests_in}
use Rattle.sip_transactions.specs.Shard.{order}
use Rattle.sip_transactions.specs.Steps.Life.{step_machine}
use Rattle.sip_transactions.proofs.RowFacts.{by_test, table_passes, row_passes}

-- ---- the row of an input
pub record RowFor (key : Key) (held : Option Life) (timed : Timed Input)
    (step : Step) : Type 0 where
  pub trigger : Trigger
  pub triggered : trigger_of held timed.moment timed.input ≡ Some trigger
  pub row : row_of (rows_of (role_of key)) (state_of held) trigger
      ≡ Some step

-- an input that gives the transaction up
abandoned_is : (input : Option Input) → is_abandon input ≡ true → input ≡ Some Abandon
abandoned_is None given = absurd (false≢true given)
abandoned_is (Some (Receive id message reply_to)) given = absurd (false≢true given)
abandoned_is (Some (Start id call_id message to)) given = absurd (false≢true given)
abandoned_is (Some (Answer id message)) given = absurd (false≢true given)
abandoned_is (Some (Failed id)) given = absurd (false≢true given)
abandoned_is (Some Abandon) given = refl

-- it ends, and nothing is said
pub abandoned : (key : Key) (held : Option Life) (now : ℕ)
    → stepped key held (record { moment = now; input = Some Abandon }) ≡ (None, [])
unfolding stepped step_for life_after outputs_of handed_out begun
abandoned key None now = refl
abandoned key (Some life) now = refl

row_for : (key : Key) (held : Option Life) (timed : Timed Input) (step : Step)
    → is_abandon timed.input ≡ false
    → step_for key held timed.moment timed.input ≡ Some step → RowFor key held timed step
unfolding step_for
row_for key held timed step goes_on found =
    let row : Option Trigger → Option Step =
    option_and_then (row_of (rows_of (role_of key)) (state_of held)) in
    let trigger = trigger_of held timed.moment timed.input in
    option_and_then_some {P = RowFor key held timed step}
    (row_of (rows_of (role_of key)) (state_of held)) trigger step
    (sym (ap (λ b. cond b (Some given_up) (row trigger)) goes_on) ∙ found)
    (λ trigger is row. record { trigger = trigger; triggered = is; row = row })

by_option : {T : Type 0} (G : Option T → Type 0) (o : Option T) → (o ≡ None → G None)
    → ((x : T) → o ≡ Some x → G (Some x)) → G o
by_option G None none some = none refl
by_option G (Some x) none some = some x refl

by_row : (G : Option Life × List Out → Type 0) (key : Key) (held : Option Life)
    (timed : Timed Input) → is_abandon timed.input ≡ false
    → G (held, []) → ((step : Step) → RowFor key held timed step
    → G (acted_if key timed.moment timed.input (state_of held)
    (context_of (role_of key) held timed.input) step))
    → G (stepped key held timed)
unfolding stepped
by_row G key held timed goes_on nothing acts =
    by_option (λ o. G (stepped_by key held timed.moment timed.input o))
    (step_for key held timed.moment timed.input) (λ none. nothing)
    (λ step found. acts step (row_for key held timed step goes_on found))

-- an input gives the transaction up, does nothing, or does what its row says
pub by_step : (G : Option Life × List Out → Type 0) (key : Key) (held : Option Life)
    (timed : Timed Input)
    → G (None, []) → G (held, []) → ((step : Step) → RowFor key held timed step
    → G (acted_if key timed.moment timed.input (state_of held)
    (context_of (role_of key) held timed.input) step))
    → G (stepped key held timed)
by_step G key held timed over nothing acts =
    by_test (is_abandon timed.input)
    (λ given. subst (λ input. G (stepped key held (record { moment = timed.moment; input = input })))
    (sym (abandoned_is timed.input given))
    (subst G (sym (abandoned key held timed.moment)) over))
    (λ goes_on. by_row G key held timed goes_on nothing acts)

-- ---- tests of the tables
abbrev pub is_request : Trigger → Bool
is_request on.Start = false
is_request on.RetransmitDue = false
is_request on.TimeoutDue = false
is_request on.Failed = false
is_request on.Request = true
is_request on.Ack = false
is_request (on.Response c) = false
is_request (on.Answer c) = false

abbrev pub is_response : Trigger → Bool
is_response on.Start = false
is_response on.RetransmitDue = false
is_response on.TimeoutDue = false
is_response on.Failed = false
is_response on.Request = false
is_response on.Ack = false
is_response (on.Response c) = true
is_response (on.Answer c) = false

abbrev is_order : Trigger → Bool
is_order on.Start = true
is_order on.RetransmitDue = false
is_order on.TimeoutDue = false
is_order on.Failed = false
is_order on.Request = false
is_order on.Ack = false
is_order (on.Response c) = false
is_order (on.Answer c) = true

abbrev pub is_ended : Next → Bool
is_ended Same = false
is_ended Ended = true
is_ended (Become s) = false

abbrev pub is_message : UpAction → Bool
is_message up.Nothing = false
is_message up.Message = true
is_message up.Timeout = false
is_message up.Failed = false
is_message up.NoTransaction = false

abbrev pub is_report : UpAction → Bool
is_report up.Nothing = false
is_report up.Message = false
is_report up.Timeout = true
is_report up.Failed = true
is_report up.NoTransaction = false

-- a row hands up a report, or drops the message that came
abbrev is_told : UpAction → Bool
is_told up.Nothing = false
is_told up.Message = false
is_told up.Timeout = true
is_told up.Failed = true
is_told up.NoTransaction = true

-- a command reports nothing
abbrev orders_report_nothing : Option State → Trigger → Step → Bool
orders_report_nothing s t step = not (is_order t) || not (is_told step.handed)

-- a life of a server begins with a request, which is handed up
abbrev pub begins_by_request : Option State → Trigger → Step → Bool
begins_by_request s t step =
    not (is_none s) || (is_ended step.next || (is_message step.handed && is_request t))

-- a request isn't handed up if a life is held
abbrev pub later_not_handed_up : Option State → Trigger → Step → Bool
later_not_handed_up s t step = is_none s || not (is_message step.handed && is_request t)

-- a response begins no life, and is handed up only if a life is held
abbrev pub response_needs_life : Option State → Trigger → Step → Bool
response_needs_life s t step =
    not (is_none s && is_response t)
    || (is_ended step.next && not (is_message step.handed || is_report step.handed))

orders_in_tables : (role : Role) → table_passes orders_report_nothing (rows_of role) ≡ true
orders_in_tables InviteClient = refl
orders_in_tables Client = refl
orders_in_tables InviteServer = refl
orders_in_tables Server = refl

pub later_in_tables : (role : Role) → table_passes later_not_handed_up (rows_of role) ≡ true
later_in_tables InviteClient = refl
later_in_tables Client = refl
later_in_tables InviteServer = refl
later_in_tables Server = refl

pub responses_in_tables : (role : Role) → table_passes response_needs_life (rows_of role) ≡ true
responses_in_tables InviteClient = refl
responses_in_tables Client = refl
responses_in_tables InviteServer = refl
responses_in_tables Server = refl

-- the tables of a server's key
pub server_tables : (key : Key) → IsServer key
    → table_passes begins_by_request (rows_of (role_of key)) ≡ true
server_tables (key.Client branch method) none = absurd none
server_tables (key.Server branch sent_by method) server =
    by_test (is_same_method method (codes "INVITE"))
    (λ hit. ap (λ b. table_passes begins_by_request (rows_of (cond b InviteServer Server))) hit)
    (λ miss. ap (λ b. table_passes begins_by_request (rows_of (cond b InviteServer Server))) miss)

-- ---- what a row says
-- what is sent hands up no request
counts_none : (context : Context) (key : Key) (o : Option (List ℕ))
    → requests_in (option_to_list (option_map (send_out key context.to) o)) ≡ 0
counts_none context key None = refl
counts_none context key (Some bytes) = refl

pub requests-outputs : (key : Key) (context : Context) (step : Step) (made : Option (List ℕ))
    (arrived : Option (Message × Addr))
    → requests_in (outputs_of key context step made arrived)
    ≡ requests_in (option_to_list (handed_out key context step.handed arrived))
unfolding outputs_of
requests-outputs key context step made arrived =
    sum_by-append (λ o. cond (is_request_up o) 1 0)
    (option_to_list (handed_out key context step.handed arrived))
    (option_to_list (option_map (send_out key context.to) (sent_bytes context.last step.sent made)))
    ∙ ap (λ n. requests_in (option_to_list (handed_out key context step.handed arrived)) + n)
    (counts_none context key (sent_bytes context.last step.sent made)) ∙ add-zero _

-- ---- a command only sends
sends_only : (key : Key) (context : Context) (o : Option (List ℕ))
    → AllByRecursion IsSend (option_to_list (option_map (send_out key context.to) o))
sends_only key context None = tt
sends_only key context (Some bytes) = (tt, tt)

order_handed : (key : Key) (context : Context) (handed : UpAction) → not (is_told handed) ≡ true
    → handed_out key context handed None ≡ None
unfolding handed_out
order_handed key context up.Nothing quiet = refl
order_handed key context up.Message quiet = refl
order_handed key context up.Timeout quiet = absurd (false≢true quiet)
order_handed key context up.Failed quiet = absurd (false≢true quiet)
order_handed key context up.NoTransaction quiet = absurd (false≢true quiet)

-- nothing came by a command
arrived-order : (id : Id) (command : Command) (now : ℕ)
    → arrived_in (order id command now).input ≡ None
arrived-order id (command.Start k call_id message to) now = refl
arrived-order id (command.Answer k message) now = refl
arrived-order id (command.Abandon k) now = refl

order_outputs : (key : Key) (context : Context) (step : Step) (made : Option (List ℕ))
    → not (is_told step.handed) ≡ true → AllByRecursion IsSend
    (outputs_of key context step made None)
unfolding outputs_of
order_outputs key context step made quiet =
    subst (λ o. AllByRecursion IsSend
    (option_to_list o ++ option_to_list
    (option_map (send_out key context.to) (sent_bytes context.last step.sent made))))
    (sym (order_handed key context step.handed quiet))
    (sends_only key context (sent_bytes context.last step.sent made))

answer_is_order : (line : StartLine) (trigger : Trigger) → answer_of line ≡ Some trigger
    → is_order trigger ≡ true
answer_is_order (start.Request uri) trigger e = cc
answer_is_order (start.Response status reason) trigger e =
    let same : on.Answer (class_of status) ≡ trigger =
    cc in subst (λ t. is_order t ≡ true) same refl

is_order_trigger : (held : Option Life) (id : Id) (command : Command) (now : ℕ) (trigger : Trigger)
    → trigger_of held now (order id command now).input ≡ Some trigger → is_order trigger ≡ true
is_order_trigger held id (command.Start k call_id message to) now trigger e =
    let same : on.Start ≡ trigger = cc in subst (λ t. is_order t ≡ true) same refl
is_order_trigger held id (command.Answer k message) now trigger e =
    answer_is_order message.start trigger e
is_order_trigger held id (command.Abandon k) now trigger e = cc

moment-order : (id : Id) (command : Command) (now : ℕ) → (order id command now).moment ≡ now
moment-order id (command.Start k call_id message to) now = refl
moment-order id (command.Answer k message) now = refl
moment-order id (command.Abandon k) now = refl

orders_send : (key : Key) (state : Option State) (context : Option Context) (step : Step) (id : Id)
    (command : Command)
    (now moment : ℕ) → not (is_told step.handed) ≡ true
    → AllByRecursion IsSend (acted_if key moment (order id command now).input state context step).1
orders_send key state None step id command now moment quiet = tt
orders_send key state (Some context) step id command now moment quiet =
    subst (λ a. AllByRecursion IsSend
    (outputs_of key context step (made_bytes context.request step.sent
    (message_in (order id command now).input)) a)) (sym (arrived-order id command now))
    (order_outputs key context step _ quiet)

pub commands_only_send : CommandsOnlySend step_machine
commands_only_send key held id command now =
    by_step (λ after. AllByRecursion IsSend after.1) key held (order id command now) tt tt
    (λ step row.
    let ordered : is_order row.trigger ≡ true =
    is_order_trigger held id command now row.trigger
    (subst (λ m. trigger_of held m (order id command now).input ≡ Some row.trigger)
    (moment-order id command now) row.triggered) in
    let passed : orders_report_nothing (state_of held) row.trigger step
    ≡ true = row_passes orders_report_nothing (rows_of (role_of key))
    (orders_in_tables (role_of key)) _ row.trigger step row.row in
    let quiet : not (is_told step.handed) ≡ true =
    sym (ap (λ b. not b || not (is_told step.handed)) ordered) ∙ passed in
    orders_send key (state_of held) (context_of (role_of key) held (order id command now).input)
    step id command now
    (order id command now).moment quiet)
