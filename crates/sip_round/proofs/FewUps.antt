-- A transaction hands up at most one thing for one input, and no message at a tick.
use Rattle.std.proofs.Common.{◌≡◌, ◌⊎◌, inl, inr, ℕ, List, [], ◌∷◌, ◌++◌, refl, sym, subst}
use Rattle.std.specs.Prelude.{Option, None, Some, filter_map}
use Rattle.std.specs.List.{cons_option, flat_map}
use Rattle.std.specs.Option.{option_map, option_to_list}
use Rattle.sip_message.specs.declared.addr.Addr.{Addr}
use Rattle.sip_message.specs.declared.id.Id.{Id}
use Rattle.sip_message.specs.declared.key.Key.{Key}
use Rattle.keyed_machine.specs.Machine.{adds, Timed, tick_at, Machine}
use Rattle.sip_transactions.specs.declared.input.Input.{Input}
use Rattle.sip_transactions.specs.declared.life.Context.{Context}
use Rattle.sip_transactions.specs.declared.life.Life.{Life}
use Rattle.sip_transactions.specs.declared.output.UpKind.{UpKind}
use Rattle.sip_transactions.specs.declared.output.UpKind.TheVariants as kind
use Rattle.sip_transactions.specs.declared.output.Out.{Out}
use Rattle.sip_transactions.specs.declared.output.Out.TheVariants as out
use Rattle.sip_transactions.specs.declared.state.State.{State}
use Rattle.sip_transactions.specs.declared.step.UpAction.{UpAction}
use Rattle.sip_transactions.specs.declared.step.UpAction.TheVariants as handed
use Rattle.sip_transactions.specs.declared.step.Step.{Step}
use Rattle.sip_transactions.specs.Steps.Input.{arrived_in, message_in, role_of}
use Rattle.sip_transactions.specs.Steps.Life.{acted_if, context_of, state_of, step_for, stepped, stepped_by}
use Rattle.sip_transactions.specs.Machine.{transaction_machine}
use Rattle.sip_transactions.proofs.Rules.{machine_is}
use Rattle.sip_transactions.specs.Steps.Output.{handed_out, made_bytes, outputs_of, send_out, sent_bytes}
use Rattle.sip_user.specs.declared.item.Item.{Item}
use Rattle.sip_calls.specs.Provisionals.{event_in, event_of_kind}
use Rattle.sip_round.specs.Outputs.{raised_of}

-- the events of items, and of what comes up under this id
abbrev pub events_of : List (Id × Item) → List Id
events_of items = filter_map (λ item. event_in (Some item)) items

abbrev pub raised : Id → List Out → List Id
raised id outs = events_of (flat_map (raised_of id) outs)

-- no event, or this one
abbrev pub Few : Id → List Id → Type 0
Few id events = (events ≡ []) ⊎ (events ≡ id ∷ [])

few_of_kind : (id : Id) (k : UpKind) → Few id (cons_option (event_of_kind id k) [])
few_of_kind id (kind.Request request reply_to) = inr refl
few_of_kind id (kind.Ack ack) = inr refl
few_of_kind id (kind.Response response) = inr refl
few_of_kind id kind.Timeout = inl refl
few_of_kind id kind.Failed = inl refl

-- what a row hands up, and what it sends
few_told : (id : Id) (key : Key) (to : Addr) (told : Option Out) (sent : Option (List ℕ))
    → Few id (raised id (option_to_list told ++ option_to_list (option_map (send_out key to) sent)))
few_told id key to None None = inl refl
few_told id key to None (Some bytes) = inl refl
few_told id key to (Some (out.Up up)) None = few_of_kind id up.kind
few_told id key to (Some (out.Up up)) (Some bytes) = few_of_kind id up.kind
few_told id key to (Some (out.Send other there bytes)) None = inl refl
few_told id key to (Some (out.Send other there bytes)) (Some more) = inl refl
few_told id key to (Some (out.Dropped place why)) None = inl refl
few_told id key to (Some (out.Dropped place why)) (Some bytes) = inl refl

none_told : (id : Id) (key : Key) (context : Context) (h : UpAction) (sent : Option (List ℕ))
    → raised id (option_to_list (handed_out key context h None)
    ++ option_to_list (option_map (send_out key context.to) sent)) ≡ []
unfolding handed_out
none_told id key context handed.Nothing None = refl
none_told id key context handed.Nothing (Some bytes) = refl
none_told id key context handed.Message None = refl
none_told id key context handed.Message (Some bytes) = refl
none_told id key context handed.Timeout None = refl
none_told id key context handed.Timeout (Some bytes) = refl
none_told id key context handed.Failed None = refl
none_told id key context handed.Failed (Some bytes) = refl
none_told id key context handed.NoTransaction None = refl
none_told id key context handed.NoTransaction (Some bytes) = refl

few_acted : (id : Id) (key : Key) (now : ℕ) (input : Option Input) (state : Option State)
    (o : Option Context) (step : Step)
    → Few id (raised id (acted_if key now input state o step).1)
unfolding outputs_of
few_acted id key now input state None step = inl refl
few_acted id key now input state (Some context) step =
    few_told id key context.to (handed_out key context step.handed (arrived_in input))
    (sent_bytes context.last step.sent (made_bytes context.request step.sent (message_in input)))

few_by : (id : Id) (key : Key) (held : Option Life) (now : ℕ) (input : Option Input)
    (o : Option Step)
    → Few id (raised id (stepped_by key held now input o).1)
few_by id key held now input None = inl refl
few_by id key held now input (Some step) =
    few_acted id key now input (state_of held) (context_of (role_of key) held input) step

-- for one input
pub few_ups : (id : Id) (key : Key) (held : Option Life) (timed : Timed Input)
    → Few id (raised id (adds transaction_machine key held timed))
unfolding stepped
few_ups id key held timed =
    subst (λ (machine : Machine Key Life (Timed Input) Out).
    Few id (raised id (adds machine key held timed))) (sym machine_is)
    (few_by id key held timed.moment timed.input (step_for key held timed.moment timed.input))

none_acted : (id : Id) (key : Key) (now : ℕ) (state : Option State) (o : Option Context)
    (step : Step) → raised id (acted_if key now None state o step).1 ≡ []
unfolding outputs_of
none_acted id key now state None step = refl
none_acted id key now state (Some context) step =
    none_told id key context step.handed
    (sent_bytes context.last step.sent (made_bytes context.request step.sent (message_in None)))

none_by : (id : Id) (key : Key) (held : Option Life) (now : ℕ) (o : Option Step)
    → raised id (stepped_by key held now None o).1 ≡ []
none_by id key held now None = refl
none_by id key held now (Some step) = none_acted id key now (state_of held)
    (context_of (role_of key) held None) step

-- at a tick
pub no_ups : (id : Id) (key : Key) (held : Option Life) (now : ℕ)
    → raised id (adds transaction_machine key held (tick_at now)) ≡ []
unfolding stepped
no_ups id key held now =
    subst (λ (machine : Machine Key Life (Timed Input) Out).
    raised id (adds machine key held (tick_at now)) ≡ []) (sym machine_is)
    (none_by id key held now (step_for key held now None))
