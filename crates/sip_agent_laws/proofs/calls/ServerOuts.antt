-- What the server side of a call gives, by a test of its outputs.
use Rattle.std.proofs.Common.{◌≡◌, ℕ, true, List, [], ◌∷◌, refl, sym, subst}
use Rattle.std.specs.Prelude.{Option, None, Some, IfSome}
use Rattle.std.specs.List.{AllByRecursion}
use Rattle.sip_message.specs.declared.id.Id.{Id}
use Rattle.sip_message.specs.declared.message.Message.{Message}
use Rattle.sip_transactions.specs.declared.output.UpKind.{UpKind}
use Rattle.sip_transactions.specs.declared.output.UpKind.TheVariants as kind
use Rattle.sip_transactions.specs.declared.output.Up.{Up as AnUp}
use Rattle.sip_user.specs.declared.command.Respond.{Respond as RespondCommand}
use Rattle.sip_user.specs.declared.command.UserCommand.TheVariants as user
use Rattle.sip_user.specs.declared.item.CallOut.{CallOut}
use Rattle.sip_user.specs.declared.item.Item.{Item}
use Rattle.sip_user.specs.declared.item.Item.TheVariants.{Up, User}
use Rattle.sip_held_dialogs.proofs.Each.{both}
use Rattle.sip_served.specs.declared.held_request.HeldRequest.{HeldRequest}
use Rattle.sip_served.specs.declared.held_request.Success.{Success}
use Rattle.sip_served.specs.declared.provisionals.ReliableResponse.{ReliableResponse}
use Rattle.sip_served.specs.Respond.{respond_taken}
use Rattle.sip_served.specs.State.{State, ServedTaken}
use Rattle.sip_served.specs.Step.{kind_taken, server_item_taken}
use Rattle.sip_served.specs.Tick.{tick_taken}
use Rattle.sip_served.proofs.ArrivalRules.{item_same}
use Rattle.sip_served.proofs.ServedAnswers.{AllowsServed, KeepsGiven, KindGiven, OwnAnswers, StateGiven, kind_fits, respond_fits, server_tick}
use Rattle.sip_served.proofs.TickRules.{tick_same}
use Rattle.sip_clients.specs.Tick.{clients_ticked}
use Rattle.sip_clients.proofs.ClientOuts.{Allows, clients_tick}
use Rattle.sip_calls.specs.declared.call.Call.{Call}
use Rattle.sip_calls.specs.Sides.{by_server, side_of}
use Rattle.sip_calls.specs.Steps.Call.{ticked}
use Rattle.sip_agent_laws.specs.Calls.Told.{ItemsOnlyAnswer, TicksOnlyAnswer, only_answers}

-- nothing is required of requests and answers
abbrev pub Any : Message → Type 0
Any message = Unit {0}

any_own : OwnAnswers Any Any
any_own = record {
  merged = λ request tag came. tt;
  extension = λ request tag came. tt;
  no_dialog = λ request tag came. tt;
  out_of_order = λ request tag came. tt;
  accepted = λ request tag came. tt;
  terminated = λ request tag came. tt;
}

any_kind : (k : UpKind) → KindGiven Any k
any_kind (kind.Request request reply_to) = tt
any_kind _ = tt

module _ (P : CallOut → Type 0) (allows : AllowsServed P Any) where
  any_success : (o : Option Success) → IfSome o (λ success. Any success.response)
  any_success None = tt
  any_success (Some success) = tt

  any_provisionals : (responses : List ReliableResponse)
      → AllByRecursion (λ one. Any one.response) responses
  any_provisionals [] = tt
  any_provisionals (one ∷ responses) = (tt, any_provisionals responses)

  any_requests : (requests : List HeldRequest)
      → AllByRecursion (KeepsGiven P Any Any allows) requests
  any_requests [] = tt
  any_requests (held ∷ requests) = (
    record {
      request = tt;
      success = any_success held.success;
      provisionals = any_provisionals held.provisionals;
    },
    any_requests requests,
  )

  any_state : (state : State) → StateGiven P Any Any allows state
  any_state state = any_requests state.requests

  pub kind_passes : (state : State) (tag : List ℕ) (up : AnUp) (k : UpKind) (now : ℕ)
      → AllByRecursion P (kind_taken state tag up k now).1
  kind_passes state tag up k now =
      (kind_fits P Any Any allows any_own state tag up k now (any_kind k) (any_state state)).1

  pub respond_passes : (state : State) (id : Id) (respond : RespondCommand) (now : ℕ)
      → AllByRecursion P (respond_taken state id respond now).1
  respond_passes state id respond now =
      (respond_fits P Any Any allows any_own state id respond now (λ local held came. tt)
      (any_state state)).1

  served_passes : (state : State) (tag : List ℕ) (id : Id) (item : Item) (now : ℕ)
      → AllByRecursion P (server_item_taken state tag id item now).1
  served_passes state tag id (Up up) now = kind_passes state tag up up.kind now
  served_passes state tag id (User (user.Respond respond)) now =
      respond_passes state id respond now
  served_passes state tag id (User _) now = tt

  pub tick_passes : (state : State) (now : ℕ) → AllByRecursion P (tick_taken state now).1
  tick_passes state now = (server_tick P Any Any allows any_own state now (any_state state)).1

-- a tick, also of the client side
pub ticked_passes : (P : CallOut → Type 0) → Allows P → AllowsServed P Any → (call : Call)
    (now : ℕ) → AllByRecursion P (ticked call now).1
ticked_passes P allows served call now =
    let first = by_server call (tick_taken call.served now) in
    both P first.1 (clients_ticked (side_of first.0) now).1
    (tick_passes P served call.served now) (clients_tick P allows (side_of first.0) now)

-- ---- it only answers

abbrev Answers : CallOut → Type 0
Answers out = only_answers out ≡ true

answers_allowed : AllowsServed Answers Any
answers_allowed = record {
  told = λ one other. refl;
  answer = λ id key {message} here. refl;
}

pub items_only_answer : ItemsOnlyAnswer
items_only_answer state tag id item now =
    subst (λ (taken : ServedTaken). AllByRecursion Answers taken.1)
    (sym (item_same state tag id item now))
    (served_passes Answers answers_allowed state tag id item now)

pub ticks_only_answer : TicksOnlyAnswer
ticks_only_answer state now =
    subst (λ (taken : ServedTaken). AllByRecursion Answers taken.1) (sym (tick_same state now))
    (tick_passes Answers answers_allowed state now)
