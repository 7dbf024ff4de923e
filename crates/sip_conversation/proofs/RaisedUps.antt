-- What comes up from a transaction has its key, and the Call-ID with which its life began.
use Rattle.std.proofs.Common.{◌≡◌, ℕ, List, [], ◌∷◌, refl, sym, subst}
use Rattle.std.specs.Prelude.{Contains, IfSome, Option, None, Some, option_map, option_to_list}
use Rattle.std.specs.List.{AllByRecursion}
use Rattle.sip_message.specs.declared.addr.Addr.{Addr}
use Rattle.sip_message.specs.declared.key.Key.{Key}
use Rattle.sip_message.specs.declared.message.Message.{Message}
use Rattle.keyed_machine.specs.Machine.{Timed, given_at, outputs_from}
use Rattle.sip_transactions.specs.declared.input.Input.{Input}
use Rattle.sip_transactions.specs.declared.input.Input.TheVariants.{Abandon, Answer, Failed, Receive, Start}
use Rattle.sip_transactions.specs.declared.life.Context.{Context}
use Rattle.sip_transactions.specs.declared.life.Life.{Life}
use Rattle.sip_transactions.specs.declared.output.Out.{Out}
use Rattle.sip_transactions.specs.declared.output.Out.TheVariants as out
use Rattle.sip_transactions.specs.declared.output.Up.{Up as AnUp}
use Rattle.sip_transactions.specs.declared.state.Role.{Role}
use Rattle.sip_transactions.specs.declared.state.State.{State}
use Rattle.sip_transactions.specs.declared.step.Step.{Step}
use Rattle.sip_transactions.specs.declared.step.UpAction.{UpAction}
use Rattle.sip_transactions.specs.declared.step.UpAction.TheVariants as up
use Rattle.sip_transactions.specs.Machine.{transaction_machine}
use Rattle.sip_transactions.specs.Rules.Step.{step_at}
use Rattle.sip_transactions.specs.Steps.Input.{arrived_in, message_in, role_of}
use Rattle.sip_transactions.specs.Steps.Life.{acted_if, armed, begun, context_of, entered, last_of, life_after, life_in, state_of, stepped}
use Rattle.sip_transactions.specs.Steps.Output.{handed_out, made_bytes, outputs_of, send_out, sent_bytes}
use Rattle.sip_transactions.proofs.LawSteps.{by_step}
use Rattle.sip_transactions.proofs.Rules.{step_is}
use Rattle.sip_held_dialogs.proofs.Each.{both}
use Rattle.sip_conversation.proofs.Among.{all_of}

-- an input with this Call-ID, which may begin a life
abbrev pub Begins : List ℕ → Input → Type 0
Begins call_id (Receive id message reply_to) = message.call_id ≡ call_id
Begins call_id (Start id of message to) = of ≡ call_id
Begins call_id (Answer id message) = ⊥
Begins call_id (Failed id) = ⊥
Begins call_id Abandon = ⊥

module _ (key : Key) (all : List (Timed Input)) where
  abbrev pub WasBegun : List ℕ → Type 0
  WasBegun call_id = (now : ℕ) × (input : Input) × Contains all (given_at now input)
      × Begins call_id input

  pub record IsRaised (up : AnUp) : Type 0 where
    pub key_is : up.key ≡ key
    pub begun : WasBegun up.call_id

  abbrev pub OutIsRaised : Out → Type 0
  OutIsRaised (out.Up up) = IsRaised up
  OutIsRaised (out.Send key to bytes) = Unit {0}
  OutIsRaised (out.Dropped place why) = Unit {0}

  abbrev Raised : List Out → Type 0
  Raised outs = AllByRecursion OutIsRaised outs

  abbrev LifeIsBegun : Option Life → Type 0
  LifeIsBegun held = IfSome held (λ life. WasBegun life.context.call_id)

  abbrev After : Option Life × List Out → Type 0
  After after = LifeIsBegun after.0 × Raised after.1

  -- ---- a row

  handed_raised : (context : Context) (handed : UpAction) (arrived : Option (Message × Addr))
      → WasBegun context.call_id
      → Raised (option_to_list (handed_out key context handed arrived))
  unfolding handed_out
  handed_raised context up.Nothing arrived begun = tt
  handed_raised context up.Message None begun = tt
  handed_raised context up.Message (Some arrived) begun =
      (record { key_is = refl; begun = begun }, tt)
  handed_raised context up.Timeout arrived begun =
      (record { key_is = refl; begun = begun }, tt)
  handed_raised context up.Failed arrived begun =
      (record { key_is = refl; begun = begun }, tt)
  handed_raised context up.NoTransaction arrived begun = (tt, tt)

  sends_raised : (to : Addr) (bytes : Option (List ℕ))
      → Raised (option_to_list (option_map (send_out key to) bytes))
  sends_raised to None = tt
  sends_raised to (Some bytes) = (tt, tt)

  last_begun : (context : Context) (made : Option (List ℕ)) → WasBegun context.call_id
      → WasBegun (last_of made context).call_id
  last_begun context None begun = begun
  last_begun context (Some bytes) begun = begun

  after_begun : (context : Context) (step : Step) (now : ℕ) (next : Option State)
      → WasBegun context.call_id
      → LifeIsBegun (option_map (life_in (armed step.due now context)) next)
  after_begun context step now None begun = tt
  after_begun context step now (Some state) begun = begun

  acted_raised : (now : ℕ) (input : Option Input) (state : Option State)
      (context : Option Context) (step : Step) → IfSome context (λ c. WasBegun c.call_id)
      → After (acted_if key now input state context step)
  unfolding life_after outputs_of
  acted_raised now input state None step begun = (tt, tt)
  acted_raised now input state (Some context) step begun =
      let made = made_bytes context.request step.sent (message_in input) in (
        after_begun (last_of made context) step now (entered step.next state)
            (last_begun context made begun),
        both OutIsRaised
            (option_to_list (handed_out key context step.handed (arrived_in input)))
            (option_to_list (option_map (send_out key context.to)
            (sent_bytes context.last step.sent made)))
            (handed_raised context step.handed (arrived_in input) begun)
            (sends_raised context.to (sent_bytes context.last step.sent made)),
      )

  -- ---- one input

  begins : (r : Role) (now : ℕ) (input : Option Input)
      → Contains all (record { moment = now; input = input })
      → IfSome (begun r input) (λ c. WasBegun c.call_id)
  unfolding begun
  begins r now None among = tt
  begins r now (Some (Receive id message reply_to)) among =
      (now, Receive id message reply_to, among, refl)
  begins r now (Some (Start id call_id message to)) among =
      (now, Start id call_id message to, among, refl)
  begins r now (Some (Answer id message)) among = tt
  begins r now (Some (Failed id)) among = tt
  begins r now (Some Abandon) among = tt

  context_begun : (r : Role) (held : Option Life) (now : ℕ) (input : Option Input)
      → Contains all (record { moment = now; input = input }) → LifeIsBegun held
      → IfSome (context_of r held input) (λ c. WasBegun c.call_id)
  context_begun r None now input among begun = begins r now input among
  context_begun r (Some life) now input among begun = begun

  one_input : (held : Option Life) (now : ℕ) (input : Option Input)
      → Contains all (record { moment = now; input = input }) → LifeIsBegun held
      → After (stepped key held (record { moment = now; input = input }))
  one_input held now input among begun =
      by_step After key held (record { moment = now; input = input }) (tt, tt) (begun, tt)
      (λ step row. acted_raised now input (state_of held) (context_of (role_of key) held input)
      step (context_begun (role_of key) held now input among begun))

  -- ---- all inputs

  raised_from : (held : Option Life) (inputs : List (Timed Input))
      → AllByRecursion (Contains all) inputs → LifeIsBegun held
      → Raised (outputs_from transaction_machine key held inputs)
  raised_from held [] among begun = tt
  raised_from held (timed ∷ inputs) among begun =
      let step = step_at key held timed.moment timed.input in
      let after = subst After (sym (step_is key held timed.moment timed.input))
      (one_input held timed.moment timed.input among.0 begun) in
      both OutIsRaised step.1 (outputs_from transaction_machine key step.0 inputs) after.1
      (raised_from step.0 inputs among.1 after.0)

  pub ups_raised : Raised (outputs_from transaction_machine key None all)
  ups_raised = raised_from None all (all_of (Contains all) all (λ timed among. among)) tt
