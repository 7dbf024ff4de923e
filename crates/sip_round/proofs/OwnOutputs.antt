-- A transaction speaks only under its own key. So it does in any choice of its outputs, if that is
-- true of each kind of output.
use Rattle.std.proofs.Common.{◌≡◌, ℕ, Bool, true, false, cond, List, [], ◌∷◌, ◌++◌, refl, sym, subst}
use Rattle.std.specs.Prelude.{Option, None, Some, option_map, option_to_list}
use Rattle.std.specs.BTreeMap.{is_at}
use Rattle.std.specs.List.{flat_map}
use Rattle.sip_message.specs.declared.addr.Addr.{Addr}
use Rattle.sip_message.specs.declared.key.Key.{Key}
use Rattle.sip_message.specs.declared.message.Message.{Message}
use Rattle.sip_message.specs.Key.{key_cmp, keys_total}
use Rattle.keyed_machine.specs.declared.item.Item.{Item}
use Rattle.keyed_machine.specs.Laws.{said_by}
use Rattle.keyed_machine.specs.Machine.{Timed, tick_at, Machine}
use Rattle.keyed_machine.specs.Phase.{Phase}
use Rattle.keyed_machine.proofs.Spoken.{FitItems, SpeaksForItself, spoken}
use Rattle.sip_transactions.specs.declared.input.Input.{Input}
use Rattle.sip_transactions.specs.declared.life.Context.{Context}
use Rattle.sip_transactions.specs.declared.life.Life.{Life}
use Rattle.sip_transactions.specs.declared.output.DropReason.TheVariants as reason
use Rattle.sip_transactions.specs.declared.output.UpKind.{UpKind}
use Rattle.sip_transactions.specs.declared.output.UpKind.TheVariants as kind
use Rattle.sip_transactions.specs.declared.output.Out.{Out}
use Rattle.sip_transactions.specs.declared.output.Out.TheVariants as out
use Rattle.sip_transactions.specs.declared.state.State.{State}
use Rattle.sip_transactions.specs.declared.step.UpAction.{UpAction}
use Rattle.sip_transactions.specs.declared.step.UpAction.TheVariants as handed
use Rattle.sip_transactions.specs.declared.step.Step.{Step}
use Rattle.sip_transactions.specs.Steps.Input.{arrived_in, message_in, role_of}
use Rattle.sip_message.specs.Keys.{exact_keys}
use Rattle.sip_transactions.specs.Steps.Life.{acted_if, context_of, state_of, step_for, stepped, stepped_by, step_machine}
use Rattle.sip_transactions.specs.Machine.{transaction_machine}
use Rattle.sip_transactions.proofs.Rules.{machine_is}
use Rattle.sip_transactions.specs.Steps.Output.{handed_out, kind_of, made_bytes, outputs_of, send_out, sent_bytes, up_out}
use Rattle.sip_round.specs.Answers.{said_by_transactions}
use Rattle.sip_round.specs.Outputs.{all_said}
use Rattle.sip_round.proofs.Said.{transactions_say}

-- nothing else is required of a transaction
abbrev AnyHeld : Key → Option Life → Type 0
AnyHeld key held = Unit {0}

abbrev AnyInput : Key → Timed Input → Type 0
AnyInput key timed = Unit {0}

module _ (X : Type 0) where
  pub none_own : (own : Bool) → ◌≡◌ {A = List X} [] (cond own [] [])
  none_own true = refl
  none_own false = refl

  more_own : (own : Bool) (xs ys zs ws : List X) → xs ≡ cond own ys [] → zs ≡ cond own ws []
      → xs ++ zs ≡ cond own (ys ++ ws) []
  more_own true xs ys zs ws first later = λ i. first i ++ later i
  more_own false xs ys zs ws first later = λ i. first i ++ later i

-- of an output of a key's transaction, that key picks all that is chosen, and another key picks
-- nothing
abbrev IsOwn : (X : Type 0) → (Out → List X) → (Key → Out → List X) → Key → Key → Out → Type 0
IsOwn X chosen picked q key o = picked q o ≡ cond (is_at (key_cmp q) key) (chosen o) []

-- this is true of each kind of output
pub record AreAllOwn (X : Type 0) (chosen : Out → List X) (picked : Key → Out → List X)
    : Type 0 where
  pub sends : (q key : Key) (to : Addr) (bytes : List ℕ)
      → IsOwn X chosen picked q key (send_out key to bytes)
  pub ups : (q key : Key) (context : Context) (kind : UpKind)
      → IsOwn X chosen picked q key (up_out key context kind)
  pub drops : (q key : Key) (place : ℕ)
      → IsOwn X chosen picked q key (out.Dropped place reason.NoTransaction)

module _ (X : Type 0) (chosen : Out → List X) (picked : Key → Out → List X) where
  abbrev Own : Key → Key → List Out → Type 0
  Own q key outs =
      flat_map (picked q) outs ≡ cond (is_at (key_cmp q) key) (flat_map chosen outs) []

  module _ (all : AreAllOwn X chosen picked) where
    own_sent : (q key : Key) (to : Addr) (sent : Option (List ℕ))
        → Own q key (option_to_list (option_map (send_out key to) sent))
    own_sent q key to None = none_own X (is_at (key_cmp q) key)
    own_sent q key to (Some bytes) =
        let own = is_at (key_cmp q) key in
        more_own X own _ _ _ _ (all.sends q key to bytes) (none_own X own)

    -- what a row hands up or drops, and what it sends
    own_told : (q key : Key) (context : Context) (h : UpAction) (arrived : Option (Message × Addr))
        (sent : Option (List ℕ))
        → Own q key (option_to_list (handed_out key context h arrived)
        ++ option_to_list (option_map (send_out key context.to) sent))
    unfolding handed_out
    own_told q key context handed.Nothing arrived sent = own_sent q key context.to sent
    own_told q key context handed.Message None sent = own_sent q key context.to sent
    own_told q key context handed.Message (Some arrived) sent =
        more_own X (is_at (key_cmp q) key) _ _ _ _
        (all.ups q key context (kind_of arrived.0.start arrived.0 arrived.1))
        (own_sent q key context.to sent)
    own_told q key context handed.Timeout arrived sent =
        more_own X (is_at (key_cmp q) key) _ _ _ _ (all.ups q key context kind.Timeout)
        (own_sent q key context.to sent)
    own_told q key context handed.Failed arrived sent =
        more_own X (is_at (key_cmp q) key) _ _ _ _ (all.ups q key context kind.Failed)
        (own_sent q key context.to sent)
    own_told q key context handed.NoTransaction arrived sent =
        more_own X (is_at (key_cmp q) key) _ _ _ _ (all.drops q key context.id.place)
        (own_sent q key context.to sent)

    own_acted : (q key : Key) (now : ℕ) (input : Option Input) (state : Option State)
        (o : Option Context) (step : Step) → Own q key (acted_if key now input state o step).1
    unfolding outputs_of
    own_acted q key now input state None step = none_own X (is_at (key_cmp q) key)
    own_acted q key now input state (Some context) step =
        own_told q key context step.handed (arrived_in input) (sent_bytes context.last step.sent
        (made_bytes context.request step.sent (message_in input)))

    own_by : (q key : Key) (held : Option Life) (now : ℕ) (input : Option Input) (o : Option Step)
        → Own q key (stepped_by key held now input o).1
    own_by q key held now input None = none_own X (is_at (key_cmp q) key)
    own_by q key held now input (Some step) =
        own_acted q key now input (state_of held) (context_of (role_of key) held input) step

    own_steps : SpeaksForItself key_cmp step_machine chosen picked AnyHeld AnyInput
    unfolding stepped
    own_steps q key held timed own fits =
        own_by q key held timed.moment timed.input (step_for key held timed.moment timed.input)

    own_outputs : SpeaksForItself key_cmp transaction_machine chosen picked AnyHeld AnyInput
    own_outputs =
        subst (λ (machine : Machine Key Life (Timed Input) Out).
        SpeaksForItself key_cmp machine chosen picked AnyHeld AnyInput) (sym machine_is) own_steps

    any_items : (items : List (Item Key (Timed Input)))
        → FitItems key_cmp transaction_machine chosen picked AnyHeld AnyInput items
    any_items [] = tt
    any_items (item ∷ items) = (tt, any_items items)

    -- what a key picks from a phase is what is chosen from what its own transaction says
    pub phase_own : (q : Key) (before : List (Phase Key (Timed Input)))
        (phase : Phase Key (Timed Input))
        → flat_map (picked q) (all_said (said_by_transactions before phase))
        ≡ flat_map chosen
        (said_by key_cmp transaction_machine tick_at q (said_by_transactions before phase))
    phase_own q before phase =
        subst (λ said. flat_map (picked q) (all_said said)
        ≡ flat_map chosen (said_by key_cmp transaction_machine tick_at q said))
        (transactions_say before phase)
        (spoken key_cmp transaction_machine chosen picked AnyHeld AnyInput keys_total exact_keys
        (λ key held input own fits. tt) tick_at (λ moment key. tt) own_outputs q before phase
        (λ key. tt) (any_items phase.items))
