-- A server that is given a request hands one up: this one, or the one that began its life.
use Rattle.std.proofs.Common.{◌≡◌, ⊎_elim, ◌⊎◌, inl, inr, ℕ, ◌+◌, ◌≤◌, Bool, true, false, cond, List, [], ◌∷◌, ◌++◌, refl, sym, ap, ◌∙◌, subst, arith, codes, append_assoc}
use Rattle.std.specs.Prelude.{Contains, Option, None, Some, IsSome}
use Rattle.std.proofs.lemmas.Bool.{false≢true}
use Rattle.std.proofs.lemmas.List.Elements.{Contains-append_left, Contains-append_right}
use Rattle.std.proofs.lemmas.List.Sums.{sum_by-append}
use Rattle.sip_message.specs.declared.addr.Addr.{Addr}
use Rattle.sip_message.specs.declared.id.Id.{Id}
use Rattle.sip_message.specs.declared.key.Key.{Key}
use Rattle.sip_message.specs.declared.key.Key.TheVariants as key
use Rattle.sip_message.specs.declared.message.Message.{Message}
use Rattle.keyed_machine.specs.Machine.{Timed, given_at, outputs_from, state_from}
use Rattle.keyed_machine.proofs.Ordered.{by_bool}
use Rattle.keyed_machine.proofs.Phases.{state_from-append}
use Rattle.sip_transactions.specs.declared.input.Input.{Input}
use Rattle.sip_transactions.specs.declared.input.Input.TheVariants.{Receive}
use Rattle.sip_transactions.specs.declared.life.Context.{Context}
use Rattle.sip_transactions.specs.declared.life.Life.{Life}
use Rattle.sip_transactions.specs.declared.output.Out.{Out}
use Rattle.sip_transactions.specs.declared.output.Out.TheVariants as out
use Rattle.sip_transactions.specs.declared.output.Up.{Up as AnUp}
use Rattle.sip_transactions.specs.declared.state.Role.{Role}
use Rattle.sip_transactions.specs.declared.state.Role.TheVariants as role
use Rattle.sip_transactions.specs.declared.state.State.{State}
use Rattle.sip_transactions.specs.declared.state.State.TheVariants.{Calling, Trying, Proceeding, Completed, Accepted, Confirmed}
use Rattle.sip_transactions.specs.declared.trigger.Trigger.TheVariants as on
use Rattle.sip_transactions.specs.Laws.{IsServer, is_request_kind, is_request_up, requests_in}
use Rattle.sip_transactions.specs.Machine.{transaction_machine}
use Rattle.sip_transactions.specs.Steps.Input.{arrival_of, is_same_method, role_of}
use Rattle.sip_transactions.specs.Steps.Life.{begun, life_after, step_for, step_machine, stepped}
use Rattle.sip_transactions.specs.Steps.Output.{made_of}
use Rattle.sip_transactions.proofs.OneRequest.{first_once}
use Rattle.sip_transactions.proofs.Rules.{at_steps}
use Rattle.sip_conversation.proofs.Among.{among_first, among_later}
use Rattle.sip_conversation.proofs.CopiesSent.{outputs-append}
use Rattle.sip_agent_laws.proofs.transactions.OftenSent.{by_role}
use Rattle.sip_conversation.proofs.UpTo.{stands_at}

-- a request is handed up
pub record HasUp (outs : List Out) : Type 0 where
  pub up : AnUp
  pub among : Contains outs (out.Up up)
  pub asks : is_request_kind up.kind ≡ true

longer : (outs more : List Out) → HasUp more → HasUp (outs ++ more)
longer outs more has = record {
  up = has.up;
  among = Contains-append_right outs more (out.Up has.up) has.among;
  asks = has.asks;
}

first_part : (outs more : List Out) → HasUp outs → HasUp (outs ++ more)
first_part outs more has = record {
  up = has.up;
  among = Contains-append_left outs more (out.Up has.up) has.among;
  asks = has.asks;
}

one_later : (o : Out) (outs : List Out) → HasUp outs → HasUp (o ∷ outs)
one_later o outs has = record {
  up = has.up;
  among = among_later o outs (out.Up has.up) has.among;
  asks = has.asks;
}

none_here : (o : Out) (outs : List Out) → is_request_up o ≡ false → 1 ≤ requests_in (o ∷ outs)
    → 1 ≤ requests_in outs
none_here o outs none some =
    let all = sum_by-append (λ o. cond {A = ℕ} (is_request_up o) 1 0) (o ∷ []) outs in
    let here : requests_in (o ∷ []) ≡ 0 = ap (λ b. 0 + cond {A = ℕ} b 1 0) none in
    omega (arith, all, here, some)

has_up : (outs : List Out) → 1 ≤ requests_in outs → HasUp outs
has_up [] some = absurd (omega arith)
has_up (out.Up up ∷ outs) some =
    by_bool (is_request_kind up.kind)
    (λ asks. record { up = up; among = among_first (out.Up up) outs; asks = asks })
    (λ other. one_later (out.Up up) outs (has_up outs (none_here (out.Up up) outs other some)))
has_up (out.Send key to bytes ∷ outs) some =
    one_later (out.Send key to bytes) outs
    (has_up outs (none_here (out.Send key to bytes) outs refl some))
has_up (out.Dropped place why ∷ outs) some =
    one_later (out.Dropped place why) outs
    (has_up outs (none_here (out.Dropped place why) outs refl some))

-- ---- a life is held after a request

abbrev server_at : Bool → Role
server_at invite = cond invite role.InviteServer role.Server

module _ (key : Key) (now : ℕ) (id : Id) (message : Message) (reply_to : Addr) where
  abbrev request : Input
  request = Receive id message reply_to

  abbrev after : Bool → Option Life → Option Life × List Out
  after invite held = by_role (server_at invite) key held now (Some request) (Some on.Request)

  new_held : (invite : Bool) → IsSome (after invite None).0
  unfolding begun life_after made_of
  new_held true = refl
  new_held false = refl

  still_held : (invite : Bool) (state : State) (context : Context)
      → IsSome (after invite (Some (record { state = state; context = context }))).0
  unfolding life_after made_of
  still_held true Calling context = refl
  still_held true Trying context = refl
  still_held true Proceeding context = refl
  still_held true Completed context = refl
  still_held true Accepted context = refl
  still_held true Confirmed context = refl
  still_held false Calling context = refl
  still_held false Trying context = refl
  still_held false Proceeding context = refl
  still_held false Completed context = refl
  still_held false Accepted context = refl
  still_held false Confirmed context = refl

  held_after : (invite : Bool) (held : Option Life) → IsSome (after invite held).0
  held_after invite None = new_held invite
  held_after invite (Some life) = still_held invite life.state life.context

  is_held : (invite : Bool) → role_of key ≡ server_at invite
      → arrival_of message.start message.cseq.method ≡ on.Request → (held : Option Life)
      → IsSome (stepped key held (given_at now request)).0
  unfolding stepped step_for
  is_held invite own asks held =
      subst (λ r. IsSome (by_role r key held now (Some request)
      (Some (arrival_of message.start message.cseq.method))).0) (sym own)
      (subst (λ trigger. IsSome (by_role (server_at invite) key held now (Some request)
      (Some trigger)).0) (sym asks) (held_after invite held))

server_role : (key : Key) → IsServer key → (invite : Bool) × (role_of key ≡ server_at invite)
server_role (key.Client branch method) none = absurd none
server_role (key.Server branch sent_by method) server =
    (is_same_method method (codes "INVITE"), refl)

-- ---- a life began with a request that was handed up

module _ (key : Key) (server : IsServer key) where
  begun_so : (held : Option Life) (inputs : List (Timed Input))
      → IsSome (state_from step_machine key held inputs)
      → IsSome held ⊎ HasUp (outputs_from step_machine key held inputs)
  begun_so held [] some = inl some
  begun_so (Some life) (timed ∷ inputs) some = inl refl
  begun_so None (timed ∷ inputs) some =
      let step = stepped key None timed in
      let rest = outputs_from step_machine key step.0 inputs in
      ⊎_elim
      (λ begins. inr (first_part step.1 rest (here timed begins)))
      (λ later. inr (longer step.1 rest later))
      (begun_so step.0 inputs some)
    where
      here : (timed : Timed Input) → IsSome (stepped key None timed).0
          → HasUp (stepped key None timed).1
      here timed begins =
          let once = first_once key server timed begins in
          has_up (stepped key None timed).1 (omega (arith, once))

  handed_by_steps : (inputs : List (Timed Input)) (now : ℕ) (id : Id) (message : Message)
      (reply_to : Addr) → Contains inputs (given_at now (Receive id message reply_to))
      → arrival_of message.start message.cseq.method ≡ on.Request
      → HasUp (outputs_from step_machine key None inputs)
  handed_by_steps inputs now id message reply_to among asks =
      let timed = given_at now (Receive id message reply_to) in
      let at = stands_at inputs timed among in
      let own = server_role key server in
      let front = at.before ++ timed ∷ [] in
      let held = state_from step_machine key None at.before in
      let some : IsSome (state_from step_machine key None front) =
      subst IsSome (sym (state_from-append step_machine key None at.before (timed ∷ [])))
      (is_held key now id message reply_to own.0 own.1 asks held) in
      ⊎_elim (λ none. absurd (false≢true none))
      (λ has. subst (λ inputs. HasUp (outputs_from step_machine key None inputs))
      (append_assoc at.before (timed ∷ []) at.after ∙ sym at.are)
      (subst HasUp (sym (outputs-append step_machine key None front at.after))
      (first_part (outputs_from step_machine key None front)
      (outputs_from step_machine key (state_from step_machine key None front) at.after) has)))
      (begun_so None front some)

  -- so it hands one up
  pub request_handed : (inputs : List (Timed Input)) (now : ℕ) (id : Id) (message : Message)
      (reply_to : Addr) → Contains inputs (given_at now (Receive id message reply_to))
      → arrival_of message.start message.cseq.method ≡ on.Request
      → HasUp (outputs_from transaction_machine key None inputs)
  request_handed inputs now id message reply_to among asks =
      at_steps (λ machine. HasUp (outputs_from machine key None inputs))
      (handed_by_steps inputs now id message reply_to among asks)
