-- A transaction of a client begins with its first start: nothing is held before.
use Rattle.std.proofs.Common.{◌≡◌, ⊎_elim, ℕ, Bool, true, false, cond, List, [], ◌∷◌, ◌++◌, refl, ap, ◌∙◌, subst, codes}
use Rattle.std.specs.Prelude.{Contains, Option, None, Some}
use Rattle.sip_message.specs.declared.addr.Addr.{Addr}
use Rattle.sip_message.specs.declared.id.Id.{Id}
use Rattle.sip_message.specs.declared.key.Key.{Key}
use Rattle.sip_message.specs.declared.message.Message.{Message}
use Rattle.sip_message.specs.declared.start_line.StartLine.{StartLine}
use Rattle.sip_message.specs.declared.start_line.StartLine.TheVariants as start
use Rattle.keyed_machine.specs.Machine.{Timed, given_at, state_from}
use Rattle.sip_transactions.specs.declared.input.Input.{Input}
use Rattle.sip_transactions.specs.declared.input.Input.TheVariants.{Abandon, Answer, Failed, Receive, Start}
use Rattle.sip_transactions.specs.declared.state.Role.{Role}
use Rattle.sip_transactions.specs.declared.step.Step.{Step}
use Rattle.sip_transactions.specs.declared.trigger.Class.{Class}
use Rattle.sip_transactions.specs.declared.trigger.Class.TheVariants as class
use Rattle.sip_transactions.specs.declared.trigger.Trigger.TheVariants as on
use Rattle.sip_transactions.specs.Machine.{transaction_machine}
use Rattle.sip_transactions.specs.Steps.Input.{arrival_of, class_of, is_same_method, role_of}
use Rattle.sip_transactions.specs.Steps.Life.{acted_if, begun, life_after, step_for, step_machine, stepped}
use Rattle.sip_transactions.proofs.Rules.{at_steps}
use Rattle.sip_conversation.proofs.Among.{first_or_later, none_among}
use Rattle.sip_agent_laws.proofs.transactions.OftenSent.{by_role, by_row, role_at}

-- ---- without a start nothing is held

abbrev pub IsOther : Option Input → Type 0
IsOther (Some (Start id call_id message to)) = ⊥
IsOther _ = Unit {0}

abbrev pub AreOthers : List (Timed Input) → Type 0
AreOthers [] = Unit {0}
AreOthers (timed ∷ inputs) = IsOther timed.input × AreOthers inputs

module _ (invite : Bool) (key : Key) (own : role_of key ≡ role_at invite) (now : ℕ) where
  -- an input that begins nothing
  no_context : (r : Role) (input : Input) → begun r (Some input) ≡ None → (step : Option Step)
      → (by_row r key None now (Some input) step).0 ≡ None
  no_context r input none None = refl
  no_context r input none (Some step) =
      ap (λ o. (acted_if key now (Some input) None o step).0) none

  response : (invite : Bool) (id : Id) (message : Message) (reply_to : Addr) (c : Class)
      → (by_role (role_at invite) key None now (Some (Receive id message reply_to))
      (Some (on.Response c))).0 ≡ None
  unfolding begun life_after
  response true id message reply_to class.Trying = refl
  response true id message reply_to class.Provisional = refl
  response true id message reply_to class.Success = refl
  response true id message reply_to class.Failure = refl
  response false id message reply_to class.Trying = refl
  response false id message reply_to class.Provisional = refl
  response false id message reply_to class.Success = refl
  response false id message reply_to class.Failure = refl

  request : (invite ack : Bool) (id : Id) (message : Message) (reply_to : Addr)
      → (by_role (role_at invite) key None now (Some (Receive id message reply_to))
      (Some (cond ack on.Ack on.Request))).0 ≡ None
  request true true id message reply_to = refl
  request true false id message reply_to = refl
  request false true id message reply_to = refl
  request false false id message reply_to = refl

  received : (id : Id) (message : Message) (reply_to : Addr) (line : StartLine)
      → (by_role (role_at invite) key None now (Some (Receive id message reply_to))
      (Some (arrival_of line message.cseq.method))).0 ≡ None
  received id message reply_to (start.Request uri) =
      request invite (is_same_method message.cseq.method (codes "ACK")) id message reply_to
  received id message reply_to (start.Response status reason) =
      response invite id message reply_to (class_of status)

  pub stays : (input : Option Input) → IsOther input
      → (stepped key None (record { moment = now; input = input })).0 ≡ None
  unfolding stepped step_for begun
  stays None other = refl
  stays (Some (Receive id message reply_to)) other =
      ap (λ r. (by_role r key None now (Some (Receive id message reply_to))
      (Some (arrival_of message.start message.cseq.method))).0) own
      ∙ received id message reply_to message.start
  stays (Some (Start id call_id message to)) other = absurd other
  stays (Some (Answer id message)) other = no_context (role_of key) (Answer id message) refl _
  stays (Some (Failed id)) other = no_context (role_of key) (Failed id) refl _
  stays (Some Abandon) other = refl

by_steps : (invite : Bool) (key : Key) → role_of key ≡ role_at invite
    → (inputs : List (Timed Input)) → AreOthers inputs
    → state_from step_machine key None inputs ≡ None
by_steps invite key own [] others = refl
by_steps invite key own (timed ∷ inputs) others =
    ap (λ held. state_from step_machine key held inputs)
    (stays invite key own timed.moment timed.input others.0)
    ∙ by_steps invite key own inputs others.1

pub none_held : (invite : Bool) (key : Key) → role_of key ≡ role_at invite
    → (inputs : List (Timed Input)) → AreOthers inputs
    → state_from transaction_machine key None inputs ≡ None
none_held invite key own inputs others =
    at_steps (λ machine. state_from machine key None inputs ≡ None)
    (by_steps invite key own inputs others)

-- ---- the first start

pub record StartsFirst (inputs : List (Timed Input)) : Type 0 where
  pub before : List (Timed Input)
  pub now : ℕ
  pub id : Id
  pub call_id : List ℕ
  pub request : Message
  pub to : Addr
  pub after : List (Timed Input)
  pub are : inputs ≡ before ++ given_at now (Start id call_id request to) ∷ after
  pub others : AreOthers before

module _ (now : ℕ) (id : Id) (call_id : List ℕ) (request : Message) (to : Addr) where
  abbrev a_start : Timed Input
  a_start = given_at now (Start id call_id request to)

  -- another input comes before
  put : (moment : ℕ) (input : Option Input) (inputs : List (Timed Input)) → IsOther input
      → StartsFirst inputs → StartsFirst (record { moment = moment; input = input } ∷ inputs)
  put moment input inputs other first = record {
    before = record { moment = moment; input = input } ∷ first.before;
    now = first.now;
    id = first.id;
    call_id = first.call_id;
    request = first.request;
    to = first.to;
    after = first.after;
    are = ap (λ ts. record { moment = moment; input = input } ∷ ts) first.are;
    others = (other, first.others);
  }

  not_it : (moment : ℕ) (input : Option Input) → IsOther input
      → record { moment = moment; input = input } ≡ a_start → ⊥
  not_it moment input other same = subst (λ (timed : Timed Input). IsOther timed.input) same other

  pass : (moment : ℕ) (input : Option Input) (inputs : List (Timed Input)) → IsOther input
      → Contains (record { moment = moment; input = input } ∷ inputs) a_start
      → (Contains inputs a_start → StartsFirst inputs)
      → StartsFirst (record { moment = moment; input = input } ∷ inputs)
  pass moment input inputs other among later =
      put moment input inputs other
      (later (⊎_elim (λ same. absurd (not_it moment input other same)) (λ rest. rest)
      (first_or_later (record { moment = moment; input = input }) inputs a_start among)))

  step : (moment : ℕ) (input : Option Input) (inputs : List (Timed Input))
      → Contains (record { moment = moment; input = input } ∷ inputs) a_start
      → (Contains inputs a_start → StartsFirst inputs)
      → StartsFirst (record { moment = moment; input = input } ∷ inputs)
  step moment (Some (Start its of message at)) inputs among later = record {
    before = [];
    now = moment;
    id = its;
    call_id = of;
    request = message;
    to = at;
    after = inputs;
    are = refl;
    others = tt;
  }
  step moment None inputs among later = pass moment None inputs tt among later
  step moment (Some (Receive its message reply_to)) inputs among later =
      pass moment (Some (Receive its message reply_to)) inputs tt among later
  step moment (Some (Answer its message)) inputs among later =
      pass moment (Some (Answer its message)) inputs tt among later
  step moment (Some (Failed its)) inputs among later =
      pass moment (Some (Failed its)) inputs tt among later
  step moment (Some Abandon) inputs among later =
      pass moment (Some Abandon) inputs tt among later

  pub starts_first : (inputs : List (Timed Input)) → Contains inputs a_start → StartsFirst inputs
  starts_first [] among = absurd (none_among a_start among)
  starts_first (timed ∷ inputs) among =
      step timed.moment timed.input inputs among (starts_first inputs)
