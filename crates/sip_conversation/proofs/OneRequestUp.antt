-- The server of a request other than INVITE hands its request up once, in 64*T1 from the first one
-- that comes.
use Rattle.std.proofs.Common.{◌≡◌, ◌⊎◌, inl, inr, ⊎_elim, ℕ, ◌+◌, ◌<◌, ◌≤◌, true, false, cond, ◌||◌, List, [], ◌∷◌, refl, sym, ◌∙◌, ap, subst, arith}
use Rattle.std.specs.Prelude.{Option, None, Some, is_some}
use Rattle.std.specs.List.{AllByRecursion}
use Rattle.std.proofs.lemmas.Bool.{false≢true}
use Rattle.std.proofs.lemmas.List.Sums.{sum_by-append}
use Rattle.sip_message.specs.declared.addr.Addr.{Addr}
use Rattle.sip_message.specs.declared.id.Id.{Id}
use Rattle.sip_message.specs.declared.key.Key.{Key}
use Rattle.sip_message.specs.declared.message.Message.{Message}
use Rattle.sip_message.specs.declared.start_line.StartLine.{StartLine}
use Rattle.sip_message.specs.declared.start_line.StartLine.TheVariants as start
use Rattle.keyed_machine.specs.Machine.{Machine, Timed, given_at, outputs_from}
use Rattle.keyed_machine.proofs.Ordered.{by_bool}
use Rattle.sip_transactions.specs.declared.input.Input.{Input}
use Rattle.sip_transactions.specs.declared.input.Input.TheVariants.{Receive, Start, Answer, Failed, Abandon}
use Rattle.sip_transactions.specs.declared.life.Context.{Context}
use Rattle.sip_transactions.specs.declared.life.Life.{Life}
use Rattle.sip_transactions.specs.declared.output.Out.{Out}
use Rattle.sip_transactions.specs.declared.state.Role.TheVariants as role
use Rattle.sip_transactions.specs.declared.trigger.Class.{Class}
use Rattle.sip_transactions.specs.declared.trigger.Class.TheVariants as class
use Rattle.sip_transactions.specs.declared.trigger.Trigger.{Trigger}
use Rattle.sip_transactions.specs.declared.trigger.Trigger.TheVariants as on
use Rattle.sip_transactions.specs.Laws.{IsServer, is_request_up, requests_in}
use Rattle.sip_transactions.specs.Machine.{transaction_machine}
use Rattle.sip_transactions.specs.Steps.Input.{answer_of, class_of, role_of, trigger_of}
use Rattle.sip_transactions.specs.Steps.Life.{begun, life_after, step_machine, stepped}
use Rattle.sip_transactions.specs.Steps.Output.{handed_out, made_of, outputs_of}
use Rattle.sip_transactions.proofs.OneRequest.{first_once, held_silent}
use Rattle.sip_transactions.proofs.Rules.{at_steps}
use Rattle.sip_conversation.specs.AnswersArrive.{is_final_given, is_receipt}
use Rattle.sip_conversation.proofs.AnsweringServer.{ArePlain, IsOpenTo, IsPlain, answer_step, answered, begins_open, by_trigger, comes, fresh_other, gives_final, kept_so, no_receipt, open_then, server_by, to_server}

-- the moments of inputs don't go back
abbrev pub Rise : List (Timed Input) → Type 0
Rise [] = Unit {0}
Rise (timed ∷ inputs) =
    AllByRecursion (λ later. timed.moment ≤ later.moment) inputs × Rise inputs

-- each of these comes before this moment
abbrev pub AreBefore : ℕ → List (Timed Input) → Type 0
AreBefore end inputs = AllByRecursion (λ timed. timed.moment < end) inputs

later_bound : (a b c : ℕ) → a < b + 32000 → b ≤ c → a < c + 32000
later_bound a b c first second = omega (arith, first, second)

before_end : (a b end : ℕ) → a < b + 32000 → b + 32000 ≤ end → a < end
before_end a b end first second = omega (arith, first, second)

all_before : (a b : ℕ) (inputs : List (Timed Input)) → a ≤ b → AreBefore (a + 32000) inputs
    → AreBefore (b + 32000) inputs
all_before a b [] by early = tt
all_before a b (timed ∷ inputs) by early =
    (later_bound timed.moment a b early.0 by, all_before a b inputs by early.1)

no_final_receipt : (input : Option Input) → is_receipt input ≡ true → is_final_given input ≡ false
no_final_receipt None is = refl
no_final_receipt (Some (Receive id message reply_to)) is = refl
no_final_receipt (Some (Start id call_id message to)) is = refl
no_final_receipt (Some (Answer id message)) is = absurd (false≢true is)
no_final_receipt (Some (Failed id)) is = refl
no_final_receipt (Some Abandon) is = refl

module _ (key : Key) (server : IsServer key) (own : role_of key ≡ role.Server) (to : Addr) where
  -- ---- what isn't a request begins nothing, and hands up none

  abbrev Silent : ℕ → Option Input → Option Trigger → Type 0
  Silent now input trigger = requests_in (server_by key None now input trigger).1 ≡ 0

  by_answer : (now : ℕ) (id : Id) (message : Message) (line : StartLine)
      → Silent now (Some (Answer id message)) (answer_of line)
  unfolding begun
  by_answer now id message (start.Request uri) = refl
  by_answer now id message (start.Response status reason) = by_class (class_of status)
    where
      by_class : (c : Class) → Silent now (Some (Answer id message)) (Some (on.Answer c))
      by_class class.Trying = refl
      by_class class.Provisional = refl
      by_class class.Success = refl
      by_class class.Failure = refl

  by_response : (now : ℕ) (id : Id) (message : Message) (reply_to : Addr) (c : Class)
      → Silent now (Some (Receive id message reply_to)) (Some (on.Response c))
  unfolding begun life_after outputs_of made_of handed_out
  by_response now id message reply_to class.Trying = refl
  by_response now id message reply_to class.Provisional = refl
  by_response now id message reply_to class.Success = refl
  by_response now id message reply_to class.Failure = refl

  by_ack : (now : ℕ) (id : Id) (message : Message) (reply_to : Addr)
      → Silent now (Some (Receive id message reply_to)) (Some on.Ack)
  unfolding begun life_after outputs_of made_of handed_out
  by_ack now id message reply_to = refl

  silent : (now : ℕ) (input : Option Input) → IsPlain to input → is_receipt input ≡ false
      → Silent now input (trigger_of None now input)
  unfolding begun
  silent now None plain other = refl
  silent now (Some (Receive id message reply_to)) plain other =
      ⊎_elim
      (λ ack. subst (λ t. Silent now (Some (Receive id message reply_to)) (Some t)) (sym ack)
      (by_ack now id message reply_to))
      (λ response. subst (λ t. Silent now (Some (Receive id message reply_to)) (Some t))
      (sym response.1) (by_response now id message reply_to response.0))
      (no_receipt message other)
  silent now (Some (Start id call_id message at)) plain other = refl
  silent now (Some (Answer id message)) plain other = by_answer now id message message.start
  silent now (Some (Failed id)) plain other = refl
  silent now (Some Abandon) plain other = absurd plain

  -- ---- once it has begun, it lasts

  -- its final response keeps it until then
  record Lasts (from : ℕ) (held : Option Life) : Type 0 where
    context : Context
    bytes : List ℕ
    end : ℕ
    is : held ≡ Some (answered key own to context bytes end)
    late : from + 32000 ≤ end

  abbrev Goes : ℕ → Option Life → Type 0
  Goes from held = IsOpenTo to held ⊎ Lasts from held

  final_lasts : (from now : ℕ) (input : Option Input) (held : Option Life) → IsOpenTo to held
      → is_final_given input ≡ true → from ≤ now
      → Lasts from (stepped key held (record { moment = now; input = input })).0
  final_lasts from now (Some (Answer id message)) held opened final late = record {
    context = opened.life.context;
    bytes = _;
    end = now + 32000;
    is = ap (λ h. (stepped key h (given_at now (Answer id message))).0) opened.is
        ∙ ap (λ (a : Option Life × List Out). a.0)
        (answer_step key own to opened.life opened.opened now id message final);
    late = omega (arith, late);
  }
  final_lasts from now None held opened final late = absurd (false≢true final)
  final_lasts from now (Some (Receive id message reply_to)) held opened final late =
      absurd (false≢true final)
  final_lasts from now (Some (Start id call_id message at)) held opened final late =
      absurd (false≢true final)
  final_lasts from now (Some (Failed id)) held opened final late = absurd (false≢true final)
  final_lasts from now (Some Abandon) held opened final late = absurd (false≢true final)

  goes_on : (from : ℕ) (held : Option Life) (timed : Timed Input) → Goes from held
      → IsPlain to timed.input → from ≤ timed.moment → timed.moment < from + 32000
      → Goes from (stepped key held timed).0
  goes_on from held timed (inl opened) plain late early =
      by_bool (gives_final timed)
      (λ final. inr (final_lasts from timed.moment timed.input held opened final late))
      (λ calm. inl (open_then key own to (timed ∷ []) held opened (plain, tt)
      (ap (λ b. b || false) calm)))
  goes_on from held timed (inr lasts) plain late early =
      let life = answered key own to lasts.context lasts.bytes lasts.end in
      let again = by_trigger key own to lasts.context lasts.bytes lasts.end timed.moment timed.input
      plain (before_end timed.moment from lasts.end early lasts.late) in
      inr record {
        context = lasts.context;
        bytes = lasts.bytes;
        end = lasts.end;
        is = ap (λ h. (stepped key h timed).0) lasts.is
            ∙ ap (λ (a : Option Life × List Out). a.0)
            (to_server key own (Some life) timed.moment timed.input
            (kept_so to timed.input plain) ∙ again.is);
        late = lasts.late;
      }

  some_life : (from : ℕ) (held : Option Life) → Goes from held
      → (life : Life) × (held ≡ Some life)
  some_life from held (inl opened) = (opened.life, opened.is)
  some_life from held (inr lasts) =
      (answered key own to lasts.context lasts.bytes lasts.end, lasts.is)

  -- so no request is handed up again
  quiet : (from : ℕ) (held : Option Life) (inputs : List (Timed Input)) → Goes from held
      → ArePlain to inputs → AllByRecursion (λ timed. from ≤ timed.moment) inputs
      → AreBefore (from + 32000) inputs
      → requests_in (outputs_from step_machine key held inputs) ≡ 0
  quiet from held [] goes plain late early = refl
  quiet from held (timed ∷ inputs) goes plain late early =
      let step = stepped key held timed in
      let life = some_life from held goes in
      let here : requests_in step.1 ≡ 0 =
      ap (λ h. requests_in (stepped key h timed).1) life.1 ∙ held_silent key life.0 timed in
      let rest = quiet from step.0 inputs (goes_on from held timed goes plain.0 late.0 early.0)
      plain.1 late.1 early.1 in
      let sum = sum_by-append (λ o. cond {A = ℕ} (is_request_up o) 1 0) step.1
      (outputs_from step_machine key step.0 inputs) in
      omega (arith, sum, here, rest)

  -- ---- all of it

  abbrev FewUp : List (Timed Input) → Machine Key Life (Timed Input) Out → Type 0
  FewUp inputs machine = requests_in (outputs_from machine key None inputs) ≤ 1

  few_up : (now : ℕ) (inputs : List (Timed Input)) → Rise inputs → ArePlain to inputs
      → AllByRecursion (λ timed. comes timed ≡ true → now ≤ timed.moment) inputs
      → AreBefore (now + 32000) inputs → FewUp inputs step_machine
  few_up now [] rise plain from early = omega arith
  few_up now (timed ∷ inputs) rise plain from early =
      let step = stepped key None timed in
      let sum = sum_by-append (λ o. cond {A = ℕ} (is_request_up o) 1 0) step.1
      (outputs_from step_machine key step.0 inputs) in
      by_bool (comes timed)
      (λ here.
      let opened = begins_open key own to (timed ∷ []) (plain.0, tt)
      (ap (λ b. b || false) (no_final_receipt timed.input here)) (ap (λ b. b || false) here) in
      let once : requests_in step.1 ≡ 1 = first_once key server timed (ap is_some opened.is) in
      let rest : requests_in (outputs_from step_machine key step.0 inputs) ≡ 0 =
      quiet timed.moment step.0 inputs (inl opened) plain.1 rise.0
      (all_before now timed.moment inputs (from.0 here) early.1) in
      omega (arith, sum, once, rest))
      (λ other.
      let same = to_server key own None timed.moment timed.input
      (kept_so to timed.input plain.0) in
      let none : step.0 ≡ None = ap (λ (a : Option Life × List Out). a.0) same
      ∙ fresh_other key own to timed.moment timed.input plain.0 other in
      let here : requests_in step.1 ≡ 0 =
      ap (λ (a : Option Life × List Out). requests_in a.1) same
      ∙ silent timed.moment timed.input plain.0 other in
      let later : requests_in (outputs_from step_machine key step.0 inputs) ≤ 1 =
      subst (λ h. requests_in (outputs_from step_machine key h inputs) ≤ 1) (sym none)
      (few_up now inputs rise.1 plain.1 from.1 early.1) in
      omega (arith, sum, here, later))

  -- a transaction that hears only of requests from then on, and all of it in 64*T1, hands up one
  pub one_request : (now : ℕ) (inputs : List (Timed Input)) → Rise inputs → ArePlain to inputs
      → AllByRecursion (λ timed. comes timed ≡ true → now ≤ timed.moment) inputs
      → AreBefore (now + 32000) inputs → FewUp inputs transaction_machine
  one_request now inputs rise plain from early =
      at_steps (FewUp inputs) (few_up now inputs rise plain from early)
