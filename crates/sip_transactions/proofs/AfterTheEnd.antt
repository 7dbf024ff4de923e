-- Nothing is handed up under the id of a life that has ended.
use Rattle.std.proofs.Common.{◌≡◌, ℕ, Bool, true, false, ◌&&◌, ◌||◌, List, [], ◌∷◌, ◌++◌, refl, sym, ◌∙◌, ap, subst}
use Rattle.std.specs.Prelude.{not, Option, None, Some, IsSome, is_some, option_map, option_to_list}
use Rattle.std.specs.List.{cons_option, list_any, AllByRecursion, IsDistinct}
use Rattle.std.proofs.lemmas.Bool.{false≢true}
use Rattle.std.proofs.lemmas.List.Folds.{list_any-append}
use Rattle.std.proofs.lemmas.List.Elements.{filter_map-append}
use Rattle.std.proofs.lemmas.Map.Keys.{IsDistinct-head, IsDistinct-tail}
use Rattle.sip_message.specs.declared.id.Id.{Id}
use Rattle.sip_message.specs.declared.addr.Addr.{Addr}
use Rattle.sip_message.specs.declared.key.Key.{Key}
use Rattle.sip_message.specs.declared.message.Message.{Message}
use Rattle.sip_message.specs.declared.start_line.StartLine.{StartLine}
use Rattle.sip_message.specs.declared.start_line.StartLine.TheVariants as start
use Rattle.keyed_machine.specs.Machine.{outputs_from, state_left, Timed}
use Rattle.sip_transactions.specs.declared.input.Input.{Input}
use Rattle.sip_transactions.specs.declared.input.Input.TheVariants.{Receive, Start, Answer, Failed, Abandon}
use Rattle.sip_transactions.specs.declared.life.Context.{Context}
use Rattle.sip_transactions.specs.declared.life.Life.{Life}
use Rattle.sip_transactions.specs.declared.output.Out.{Out}
use Rattle.sip_transactions.specs.declared.state.State.{State}
use Rattle.sip_transactions.specs.declared.step.Step.{Step}
use Rattle.sip_transactions.specs.declared.step.UpAction.{UpAction}
use Rattle.sip_transactions.specs.declared.step.UpAction.TheVariants as up
use Rattle.sip_transactions.specs.declared.trigger.Trigger.{Trigger}
use Rattle.sip_transactions.specs.Rows.{rows_of}
use Rattle.sip_transactions.specs.Ids.{is_id}
use Rattle.sip_transactions.specs.Steps.Input.{role_of, trigger_of, arrival_of, arrived_in}
use Rattle.sip_transactions.specs.Steps.Output.{outputs_of, handed_out, sent_bytes, send_out}
use Rattle.sip_transactions.specs.Steps.Life.{stepped, acted_if, begun, life_after, life_in, last_of, entered, armed}
use Rattle.sip_transactions.specs.Laws.{NothingAfterTheEnd, carries, id_of, names_in, naming_id, arrival_id}
use Rattle.sip_transactions.specs.Steps.Life.{step_machine}
use Rattle.sip_transactions.proofs.RowFacts.{and-left, and-right, row_passes}
use Rattle.sip_transactions.proofs.LawSteps.{by_step, is_ended, is_message, is_report, response_needs_life, responses_in_tables}
use Rattle.sip_transactions.proofs.OneRequest.{life_after-ended}

-- a life without this id
abbrev OtherLife : Id → Option Life → Type 0
OtherLife id None = Unit {0}
OtherLife id (Some life) = is_id id life.context.id ≡ false

abbrev OtherName : Id → Option Id → Type 0
OtherName id None = Unit {0}
OtherName id (Some name) = is_id id name ≡ false

-- after an input: nothing was handed up under this id, and the life has another one
record Other (id : Id) (after : Option Life × List Out) : Type 0 where
  life : OtherLife id after.0
  said : list_any (carries id) after.1 ≡ false

or_none : (a b : Bool) → a ≡ false → b ≡ false → (a || b) ≡ false
or_none true b no_a no_b = no_a
or_none false b no_a no_b = no_b

sends_none : (id : Id) (key : Key) (context : Context) (o : Option (List ℕ))
    → list_any (carries id) (option_to_list (option_map (send_out key context.to) o)) ≡ false
sends_none id key context None = refl
sends_none id key context (Some bytes) = refl

handed_other : (id : Id) (key : Key) (context : Context) (handed : UpAction)
    (arrived : Option (Message × Addr)) → is_id id context.id ≡ false
    → list_any (carries id) (option_to_list (handed_out key context handed arrived)) ≡ false
unfolding handed_out
handed_other id key context up.Nothing arrived other = refl
handed_other id key context up.Message None other = refl
handed_other id key context up.Message (Some came) other = or_none _ false other refl
handed_other id key context up.Timeout arrived other = or_none _ false other refl
handed_other id key context up.Failed arrived other = or_none _ false other refl
handed_other id key context up.NoTransaction arrived other = refl

said_other : (id : Id) (key : Key) (context : Context) (step : Step) (made : Option (List ℕ))
    (arrived : Option (Message × Addr))
    → list_any (carries id) (option_to_list (handed_out key context step.handed arrived)) ≡ false
    → list_any (carries id) (outputs_of key context step made arrived) ≡ false
unfolding outputs_of
said_other id key context step made arrived handed =
    list_any-append (carries id) (option_to_list (handed_out key context step.handed arrived))
    (option_to_list (option_map (send_out key context.to) (sent_bytes context.last step.sent made)))
    ∙ or_none _ _ handed (sends_none id key context (sent_bytes context.last step.sent made))

id-last_of : (bytes : Option (List ℕ)) (context : Context) → (last_of bytes context).id ≡ context.id
id-last_of None context = refl
id-last_of (Some bytes) context = refl

entered_other : (id : Id) (context : Context) (state : Option State)
    → is_id id context.id ≡ false → OtherLife id (option_map (life_in context) state)
entered_other id context None other = tt
entered_other id context (Some state) other = other

life_other : (id : Id) (state : Option State) (context : Context) (step : Step) (now : ℕ)
    (bytes : Option (List ℕ)) → is_id id context.id ≡ false
    → OtherLife id (life_after state context step now bytes)
unfolding life_after
life_other id state context step now bytes other =
    entered_other id (armed step.due now (last_of bytes context)) (entered step.next state)
    (ap (is_id id) (id-last_of bytes context) ∙ other)

acted_other : (id : Id) (key : Key) (now : ℕ) (input : Option Input) (state : Option State)
    (context : Context) (step : Step) → is_id id context.id ≡ false
    → Other id (acted_if key now input state (Some context) step)
acted_other id key now input state context step other = record {
  life = life_other id state context step now _ other;
  said = said_other id key context step _ (arrived_in input)
      (handed_other id key context step.handed (arrived_in input) other);
}

-- a response without a life: nothing is handed up, and no life begins
not_handed : (id : Id) (key : Key) (context : Context) (handed : UpAction)
    (arrived : Option (Message × Addr)) → not (is_message handed || is_report handed) ≡ true
    → list_any (carries id) (option_to_list (handed_out key context handed arrived)) ≡ false
unfolding handed_out
not_handed id key context up.Nothing arrived quiet = refl
not_handed id key context up.Message arrived quiet = absurd (false≢true quiet)
not_handed id key context up.Timeout arrived quiet = absurd (false≢true quiet)
not_handed id key context up.Failed arrived quiet = absurd (false≢true quiet)
not_handed id key context up.NoTransaction arrived quiet = refl

response_other : (id : Id) (key : Key) (now : ℕ) (input : Option Input) (context : Context)
    (step : Step)
    → (is_ended step.next && not (is_message step.handed || is_report step.handed)) ≡ true
    → Other id (acted_if key now input None (Some context) step)
response_other id key now input context step quiet = record {
  life = subst (OtherLife id) (sym
      (life_after-ended None context step now _ (and-left (is_ended step.next) _ quiet))) tt;
  said = said_other id key context step _ (arrived_in input)
      (not_handed id key context step.handed (arrived_in input)
      (and-right (is_ended step.next) _ quiet));
}

-- a message that came without a life
receive_other : (id : Id) (key : Key) (now : ℕ) (i : Id) (message : Message) (reply_to : Addr)
    (line : StartLine) (step : Step) (context : Context) → context.id ≡ i → message.start ≡ line
    → OtherName id (arrival_id line i)
    → response_needs_life None (arrival_of line message.cseq.method) step ≡ true
    → Other id (acted_if key now (Some (Receive i message reply_to)) None (Some context) step)
receive_other id key now i message reply_to (start.Request uri) step context named is other passed =
    acted_other id key now (Some (Receive i message reply_to)) None context step
    (ap (is_id id) named ∙ other)
receive_other id key now i message reply_to
    (start.Response status reason) step context named is other passed =
    response_other id key now (Some (Receive i message reply_to)) context step passed

begun_other : (id : Id) (key : Key) (now : ℕ) (input : Option Input) (step : Step)
    (trigger : Trigger)
    → trigger_of None now input ≡ Some trigger → response_needs_life None trigger step ≡ true
    → OtherName id (naming_id input)
    → Other id (acted_if key now input None (begun (role_of key) input) step)
unfolding begun
begun_other id key now None step trigger triggered passed other = record { life = tt; said = refl }
begun_other id key now (Some (Answer i message)) step trigger triggered passed other =
    record { life = tt; said = refl }
begun_other id key now (Some (Failed i)) step trigger triggered passed other =
    record { life = tt; said = refl }
begun_other id key now (Some Abandon) step trigger triggered passed other =
    record { life = tt; said = refl }
begun_other id key now (Some (Start i call_id message to)) step trigger triggered passed other =
    acted_other id key now (Some (Start i call_id message to)) None _ step other
begun_other id key now (Some (Receive i message reply_to)) step trigger triggered passed other =
    let same : trigger ≡ arrival_of message.start message.cseq.method = cc in
    receive_other id key now i message reply_to message.start step _ refl refl other
    (subst (λ t. response_needs_life None t step ≡ true) same passed)

-- one input
input_other : (id : Id) (key : Key) (held : Option Life) (timed : Timed Input) → OtherLife id held
    → OtherName id (naming_id timed.input) → Other id (stepped key held timed)
input_other id key (Some life) timed other named =
    by_step (Other id) key (Some life) timed (record { life = tt; said = refl })
    (record { life = other; said = refl })
    (λ step row. acted_other id key timed.moment timed.input (Some life.state) life.context step
    other)
input_other id key None timed other named =
    by_step (Other id) key None timed (record { life = tt; said = refl })
    (record { life = tt; said = refl })
    (λ step row. begun_other id key timed.moment timed.input step row.trigger row.triggered
    (row_passes response_needs_life (rows_of (role_of key))
    (responses_in_tables (role_of key)) None row.trigger step row.row) named)

-- all later inputs
later_other : (id : Id) (key : Key) (held : Option Life) (inputs : List (Timed Input))
    → OtherLife id held
    → AllByRecursion (λ timed. OtherName id (naming_id timed.input)) inputs
    → list_any (carries id) (outputs_from step_machine key held inputs) ≡ false
later_other id key held [] other named = refl
later_other id key held (timed ∷ inputs) other named =
    let one = input_other id key held timed other named.0 in
    list_any-append (carries id) (stepped key held timed).1
    (outputs_from step_machine key (stepped key held timed).0 inputs)
    ∙ or_none _ _ one.said (later_other id key (stepped key held timed).0 inputs one.life named.1)

-- ---- distinct names
distinct_later : (xs : List Id) (id : Id) (ys : List Id) → IsDistinct is_id (xs ++ id ∷ ys)
    → AllByRecursion (λ y. is_id id y ≡ false) ys
distinct_later [] id ys distinct = IsDistinct-head is_id id ys distinct
distinct_later (x ∷ xs) id ys distinct =
    distinct_later xs id ys (IsDistinct-tail is_id x (xs ++ id ∷ ys) distinct)

all_right : {X : Type 0} (P : X → Type 0) (xs ys : List X) → AllByRecursion P (xs ++ ys)
    → AllByRecursion P ys
all_right P [] ys all = all
all_right P (x ∷ xs) ys all = all_right P xs ys all.1

-- a name that comes first, if there is one
named_first : (id : Id) (name : Option Id) (later : List Id)
    → AllByRecursion (λ n. is_id id n ≡ false) (cons_option name later)
    → OtherName id name × AllByRecursion (λ n. is_id id n ≡ false) later
named_first id None later all = (tt, all)
named_first id (Some name) later all = (all.0, all.1)

named_apart : (id : Id) (inputs : List (Timed Input))
    → AllByRecursion (λ name. is_id id name ≡ false) (names_in inputs)
    → AllByRecursion (λ timed. OtherName id (naming_id timed.input)) inputs
named_apart id [] all = tt
named_apart id (timed ∷ inputs) all =
    let parts = named_first id (naming_id timed.input) (names_in inputs) all in
    (parts.0, named_apart id inputs parts.1)

-- the first input of a life names it
receive_names : (key : Key) (now : ℕ) (i : Id) (message : Message) (reply_to : Addr)
    (line : StartLine) (step : Step) (context : Context)
    → response_needs_life None (arrival_of line message.cseq.method) step ≡ true
    → IsSome (acted_if key now (Some (Receive i message reply_to)) None (Some context) step).0
    → arrival_id line i ≡ Some i
receive_names key now i message reply_to (start.Request uri) step context passed goes_on = refl
receive_names key now i message reply_to (start.Response status reason) step context passed
    goes_on =
    absurd (false≢true (sym (ap is_some
    (life_after-ended None context step now _ (and-left (is_ended step.next) _ passed))) ∙ goes_on))

begun_names : (key : Key) (now : ℕ) (input : Option Input) (step : Step) (trigger : Trigger)
    → trigger_of None now input ≡ Some trigger → response_needs_life None trigger step ≡ true
    → IsSome (acted_if key now input None (begun (role_of key) input) step).0
    → naming_id input ≡ id_of input
unfolding begun
begun_names key now None step trigger triggered passed goes_on = refl
begun_names key now (Some (Answer i message)) step trigger triggered passed goes_on =
    absurd (false≢true goes_on)
begun_names key now (Some (Failed i)) step trigger triggered passed goes_on =
    absurd (false≢true goes_on)
begun_names key now (Some Abandon) step trigger triggered passed goes_on =
    absurd (false≢true goes_on)
begun_names key now (Some (Start i call_id message to)) step trigger triggered passed goes_on = refl
begun_names key now (Some (Receive i message reply_to)) step trigger triggered passed goes_on =
    let same : trigger ≡ arrival_of message.start message.cseq.method = cc in
    receive_names key now i message reply_to message.start step _
    (subst (λ t. response_needs_life None t step ≡ true) same passed) goes_on

first_names : (key : Key) (first : Timed Input) → IsSome (stepped key None first).0
    → naming_id first.input ≡ id_of first.input
first_names key first =
    by_step (λ after. IsSome after.0 → naming_id first.input ≡ id_of first.input) key None first
    (λ some. absurd (false≢true some)) (λ some. absurd (false≢true some))
    (λ step row. begun_names key first.moment first.input step row.trigger row.triggered
    (row_passes response_needs_life (rows_of (role_of key))
    (responses_in_tables (role_of key)) None row.trigger step row.row))

pub nothing_after_the_end : NothingAfterTheEnd step_machine
nothing_after_the_end key inputs life id ended named distinct =
    let name : naming_id life.first.input ≡ Some id =
    first_names key life.first life.begins ∙ named in
    let with_name : names_in inputs
    ≡ names_in life.before ++ (id ∷ names_in (life.rest ++ life.after)) =
    ap names_in life.are
    ∙ filter_map-append (λ timed. naming_id timed.input) life.before
    (life.first ∷ (life.rest ++ life.after))
    ∙ ap (λ n. names_in life.before ++ cons_option n (names_in (life.rest ++ life.after))) name in
    let later : AllByRecursion (λ y. is_id id y ≡ false) (names_in (life.rest ++ life.after)) =
    distinct_later (names_in life.before) id (names_in (life.rest ++ life.after))
    (subst (IsDistinct is_id) with_name distinct) in
    later_other id key (state_left life) life.after (subst (OtherLife id) (sym ended) tt)
    (named_apart id life.after
    (all_right (λ y. is_id id y ≡ false) (names_in life.rest) (names_in life.after)
    (subst (AllByRecursion (λ y. is_id id y ≡ false))
    (filter_map-append (λ timed. naming_id timed.input) life.rest life.after) later)))
