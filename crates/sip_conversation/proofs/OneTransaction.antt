-- What a transaction sends is the text of a message that it was given or made. What it hands up is
-- a message that came to it.
use Rattle.std.proofs.Common.{◌≡◌, ◌≤◌, ℕ, Bool, true, false, cond, ◌&&◌, List, [], ◌∷◌, refl, sym, ap, ◌∙◌, codes, subst}
use Rattle.std.specs.Prelude.{◌==◌, Contains, IfSome, Option, None, Some, nat_lt, not, option_map, option_to_list, if◌then◌else◌}
use Rattle.std.specs.List.{AllByRecursion}
use Rattle.std.proofs.lemmas.Bool.{false≢true, ltb-false}
use Rattle.std.proofs.lemmas.Option.{same_Some}
use Rattle.sip_message.specs.declared.addr.Addr.{Addr}
use Rattle.sip_message.specs.declared.id.Id.{Id}
use Rattle.sip_message.specs.declared.key.Key.{Key}
use Rattle.sip_message.specs.declared.message.Message.{Message}
use Rattle.sip_message.specs.declared.start_line.StartLine.{StartLine}
use Rattle.sip_message.specs.declared.start_line.StartLine.TheVariants as start
use Rattle.sip_message.specs.HopByHop.{ack_of}
use Rattle.sip_message.specs.Message.{is_request_line, is_request_message}
use Rattle.sip_message.specs.Written.{written}
use Rattle.keyed_machine.specs.Machine.{Timed, given_at, outputs_from}
use Rattle.sip_transactions.specs.declared.input.Input.{Input}
use Rattle.sip_transactions.specs.declared.input.Input.TheVariants.{Abandon, Answer, Failed, Receive, Start}
use Rattle.sip_transactions.specs.declared.life.Context.{Context}
use Rattle.sip_transactions.specs.declared.life.Life.{Life}
use Rattle.sip_transactions.specs.declared.output.UpKind.{UpKind}
use Rattle.sip_transactions.specs.declared.output.UpKind.TheVariants as kind
use Rattle.sip_transactions.specs.declared.output.Out.{Out}
use Rattle.sip_transactions.specs.declared.output.Out.TheVariants as out
use Rattle.sip_transactions.specs.declared.state.Role.{Role}
use Rattle.sip_transactions.specs.declared.state.Role.TheVariants as role
use Rattle.sip_transactions.specs.declared.state.State.{State}
use Rattle.sip_transactions.specs.declared.step.UpAction.{UpAction}
use Rattle.sip_transactions.specs.declared.step.UpAction.TheVariants as up
use Rattle.sip_transactions.specs.declared.step.Sent.{Sent}
use Rattle.sip_transactions.specs.declared.step.Sent.TheVariants as send
use Rattle.sip_transactions.specs.declared.step.Step.{Step}
use Rattle.sip_transactions.specs.declared.trigger.Trigger.{Trigger}
use Rattle.sip_transactions.specs.declared.trigger.Trigger.TheVariants as on
use Rattle.sip_transactions.specs.Steps.Input.{answer_of, arrival_of, arrived_in, class_of, is_same_method, message_in, role_of, trigger_of}
use Rattle.sip_transactions.specs.Steps.Life.{acted_if, armed, begun, context_of, entered, keeps_request, last_of, life_after, life_in, state_of, stepped}
use Rattle.sip_transactions.specs.Machine.{transaction_machine}
use Rattle.sip_transactions.specs.Rules.Step.{step_at}
use Rattle.sip_transactions.proofs.Rules.{step_is}
use Rattle.sip_transactions.specs.Steps.Output.{handed_out, kind_of, made_bytes, made_of, outputs_of, send_out, sent_bytes, trying_of}
use Rattle.sip_transactions.specs.Rows.{rows_of}
use Rattle.sip_transactions.proofs.LawSteps.{RowFor, by_step, is_request}
use Rattle.sip_transactions.proofs.RowFacts.{and-left, and-right, row_passes, table_passes}
use Rattle.sip_transactions.specs.declared.trigger.Class.{Class}
use Rattle.sip_transactions.specs.declared.trigger.Class.TheVariants as class
use Rattle.sip_clients.specs.Clients.{status_of}
use Rattle.sip_conversation.specs.Messages.{IsFailure}
use Rattle.sip_held_dialogs.proofs.Each.{both}
use Rattle.sip_conversation.proofs.Among.{all_of}

-- ---- the rows: only at a command is a given message sent, and only otherwise one made from a
-- message that came

abbrev is_order : Trigger → Bool
is_order on.Start = true
is_order on.RetransmitDue = false
is_order on.TimeoutDue = false
is_order on.Failed = false
is_order on.Request = false
is_order on.Ack = false
is_order (on.Response c) = false
is_order (on.Answer c) = true

abbrev made_fits : Bool → Sent → Bool
made_fits order send.Nothing = true
made_fits order send.Given = order
made_fits order send.Latest = true
made_fits order send.Trying = not order
made_fits order send.Ack = not order

abbrev is_failed : Class → Bool
is_failed class.Trying = false
is_failed class.Provisional = false
is_failed class.Success = false
is_failed class.Failure = true

abbrev is_failure : Trigger → Bool
is_failure (on.Response c) = is_failed c
is_failure _ = false

-- a 100 is made only for a request, an ACK only for a response of 300 or above
abbrev arrival_fits : Trigger → Sent → Bool
arrival_fits trigger send.Nothing = true
arrival_fits trigger send.Given = true
arrival_fits trigger send.Latest = true
arrival_fits trigger send.Trying = is_request trigger
arrival_fits trigger send.Ack = is_failure trigger

abbrev row_makes : Option State → Trigger → Step → Bool
row_makes state trigger step =
    made_fits (is_order trigger) step.sent && arrival_fits trigger step.sent

rows_make : (r : Role) → table_passes row_makes (rows_of r) ≡ true
rows_make role.InviteClient = refl
rows_make role.Client = refl
rows_make role.InviteServer = refl
rows_make role.Server = refl

answer_orders : (line : StartLine) (trigger : Trigger) → answer_of line ≡ Some trigger
    → is_order trigger ≡ true
answer_orders (start.Request uri) trigger e = absurd cc
answer_orders (start.Response status reason) trigger e =
    sym (ap is_order (same_Some (on.Answer (class_of status)) trigger e))

message_orders : (ack : Bool) → is_order (cond ack on.Ack on.Request) ≡ false
message_orders true = refl
message_orders false = refl

arrival_orders : (line : StartLine) (method : List ℕ) → is_order (arrival_of line method) ≡ false
arrival_orders (start.Request uri) method = message_orders (is_same_method method (codes "ACK"))
arrival_orders (start.Response status reason) method = refl

request_arrives : (line : StartLine) (method : List ℕ)
    → is_request (arrival_of line method) ≡ true → is_request_line line ≡ true
request_arrives (start.Request uri) method is = refl
request_arrives (start.Response status reason) method is = absurd (false≢true is)

no_failure : (ack : Bool) → is_failure (cond ack on.Ack on.Request) ≡ false
no_failure true = refl
no_failure false = refl

failed_status : (trying provisional success : Bool) (status : ℕ)
    → nat_lt status 300 ≡ success
    → is_failed (if trying then class.Trying else if provisional then class.Provisional
    else if success then class.Success else class.Failure) ≡ true
    → 300 ≤ status
failed_status true provisional success status is failed = absurd (false≢true failed)
failed_status false true success status is failed = absurd (false≢true failed)
failed_status false false true status is failed = absurd (false≢true failed)
failed_status false false false status is failed = ltb-false status 300 is

failure_arrives : (line : StartLine) (method : List ℕ)
    → is_failure (arrival_of line method) ≡ true
    → (status : ℕ) × (status_of line ≡ Some status) × (300 ≤ status)
failure_arrives (start.Request uri) method is =
    absurd (false≢true (sym (no_failure (is_same_method method (codes "ACK"))) ∙ is))
failure_arrives (start.Response status reason) method is = (
  status,
  refl,
  failed_status (status == 100) (nat_lt status 200) (nat_lt status 300) status refl is,
)

-- ---- what is true of each output and of each input

module _ (Says : Message → Type 0) where
  -- it is the text of a message of which this is true
  abbrev pub IsTextOf : List ℕ → Type 0
  IsTextOf bytes = (message : Message) × (bytes ≡ written message) × Says message

module _ (Came : Message → Type 0) where
  -- this is true of the message that came, if any
  abbrev pub KindCame : UpKind → Type 0
  KindCame (kind.Request message reply_to) = Came message × (is_request_message message ≡ true)
  KindCame (kind.Ack message) = Came message
  KindCame (kind.Response message) = Came message
  KindCame kind.Timeout = Unit {0}
  KindCame kind.Failed = Unit {0}

module _ (Says Came : Message → Type 0) where
  abbrev pub IsFaithful : Out → Type 0
  IsFaithful (out.Up up) = KindCame Came up.kind
  IsFaithful (out.Send key to bytes) = IsTextOf Says bytes
  IsFaithful (out.Dropped place why) = Unit {0}

module _ (all : List (Timed Input)) (Says Came : Message → Type 0) where
  -- this is true of each message that these inputs give to be sent, or that is made from one that
  -- came
  pub record AreSaid : Type 0 where
    pub started : (now : ℕ) (id : Id) (call_id : List ℕ) (message : Message) (to : Addr)
        → Contains all (given_at now (Start id call_id message to)) → Says message
    pub answered : (now : ℕ) (id : Id) (message : Message)
        → Contains all (given_at now (Answer id message)) → Says message
    pub tried : (now : ℕ) (id : Id) (request : Message) (reply_to : Addr)
        → Contains all (given_at now (Receive id request reply_to))
        → is_request_message request ≡ true → Says (trying_of request)
    pub acknowledged : (now later : ℕ) (id answered : Id) (call_id : List ℕ)
        (invite response : Message) (to reply_to : Addr)
        → Contains all (given_at now (Start id call_id invite to))
        → Contains all (given_at later (Receive answered response reply_to)) → IsFailure response
        → Says (ack_of invite response)
    pub came : (now : ℕ) (id : Id) (message : Message) (reply_to : Addr)
        → Contains all (given_at now (Receive id message reply_to)) → Came message

  -- a request that was started
  abbrev WasStarted : Message → Type 0
  WasStarted message = (now : ℕ) × (id : Id) × (call_id : List ℕ) × (to : Addr)
      × Contains all (given_at now (Start id call_id message to))

  record IsSound (context : Context) : Type 0 where
    last : IfSome context.last (IsTextOf Says)
    request : IfSome context.request WasStarted

  abbrev IsSoundLife : Option Life → Type 0
  IsSoundLife held = IfSome held (λ life. IsSound life.context)

  module _ (said : AreSaid) where
    -- ---- what a row makes

    made_of_start : (request : Option Message) (s : Sent) (now : ℕ) (id : Id) (call_id : List ℕ)
        (message : Message) (to : Addr)
        → Contains all (given_at now (Start id call_id message to)) → made_fits true s ≡ true
        → IfSome (option_map written (made_of request s message)) (IsTextOf Says)
    unfolding made_of
    made_of_start request send.Nothing now id call_id message to among fits = tt
    made_of_start request send.Given now id call_id message to among fits =
        (message, refl, said.started now id call_id message to among)
    made_of_start request send.Latest now id call_id message to among fits = tt
    made_of_start request send.Trying now id call_id message to among fits =
        absurd (false≢true fits)
    made_of_start request send.Ack now id call_id message to among fits =
        absurd (false≢true fits)

    made_of_answer : (request : Option Message) (s : Sent) (now : ℕ) (id : Id)
        (message : Message) → Contains all (given_at now (Answer id message))
        → made_fits true s ≡ true
        → IfSome (option_map written (made_of request s message)) (IsTextOf Says)
    unfolding made_of
    made_of_answer request send.Nothing now id message among fits = tt
    made_of_answer request send.Given now id message among fits =
        (message, refl, said.answered now id message among)
    made_of_answer request send.Latest now id message among fits = tt
    made_of_answer request send.Trying now id message among fits = absurd (false≢true fits)
    made_of_answer request send.Ack now id message among fits = absurd (false≢true fits)

    made_of_arrival : (request : Option Message) → IfSome request WasStarted → (s : Sent) (now : ℕ)
        (id : Id) (message : Message) (reply_to : Addr)
        → Contains all (given_at now (Receive id message reply_to)) → made_fits false s ≡ true
        → arrival_fits (arrival_of message.start message.cseq.method) s ≡ true
        → IfSome (option_map written (made_of request s message)) (IsTextOf Says)
    unfolding made_of
    made_of_arrival request started send.Nothing now id message reply_to among fits trying = tt
    made_of_arrival request started send.Given now id message reply_to among fits trying =
        absurd (false≢true fits)
    made_of_arrival request started send.Latest now id message reply_to among fits trying = tt
    made_of_arrival request started send.Trying now id message reply_to among fits trying = (
      trying_of message,
      refl,
      said.tried now id message reply_to among
          (request_arrives message.start message.cseq.method trying),
    )
    made_of_arrival None started send.Ack now id message reply_to among fits trying = tt
    made_of_arrival (Some invite) started send.Ack now id message reply_to among fits trying = (
      ack_of invite message,
      refl,
      said.acknowledged started.0 now started.1 id started.2 invite message started.3 reply_to
          started.4 among (failure_arrives message.start message.cseq.method trying),
    )

    made : (request : Option Message) → IfSome request WasStarted → (s : Sent)
        (held : Option Life) (now : ℕ) (input : Option Input) (trigger : Trigger)
        → Contains all (record { moment = now; input = input })
        → trigger_of held now input ≡ Some trigger → made_fits (is_order trigger) s ≡ true
        → arrival_fits trigger s ≡ true
        → IfSome (made_bytes request s (message_in input)) (IsTextOf Says)
    made request started s held now None trigger among is fits trying = tt
    made request started s held now (Some (Failed id)) trigger among is fits trying = tt
    made request started s held now (Some Abandon) trigger among is fits trying = tt
    made request started s held now (Some (Start id call_id message to)) trigger among is fits
        trying =
        made_of_start request s now id call_id message to among
        (ap (λ t. made_fits (is_order t) s) (same_Some on.Start trigger is) ∙ fits)
    made request started s held now (Some (Answer id message)) trigger among is fits trying =
        made_of_answer request s now id message among
        (ap (λ b. made_fits b s) (sym (answer_orders message.start trigger is)) ∙ fits)
    made request started s held now (Some (Receive id message reply_to)) trigger among is fits
        trying =
        made_of_arrival request started s now id message reply_to among
        (ap (λ b. made_fits b s) (sym (arrival_orders message.start message.cseq.method)
        ∙ ap is_order (same_Some (arrival_of message.start message.cseq.method) trigger is))
        ∙ fits)
        (ap (λ t. arrival_fits t s)
        (same_Some (arrival_of message.start message.cseq.method) trigger is) ∙ trying)

    -- ---- what a row leaves, and what it says

    last_sound : (context : Context) (bytes : Option (List ℕ)) → IsSound context
        → IfSome bytes (IsTextOf Says) → IsSound (last_of bytes context)
    last_sound context None sound text = sound
    last_sound context (Some bytes) sound text = record { last = text; request = sound.request }

    after_sound : (context : Context) (step : Step) (now : ℕ) (bytes : Option (List ℕ))
        (next : Option State) → IsSound (last_of bytes context)
        → IsSoundLife (option_map (life_in (armed step.due now (last_of bytes context))) next)
    after_sound context step now bytes None sound = tt
    after_sound context step now bytes (Some state) sound =
        record { last = sound.last; request = sound.request }

    message_kind : (message : Message) (reply_to : Addr) (ack : Bool) → Came message
        → is_request_message message ≡ true
        → KindCame Came (cond ack (kind.Ack message) (kind.Request message reply_to))
    message_kind message reply_to true came request = came
    message_kind message reply_to false came request = (came, request)

    kind_came : (line : StartLine) (message : Message) (reply_to : Addr)
        → is_request_line line ≡ is_request_message message → Came message
        → KindCame Came (kind_of line message reply_to)
    kind_came (start.Request uri) message reply_to same came =
        message_kind message reply_to (is_same_method message.cseq.method (codes "ACK")) came
        (sym same)
    kind_came (start.Response status reason) message reply_to same came = came

    handed_came : (key : Key) (context : Context) (handed : UpAction)
        (arrived : Option (Message × Addr)) → IfSome arrived (λ a. Came a.0)
        → AllByRecursion (IsFaithful Says Came)
        (option_to_list (handed_out key context handed arrived))
    unfolding handed_out
    handed_came key context up.Nothing arrived came = tt
    handed_came key context up.Message None came = tt
    handed_came key context up.Message (Some arrived) came =
        (kind_came arrived.0.start arrived.0 arrived.1 refl came, tt)
    handed_came key context up.Timeout arrived came = (tt, tt)
    handed_came key context up.Failed arrived came = (tt, tt)
    handed_came key context up.NoTransaction arrived came = (tt, tt)

    arrived_came : (now : ℕ) (input : Option Input)
        → Contains all (record { moment = now; input = input })
        → IfSome (arrived_in input) (λ a. Came a.0)
    arrived_came now None among = tt
    arrived_came now (Some (Receive id message reply_to)) among =
        said.came now id message reply_to among
    arrived_came now (Some (Start id call_id message to)) among = tt
    arrived_came now (Some (Answer id message)) among = tt
    arrived_came now (Some (Failed id)) among = tt
    arrived_came now (Some Abandon) among = tt

    sent_text : (last : Option (List ℕ)) (s : Sent) (bytes : Option (List ℕ))
        → IfSome last (IsTextOf Says) → IfSome bytes (IsTextOf Says)
        → IfSome (sent_bytes last s bytes) (IsTextOf Says)
    sent_text last send.Nothing bytes before text = text
    sent_text last send.Given bytes before text = text
    sent_text last send.Latest bytes before text = before
    sent_text last send.Trying bytes before text = text
    sent_text last send.Ack bytes before text = text

    sends_text : (key : Key) (to : Addr) (bytes : Option (List ℕ)) → IfSome bytes (IsTextOf Says)
        → AllByRecursion (IsFaithful Says Came)
        (option_to_list (option_map (send_out key to) bytes))
    sends_text key to None text = tt
    sends_text key to (Some bytes) text = (text, tt)

    -- ---- one input

    abbrev After : Option Life × List Out → Type 0
    After after = IsSoundLife after.0 × AllByRecursion (IsFaithful Says Came) after.1

    begun_sound : (r : Role) (now : ℕ) (input : Option Input)
        → Contains all (record { moment = now; input = input }) → IfSome (begun r input) IsSound
    unfolding begun
    begun_sound r now None among = tt
    begun_sound r now (Some (Receive id message reply_to)) among =
        record { last = tt; request = tt }
    begun_sound r now (Some (Start id call_id message to)) among =
        record { last = tt; request = kept (keeps_request r) }
      where
        kept : (keeps : Bool) → IfSome (cond keeps (Some message) None) WasStarted
        kept true = (now, id, call_id, to, among)
        kept false = tt
    begun_sound r now (Some (Answer id message)) among = tt
    begun_sound r now (Some (Failed id)) among = tt
    begun_sound r now (Some Abandon) among = tt

    context_sound : (r : Role) (held : Option Life) (now : ℕ) (input : Option Input)
        → Contains all (record { moment = now; input = input }) → IsSoundLife held
        → IfSome (context_of r held input) IsSound
    context_sound r None now input among sound = begun_sound r now input among
    context_sound r (Some life) now input among sound = sound

    acted_sound : (key : Key) (held : Option Life) (now : ℕ) (input : Option Input)
        (context : Option Context) (step : Step)
        → Contains all (record { moment = now; input = input }) → IfSome context IsSound
        → RowFor key held (record { moment = now; input = input }) step
        → After (acted_if key now input (state_of held) context step)
    unfolding life_after outputs_of
    acted_sound key held now input None step among sound row = (tt, tt)
    acted_sound key held now input (Some context) step among sound row =
        let bytes = made_bytes context.request step.sent (message_in input) in
        let test : (made_fits (is_order row.trigger) step.sent
        && arrival_fits row.trigger step.sent) ≡ true =
        row_passes row_makes (rows_of (role_of key)) (rows_make (role_of key)) (state_of held)
        row.trigger step row.row in
        let text = made context.request sound.request step.sent held now input row.trigger among
        row.triggered
        (and-left (made_fits (is_order row.trigger) step.sent)
        (arrival_fits row.trigger step.sent) test)
        (and-right (made_fits (is_order row.trigger) step.sent)
        (arrival_fits row.trigger step.sent) test) in (
          after_sound context step now bytes (entered step.next (state_of held))
              (last_sound context bytes sound text),
          both (IsFaithful Says Came)
              (option_to_list (handed_out key context step.handed (arrived_in input)))
              (option_to_list (option_map (send_out key context.to)
              (sent_bytes context.last step.sent bytes)))
              (handed_came key context step.handed (arrived_in input)
              (arrived_came now input among))
              (sends_text key context.to (sent_bytes context.last step.sent bytes)
              (sent_text context.last step.sent bytes sound.last text)),
        )

    one_input : (key : Key) (held : Option Life) (now : ℕ) (input : Option Input)
        → Contains all (record { moment = now; input = input }) → IsSoundLife held
        → After (stepped key held (record { moment = now; input = input }))
    one_input key held now input among sound =
        by_step After key held (record { moment = now; input = input }) (tt, tt) (sound, tt)
        (λ step row. acted_sound key held now input (context_of (role_of key) held input) step
        among (context_sound (role_of key) held now input among sound) row)

    -- ---- all inputs

    faithful_from : (key : Key) (held : Option Life) (inputs : List (Timed Input))
        → AllByRecursion (Contains all) inputs → IsSoundLife held
        → AllByRecursion (IsFaithful Says Came) (outputs_from transaction_machine key held inputs)
    faithful_from key held [] among sound = tt
    faithful_from key held (timed ∷ inputs) among sound =
        let step = step_at key held timed.moment timed.input in
        let after = subst After (sym (step_is key held timed.moment timed.input))
        (one_input key held timed.moment timed.input among.0 sound) in
        both (IsFaithful Says Came) step.1
        (outputs_from transaction_machine key step.0 inputs) after.1
        (faithful_from key step.0 inputs among.1 after.0)

    pub faithful : (key : Key)
        → AllByRecursion (IsFaithful Says Came) (outputs_from transaction_machine key None all)
    faithful key =
        faithful_from key None all (all_of (Contains all) all (λ timed among. among)) tt
