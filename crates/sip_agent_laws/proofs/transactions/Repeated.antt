-- A repeat that is due, and a retransmitted request that was answered, send what was sent last.
use Rattle.std.proofs.Common.{◌≡◌, ℕ, Bool, true, false, cond, ◌&&◌, ◌||◌, List, [], ◌∷◌, ◌++◌, refl, sym, ◌∙◌, ap, subst, ◌⊎◌, inl, inr}
use Rattle.std.specs.Prelude.{Option, None, Some, IsSome, codes, not, option_map, option_to_list}
use Rattle.std.specs.Option.{option_map_or, option_or}
use Rattle.std.proofs.lemmas.Bool.{false≢true}
use Rattle.sip_message.specs.declared.addr.Addr.{Addr}
use Rattle.sip_message.specs.declared.key.Key.{Key}
use Rattle.sip_message.specs.declared.key.Key.TheVariants as key
use Rattle.sip_message.specs.declared.message.Message.{Message}
use Rattle.sip_message.specs.Written.{written}
use Rattle.keyed_machine.specs.Machine.{Timed, outputs_from, state_from}
use Rattle.sip_transactions.specs.declared.input.Input.{Input}
use Rattle.sip_transactions.specs.declared.input.Input.TheVariants.{Failed, Abandon}
use Rattle.sip_transactions.specs.declared.life.Context.{Context}
use Rattle.sip_transactions.specs.declared.life.Life.{Life}
use Rattle.sip_transactions.specs.declared.output.Out.{Out}
use Rattle.sip_transactions.specs.declared.output.Out.TheVariants.{Send}
use Rattle.sip_transactions.specs.declared.state.Role.{Role}
use Rattle.sip_transactions.specs.declared.state.Role.TheVariants.{InviteClient, Client, InviteServer, Server}
use Rattle.sip_transactions.specs.Rows.{rows_of}
use Rattle.sip_transactions.specs.declared.state.State.{State}
use Rattle.sip_transactions.specs.declared.state.State.TheVariants.{Calling, Trying, Proceeding, Completed}
use Rattle.sip_transactions.specs.declared.step.Sent.{Sent}
use Rattle.sip_transactions.specs.declared.step.Sent.TheVariants as send
use Rattle.sip_transactions.specs.declared.step.Step.{Step}
use Rattle.sip_transactions.specs.declared.step.UpAction.{UpAction}
use Rattle.sip_transactions.specs.declared.step.UpAction.TheVariants as up
use Rattle.sip_transactions.specs.declared.trigger.Trigger.{Trigger}
use Rattle.sip_transactions.specs.declared.trigger.Trigger.TheVariants as on
use Rattle.sip_transactions.specs.Steps.Input.{arrived_in, is_same_method, message_in, role_of, trigger_of}
use Rattle.sip_transactions.specs.Steps.Life.{state_of, acted, acted_if, begun, step_machine, stepped}
use Rattle.sip_transactions.specs.Laws.{IsServer}
use Rattle.sip_transactions.specs.ServerLaws.{is_answering}
use Rattle.sip_transactions.specs.Steps.Output.{handed_out, made_bytes, made_of, outputs_of, send_out, sent_bytes, trying_of}
use Rattle.sip_transactions.proofs.AtServers.{answered_again}
use Rattle.sip_transactions.proofs.LawSteps.{RowFor, by_step}
use Rattle.sip_transactions.proofs.RowFacts.{by_test, row_passes, table_passes, and-left, and-right, not_both, or_cases}
use Rattle.sip_agent_laws.specs.Transactions.Answered.{AnsweredAsBefore}
use Rattle.sip_agent_laws.specs.Transactions.Timers.{RepeatedInTime, last_send}
use Rattle.sip_agent_laws.proofs.transactions.Inputs.{tick_trigger, HeldIn, after_row, passes, rule}
use Rattle.sip_agent_laws.proofs.transactions.Timed.{enters, entered_passes, implied, is_timed, reached, repeats}
use Rattle.sip_agent_laws.proofs.transactions.Ticks.{by_tick, is_retransmit, runs}

-- ---- what was sent last

or_none : {X : Type 0} (o : Option X) → option_or o None ≡ o
or_none None = refl
or_none (Some x) = refl

or_or : {X : Type 0} (a b c : Option X) → option_or (option_or a b) c ≡ option_or a (option_or b c)
or_or None b c = refl
or_or (Some x) b c = refl

last_send-append : (one other : List Out)
    → last_send (one ++ other) ≡ option_or (last_send other) (last_send one)
last_send-append [] other = sym (or_none (last_send other))
last_send-append (Send key to bytes ∷ outs) other =
    ap (λ o. option_or o (Some (Send key to bytes))) (last_send-append outs other)
    ∙ or_or (last_send other) (last_send outs) (Some (Send key to bytes))
last_send-append (out ∷ outs) other = last_send-append outs other

handed_none : (key : Key) (context : Context) (handed : UpAction)
    (arrived : Option (Message × Addr))
    → last_send (option_to_list (handed_out key context handed arrived)) ≡ None
unfolding handed_out
handed_none key context up.Message None = refl
handed_none key context up.Message (Some came) = refl
handed_none key context _ arrived = refl

send_last : (key : Key) (to : Addr) (bytes : Option (List ℕ))
    → last_send (option_to_list (option_map (send_out key to) bytes))
    ≡ option_map (send_out key to) bytes
send_last key to None = refl
send_last key to (Some bytes) = refl

last_send-row : (key : Key) (context : Context) (step : Step) (made : Option (List ℕ))
    (arrived : Option (Message × Addr))
    → last_send (outputs_of key context step made arrived)
    ≡ option_map (send_out key context.to) (sent_bytes context.last step.sent made)
unfolding outputs_of
last_send-row key context step made arrived =
    let bytes = sent_bytes context.last step.sent made in
    last_send-append (option_to_list (handed_out key context step.handed arrived))
    (option_to_list (option_map (send_out key context.to) bytes))
    ∙ ap (option_or (last_send (option_to_list (option_map (send_out key context.to) bytes))))
    (handed_none key context step.handed arrived) ∙ or_none _ ∙ send_last key context.to bytes

-- a context keeps the bytes of what was sent last
record Keeps (key : Key) (to : Addr) (latest : Option Out) (last : Option (List ℕ)) : Type 0 where
  bytes : List ℕ
  kept : last ≡ Some bytes
  sent : latest ≡ Some (Send key to bytes)

-- a message is made from that of the input
abbrev is_made : Sent → Bool
is_made send.Given = true
is_made send.Trying = true
is_made sent = false

-- nothing new is sent
abbrev is_old : Sent → Bool
is_old send.Nothing = true
is_old send.Latest = true
is_old sent = false

still_kept : (key : Key) (to : Addr) (latest : Option Out) (last : Option (List ℕ))
    (request message : Option Message) (sent : Sent)
    → ((is_old sent ≡ true) × Keeps key to latest last)
    ⊎ ((is_made sent ≡ true) × IsSome message)
    → let made = made_bytes request sent message in
    Keeps key to (option_or (option_map (send_out key to) (sent_bytes last sent made)) latest)
    (option_or made last)
unfolding made_of
still_kept key to latest last request None send.Nothing (inl had) = had.1
still_kept key to latest last request (Some m) send.Nothing (inl had) = had.1
still_kept key to latest last request None send.Latest (inl had) = record {
  bytes = had.1.bytes;
  kept = had.1.kept;
  sent = ap (λ l. option_or (option_map (send_out key to) l) latest) had.1.kept;
}
still_kept key to latest last request (Some m) send.Latest (inl had) = record {
  bytes = had.1.bytes;
  kept = had.1.kept;
  sent = ap (λ l. option_or (option_map (send_out key to) l) latest) had.1.kept;
}
still_kept key to latest last request (Some m) send.Given (inr given) =
    record { bytes = written m; kept = refl; sent = refl }
still_kept key to latest last request (Some m) send.Trying (inr given) =
    record { bytes = written (trying_of m); kept = refl; sent = refl }
still_kept key to latest last request None send.Given (inr given) =
    absurd (false≢true given.1)
still_kept key to latest last request None send.Trying (inr given) =
    absurd (false≢true given.1)
still_kept key to latest last request message sent (inl had) = absurd (false≢true had.0)
still_kept key to latest last request message sent (inr given) = absurd (false≢true given.0)

-- ---- what may go out again was sent

-- what was sent last may go out again: a timer repeats it, or a server answers with it
abbrev resends : Role → State → Bool
resends InviteClient Calling = true
resends Client Trying = true
resends Client Proceeding = true
resends InviteServer Proceeding = true
resends InviteServer Completed = true
resends Server Proceeding = true
resends Server Completed = true
resends role state = false

abbrev Resends : Key → Option Out → State → Context → Type 0
Resends key latest state context =
    resends (role_of key) state ≡ true → Keeps key context.to latest context.last

-- the input has a message
abbrev is_asked : Trigger → Bool
is_asked on.Start = true
is_asked on.Request = true
is_asked (on.Answer class) = true
is_asked trigger = false

asked_by : (held : Option Life) (now : ℕ) (input : Option Input) (trigger : Trigger)
    → trigger_of held now input ≡ Some trigger → is_asked trigger ≡ true
    → IsSome (message_in input)
asked_by held now None trigger is asked =
    tick_trigger (λ t. is_asked t ≡ true → IsSome (message_in None)) (λ no_end. no_end)
    (λ no_repeat. no_repeat) held now trigger is asked
asked_by held now (Some (Failed id)) trigger is asked =
    let same : on.Failed ≡ trigger = cc in absurd (false≢true (ap is_asked same ∙ asked))
asked_by held now (Some Abandon) trigger is asked = cc
asked_by held now _ trigger is asked = refl

-- a row enters such a state only from such a state, or by what it sends
abbrev sends_first : Role → Option State → Trigger → Sent → State → Bool
sends_first role state trigger sent next = not (resends role next)
    || ((option_map_or (resends role) state false && is_old sent)
    || (is_asked trigger && is_made sent))

abbrev sends_well : Role → Option State → Trigger → Step → Bool
sends_well role state trigger step =
    enters (sends_first role state trigger step.sent) state step

tables_send : (role : Role) → table_passes (sends_well role) (rows_of role) ≡ true
tables_send InviteClient = refl
tables_send _ = refl

abbrev ResendsAfter : Key → Option Out → Option Life × List Out → Type 0
ResendsAfter key latest after =
    HeldIn (Resends key (option_or (last_send after.1) latest)) after.0

row_resends : (key : Key) (latest : Option Out) (held : Option Life) (timed : Timed Input)
    (step : Step) → RowFor key held timed step → (context : Context)
    → (option_map_or (resends (role_of key)) (state_of held) false ≡ true
    → Keeps key context.to latest context.last)
    → ResendsAfter key latest (acted key timed.moment timed.input (state_of held) context step)
row_resends key latest held timed step row context had =
    let role = role_of key in
    let message = message_in timed.input in
    let made = made_bytes context.request step.sent message in
    let out = outputs_of key context step made (arrived_in timed.input) in
    after_row (Resends key (option_or (last_send out) latest)) (state_of held) context step
    timed.moment made (λ next into resending.
    subst (λ l. Keeps key context.to l (option_or made context.last))
    (sym (ap (λ o. option_or o latest)
    (last_send-row key context step made (arrived_in timed.input))))
    (still_kept key context.to latest context.last context.request message step.sent
    (elim (or_cases (option_map_or (resends role) (state_of held) false && is_old step.sent)
    (is_asked row.trigger && is_made step.sent) (implied (resends role next) _ resending
    (entered_passes (sends_first role (state_of held) row.trigger step.sent) (state_of held) next
    step (row_passes (sends_well role) (rows_of role) (tables_send role) (state_of held)
    row.trigger step row.row) into))) [
      | inl old ↦ inl (
        and-right (option_map_or (resends role) (state_of held) false) _ old,
        had (and-left _ (is_old step.sent) old),
      )
      | inr given ↦ inr (
        and-right (is_asked row.trigger) _ given,
        asked_by held timed.moment timed.input row.trigger row.triggered
            (and-left (is_asked row.trigger) _ given),
      )
    ])))

begun_resends : (key : Key) (latest : Option Out) (timed : Timed Input) (step : Step)
    → RowFor key None timed step → (context : Option Context)
    → ResendsAfter key latest (acted_if key timed.moment timed.input None context step)
begun_resends key latest timed step row None = tt
begun_resends key latest timed step row (Some context) =
    row_resends key latest None timed step row context (λ never. absurd (false≢true never))

input_resends : (key : Key) (latest : Option Out) (held : Option Life) (timed : Timed Input)
    → HeldIn (Resends key latest) held → ResendsAfter key latest (stepped key held timed)
input_resends key latest None timed had =
    by_step (ResendsAfter key latest) key None timed tt tt (λ step row.
    begun_resends key latest timed step row (begun (role_of key) timed.input))
input_resends key latest (Some life) timed had =
    by_step (ResendsAfter key latest) key (Some life) timed tt had
    (λ step row. row_resends key latest (Some life) timed step row life.context had)

all_resend : (key : Key) (latest : Option Out) (held : Option Life) (inputs : List (Timed Input))
    → HeldIn (Resends key latest) held
    → HeldIn (Resends key
    (option_or (last_send (outputs_from step_machine key held inputs)) latest))
    (state_from step_machine key held inputs)
all_resend key latest held [] had = had
all_resend key latest held (timed ∷ inputs) had =
    let after = stepped key held timed in
    let rest = outputs_from step_machine key after.0 inputs in
    subst (λ l. HeldIn (Resends key l) (state_from step_machine key after.0 inputs))
    (sym (ap (λ o. option_or o latest) (last_send-append after.1 rest)
    ∙ or_or (last_send rest) (last_send after.1) latest))
    (all_resend key (option_or (last_send after.1) latest) after.0 inputs
    (input_resends key latest held timed had))

-- after any inputs
kept_last : (key : Key) (inputs : List (Timed Input)) (life : Life)
    → state_from step_machine key None inputs ≡ Some life
    → Resends key (last_send (outputs_from step_machine key None inputs)) life.state life.context
kept_last key inputs life is =
    let latest = last_send (outputs_from step_machine key None inputs) in
    subst (HeldIn (Resends key latest)) is (subst (λ l. HeldIn (Resends key l)
    (state_from step_machine key None inputs)) (or_none latest)
    (all_resend key None None inputs tt))

-- ---- the repeat

repeats_resend : (role : Role) (state : State) → repeats role state ≡ true
    → resends role state ≡ true
repeats_resend InviteClient Calling is = refl
repeats_resend Client Trying is = refl
repeats_resend Client Proceeding is = refl
repeats_resend InviteServer Completed is = refl
repeats_resend role state is = absurd (false≢true is)

abbrev is_silent : UpAction → Bool
is_silent up.Nothing = true
is_silent handed = false

abbrev is_latest : Sent → Bool
is_latest send.Latest = true
is_latest sent = false

abbrev sends_again : Role → State → Trigger → Step → Bool
sends_again role state trigger step = not (is_retransmit trigger)
    || (not (repeats role state) || (is_silent step.handed && is_latest step.sent))

sent_again : (key : Key) (context : Context) (handed : UpAction) (sent : Sent)
    (made : Option (List ℕ)) (latest : Option Out) → (is_silent handed && is_latest sent) ≡ true
    → Keeps key context.to latest context.last
    → Some (option_to_list (handed_out key context handed None)
    ++ option_to_list (option_map (send_out key context.to) (sent_bytes context.last sent made)))
    ≡ option_map (λ out. out ∷ []) latest
unfolding handed_out
sent_again key context up.Nothing send.Latest made latest ok keeps =
    ap (λ l. Some (option_to_list (option_map (send_out key context.to) l))) keeps.kept
    ∙ sym (ap (option_map (λ out. out ∷ [])) keeps.sent)
sent_again key context up.Nothing sent made latest ok keeps = absurd (false≢true ok)
sent_again key context handed sent made latest ok keeps = absurd (false≢true ok)

again_outputs : (key : Key) (context : Context) (step : Step) (made : Option (List ℕ))
    (latest : Option Out) → (is_silent step.handed && is_latest step.sent) ≡ true
    → Keeps key context.to latest context.last
    → Some (outputs_of key context step made None) ≡ option_map (λ out. out ∷ []) latest
unfolding outputs_of
again_outputs key context step made latest ok keeps =
    sent_again key context step.handed step.sent made latest ok keeps

pub repeated_in_time : RepeatedInTime step_machine
repeated_in_time key inputs life now is due early =
    let role = role_of key in
    let repeating : repeats role life.state ≡ true =
    sym (is_timed role _ life (reached key inputs) is).repeat
    ∙ runs now life.context.timers.repeat due in
    let latest = last_send (outputs_from step_machine key None inputs) in
    by_tick (λ after. Some after.1 ≡ option_map (λ out. out ∷ []) latest) key life now
    (λ ends. absurd (not_both _ ends early))
    (λ on_time repeats_now. again_outputs key life.context (rule role life.state on.RetransmitDue) _
    latest (implied (repeats role life.state) _ repeating
    (passes sends_again refl role life.state on.RetransmitDue)) (kept_last key inputs life is
    (repeats_resend role life.state repeating)))
    (λ on_time none. absurd (not_both _ due none))

-- ---- a retransmitted request

abbrev is_server : Role → Bool
is_server InviteServer = true
is_server Server = true
is_server role = false

server_role : (k : Key) → IsServer k → is_server (role_of k) ≡ true
server_role (key.Client branch method) none = absurd none
server_role (key.Server branch sent_by method) server =
    by_test (is_same_method method (codes "INVITE"))
    (λ hit. ap (λ b. is_server (cond b InviteServer Server)) hit)
    (λ miss. ap (λ b. is_server (cond b InviteServer Server)) miss)

answering_resends : (role : Role) (state : State) → is_server role ≡ true
    → is_answering state ≡ true → resends role state ≡ true
answering_resends InviteServer Proceeding server answering = refl
answering_resends InviteServer Completed server answering = refl
answering_resends Server Proceeding server answering = refl
answering_resends Server Completed server answering = refl
answering_resends InviteClient state server answering = absurd (false≢true server)
answering_resends Client state server answering = absurd (false≢true server)
answering_resends role state server answering = absurd (false≢true answering)

pub answered_as_before : AnsweredAsBefore step_machine
answered_as_before key server inputs life is answering id message reply_to now request =
    let latest = last_send (outputs_from step_machine key None inputs) in
    let keeps = kept_last key inputs life is
    (answering_resends (role_of key) life.state (server_role key server) answering) in
    let again = answered_again key server life keeps.bytes answering keeps.kept id message reply_to
    now request in (
      ap (λ after. after.0) again,
      ap (λ (after : Option Life × List Out). Some after.1) again
          ∙ sym (ap (option_map (λ sent. sent ∷ [])) keeps.sent),
    )
