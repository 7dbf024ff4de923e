-- Messages come unchanged in a carried conversation.
use Rattle.std.proofs.Common.{◌≡◌, ℕ, Bool, true, false, List, [], ◌∷◌, ◌++◌, refl, sym, ap, subst, append-nil, append_assoc, ◌<◌, ◌⊎◌, length}
use Rattle.std.specs.Prelude.{Contains, IfSome, Ok, Option, None, Some, if◌then◌else◌}
use Rattle.std.specs.List.{AllByRecursion}
use Rattle.sip_message.specs.declared.addr.Addr.{Addr}
use Rattle.sip_message.specs.declared.id.Id.{Id}
use Rattle.sip_message.specs.declared.key.Key.{Key}
use Rattle.sip_message.specs.declared.message.Message.{Message}
use Rattle.sip_message.specs.Key.{key_cmp}
use Rattle.sip_message.specs.Message.{is_request_message}
use Rattle.sip_message.specs.Rules.{IsMessage}
use Rattle.sip_message.specs.Source.{stamped}
use Rattle.sip_message.specs.Written.{written}
use Rattle.keyed_machine.specs.Laws.{EachKeyAlone}
use Rattle.keyed_machine.specs.Machine.{given_at, outputs_from, tick_at}
use Rattle.sip_reader.specs.ReadMessage.{message_at}
use Rattle.sip_transactions.specs.declared.input.Command.{Command}
use Rattle.sip_transactions.specs.declared.input.Command.TheVariants as command
use Rattle.sip_transactions.specs.declared.input.Input.{Input}
use Rattle.sip_transactions.specs.declared.input.Input.TheVariants as input
use Rattle.sip_transactions.specs.declared.output.UpKind.{UpKind}
use Rattle.sip_transactions.specs.declared.output.UpKind.TheVariants as kind
use Rattle.sip_transactions.specs.declared.output.Out.{Out}
use Rattle.sip_transactions.specs.declared.output.Out.TheVariants as out
use Rattle.sip_transactions.specs.declared.output.Up.{Up as AnUp}
use Rattle.sip_transactions.specs.Machine.{transaction_machine}
use Rattle.sip_transactions.specs.Shard.{asked_by, command_key}
use Rattle.sip_user.specs.declared.item.Item.TheVariants.{Up}
use Rattle.sip_user.specs.declared.item.CallOut.{CallOut}
use Rattle.sip_user.specs.declared.item.CallOut.TheVariants as call_out
use Rattle.sip_round.specs.declared.config.Config.{Config}
use Rattle.sip_round.specs.declared.output.Output.TheVariants.{Send}
use Rattle.sip_round.specs.declared.round.Event.{Event}
use Rattle.sip_round.specs.declared.round.Event.TheVariants as event
use Rattle.sip_round.specs.declared.round.Round.{Round}
use Rattle.sip_round.specs.Answers.{answers, no_past, past_of}
use Rattle.sip_round.specs.Given.{all_given}
use Rattle.sip_round.specs.Arrivals.{arrival_of}
use Rattle.sip_round.specs.Laws.{call_inputs_of, inputs_of, said_of}
use Rattle.sip_round.proofs.Said.{transaction_alone}
use Rattle.sip_message.specs.Addr.{IsAddr}
use Rattle.sip_conversation.specs.Conversation.{Carried, CarriedAfter, IsCarried, Side, Turn, WasSent, given_by, peer, rounds_of}
use Rattle.sip_conversation.specs.Datagrams.{IsTextSaid}
use Rattle.sip_conversation.specs.Messages.{CallSays, CallsKeepRules, ComesUnchanged, ComesUp, IsGiven, IsSaid, KeepsRules, come_from, message_up}
use Rattle.sip_conversation.specs.Messages.IsSaid.{Acknowledges, Asked, Direct, Trying}
use Rattle.sip_conversation.proofs.Among.{all_go, all_of, each_of}
use Rattle.sip_conversation.proofs.Bridge.{answered_to, read_or_long, text_fits}
use Rattle.sip_conversation.proofs.Carrying.{TurnHolds, all_carried, each_turn, in_rounds}
use Rattle.sip_conversation.proofs.Fronts.{front_keeps}
use Rattle.sip_conversation.proofs.OneTransaction.{AreSaid, IsFaithful, IsTextOf, KindCame, faithful}
use Rattle.sip_conversation.proofs.Rounds.{ArrivalFits, OutFits, RoundFits, TimedFits, call_says, calls_give, inputs_fit}
use Rattle.sip_conversation.proofs.Rules.{ack_keeps, stamped_keeps, trying_keeps}
use Rattle.sip_conversation.proofs.Sends.{SendFits, direct_sends_fit, own_sends_fit}
use Rattle.sip_conversation.proofs.Ups.{OutCame, TimedCame, UpCame, inputs_came}
use Rattle.sip_held_dialogs.proofs.Each.{both}

pub come_keeps : (source : Addr) → IsAddr source → (message : Message) → IsMessage message
    → IsMessage (come_from source message)
come_keeps source address message rules = by (is_request_message message)
  where
    by : (request : Bool) → IsMessage (if request then stamped message source else message)
    by true = stamped_keeps source address message rules
    by false = rules

module _ (alone : EachKeyAlone key_cmp transaction_machine tick_at) where
  -- ---- one agent, to which only messages that keep the rules come

  module _ (config : Config) (rounds : List Round) where
    -- it said the message, which keeps the rules
    abbrev pub Says : Message → Type 0
    Says message = IsMessage message × IsSaid config rounds message

    -- it said what it is asked to send, and what comes keeps the rules
    abbrev pub IsSoundInput : Key → Input → Type 0
    IsSoundInput key (input.Receive id message reply_to) = IsMessage message
    IsSoundInput key (input.Start id call_id message to) = Says message
    IsSoundInput key (input.Answer id message) = Says message
    IsSoundInput key (input.Failed id) = Unit {0}
    IsSoundInput key input.Abandon = Unit {0}

    -- its calls say this, and by the rules
    abbrev IsSoundOut : CallOut → Type 0
    IsSoundOut out = CallSays config rounds out × KeepsRules out

    abbrev KeepAll : Type 0
    KeepAll = (out : CallOut) → CallSays config rounds out → KeepsRules out

    sound_command : (id : Id) (c : Command) → IsSoundOut (call_out.Command id c)
        → IsSoundInput (command_key c) (asked_by id c)
    sound_command id (command.Start key call_id message to) sound =
        (sound.1, Asked id (command.Start key call_id message to) sound.0 refl)
    sound_command id (command.Answer key message) sound =
        (sound.1, Asked id (command.Answer key message) sound.0 refl)
    sound_command id (command.Abandon key) sound = tt

    out_fits : (out : CallOut) → IsSoundOut out → OutFits config IsSoundInput out
    out_fits (call_out.Notice notice) sound = tt
    out_fits (call_out.Command id c) sound = sound_command id c sound
    out_fits (call_out.Direct to bytes) sound = tt

    module _ (keep : KeepAll) (fit : AllByRecursion (RoundFits config IsSoundInput) rounds) where
      sound_out : (out : CallOut) → Contains (calls_give config config.first no_past rounds) out
          → IsSoundOut out
      sound_out out among = let says = call_says config rounds out among in (says, keep out says)

      sound_input : (key : Key) (now : ℕ) (i : Input)
          → Contains (inputs_of config rounds key) (given_at now i) → IsSoundInput key i
      sound_input key now i among =
          each_of (TimedFits config IsSoundInput key) (inputs_of config rounds key)
          (given_at now i)
          (inputs_fit config IsSoundInput key rounds fit
          (all_of (OutFits config IsSoundInput) (calls_give config config.first no_past rounds)
          (λ out has. out_fits out (sound_out out has)))) among

      said : (key : Key) → AreSaid (inputs_of config rounds key) Says IsMessage
      said key = record {
        started = λ now id call_id message to among.
            sound_input key now (input.Start id call_id message to) among;
        answered = λ now id message among. sound_input key now (input.Answer id message) among;
        tried = λ now id request reply_to among is. (
          trying_keeps request
              (sound_input key now (input.Receive id request reply_to) among),
          Trying key id request reply_to (now, among) is refl,
        );
        acknowledged = λ now later id answered call_id invite response to reply_to among came
            failure. (
              ack_keeps invite response
                  (sound_input key now (input.Start id call_id invite to) among).0
                  (sound_input key later (input.Receive answered response reply_to) came),
              Acknowledges key id answered call_id invite response to reply_to (now, among)
                  (later, came) failure refl,
            );
        came = λ now id message reply_to among.
            sound_input key now (input.Receive id message reply_to) among;
      }

      -- what a transaction says
      pub says_faithfully : (key : Key)
          → AllByRecursion (IsFaithful Says IsMessage) (said_of config rounds key)
      says_faithfully key =
          subst (AllByRecursion (IsFaithful Says IsMessage))
          (sym (transaction_alone alone [] (past_of config rounds).transactions key))
          (faithful (inputs_of config rounds key) Says IsMessage (said key) key)

      text_of : (o : Out) → IsFaithful Says IsMessage o → SendFits config rounds (IsTextOf Says) o
      text_of (out.Up up) faithful = tt
      text_of (out.Send key to bytes) faithful = faithful
      text_of (out.Dropped place why) faithful = tt

      -- each Send is the text of a message that it said and that keeps the rules
      pub text_sent : (key : Option Key) (to : Addr) (bytes : List ℕ)
          → Contains (all_given (answers config rounds)) (Send key to bytes)
          → IsTextOf Says bytes
      text_sent (Some key) to bytes among =
          own_sends_fit config rounds (IsTextOf Says)
          (λ k. all_go {P = IsFaithful Says IsMessage} {Q = SendFits config rounds (IsTextOf Says)}
          text_of (said_of config rounds k) (says_faithfully k)) key to bytes among
      text_sent None to bytes among =
          let sound = direct_sends_fit IsSoundOut config rounds
          (all_of IsSoundOut (calls_give config config.first no_past rounds) sound_out) to bytes
          among in (
            (sound.1).0,
            (sound.1).1,
            (
              (sound.1).2,
              Direct to (subst (λ text. CallSays config rounds (call_out.Direct to text))
                  (sound.1).1 sound.0),
            ),
          )

  -- ---- both sides

  module _ (configs : Side → Config) (addresses : (s : Side) → IsAddr (configs s).local) where
    -- a datagram from the other side is the text of a message that keeps the rules
    abbrev pub IsFine : Side → Event → Type 0
    IsFine s (event.Datagram from bytes) = (from ≡ (configs (peer s)).local)
        × (message : Message) × (bytes ≡ written message) × IsMessage message
    IsFine s (event.Failed key) = Unit {0}
    IsFine s (event.Command c) = Unit {0}

    abbrev pub AreFine : List Turn → Type 0
    AreFine turns = AllByRecursion (TurnHolds IsFine) turns

    -- what arrives with it is sound
    abbrev ArrivesSound : List Turn → Side → Event → Type 0
    ArrivesSound turns s e = (id : Id) → ArrivalFits (configs s)
        (IsSoundInput (configs s) (rounds_of s turns)) (arrival_of (configs s).local id e)

    fine_sound : (turns : List Turn) (s : Side) (e : Event) → IsFine s e → ArrivesSound turns s e
    unfolding arrival_of
    fine_sound turns s (event.Datagram from bytes) fine id =
        text_fits (configs s) (IsSoundInput (configs s) (rounds_of s turns)) id from fine.1 bytes
        fine.2 fine.3
        (λ short. come_keeps from (subst IsAddr (sym fine.0) (addresses (peer s))) fine.1
        fine.3)
    fine_sound turns s (event.Failed key) fine id = tt
    fine_sound turns s (event.Command c) fine id = tt

    -- each Send is the text of a message that its side said
    texts : (turns : List Turn) → AreFine turns → CallsKeepRules configs turns
        → (s : Side) (key : Option Key) (to : Addr) (bytes : List ℕ)
        → Contains (given_by configs turns s) (Send key to bytes)
        → IsTextOf (Says (configs s) (rounds_of s turns)) bytes
    texts turns fine keep s key to bytes among =
        text_sent (configs s) (rounds_of s turns) (keep s)
        (in_rounds (ArrivesSound turns) s turns
        (each_turn {P = IsFine} {Q = ArrivesSound turns} (fine_sound turns) turns fine))
        key to bytes among

    pub carried_fine : (turns : List Turn) → AreFine turns → CallsKeepRules configs turns
        → (s : Side) (e : Event) → IsCarried configs turns s e → IsFine s e
    carried_fine turns fine keep s (event.Datagram from bytes) carried =
        let text = texts turns fine keep (peer s) (carried.1).0 (carried.1).1 bytes
        (carried.1).2 in
        (carried.0, text.0, text.1, (text.2).0)
    carried_fine turns fine keep s (event.Failed key) carried = tt
    carried_fine turns fine keep s (event.Command c) carried = tt

    pub fine_after : (before turns : List Turn) → AreFine before → CarriedAfter configs before turns
        → CallsKeepRules configs (before ++ turns) → AreFine (before ++ turns)
    fine_after before [] fine carried keep = subst AreFine (sym (append-nil before)) fine
    fine_after before (turn ∷ turns) fine carried keep =
        let same = append_assoc before (turn ∷ []) turns in
        let here = all_go {P = IsCarried configs before turn.side} {Q = IsFine turn.side}
        (carried_fine before fine (front_keeps configs before (turn ∷ turns) keep) turn.side)
        (turn.round).events carried.0 in
        subst AreFine same
        (fine_after (before ++ turn ∷ []) turns
        (both (TurnHolds IsFine) before (turn ∷ []) fine (here, tt)) carried.1
        (subst (CallsKeepRules configs) (sym same) keep))

    -- ---- what comes

    -- a message comes unchanged, and the answer to it goes to the address from which it came, or
    -- that its Via names
    pub record ComesBack (turns : List Turn) (s : Side) (message : Message) (reply_to : Addr)
        : Type 0 where
      pub comes : ComesUnchanged configs turns s message
      pub back : reply_to ≡ answered_to (configs (peer s)).local comes.original

    abbrev IsUnchanged : List Turn → Side → Key → Input → Type 0
    IsUnchanged turns s key (input.Receive id message reply_to) =
        ComesBack turns s message reply_to
    IsUnchanged turns s key (input.Start id call_id message to) = Unit {0}
    IsUnchanged turns s key (input.Answer id message) = Unit {0}
    IsUnchanged turns s key (input.Failed id) = Unit {0}
    IsUnchanged turns s key input.Abandon = Unit {0}

    abbrev ArrivesUnchanged : List Turn → Side → Event → Type 0
    ArrivesUnchanged turns s e = (id : Id) → ArrivalFits (configs s) (IsUnchanged turns s)
        (arrival_of (configs s).local id e)

    carried_unchanged : (turns : List Turn) → AreFine turns → CallsKeepRules configs turns
        → (s : Side) (e : Event) → IsCarried configs turns s e → ArrivesUnchanged turns s e
    unfolding arrival_of
    carried_unchanged turns fine keep s (event.Datagram from bytes) carried id =
        let text = texts turns fine keep (peer s) (carried.1).0 (carried.1).1 bytes
        (carried.1).2 in
        text_fits (configs s) (IsUnchanged turns s) id from text.0 bytes text.1 (text.2).0
        (λ short. record {
          comes = record {
            original = text.0;
            said = (text.2).1;
            sent = subst (WasSent configs turns s) text.1 carried.1;
            rules = (text.2).0;
            short = short;
            same = ap (λ source. come_from source text.0) carried.0;
          };
          back = ap (λ source. answered_to source text.0) carried.0;
        })
    carried_unchanged turns fine keep s (event.Failed key) carried id = tt
    carried_unchanged turns fine keep s (event.Command c) carried id = tt

    command_unchanged : (turns : List Turn) (s : Side) (id : Id) (c : Command)
        → IsUnchanged turns s (command_key c) (asked_by id c)
    command_unchanged turns s id (command.Start key call_id message to) = tt
    command_unchanged turns s id (command.Answer key message) = tt
    command_unchanged turns s id (command.Abandon key) = tt

    out_unchanged : (turns : List Turn) (s : Side) (out : CallOut)
        → OutFits (configs s) (IsUnchanged turns s) out
    out_unchanged turns s (call_out.Notice notice) = tt
    out_unchanged turns s (call_out.Command id c) = command_unchanged turns s id c
    out_unchanged turns s (call_out.Direct to bytes) = tt

    pub messages_back : (turns : List Turn) → Carried configs turns
        → CallsKeepRules configs turns
        → (s : Side) (key : Key) (id : Id) (message : Message) (reply_to : Addr)
        → IsGiven (configs s) (rounds_of s turns) key (input.Receive id message reply_to)
        → ComesBack turns s message reply_to
    messages_back turns carried keep s key id message reply_to given =
        let fine = fine_after [] turns tt carried keep in
        let rounds = rounds_of s turns in
        each_of (TimedFits (configs s) (IsUnchanged turns s) key)
        (inputs_of (configs s) rounds key)
        (given_at given.0 (input.Receive id message reply_to))
        (inputs_fit (configs s) (IsUnchanged turns s) key rounds
        (in_rounds (ArrivesUnchanged turns) s turns
        (each_turn {P = IsCarried configs turns} {Q = ArrivesUnchanged turns}
        (carried_unchanged turns fine keep) turns (all_carried configs [] turns carried)))
        (all_of (OutFits (configs s) (IsUnchanged turns s))
        (calls_give (configs s) (configs s).first no_past rounds)
        (λ out among. out_unchanged turns s out))) given.1

    pub messages_unchanged : (turns : List Turn) → Carried configs turns
        → CallsKeepRules configs turns
        → (s : Side) (key : Key) (id : Id) (message : Message) (reply_to : Addr)
        → IsGiven (configs s) (rounds_of s turns) key (input.Receive id message reply_to)
        → ComesUnchanged configs turns s message
    messages_unchanged turns carried keep s key id message reply_to given =
        (messages_back turns carried keep s key id message reply_to given).comes

    -- what a side is asked to send, and what comes to it and is sent on, keeps the rules
    pub what_is_said : (turns : List Turn) → Carried configs turns → CallsKeepRules configs turns
        → (s : Side) (key : Key)
        → AreSaid (inputs_of (configs s) (rounds_of s turns) key)
        (Says (configs s) (rounds_of s turns)) IsMessage
    what_is_said turns carried keep s key =
        said (configs s) (rounds_of s turns) (keep s)
        (in_rounds (ArrivesSound turns) s turns
        (each_turn {P = IsFine} {Q = ArrivesSound turns} (fine_sound turns) turns
        (fine_after [] turns tt carried keep))) key

    -- ---- datagrams

    abbrev IsSaidText : List Turn → Side → Event → Type 0
    IsSaidText turns s (event.Datagram from bytes) = IsTextSaid configs turns s bytes
    IsSaidText turns s (event.Failed key) = Unit {0}
    IsSaidText turns s (event.Command c) = Unit {0}

    carried_text : (turns : List Turn) → AreFine turns → CallsKeepRules configs turns → (s : Side)
        (e : Event) → IsCarried configs turns s e → IsSaidText turns s e
    carried_text turns fine keep s (event.Datagram from bytes) carried =
        let text = texts turns fine keep (peer s) (carried.1).0 (carried.1).1 bytes
        (carried.1).2 in
        record {
          original = text.0;
          said = (text.2).1;
          text = text.1;
          read = subst (λ b. (message_at b ≡ Ok text.0) ⊎ (65535 < length b)) (sym text.1)
              (read_or_long text.0 (text.2).0);
        }
    carried_text turns fine keep s (event.Failed key) carried = tt
    carried_text turns fine keep s (event.Command c) carried = tt

    pub datagrams_said : (turns : List Turn) → Carried configs turns → CallsKeepRules configs turns
        → (s : Side) (round : Round) → Contains (rounds_of s turns) round → (from : Addr)
        (bytes : List ℕ) → Contains round.events (event.Datagram from bytes)
        → IsTextSaid configs turns s bytes
    datagrams_said turns carried keep s round among from bytes has =
        let fine = fine_after [] turns tt carried keep in
        each_of (IsSaidText turns s) round.events (event.Datagram from bytes)
        (each_of (λ r. AllByRecursion (IsSaidText turns s) r.events) (rounds_of s turns) round
        (in_rounds (IsSaidText turns) s turns
        (each_turn {P = IsCarried configs turns} {Q = IsSaidText turns}
        (carried_text turns fine keep) turns (all_carried configs [] turns carried))) among) has

    -- ---- what comes up to calls

    abbrev Any : Message → Type 0
    Any message = Unit {0}

    out_came : (turns : List Turn) (s : Side) (o : Out)
        → IsFaithful Any (ComesUnchanged configs turns s) o
        → OutCame (UpCame (ComesUnchanged configs turns s)) o
    out_came turns s (out.Up up) faithful = faithful
    out_came turns s (out.Send key to bytes) faithful = tt
    out_came turns s (out.Dropped place why) faithful = tt

    -- what comes up from a transaction
    pub ups_unchanged : (turns : List Turn) → Carried configs turns → CallsKeepRules configs turns
        → (s : Side) (key : Key)
        → AllByRecursion (OutCame (UpCame (ComesUnchanged configs turns s)))
        (said_of (configs s) (rounds_of s turns) key)
    ups_unchanged turns carried keep s key =
        let rounds = rounds_of s turns in
        let Came : Message → Type 0 = ComesUnchanged configs turns s in
        subst (AllByRecursion (OutCame (UpCame Came)))
        (sym (transaction_alone alone [] (past_of (configs s) rounds).transactions key))
        (all_go {P = IsFaithful Any Came} {Q = OutCame (UpCame Came)} (out_came turns s)
        (outputs_from transaction_machine key None (inputs_of (configs s) rounds key))
        (faithful (inputs_of (configs s) rounds key) Any Came (record {
          started = λ now id call_id message to among. tt;
          answered = λ now id message among. tt;
          tried = λ now id request reply_to among is. tt;
          acknowledged = λ now later id answered call_id invite response to reply_to among
              came failure. tt;
          came = λ now id message reply_to among.
              messages_unchanged turns carried keep s key id message reply_to (now, among);
        }) key))

    pub inputs_unchanged : (turns : List Turn) → Carried configs turns
        → CallsKeepRules configs turns → (s : Side) (call_id : List ℕ)
        → AllByRecursion (TimedCame (UpCame (ComesUnchanged configs turns s)))
        (call_inputs_of (configs s) (rounds_of s turns) call_id)
    inputs_unchanged turns carried keep s call_id =
        inputs_came (UpCame (ComesUnchanged configs turns s)) (configs s) (rounds_of s turns)
        (ups_unchanged turns carried keep s) call_id

    kind_unchanged : (turns : List Turn) (s : Side) (k : UpKind)
        → KindCame (ComesUnchanged configs turns s) k
        → IfSome (message_up k) (ComesUnchanged configs turns s)
    kind_unchanged turns s (kind.Request message reply_to) came = came.0
    kind_unchanged turns s (kind.Ack message) came = came
    kind_unchanged turns s (kind.Response message) came = came
    kind_unchanged turns s kind.Timeout came = tt
    kind_unchanged turns s kind.Failed came = tt

    pub calls_hear : (turns : List Turn) → Carried configs turns → CallsKeepRules configs turns
        → (s : Side) (call_id : List ℕ) (up : AnUp)
        → ComesUp (configs s) (rounds_of s turns) call_id up
        → IfSome (message_up up.kind) (ComesUnchanged configs turns s)
    calls_hear turns carried keep s call_id up comes =
        kind_unchanged turns s up.kind
        (each_of (TimedCame (UpCame (ComesUnchanged configs turns s)))
        (call_inputs_of (configs s) (rounds_of s turns) call_id)
        (given_at comes.0 (comes.1, Up up))
        (inputs_unchanged turns carried keep s call_id) comes.2)
