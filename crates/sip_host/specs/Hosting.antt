-- What the calls of a host do to it.
use Rattle.std.specs.Prelude.{Bool, ◌≡◌, ◌⊎◌, ◌<◌, ◌≤◌, ℕ, ◌+◌, ◌-◌, ◌==◌, false, true, IfSome, IsSomeAnd, List, [], ◌∷◌, ◌++◌, OnErr, OnOk, Option, None, Some, Result, Err, length, map, nat_lt, if◌then◌else◌}
use Rattle.std.specs.List.{slice_get}
use Rattle.std.specs.Option.{option_map}
use Rattle.sip_files.specs.EventLines.{SpellsLines}
use Rattle.sip_files.specs.Written.{SpellsEventLine}
use Rattle.sip_message.specs.Cut.{spread_shard}
use Rattle.sip_message.specs.declared.addr.Addr.{Addr}
use Rattle.sip_message.specs.declared.cut.Spread.{Spread}
use Rattle.sip_message.specs.declared.id.Id.{Id}
use Rattle.sip_message.specs.declared.message.Message.{Message}
use Rattle.sip_round.specs.AgentState.{refusal_of, shard_count}
use Rattle.sip_reader.specs.Head.{BeginsWith, HasHeaderLines, HasValues}
use Rattle.sip_reader.specs.Spells.{Spells}
use Rattle.sip_reader.specs.declared.first_line.FirstLine.{FirstLine}
use Rattle.sip_reader.specs.declared.untyped_line.HeaderLine.{HeaderLine}
use Rattle.sip_round.specs.Answers.{StandsFor, answers, past_of, placed_answers}
use Rattle.sip_round.specs.Live.{live_of}
use Rattle.sip_round.specs.NewTransactions.{would_begin}
use Rattle.sip_round.specs.Places.{datagram_at}
use Rattle.sip_round.specs.declared.config.Config.{Config}
use Rattle.sip_round.specs.declared.output.Output.{Output}
use Rattle.sip_round.specs.declared.round.Event.{Event}
use Rattle.sip_round.specs.declared.round.Event.TheVariants.{Datagram}
use Rattle.sip_round.specs.declared.round.Round.{Round}
use Rattle.sip_round.specs.declared.round_fault.RoundFault.TheVariants as round_fault
use Rattle.sip_host.specs.Handing.{sent_key, text_of, told_failure}
use Rattle.sip_host.specs.declared.holdings.Holdings.{Holdings}
use Rattle.sip_host.specs.declared.host.Host.{Host}
use Rattle.sip_host.specs.declared.host_fault.HostFault.{HostFault}
use Rattle.sip_host.specs.declared.host_fault.HostFault.TheVariants as host_fault

-- how the names of a host's agent are cut among its shards
abbrev pub shard_of : Spread → List ℕ → ℕ → ℕ
shard_of cut name shards = spread_shard name shards

-- the round of a host's events at a moment
abbrev pub round_at : ℕ → Host → Round
round_at moment host = record { moment = moment; events = host.events }

-- the events of a round, if there is one
abbrev pub events_in : Option Round → List Event
events_in None = []
events_in (Some round) = round.events

-- the events of a host's last round
abbrev pub last_events : Host → List Event
last_events host = events_in host.last_round

-- the output with this index in a host's last round
abbrev pub output_at : Host → ℕ → Option Output
output_at host index = option_map (λ placed. placed.output) (slice_get host.outputs.items index)

-- the id of the event that a host was given last, if its next round has one
abbrev pub last_id_of : Host → Option Id
last_id_of host = if length host.events == 0 then None
    else Some (record { round = host.agent.next_round; place = length host.events })

-- the host with more events for its next round
abbrev pub with_events : Host → List Event → Host
with_events host more = record host { events = host.events ++ more }

-- the output is taken if its text fits into the buffer
abbrev pub after_taking : Host → Output → ℕ → Host
after_taking host output room = if nat_lt room (length (text_of output)) then host
    else record host { taken = host.taken + 1 }

-- the next output is taken, if one is left
abbrev pub after_one : Host → Host
after_one host = if nat_lt host.taken (length host.outputs.items) then
    record host { taken = host.taken + 1 } else host

-- the output with this index is a send, and the agent is told that it failed
abbrev pub Reports : ℕ → Host → Host → Type 0
Reports output old new = IsSomeAnd (sent_key (output_at old output))
    (λ key. new ≡ with_events old (told_failure key))

-- Whatever rounds the agent stood for, it now stands for one more: that of the host's events at
-- this moment. The outputs are the answer to that round after them, each with its place. The
-- round is kept, no event is left, no output is taken, and the next command has the same
-- headers.
pub record IsAnswered (moment : ℕ) (old new : Host) : Type 0 where
  pub stands : (config : Config) (rounds : List Round)
      → StandsFor shard_of old.agent config rounds
      → StandsFor shard_of new.agent config (rounds ++ round_at moment old ∷ [])
  pub answered : (config : Config) (rounds : List Round)
      → StandsFor shard_of old.agent config rounds
      → placed_answers config (rounds ++ round_at moment old ∷ [])
      ≡ placed_answers config rounds ++ new.outputs.items ∷ []
  pub alone : (config : Config) (rounds : List Round)
      → StandsFor shard_of old.agent config rounds
      → answers config (rounds ++ round_at moment old ∷ [])
      ≡ answers config rounds ++ map (λ placed. placed.output) new.outputs.items ∷ []
  pub kept : new.last_round ≡ Some (round_at moment old)
  pub no_events : new.events ≡ []
  pub none_taken : new.taken ≡ 0
  pub headers : new.headers ≡ old.headers

-- ---- what each call does, by its answer

-- the answer of a call that gives nothing but its success
abbrev pub Answer : Type 0
Answer = Result (Unit {0}) HostFault

-- a host before its first round, whose agent has this number of shards
pub record Begins (config : Config) (shards : ℕ) (host : Host) : Type 0 where
  pub stands : StandsFor shard_of host.agent config []
  pub count : shard_count host.agent ≡ shards
  pub no_headers : host.headers ≡ []
  pub no_events : host.events ≡ []
  pub no_last_round : host.last_round ≡ None
  pub no_outputs : host.outputs.items ≡ []
  pub none_taken : host.taken ≡ 0

-- a datagram is an event of the next round; a fault changes nothing
pub record TakesDatagram (from : Addr) (bytes : List ℕ) (old new : Host) (answer : Answer) :
    Type 0 where
  pub added : OnOk answer (new ≡ with_events old (Datagram from bytes ∷ []))
  pub same : OnErr answer (new ≡ old)
  pub full : 65536 ≤ length old.events → answer ≡ Err host_fault.TooManyEvents
  pub fault : length old.events < 65536 → OnErr answer (answer ≡ Err host_fault.NoMemory)

-- an event said as a text is one too; a text that says no event is bad
pub record TakesSaid (Says : Event → Type 0) (old new : Host) (answer : Answer) : Type 0 where
  pub added : OnOk answer ((event : Event) × Says event × (new ≡ with_events old (event ∷ [])))
  pub same : OnErr answer (new ≡ old)
  pub full : 65536 ≤ length old.events → answer ≡ Err host_fault.TooManyEvents
  pub fault : length old.events < 65536
      → OnErr answer ((answer ≡ Err host_fault.BadLine) ⊎ (answer ≡ Err host_fault.NoMemory))
  pub bad : answer ≡ Err host_fault.BadLine → (event : Event) → ¬ (Says event)

-- the text is a line of an event file
abbrev pub TakesLine : List ℕ → Host → Host → Answer → Type 0
TakesLine line old new answer = TakesSaid (SpellsEventLine line) old new answer

-- the text is lines of a session file
abbrev pub TakesLines : List ℕ → Host → Host → Answer → Type 0
TakesLines lines old new answer = TakesSaid (SpellsLines lines) old new answer

-- so is the failure of the send with this index, if the send belongs to a transaction
pub record TakesFailure (output : ℕ) (old new : Host) (answer : Answer) : Type 0 where
  pub no_send :
      sent_key (output_at old output) ≡ None → answer ≡ Err host_fault.NoSend
  pub told : OnOk answer (Reports output old new)
  pub same : OnErr answer (new ≡ old)
  pub fault : IfSome (sent_key (output_at old output))
      (λ key. OnErr answer ((answer ≡ Err host_fault.NoMemory)
      ⊎ ((answer ≡ Err host_fault.TooManyEvents) × (65536 ≤ length old.events))))

-- One round is run with the events, at a moment. A fault changes nothing; but if memory ran out in
-- the middle of its round, the agent holds nothing from then on.
pub record RunsRound (moment : ℕ) (old new : Host) (answer : Answer) : Type 0 where
  pub left : old.taken < length old.outputs.items
      → (answer ≡ Err host_fault.OutputsLeft) × (new ≡ old)
  pub refused : length old.outputs.items ≤ old.taken
      → IfSome (refusal_of old.agent (round_at moment old))
      (λ why. (answer ≡ Err (host_fault.Round why)) × (new ≡ old))
  pub memory : length old.outputs.items ≤ old.taken
      → refusal_of old.agent (round_at moment old) ≡ None
      → OnErr answer ((answer ≡ Err (host_fault.Round (round_fault.NoMemory false)))
      ⊎ (answer ≡ Err (host_fault.Round (round_fault.NoMemory true))))
  pub same : OnErr answer (¬ (answer ≡ Err (host_fault.Round (round_fault.NoMemory true)))
      → new ≡ old)
  pub broken : answer ≡ Err (host_fault.Round (round_fault.NoMemory true)) → new.agent.shards ≡ None
  pub answers : OnOk answer (IsAnswered moment old new)

-- ---- what a host holds

-- how many transactions, and how many calls
abbrev pub live_in : Holdings → ℕ × ℕ
live_in holds = (holds.transactions, holds.calls)

-- it holds what has begun in its rounds and hasn't ended (RFC 3261, sections 12 and 17); the events
-- of the next round wait
pub record HoldsSo (host : Host) (holds : Holdings) : Type 0 where
  pub broken : host.agent.shards ≡ None → live_in holds ≡ (0, 0)
  pub live : (config : Config) (rounds : List Round) → StandsFor shard_of host.agent config rounds
      → live_in holds ≡ live_of config (past_of config rounds)
  pub next_round : holds.next_round ≡ host.agent.next_round
  pub events : holds.events ≡ length host.events
  pub outputs : holds.outputs ≡ length host.outputs.items - host.taken

-- ---- what the datagram at a place says

-- what its start line says; none if no datagram came in there
pub record BeginsAt (host : Host) (place : ℕ) (says : Option (FirstLine (List ℕ))) : Type 0 where
  pub of_datagram : IfSome (datagram_at (last_events host) place) (BeginsWith says)
  pub none : datagram_at (last_events host) place ≡ None → says ≡ None

-- the values of a header
pub record HasValuesAt (host : Host) (place : ℕ) (name : List ℕ) (values : List (List ℕ)) :
    Type 0 where
  pub of_datagram : IfSome (datagram_at (last_events host) place) (HasValues name values)
  pub none : datagram_at (last_events host) place ≡ None → values ≡ []

-- all header lines
pub record HasLinesAt (host : Host) (place : ℕ) (lines : List HeaderLine) : Type 0 where
  pub of_datagram : IfSome (datagram_at (last_events host) place) (HasHeaderLines lines)
  pub none : datagram_at (last_events host) place ≡ None → lines ≡ []

-- ---- what a datagram would do

-- whether it would begin a transaction; one that spells no message wouldn't
pub record TellsIfItBegins (bytes : List ℕ) (host : Host) (begins : Bool) : Type 0 where
  pub message : begins ≡ true → (message : Message) × Spells message bytes
  pub told : (message : Message) → Spells message bytes → (config : Config) (rounds : List Round)
      → StandsFor shard_of host.agent config rounds → begins ≡ would_begin config rounds message
  pub broken : host.agent.shards ≡ None → begins ≡ false
