-- What calls with a handle do.
use Rattle.std.specs.Prelude.{◌≡◌, ◌⊎◌, ◌^◌, ◌+◌, ◌-◌, ℕ, Bool, ◌&&◌, false, true, List, Option, None, Some, IsSomeAnd, Result, Ok, Err, length, nat_le, replicate, if◌then◌else◌}
use Rattle.std.specs.List.{slice_get}
use Rattle.std.specs.Option.{option_map}
use Rattle.sip_clients.specs.Name.{opening_tag}
use Rattle.sip_message.specs.declared.addr.Addr.{Addr}
use Rattle.sip_message.specs.declared.id.Id.{Id}
use Rattle.sip_reader.specs.declared.first_line.FirstLine.{FirstLine}
use Rattle.sip_reader.specs.declared.untyped_line.HeaderLine.{HeaderLine}
use Rattle.sip_round.specs.NextDue.{IsDueAfter, IsQuietAfter}
use Rattle.sip_round.specs.Places.{event_at}
use Rattle.sip_round.specs.declared.config.Config.{Config}
use Rattle.sip_round.specs.declared.output.PlacedOutput.{PlacedOutput}
use Rattle.sip_round.specs.declared.round.Round.{Round}
use Rattle.sip_timers.specs.Queue.{is_due}
use Rattle.sip_host.specs.Handing.{datagram_in, head_of, length_of_line, line_text, lines_text, put_if, put_in, start_of, start_text, text_of, values_text}
use Rattle.sip_host.specs.Hosting.{Answer, Begins, BeginsAt, HasLinesAt, HasValuesAt, after_one, after_taking, last_events}
use Rattle.sip_host.specs.declared.host.Host.{Host}
use Rattle.sip_host.specs.declared.host_fault.HostFault.{HostFault}
use Rattle.sip_host.specs.declared.host_fault.HostFault.TheVariants as fault
use Rattle.sip_host.specs.declared.holdings.Holdings.{Holdings}
use Rattle.sip_host.specs.declared.line_length.LineLength.{LineLength}
use Rattle.sip_host.specs.declared.next_output.NextOutput.{NextOutput}
use Rattle.sip_host.specs.declared.request_traits.RequestTraits.{RequestTraits as HostTraits}
use Rattle.sip_host.specs.declared.start_length.StartLength.{StartLength}
use Rattle.sip_host.specs.declared.start_length.StartLength.TheVariants as start
use Rattle.sip_user.specs.declared.command.ProvisionalSupport.{ProvisionalSupport}
use Rattle.sip_user.specs.declared.command.ProvisionalSupport.TheVariants as support
use Rattle.sip_user.specs.declared.command.Reliability.{Reliability}
use Rattle.sip_user.specs.declared.command.Reliability.TheVariants as reliability
use Rattle.sip_c.specs.Status.{number_of_answer, number_of_field, room_answer}
use Rattle.sip_c.specs.declared.values.Address.{Address}
use Rattle.sip_c.specs.declared.values.Asked.{Asked}
use Rattle.sip_c.specs.declared.values.Configuration.{Configuration}
use Rattle.sip_c.specs.declared.values.Datagram.{Datagram}
use Rattle.sip_c.specs.declared.values.Due.{Due}
use Rattle.sip_c.specs.declared.values.EventId.{EventId}
use Rattle.sip_c.specs.declared.values.HeaderLengths.{HeaderLengths}
use Rattle.sip_c.specs.declared.values.RequestTraits.{RequestTraits}
use Rattle.sip_c.specs.declared.values.StartLine.{StartLine}
use Rattle.sip_c.specs.declared.values.Stats.{Stats}
use Rattle.sip_c.specs.declared.values.TextLength.{TextLength}
use Rattle.sip_c.specs.declared.values.Told.{Told}

-- ---- values of C

-- an address as C gives it
abbrev pub addr_of : Address → Addr
addr_of address = record { ip = address.ip; port = address.port }

-- the values with which an agent is started, as C gives them
abbrev pub config_of : Configuration → Config
config_of given =
    record { local = addr_of given.local; seed = given.seed; first = given.first }

-- where a send goes; zeros for a line
abbrev pub address_of : Option Addr → Address
address_of None = record { ip = replicate 4 0; port = 0 }
address_of (Some to) = record { ip = to.ip; port = to.port }

-- a send is of kind 1, a line of kind 2
abbrev pub kind_of : Option Addr → ℕ
kind_of None = 2
kind_of (Some to) = 1

-- what C is told of the next output; zeros if there is none
abbrev pub told_of : Option NextOutput → Told
told_of None = record { kind = 0; to = address_of None; place = 0; index = 0; len = 0 }
told_of (Some next) = record {
  kind = kind_of next.to;
  to = address_of next.to;
  place = next.place;
  index = next.index;
  len = next.len;
}

-- a moment; zeros if there is none
abbrev pub due_of : Option ℕ → Due
due_of None = record { is_due = false; moment = 0 }
due_of (Some moment) = record { is_due = true; moment = moment }

-- the id of an event; zeros if there is none
abbrev pub id_of : Option Id → EventId
id_of None = record { is_given = false; place = 0; round = 0 }
id_of (Some id) = record { is_given = true; place = id.place; round = id.round }

-- the use of reliable provisional responses that an INVITE asks for; what it requires, it also
-- supports (RFC 3262, section 4)
abbrev pub support_of : Bool → Bool → ProvisionalSupport
support_of supports true = support.Required
support_of true false = support.Supported
support_of false false = support.None

abbrev pub reliability_of : Bool → Reliability
reliability_of true = reliability.Reliable
reliability_of false = reliability.Plain

-- nothing was asked for, and no field is bad
abbrev pub nothing_asked : Asked
nothing_asked = record { id = id_of None; bad_field = 0 }

-- the id of a command, or the number of the field that is bad
abbrev pub asked_of : Result Id HostFault → Asked
asked_of (Ok id) = record { id = id_of (Some id); bad_field = 0 }
asked_of (Err (fault.BadField name)) = record { id = id_of None; bad_field = number_of_field name }
asked_of (Err other) = nothing_asked

-- a number in 64 bits; the highest one stands for all above it
abbrev pub shown : ℕ → ℕ
shown number = if nat_le number (2 ^ 64 - 1) then number else 2 ^ 64 - 1

-- what is held; zeros if there is no agent
abbrev pub stats_of : Option Holdings → Stats
stats_of None =
    record { transactions = 0; calls = 0; next_round = 0; events = 0; outputs = 0 }
stats_of (Some holds) = record {
  transactions = shown holds.transactions;
  calls = shown holds.calls;
  next_round = holds.next_round;
  events = holds.events;
  outputs = holds.outputs;
}

-- the source and the length of a datagram; zeros if there is none
abbrev pub datagram_of : Option (Addr × ℕ) → Datagram
datagram_of None = record { is_there = false; from = address_of None; len = 0 }
datagram_of (Some came) =
    record { is_there = true; from = address_of (Some came.0); len = came.1 }

-- the length of a text; 0 if there is none
abbrev pub length_of : Option ℕ → TextLength
length_of None = record { is_there = false; len = 0 }
length_of (Some length) = record { is_there = true; len = length }

-- the lengths of a header line; zeros if there is none
abbrev pub header_lengths_of : Option LineLength → HeaderLengths
header_lengths_of None = record { is_there = false; name_len = 0; len = 0 }
header_lengths_of (Some line) = record { is_there = true; name_len = line.name; len = line.value }

-- what a request says of itself; zeros if there is none
abbrev pub traits_given : Option HostTraits → RequestTraits
traits_given None = record {
  is_there = false;
  is_in_dialog = false;
  supports_100rel = false;
  requires_100rel = false;
}
traits_given (Some traits) = record {
  is_there = true;
  is_in_dialog = traits.is_in_dialog;
  supports_100rel = traits.supports_100rel;
  requires_100rel = traits.requires_100rel;
}

-- a request line is of kind 1, a status line of kind 2; zeros if there is none
abbrev pub start_line_of : Option StartLength → StartLine
start_line_of None = record { kind = 0; status = 0; method_len = 0; len = 0 }
start_line_of (Some (start.Request method uri)) =
    record { kind = 1; status = 0; method_len = method; len = uri }
start_line_of (Some (start.Response status reason)) =
    record { kind = 2; status = status; method_len = 0; len = reason }

-- ---- calls

-- whether an agent can begin with these
abbrev pub can_begin : Config → ℕ → Bool
can_begin config shards = nat_le 1 shards && nat_le shards 256 && nat_le config.first (2 ^ 62)

-- if an agent can begin, it is in the handle, which held none; or memory ran out
abbrev pub Makes : Bool → Option Host → ℕ → Config → ℕ → Type 0
Makes true new number config shards =
    ((number ≡ 0) × IsSomeAnd new (Begins config shards)) ⊎ ((number ≡ 10) × (new ≡ None))
Makes false new number config shards = (number ≡ 12) × (new ≡ None)

-- without an agent nothing is done; otherwise the call does to the agent what it promises for its
-- answer, and gives the number of that answer
abbrev pub Calls : Option Host → Option Host → ℕ → (Host → Host → Answer → Type 0) → Type 0
Calls None new number Does = (number ≡ 1) × (new ≡ None)
Calls (Some old) new number Does = IsSomeAnd new (λ after.
    (answer : Answer) × (number ≡ number_of_answer answer) × Does old after answer)

-- the same for a call that tells its answer in addition to the number
abbrev pub Asks : Option Host → Option Host → ℕ → Asked
    → (Host → Host → Result Id HostFault → Type 0) → Type 0
Asks None new number told Does = (number ≡ 1) × (new ≡ None) × (told ≡ nothing_asked)
Asks (Some old) new number told Does = IsSomeAnd new (λ after. (answer : Result Id HostFault)
    × (number ≡ number_of_answer answer) × (told ≡ asked_of answer) × Does old after answer)

-- the next output is told, or that there is none, and taken if its text fits; if memory ran out,
-- nothing has changed
abbrev pub Gives : Option PlacedOutput → Host → Host → ℕ → Told → List ℕ → List ℕ → Type 0
Gives None old new number told before after =
    (number ≡ 0) × (told ≡ told_of None) × (new ≡ old) × (after ≡ before)
Gives (Some placed) old new number told before after =
    ((number ≡ room_answer (length (text_of placed.output)) (length before))
    × (told ≡ told_of (Some (head_of old.taken placed)))
    × (after ≡ put_in (text_of placed.output) before)
    × (new ≡ after_taking old placed.output (length before)))
    ⊎ ((number ≡ 10) × (told ≡ told_of None) × (new ≡ old) × (after ≡ before))

-- the same with a handle, which may hold no agent
abbrev pub GivesNext : Option Host → Option Host → ℕ → Told → List ℕ → List ℕ → Type 0
GivesNext None new number told before after =
    (number ≡ 1) × (new ≡ None) × (told ≡ told_of None) × (after ≡ before)
GivesNext (Some old) new number told before after = IsSomeAnd new (λ host.
    Gives (slice_get old.outputs.items old.taken) old host number told before after)

-- the next output is taken without its text, if one is left; nothing else changes
abbrev pub Skips : Option Host → Option Host → ℕ → Type 0
Skips None new number = (number ≡ 1) × (new ≡ None)
Skips (Some old) new number = (number ≡ 0) × (new ≡ Some (after_one old))

-- before this moment a round without events gives nothing; at this moment something is due
pub record IsNextDue (config : Config) (rounds : List Round) (due : Option ℕ) : Type 0 where
  pub before : (moment : ℕ) → is_due moment due ≡ false → IsQuietAfter config rounds moment
  pub at : (moment : ℕ) → due ≡ Some moment → IsDueAfter config rounds moment

-- ---- what a datagram says

-- without an agent nothing is told about a datagram
abbrev pub TellsNothing : {T : Type 0} → ℕ → T → T → List ℕ → List ℕ → Type 0
TellsNothing number told nothing before after =
    (number ≡ 1) × (told ≡ nothing) × (after ≡ before)

-- if memory runs out, nothing is told either
abbrev pub TellsOrNot : {T : Type 0} → ℕ → T → T → List ℕ → List ℕ → Type 0 → Type 0
TellsOrNot number told nothing before after Tells =
    Tells ⊎ ((number ≡ 10) × (told ≡ nothing) × (after ≡ before))

-- the tag that the agent gives itself where the command with this id begins
abbrev pub TellsTag : Id → ℕ → ℕ → List ℕ → List ℕ → Host → Type 0
TellsTag id number told before after host =
    let tag = opening_tag host.agent.calls.seed id in
    (number ≡ room_answer told (length before)) × (told ≡ length tag)
    × (after ≡ put_in tag before)

-- the datagram at a place
abbrev pub TellsDatagram : ℕ → ℕ → Datagram → List ℕ → List ℕ → Host → Type 0
TellsDatagram place number told before after host =
    let came = datagram_in (event_at (last_events host) place) in
    (number ≡ room_answer told.len (length before))
    × (told ≡ datagram_of (option_map (λ c. (c.0, length c.1)) came))
    × (after ≡ put_if (option_map (λ c. c.1) came) before)

-- its start line
abbrev pub TellsStart : ℕ → ℕ → StartLine → List ℕ → List ℕ → Host → Type 0
TellsStart place number told before after host = (says : Option (FirstLine (List ℕ)))
    × BeginsAt host place says
    × (number ≡ room_answer (told.method_len + told.len) (length before))
    × (told ≡ start_line_of (option_map start_of says))
    × (after ≡ put_if (option_map start_text says) before)

-- the value of a header that has this index
abbrev pub TellsValue : ℕ → List ℕ → ℕ → ℕ → TextLength → List ℕ → List ℕ → Host → Type 0
TellsValue place name index number told before after host = (values : List (List ℕ))
    × HasValuesAt host place name values
    × (number ≡ room_answer told.len (length before))
    × (told ≡ length_of (option_map length (slice_get values index)))
    × (after ≡ put_if (slice_get values index) before)

-- the header line that has this index
abbrev pub TellsLine : ℕ → ℕ → ℕ → HeaderLengths → List ℕ → List ℕ → Host → Type 0
TellsLine place index number told before after host = (lines : List HeaderLine)
    × HasLinesAt host place lines
    × (number ≡ room_answer (told.name_len + told.len) (length before))
    × (told ≡ header_lengths_of (option_map length_of_line (slice_get lines index)))
    × (after ≡ put_if (option_map line_text (slice_get lines index)) before)

-- all values of a header, as one text
abbrev pub TellsValues : ℕ → List ℕ → ℕ → ℕ → List ℕ → List ℕ → Host → Type 0
TellsValues place name number told before after host = (values : List (List ℕ))
    × HasValuesAt host place name values
    × (number ≡ room_answer told (length before))
    × (told ≡ length (values_text values))
    × (after ≡ put_in (values_text values) before)

-- all header lines, as one text
abbrev pub TellsLines : ℕ → ℕ → ℕ → List ℕ → List ℕ → Host → Type 0
TellsLines place number told before after host = (lines : List HeaderLine)
    × HasLinesAt host place lines
    × (number ≡ room_answer told (length before))
    × (told ≡ length (lines_text lines))
    × (after ≡ put_in (lines_text lines) before)
