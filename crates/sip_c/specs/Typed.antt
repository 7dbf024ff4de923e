-- An output as C gets it in fields: numbers, and texts one after another.
use Rattle.std.specs.Prelude.{◌≡◌, ◌⊎◌, ℕ, List, [], ◌++◌, Option, None, Some, IsSomeAnd, length, nat_lt, if◌then◌else◌}
use Rattle.std.specs.List.{slice_get}
use Rattle.sip_grammar.specs.declared.header_name.HeaderName.{HeaderName}
use Rattle.sip_grammar.specs.declared.header_name.HeaderName.TheVariants as name
use Rattle.sip_message.specs.declared.fault.ReadFault.{ReadFault}
use Rattle.sip_message.specs.declared.fault.ReadFault.TheVariants as read
use Rattle.sip_message.specs.declared.id.Id.{Id}
use Rattle.sip_transactions.specs.declared.output.DropReason.{DropReason}
use Rattle.sip_transactions.specs.declared.output.DropReason.TheVariants.{NotOurs, NoTransaction, Unreadable}
use Rattle.sip_user.specs.declared.notice.Notice.{Notice}
use Rattle.sip_user.specs.declared.notice.Notice.TheVariants as notice
use Rattle.sip_user.specs.OwnCall.{call_of_notice}
use Rattle.sip_user.specs.Refusal as refusal
use Rattle.sip_round.specs.declared.output.Output.{Output}
use Rattle.sip_round.specs.declared.output.Output.TheVariants.{Send, Dropped, Notice as Noticed}
use Rattle.sip_round.specs.declared.output.PlacedOutput.{PlacedOutput}
use Rattle.sip_host.specs.Handing.{put_in, target_of}
use Rattle.sip_host.specs.Hosting.{after_one}
use Rattle.sip_host.specs.declared.host.Host.{Host}
use Rattle.sip_c.specs.Called.{address_of, id_of}
use Rattle.sip_c.specs.Status.{room_answer}
use Rattle.sip_c.specs.declared.typed.TypedOutput.{TypedOutput}

-- ---- numbers

abbrev pub kind_of_notice : Notice → ℕ
kind_of_notice (notice.Request call_id id method local_tag remote_tag body) = 4
kind_of_notice (notice.Response call_id id status local_tag remote_tag body) = 5
kind_of_notice (notice.Ack call_id id body) = 6
kind_of_notice (notice.Prack call_id id rseq body) = 7
kind_of_notice (notice.Timeout call_id id) = 8
kind_of_notice (notice.Failed call_id id) = 9
kind_of_notice (notice.NoAck call_id id) = 10
kind_of_notice (notice.NoPrack call_id id) = 11
kind_of_notice (notice.Cancel call_id id) = 12
kind_of_notice (notice.Ended call_id local_tag remote_tag) = 13
kind_of_notice (notice.Refused call_id place why) = 14

-- kind 2 means a line of an output file; here each output has a kind of its own
abbrev pub kind_of_output : Output → ℕ
kind_of_output (Send key to bytes) = 1
kind_of_output (Dropped place reason) = 3
kind_of_output (Noticed told) = kind_of_notice told

-- the id of the request that a notice is about
abbrev pub id_of_notice : Notice → Option Id
id_of_notice (notice.Request call_id id method local_tag remote_tag body) = Some id
id_of_notice (notice.Response call_id id status local_tag remote_tag body) = Some id
id_of_notice (notice.Ack call_id id body) = Some id
id_of_notice (notice.Prack call_id id rseq body) = Some id
id_of_notice (notice.Timeout call_id id) = Some id
id_of_notice (notice.Failed call_id id) = Some id
id_of_notice (notice.NoAck call_id id) = Some id
id_of_notice (notice.NoPrack call_id id) = Some id
id_of_notice (notice.Cancel call_id id) = Some id
id_of_notice (notice.Ended call_id local_tag remote_tag) = None
id_of_notice (notice.Refused call_id place why) = None

abbrev pub status_of_notice : Notice → ℕ
status_of_notice (notice.Response call_id id status local_tag remote_tag body) = status
status_of_notice told = 0

abbrev pub rseq_of_notice : Notice → ℕ
rseq_of_notice (notice.Prack call_id id rseq body) = rseq
rseq_of_notice told = 0

-- the place of the command that was refused
abbrev pub command_of_notice : Notice → ℕ
command_of_notice (notice.Refused call_id place why) = place
command_of_notice told = 0

abbrev pub refusal_of_notice : Notice → ℕ
refusal_of_notice (notice.Refused call_id place why) = refusal.number_of why
refusal_of_notice told = 0

-- the number of a header, in the order of the header names
abbrev pub number_of_header : HeaderName → ℕ
number_of_header name.Via = 1
number_of_header name.From = 2
number_of_header name.To = 3
number_of_header name.CallId = 4
number_of_header name.CSeq = 5
number_of_header name.MaxForwards = 6
number_of_header name.ContentLength = 7
number_of_header name.RSeq = 8
number_of_header name.RAck = 9
number_of_header name.Contact = 10
number_of_header name.RecordRoute = 11
number_of_header name.Route = 12
number_of_header name.Require = 13
number_of_header name.Supported = 14

abbrev pub number_of_fault : ReadFault → ℕ
number_of_fault read.TooLong = 3
number_of_fault read.NoEmptyLine = 4
number_of_fault read.BadStartLine = 5
number_of_fault read.BadHeader = 6
number_of_fault (read.Missing header) = 7
number_of_fault (read.Repeated header) = 8
number_of_fault read.BadNumber = 9
number_of_fault read.OldBranch = 10
number_of_fault read.MethodMismatch = 11
number_of_fault read.Truncated = 12
number_of_fault read.NoMemory = 13

abbrev pub number_of_reason : DropReason → ℕ
number_of_reason NotOurs = 1
number_of_reason NoTransaction = 2
number_of_reason (Unreadable fault) = number_of_fault fault

-- the header that is missing or repeated
abbrev pub header_of_fault : ReadFault → ℕ
header_of_fault (read.Missing header) = number_of_header header
header_of_fault (read.Repeated header) = number_of_header header
header_of_fault fault = 0

abbrev pub header_of_reason : DropReason → ℕ
header_of_reason (Unreadable fault) = header_of_fault fault
header_of_reason reason = 0

-- ---- texts

abbrev pub local_tag_of : Notice → List ℕ
local_tag_of (notice.Request call_id id method local_tag remote_tag body) = local_tag
local_tag_of (notice.Response call_id id status local_tag remote_tag body) = local_tag
local_tag_of (notice.Ended call_id local_tag remote_tag) = local_tag
local_tag_of told = []

abbrev pub remote_tag_of : Notice → List ℕ
remote_tag_of (notice.Request call_id id method local_tag remote_tag body) = remote_tag
remote_tag_of (notice.Response call_id id status local_tag remote_tag body) = remote_tag
remote_tag_of (notice.Ended call_id local_tag remote_tag) = remote_tag
remote_tag_of told = []

abbrev pub method_of : Notice → List ℕ
method_of (notice.Request call_id id method local_tag remote_tag body) = method
method_of told = []

abbrev pub body_of : Notice → List ℕ
body_of (notice.Request call_id id method local_tag remote_tag body) = body
body_of (notice.Response call_id id status local_tag remote_tag body) = body
body_of (notice.Ack call_id id body) = body
body_of (notice.Prack call_id id rseq body) = body
body_of told = []

-- the texts of a notice, one after another; for a send, its datagram
abbrev pub texts_of : Output → List ℕ
texts_of (Send key to bytes) = bytes
texts_of (Dropped place reason) = []
texts_of (Noticed told) = call_of_notice told ++ local_tag_of told ++ remote_tag_of told
    ++ method_of told ++ body_of told

-- ---- what C gets

-- all zeros
abbrev pub nothing_typed : TypedOutput
nothing_typed = record {
  kind = 0;
  to = address_of None;
  place = 0;
  index = 0;
  id = id_of None;
  status = 0;
  rseq = 0;
  command = 0;
  refusal = 0;
  reason = 0;
  header = 0;
  call_id_len = 0;
  local_tag_len = 0;
  remote_tag_len = 0;
  method_len = 0;
  body_len = 0;
}

-- the fields that an output of its kind has; all others are zero
abbrev pub fields_of : Output → TypedOutput
fields_of (Send key to bytes) = record nothing_typed { body_len = length bytes }
fields_of (Dropped place reason) = record nothing_typed {
  reason = number_of_reason reason;
  header = header_of_reason reason;
}
fields_of (Noticed told) = record nothing_typed {
  id = id_of (id_of_notice told);
  status = status_of_notice told;
  rseq = rseq_of_notice told;
  command = command_of_notice told;
  refusal = refusal_of_notice told;
  call_id_len = length (call_of_notice told);
  local_tag_len = length (local_tag_of told);
  remote_tag_len = length (remote_tag_of told);
  method_len = length (method_of told);
  body_len = length (body_of told);
}

-- the output with this index
abbrev pub typed_of : ℕ → PlacedOutput → TypedOutput
typed_of index placed = record (fields_of placed.output) {
  kind = kind_of_output placed.output;
  to = address_of (target_of placed.output);
  place = placed.place;
  index = index;
}

-- an output is taken if its texts fit into the buffer
abbrev pub after_typed : Host → Output → ℕ → Host
after_typed host output room = if nat_lt room (length (texts_of output)) then host
    else after_one host

-- the next output is told, or that there is none; it is left if its texts don't fit, and if memory
-- runs out nothing is told
abbrev pub GivesTyped : Option PlacedOutput → Host → Host → ℕ → TypedOutput → List ℕ → List ℕ
    → Type 0
GivesTyped None old new number told before after =
    (number ≡ 0) × (told ≡ nothing_typed) × (new ≡ old) × (after ≡ before)
GivesTyped (Some placed) old new number told before after =
    ((number ≡ room_answer (length (texts_of placed.output)) (length before))
    × (told ≡ typed_of old.taken placed)
    × (after ≡ put_in (texts_of placed.output) before)
    × (new ≡ after_typed old placed.output (length before)))
    ⊎ ((number ≡ 10) × (told ≡ nothing_typed) × (new ≡ old) × (after ≡ before))

-- the same with a handle, which may hold no agent
abbrev pub GivesNextTyped : Option Host → Option Host → ℕ → TypedOutput → List ℕ → List ℕ → Type 0
GivesNextTyped None new number told before after =
    (number ≡ 1) × (new ≡ None) × (told ≡ nothing_typed) × (after ≡ before)
GivesNextTyped (Some old) new number told before after = IsSomeAnd new (λ host.
    GivesTyped (slice_get old.outputs.items old.taken) old host number told before after)
