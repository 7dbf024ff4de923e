-- Which datagrams an agent doesn't take: requests that are too large, and, where it holds much, more
-- of them.
use Rattle.std.specs.Prelude.{ℕ, is_some, ◌+◌, ◌-◌, ◌*◌, ◌/◌, ◌%◌, ◌^◌, min, nat_lt, Bool, true, false, not, ◌&&◌, ◌||◌, List, codes, length, Option, None, Some, Result, Ok, Err, ◌==◌, if◌then◌else◌}
use Rattle.std.specs.Str.{bytes_eq}
use Rattle.sip_message.specs.Cut.{spread_shard}
use Rattle.sip_message.specs.Party.{tag_of}
use Rattle.sip_message.specs.declared.cut.Spread.{Spread}
use Rattle.sip_message.specs.declared.fault.ReadFault.{ReadFault}
use Rattle.sip_message.specs.declared.message.Message.{Message}
use Rattle.sip_reader.specs.ReadMessage.{message_at}
use Rattle.sip_round.specs.NewTransactions.{would_begin}
use Rattle.sip_round.specs.declared.config.Config.{Config}
use Rattle.sip_round.specs.declared.round.Event.{Event}
use Rattle.sip_round.specs.declared.round.Event.TheVariants.{Command, Datagram, Failed}
use Rattle.sip_round.specs.declared.round.Round.{Round}
use Rattle.sip_udp.specs.declared.admission.Load.{Load}
use Rattle.sip_udp.specs.declared.admission.Load.TheVariants as load
use Rattle.sip_udp.specs.declared.admission.RequestLimits.{RequestLimits}
use Rattle.sip_udp.specs.declared.admission.TheConstants.{USUAL_LENGTH}

-- how the names of the agent are cut among its shards
abbrev pub shard_of : Spread → List ℕ → ℕ → ℕ
shard_of cut name shards = spread_shard name shards

-- the load of so many transactions that are held, where so many are wanted at most
abbrev pub load_of : Option ℕ → ℕ → Load
load_of None held = load.Low
load_of (Some most) held = if nat_lt held most then load.Low
    else if nat_lt held (2 * most) then load.High else load.Full

-- a request may be of a call that stands: it is in a dialog, since its To has a tag (12.2.2), or it
-- cancels an INVITE (9.2)
abbrev pub is_of_a_call : Message → Bool
is_of_a_call message =
    not (length (tag_of message.to) == 0) || bytes_eq message.cseq.method (codes "CANCEL")

-- at a high load only such requests may begin a transaction, at a full one none
abbrev pub is_let_in : Load → Message → Bool
is_let_in load.Low message = true
is_let_in load.High message = is_of_a_call message
is_let_in load.Full message = false

-- a request of so many bytes has too many of them, or too many Via values; of those a short one may
-- have any number
abbrev pub is_too_large : RequestLimits → ℕ → Message → Bool
is_too_large limits len message = nat_lt limits.largest len
    || (nat_lt USUAL_LENGTH len && nat_lt limits.vias (length message.vias))

-- after these rounds, the datagram of so many bytes with this message isn't taken
abbrev pub is_shed_message : Config → List Round → RequestLimits → Load → ℕ
    → Result Message ReadFault → Bool
is_shed_message config rounds limits load len (Ok message) =
    not (is_let_in load message && not (is_too_large limits len message))
    && would_begin config rounds message
is_shed_message config rounds limits load len (Err fault) = false

abbrev pub is_shed : Config → List Round → RequestLimits → Load → Event → Bool
is_shed config rounds limits load (Datagram from bytes) =
    is_shed_message config rounds limits load (length bytes) (message_at bytes)
is_shed config rounds limits load (Failed key) = false
is_shed config rounds limits load (Command command) = false

-- it is taken, whatever its message is
abbrev pub is_usual_datagram : RequestLimits → Load → ℕ → Bool
is_usual_datagram limits load.Low len =
    not (nat_lt limits.largest len) && not (nat_lt USUAL_LENGTH len)
is_usual_datagram limits load.High len = false
is_usual_datagram limits load.Full len = false

abbrev pub is_usual : RequestLimits → Load → Event → Bool
is_usual limits load (Datagram from bytes) = is_usual_datagram limits load (length bytes)
is_usual limits load (Failed key) = true
is_usual limits load (Command command) = true

-- how many were shed, where some were before, and of so many events so many were let in; the count
-- stops at the largest number of 64 bits
abbrev pub shed_after : ℕ → ℕ → ℕ → ℕ
shed_after shed given admitted = min (shed + (given - admitted)) (2 ^ 64 - 1)

-- it is told where there is a limit of the load, or any was shed
abbrev pub shed_told : Option ℕ → ℕ → Option ℕ
shed_told most shed = if is_some most || nat_lt 0 shed then Some shed else None

-- what each of so many agents has of a limit: a fair share, rounded up
abbrev pub share_of : ℕ → ℕ → ℕ
share_of limit agents = limit / agents + min 1 (limit % agents)
