-- The numbers that calls answer.
use Rattle.std.specs.Prelude.{ℕ, false, true, Result, Ok, Err, nat_lt, if◌then◌else◌}
use Rattle.sip_host.specs.declared.field.Field.{Field}
use Rattle.sip_host.specs.declared.field.Field.TheVariants as field
use Rattle.sip_host.specs.declared.host_fault.HostFault.{HostFault}
use Rattle.sip_host.specs.declared.host_fault.HostFault.TheVariants as host
use Rattle.sip_round.specs.declared.round_fault.RoundFault.{RoundFault}
use Rattle.sip_round.specs.declared.round_fault.RoundFault.TheVariants as round

-- the number of a round that was refused, or that ran out of memory
abbrev pub number_of_round : RoundFault → ℕ
number_of_round round.Broken = 11
number_of_round round.MomentBackwards = 7
number_of_round round.MomentTooLarge = 8
number_of_round round.TooManyEvents = 4
number_of_round round.RoundsUsedUp = 9
number_of_round (round.NoMemory false) = 10
number_of_round (round.NoMemory true) = 11

-- the number of a call that was refused
abbrev pub number_of : HostFault → ℕ
number_of host.BadLine = 3
number_of host.TooManyEvents = 4
number_of host.NoSend = 5
number_of host.OutputsLeft = 6
number_of (host.Round fault) = number_of_round fault
number_of host.NoMemory = 10
number_of (host.BadField name) = 14

-- the number of a part of a command
abbrev pub number_of_field : Field → ℕ
number_of_field field.CallId = 1
number_of_field field.Method = 2
number_of_field field.RequestUri = 3
number_of_field field.From = 4
number_of_field field.To = 5
number_of_field field.LocalTag = 6
number_of_field field.RemoteTag = 7
number_of_field field.Status = 8
number_of_field field.Reason = 9
number_of_field field.Headers = 10

-- the number of a call that tells a text of this length, for a buffer with so much room: 15 exactly
-- if the text doesn't fit
abbrev pub room_answer : ℕ → ℕ → ℕ
room_answer length room = if nat_lt room length then 15 else 0

-- the number of a call's answer; 0 if all went well
abbrev pub number_of_answer : {T : Type 0} → Result T HostFault → ℕ
number_of_answer (Ok done) = 0
number_of_answer (Err fault) = number_of fault
