-- An ACK that no transaction waits for comes up (RFC 3261, section 13.3.1.4; RFC 6026, section
-- 7.1).
use Rattle.std.specs.Prelude.{◌≡◌, ℕ, Bool, true, false, List, [], ◌∷◌, Option, None, Some, filter_map}
use Rattle.sip_message.specs.declared.addr.Addr.{Addr}
use Rattle.sip_message.specs.declared.id.Id.{Id}
use Rattle.sip_message.specs.declared.key.Key.{Key}
use Rattle.sip_message.specs.declared.message.Message.{Message}
use Rattle.keyed_machine.specs.Machine.{Machine, Timed, adds, given_at, state_after}
use Rattle.sip_transactions.specs.declared.input.Input.{Input}
use Rattle.sip_transactions.specs.declared.input.Input.TheVariants.{Receive}
use Rattle.sip_transactions.specs.declared.life.Life.{Life}
use Rattle.sip_transactions.specs.declared.output.Out.{Out}
use Rattle.sip_transactions.specs.declared.output.Out.TheVariants.{Up}
use Rattle.sip_transactions.specs.declared.output.UpKind.{UpKind}
use Rattle.sip_transactions.specs.declared.output.UpKind.TheVariants as kind
use Rattle.sip_transactions.specs.declared.state.Role.TheVariants.{InviteServer}
use Rattle.sip_transactions.specs.declared.state.State.{State}
use Rattle.sip_transactions.specs.declared.state.State.TheVariants.{Accepted}
use Rattle.sip_transactions.specs.declared.trigger.Trigger.TheVariants as on
use Rattle.sip_transactions.specs.Steps.Input.{arrival_of, role_of}
use Rattle.sip_transactions.specs.Steps.Life.{state_of}

-- what comes up
abbrev pub kind_up : Out → Option UpKind
kind_up (Up up) = Some up.kind
kind_up other = None

-- no transaction is held, or one whose INVITE got a 2xx
abbrev pub lets_acks_by : Option State → Bool
lets_acks_by None = true
lets_acks_by (Some Accepted) = true
lets_acks_by (Some state) = false

-- an ACK comes up then, once and alone
abbrev pub AcksComeUp : Machine Key Life (Timed Input) Out → Type 0
AcksComeUp machine = (key : Key) (inputs : List (Timed Input)) → role_of key ≡ InviteServer
    → let held = state_after machine key inputs in lets_acks_by (state_of held) ≡ true
    → (id : Id) (ack : Message) (reply_to : Addr) (now : ℕ)
    → arrival_of ack.start ack.cseq.method ≡ on.Ack
    → filter_map kind_up (adds machine key held (given_at now (Receive id ack reply_to)))
    ≡ kind.Ack ack ∷ []
