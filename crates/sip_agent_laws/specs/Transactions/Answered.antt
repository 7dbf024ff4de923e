-- What a server sends again to a retransmission, after any inputs (RFC 3261, sections 17.2.1 and
-- 17.2.2).
use Rattle.std.specs.Prelude.{◌≡◌, ℕ, true, List, [], ◌∷◌, None, Some, option_map}
use Rattle.sip_message.specs.declared.addr.Addr.{Addr}
use Rattle.sip_message.specs.declared.id.Id.{Id}
use Rattle.sip_message.specs.declared.key.Key.{Key}
use Rattle.sip_message.specs.declared.message.Message.{Message}
use Rattle.keyed_machine.specs.Machine.{Machine, Timed, outputs_from, state_after}
use Rattle.sip_transactions.specs.declared.input.Input.{Input}
use Rattle.sip_transactions.specs.declared.life.Life.{Life}
use Rattle.sip_transactions.specs.declared.output.Out.{Out}
use Rattle.sip_transactions.specs.declared.trigger.Trigger.TheVariants as on
use Rattle.sip_transactions.specs.Laws.{IsServer}
use Rattle.sip_transactions.specs.ServerLaws.{is_answering}
use Rattle.sip_transactions.specs.Shard.{receipt}
use Rattle.sip_transactions.specs.Steps.Input.{arrival_of}
use Rattle.sip_agent_laws.specs.Transactions.Timers.{last_send}

-- A request that was answered comes again: what the server sent last goes out again, once, and
-- nothing else happens.
abbrev pub AnsweredAsBefore : Machine Key Life (Timed Input) Out → Type 0
AnsweredAsBefore machine = (key : Key) → IsServer key → (inputs : List (Timed Input)) (life : Life)
    → state_after machine key inputs ≡ Some life → is_answering life.state ≡ true
    → (id : Id) (message : Message) (reply_to : Addr) (now : ℕ)
    → arrival_of message.start message.cseq.method ≡ on.Request
    → let after = machine.step key (Some life) (receipt id message reply_to now) in
    (after.0 ≡ Some life) × (Some after.1
    ≡ option_map (λ sent. sent ∷ []) (last_send (outputs_from machine key None inputs)))
