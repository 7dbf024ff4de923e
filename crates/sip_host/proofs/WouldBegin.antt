-- What a host says of a datagram that spells a message, and of one that doesn't.
use Rattle.std.proofs.Common.{◌≡◌, Bool, true, false, List, ℕ, Result, Ok, Err, IfOk, None, sym, ap, ◌∙◌}
use Rattle.sip_message.specs.declared.fault.ReadFault.{ReadFault}
use Rattle.sip_message.specs.declared.message.Message.{Message}
use Rattle.sip_reader.specs.Spells.{Answers, Spells}
use Rattle.sip_round.specs.Answers.{StandsFor}
use Rattle.sip_round.specs.NewTransactions.{would_begin}
use Rattle.sip_round.specs.declared.config.Config.{Config}
use Rattle.sip_round.specs.declared.round.Round.{Round}
use Rattle.sip_host.specs.Hosting.{TellsIfItBegins, shard_of}
use Rattle.sip_host.specs.declared.host.Host.{Host}

differ : false ≡ true → ⊥
differ e = cc

-- the agent's answer for the message that was read
pub read_tells : {E : Type 0} (bytes : List ℕ) (host : Host) (read : Message)
    (answer : Result Bool E) → Spells read bytes
    → ((message : Message) → Spells message bytes → Answers (Ok read) message)
    → (host.agent.shards ≡ None → IfOk answer (λ begins. begins ≡ false))
    → IfOk answer (λ begins. (config : Config) (rounds : List Round)
    → StandsFor shard_of host.agent config rounds → begins ≡ would_begin config rounds read)
    → IfOk answer (TellsIfItBegins bytes host)
read_tells bytes host read (Ok begins) spelled only broken told = record {
  message = λ yes. (read, spelled);
  told = λ message spells config rounds stands.
      told config rounds stands ∙ ap (would_begin config rounds) (only message spells);
  broken = broken;
}
read_tells bytes host read (Err fault) spelled only broken told = tt

-- its answer without a message
pub fault_tells : {E : Type 0} (bytes : List ℕ) (host : Host) (fault : ReadFault)
    (answer : Result Bool E) → ((message : Message) → Spells message bytes
    → Answers (Err fault) message)
    → IfOk answer (λ begins. (begins ≡ false)
    × ((message : Message) → ¬ Answers (Err fault) message))
    → IfOk answer (TellsIfItBegins bytes host)
fault_tells bytes host fault (Ok begins) only unread = record {
  message = λ yes. absurd (differ (sym unread.0 ∙ yes));
  told = λ message spells. absurd (unread.1 message (only message spells));
  broken = λ none. unread.0;
}
fault_tells bytes host fault (Err memory) only unread = tt
