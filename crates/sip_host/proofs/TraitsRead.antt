-- What is told of a datagram that spells a message, and of one that doesn't.
use Rattle.std.proofs.Common.{◌≡◌, true, false, List, ℕ, Result, Ok, Err, IfOk, None, Option, IsSome, subst, ap, ◌∙◌}
use Rattle.sip_message.specs.declared.fault.ReadFault.{ReadFault}
use Rattle.sip_message.specs.declared.message.Message.{Message}
use Rattle.sip_reader.specs.Spells.{Answers, Spells}
use Rattle.sip_host.specs.Traits.{TellsTraits, traits_of}
use Rattle.sip_host.specs.declared.request_traits.RequestTraits.{RequestTraits}

differ : false ≡ true → ⊥
differ e = cc

-- the traits of the message that was read
pub read_tells : (bytes : List ℕ) (read : Message) (traits : Option RequestTraits)
    → Spells read bytes
    → ((message : Message) → Spells message bytes → Answers (Ok read) message)
    → traits ≡ traits_of read → TellsTraits bytes traits
read_tells bytes read traits spelled only are = record {
  told = λ message spells. are ∙ ap traits_of (only message spells);
  message = λ some. (read, spelled);
}

-- nothing, without a message
pub fault_tells : {E : Type 0} (bytes : List ℕ) (fault : ReadFault)
    (answer : Result (Option RequestTraits) E)
    → ((message : Message) → Spells message bytes → Answers (Err fault) message)
    → IfOk answer (λ traits. (traits ≡ None)
    × ((message : Message) → ¬ Answers (Err fault) message))
    → IfOk answer (TellsTraits bytes)
fault_tells bytes fault (Ok traits) only unread = record {
  told = λ message spells. absurd (unread.1 message (only message spells));
  message = λ some. absurd (differ (subst IsSome unread.0 some));
}
fault_tells bytes fault (Err memory) only unread = tt
