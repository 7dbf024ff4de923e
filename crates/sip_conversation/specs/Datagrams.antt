-- What a datagram is: the text of a message that the other side said before.
use Rattle.std.specs.Prelude.{◌≡◌, ◌⊎◌, ◌<◌, ℕ, List, Contains, Ok, length, ◌∷◌, ◌++◌}
use Rattle.sip_message.specs.declared.addr.Addr.{Addr}
use Rattle.sip_message.specs.declared.message.Message.{Message}
use Rattle.sip_message.specs.Written.{written}
use Rattle.sip_reader.specs.ReadMessage.{message_at}
use Rattle.sip_round.specs.declared.config.Config.{Config}
use Rattle.sip_round.specs.declared.round.Event.TheVariants.{Datagram}
use Rattle.sip_conversation.specs.Conversation.{Side, Turn, peer, rounds_of}
use Rattle.sip_conversation.specs.Messages.{IsSaid}

-- the bytes are the text of a message that the other side said in these turns; they are read as
-- that message, unless they are too long
pub record IsTextSaid (configs : Side → Config) (turns : List Turn) (side : Side)
    (bytes : List ℕ) : Type 0 where
  pub original : Message
  pub said : IsSaid (configs (peer side)) (rounds_of (peer side) turns) original
  pub text : bytes ≡ written original
  pub read : (message_at bytes ≡ Ok original) ⊎ (65535 < length bytes)

-- so is each datagram that comes in a turn, by the turns before it
abbrev pub DatagramsAreTextsSaid : (Side → Config) → List Turn → Type 0
DatagramsAreTextsSaid configs turns =
    (before after : List Turn) (turn : Turn) → turns ≡ before ++ turn ∷ after
    → (from : Addr) (bytes : List ℕ) → Contains (turn.round).events (Datagram from bytes)
    → IsTextSaid configs before turn.side bytes
