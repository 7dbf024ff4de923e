-- What is written for a message with a content of the user's own (RFC 3261, section 7.4.1).
use Rattle.std.specs.Prelude.{◌≡◌, ◌≤◌, ℕ, List, length}
use Rattle.sip_message.specs.Content.{Content, with_content_of}
use Rattle.sip_message.specs.Rules.{IsMessage}
use Rattle.sip_message.specs.Written.{written}
use Rattle.sip_message.specs.declared.message.Message.{Message}

-- The text is what is written for the message with this content, which satisfies the rules of a
-- message and isn't too long to be read.
pub record IsWrittenWith (content : Content) (m : Message) (text : List ℕ) : Type 0 where
  pub good : IsMessage (with_content_of m content)
  pub text_is : text ≡ written (with_content_of m content)
  pub short : length text ≤ 65535
