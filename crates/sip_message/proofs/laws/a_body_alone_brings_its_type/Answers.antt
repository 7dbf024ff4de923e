-- The law `a_body_alone_brings_its_type`: what an empty body does to a message, and any other.
use Rattle.std.proofs.Common.{◌++◌, ◌∷◌, [], sym, append-nil}
use Rattle.sip_message.specs.Content.{content_type, with_content_of}
use Rattle.sip_message.proofs.laws.a_body_alone_brings_its_type.Goals as goal

pub returns-clause-empty : goal.returns-clause-empty
unfolding with_content_of
returns-clause-empty c message none = λ i. record message {
  require = append-nil message.require i;
  supported = append-nil message.supported i;
  others = append-nil message.others i;
  body = sym none i;
}

pub returns-clause-some : goal.returns-clause-some
unfolding with_content_of
returns-clause-some c message byte bytes = λ i. record message {
  require = append-nil message.require i;
  supported = append-nil message.supported i;
  others = message.others ++ content_type ∷ [];
  body = byte ∷ bytes;
}
