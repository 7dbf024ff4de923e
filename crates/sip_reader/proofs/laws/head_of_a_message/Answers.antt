-- The law `head_of_a_message`: the head of a text says what its message says.
use Rattle.sip_headers.specs.Named.{others_in}
use Rattle.sip_reader.proofs.HeadMessages.{first_said, known_said, others_said}
use Rattle.sip_reader.proofs.Heads.{head_laid}
use Rattle.sip_reader.proofs.laws.head_of_a_message.Goals as goal

pub returns-clause-lines : goal.returns-clause-lines
returns-clause-lines c text start rest lines head lays is =
    head_laid text start lines rest lays head is

pub returns-clause-first : goal.returns-clause-first
returns-clause-first c = first_said

pub returns-clause-known : goal.returns-clause-known
returns-clause-known c text m values is has =
    (is.content_length, others_in is.headers_are.0, known_said text m values is has)

pub returns-clause-others : goal.returns-clause-others
returns-clause-others c text name m values is none has =
    others_said text name m values is none has
