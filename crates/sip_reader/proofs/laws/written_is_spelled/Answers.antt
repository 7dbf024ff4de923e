-- The law `written_is_spelled`: what is written for a message spells that message, if it isn't too
-- long.
use Rattle.sip_reader.proofs.RoundTrip.{written_spelled}
use Rattle.sip_reader.proofs.laws.written_is_spelled.Goals as goal

pub returns : goal.returns
returns c = written_spelled
