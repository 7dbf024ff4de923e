-- `is_too_long`: a text is too long if it has more than 65,535 bytes.
use Rattle.std.proofs.Common.{refl}
use Rattle.sip_reader.proofs.reader.is_too_long.Goals as goal

pub returns : goal.returns
returns c = refl
