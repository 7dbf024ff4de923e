-- `unsupported_name`: `Unsupported` may be the name of a header that isn't parsed.
use Rattle.sip_served.proofs.Names.{unsupported_name}
use Rattle.sip_served.proofs.unsupported.unsupported_name.Goals as goal

pub copy_of-requires : goal.copy_of-requires
copy_of-requires c = unsupported_name
