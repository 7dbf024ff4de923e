-- What `is_wildcard` returns: the text of the parameters is empty exactly if there are none.
use Rattle.std.proofs.Common.{rules}
use Rattle.sip_message.proofs.Wildcards.{no_parameters}
use Rattle.sip_message.proofs.name_addr.NameAddr.is_wildcard.Goals as goal

pub returns-then-is_empty : goal.returns-then-is_empty
returns-then-is_empty c =
    let none = no_parameters c.args.self.now.parameters in search rules
