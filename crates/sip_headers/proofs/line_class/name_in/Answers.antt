-- `name_in`: a name and a colon that it finds are what reading gives.
use Rattle.std.proofs.Common.{sym}
use Rattle.sip_headers.proofs.Names.{name_first}
use Rattle.sip_headers.proofs.line_class.name_in.Goals as goal

pub returns-in-Some : goal.returns-in-Some
returns-in-Some c = sym (name_first c.args.line.now
    (c.in-Some.name.now, c.in-Some.value.now) (sym c.in-Some.ensures))
