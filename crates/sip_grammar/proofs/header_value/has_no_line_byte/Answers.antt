-- `has_no_line_byte`: a text has no CR and no LF exactly if none is found.
use Rattle.std.proofs.Common.{sym}
use Rattle.sip_text.specs.Character.{is_line_byte}
use Rattle.sip_grammar.proofs.LineBytes.{none_found}
use Rattle.sip_grammar.proofs.header_value.has_no_line_byte.Goals as goal

pub returns : goal.returns
returns c =
    none_found is_line_byte c.args.text.now c.find_either.result c.is_none.result
    (sym c.is_none.ensures) c.find_either.ensures
