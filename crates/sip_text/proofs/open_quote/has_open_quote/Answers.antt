-- `has_open_quote` is false if the text has no quote at all.
use Rattle.std.proofs.Common.{◌∙◌, sym}
use Rattle.sip_text.proofs.OpenQuotes.{no_quote}
use Rattle.sip_text.proofs.open_quote.has_open_quote.Goals as goal

pub returns-else-is_some : goal.returns-else-is_some
returns-else-is_some c =
    let none = sym c.is_some.ensures ∙ c.if-is_some.false in
    c.if-is_some.false ∙ sym (no_quote c.args.text.now c.find_byte.result none c.find_byte.ensures)
