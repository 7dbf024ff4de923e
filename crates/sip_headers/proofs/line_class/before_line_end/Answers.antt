-- `before_line_end`: what it finds is a text without CR and LF, a line end, and the text after it.
use Rattle.std.proofs.Common.{sym}
use Rattle.sip_headers.proofs.PlainLines.{plain_end}
use Rattle.sip_headers.proofs.line_class.before_line_end.Goals as goal

pub returns : goal.returns
returns c =
    let found = c.in_ok-place.ensures in
    plain_end c.args.text.now c.split_at.result.0.now c.split_at.result.1.now
    c.in_ok-after.after.now c.in_ok-place.place found.0.high found.0.before
    c.split_at.ensures.front c.split_at.ensures.back (sym c.in_ok-after.ensures)
