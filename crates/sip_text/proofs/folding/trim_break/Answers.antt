-- `trim_break` takes off a carriage return and the white space before it.
use Rattle.sip_text.proofs.LineParts.{kept_front}
use Rattle.sip_text.proofs.folding.trim_break.Goals as goal

pub returns : goal.returns
returns c =
    rw (
      c.truncate.ensures.items,
      c.trimmed_end-kept.ensures,
      c.without_carriage_return.ensures,
      c.as_slice.ensures.value,
    )
    (kept_front c.args.line.now.items)
