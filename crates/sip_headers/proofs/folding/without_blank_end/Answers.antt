-- `without_blank_end` takes the white space off the end of a line.
use Rattle.sip_headers.proofs.Folds.{kept_front}
use Rattle.sip_headers.proofs.folding.without_blank_end.Goals as goal

pub returns : goal.returns
returns c = rw (c.truncate.ensures.items, c.trimmed_end-kept.ensures, c.as_slice.ensures.value)
    (kept_front c.args.line.items)
