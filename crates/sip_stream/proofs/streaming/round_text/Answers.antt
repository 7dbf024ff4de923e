-- `round_text` gives what stands behind the first line.
use Rattle.std.proofs.Common.{rules, arith, ◌∙◌}
use Rattle.sip_stream.proofs.Written.{behind_line, long_enough, text_alone}
use Rattle.sip_stream.proofs.streaming.round_text.Goals as goal

pub split_off-requires : goal.split_off-requires
split_off-requires c =
    omega (
      arith,
      long_enough c.in_ok-file.file.items _
          (text_alone c.in_ok-file.file.items c.deref.result.now c.args.moment c.args.outputs
          (search rules) c.in_ok-file.ensures),
      c.in_ok-file.file.ok.0,
    )

pub returns : goal.returns
returns c =
    c.in_ok-split_off.ensures.tail
    ∙ behind_line c.in_ok-file.file.items _
    (text_alone c.in_ok-file.file.items c.deref.result.now c.args.moment c.args.outputs
    (search rules) c.in_ok-file.ensures)
