-- `fault_of`: the bad line stands behind the head.
use Rattle.std.proofs.Common.{◌+◌, refl, sym, subst}
use Rattle.sip_files.specs.EventFile.{IsBadLine, TellsFault}
use Rattle.sip_stream.specs.Streams.{behind_head}
use Rattle.sip_stream.proofs.BadLines.{numbered}
use Rattle.sip_stream.proofs.round_text.fault_of.Goals as goal

pub returns-in-BadLine : goal.returns-in-BadLine
returns-in-BadLine c = λ kind version lines tells.
    let file = behind_head version lines in
    let told = subst (λ fault. TellsFault kind fault file) c.in-BadLine.is tells in (
      refl,
      (
        told.0,
        subst (λ number. IsBadLine kind (number + 4) file) (sym c.saturating_sub-number.ensures)
            (numbered kind version lines c.in-BadLine.line told.1 told.2),
      ),
    )
