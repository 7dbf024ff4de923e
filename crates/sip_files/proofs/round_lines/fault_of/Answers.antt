-- `fault_of` numbers the lines behind the head, in which the first bad line doesn't stand.
use Rattle.std.proofs.Common.{◌≡◌, ◌+◌, ◌-◌, ℕ, List, arith, subst}
use Rattle.sip_files.specs.EventFile.{IsBadLine, TellsFault}
use Rattle.sip_files.specs.declared.events_fault.EventsFault.{EventsFault}
use Rattle.sip_files.specs.declared.events_fault.EventsFault.TheVariants.{BadLine}
use Rattle.sip_files.specs.declared.version.FileKind.TheVariants as file_kind
use Rattle.sip_files.specs.Rounds.{session_with}
use Rattle.sip_files.proofs.HeadLines.{behind_head}
use Rattle.sip_files.proofs.round_lines.fault_of.Goals as goal

numbered : (fault : EventsFault) (number told : ℕ) (lines : List ℕ) → fault ≡ BadLine number
    → told ≡ number - 4 → TellsFault file_kind.Session fault (session_with lines)
    → IsBadLine file_kind.Session (told + 4) (session_with lines)
numbered fault number told lines is less tells =
    let text = session_with lines in
    let all = subst (λ (f : EventsFault). TellsFault file_kind.Session f text) is tells in
    let behind = behind_head number lines all.2 in
    let same : number ≡ told + 4 = omega arith in
    subst (λ (n : ℕ). IsBadLine file_kind.Session n text) same all.2

pub returns-in-BadLine : goal.returns-in-BadLine
returns-in-BadLine c lines tells =
    numbered c.args.fault c.in-BadLine.number c.saturating_sub.result lines c.in-BadLine.is
    c.saturating_sub.ensures tells
