-- `after_version` gives the version that the first line names, and what follows that line.
use Rattle.std.proofs.Common.{◌++◌, ◌∷◌, List, ℕ, ap, sym, ◌∙◌}
use Rattle.sip_text.proofs.Cuts.{cut_took}
use Rattle.sip_files.proofs.FileFaults.{version_found}
use Rattle.sip_files.proofs.events_file.after_version.Goals as goal

pub returns-in-Some-version_in-2 : goal.returns-in-Some-version_in-2
returns-in-Some-version_in-2 c =
    let line = c.in-Some.line.now in
    let after = c.in-Some.after.now in
    let named = version_found c.args.kind line c.in-Some-version_in-2.version
    (sym c.version_in-2.ensures ∙ c.in-Some-version_in-2.is) in (
      named.0,
      (cut_took 10 c.args.text.now (line, after) (sym c.in-Some.ensures.parts)).whole
          ∙ ap (λ (l : List ℕ). l ++ 10 ∷ after) named.1,
    )
