-- `ends_of`: each turn of the loop ends one more line.
use Rattle.std.proofs.Common.{◌++◌, ◌∷◌, [], sym, subst}
use Rattle.std.specs.List.{AllZip}
use Rattle.sip_udp.specs.Hearing.{EndsAsPosted, EndsLine}
use Rattle.sip_files.proofs.HeadedLines.{zip_push}
use Rattle.sip_udp.proofs.Lined.{ended_line, posted_line}
use Rattle.sip_udp.proofs.listener.ends_of.Goals as goal

pub loop-line-preserved : goal.loop-line-preserved
loop-line-preserved c =
    let lines = c.loop-line.yielded ++ c.in-Some.line ∷ [] in
    let items = sym c.in_ok-push.ensures.items in (
      tt,
      tt,
      subst (λ ends. AllZip EndsLine lines ends) items
          (zip_push EndsLine c.loop-line.yielded c.loop-line.ends.items c.in-Some.line c.ok.result
          c.loop-line.invariant.2
          (ended_line c.in-Some.line c.finish.result c.ok.result c.ok.ensures.value
          c.finish.ensures.end)),
      subst (λ ends. AllZip EndsAsPosted lines ends) items
          (zip_push EndsAsPosted c.loop-line.yielded c.loop-line.ends.items c.in-Some.line
          c.ok.result c.loop-line.invariant.3
          (posted_line c.in-Some.line c.finish.result c.ok.result c.ok.ensures.value
          c.finish.ensures.kept)),
    )
