-- `hear` ends each of its lines, with what was posted on it.
use Rattle.std.proofs.Common.{◌≡◌, ◌≢◌, Err, IfSome, Some, subst, sym}
use Rattle.std.specs.List.{AllZip}
use Rattle.std.proofs.lemmas.List.Elements.{length_all_zip}
use Rattle.sip_desk.specs.Lines.{SameLine}
use Rattle.sip_udp.specs.declared.fault.UaFault.TheVariants.{NoMemory}
use Rattle.sip_udp.specs.Hearing.{EndsAsPosted, EndsLine, Hears, ended_with, posted_by}
use Rattle.sip_udp.proofs.Hearings.{all_heard}
use Rattle.sip_udp.proofs.Lined.{some_before, whole_slice}
use Rattle.sip_udp.proofs.listener.hear.Goals as goal

pub returns-clause-ends : goal.returns-clause-ends
returns-clause-ends g c =
    let lines = c.post_all-posted.new.lines in
    let same = subst (λ before. AllZip SameLine before lines) c.deref_mut-2.ensures.value
    c.post_all-posted.ensures.same in
    some_before (λ ends. ends.items) c.args.lines.items lines c.finish_all-heard.result.ends same
    (subst (λ ls. IfSome c.finish_all-heard.result.ends (λ ends. AllZip EndsLine ls ends.items))
    (whole_slice c.args.lines.len c.args.lines.items lines c.args.lines.ok.0
    (length_all_zip SameLine c.args.lines.items lines same)) c.finish_all-heard.ensures.ends)

pub returns-clause-hears : goal.returns-clause-hears
returns-clause-hears g c =
    let given = g.I.Inlet.given in
    let lines = c.post_all-posted.new.lines in
    let ends = c.finish_all-heard.result.ends in
    let lost = c.post_all-posted.new.lost in
    let old = given c.args.inlet.now in
    let new = given c.post_all-posted.new.inlet in
    let same = subst (λ before. AllZip SameLine before lines) c.deref_mut-2.ensures.value
    c.post_all-posted.ensures.same in
    let posts = subst (λ ls. IfSome ends (λ ends. AllZip EndsAsPosted ls ends.items))
    (whole_slice c.args.lines.len c.args.lines.items lines c.args.lines.ok.0
    (length_all_zip SameLine c.args.lines.items lines same)) c.finish_all-heard.ensures.posted in
    let hears = subst (λ before. c.post_all-posted.result ≢ Err NoMemory
    → Hears old new before (posted_by lines) lost) c.deref_mut-2.ensures.value
    c.post_all-posted.ensures.hears in
    subst (λ lost. IfSome ends (λ es. c.finish_all-heard.result.fault ≢ Some NoMemory
    → Hears old new c.args.lines.items (ended_with es.items) lost))
    (sym c.finish_all-heard.ensures.lost)
    (all_heard (λ ends. ends.items) old new c.args.lines.items lines ends
    c.finish_all-heard.result.fault c.post_all-posted.result lost
    (subst (λ fault. IfSome ends (λ es. c.finish_all-heard.result.fault ≡ fault))
    c.err.ensures.value c.finish_all-heard.ensures.fault) hears posts)
