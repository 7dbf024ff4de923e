-- `run_heard`: the ends that are settled belong to the lines of the desks.
use Rattle.std.proofs.Common.{IfOk, IfSome, subst, sym}
use Rattle.std.specs.List.{AllZip}
use Rattle.sip_desk.specs.Lines.{KeepsLines}
use Rattle.sip_udp.specs.Hearing.{EndsLine}
use Rattle.sip_udp.specs.Stations.{KeepsItsLine, desks_of}
use Rattle.sip_udp.proofs.StationLines.{some_end, zip_map}
use Rattle.sip_udp.proofs.talk.run_heard.Goals as goal

pub spawn_with-requires-clause-keeps : goal.spawn_with-requires-clause-keeps
spawn_with-requires-clause-keeps g c = λ lifetimes lives heard ends.
    subst (λ lines. IfSome heard.ends (λ ends. AllZip EndsLine lines.items ends.items))
    (sym c.of.ensures) ends

pub conclude-requires : goal.conclude-requires
conclude-requires g c =
    let ends = subst
    (λ lines. IfSome c.join-heard.result.ends (λ ends. AllZip EndsLine lines.items ends.items))
    c.of.ensures
    (subst (λ promise. IfSome c.join-heard.result.ends
    (λ ends. AllZip EndsLine promise.0.value.items ends.items)) c.in-Ok.ensures.ok
    c.join-heard.ensures) in
    let kept = subst
    (λ ran. IfOk ran (λ ran. AllZip KeepsItsLine c.args.others.items ran.items))
    c.in_ok-others.was c.run_all-own.ensures.others in
    some_end (λ ends. ends.items) (desks_of c.args.own c.args.others.items)
    (desks_of c.run_all-own.result.0 c.in_ok-others.others.items) c.args.lines.items
    c.join-heard.result.ends c.requires (
      c.run_all-own.ensures.own,
      zip_map KeepsLines (λ other. other.station.desk) c.args.others.items
          c.in_ok-others.others.items kept,
    ) ends
