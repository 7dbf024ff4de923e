-- What the statuses of a replay tell of its input.
use Rattle.std.proofs.Common.{subst}
use Rattle.std.specs.Prelude.{IfErr, IfSome}
use Rattle.sip_ua.specs.Repair.{TellsRepair}
use Rattle.sip_ua.proofs.NoFile.{never_status_1, status_1, status_3}
use Rattle.sip_ua.proofs.program.replay_input.Goals as goal

pub returns-clause-no_file : goal.returns-clause-no_file
returns-clause-no_file g c =
    status_1 c.args.kind c.args.repairs (g.R.Read.remaining c.args.input.now)
    c.replay_by-end.result c.finish.result c.finish.ensures
    (subst (λ reader. IfErr c.replay_by-end.result
    (λ fault. IfSome (g.R.Read.remaining reader.now)
    (TellsRepair c.args.kind c.args.repairs fault)))
    c.new-input.ensures c.replay_by-end.ensures.fault)

pub returns-clause-refused_round : goal.returns-clause-refused_round
returns-clause-refused_round g c =
    status_3 c.args.kind c.args.repairs (g.R.Read.remaining c.args.input.now)
    c.replay_by-end.result c.finish.result c.finish.ensures
    (subst (λ reader. IfErr c.replay_by-end.result
    (λ fault. IfSome (g.R.Read.remaining reader.now)
    (TellsRepair c.args.kind c.args.repairs fault)))
    c.new-input.ensures c.replay_by-end.ensures.fault)

pub returns-clause-only : goal.returns-clause-only
returns-clause-only g c =
    never_status_1 c.args.kind c.args.repairs (g.R.Read.remaining c.args.input.now)
    c.replay_by-end.result c.finish.result c.finish.ensures
    (subst (λ reader. IfErr c.replay_by-end.result
    (λ fault. IfSome (g.R.Read.remaining reader.now)
    (TellsRepair c.args.kind c.args.repairs fault)))
    c.new-input.ensures c.replay_by-end.ensures.fault)
