-- `Before::add` says whether the set already had the name.
use Rattle.std.proofs.Common.{◌≡◌, Bool, subst, sym}
use Rattle.std.specs.Prelude.{IfOk}
use Rattle.sip_ladder.specs.Shapes.{is_among}
use Rattle.sip_ladder.proofs.Names.{known}
use Rattle.sip_ladder.proofs.before.Before.add.Goals as goal
use Rattle.sip_ladder.proofs.before.Before.add.Goals.{in-Ok, in-Err}

pub returns-clause-again : goal.returns-clause-again
returns-clause-again c =
    let names = c.args.self.now.names.keys in
    elim c.match-insert.branch [
      | in-Ok w ↦
          subst (λ r. IfOk r (λ (is_again : Bool). is_again ≡ is_among names c.args.name))
          (sym w.result-is) (known c.args.name names w.in-Ok.is_new w.in-Ok.ensures.added)
      | in-Err w ↦
          subst (λ r. IfOk r (λ (is_again : Bool). is_again ≡ is_among names c.args.name))
          (sym w.result-is) tt
    ]
