-- `in_last` puts the event into the last round.
use Rattle.std.proofs.Common.{◌≡◌, List, ◌++◌, ◌∷◌, [], Some, ap, sym, ◌∙◌}
use Rattle.sip_round.specs.declared.round.Event.{Event}
use Rattle.sip_round.specs.declared.round.Round.{Round}
use Rattle.sip_files.proofs.Drafts.{with_event-last}
use Rattle.sip_files.proofs.draft.in_last.Goals as goal

pub returns : goal.returns
returns c =
    let before = c.pop.new.self.items in
    let round = c.in-Some.round in
    let old : c.args.rounds ≡ before ++ round ∷ [] =
    cc (c.into_vec-rounds.ensures, c.in-Some.ensures.items) in
    let items : c.push-2.new.self.items ≡ before
    ++ (record { moment = round.moment; events = c.push.new.self }) ∷ [] =
    c.in_ok-push-2.ensures.items in
    let events : c.push.new.self ≡ round.events ++ c.args.event ∷ [] = c.in_ok-push.ensures.ok in
    let made = items ∙ ap (λ (es : List Event). before
    ++ (record { moment = round.moment; events = es }) ∷ []) events in
    rw (c.from_vec.ensures, old) (sym
    (with_event-last before round c.args.event ∙ ap (λ (rs : List Round). Some rs) (sym made)))
