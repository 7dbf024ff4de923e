-- `run`: the outputs of all rounds, which round is refused, and the laws about what is given.
use Rattle.std.proofs.Common.{◌≤◌, ◌∙◌, true, refl, sym, ap, subst, inl, inr, length, arith}
use Rattle.std.proofs.lemmas.List.{take_all}
use Rattle.sip_round.specs.Answers.{answers, refused}
use Rattle.sip_round.specs.Given.{GivesNothingAfterEnds, GivesOwnNotices, GivesOwnSends, GivesProvisionalsInOrder, GivesRequestsById, GivesRequestsOnce, GivesStartedRequests}
use Rattle.sip_round.proofs.SoFar.{at_start, one_more, one_unrefused, ends, fine_where_ok}
use Rattle.sip_round.proofs.whole_run.run.Goals as goal

pub loop-index-init : goal.loop-index-init
loop-index-init g c = at_start g.C.Cut.shard_of c.args.config c.args.rounds.now c.in-Ok.agent
    c.new-made.result.items c.in-Ok.ensures.stands c.new-made.ensures.items

pub loop-index-preserved : goal.loop-index-preserved
loop-index-preserved g c =
    one_more g.C.Cut.shard_of c.args.config c.args.rounds.now c.loop-index.index
    c.index-rounds-index.result c.loop-index.agent c.run_round.new.self c.loop-index.made.items
    c.push.new.self.items c.in-Ok-run_round.outputs
    c.loop-index.invariant c.loop-index-test.true c.index-rounds-index.is
    (fine_where_ok g.C.Cut.shard_of _ _ c.run_round.result c.in-Ok-run_round.outputs
    c.in-Ok-run_round.is c.run_round.ensures.ends.refused) c.in-Ok-run_round.ensures.answers
    c.in-Ok-push.ensures.items

pub returns-in-Err-clause-refused : goal.returns-in-Err-clause-refused
returns-in-Err-clause-refused g c =
    ends g.C.Cut.shard_of _ c.args.config c.args.rounds.now c.loop-index.index
    c.index-rounds-index.result c.loop-index.agent c.loop-index.made.items c.run_round.result
    c.in-Err.fault
    c.loop-index.invariant c.loop-index-test.true c.index-rounds-index.is
    c.run_round.ensures.ends.refused c.run_round.ensures.ends.memory c.in-Err.is

pub returns-in_default-push-clause-refused : goal.returns-in_default-push-clause-refused
returns-in_default-push-clause-refused g c =
    inl (
      true,
      refl,
      inr (
        c.loop-index-test.true,
        one_unrefused g.C.Cut.shard_of c.args.config c.args.rounds.now c.loop-index.index
            c.index-rounds-index.result c.loop-index.agent c.loop-index.made.items
            c.loop-index.invariant c.loop-index-test.true c.index-rounds-index.is
            (fine_where_ok g.C.Cut.shard_of _ _ c.run_round.result c.in-Ok-run_round.outputs
            c.in-Ok-run_round.is c.run_round.ensures.ends.refused),
      ),
    )

pub returns-in_default-clause-refused : goal.returns-in_default-clause-refused
returns-in_default-clause-refused g c = inl (true, refl, inl (refl, refl))

pub returns-clause-answers : goal.returns-clause-answers
returns-clause-answers g c =
    let over : length c.args.rounds.now ≤ c.loop-index.index =
    omega (arith, c.loop-index-test.false) in
    c.loop-index.invariant.answered
    ∙ ap (answers c.args.config) (take_all c.loop-index.index c.args.rounds.now over)

pub returns-clause-unrefused : goal.returns-clause-unrefused
returns-clause-unrefused g c =
    let over : length c.args.rounds.now ≤ c.loop-index.index =
    omega (arith, c.loop-index-test.false) in
    ap (refused c.args.config) (sym (take_all c.loop-index.index c.args.rounds.now over))
    ∙ c.loop-index.invariant.unrefused

pub returns-clause-each_request_once : goal.returns-clause-each_request_once
returns-clause-each_request_once g c =
    subst (GivesRequestsOnce c.args.config c.args.rounds.now) (sym (returns-clause-answers g c))
    (c.requests_given_once.ensures c.args.config c.args.rounds.now)

pub returns-clause-requests_by_id : goal.returns-clause-requests_by_id
returns-clause-requests_by_id g c =
    subst GivesRequestsById (sym (returns-clause-answers g c))
    (c.requests_given_by_id.ensures c.args.config c.args.rounds.now)

pub returns-clause-started_requests : goal.returns-clause-started_requests
returns-clause-started_requests g c =
    subst (GivesStartedRequests c.args.config c.args.rounds.now)
    (sym (returns-clause-answers g c))
    (c.started_requests_given.ensures c.args.config c.args.rounds.now)

pub returns-clause-provisionals_in_order : goal.returns-clause-provisionals_in_order
returns-clause-provisionals_in_order g c =
    subst (GivesProvisionalsInOrder c.args.config c.args.rounds.now)
    (sym (returns-clause-answers g c))
    (c.provisionals_given_in_order.ensures c.args.rounds.now)

pub returns-clause-nothing_after_the_end : goal.returns-clause-nothing_after_the_end
returns-clause-nothing_after_the_end g c =
    subst (GivesNothingAfterEnds c.args.config c.args.rounds.now)
    (sym (returns-clause-answers g c))
    (c.nothing_given_after_ends.ensures c.args.rounds.now)

pub returns-clause-sends_of_each_transaction : goal.returns-clause-sends_of_each_transaction
returns-clause-sends_of_each_transaction g c =
    subst (GivesOwnSends c.args.config c.args.rounds.now) (sym (returns-clause-answers g c))
    (c.own_sends_given.ensures c.args.config c.args.rounds.now)

pub returns-clause-notices_of_each_call : goal.returns-clause-notices_of_each_call
returns-clause-notices_of_each_call g c =
    subst (GivesOwnNotices c.args.config c.args.rounds.now) (sym (returns-clause-answers g c))
    (c.own_notices_given.ensures c.args.config c.args.rounds.now)
