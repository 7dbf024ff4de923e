-- `place_of`: what it finds is the first request of the id, and a change of that one is written at
-- its place. If it finds none, there is none.
use Rattle.sip_served.specs.State.{has_id}
use Rattle.sip_served.proofs.Places.{none_changed, none_found, first_found, first_changed}
use Rattle.sip_served.proofs.requests.place_of.Goals as goal

pub returns-clause-none : goal.returns-clause-none
returns-clause-none c =
    none_changed (has_id c.args.id) c.args.requests.now c.first_of.result c.first_of.ensures.place

pub returns-clause-unknown : goal.returns-clause-unknown
returns-clause-unknown c =
    none_found (has_id c.args.id) c.args.requests.now c.first_of.result c.first_of.ensures.place

pub returns-clause-found : goal.returns-clause-found
returns-clause-found c =
    first_found (has_id c.args.id) c.args.requests.now c.first_of.result c.first_of.ensures.place

pub returns-clause-changed : goal.returns-clause-changed
returns-clause-changed c =
    first_changed (has_id c.args.id) c.args.requests.now c.first_of.result c.first_of.ensures.place
