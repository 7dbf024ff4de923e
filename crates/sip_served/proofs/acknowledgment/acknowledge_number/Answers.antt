-- `acknowledge_number` takes the response of this RSeq out of the ledger, if it waits there.
use Rattle.sip_served.proofs.Numbers.{acknowledged_by}
use Rattle.sip_served.proofs.acknowledgment.acknowledge_number.Goals as goal

pub returns : goal.returns
returns c =
    acknowledged_by c.args.rseq c.args.ledger.now c.acknowledge.new.self c.acknowledge.result
    c.acknowledge.ensures.matches c.acknowledge.ensures.ok c.acknowledge.ensures.err
