-- The law `what_headers_are`: a draft holds exactly the headers of its lines, or has the first
-- fault.
use Rattle.sip_headers.proofs.HeaderFaults.{decided, headers_take}
use Rattle.sip_headers.proofs.HeaderSets.{headers_again}
use Rattle.sip_headers.proofs.laws.what_headers_are.Goals as goal

pub returns-clause-found : goal.returns-clause-found
returns-clause-found c lines h e = headers_take lines h e

pub returns-clause-only : goal.returns-clause-only
returns-clause-only c lines h is = headers_again h lines is

pub returns-clause-fault : goal.returns-clause-fault
returns-clause-fault c lines = decided lines
