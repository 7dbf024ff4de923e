-- `HeaderFields::fault`: a draft in which it finds no fault is complete. One look at each header is
-- enough
-- if all are there as they may be.
use Rattle.std.proofs.Common.{sym, ◌∙◌}
use Rattle.sip_headers.proofs.Completes.{complete_of}
use Rattle.sip_headers.proofs.OneLooks.{whole_faultless}
use Rattle.sip_headers.proofs.header_fields.HeaderFields.fault.Goals as goal

pub returns-in-None-repeated-clause-complete : goal.returns-in-None-repeated-clause-complete
returns-in-None-repeated-clause-complete c =
    complete_of c.args.self.now (sym c.has_bad_header.ensures ∙ c.if-has_bad_header.false)
    (sym c.in-None.ensures) (sym c.in-None-repeated.ensures)

pub returns-then-is_whole-clause-first : goal.returns-then-is_whole-clause-first
returns-then-is_whole-clause-first c =
    sym (whole_faultless c.args.self.now (sym c.is_whole.ensures ∙ c.if-is_whole.true)).0

pub returns-then-is_whole-clause-complete : goal.returns-then-is_whole-clause-complete
returns-then-is_whole-clause-complete c =
    (whole_faultless c.args.self.now (sym c.is_whole.ensures ∙ c.if-is_whole.true)).1
