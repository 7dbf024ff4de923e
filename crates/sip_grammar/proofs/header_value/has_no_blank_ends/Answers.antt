-- `has_no_blank_ends`: a text is equal to itself without white space at its ends exactly if its
-- first and last byte are no blanks.
use Rattle.sip_grammar.proofs.BlankEnds.{first_decides, last_decides}
use Rattle.sip_grammar.proofs.header_value.has_no_blank_ends.Goals as goal

pub returns-then-not-is_blank : goal.returns-then-not-is_blank
returns-then-not-is_blank c =
    last_decides c.args.text.now c.is_blank-in-len2-up.result c.is_blank-then-not-is_blank.result
    c.is_blank-in-len2-up.ensures c.if-not-is_blank.true c.is_blank-then-not-is_blank.ensures

pub returns-else-not-is_blank : goal.returns-else-not-is_blank
returns-else-not-is_blank c =
    first_decides c.args.text.now c.is_blank-in-len2-up.result c.is_blank-in-len2-up.ensures
    c.if-not-is_blank.false
