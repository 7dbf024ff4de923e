-- `Desk::take_one` takes the next event of one line, or none; the other lines stay as they were.
use Rattle.std.proofs.Common.{[], refl, sym, ◌∙◌}
use Rattle.rtrb.specs.Ring.{received, known_items}
use Rattle.sip_desk.proofs.Rings.{ok_part, err_part, err_both, none_seen, prefix_of_none, element_at, map_or_set, map_or_set_other, one_more, nothing_more, keeps_lines}
use Rattle.sip_desk.proofs.desk.Desk.take_one.Goals as goal

pub returns-clause-some : goal.returns-clause-some
returns-clause-some g c =
    rw c.ok.ensures.value
    (ok_part (λ event popped. one_more received known_items c.args.self.now.lines.items c.args.line
    c.index_mut.result.now c.pop.new.self c.requires c.index_mut.ensures.value event popped.0
    popped.1) c.pop.result c.pop.ensures.ok)

pub returns-clause-none : goal.returns-clause-none
returns-clause-none g c =
    rw c.ok.ensures.value
    (err_both (λ empty none. nothing_more received known_items c.args.self.now.lines.items
    c.args.line c.index_mut.result.now c.pop.new.self c.requires c.index_mut.ensures.value
    empty.0
    (prefix_of_none (known_items c.index_mut.result.now) (known_items c.pop.new.self) none))
    c.pop.result c.pop.ensures.empty
    (none_seen (known_items c.index_mut.result.now) c.pop.result c.pop.ensures.succeeds))

pub returns-clause-dry : goal.returns-clause-dry
returns-clause-dry g c =
    rw c.ok.ensures.value
    (err_part (λ empty. map_or_set known_items [] c.args.self.now.lines.items c.args.line
    c.pop.new.self c.requires ∙ empty.1) c.pop.result c.pop.ensures.empty)

pub returns-clause-others : goal.returns-clause-others
returns-clause-others g c = λ other apart.
    map_or_set_other known_items [] c.args.self.now.lines.items c.args.line other c.pop.new.self
    (λ same. apart (sym same))

pub returns-clause-same : goal.returns-clause-same
returns-clause-same g c =
    keeps_lines _ _ c.args.line c.index_mut.result.now c.pop.new.self
    (element_at c.args.self.now.lines.items c.args.line c.index_mut.result.now c.requires
    c.index_mut.ensures.value)
    c.pop.ensures.ring refl
