-- `Desk::count_left` takes nothing from any line, and the lines stay the same.
use Rattle.std.proofs.Common.{◌<◌, length, refl}
use Rattle.rtrb.specs.Ring.{received, known_items, IsFinishedOf}
use Rattle.sip_desk.proofs.Rings.{within, element_at, nothing_more, keeps_lines}
use Rattle.sip_desk.proofs.desk.Desk.count_left.Goals as goal

pub returns-clause-untaken : goal.returns-clause-untaken
returns-clause-untaken g c =
    let below : c.args.ended.now.line < length c.args.self.now.lines.items =
    within (λ line. IsFinishedOf c.args.ended.now.ring line) c.args.self.now.lines.items
    c.args.ended.now.line c.requires in
    nothing_more received known_items c.args.self.now.lines.items c.args.ended.now.line
    c.index_mut.result.now c.slots_after.new.self below c.index_mut.ensures.value
    c.slots_after.ensures.looked.1 c.slots_after.ensures.looked.2

pub returns-clause-same : goal.returns-clause-same
returns-clause-same g c =
    let below : c.args.ended.now.line < length c.args.self.now.lines.items =
    within (λ line. IsFinishedOf c.args.ended.now.ring line) c.args.self.now.lines.items
    c.args.ended.now.line c.requires in
    keeps_lines _ _ c.args.ended.now.line c.index_mut.result.now c.slots_after.new.self
    (element_at c.args.self.now.lines.items c.args.ended.now.line c.index_mut.result.now below
    c.index_mut.ensures.value)
    c.slots_after.ensures.looked.0 refl
