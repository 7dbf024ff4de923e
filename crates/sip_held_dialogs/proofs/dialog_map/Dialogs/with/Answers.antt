-- `with`: the INVITE of the dialog made one more, and that of a replaced one one less.
use Rattle.std.proofs.Common.{ap, rules, sym, ◌+◌, ◌-◌, ◌∙◌}
use Rattle.std.specs.Option.{option_copied, option_map_or}
use Rattle.indexmap.specs.IndexMap.{insert_entry}
use Rattle.ordered_map.specs.OrderedMap.{Ordered}
use Rattle.sip_held_dialogs.specs.declared.held_dialog.DialogId.{DialogId}
use Rattle.sip_held_dialogs.specs.declared.held_dialog.HeldDialog.{HeldDialog}
use Rattle.sip_held_dialogs.specs.Counted.{count_of, one_by}
use Rattle.sip_held_dialogs.specs.Dialogs.{is_dialog_id}
use Rattle.sip_held_dialogs.proofs.Counts.{count_inserted, counts_of, if_ok}
use Rattle.sip_held_dialogs.proofs.dialog_map.Dialogs.with.Goals as goal

pub returns-in_ok-into_list : goal.returns-in_ok-into_list
returns-in_ok-into_list c =
    if_ok c.of_list.result _ _ c.of_list.ensures (λ dialogs is.
    is ∙ c.in_ok-into_list.ensures ∙ c.in_ok-insert.ensures
    ∙ ap (λ (all : Ordered DialogId HeldDialog).
    insert_entry is_dialog_id all.entries c.args.name c.args.made) c.self.view_is)

pub invariant_of-result-2 : goal.invariant_of-result-2
invariant_of-result-2 c = λ invite.
    let counted = counts_of c.self.inside.invites c.in-Some.invites c.self.inside.all.entries (search rules)
    c.self.invariant in
    c.in_ok-count_in.ensures invite
    ∙ ap (λ n. n + one_by invite c.args.made) (c.count_out_former.ensures invite)
    ∙ ap (λ n. (n - option_map_or (one_by invite) (option_copied c.get.result) 0)
    + one_by invite c.args.made) (counted invite)
    ∙ sym (count_inserted c.args.name c.args.made c.self.inside.all.entries invite
    (option_copied c.get.result) (sym c.get.ensures))
    ∙ ap (count_of invite) (sym c.in_ok-insert-2.ensures)

pub returns : goal.returns
returns c =
    c.in_ok-insert-2.ensures
    ∙ ap (λ (all : Ordered DialogId HeldDialog).
    insert_entry is_dialog_id all.entries c.args.name c.args.made) c.self.view_is
