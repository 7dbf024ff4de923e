-- `without`: the INVITE of the dialog that is gone made one less.
use Rattle.std.proofs.Common.{ap, rules, sym, ◌-◌, ◌∙◌}
use Rattle.std.specs.Option.{option_map_or}
use Rattle.sip_held_dialogs.specs.Counted.{count_at, count_of, one_by}
use Rattle.sip_held_dialogs.proofs.Counts.{count_left, counts_of}
use Rattle.sip_held_dialogs.proofs.dialog_map.Dialogs.without.Goals as goal

pub invariant_of-result-2 : goal.invariant_of-result-2
invariant_of-result-2 c = λ invite.
    let counted = counts_of c.self.inside.invites c.in-Some.invites c.self.inside.all.entries (search rules)
    c.self.invariant in
    c.count_out_former.ensures invite
    ∙ ap (λ former. count_at invite c.in-Some.invites.entries
    - option_map_or (one_by invite) former 0) c.as_ref.ensures.value
    ∙ ap (λ n. n - option_map_or (one_by invite) c.remove-held.result 0) (counted invite)
    ∙ sym (count_left c.args.name.now c.self.inside.all.entries invite c.remove-held.result
    (sym c.remove-held.ensures.value))
    ∙ ap (count_of invite) (sym c.remove-held.ensures.entries)
