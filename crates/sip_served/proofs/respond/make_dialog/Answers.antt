-- `make_dialog` puts the dialog of the answer among the held ones, under its name.
use Rattle.std.proofs.Common.{ap, ◌∙◌}
use Rattle.indexmap.specs.IndexMap.{insert_entry}
use Rattle.sip_held_dialogs.specs.Dialogs.{is_dialog_id}
use Rattle.sip_held_dialogs.specs.Requests.{dialog_id_of}
use Rattle.sip_served.specs.Respond.{made_dialog}
use Rattle.sip_served.proofs.respond.make_dialog.Goals as goal

pub returns : goal.returns
returns c =
    c.in_ok-insert.ensures
    ∙ (λ i. insert_entry is_dialog_id c.args.dialogs.now.entries
    ((c.in_ok-name.ensures
    ∙ ap (λ request. dialog_id_of request c.args.held.now.tag) c.get.ensures) i)
    ((c.in_ok-made.ensures ∙ ap (made_dialog c.args.event c.args.held.now) c.from_code.ensures)
    i))
