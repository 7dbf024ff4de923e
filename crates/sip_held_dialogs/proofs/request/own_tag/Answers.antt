-- `own_tag`: a To tag that isn't empty is a token, so it can be copied as one.
use Rattle.std.proofs.Common.{sym, ap, ◌∙◌, length}
use Rattle.std.specs.Prelude.{◌==◌}
use Rattle.sip_dialog.proofs.Tags.{tag_is_token}
use Rattle.sip_held_dialogs.proofs.request.own_tag.Goals as goal

pub copy_of-requires : goal.copy_of-requires
copy_of-requires c =
    let text = c.tag-own.ensures in
    let some = ap (λ bytes. length bytes == 0) (sym text) ∙ sym c.is_empty.ensures
    ∙ c.if-is_empty.false in
    rw text (tag_is_token _ some c.as_parameters-parameters.ensures.rule)
