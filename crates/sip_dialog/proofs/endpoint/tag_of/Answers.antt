-- `tag_of`: a tag that isn't empty is a token, so it may be copied as one.
use Rattle.std.proofs.Common.{sym, ap, ◌∙◌, length}
use Rattle.std.specs.Prelude.{◌==◌}
use Rattle.sip_dialog.proofs.Tags.{tag_is_token}
use Rattle.sip_dialog.proofs.endpoint.tag_of.Goals as goal

pub copy_of-requires : goal.copy_of-requires
copy_of-requires c =
    let some = ap (λ bytes. length bytes == 0) (sym c.tag-tag.ensures) ∙ sym c.is_empty.ensures
    ∙ c.if-is_empty.false in
    rw c.tag-tag.ensures
    (tag_is_token c.args.party.now.parameters some c.as_parameters-parameters.ensures.rule)
