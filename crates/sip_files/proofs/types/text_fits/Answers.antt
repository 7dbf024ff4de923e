-- `text_fits`: each item of a slice of bytes is below 256, by its type.
use Rattle.sip_files.proofs.TypedTexts.{typed_bytes}
use Rattle.sip_files.proofs.types.text_fits.Goals as goal

pub returns : goal.returns
returns c = typed_bytes c.args.text.now c.type_inv.text
