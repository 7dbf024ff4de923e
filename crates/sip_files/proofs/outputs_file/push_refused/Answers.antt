-- `push_refused` writes the notice of a refused command, with the number of its refusal.
use Rattle.std.proofs.Common.{append_assoc}
use Rattle.sip_files.proofs.outputs_file.push_refused.Goals as goal

pub returns : goal.returns
returns c =
    rw (
      ← append_assoc,
      ← append_assoc,
      ← c.in_ok-push_form.ensures,
      ← c.in_ok-push_number.ensures,
      ← c.number.ensures,
      ← c.from.ensures,
    ) c.push_number-2.ensures
