-- `count_in`: an INVITE that made none before made one.
use Rattle.std.proofs.Common.{◌≡◌, ap, rules, refl, ◌∙◌}
use Rattle.std.specs.Prelude.{None}
use Rattle.std.specs.HashMap.{HashMap}
use Rattle.std.specs.Map.{lookup}
use Rattle.indexmap.specs.IndexMap.{insert_entry}
use Rattle.seeded_hash.specs.declared.hash_seed.HashSeed.{HashSeed}
use Rattle.sip_message.specs.declared.id.Id.{Id}
use Rattle.sip_held_dialogs.specs.declared.dialog_map.Made.{Made}
use Rattle.sip_held_dialogs.specs.Counted.{count_at}
use Rattle.sip_held_dialogs.specs.Ids.{is_id}
use Rattle.sip_held_dialogs.proofs.Counts.{counted_first}
use Rattle.sip_held_dialogs.proofs.dialog_map.count_in.Goals as goal

pub returns : goal.returns
returns c = λ id.
    let made : Made = record { count = 1; name = c.args.name } in
    let same : c.get_mut.follows.lender-at-none ≡ c.args.invites.now = search rules in
    let none : lookup (is_id c.args.invite) c.args.invites.now.entries ≡ None = search rules in
    ap (count_at id) c.in_ok-insert.ensures.entries
    ∙ ap (λ (invites : HashMap Id Made HashSeed).
    count_at id (insert_entry is_id invites.entries c.args.invite made)) same
    ∙ counted_first c.args.invite id made c.args.invites.now.entries none refl
