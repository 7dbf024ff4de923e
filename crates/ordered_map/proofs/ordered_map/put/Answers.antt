-- `put` writes a value in its place, or puts it first and then last.
use Rattle.std.proofs.Common.{rules, sym, ◌≡◌}
use Rattle.std.specs.Prelude.{None}
use Rattle.std.specs.Map.{lookup}
use Rattle.ordered_map.proofs.Inserts.{moved_last, set_inserted}
use Rattle.ordered_map.proofs.ordered_map.put.Goals as goal

pub returns-in-Some : goal.returns-in-Some
returns-in-Some g c =
    set_inserted g.K.PartialEq.eq c.args.key c.args.value c.args.map.now.entries _
    (sym c.in-Some.ensures.value)

pub returns : goal.returns
returns g c =
    let same : c.in_ok-last.last ≡ c.args.key = search rules in
    let none : lookup (g.K.PartialEq.eq c.args.key) c.args.map.now.entries ≡ None =
    search rules in
    rw (c.demote.ensures.entries, same, c.in_ok-put_first.ensures none)
    (moved_last g.K.PartialEq.eq c.args.key c.args.value g.met.K.Eq.laws c.args.map.now.entries
    none)
