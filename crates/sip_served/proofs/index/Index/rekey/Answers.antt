-- `Index::rekey`: the index is that of the keys with the number's changed.
use Rattle.std.specs.Prelude.{None}
use Rattle.sip_served.specs.Steps.Index.{with_key}
use Rattle.sip_served.proofs.Indexes.{given_again, index_same, no_key, on_ok_mapped}
use Rattle.sip_served.proofs.index.Index.rekey.Goals as goal

pub returns : goal.returns
returns g c =
    let number = c.args.number in
    on_ok_mapped _ _ c.insert.result
    (λ inserted keys index is.
    index_same g.K.Ord.cmp c.insert.new.self
    (with_key (with_key keys number None) number c.args.key) (with_key keys number c.args.key)
    (given_again keys number c.args.key)
    (inserted (with_key keys number None) (c.remove.ensures keys index is) (no_key keys number)))
    c.insert.ensures
