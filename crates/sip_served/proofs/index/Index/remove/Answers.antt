-- `Index::remove`: the index is that of the keys without the number's.
use Rattle.std.proofs.Common.{None, sym, subst, ◌∙◌}
use Rattle.sip_served.specs.Steps.Index.{IsIndexOf, with_key}
use Rattle.sip_served.proofs.Indexes.{index_same, taken_out, same_at}
use Rattle.sip_served.proofs.index.Index.remove.Goals as goal

pub returns-in_default : goal.returns-in_default
returns-in_default g c = λ keys index there.
    index_same g.K.Ord.cmp c.args.self.now keys (with_key keys c.args.number None)
    (λ n. same_at keys c.args.number None (there ∙ c.in_default.is) n) index

pub returns : goal.returns
returns g c = λ keys index there.
    taken_out g.met.K.Ord.total keys c.self.inside.pairs.keys c.remove.new.self.keys c.in-Some.key
    c.args.number (subst (IsIndexOf g.K.Ord.cmp keys) (sym c.self.view_is) index)
    (there ∙ c.in-Some.is) c.remove.ensures.updates.0
