-- `Index::insert`: the index is that of the keys with the number's added.
use Rattle.std.proofs.Common.{sym, subst, ◌∙◌}
use Rattle.sip_served.specs.Steps.Index.{IsIndexOf, with_key}
use Rattle.sip_served.proofs.Indexes.{index_same, put_in, same_at}
use Rattle.sip_served.proofs.index.Index.insert.Goals as goal

pub returns-in_default : goal.returns-in_default
returns-in_default g c = λ keys index absent.
    index_same g.K.Ord.cmp c.args.self.now keys (with_key keys c.args.number c.args.key)
    (λ n. same_at keys c.args.number c.args.key (absent ∙ sym c.in_default.is) n) index

pub returns : goal.returns
returns g c = λ keys index absent.
    subst (λ key. IsIndexOf g.K.Ord.cmp (with_key keys c.args.number key) c.insert.new.self.keys)
    (sym c.in-Some.is)
    (put_in g.met.K.Ord.total keys c.self.inside.pairs.keys c.insert.new.self.keys c.in-Some.key
    c.args.number (subst (IsIndexOf g.K.Ord.cmp keys) (sym c.self.view_is) index) absent
    c.in_ok-insert.ensures.updates.0)
