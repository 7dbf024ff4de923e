-- `put_first` puts a new key before all others.
use Rattle.std.proofs.Common.{rules}
use Rattle.ordered_map.proofs.Inserts.{put_first}
use Rattle.ordered_map.proofs.ordered_map.put_first.Goals as goal

pub returns : goal.returns
returns g c = λ none.
    rw c.in_ok-put.ensures.entries
    (put_first g.K.PartialEq.eq c.args.key c.args.value c.args.map.now none (search rules))
