-- `gather` gives the dones in the order of their numbers.
use Rattle.std.proofs.Common.{rules}
use Rattle.std.proofs.lemmas.List.Sorted.{IsNonDecreasingBy-from_sort_by_key}
use Rattle.std.proofs.lemmas.Result.{IfOk-weaker}
use Rattle.sip_workers.proofs.Gathers.{rising}
use Rattle.sip_workers.proofs.gathered.gather.Goals as goal

pub returns : goal.returns
returns g c =
    let sorted = c.sort_unstable_by_key.new.self.items in
    let same = c.sort_unstable_by_key.ensures.permutation in
    let up = rising c.args.dones.items sorted same c.requires
    (IsNonDecreasingBy-from_sort_by_key (λ d. d.0) _ c.sort_unstable_by_key.ensures.sorted
    (λ a r q k. search rules)) in
    IfOk-weaker c.without_numbers.result _ _
    (λ bare is. (sorted, same, up, is)) c.without_numbers.ensures
