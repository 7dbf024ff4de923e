-- `ByNumber::tick` ticks each request whose moment has come; the others stay as they are.
use Rattle.std.proofs.Common.{◌≡◌, ◌+◌, ◌++◌, ◌||◌, ◌∷◌, ℕ, Bool, List, None, cond, drop, get_or, refl, sym, ap, subst, ◌∙◌, arith}
use Rattle.std.specs.BTreeMap.{is_at}
use Rattle.std.specs.List.{list_any}
use Rattle.std.specs.List.Sorted.{IsStrictlySortedBy}
use Rattle.std.specs.Map.{values_of}
use Rattle.std.specs.Ordering.{nat_cmp}
use Rattle.std.proofs.lemmas.List.{append-nil, drop_all, drop_more}
use Rattle.std.proofs.lemmas.Map.Keys.{sorted_tail}
use Rattle.sip_timers.specs.Index as timers
use Rattle.sip_served.specs.Steps.Indexed.{due_at}
use Rattle.sip_served.specs.Tick.{is_kept_at}
use Rattle.sip_served.proofs.IndexedTicks.{below_ticked, first_hidden, hidden, hidden_next, none_hidden, ticked_at, told_at, told_next, whole_tick}
use Rattle.sip_served.proofs.Numbered.{at_itself}
use Rattle.sip_served.proofs.NumberedTicks.{all_ticked, all_told, has}
use Rattle.sip_served.proofs.by_number.ByNumber.tick.Goals as goal

pub loop-number-init : goal.loop-number-init
loop-number-init c =
    let requests = c.args.self.now.requests in
    let dues = c.requires.numbered.dues in
    let taken = c.in_ok-numbers.ensures in
    let same = c.as_slice-number-items.ensures.value in
    record {
      ordered = c.requires.numbered.in_order;
      below = λ next is. is;
      indices = c.requires.numbered.indices;
      dues = first_hidden c.args.now (due_at requests) c.as_slice-number-items.result.now
          c.take_due.new.self
          (λ q. ap (list_any (is_at (nat_cmp q))) same ∙ taken.given (due_at requests) dues q)
          (taken.left (due_at requests) dues);
      rises = subst (IsStrictlySortedBy nat_cmp) (sym same) (taken.in_order (due_at requests) dues);
      after = refl;
      said = refl;
    }

pub loop-number-preserved : goal.loop-number-preserved
loop-number-preserved c =
    let now = c.args.now in
    let numbers = c.as_slice-number-items.result.now in
    let i = c.loop-number.number-index in
    let number = get_or numbers i 0 in
    let rest = drop (i + 1) numbers in
    let so_far = c.loop-number.invariant in
    let old = c.loop-number.self.requests in
    let new = c.tick_number.new.self.requests in
    let done = c.in_ok-tick_number.ensures in
    let left : drop i numbers ≡ number ∷ rest =
    drop_more numbers i 0 c.loop-number-test.true in
    let rises = subst (IsStrictlySortedBy nat_cmp) left so_far.rises in
    record {
      ordered = done.ordered;
      below = λ next is. below_ticked old new now number done.moves next (so_far.below next is);
      indices = done.indices so_far.indices;
      dues = hidden_next old new now number done.moves rest c.tick_number.new.self.dues rises
          (done.dues (hidden (number ∷ rest) (due_at old))
          (subst (λ (ns : List ℕ). timers.IsIndexOf nat_cmp (hidden ns (due_at old))
          c.loop-number.self.dues) left so_far.dues)
          (ap (λ (b : Bool). cond (b || has number rest) None (due_at old number))
          (at_itself number)));
      rises = sorted_tail nat_cmp number rest rises;
      after = ap (all_ticked (ticked_at now) (is_kept_at now) (told_at now) rest) done.requests
          ∙ sym (ap (λ (ns : List ℕ). all_ticked (ticked_at now) (is_kept_at now) (told_at now) ns
          old.entries) left) ∙ so_far.after;
      said = told_next now number (drop i numbers) rest old new c.loop-number.outs.items
          c.tick_number.new.outs.items left done.requests done.outs ∙ so_far.said;
    }

pub returns-clause-numbered : goal.returns-clause-numbered
returns-clause-numbered c =
    let numbers = c.as_slice-number-items.result.now in
    let i = c.loop-number.number-index in
    let at_end = c.loop-number.invariant in
    record {
      in_order = at_end.ordered;
      indices = at_end.indices;
      dues = none_hidden (due_at c.loop-number.self.requests) (drop i numbers)
          c.loop-number.self.dues (drop_all i numbers (omega arith)) at_end.dues;
    }

pub returns-clause-held : goal.returns-clause-held
returns-clause-held c =
    let now = c.args.now in
    let requests = c.args.self.now.requests in
    let dues = c.requires.numbered.dues in
    let numbers = c.as_slice-number-items.result.now in
    let same = c.as_slice-number-items.ensures.value in
    let i = c.loop-number.number-index in
    let taken = c.in_ok-numbers.ensures in
    ap (λ (ns : List ℕ). values_of (all_ticked (ticked_at now) (is_kept_at now) (told_at now) ns
    c.loop-number.self.requests.entries)) (sym (drop_all i numbers (omega arith)))
    ∙ ap values_of c.loop-number.invariant.after
    ∙ (whole_tick now requests c.requires.numbered.in_order numbers
    (subst (IsStrictlySortedBy nat_cmp) (sym same) (taken.in_order (due_at requests) dues))
    (λ q. ap (list_any (is_at (nat_cmp q))) same ∙ taken.given (due_at requests) dues q)).0

pub returns-clause-outs : goal.returns-clause-outs
returns-clause-outs c =
    let now = c.args.now in
    let requests = c.args.self.now.requests in
    let dues = c.requires.numbered.dues in
    let numbers = c.as_slice-number-items.result.now in
    let same = c.as_slice-number-items.ensures.value in
    let i = c.loop-number.number-index in
    let taken = c.in_ok-numbers.ensures in
    let outs = c.loop-number.outs.items in
    sym (append-nil outs)
    ∙ ap (λ (ns : List ℕ). outs ++ all_told (ticked_at now) (is_kept_at now) (told_at now) ns
    c.loop-number.self.requests.entries) (sym (drop_all i numbers (omega arith)))
    ∙ c.loop-number.invariant.said
    ∙ ap (λ told. c.args.outs.now.items ++ told)
    ((whole_tick now requests c.requires.numbered.in_order numbers
    (subst (IsStrictlySortedBy nat_cmp) (sym same) (taken.in_order (due_at requests) dues))
    (λ q. ap (list_any (is_at (nat_cmp q))) same ∙ taken.given (due_at requests) dues q)).1)
