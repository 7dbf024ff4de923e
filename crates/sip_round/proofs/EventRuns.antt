-- Runs of a round's events: together they are all arrivals, and what they were set out as is
-- joined.
use Rattle.std.proofs.Common.{◌≡◌, ℕ, suc, ◌+◌, List, [], ◌∷◌, ◌++◌, length, map, sym, ◌∙◌, ap, arith, append_assoc, append-nil, subst}
use Rattle.std.specs.Prelude.{Result, Ok, IfOk}
use Rattle.std.specs.declared.alloc.AllocError.{AllocError}
use Rattle.std.specs.List.{AllZip, flat_map}
use Rattle.std.proofs.lemmas.Grind.{flat_map-append}
use Rattle.std.proofs.lemmas.List.{map-append}
use Rattle.std.proofs.lemmas.List.Folds.{flat_map-map}
use Rattle.sip_message.specs.declared.addr.Addr.{Addr}
use Rattle.sip_message.specs.declared.id.Id.{Id}
use Rattle.sip_message.specs.declared.key.Key.{Key}
use Rattle.keyed_machine.specs.declared.item.Item.{Item}
use Rattle.sip_transactions.specs.declared.input.Input.{Input}
use Rattle.sip_round.specs.declared.round.Event.{Event}
use Rattle.sip_round.specs.declared.waiting.Waiting.{Waiting}
use Rattle.sip_round.specs.declared.waiting.SetOut.{SetOut}
use Rattle.sip_round.specs.Arrivals.{Arrival, arrivals_from}
use Rattle.sip_round.specs.Phases.{transaction_item, transaction_items}
use Rattle.sip_round.specs.Steps.SetOut.{IsSetOut}
use Rattle.sip_round.specs.Steps.Waiting.{all_waiting, waiting_of}

-- ---- cutting

arrivals_apart : (local : Addr) (round place : ℕ) (front back : List Event)
    → arrivals_from local round place (front ++ back)
    ≡ arrivals_from local round place front
    ++ arrivals_from local round (place + length front) back
arrivals_apart local round place [] back =
    ap (λ n. arrivals_from local round n back) (at_once place)
  where
    at_once : (n : ℕ) → n ≡ n + 0
    at_once n = omega arith
arrivals_apart local round place (e ∷ es) back =
    ap (λ more. arrivals_from local round place (e ∷ []) ++ more)
    (arrivals_apart local round (suc place) es back
    ∙ ap (λ n. arrivals_from local round (suc place) es ++ arrivals_from local round n back)
    (one_later place (length es)))
  where
    one_later : (n k : ℕ) → suc n + k ≡ n + suc k
    one_later n k = omega arith

-- one more run
pub run_more : {P : Type 0} (of : P → List (Id × Arrival)) (local : Addr) (round before : ℕ)
    (runs newer : List P) (one : P) (run rest left : List Event) (whole : List (Id × Arrival))
    → newer ≡ runs ++ one ∷ [] → of one ≡ arrivals_from local round (before + 1) run
    → rest ≡ run ++ left
    → flat_map of runs ++ arrivals_from local round (before + 1) rest ≡ whole
    → flat_map of newer ++ arrivals_from local round (before + length run + 1) left ≡ whole
run_more of local round before runs newer one run rest left whole pushed is_run cut so_far =
    let later = arrivals_from local round (before + length run + 1) left in
    ap (λ rs. flat_map of rs ++ later) pushed
    ∙ ap (λ front. front ++ later) (flat_map-append of runs (one ∷ []))
    ∙ append_assoc (flat_map of runs) (of one ++ []) later
    ∙ ap (λ front. flat_map of runs ++ (front ++ later)) (append-nil (of one) ∙ is_run)
    ∙ ap (λ n. flat_map of runs
    ++ (arrivals_from local round (before + 1) run ++ arrivals_from local round n left))
    (numbers before (length run))
    ∙ ap (λ more. flat_map of runs ++ more)
    (sym (arrivals_apart local round (before + 1) run left))
    ∙ ap (λ es. flat_map of runs ++ arrivals_from local round (before + 1) es) (sym cut)
    ∙ so_far
  where
    numbers : (n k : ℕ) → n + k + 1 ≡ n + 1 + k
    numbers n k = omega arith

-- ---- joining

-- what a run was set out as, unless memory ran out
abbrev pub IsOf : List (Id × Arrival) → Result SetOut AllocError → Type 0
IsOf arrivals run = IfOk run (IsSetOut arrivals)

abbrev pub each : List (List (Id × Arrival)) → List (Id × Arrival)
each runs = flat_map (λ run. run) runs

-- what was joined so far, with what is left, is everything
pub record JoinsLeft (all : List (List (Id × Arrival))) (rest : List (Result SetOut AllocError))
    (items : List (Item Key Input)) (waiting : List (Id × Waiting)) : Type 0 where
  pub left : List (List (Id × Arrival))
  pub of : AllZip IsOf left rest
  pub items_left : items ++ transaction_items (each left) ≡ transaction_items (each all)
  pub waiting_left : waiting ++ all_waiting (each left) ≡ all_waiting (each all)

pub none_joined : (all : List (List (Id × Arrival))) (runs rest : List (Result SetOut AllocError))
    (items : List (Item Key Input)) (waiting : List (Id × Waiting)) → rest ≡ runs → items ≡ []
    → waiting ≡ [] → AllZip IsOf all runs → JoinsLeft all rest items waiting
none_joined all runs rest items waiting at_first no_items no_waiting of = record {
  left = all;
  of = subst (AllZip IsOf all) (sym at_first) of;
  items_left = ap (λ is. is ++ transaction_items (each all)) no_items;
  waiting_left = ap (λ ws. ws ++ all_waiting (each all)) no_waiting;
}

module _ (all : List (List (Id × Arrival))) (out : SetOut) (rest : List (Result SetOut AllocError))
    (items newer : List (Item Key Input)) (waiting later : List (Id × Waiting))
    (items_more : newer ≡ items ++ out.items.items)
    (waiting_more : later ≡ waiting ++ out.waiting.items) where
  joined_with : (left : List (List (Id × Arrival))) → AllZip IsOf left (Ok out ∷ rest)
      → items ++ transaction_items (each left) ≡ transaction_items (each all)
      → waiting ++ all_waiting (each left) ≡ all_waiting (each all)
      → JoinsLeft all rest newer later
  joined_with [] of items_left waiting_left = absurd of
  joined_with (run ∷ runs) of items_left waiting_left = record {
    left = runs;
    of = of.1;
    items_left = ap (λ is. is ++ transaction_items (each runs))
        (items_more ∙ ap (λ is. items ++ is) (of.0).items_are)
        ∙ append_assoc items (transaction_items run) (transaction_items (each runs))
        ∙ ap (λ is. items ++ is)
        (sym (flat_map-append (λ a. transaction_item a.0 a.1) run (each runs))) ∙ items_left;
    waiting_left = ap (λ ws. ws ++ all_waiting (each runs))
        (waiting_more ∙ ap (λ ws. waiting ++ ws) (of.0).waiting_are)
        ∙ append_assoc waiting (all_waiting run) (all_waiting (each runs))
        ∙ ap (λ ws. waiting ++ ws)
        (sym (map-append (λ a. (a.0, waiting_of a.1)) run (each runs))) ∙ waiting_left;
  }

  pub one_joined : JoinsLeft all (Ok out ∷ rest) items waiting → JoinsLeft all rest newer later
  one_joined so_far = joined_with so_far.left so_far.of so_far.items_left so_far.waiting_left

pub all_joined : (all : List (List (Id × Arrival))) (out : SetOut)
    → JoinsLeft all [] out.items.items out.waiting.items → IsSetOut (each all) out
all_joined all out so_far = whole so_far.left so_far.of so_far.items_left so_far.waiting_left
  where
    whole : (left : List (List (Id × Arrival))) → AllZip IsOf left []
        → out.items.items ++ transaction_items (each left) ≡ transaction_items (each all)
        → out.waiting.items ++ all_waiting (each left) ≡ all_waiting (each all)
        → IsSetOut (each all) out
    whole [] of items_left waiting_left = record {
      items_are = sym (append-nil out.items.items) ∙ items_left;
      waiting_are = sym (append-nil out.waiting.items) ∙ waiting_left;
    }
    whole (run ∷ runs) of items_left waiting_left = absurd of

-- ---- runs as pieces of work

pub of_pieces : {P : Type 0} (of : P → List (Id × Arrival)) (ps : List P)
    (dones : List (Result SetOut AllocError)) → AllZip (λ p done. IsOf (of p) done) ps dones
    → AllZip IsOf (map of ps) dones
of_pieces of [] [] given = tt
of_pieces of [] (d ∷ ds) given = absurd given
of_pieces of (p ∷ ps) [] given = absurd given
of_pieces of (p ∷ ps) (d ∷ ds) given = (given.0, of_pieces of ps ds given.1)

-- what is joined from all pieces is what all their runs are
pub whole_set_out : {P : Type 0} (of : P → List (Id × Arrival)) (ps : List P)
    (whole : List (Id × Arrival)) (out : SetOut) → flat_map of ps ≡ whole
    → IsSetOut (each (map of ps)) out → IsSetOut whole out
whole_set_out of ps whole out all joined =
    subst (λ arrivals. IsSetOut arrivals out) all
    (subst (λ arrivals. IsSetOut arrivals out) (flat_map-map (λ run. run) of ps) joined)
