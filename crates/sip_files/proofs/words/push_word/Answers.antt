-- `push_word` escapes a text that is one hyphen.
use Rattle.std.proofs.Common.{◌≡◌, ℕ, List, Result, Ok, Err, cond, sym, ◌∙◌}
use Rattle.std.specs.Result.{OnOk, is_ok}
use Rattle.sip_files.specs.Word.{spelled_word}
use Rattle.sip_files.proofs.words.push_word.Goals as goal

pushed : {A E : Type 0} (r : Result A E) (line more old : List ℕ) → line ≡ cond (is_ok r) more old
    → OnOk r (line ≡ more)
pushed (Ok x) line more old e = e
pushed (Err x) line more old e = tt

pub returns-then-eq : goal.returns-then-eq
unfolding spelled_word
returns-then-eq c =
    let some = sym c.is_empty.ensures ∙ c.if-is_empty.false in
    let hyphen = rw c.as_slice.ensures at (sym c.eq.ensures ∙ c.if-eq.true) in
    rw (some, hyphen) (pushed c.extend_from_slice-then-eq.result _ _ _
    c.extend_from_slice-then-eq.ensures.items)
