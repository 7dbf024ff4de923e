-- Lines that show happenings, one after another.
use Rattle.std.proofs.Common.{◌≡◌, ℕ, ◌+◌, ◌<◌, List, [], ◌∷◌, ◌++◌, length, map, get_or, take, fold, ap, refl, subst, sym, ◌∙◌, append_assoc, append-nil}
use Rattle.std.specs.Prelude.{OnOk, Result, Ok, Err}
use Rattle.std.proofs.lemmas.List.{map-append, map_more}
use Rattle.sip_round.specs.declared.round.Round.{Round}
use Rattle.sip_round.specs.declared.output.Output.{Output}
use Rattle.sip_ladder.specs.declared.line.Line.{Line}
use Rattle.sip_ladder.specs.Shapes.{Happening, Shows, happenings, names_of, round_happenings, shape, shape_of, shapes_after}

abbrev pub Names : Type 0
Names = List (List ℕ)

-- ---- one list of happenings after another

pub shapes_append : (names : Names) (xs ys : List Happening)
    → shapes_after names (xs ++ ys)
    ≡ shapes_after names xs ++ shapes_after (fold names_of names xs) ys
shapes_append names [] ys = refl
shapes_append names (x ∷ xs) ys =
    ap (λ more. shape_of names x ∷ more) (shapes_append (names_of names x) xs ys)

pub names_append : (names : Names) (xs ys : List Happening)
    → fold names_of names (xs ++ ys) ≡ fold names_of (fold names_of names xs) ys
names_append names [] ys = refl
names_append names (x ∷ xs) ys = names_append (names_of names x) xs ys

pub both : (xs ys : List Happening) (old mid new : List Line) (names middle after : Names)
    → Shows xs old mid names middle → Shows ys mid new middle after
    → Shows (xs ++ ys) old new names after
both xs ys old mid new names middle after first second = (
  second.0 ∙ ap (λ l. l ++ shapes_after middle ys) first.0
      ∙ append_assoc (map shape old) (shapes_after names xs) (shapes_after middle ys)
      ∙ ap (λ n. map shape old ++ (shapes_after names xs ++ shapes_after n ys)) first.1
      ∙ ap (λ l. map shape old ++ l) (sym (shapes_append names xs ys)),
  second.1 ∙ ap (λ n. fold names_of n ys) first.1 ∙ sym (names_append names xs ys),
)

-- one more line
pub one_line : (x : Happening) (old new : List Line) (line : Line) (names after : Names)
    → new ≡ old ++ line ∷ [] → shape line ≡ shape_of names x → after ≡ names_of names x
    → Shows (x ∷ []) old new names after
one_line x old new line names after pushed shows taken = (
  ap (map shape) pushed ∙ map-append shape old (line ∷ [])
      ∙ ap (λ s. map shape old ++ s ∷ []) shows,
  taken,
)

-- no line yet
pub none : (old : List Line) (names : Names) → Shows [] old old names names
none old names = (sym (append-nil (map shape old)), refl)

-- the next item of a list of events, or of outputs
pub one_more : {A : Type 0} (happens : A → Happening) (xs : List A) (i : ℕ) (x : A)
    (old now next : List Line) (line : Line) (names middle after : Names)
    → i < length xs → x ≡ get_or xs i x
    → Shows (map happens (take i xs)) old now names middle → next ≡ now ++ line ∷ []
    → shape line ≡ shape_of middle (happens x) → after ≡ names_of middle (happens x)
    → Shows (map happens (take (i + 1) xs)) old next names after
one_more happens xs i x old now next line names middle after lt is so_far pushed shows taken =
    subst (λ hs. Shows hs old next names after)
    (ap (λ y. map happens (take i xs) ++ happens y ∷ []) is ∙ sym (map_more happens xs i x lt))
    (both (map happens (take i xs)) (happens x ∷ []) old now next names middle after so_far
    (one_line (happens x) now next line middle after pushed shows taken))

-- ---- one round after another

-- what was shown, and what is left to show
abbrev pub Left : List Happening → List Line → Names → List Happening → Type 0
Left all lines names left = shapes_after [] all ≡ map shape lines ++ shapes_after names left

pub one_round : (all : List Happening) (rounds_left after : List Round) (round : Round)
    (left more : List (List Output)) (outputs : List Output) (lines next : List Line)
    (names then : Names) → Left all lines names (happenings rounds_left left)
    → rounds_left ≡ round ∷ after → left ≡ outputs ∷ more
    → Shows (round_happenings round outputs) lines next names then
    → Left all next then (happenings after more)
one_round all rounds_left after round left more outputs lines next names then so_far first given
    added =
    let hs = round_happenings round outputs in
    so_far ∙ ap (λ rs. map shape lines ++ shapes_after names (happenings rs left)) first
    ∙ ap (λ os. map shape lines ++ shapes_after names (happenings (round ∷ after) os)) given
    ∙ ap (λ l. map shape lines ++ l) (shapes_append names hs (happenings after more))
    ∙ sym (append_assoc (map shape lines) (shapes_after names hs)
    (shapes_after (fold names_of names hs) (happenings after more)))
    ∙ ap (λ l. l ++ shapes_after (fold names_of names hs) (happenings after more)) (sym added.0)
    ∙ ap (λ n. map shape next ++ shapes_after n (happenings after more)) (sym added.1)

pub no_rounds : (all : List Happening) (rounds_left : List Round) (left : List (List Output))
    (lines : List Line) (names : Names) → Left all lines names (happenings rounds_left left)
    → rounds_left ≡ [] → map shape lines ≡ shapes_after [] all
no_rounds all rounds_left left lines names so_far none =
    sym (so_far ∙ ap (λ rs. map shape lines ++ shapes_after names (happenings rs left)) none
    ∙ append-nil (map shape lines))

pub no_answers : (all : List Happening) (rounds_left : List Round) (left : List (List Output))
    (round : Round) (after : List Round)
    (lines : List Line) (names : Names) → Left all lines names (happenings rounds_left left)
    → rounds_left ≡ round ∷ after → left ≡ [] → map shape lines ≡ shapes_after [] all
no_answers all rounds_left left round after lines names so_far first none =
    sym (so_far ∙ ap (λ rs. map shape lines ++ shapes_after names (happenings rs left)) first
    ∙ ap (λ os. map shape lines ++ shapes_after names (happenings (round ∷ after) os)) none
    ∙ append-nil (map shape lines))

pub both_ok : {E : Type 0} (xs ys : List Happening) (old mid new : List Line)
    (names middle after : Names) (result : Result (Unit {0}) E)
    → Shows xs old mid names middle → OnOk result (Shows ys mid new middle after)
    → OnOk result (Shows (xs ++ ys) old new names after)
both_ok xs ys old mid new names middle after (Ok done) first second =
    both xs ys old mid new names middle after first second
both_ok xs ys old mid new names middle after (Err error) first second = tt
