-- Lemmas on merges, when marked events are joined or cut.
use Rattle.std.proofs.Common.{◌≡◌, ℕ, ◌+◌, ◌<◌, ◌≤◌, inl, inr, List, [], ◌∷◌, ◌++◌, map, refl, sym, ap, subst, ◌∙◌, append_assoc, arith, length}
use Rattle.std.specs.Prelude.{filter, ◌==◌}
use Rattle.std.specs.List.{flat_map}
use Rattle.std.proofs.lemmas.Bool.{cases_eq, cases_lt}
use Rattle.std.proofs.lemmas.List.{append-nil, map-append, length-append}
use Rattle.rtrb.specs.Ring.{known_items}
use Rattle.sip_desk.proofs.Rings.{map_or_past}
use Rattle.std.proofs.lemmas.List.Elements.{filter-append}
use Rattle.sip_desk.specs.declared.desk.Desk.{Desk}
use Rattle.sip_desk.specs.declared.ended.Ended.{Ended}
use Rattle.sip_desk.specs.declared.settle_fault.SettleFault.TheVariants.{NotDrained}
use Rattle.sip_desk.specs.Merge.{part_of, unmarked, IsMerge, HoldsParts}
use Rattle.sip_desk.specs.Lines.{line_count, taken, seen, all_posted, Gives, Pops, TakesNothing, KeepsLines}
use Rattle.sip_desk.specs.Collected.{Collects, Gathers, IsDry, Because}

nil_cons : {E : Type 0} (x : E) (xs : List E) → [] ≡ x ∷ xs → ⊥
nil_cons x xs same = cc

same_head : {E : Type 0} (x y : E) (xs ys : List E) → x ∷ xs ≡ y ∷ ys → x ≡ y
same_head x y xs ys same = cc

same_tail : {E : Type 0} (x y : E) (xs ys : List E) → x ∷ xs ≡ y ∷ ys → xs ≡ ys
same_tail x y xs ys same = cc

module _ {E : Type 0} where
  part_of-append : (line : ℕ) (some more : List (ℕ × E))
      → part_of line (some ++ more) ≡ part_of line some ++ part_of line more
  part_of-append line some more =
      ap (map (λ (event : ℕ × E). event.1))
      (filter-append (λ (event : ℕ × E). event.0 == line) some more)
      ∙ map-append (λ (event : ℕ × E). event.1) (filter (λ (event : ℕ × E). event.0 == line) some)
      (filter (λ (event : ℕ × E). event.0 == line) more)

  -- ---- one merge after another

  merge_then : (parts others : ℕ → List E) (some more : List E) → IsMerge parts some
      → IsMerge others more → IsMerge (λ line. parts line ++ others line) (some ++ more)
  merge_then parts others some more first then = (
    first.0 ++ then.0,
    map-append (λ (event : ℕ × E). event.1) first.0 then.0
        ∙ ap (λ xs. xs ++ unmarked then.0) first.1 ∙ ap (λ ys. some ++ ys) then.1,
    λ line. part_of-append line first.0 then.0 ∙ ap (λ xs. xs ++ part_of line then.0) (first.2 line)
        ∙ ap (λ ys. parts line ++ ys) (then.2 line),
  )

  gives_then : (first between last : Desk E) (line : ℕ) (some more : List E)
      → Gives first between line some → Gives between last line more
      → Gives first last line (some ++ more)
  gives_then first between last line some more one two =
      let (rest, is) = one.1 in
      let (others, are) = two.1 in (
        two.0 ∙ ap (λ xs. xs ++ more) one.0 ∙ append_assoc (taken first line) some more,
        (
          rest ++ others,
          sym (append_assoc (seen first line) rest others) ∙ ap (λ xs. xs ++ others) is
              ∙ append_assoc some (seen between line) others
              ∙ ap (λ xs. some ++ xs) are ∙ sym (append_assoc some more (seen last line)),
        ),
      )

  pub collects_then : (first between last : Desk E) (some more : List E)
      → Collects first between some → Collects between last more
      → Collects first last (some ++ more)
  collects_then first between last some more one two = (
    λ line. one.0 line ++ two.0 line,
    merge_then one.0 two.0 some more one.1 two.1,
    λ line. gives_then first between last line (one.0 line) (two.0 line) (one.2 line) (two.2 line),
  )

  collects_none : (old new : Desk E) → TakesNothing old new → Collects old new []
  collects_none old new same = (
    λ line. [],
    ([], refl, λ line. refl),
    λ line. ((same line).0 ∙ sym (append-nil (taken old line)), (same line).1),
  )

  collects_one : (old new : Desk E) (line : ℕ) (event : E) → Pops old new line event
      → Collects old new (event ∷ [])
  collects_one old new line event pops = (
    λ other. part_of other ((line, event) ∷ []),
    ((line, event) ∷ [], refl, λ other. refl),
    pops,
  )

  -- ---- the events that a loop gathers

  pub gathers_nothing : (desk : Desk E) (events : List E) → Gathers desk desk events events
  gathers_nothing desk events = (
    [],
    sym (append-nil events),
    collects_none desk desk (λ line. (refl, ([], append-nil (seen desk line)))),
  )

  pub gathers_then : (first between last : Desk E) (before middle after : List E)
      → Gathers first between before middle → Gathers between last middle after
      → Gathers first last before after
  gathers_then first between last before middle after one two = (
    one.0 ++ two.0,
    two.1 ∙ ap (λ xs. xs ++ two.0) one.1 ∙ append_assoc before one.0 two.0,
    collects_then first between last one.0 two.0 one.2 two.2,
  )

  pub gathers_one : (first between last : Desk E) (before middle after : List E) (line : ℕ)
      (event : E) → Gathers first between before middle → Pops between last line event
      → after ≡ middle ++ event ∷ [] → Gathers first last before after
  gathers_one first between last before middle after line event so_far pops pushed =
      gathers_then first between last before middle after so_far
      (event ∷ [], pushed, collects_one between last line event pops)

  pub gathers_none : (first between last : Desk E) (before middle : List E)
      → Gathers first between before middle → TakesNothing between last
      → Gathers first last before middle
  gathers_none first between last before middle so_far same =
      gathers_then first between last before middle middle so_far
      ([], sym (append-nil middle), collects_none between last same)

  pub keeps_itself : (desk : Desk E) → KeepsLines desk desk
  keeps_itself desk = record { count = refl; posters = λ poster of. of; ends = λ ended of. of }

  pub keeps_then : (first between last : Desk E) → KeepsLines first between
      → KeepsLines between last → KeepsLines first last
  keeps_then first between last one two = record {
    count = two.count ∙ one.count;
    posters = λ poster of. two.posters poster (one.posters poster of);
    ends = λ ended of. two.ends ended (one.ends ended of);
  }

  -- ---- a merge that is cut

  -- marked events, cut in two
  split : (front back : List E) (marked : List (ℕ × E)) → unmarked marked ≡ front ++ back
      → (first : List (ℕ × E)) × (second : List (ℕ × E)) × (first ++ second ≡ marked)
      × (unmarked first ≡ front) × (unmarked second ≡ back)
  split [] back marked is = ([], marked, refl, refl, is)
  split (x ∷ xs) back [] is =
      let none : [] ≡ x ∷ (xs ++ back) = is in absurd (nil_cons x (xs ++ back) none)
  split (x ∷ xs) back (m ∷ ms) is =
      let rest : unmarked ms ≡ xs ++ back = same_tail m.1 x (unmarked ms) (xs ++ back) is in
      let head : m.1 ≡ x = same_head m.1 x (unmarked ms) (xs ++ back) is in
      let (first, second, whole, front_is, back_is) = split xs back ms rest in (
        m ∷ first,
        second,
        ap (λ ys. m ∷ ys) whole,
        ap (λ y. y ∷ unmarked first) head
            ∙ ap (λ ys. x ∷ ys) front_is,
        back_is,
      )

  -- marked events, cut into rounds
  cut : (rounds : List (List E)) (marked : List (ℕ × E))
      → unmarked marked ≡ flat_map (λ round. round) rounds
      → (cuts : List (List (ℕ × E))) × (map unmarked cuts ≡ rounds)
      × (flat_map (λ c. c) cuts ≡ marked)
  cut [] [] is = ([], refl, refl)
  cut [] (m ∷ ms) is = absurd (nil_cons m.1 (unmarked ms) (sym is))
  cut (round ∷ rounds) marked is =
      let halves = split round (flat_map (λ r. r) rounds) marked is in
      let rest = cut rounds halves.1 halves.4 in (
        halves.0 ∷ rest.0,
        ap (λ r. r ∷ map unmarked rest.0) halves.3 ∙ ap (λ rs. round ∷ rs) rest.1,
        ap (λ ms. halves.0 ++ ms) rest.2 ∙ halves.2,
      )

  part_of-joined : (line : ℕ) (cuts : List (List (ℕ × E)))
      → flat_map (part_of line) cuts ≡ part_of line (flat_map (λ c. c) cuts)
  part_of-joined line [] = refl
  part_of-joined line (c ∷ cs) =
      ap (λ more. part_of line c ++ more) (part_of-joined line cs)
      ∙ sym (part_of-append line c (flat_map (λ d. d) cs))

  pub holds_parts : (parts : ℕ → List E) (rounds : List (List E))
      → IsMerge parts (flat_map (λ round. round) rounds) → HoldsParts parts rounds
  holds_parts parts rounds merge =
      let cuts = cut rounds merge.0 merge.1 in (
        cuts.0,
        cuts.1,
        λ line. part_of-joined line cuts.0 ∙ ap (part_of line) cuts.2 ∙ merge.2 line,
      )

  pub holds_taken : (first last : Desk E) (rounds : List (List E))
      → ((line : ℕ) → taken first line ≡ [])
      → Collects first last (flat_map (λ round. round) rounds) → HoldsParts (taken last) rounds
  holds_taken first last rounds untaken collected =
      let held = holds_parts collected.0 rounds collected.1 in (
        held.0,
        held.1,
        λ line. held.2 line
            ∙ sym ((collected.2 line).0 ∙ ap (λ xs. xs ++ collected.0 line) (untaken line)),
      )

-- what was gathered, from nothing, was collected
pub collected_all : {E : Type 0} (old new : Desk E) (events : List E) → Gathers old new [] events
    → Collects old new events
collected_all old new events gathered = subst (Collects old new) (sym gathered.1) gathered.2

-- ---- lines on which nothing is left that was seen

pub dry_more : {E : Type 0} (old new : Desk E) (line : ℕ) → ((j : ℕ) → j < line → seen old j ≡ [])
    → ((other : ℕ) → (other ≡ line → ⊥) → seen new other ≡ seen old other) → seen new line ≡ []
    → (j : ℕ) → j < line + 1 → seen new j ≡ []
dry_more old new line before others here = λ j below.
    elim (cases_eq j line) as (λ _. seen new j ≡ []) [
      | inl same ↦ subst (λ k. seen new k ≡ []) (sym same) here
      | inr apart ↦ let less : j < line = omega arith in others j apart ∙ before j less
    ]

pub dry_all : {E : Type 0} (desk : Desk E) (lines : ℕ) → line_count desk ≤ lines
    → ((j : ℕ) → j < lines → seen desk j ≡ []) → IsDry desk
dry_all desk lines all before = λ j.
    elim (cases_lt j lines) as (λ _. seen desk j ≡ []) [
      | inl below ↦ before j below
      | inr past ↦ map_or_past known_items desk.lines.items j (omega arith)
    ]

-- what was left and seen, and was then collected, isn't left again
pub not_left_again : {E : Type 0} (refused dry : Desk E) (ended : Ended E) (events : List E)
    → all_posted ended ≡ taken refused ended.line ++ seen refused ended.line
    → Collects refused dry events → IsDry dry → Because dry ended.line ended NotDrained → ⊥
not_left_again refused dry ended events all collected none because =
    let line : ℕ = ended.line in
    let (same, left, some, again) = because in
    let (longer, (rest, is)) = collected.2 line in
    let seen_then : length (seen refused line) + length rest ≡ length (collected.0 line)
    + length (seen dry line) =
    sym (length-append (seen refused line) rest) ∙ ap length is
    ∙ length-append (collected.0 line) (seen dry line) in
    let nothing : length (seen dry line) ≡ 0 = ap length (none line) in
    let first : length (all_posted ended) ≡ length (taken refused line)
    + length (seen refused line) =
    ap length all ∙ length-append (taken refused line) (seen refused line) in
    let then_all : length (all_posted ended) ≡ length (taken dry line) + length left =
    ap length again ∙ length-append (taken dry line) left in
    let grown : length (taken dry line) ≡ length (taken refused line) + length (collected.0 line) =
    ap length longer ∙ length-append (taken refused line) (collected.0 line) in
    absurd (omega arith)
