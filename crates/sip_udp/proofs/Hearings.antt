-- What a listener has posted, from one datagram to the next, and at the ends of its lines.
use Rattle.std.proofs.Common.{◌≡◌, ℕ, zero, suc, ◌+◌, ◌-◌, ◌^◌, ◌≤◌, ◌<◌, arith, Bool, true, false, true≢false, List, [], ◌∷◌, ◌++◌, length, map, filter, Option, Some, None, Result, Ok, Err, inl, inr, ap, append-nil, append_assoc, length-append, refl, subst, sym, ◌∙◌, rules}
use Rattle.std.proofs.lemmas.Grind.{common_steps}
use Rattle.std.proofs.lemmas.List.{map-append}
use Rattle.std.proofs.lemmas.List.Elements.{filter-append, length_all_zip}
use Rattle.std.proofs.lemmas.List.Folds.{list_any-append}
use Rattle.std.proofs.lemmas.List.Sums.{sum_by-append}
use Rattle.std.specs.Prelude.{◌≢◌, ◌||◌, ◌&&◌, ◌==◌, ◌⊎◌, IfSome, IsOk, OnErr, OnOk, cond, count_by, is_ok, min, slice_get, slice_index_or, slice_set}
use Rattle.std.specs.List.{AllZip, list_any}
use Rattle.std.specs.Option.{option_and_then, option_map}
use Rattle.std.specs.Result.{result_err}
use Rattle.sip_desk.specs.Lines.{Pushes, SameLine, all_posted, capacity_of, posted}
use Rattle.sip_desk.specs.declared.ended.Ended.{Ended}
use Rattle.sip_desk.specs.declared.poster.Poster.{Poster}
use Rattle.sip_round.specs.declared.round.Event.{Event}
use Rattle.sip_udp.specs.Adds.{Adds}
use Rattle.sip_udp.specs.declared.fault.UaFault.{UaFault}
use Rattle.sip_udp.specs.declared.fault.UaFault.TheVariants.{NoMemory}
use Rattle.sip_udp.specs.Hearing.{EndsAsPosted, Hears, Posts, agent_of_event, ended_with, is_lost, is_lost_on, posted_by, put_on, stands_on}
use Rattle.sip_udp.proofs.Adding.{adds_more, adds_nothing}
use Rattle.sip_udp.proofs.Lined.{get_other}

some_is : {A : Type 0} {x y : A} → Some x ≡ Some y → x ≡ y
some_is is = search rules

-- ---- the other line at a place, of two lists that belong together

module _ {A B : Type 0} (R : A → B → Type 0) where
  record Pair (xs : List A) (number : ℕ) (y : B) : Type 0 where
    pub one : A
    pub at : slice_get xs number ≡ Some one
    pub is : R one y

  partner : (xs : List A) (ys : List B) (number : ℕ) (y : B) → AllZip R xs ys
      → slice_get ys number ≡ Some y → Pair xs number y
  partner [] [] number y all at = absurd (search rules)
  partner [] (z ∷ ys) number y all at = absurd all
  partner (x ∷ xs) [] number y all at = absurd all
  partner (x ∷ xs) (z ∷ ys) zero y all at =
      record { one = x; at = refl; is = subst (R x) (some_is at) all.0 }
  partner (x ∷ xs) (z ∷ ys) (suc number) y all at =
      let pair = partner xs ys number y all.1 at in
      record { one = pair.one; at = pair.at; is = pair.is }

-- the line of which all was posted
record Named (lines : List (Poster Event)) (number : ℕ) (all : List Event) : Type 0 where
  pub line : Poster Event
  pub at : slice_get lines number ≡ Some line
  pub is : all ≡ posted line

named_by : (found : Option (Poster Event)) (all : List Event) → option_map posted found ≡ Some all
    → (line : Poster Event) × ((found ≡ Some line) × (all ≡ posted line))
named_by None all is = absurd (search rules)
named_by (Some line) all is = (line, (refl, sym (some_is is)))

named : (lines : List (Poster Event)) (number : ℕ) (all : List Event)
    → posted_by lines number ≡ Some all → Named lines number all
named lines number all is =
    let found = named_by (slice_get lines number) all is in
    record { line = found.0; at = found.1.0; is = found.1.1 }

-- ---- before the first datagram

pub nothing_heard : (given : Option (List Event)) (lines : List (Poster Event))
    → Hears given given lines (posted_by lines) 0
nothing_heard given lines = record {
  heard = [];
  given = adds_nothing given;
  each = λ number line all at on.
      let same : all ≡ posted line = some_is (sym on ∙ ap (option_map posted) at) in
      record {
        put = same ∙ sym (append-nil (posted line));
        full = λ lost. absurd (true≢false (sym lost));
      };
  counted = refl;
}

-- ---- nothing comes

pub nothing_more : (old now next : Option (List Event)) (lines : List (Poster Event))
    (all_on : ℕ → Option (List Event)) (lost : ℕ) → Hears old now lines all_on lost
    → Adds now next [] → Hears old next lines all_on lost
nothing_more old now next lines all_on lost hears none = record {
  heard = hears.heard;
  given = subst (λ xs. Adds old next xs) (append-nil (map (λ one. one.0) hears.heard))
      (adds_more old now next (map (λ one. one.0) hears.heard) [] hears.given none);
  each = hears.each;
  counted = hears.counted;
}

-- ---- one more datagram

-- it is posted on the lines
abbrev pub PostsOne : List (Poster Event) → List (Poster Event) → Event × Bool → Type 0
PostsOne now next one = (number : ℕ) (line later : Poster Event)
    → slice_get now number ≡ Some line → slice_get next number ≡ Some later
    → Posts (length now) number line (posted later) (one ∷ [])

put_more : (agents number : ℕ) (heard : List (Event × Bool)) (one : Event × Bool)
    → put_on agents number (heard ++ one ∷ [])
    ≡ put_on agents number heard ++ put_on agents number (one ∷ [])
put_more agents number heard one =
    ap (map (λ one. one.0)) (filter-append (stands_on agents number) heard (one ∷ []))
    ∙ map-append (λ one. one.0) (filter (stands_on agents number) heard)
    (filter (stands_on agents number) (one ∷ []))

either_true : (a b : Bool) → (a || b) ≡ true → (a ≡ true) ⊎ (b ≡ true)
either_true a b is = search rules

posts_more : (agents number : ℕ) (line mid later : Poster Event) (heard : List (Event × Bool))
    (one : Event × Bool) → capacity_of mid ≡ capacity_of line
    → Posts agents number line (posted mid) heard
    → Posts agents number mid (posted later) (one ∷ [])
    → Posts agents number line (posted later) (heard ++ one ∷ [])
posts_more agents number line mid later heard one capacity first second = record {
  put = second.put ∙ ap (λ xs. xs ++ put_on agents number (one ∷ [])) first.put
      ∙ append_assoc (posted line) (put_on agents number heard) (put_on agents number (one ∷ []))
      ∙ ap (λ xs. posted line ++ xs) (sym (put_more agents number heard one));
  full = λ lost. elim (either_true (list_any (is_lost_on agents number) heard)
      (list_any (is_lost_on agents number) (one ∷ []))
      (sym (list_any-append (is_lost_on agents number) heard (one ∷ [])) ∙ lost)) [
        | inl before ↦ let longer : length (posted later) ≡ length (posted mid)
            + length (put_on agents number (one ∷ [])) = ap length second.put
            ∙ length-append (posted mid) (put_on agents number (one ∷ [])) in
            omega (arith, first.full before, longer)
        | inr last ↦ omega (arith, second.full last, capacity)
      ];
}

-- how many are lost, as it is counted: up to 2^64 - 1
abbrev pub lost_after : Bool → ℕ → ℕ
lost_after true lost = lost
lost_after false lost = min (lost + 1) (2 ^ 64 - 1)

least : (n : ℕ) → min (min n (2 ^ 64 - 1) + 1) (2 ^ 64 - 1) ≡ min (n + 1) (2 ^ 64 - 1)
least n = omega arith

count_more : (heard : List (Event × Bool)) (event : Event) (has_room : Bool) (lost : ℕ)
    → lost ≡ min (count_by is_lost heard) (2 ^ 64 - 1)
    → lost_after has_room lost
    ≡ min (count_by is_lost (heard ++ (event, has_room) ∷ [])) (2 ^ 64 - 1)
count_more heard event true lost is =
    let more = sum_by-append (λ one. cond (is_lost one) 1 0) heard ((event, true) ∷ []) in
    is ∙ ap (λ n. min n (2 ^ 64 - 1)) (sym (more ∙ omega arith))
count_more heard event false lost is =
    let more = sum_by-append (λ one. cond (is_lost one) 1 0) heard ((event, false) ∷ []) in
    ap (λ n. min (n + 1) (2 ^ 64 - 1)) is ∙ least (count_by is_lost heard)
    ∙ ap (λ n. min n (2 ^ 64 - 1)) (sym more)

pub one_heard : (old now next : Option (List Event)) (lines before after : List (Poster Event))
    (lost : ℕ) (event : Event) (has_room : Bool) → Hears old now lines (posted_by before) lost
    → AllZip SameLine lines before → AllZip SameLine before after → Adds now next (event ∷ [])
    → PostsOne before after (event, has_room)
    → Hears old next lines (posted_by after) (lost_after has_room lost)
one_heard old now next lines before after lost event has_room hears same kept adds posts =
    let one : Event × Bool = (event, has_room) in
    record {
      heard = hears.heard ++ one ∷ [];
      given = subst (λ xs. Adds old next xs)
          (sym (map-append (λ one. one.0) hears.heard (one ∷ [])))
          (adds_more old now next (map (λ one. one.0) hears.heard) (event ∷ []) hears.given adds);
      each = λ number line all at on.
          let last = named after number all on in
          let mid = partner SameLine before after number last.line kept last.at in
          let first = partner SameLine lines before number mid.one same mid.at in
          let is : first.one ≡ line = some_is (sym first.at ∙ at) in
          let capacity : capacity_of mid.one ≡ capacity_of line =
          subst (λ l. capacity_of mid.one ≡ capacity_of l) is (first.is).capacity in
          let agents : length before ≡ length lines =
          sym (length_all_zip SameLine lines before same) in
          subst (λ xs. Posts (length lines) number line xs (hears.heard ++ one ∷ [])) (sym last.is)
          (posts_more (length lines) number line mid.one last.line hears.heard one capacity
          (hears.each number line (posted mid.one) at (ap (option_map posted) mid.at))
          (subst (λ n. Posts n number mid.one (posted last.line) (one ∷ [])) agents
          (posts number mid.one last.line mid.at last.at)));
      counted = count_more hears.heard event has_room lost hears.counted;
    }

-- ---- one datagram on its line

not_less : (a b : ℕ) → (a < b → ⊥) → b ≤ a
not_less a zero apart = omega arith
not_less zero (suc b) apart = absurd (apart (omega arith))
not_less (suc a) (suc b) apart =
    let less = not_less a b (λ is. apart (omega (arith, is))) in
    omega (arith, less)

same_or : (a b : ℕ) → (a ≡ b) ⊎ ((a == b) ≡ false)
same_or zero zero = inl refl
same_or zero (suc b) = inr (search rules)
same_or (suc a) zero = inr (search rules)
same_or (suc a) (suc b) =
    let step : (suc a == suc b) ≡ (a == b) = search rules in
    elim (same_or a b) [ inl is ↦ inl (ap suc is) | inr apart ↦ inr (step ∙ apart) ]

set_at : {A : Type 0} (xs : List A) (k : ℕ) (y : A) → k < length xs
    → slice_get (slice_set xs k y) k ≡ Some y
set_at [] k y within = absurd (omega (arith, within))
set_at (x ∷ xs) zero y within = refl
set_at (x ∷ xs) (suc k) y within = set_at xs k y (omega (arith, within))

pub get_within : {A : Type 0} (xs : List A) (k : ℕ) (d : A) → k < length xs
    → slice_get xs k ≡ Some (slice_index_or xs k d)
get_within [] k d within = absurd (omega (arith, within))
get_within (x ∷ xs) zero d within = refl
get_within (x ∷ xs) (suc k) d within = get_within xs k d (omega (arith, within))

within_of : {A : Type 0} (xs : List A) (k : ℕ) (x : A) → slice_get xs k ≡ Some x → k < length xs
within_of [] k x at = absurd (search rules)
within_of (y ∷ xs) zero x at = omega arith
within_of (y ∷ xs) (suc k) x at =
    let within = within_of xs k x at in
    omega (arith, within)

-- what `post` does with it
pub record Posted (old mid : Poster Event) (event : Event) (has_room : Bool) : Type 0 where
  pub put : has_room ≡ true → posted mid ≡ posted old ++ event ∷ []
  pub kept : has_room ≡ false → posted mid ≡ posted old
  pub full : has_room ≡ false → capacity_of old ≤ length (posted old)

pub posted_as : (old mid : Poster Event) (event : Event) (result : Result Unit Event)
    → OnOk result (Pushes old mid event) → OnErr result (posted mid ≡ posted old)
    → (length (posted old) < capacity_of old → IsOk result) → Posted old mid event (is_ok result)
posted_as old mid event (Ok done) ok err room = record {
  put = λ is. ok;
  kept = λ apart. absurd (true≢false apart);
  full = λ apart. absurd (true≢false apart);
}
posted_as old mid event (Err back) ok err room = record {
  put = λ is. absurd (true≢false (sym is));
  kept = λ apart. err;
  full = λ apart. not_less (length (posted old)) (capacity_of old) (λ less. true≢false (sym (room less)));
}

-- on the line with another number nothing changes
elsewhere : (agents number : ℕ) (line : Poster Event) (event : Event) (has_room : Bool)
    → (agent_of_event agents event == number) ≡ false
    → Posts agents number line (posted line) ((event, has_room) ∷ [])
elsewhere agents number line event true apart = record {
  put = rw (apart) (sym (append-nil (posted line)));
  full = λ lost. absurd (true≢false (sym lost));
}
elsewhere agents number line event false apart = record {
  put = sym (append-nil (posted line));
  full = λ lost. absurd (true≢false (sym lost ∙ ap (λ b. b || false) apart));
}

here : (agents number : ℕ) (old mid : Poster Event) (event : Event) (has_room : Bool)
    → (agent_of_event agents event == number) ≡ true → Posted old mid event has_room
    → Posts agents number old (posted mid) ((event, has_room) ∷ [])
here agents number old mid event true is posts = record {
  put = rw (is) (posts.put refl);
  full = λ lost. absurd (true≢false (sym lost));
}
here agents number old mid event false is posts = record {
  put = posts.kept refl ∙ sym (append-nil (posted old));
  full = λ lost. subst (λ xs. capacity_of old ≤ length xs) (sym (posts.kept refl))
      (posts.full refl);
}

-- there is apart such line
pub posts_nowhere : (now : List (Poster Event)) (agent : ℕ) (event : Event)
    → agent ≡ agent_of_event (length now) event → length now ≤ agent
    → PostsOne now now (event, false)
posts_nowhere now agent event is beyond number line later at on =
    let within = within_of now number line at in
    let same : line ≡ later = some_is (sym at ∙ on) in
    subst (λ l. Posts (length now) number line (posted l) ((event, false) ∷ [])) same
    (elim (same_or (agent_of_event (length now) event) number) [
      | inl here ↦ absurd (omega (arith, within, beyond, is, here))
      | inr apart ↦ elsewhere (length now) number line event false apart
    ])

pub posts_at : (now : List (Poster Event)) (agent : ℕ) (old mid : Poster Event) (event : Event)
    (has_room : Bool) → agent ≡ agent_of_event (length now) event → slice_get now agent ≡ Some old
    → Posted old mid event has_room
    → PostsOne now (slice_set now agent mid) (event, has_room)
posts_at now agent old mid event has_room is found posts number line later at on =
    elim (same_or (agent_of_event (length now) event) number) [
      | inl same ↦ let place : agent ≡ number = is ∙ same in
          let first : old ≡ line = some_is (sym found ∙ ap (slice_get now) place ∙ at) in
          let last : mid ≡ later = some_is (sym (set_at now agent mid
          (within_of now agent old found)) ∙ ap (slice_get (slice_set now agent mid)) place ∙ on) in
          let there : (agent_of_event (length now) event == number) ≡ true =
          subst (λ n. (n == number) ≡ true) (sym same) (search rules) in
          subst (λ l. Posts (length now) number l (posted later) ((event, has_room) ∷ [])) first
          (subst (λ l. Posts (length now) number old (posted l) ((event, has_room) ∷ [])) last
          (here (length now) number old mid event has_room there posts))
      | inr apart ↦ let other : slice_get (slice_set now agent mid) number ≡ slice_get now number =
          get_other now agent mid number (λ e. true≢false (sym (subst
          (λ n. (n == number) ≡ true) (e ∙ is) (search rules)) ∙ apart)) in
          let same : line ≡ later = some_is (sym at ∙ sym other ∙ on) in
          subst (λ l. Posts (length now) number line (posted l) ((event, has_room) ∷ [])) same
          (elsewhere (length now) number line event has_room apart)
    ]

-- ---- the ends of the lines

final_by : (found : Option (Option (Ended Event))) (all : List Event)
    → option_and_then (λ end. option_map all_posted end) found ≡ Some all
    → (end : Ended Event) × ((found ≡ Some (Some end)) × (all ≡ all_posted end))
final_by None all is = absurd (search rules)
final_by (Some None) all is = absurd (search rules)
final_by (Some (Some end)) all is = (end, (refl, sym (some_is is)))

pub heard_all : (old new : Option (List Event)) (lines left : List (Poster Event))
    (ends : List (Option (Ended Event))) (lost : ℕ) → Hears old new lines (posted_by left) lost
    → AllZip EndsAsPosted left ends → Hears old new lines (ended_with ends) lost
heard_all old new lines left ends lost hears posts = record {
  heard = hears.heard;
  given = hears.given;
  each = λ number line all at on.
      let found = final_by (slice_get ends number) all on in
      let last = partner EndsAsPosted left ends number (Some found.0) posts found.1.0 in
      subst (λ xs. Posts (length lines) number line xs hears.heard)
      (sym (found.1.1 ∙ last.is))
      (hears.each number line (posted last.one) at (ap (option_map posted) last.at));
  counted = hears.counted;
}

-- unless memory ran out
pub all_heard : {X : Type 0} (items : X → List (Option (Ended Event)))
    (old new : Option (List Event)) (lines left : List (Poster Event)) (ends : Option X)
    (told : Option UaFault) (result : Result Unit UaFault) (lost : ℕ)
    → IfSome ends (λ es. told ≡ result_err result)
    → (result ≢ Err NoMemory → Hears old new lines (posted_by left) lost)
    → IfSome ends (λ es. AllZip EndsAsPosted left (items es))
    → IfSome ends (λ es. told ≢ Some NoMemory → Hears old new lines (ended_with (items es)) lost)
all_heard items old new lines left None told result lost is hears posts = tt
all_heard items old new lines left (Some es) told result lost is hears posts = λ other.
    heard_all old new lines left (items es) lost (hears (λ out. other (is ∙ ap result_err out)))
    posts
