-- The stations of several agents: their lines, and the ends of these.
use Rattle.std.proofs.Common.{◌≡◌, ℕ, suc, ◌<◌, arith, List, [], ◌∷◌, ◌++◌, length, map, Option, Some, None, IfSome, ap, refl, sym, subst, ◌∙◌}
use Rattle.std.proofs.lemmas.List.{map-append}
use Rattle.std.specs.Prelude.{slice_index_or}
use Rattle.std.specs.List.{AllZip}
use Rattle.sip_desk.specs.Lines.{IsPosterOf, KeepsLines}
use Rattle.sip_desk.specs.declared.desk.Desk.{Desk}
use Rattle.sip_desk.specs.declared.ended.Ended.{Ended}
use Rattle.sip_desk.specs.declared.poster.Poster.{Poster}
use Rattle.sip_files.proofs.HeadedLines.{zip_push}
use Rattle.sip_udp.specs.Hearing.{EndsLine}
use Rattle.sip_udp.specs.Stations.{EndsStation, KeepsItsLine}
use Rattle.sip_udp.specs.declared.other_station.OtherStation.{OtherStation}

module _ {A B : Type 0} (R : A → B → Type 0) where
  zip_last : (xs : List A) (x : A) (ys : List B) (y : B)
      → AllZip R (xs ++ x ∷ []) (ys ++ y ∷ []) → AllZip R xs ys × R x y
  zip_last [] x [] y all = (tt, all.0)
  zip_last [] x (b ∷ []) y all = elim all.1 [ ]
  zip_last [] x (b ∷ c ∷ ys) y all = elim all.1 [ ]
  zip_last (a ∷ []) x [] y all = elim all.1 [ ]
  zip_last (a ∷ c ∷ xs) x [] y all = elim all.1 [ ]
  zip_last (a ∷ xs) x (b ∷ ys) y all =
      let rest = zip_last xs x ys y all.1 in ((all.0, rest.0), rest.1)

-- what is true at each place is true pair by pair
pub zip_at : {A B : Type 0} (R : A → B → Type 0) (xs : List A) (ys : List B) → length ys ≡ length xs
    → ((i : ℕ) (d : B) → i < length xs
    → (a : A) × ((e : A) → slice_index_or xs i e ≡ a) × R a (slice_index_or ys i d)) → AllZip R xs ys
zip_at R [] [] same each = tt
zip_at R [] (y ∷ ys) same each = absurd (omega arith)
zip_at R (x ∷ xs) [] same each = absurd (omega arith)
zip_at {A} {B} R (x ∷ xs) (y ∷ ys) same each =
    let first = each 0 y (omega arith) in (
      subst (λ (a : A). R a y) (sym (first.1 x)) first.2,
      zip_at R xs ys (omega arith) (λ i d within. each (suc i) d (omega arith)),
    )

-- the last of the ends that are left is that of the last station that is left
pub last_end : {S D E : Type 0} (P : D → E → Type 0) (desk : S → D) (own : D)
    (all xs : List S) (x : S) (ends es : List E) (e : E) → all ≡ xs ++ x ∷ [] → ends ≡ es ++ e ∷ []
    → AllZip P (own ∷ map desk all) ends → AllZip P (own ∷ map desk xs) es × P (desk x) e
last_end P desk own all xs x ends es e is was zip =
    zip_last P (own ∷ map desk xs) (desk x) es e
    (subst (λ ds. AllZip P (own ∷ ds) (es ++ e ∷ []))
    (ap (map desk) is ∙ map-append desk xs (x ∷ []))
    (subst (λ en. AllZip P (own ∷ map desk all) en) was zip))

-- and the first is the station's own
pub own_end : {S D E : Type 0} (P : D → E → Type 0) (desk : S → D) (own : D) (all : List S)
    (ends es : List E) (e : E) → length all ≡ 0 → ends ≡ es ++ e ∷ []
    → AllZip P (own ∷ map desk all) ends → P own e
own_end P desk own [] ends es e none was zip =
    (zip_last P [] own es e (subst (λ en. AllZip P (own ∷ []) en) was zip)).1
own_end P desk own (x ∷ all) ends es e none was zip = absurd (omega (arith, none))

-- one more station, and its line
pub zip_added : {S D E : Type 0} (P : D → E → Type 0) (desk : S → D) (own : D)
    (xs all : List S) (x : S) (ls lines : List E) (l : E) → all ≡ xs ++ x ∷ [] → lines ≡ ls ++ l ∷ []
    → AllZip P (own ∷ map desk xs) ls → P (desk x) l → AllZip P (own ∷ map desk all) lines
zip_added P desk own xs all x ls lines l is was zip one =
    subst (λ ds. AllZip P (own ∷ ds) lines) (sym (ap (map desk) is ∙ map-append desk xs (x ∷ [])))
    (subst (λ es. AllZip P (own ∷ map desk xs ++ desk x ∷ []) es) (sym was)
    (zip_push P (own ∷ map desk xs) ls (desk x) l zip one))

pub zip_map : {S A : Type 0} (R : A → A → Type 0) (f : S → A) (xs ys : List S)
    → AllZip (λ x y. R (f x) (f y)) xs ys → AllZip R (map f xs) (map f ys)
zip_map R f [] [] all = tt
zip_map R f [] (y ∷ ys) all = elim all [ ]
zip_map R f (x ∷ xs) [] all = elim all [ ]
zip_map R f (x ∷ xs) (y ∷ ys) all = (all.0, zip_map R f xs ys all.1)

end_of_desk : {E : Type 0} (first last : Desk E) (line : Poster E) (end : Option (Ended E))
    → EndsLine line end → IsPosterOf first line → KeepsLines first last → EndsStation last end
end_of_desk first last line None ends posts keeps = tt
end_of_desk first last line (Some one) ends posts keeps = keeps.ends one (ends.of_desk first posts)

-- the ends of the lines of desks belong to these desks, whatever was collected since
pub ends_of_desks : {E : Type 0} (firsts lasts : List (Desk E)) (lines : List (Poster E))
    (ends : List (Option (Ended E))) → AllZip IsPosterOf firsts lines → AllZip KeepsLines firsts lasts
    → AllZip EndsLine lines ends → AllZip EndsStation lasts ends
ends_of_desks [] [] lines [] posts keeps all = tt
ends_of_desks [] [] [] (e ∷ ends) posts keeps all = elim all [ ]
ends_of_desks [] [] (l ∷ lines) (e ∷ ends) posts keeps all = elim posts [ ]
ends_of_desks [] (d ∷ lasts) lines ends posts keeps all = elim keeps [ ]
ends_of_desks (f ∷ firsts) [] lines ends posts keeps all = elim keeps [ ]
ends_of_desks (f ∷ firsts) (d ∷ lasts) [] ends posts keeps all = elim posts [ ]
ends_of_desks (f ∷ firsts) (d ∷ lasts) (l ∷ lines) [] posts keeps all = elim all [ ]
ends_of_desks (f ∷ firsts) (d ∷ lasts) (l ∷ lines) (e ∷ ends) posts keeps all = (
  end_of_desk f d l e all.0 posts.0 keeps.0,
  ends_of_desks firsts lasts lines ends posts.1 keeps.1 all.1,
)

pub some_end : {E X : Type 0} (items : X → List (Option (Ended E))) (firsts lasts : List (Desk E))
    (lines : List (Poster E)) (ends : Option X) → AllZip IsPosterOf firsts lines
    → AllZip KeepsLines firsts lasts → IfSome ends (λ es. AllZip EndsLine lines (items es))
    → IfSome ends (λ es. AllZip EndsStation lasts (items es))
some_end items firsts lasts lines None posts keeps all = tt
some_end items firsts lasts lines (Some es) posts keeps all =
    ends_of_desks firsts lasts lines (items es) posts keeps all

-- a station that stays as it is keeps its line
pub keeps_same : (other : OtherStation) → KeepsItsLine other other
keeps_same other =
    record { count = refl; posters = λ poster is. is; ends = λ ended is. is }
