-- Tables and parts, put together as pieces of work, and taken apart again.
use Rattle.std.proofs.Common.{◌≡◌, List, [], ◌∷◌, ◌++◌, length, map, sym, ◌∙◌, ap, subst, arith, append_assoc, append-nil}
use Rattle.std.specs.Prelude.{Result, Ok}
use Rattle.std.specs.List.{AllByRecursion, flat_map}
use Rattle.std.proofs.lemmas.Grind.{flat_map-append}
use Rattle.std.proofs.lemmas.List.{map-append}
use Rattle.sip_shards.specs.AllShards.{IsApart}

all_pushed : {P : Type 0} (Q : P → Type 0) (ps : List P) (p : P) → AllByRecursion Q ps → Q p
    → AllByRecursion Q (ps ++ p ∷ [])
all_pushed Q [] p all one = (one, tt)
all_pushed Q (q ∷ ps) p all one = (all.0, all_pushed Q ps p all.1 one)

-- a list is mapped one element after another; what is left stays behind
map_pushed : {P T : Type 0} (f : P → T) (ps : List P) (p : P) (t : T) (left all : List T) → f p ≡ t
    → map f ps ++ t ∷ left ≡ all → map f (ps ++ p ∷ []) ++ left ≡ all
map_pushed f ps p t left all is so_far =
    ap (λ xs. xs ++ left) (map-append f ps (p ∷ [])) ∙ append_assoc (map f ps) (f p ∷ []) left
    ∙ ap (λ x. map f ps ++ x ∷ left) is ∙ so_far

-- the pieces so far, and the tables and parts that are left
pub record PiecesLeft {P T X : Type 0} (table : P → T) (items : P → X) (Same : P → Type 0)
    (tables left_tables : List T) (parts left_parts : List X) (pieces : List P) : Type 0 where
  pub tables_are : map table pieces ++ left_tables ≡ tables
  pub parts_are : map items pieces ++ left_parts ≡ parts
  pub shared : AllByRecursion Same pieces
  pub even : length left_parts ≡ length left_tables

module _ {P T X : Type 0} (table : P → T) (items : P → X) (Same : P → Type 0) (tables : List T)
    (parts : List X) where
  pub one_piece : (t : T) (was_tables left_tables : List T) (x : X) (was_parts left_parts : List X)
      (pieces newer : List P) (p : P) → was_tables ≡ t ∷ left_tables → was_parts ≡ x ∷ left_parts
      → newer ≡ pieces ++ p ∷ []
      → table p ≡ t → items p ≡ x → Same p
      → PiecesLeft table items Same tables was_tables parts was_parts pieces
      → PiecesLeft table items Same tables left_tables parts left_parts newer
  one_piece t was_tables left_tables x was_parts left_parts pieces newer p were_tables were_parts
      pushed is_table is_items same left = record {
        tables_are = ap (λ ps. map table ps ++ left_tables) pushed
            ∙ map_pushed table pieces p t left_tables tables is_table
            (ap (λ ts. map table pieces ++ ts) (sym were_tables) ∙ left.tables_are);
        parts_are = ap (λ ps. map items ps ++ left_parts) pushed
            ∙ map_pushed items pieces p x left_parts parts is_items
            (ap (λ xs. map items pieces ++ xs) (sym were_parts) ∙ left.parts_are);
        shared = subst (AllByRecursion Same) (sym pushed)
            (all_pushed Same pieces p left.shared same);
        even = omega (arith, left.even, ap length were_tables, ap length were_parts);
      }

-- ---- dones

-- the dones so far, taken apart, and those that are left
pub record DonesLeft {D E T X Y : Type 0} (table : D → T) (ticks : D → List X) (items : D → List Y)
    (dones left : List (Result D E)) (tables : List T) (all_ticks : List X)
    (all_items : List Y) : Type 0 where
  pub dealt : List D
  pub split : map Ok dealt ++ left ≡ dones
  pub tables_are : tables ≡ map table dealt
  pub ticks_are : all_ticks ≡ flat_map ticks dealt
  pub items_are : all_items ≡ flat_map items dealt

module _ {D E T X Y : Type 0} (table : D → T) (ticks : D → List X) (items : D → List Y)
    (dones : List (Result D E)) where
  pub no_dones : (left : List (Result D E)) (tables : List T) (said : List X) (added : List Y)
      → left ≡ dones → tables ≡ [] → said ≡ [] → added ≡ []
      → DonesLeft table ticks items dones left tables said added
  no_dones left tables said added all no_tables no_ticks no_items =
      record {
        dealt = [];
        split = all;
        tables_are = no_tables;
        ticks_are = no_ticks;
        items_are = no_items;
      }

  pub one_done : (d : D) (was left : List (Result D E)) (tables newer : List T) (t : T)
      (said more_said : List X) (added more_added : List Y) → was ≡ Ok d ∷ left
      → newer ≡ tables ++ t ∷ [] → table d ≡ t → more_said ≡ said ++ ticks d
      → more_added ≡ added ++ items d
      → DonesLeft table ticks items dones was tables said added
      → DonesLeft table ticks items dones left newer more_said more_added
  one_done d was left tables newer t said more_said added more_added were is_newer is_table is_said
      is_added so_far = record {
        dealt = so_far.dealt ++ d ∷ [];
        split = ap (λ xs. xs ++ left) (map-append Ok so_far.dealt (d ∷ []))
            ∙ append_assoc (map Ok so_far.dealt) (Ok d ∷ []) left
            ∙ ap (λ xs. map Ok so_far.dealt ++ xs) (sym were) ∙ so_far.split;
        tables_are = is_newer ∙ ap (λ xs. xs ++ t ∷ []) so_far.tables_are
            ∙ ap (λ x. map table so_far.dealt ++ x ∷ []) (sym is_table)
            ∙ sym (map-append table so_far.dealt (d ∷ []));
        ticks_are = is_said ∙ ap (λ xs. xs ++ ticks d) so_far.ticks_are
            ∙ ap (λ xs. flat_map ticks so_far.dealt ++ xs) (sym (append-nil (ticks d)))
            ∙ sym (flat_map-append ticks so_far.dealt (d ∷ []));
        items_are = is_added ∙ ap (λ xs. xs ++ items d) so_far.items_are
            ∙ ap (λ xs. flat_map items so_far.dealt ++ xs) (sym (append-nil (items d)))
            ∙ sym (flat_map-append items so_far.dealt (d ∷ []));
      }

  pub all_dones : (left : List (Result D E)) (tables : List T) (said : List X) (added : List Y)
      → left ≡ [] → DonesLeft table ticks items dones left tables said added
      → IsApart table ticks items dones tables said added
  all_dones left tables said added none so_far = record {
    dealt = so_far.dealt;
    all_ok = sym so_far.split ∙ ap (λ xs. map Ok so_far.dealt ++ xs) none
        ∙ append-nil (map Ok so_far.dealt);
    tables_are = so_far.tables_are;
    ticks_are = so_far.ticks_are;
    items_are = so_far.items_are;
  }
