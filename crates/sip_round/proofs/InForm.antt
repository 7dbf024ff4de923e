-- Outputs, in the form in which they are given.
use Rattle.std.proofs.Common.{◌≡◌, ℕ, List, [], ◌∷◌, ◌++◌, map, refl, sym, ◌∙◌, ap, append_assoc}
use Rattle.std.specs.List.{flat_map}
use Rattle.std.proofs.lemmas.List.{map-append}
use Rattle.std.proofs.lemmas.Simd.{map-map}
use Rattle.sip_round.specs.declared.output.Output.{Output}
use Rattle.sip_round.specs.declared.output.PlacedOutput.{PlacedOutput}
use Rattle.sip_round.specs.Outputs.{at_place, joined}
use Rattle.sip_round.specs.Steps.Form.{in_form}
use Rattle.sip_round.proofs.ByEvent.{behind, by_groups, each}

pub map-flat_map : {X Y Z : Type 0} (h : Y → Z) (f : X → List Y) (xs : List X)
    → map h (flat_map f xs) ≡ flat_map (λ x. map h (f x)) xs
map-flat_map h f [] = refl
map-flat_map h f (x ∷ xs) =
    map-append h (f x) (flat_map f xs) ∙ ap (λ more. map h (f x) ++ more) (map-flat_map h f xs)

-- outputs given one after another are given together
pub given_together : {F : Type 0} (form : ℕ → Output → F) (one two three : List PlacedOutput)
    (first second third : List F) → first ≡ in_form form one → second ≡ first ++ in_form form two
    → third ≡ second ++ in_form form three → third ≡ in_form form ((one ++ two) ++ three)
given_together form one two three first second third is_one is_two is_three =
    is_three
    ∙ ap (λ os. os ++ in_form form three)
    (is_two ∙ ap (λ os. os ++ in_form form two) is_one ∙ sym (map-append _ one two))
    ∙ sym (map-append _ (one ++ two) three)

-- ---- what is said at the ticks, and then for events or items with a place

module _ {W O : Type 0} (says : O → List Output) (place : W → ℕ) (outs : W → List O) where
  abbrev pub told : List O → List W → List PlacedOutput
  told ticks ws = flat_map (λ out. at_place 0 (says out)) ticks
      ++ flat_map (λ w. flat_map (λ out. at_place (place w) (says out)) (outs w)) ws

  pub told_in_form : {F : Type 0} (form : ℕ → Output → F) (ticks : List O) (ws : List W)
      → in_form form (told ticks ws)
      ≡ flat_map (λ out. in_form form (at_place 0 (says out))) ticks
      ++ flat_map (λ w. flat_map (λ out. in_form form (at_place (place w) (says out))) (outs w)) ws
  told_in_form form ticks ws =
      let given = λ (placed : PlacedOutput). form placed.place placed.output in
      let by = λ (w : W) (out : O). at_place (place w) (says out) in
      map-append given (flat_map (λ out. at_place 0 (says out)) ticks)
      (flat_map (λ w. flat_map (by w) (outs w)) ws)
      ∙ (λ i. map-flat_map given (λ out. at_place 0 (says out)) ticks i
      ++ map-flat_map given (λ w. flat_map (by w) (outs w)) ws i)
      ∙ (λ i. flat_map (λ out. in_form form (at_place 0 (says out))) ticks
      ++ flat_map (λ w. map-flat_map given (by w) (outs w) i) ws)

-- ---- one phase, behind what was given before

module _ {O F : Type 0} (says : O → List Output) (form : ℕ → Output → F)
    (before middle after : List F) where
  -- other places that give the same
  pub by_places : {L : Type 0} (place other : ℕ → ℕ) (ticks : List (L × List O))
      (said : List (ℕ × List O)) → ((index : ℕ) → form (other index) ≡ form (place index))
      → middle ≡ before ++ each (λ out. in_form form (at_place 0 (says out))) ticks
      → after ≡ middle ++ flat_map (λ group. flat_map
      (λ out. in_form form (at_place (other group.0) (says out))) group.1) said
      → after ≡ before ++ in_form form
      (told says (λ group. place group.0) (λ group. group.1) (joined ticks) said)
  by_places place other ticks said same at_ticks by_index =
      let at_tick = λ (out : O). in_form form (at_place 0 (says out)) in
      let by : (ℕ → ℕ) → List F = λ places. flat_map (λ group. flat_map
      (λ out. in_form form (at_place (places group.0) (says out))) group.1) said in
      by_index ∙ ap (λ os. os ++ by other) at_ticks
      ∙ append_assoc before (each at_tick ticks) (by other)
      ∙ ap (λ os. before ++ (os ++ by other)) (by_groups at_tick ticks)
      ∙ ap (λ os. before ++ (flat_map at_tick (joined ticks) ++ os))
      (λ i. flat_map (λ group. flat_map (λ out. alike group.0 (says out) i) group.1) said)
      ∙ ap (λ os. before ++ os)
      (sym (told_in_form says (λ group. place group.0) (λ group. group.1) form (joined ticks) said))
    where
      alike : (index : ℕ) (outputs : List Output)
          → in_form form (at_place (other index) outputs)
          ≡ in_form form (at_place (place index) outputs)
      alike index outputs =
          map-map _ _ outputs ∙ ap (λ given. map given outputs) (same index)
          ∙ sym (map-map _ _ outputs)

  -- all of it, with place 0
  pub at_no_place : {L M : Type 0} (ticks : List (L × List O)) (said : List (M × List O))
      → middle ≡ before ++ each (λ out. in_form form (at_place 0 (says out))) ticks
      → after ≡ middle ++ each (λ out. in_form form (at_place 0 (says out))) said
      → after ≡ before ++ in_form form
      (flat_map (λ out. at_place 0 (says out)) (joined ticks ++ joined said))
  at_no_place ticks said at_ticks by_item =
      behind (λ out. in_form form (at_place 0 (says out))) ticks said before middle after at_ticks
      by_item
      ∙ ap (λ os. before ++ os)
      (sym (map-flat_map _ (λ out. at_place 0 (says out)) (joined ticks ++ joined said)))
