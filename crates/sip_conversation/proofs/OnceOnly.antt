-- Of elements whose ids differ, one alone has an id.
use Rattle.std.proofs.Common.{◌≡◌, ⊎_elim, true, false, List, [], ◌∷◌, sym, ap, ◌∙◌, subst, arith}
use Rattle.std.specs.Prelude.{Contains, IfSome, Option, None, Some, filter_map}
use Rattle.std.specs.List.{AllByRecursion, IsDistinct, cons_option}
use Rattle.std.proofs.lemmas.Bool.{false≢true}
use Rattle.std.proofs.lemmas.Grind.{common_steps}
use Rattle.std.proofs.lemmas.Map.Keys.{IsDistinct-head, IsDistinct-tail}
use Rattle.sip_message.specs.declared.id.Id.{Id}
use Rattle.sip_held_dialogs.specs.Ids.{is_id}
use Rattle.sip_conversation.proofs.Among.{first_or_later, none_among}

id_itself : (id : Id) → is_id id id ≡ true
id_itself id = grind (arith, common_steps)

module _ {X : Type 0} (name : X → Option Id) where
  all_cons : (P : Id → Type 0) (o : Option Id) (ids : List Id)
      → AllByRecursion P (cons_option o ids) → IfSome o P × AllByRecursion P ids
  all_cons P None ids all = (tt, all)
  all_cons P (Some id) ids all = (all.0, all.1)

  named_so : (P : Id → Type 0) (xs : List X) → AllByRecursion P (filter_map name xs)
      → (x : X) → Contains xs x → (id : Id) → name x ≡ Some id → P id
  named_so P [] all x among id is = absurd (none_among x among)
  named_so P (y ∷ ys) all x among id is =
      let parts = all_cons P (name y) (filter_map name ys) all in
      ⊎_elim
      (λ same. subst (λ o. IfSome o P) (ap name same ∙ is) parts.0)
      (λ later. named_so P ys parts.1 x later id is)
      (first_or_later y ys x among)

  pub distinct_later : (o : Option Id) (ids : List Id) → IsDistinct is_id (cons_option o ids)
      → IsDistinct is_id ids
  distinct_later None ids apart = apart
  distinct_later (Some id) ids apart = IsDistinct-tail is_id id ids apart

  -- an element of this id is none of those after the first, which has it
  pub none_later : (y : X) (ys : List X) → IsDistinct is_id (filter_map name (y ∷ ys)) → (id : Id)
      → name y ≡ Some id → (x : X) → Contains ys x → name x ≡ Some id → ⊥
  none_later y ys apart id first x among is =
      false≢true (sym (named_so (λ other. is_id id other ≡ false) ys
      (IsDistinct-head is_id id (filter_map name ys)
      (subst (λ o. IsDistinct is_id (cons_option o (filter_map name ys))) first apart))
      x among id is) ∙ id_itself id)

  pub once_only : (xs : List X) → IsDistinct is_id (filter_map name xs) → (x y : X)
      → Contains xs x → Contains xs y → (id : Id) → name x ≡ Some id → name y ≡ Some id → x ≡ y
  once_only [] apart x y one other id is so = absurd (none_among x one)
  once_only (z ∷ zs) apart x y one other id is so =
      ⊎_elim
      (λ first. ⊎_elim
      (λ second. sym first ∙ second)
      (λ later. absurd (none_later z zs apart id (ap name first ∙ is) y later so))
      (first_or_later z zs y other))
      (λ later. ⊎_elim
      (λ second. absurd (none_later z zs apart id (ap name second ∙ so) x later is))
      (λ after. once_only zs (distinct_later (name z) (filter_map name zs) apart) x y later after
      id is so)
      (first_or_later z zs y other))
      (first_or_later z zs x one)
