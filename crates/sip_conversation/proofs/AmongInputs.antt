-- What one input of a call gives is among what all its inputs give, and so is what the first ones
-- give; whatever is read from each input.
use Rattle.std.proofs.Common.{◌≡◌, ⊎_elim, ℕ, List, [], ◌∷◌, ◌++◌, refl, sym, subst}
use Rattle.std.specs.Prelude.{Contains, None, Option}
use Rattle.std.proofs.lemmas.List.Elements.{Contains-append_cases, Contains-append_left, Contains-append_right}
use Rattle.keyed_machine.specs.Machine.{Timed, outputs_from}
use Rattle.sip_user.specs.declared.item.CallOut.{CallOut}
use Rattle.sip_calls.specs.Call.{CallItem, call_machine, call_step}
use Rattle.sip_calls.specs.Histories.{call_from}
use Rattle.sip_calls.specs.declared.call.Call.{Call}
use Rattle.sip_calls.specs.declared.calls.Calls.{Calls}
use Rattle.sip_conversation.proofs.Among.{none_among}

module _ {Y : Type 0} (calls : Calls) (gives : Option Call → Timed CallItem → List Y)
    (all : Option Call → List (Timed CallItem) → List Y)
    (none : (call : Option Call) → all call [] ≡ [])
    (more : (call : Option Call) (timed : Timed CallItem) (inputs : List (Timed CallItem))
    → all call (timed ∷ inputs)
    ≡ gives call timed ++ all (call_step calls call timed.input timed.moment).0 inputs) where
  pub of_one_input : (call : Option Call) (before : List (Timed CallItem)) (timed : Timed CallItem)
      (after : List (Timed CallItem)) (y : Y)
      → Contains (gives (call_from calls call before) timed) y
      → Contains (all call (before ++ timed ∷ after)) y
  of_one_input call [] timed after y among =
      let next = (call_step calls call timed.input timed.moment).0 in
      subst (λ ys. Contains ys y) (sym (more call timed after))
      (Contains-append_left (gives call timed) (all next after) y among)
  of_one_input call (first ∷ before) timed after y among =
      let next = (call_step calls call first.input first.moment).0 in
      let inputs = before ++ timed ∷ after in
      subst (λ ys. Contains ys y) (sym (more call first inputs))
      (Contains-append_right (gives call first) (all next inputs) y
      (of_one_input next before timed after y among))

  pub of_first_inputs : (call : Option Call) (before after : List (Timed CallItem)) (y : Y)
      → Contains (all call before) y → Contains (all call (before ++ after)) y
  of_first_inputs call [] after y among =
      absurd (none_among y (subst (λ ys. Contains ys y) (none call) among))
  of_first_inputs call (first ∷ before) after y among =
      let next = (call_step calls call first.input first.moment).0 in
      let here = gives call first in
      let rest = all next (before ++ after) in
      subst (λ ys. Contains ys y) (sym (more call first (before ++ after)))
      (⊎_elim (λ now. Contains-append_left here rest y now)
      (λ later. Contains-append_right here rest y (of_first_inputs next before after y later))
      (Contains-append_cases here (all next before) y
      (subst (λ ys. Contains ys y) (more call first before) among)))

-- the outputs of a call
module _ (calls : Calls) (key : List ℕ) where
  abbrev outs_at : Option Call → Timed CallItem → List CallOut
  outs_at call timed = (call_step calls call timed.input timed.moment).1

  abbrev outs_from : Option Call → List (Timed CallItem) → List CallOut
  outs_from call inputs = outputs_from (call_machine calls) key call inputs

  pub out_of_one_input : (before : List (Timed CallItem)) (timed : Timed CallItem)
      (after : List (Timed CallItem)) (out : CallOut)
      → Contains (outs_at (call_from calls None before) timed) out
      → Contains (outs_from None (before ++ timed ∷ after)) out
  out_of_one_input before timed after out among =
      of_one_input calls outs_at outs_from (λ call. refl) (λ call timed inputs. refl) None before
      timed after out among

  pub out_of_first_inputs : (before after : List (Timed CallItem)) (out : CallOut)
      → Contains (outs_from None before) out → Contains (outs_from None (before ++ after)) out
  out_of_first_inputs before after out among =
      of_first_inputs calls outs_at outs_from (λ call. refl) (λ call timed inputs. refl) None before
      after out among
