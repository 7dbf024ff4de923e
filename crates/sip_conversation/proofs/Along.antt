-- What is true of each input of a call, and of what the call gives at that input.
use Rattle.std.proofs.Common.{◌≡◌, List, [], ◌∷◌, ◌++◌, sym, ◌∙◌, subst, append_assoc}
use Rattle.std.specs.Prelude.{Contains, Option, None}
use Rattle.std.proofs.lemmas.List.Elements.{Contains-append_right}
use Rattle.keyed_machine.specs.Machine.{Timed}
use Rattle.sip_user.specs.declared.item.CallOut.{CallOut}
use Rattle.sip_calls.specs.Call.{CallItem, call_step}
use Rattle.sip_calls.specs.Histories.{call_from}
use Rattle.sip_calls.specs.declared.call.Call.{Call}
use Rattle.sip_calls.specs.declared.calls.Calls.{Calls}
use Rattle.sip_conversation.proofs.Among.{among_first}
use Rattle.sip_conversation.proofs.PracksOfCalls.{from_more}

-- what stands between others is among them
pub among_after : {X : Type 0} {all : List X} (front : List X) (x : X) (rest : List X)
    → all ≡ front ++ x ∷ rest → Contains all x
among_after front x rest are =
    subst (λ xs. Contains xs x) (sym are)
    (Contains-append_right front (x ∷ rest) x (among_first x rest))

-- what a call gives at an input, after others
abbrev pub given_after : Calls → List (Timed CallItem) → Timed CallItem → List CallOut
given_after calls front timed =
    (call_step calls (call_from calls None front) timed.input timed.moment).1

module _ (P : List CallOut → Option CallItem → Type 0) (calls : Calls) where
  -- this is true of each of these inputs, from this state on
  abbrev pub Along : Option Call → List (Timed CallItem) → Type 0
  Along state [] = Unit {0}
  Along state (timed ∷ inputs) =
      P (call_step calls state timed.input timed.moment).1 timed.input
      × Along (call_step calls state timed.input timed.moment).0 inputs

  -- if it is of each input, after those before it
  pub along : (all : List (Timed CallItem))
      → ((front : List (Timed CallItem)) (timed : Timed CallItem) (rest : List (Timed CallItem))
      → all ≡ front ++ timed ∷ rest
      → P (given_after calls front timed) timed.input)
      → (front rest : List (Timed CallItem)) → all ≡ front ++ rest
      → Along (call_from calls None front) rest
  along all each front [] are = tt
  along all each front (timed ∷ rest) are = (
    each front timed rest are,
    subst (λ state. Along state rest) (from_more calls None front timed)
        (along all each (front ++ timed ∷ []) rest
        (are ∙ sym (append_assoc front (timed ∷ []) rest))),
  )
