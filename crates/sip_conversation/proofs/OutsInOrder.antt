-- What a call said before one of its outputs: that output's input, and what stands before it. The
-- notice of a response that it gave at that input or before stands before what it sent.
use Rattle.std.proofs.Common.{◌≡◌, ◌⊎◌, inl, inr, ⊎_elim, ℕ, true, false, List, [], ◌∷◌, ◌++◌, refl, sym, ap, ◌∙◌, subst, append-nil, append_assoc}
use Rattle.std.specs.Prelude.{Contains, Option, None}
use Rattle.std.proofs.lemmas.Bool.{false≢true}
use Rattle.std.proofs.lemmas.List.Elements.{Contains-append_cases, Contains-append_left, Contains-append_right}
use Rattle.keyed_machine.specs.Machine.{Timed, outputs_from}
use Rattle.sip_user.specs.declared.item.CallOut.{CallOut}
use Rattle.sip_clients.specs.Provisionals.{is_response}
use Rattle.sip_calls.specs.Call.{CallItem, call_machine, call_step}
use Rattle.sip_calls.specs.Histories.{call_from}
use Rattle.sip_calls.specs.declared.call.Call.{Call}
use Rattle.sip_calls.specs.declared.calls.Calls.{Calls}
use Rattle.sip_conversation.proofs.Along.{given_after}
use Rattle.sip_conversation.proofs.Among.{among_first, first_or_later, none_among}
use Rattle.sip_conversation.proofs.NoticeFirst.{Quiet, TellsFirst, step_first}
use Rattle.sip_conversation.proofs.Rounds.{all_of_parts}

-- ---- lists

-- what stands before one of its places, and what after it
pub record IsBetween {X : Type 0} (all : List X) (x : X) : Type 0 where
  pub before : List X
  pub after : List X
  pub are : all ≡ before ++ x ∷ after

pub between : {X : Type 0} (all : List X) (x : X) → Contains all x → IsBetween all x
between [] x among = absurd (none_among x among)
between (first ∷ all) x among =
    ⊎_elim
    (λ same. record { before = []; after = all; are = ap (λ y. y ∷ all) same })
    (λ later. let rest = between all x later in record {
      before = first ∷ rest.before;
      after = rest.after;
      are = ap (λ xs. first ∷ xs) rest.are;
    })
    (first_or_later first all x among)

same_first : {X : Type 0} (one other : X) (more rest : List X) → one ∷ more ≡ other ∷ rest
    → one ≡ other
same_first one other more rest same = cc

same_rest : {X : Type 0} (one other : X) (more rest : List X) → one ∷ more ≡ other ∷ rest
    → more ≡ rest
same_rest one other more rest same = cc

-- a place in two lists is one in the first or one in the second
record IsInFirst {X : Type 0} (xs said : List X) (x : X) : Type 0 where
  after : List X
  are : xs ≡ said ++ x ∷ after

record IsInSecond {X : Type 0} (xs ys said later : List X) (x : X) : Type 0 where
  before : List X
  said_is : said ≡ xs ++ before
  are : ys ≡ before ++ x ∷ later

in_either : {X : Type 0} (xs ys said later : List X) (x : X) → xs ++ ys ≡ said ++ x ∷ later
    → IsInFirst xs said x ⊎ IsInSecond xs ys said later x
in_either [] ys said later x are = inr record { before = said; said_is = refl; are = are }
in_either (one ∷ xs) ys [] later x are =
    inl record { after = xs; are = ap (λ y. y ∷ xs) (same_first one x (xs ++ ys) later are) }
in_either (one ∷ xs) ys (first ∷ said) later x are =
    let same = same_first one first (xs ++ ys) (said ++ x ∷ later) are in
    ⊎_elim
    (λ here. inl record {
      after = here.after;
      are = (λ i. same i ∷ here.are i);
    })
    (λ there. inr record {
      before = there.before;
      said_is = (λ i. sym same i ∷ there.said_is i);
      are = there.are;
    })
    (in_either xs ys said later x (same_rest one first (xs ++ ys) (said ++ x ∷ later) are))

-- ---- one input

no_response : (out told : CallOut) → is_response out ≡ false → is_response told ≡ true
    → out ≡ told → ⊥
no_response out told quiet is same = false≢true (sym quiet ∙ (ap is_response same ∙ is))

none_of_quiet : (outs : List CallOut) (told : CallOut) → Quiet outs → is_response told ≡ true
    → Contains outs told → ⊥
none_of_quiet [] told quiet is among = none_among told among
none_of_quiet (out ∷ outs) told quiet is among =
    ⊎_elim (λ same. no_response out told quiet.0 is same)
    (λ later. none_of_quiet outs told quiet.1 is later) (first_or_later out outs told among)

quiet_after : (before : List CallOut) (out : CallOut) (after : List CallOut)
    → TellsFirst (before ++ out ∷ after) → Quiet after
quiet_after [] out after first = first
quiet_after (one ∷ before) out after first =
    (all_of_parts (λ o. is_response o ≡ false) before (out ∷ after) first).1.1

-- a notice of a response stands before each other output
stands_before : (before : List CallOut) (out : CallOut) (after : List CallOut) (told : CallOut)
    → TellsFirst (before ++ out ∷ after) → is_response out ≡ false → is_response told ≡ true
    → Contains (before ++ out ∷ after) told → Contains before told
stands_before before out after told first quiet is among =
    ⊎_elim (λ here. here)
    (λ there. absurd (⊎_elim (λ same. no_response out told quiet is same)
    (λ later. none_of_quiet after told (quiet_after before out after first) is later)
    (first_or_later out after told there)))
    (Contains-append_cases before (out ∷ after) told among)

-- ---- all inputs

module _ (calls : Calls) (key : List ℕ) where
  abbrev outs_from : Option Call → List (Timed CallItem) → List CallOut
  outs_from state inputs = outputs_from (call_machine calls) key state inputs

  outs_more : (state : Option Call) (first more : List (Timed CallItem))
      → outs_from state (first ++ more) ≡ outs_from state first ++ outs_from
      (call_from calls state first) more
  outs_more state [] more = refl
  outs_more state (timed ∷ first) more =
      let step = call_step calls state timed.input timed.moment in
      ap (λ outs. step.1 ++ outs) (outs_more step.0 first more)
      ∙ sym (append_assoc step.1 (outs_from step.0 first)
      (outs_from (call_from calls step.0 first) more))

  -- the input at which an output goes out, and what the call gives before it at that input
  pub record IsGivenAt (state : Option Call) (inputs : List (Timed CallItem))
      (said : List CallOut) (out : CallOut) : Type 0 where
    pub first : List (Timed CallItem)
    pub timed : Timed CallItem
    pub rest : List (Timed CallItem)
    pub inputs_are : inputs ≡ first ++ timed ∷ rest
    pub before : List CallOut
    pub after : List CallOut
    pub said_is : said ≡ outs_from state first ++ before
    pub gives : (call_step calls (call_from calls state first) timed.input timed.moment).1
        ≡ before ++ out ∷ after

  nothing : (said : List CallOut) (out : CallOut) (later : List CallOut)
      → [] ≡ said ++ out ∷ later → ⊥
  nothing [] out later none = cc
  nothing (one ∷ said) out later none = cc

  given_at_one : (state : Option Call) (inputs : List (Timed CallItem))
      (said later : List CallOut) (out : CallOut) → outs_from state inputs ≡ said ++ out ∷ later
      → IsGivenAt state inputs said out
  given_at_one state [] said later out are = absurd (nothing said out later are)
  given_at_one state (timed ∷ inputs) said later out are =
      let step = call_step calls state timed.input timed.moment in
      ⊎_elim
      (λ here. record {
        first = [];
        timed = timed;
        rest = inputs;
        inputs_are = refl;
        before = said;
        after = here.after;
        said_is = refl;
        gives = here.are;
      })
      (λ there.
      let more = given_at_one step.0 inputs there.before later out there.are in
      record {
        first = timed ∷ more.first;
        timed = more.timed;
        rest = more.rest;
        inputs_are = ap (λ xs. timed ∷ xs) more.inputs_are;
        before = more.before;
        after = more.after;
        said_is = there.said_is ∙ (ap (λ outs. step.1 ++ outs) more.said_is
            ∙ sym (append_assoc step.1 (outs_from step.0 more.first) more.before));
        gives = more.gives;
      })
      (in_either step.1 (outs_from step.0 inputs) said later out are)

  module _ (inputs : List (Timed CallItem)) (said later : List CallOut) (out : CallOut)
      (are : outs_from None inputs ≡ said ++ out ∷ later) where
    pub its : IsGivenAt None inputs said out
    its = given_at_one None inputs said later out are

    -- the inputs up to that one
    abbrev pub up_to : List (Timed CallItem)
    up_to = its.first ++ its.timed ∷ []

    pub up_to_is : inputs ≡ up_to ++ its.rest
    up_to_is = its.inputs_are ∙ sym (append_assoc its.first (its.timed ∷ []) its.rest)

    abbrev step_outs : List CallOut
    step_outs = given_after calls its.first its.timed

    outs_up_to : outs_from None up_to ≡ outs_from None its.first ++ step_outs
    outs_up_to = outs_more None its.first (its.timed ∷ [])
        ∙ ap (λ outs. outs_from None its.first ++ outs) (append-nil step_outs)

    pub given_up_to : Contains (outs_from None up_to) out
    given_up_to =
        subst (λ outs. Contains outs out) (sym outs_up_to)
        (Contains-append_right (outs_from None its.first) step_outs out
        (subst (λ outs. Contains outs out) (sym its.gives)
        (Contains-append_right its.before (out ∷ its.after) out (among_first out its.after))))

    -- the notice of a response given by then was said before
    pub told_before : (told : CallOut) → is_response out ≡ false → is_response told ≡ true
        → Contains (outs_from None up_to) told → Contains said told
    told_before told quiet is among =
        let earlier = outs_from None its.first in
        subst (λ outs. Contains outs told) (sym its.said_is)
        (⊎_elim
        (λ here. Contains-append_left earlier its.before told here)
        (λ there. Contains-append_right earlier its.before told
        (stands_before its.before out its.after told
        (subst TellsFirst its.gives (step_first calls its.timed.moment
        (call_from calls None its.first) its.timed.input)) quiet is
        (subst (λ outs. Contains outs told) its.gives there)))
        (Contains-append_cases earlier step_outs told
        (subst (λ outs. Contains outs told) outs_up_to among)))
