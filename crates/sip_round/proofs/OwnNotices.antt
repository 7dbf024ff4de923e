-- A call that is given what belongs to its Call-ID gives only notices with that Call-ID.
use Rattle.std.proofs.Common.{◌≡◌, ℕ, Bool, true, false, cond, List, [], ◌∷◌, ◌++◌, refl, ◌∙◌}
use Rattle.std.specs.BTreeMap.{is_at}
use Rattle.std.specs.List.{AllByRecursion, flat_map}
use Rattle.keyed_machine.specs.Machine.{Timed, adds}
use Rattle.keyed_machine.proofs.Spoken.{KeepsOwn, SpeaksForItself}
use Rattle.sip_user.specs.declared.item.CallOut.{CallOut}
use Rattle.sip_user.specs.declared.item.CallOut.TheVariants as call_out
use Rattle.sip_calls.specs.declared.calls.Calls.{Calls}
use Rattle.sip_calls.specs.Call.{call_machine, CallItem}
use Rattle.sip_calls.specs.CallShard.{call_cmp}
use Rattle.sip_calls.specs.OwnCall.{IsCallOf, IsInputOf, IsNoticeOf}
use Rattle.sip_calls.proofs.OwnCall.{each_notice_is_own}
use Rattle.sip_round.specs.declared.output.Output.{Output}
use Rattle.sip_round.specs.Given.{notice_in, notices_of}
use Rattle.sip_round.specs.Outputs.{call_outputs}

-- the notices with a Call-ID, of what a call says to tell or send
abbrev pub picked : List ℕ → CallOut → List Output
picked q out = notices_of q (call_outputs out)

-- an input of a call, at any moment
abbrev pub IsTimedOf : List ℕ → Timed CallItem → Type 0
IsTimedOf key timed = IsInputOf key timed.input

both_or_none : (own : Bool) (xs ys : List Output)
    → cond own xs [] ++ cond own ys [] ≡ cond own (xs ++ ys) []
both_or_none true xs ys = refl
both_or_none false xs ys = refl

none_or_none : (own : Bool) → ◌≡◌ {A = List Output} [] (cond own [] [])
none_or_none true = refl
none_or_none false = refl

own_told : (q key : List ℕ) (outs : List CallOut) → AllByRecursion (IsNoticeOf key) outs
    → flat_map (picked q) outs ≡ cond (is_at (call_cmp q) key) (flat_map notice_in outs) []
own_told q key [] all = none_or_none (is_at (call_cmp q) key)
own_told q key (call_out.Notice notice ∷ outs) all =
    let told : List Output = notice_in (call_out.Notice notice) in
    (λ i. cond (is_at (call_cmp q) (all.0 i)) told [] ++ own_told q key outs all.1 i)
    ∙ both_or_none (is_at (call_cmp q) key) told (flat_map notice_in outs)
own_told q key (call_out.Command id command ∷ outs) all = own_told q key outs all.1
own_told q key (call_out.Direct to bytes ∷ outs) all = own_told q key outs all.1

module _ (calls : Calls) where
  pub own_notices : SpeaksForItself call_cmp (call_machine calls) notice_in picked IsCallOf
      IsTimedOf
  own_notices q key state timed own fits =
      own_told q key (adds (call_machine calls) key state timed)
      (each_notice_is_own calls key state timed.input timed.moment own fits).1

  pub own_kept : KeepsOwn call_cmp (call_machine calls) notice_in picked IsCallOf IsTimedOf
  own_kept key state timed own fits =
      (each_notice_is_own calls key state timed.input timed.moment own fits).0
