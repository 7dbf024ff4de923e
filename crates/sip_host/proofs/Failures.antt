-- A send that failed is reported to the agent.
use Rattle.std.proofs.Common.{◌≡◌, ◌<◌, ℕ, zero, suc, length, arith, List, [], ◌∷◌, Some, None, sym, ap, ◌∙◌, subst, append-nil}
use Rattle.std.specs.Prelude.{Option, IsSomeAnd}
use Rattle.std.specs.Option.{option_to_list}
use Rattle.std.specs.List.{slice_get, slice_index_or}
use Rattle.sip_round.specs.declared.output.Output.{Output}
use Rattle.sip_round.specs.declared.round.Event.{Event}
use Rattle.sip_host.specs.Handing.{sent_key, told_failure}
use Rattle.sip_host.specs.Hosting.{with_events}
use Rattle.sip_host.specs.declared.host.Host.{Host}

some_weaker : {X : Type 0} {P Q : X → Type 0} (o : Option X) → ((x : X) → P x → Q x)
    → IsSomeAnd o P → IsSomeAnd o Q
some_weaker None weaker holds = absurd holds
some_weaker (Some x) weaker holds = weaker x holds

pub item_got : {X : Type 0} (xs : List X) (i : ℕ) (x : X) → i < length xs
    → x ≡ slice_index_or xs i x → slice_get xs i ≡ Some x
item_got [] i x within is = absurd (omega (arith, within))
item_got (y ∷ ys) zero x within is = ap Some (sym is)
item_got (y ∷ ys) (suc i) x within is = item_got ys i x (omega (arith, within)) is

pub nothing_added : (host : Host) → host ≡ with_events host []
nothing_added host = ap (λ events. record host { events = events }) (sym (append-nil host.events))

module _ (output : Output) (told : Option Event)
    (is_send : IsSomeAnd (sent_key (Some output)) (λ key. option_to_list told ≡ told_failure key))
    (found : Option Output) (at : found ≡ Some output) where
  pub a_send : sent_key found ≡ None → ⊥
  a_send none = subst (λ o. IsSomeAnd o (λ key. option_to_list told ≡ told_failure key)) none
      (subst (λ o. IsSomeAnd (sent_key o) (λ key. option_to_list told ≡ told_failure key))
      (sym at) is_send)

  pub reported : (old new : Host) → new ≡ with_events old (option_to_list told)
      → IsSomeAnd (sent_key found) (λ key. new ≡ with_events old (told_failure key))
  reported old new is = subst
      (λ o. IsSomeAnd (sent_key o) (λ key. new ≡ with_events old (told_failure key))) (sym at)
      (some_weaker (sent_key (Some output)) (λ key same. is ∙ ap (with_events old) same) is_send)
