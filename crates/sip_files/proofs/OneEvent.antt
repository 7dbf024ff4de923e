-- The lines of one event, by the session that is read from them.
use Rattle.std.proofs.Common.{◌≡◌, ◌≢◌, ℕ, ◌≤◌, ◌^◌, List, [], ◌∷◌, length, sym, subst}
use Rattle.std.specs.Prelude.{Option, None, Some, IfNone, IfOk, IfSome, Result, Ok, Err}
use Rattle.sip_files.specs.EventFile.{SpellsSession}
use Rattle.sip_files.specs.EventLines.{SpellsLines, round_of, session_with}
use Rattle.sip_round.specs.declared.config.Config.{Config}
use Rattle.sip_round.specs.declared.round.Event.{Event}
use Rattle.sip_round.specs.declared.round.Round.{Round}

module _ (lines text : List ℕ) (is : text ≡ session_with lines) where
  pub event_found : (config : Config) (rounds : List Round) → SpellsSession config rounds text
      → length text ≤ 2 ^ 26 → (found : Option Event)
      → IfSome found (λ event. rounds ≡ round_of event ∷ [])
      → IfSome found (SpellsLines lines)
  event_found config rounds spelled size None one = tt
  event_found config rounds spelled size (Some event) one = record {
    config = config;
    spelled = subst (λ t. SpellsSession config (round_of event ∷ []) t) is
        (subst (λ rs. SpellsSession config rs text) one spelled);
    size = subst (λ t. length t ≤ 2 ^ 26) is size;
  }

  pub no_event_found : (config : Config) (rounds : List Round)
      → ((other : Config) (others : List Round) → SpellsSession other others text
      → length text ≤ 2 ^ 26 → (config ≡ other) × (rounds ≡ others)) → (found : Option Event)
      → IfNone found ((event : Event) → ¬ (rounds ≡ round_of event ∷ []))
      → IfNone found ((event : Event) → ¬ (SpellsLines lines event))
  no_event_found config rounds only None none = λ event says.
      none event (only says.config (round_of event ∷ [])
      (subst (λ t. SpellsSession says.config (round_of event ∷ []) t) (sym is) says.spelled)
      (subst (λ t. length t ≤ 2 ^ 26) (sym is) says.size)).1
  no_event_found config rounds only (Some event) none = tt

  pub nothing_spelled : {F : Type 0} (fault memory : F)
      → ((config : Config) (rounds : List Round) → SpellsSession config rounds text
      → length text ≤ 2 ^ 26 → fault ≡ memory) → fault ≢ memory
      → (event : Event) → ¬ (SpellsLines lines event)
  nothing_spelled fault memory only other event says =
      other (only says.config (round_of event ∷ [])
      (subst (λ t. SpellsSession says.config (round_of event ∷ []) t) (sym is) says.spelled)
      (subst (λ t. length t ≤ 2 ^ 26) (sym is) says.size))

  pub none_unread : {F E : Type 0} (fault memory : F)
      → ((config : Config) (rounds : List Round) → SpellsSession config rounds text
      → length text ≤ 2 ^ 26 → fault ≡ memory) → (result : Result (Option Event) E)
      → IfOk result (λ found. (found ≡ None) × (fault ≢ memory))
      → IfOk result (λ found. IfNone found ((event : Event) → ¬ (SpellsLines lines event)))
  none_unread fault memory only (Err error) unread = tt
  none_unread fault memory only (Ok None) unread = nothing_spelled fault memory only unread.1
  none_unread fault memory only (Ok (Some event)) unread = tt

pub some_unread : {F E : Type 0} (P : Event → Type 0) (fault memory : F)
    (result : Result (Option Event) E)
    → IfOk result (λ found. (found ≡ None) × (fault ≢ memory))
    → IfOk result (λ found. IfSome found P)
some_unread P fault memory (Err error) unread = tt
some_unread P fault memory (Ok None) unread = tt
some_unread P fault memory (Ok (Some event)) unread = subst (λ o. IfSome o P) (sym unread.0) tt
