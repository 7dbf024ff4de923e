-- The client transactions that outputs start; the ends of dialogs start none.
use Rattle.std.proofs.Common.{◌≡◌, ℕ, List, [], ◌∷◌, ◌++◌, map, refl, sym, ap, subst, ◌∙◌}
use Rattle.std.specs.Prelude.{Option, None, Some, filter, filter_map}
use Rattle.std.specs.List.{cons_option, flat_map}
use Rattle.std.specs.Map.{values_of}
use Rattle.std.specs.Option.{option_map_or}
use Rattle.std.proofs.lemmas.List.Elements.{filter_map-append}
use Rattle.sip_message.specs.declared.id.Id.{Id}
use Rattle.sip_message.specs.declared.key.Key.{Key}
use Rattle.sip_transactions.specs.declared.input.Command.{Command as Order}
use Rattle.sip_transactions.specs.declared.input.Command.TheVariants as order
use Rattle.sip_held_dialogs.specs.declared.held_dialog.DialogId.{DialogId}
use Rattle.sip_held_dialogs.specs.declared.held_dialog.HeldDialog.{HeldDialog}
use Rattle.sip_user.specs.declared.item.CallOut.{CallOut}
use Rattle.sip_user.specs.declared.item.CallOut.TheVariants as out
use Rattle.sip_held_dialogs.specs.Dialogs.{Dialogs, dialog_at, early_ended, ended_at, ended_notice, is_early_of}
use Rattle.sip_held_dialogs.specs.Sent.{NumberedFrom, cseq_of_output, cseqs_in, requests_made, sent_in}

-- the client transaction that a command starts, by its id and its key
abbrev pub start_of : Id → Order → Option (Id × Key)
start_of id (order.Start key call_id message to) = Some (id, key)
start_of id (order.Answer key message) = None
start_of id (order.Abandon key) = None

abbrev pub start_in : CallOut → Option (Id × Key)
start_in (out.Notice notice) = None
start_in (out.Command id command) = start_of id command
start_in (out.Direct to bytes) = None

abbrev pub starts : List CallOut → List (Id × Key)
starts outs = filter_map start_in outs

-- ---- lists of outputs

pub none_of_both : (xs ys : List CallOut) → starts xs ≡ [] → starts ys ≡ [] → starts (xs ++ ys) ≡ []
none_of_both xs ys no_x no_y = filter_map-append start_in xs ys ∙ (λ i. no_x i ++ no_y i)

pub none_of_map : {X : Type 0} (f : X → CallOut) → ((x : X) → start_in (f x) ≡ None) → (xs : List X)
    → starts (map f xs) ≡ []
none_of_map f none [] = refl
none_of_map f none (x ∷ xs) = (λ i. option_rest (none x i)) ∙ none_of_map f none xs
  where
    option_rest : Option (Id × Key) → List (Id × Key)
    option_rest o = cons_option o (starts (map f xs))

pub none_of_all : {X : Type 0} (f : X → List CallOut) → ((x : X) → starts (f x) ≡ [])
    → (xs : List X) → starts (flat_map f xs) ≡ []
none_of_all f none [] = refl
none_of_all f none (x ∷ xs) = none_of_both (f x) (flat_map f xs) (none x) (none_of_all f none xs)

pub early_starts : (invite : Id) (dialogs : Dialogs) → starts (early_ended invite dialogs).1 ≡ []
early_starts invite dialogs =
    none_of_map ended_notice (λ held. refl) (filter (is_early_of invite) (values_of dialogs))

pub ended_starts : (name : DialogId) (dialogs : Dialogs) → starts (ended_at name dialogs).1 ≡ []
ended_starts name dialogs = by_dialog (dialog_at name dialogs)
  where
    by_dialog : (o : Option HeldDialog)
        → starts (option_map_or (λ held. ended_notice held ∷ []) o []) ≡ []
    by_dialog None = refl
    by_dialog (Some held) = refl

-- ---- what starts nothing sends nothing in a dialog

started : (start : Id × Key) (rest : List (Id × Key)) → start ∷ rest ≡ [] → ⊥
started start rest e = absurd cc

pub none_numbered : (name : DialogId) (outs : List CallOut) → starts outs ≡ []
    → cseqs_in name outs ≡ []
none_numbered name [] none = refl
none_numbered name (out.Notice notice ∷ outs) none = none_numbered name outs none
none_numbered name (out.Direct to bytes ∷ outs) none = none_numbered name outs none
none_numbered name (out.Command id (order.Answer key message) ∷ outs) none =
    none_numbered name outs none
none_numbered name (out.Command id (order.Abandon key) ∷ outs) none = none_numbered name outs none
none_numbered name (out.Command id (order.Start key call_id message to) ∷ outs) none =
    absurd (started (id, key) (starts outs) none)

pub none_sent : (name : DialogId) (outs : List CallOut) → starts outs ≡ [] → sent_in name outs
    ≡ []
none_sent name outs none = ap requests_made (none_numbered name outs none)

pub cseqs_both : (name : DialogId) (xs ys : List CallOut)
    → cseqs_in name (xs ++ ys) ≡ cseqs_in name xs ++ cseqs_in name ys
cseqs_both name xs ys = filter_map-append (cseq_of_output name) xs ys

-- ---- numbers

pub numbered_none : (o : Option ℕ) → NumberedFrom o []
numbered_none None = tt
numbered_none (Some last) = tt

pub numbered_silent : (o : Option ℕ) (name : DialogId) (outs : List CallOut) → starts outs ≡ []
    → NumberedFrom o (cseqs_in name outs)
numbered_silent o name outs none =
    subst (NumberedFrom o) (sym (none_numbered name outs none)) (numbered_none o)
