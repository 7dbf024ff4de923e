-- For each name: which dialogs are held after a step, and of which ends the user is told.
use Rattle.std.proofs.Common.{◌≡◌, ℕ, ◌+◌, Bool, true, false, not, ◌&&◌, ◌||◌, cond, List, [], ◌∷◌, ◌++◌, map, refl, sym, ap, ◌∙◌, arith}
use Rattle.std.specs.Prelude.{Option, None, Some, count_by, filter, filter_map, fold, is_some}
use Rattle.std.specs.List.{AllByRecursion}
use Rattle.std.specs.Map.{keys_of, values_of}
use Rattle.std.specs.Option.{option_map, option_map_or}
use Rattle.std.proofs.lemmas.List.Elements.{filter_map-append}
use Rattle.std.proofs.lemmas.List.Sums.{sum_by-append, sum_by-cons}
use Rattle.std.proofs.lemmas.Map.{lookup-remove_entry}
use Rattle.std.proofs.lemmas.Map.Entries.{lookup-filter-values, option_filter}
use Rattle.std.proofs.lemmas.Map.Keys.{IsDistinct-head, IsDistinct-tail}
use Rattle.keyed_machine.proofs.Ordered.{by_bool}
use Rattle.sip_message.specs.declared.message.Message.{Message}
use Rattle.sip_dialog.specs.declared.dialog.Dialog.{Dialog}
use Rattle.sip_dialog.specs.declared.dialog.Side.{Side}
use Rattle.sip_dialog.specs.declared.dialog.Side.TheVariants.{Caller, Callee}
use Rattle.sip_dialog.specs.Life.{Happening, Requests, Acknowledges, Accepts, Refreshes, Confirms, Ends}
use Rattle.sip_dialog.specs.Step.{confirmed_at}
use Rattle.sip_message.specs.declared.id.Id.{Id}
use Rattle.sip_held_dialogs.specs.declared.held_dialog.DialogId.{DialogId}
use Rattle.sip_held_dialogs.specs.declared.held_dialog.HeldDialog.{HeldDialog}
use Rattle.sip_user.specs.declared.item.CallOut.{CallOut}
use Rattle.sip_user.specs.declared.item.CallOut.TheVariants.{Notice}
use Rattle.sip_user.specs.declared.notice.Notice.TheVariants.{Ended}
use Rattle.sip_held_dialogs.specs.Dialogs.{Dialogs, dialog_at, dialog_changed, early_ended, ended_at, ended_notice, happened, is_early_of, is_dialog_id}
use Rattle.sip_held_dialogs.specs.Requests.{dialog_id_of_tags}
use Rattle.sip_held_dialogs.specs.Sent.{name_of_dialog}
use Rattle.sip_held_dialogs.proofs.Entries as entries
use Rattle.sip_held_dialogs.proofs.Heard.{AreApart, name_laws}

-- ---- what is told

-- the dialog of whose end an output tells the user
abbrev pub name_ended_by : CallOut → Option DialogId
name_ended_by (Notice (Ended call_id local_tag remote_tag)) =
    Some (dialog_id_of_tags local_tag remote_tag)
name_ended_by _ = None

abbrev pub names_ended : List CallOut → List DialogId
names_ended outs = filter_map name_ended_by outs

-- how often outputs tell of the end of the dialog of a name
abbrev pub ends_told : DialogId → List CallOut → ℕ
ends_told name outs = count_by (is_dialog_id name) (names_ended outs)

abbrev pub once : Bool → ℕ
once b = cond b 1 0

pub silent_both : (xs ys : List CallOut) → names_ended xs ≡ [] → names_ended ys ≡ []
    → names_ended (xs ++ ys) ≡ []
silent_both xs ys no_x no_y =
    filter_map-append name_ended_by xs ys ∙ (λ i. no_x i ++ no_y i)

pub none_told : (name : DialogId) (outs : List CallOut) → names_ended outs ≡ []
    → ends_told name outs ≡ 0
none_told name outs none = ap (λ names. count_by (is_dialog_id name) names) none

pub told_both : (name : DialogId) (xs ys : List CallOut)
    → ends_told name (xs ++ ys) ≡ ends_told name xs + ends_told name ys
told_both name xs ys =
    ap (λ names. count_by (is_dialog_id name) names) (filter_map-append name_ended_by xs ys)
    ∙ sum_by-append (λ other. cond (is_dialog_id name other) 1 0) (names_ended xs) (names_ended ys)

pub told_one : (name own : DialogId) (held : HeldDialog)
    → is_dialog_id own (name_of_dialog held.dialog) ≡ true
    → ends_told name (ended_notice held ∷ []) ≡ once (is_dialog_id own name)
told_one name own held named =
    let tags = name_of_dialog held.dialog in
    let same : is_dialog_id name tags ≡ is_dialog_id own name =
    name_laws.symm name tags ∙ sym (name_laws.congr own tags name named) in
    let first = sum_by-cons (λ other. cond (is_dialog_id name other) 1 0) tags [] in
    let none : count_by (is_dialog_id name) [] ≡ 0 = refl in
    let told : once (is_dialog_id name tags) ≡ once (is_dialog_id own name) = ap once same in
    omega (arith, first, none, told)

-- ---- one dialog

-- whether a dialog is held and stays, if those end that pass the test
abbrev pub left_of : (HeldDialog → Bool) → Option HeldDialog → Bool
left_of ends found = option_map_or (λ held. not (ends held)) found false

-- whether a dialog is held and ends
abbrev pub ended_of : (HeldDialog → Bool) → Option HeldDialog → Bool
ended_of ends found = option_map_or ends found false

same_left : (x y : HeldDialog → Bool) (o : Option HeldDialog)
    → ((held : HeldDialog) → o ≡ Some held → x held ≡ y held) → left_of x o ≡ left_of y o
same_left x y None same = refl
same_left x y (Some held) same = ap not (same held refl)

same_ended : (x y : HeldDialog → Bool) (o : Option HeldDialog)
    → ((held : HeldDialog) → o ≡ Some held → x held ≡ y held) → ended_of x o ≡ ended_of y o
same_ended x y None same = refl
same_ended x y (Some held) same = same held refl

left_none : (o : Option HeldDialog) → is_some o ≡ left_of (λ held. false) o
left_none None = refl
left_none (Some held) = refl

pub ended_none : (o : Option HeldDialog) → 0 ≡ once (ended_of (λ held. false) o)
ended_none None = refl
ended_none (Some held) = refl

left_all : (b : Bool) (o : Option HeldDialog)
    → is_some (cond {A = Option HeldDialog} b None o) ≡ left_of (λ held. b) o
left_all true None = refl
left_all true (Some held) = refl
left_all false None = refl
left_all false (Some held) = refl

-- if all end or none does, it only matters whether one is held
left_alike : (b : Bool) (x y : Option HeldDialog) → is_some x ≡ is_some y
    → left_of (λ held. b) x ≡ left_of (λ held. b) y
left_alike b None None same = refl
left_alike b None (Some held) same = absurd cc
left_alike b (Some held) None same = absurd cc
left_alike b (Some held) (Some other) same = refl

ended_alike : (b : Bool) (x y : Option HeldDialog) → is_some x ≡ is_some y
    → ended_of (λ held. b) x ≡ ended_of (λ held. b) y
ended_alike b None None same = refl
ended_alike b None (Some held) same = absurd cc
ended_alike b (Some held) None same = absurd cc
ended_alike b (Some held) (Some other) same = refl

-- ---- names

-- each dialog is held under the name of its tags
abbrev pub AreNamed : Dialogs → Type 0
AreNamed dialogs = (name : DialogId) (held : HeldDialog) → dialog_at name dialogs ≡ Some held
    → is_dialog_id name (name_of_dialog held.dialog) ≡ true

confirmed_name : (side : Side) (dialog : Dialog) (response : Message)
    → name_of_dialog (confirmed_at side dialog response) ≡ name_of_dialog dialog
confirmed_name Callee dialog response = refl
confirmed_name Caller dialog response = refl

happened_name : (dialog : Dialog) (one : Happening)
    → name_of_dialog (happened dialog one) ≡ name_of_dialog dialog
happened_name dialog (Requests method) = refl
happened_name dialog (Acknowledges number) = refl
happened_name dialog (Accepts number) = refl
happened_name dialog (Refreshes uri) = refl
happened_name dialog (Confirms response) = confirmed_name dialog.side dialog response
happened_name dialog Ends = refl

-- a dialog keeps its name, whatever happens in it
pub lived_name : (dialog : Dialog) (life : List Happening)
    → name_of_dialog (fold happened dialog life) ≡ name_of_dialog dialog
lived_name dialog [] = refl
lived_name dialog (one ∷ life) =
    lived_name (happened dialog one) life ∙ happened_name dialog one

-- dialogs keep their names if a change keeps the name of each
pub changed_named : (own : DialogId) (change : HeldDialog → HeldDialog)
    → ((held : HeldDialog) → name_of_dialog (change held).dialog ≡ name_of_dialog held.dialog)
    → (dialogs : Dialogs) → AreNamed dialogs → AreNamed (dialog_changed own change dialogs)
changed_named own change same dialogs named name held at =
    by_name (is_dialog_id own name) (dialog_at name dialogs) refl
    (sym (entries.found_changed name_laws own name change dialogs) ∙ at)
  where
    by_name : (b : Bool) (o : Option HeldDialog) → dialog_at name dialogs ≡ o
        → cond b (option_map change o) o ≡ Some held
        → is_dialog_id name (name_of_dialog held.dialog) ≡ true
    by_name true None is found = absurd cc
    by_name true (Some before) is found =
        let it : change before ≡ held = cc in
        ap (λ (held : HeldDialog). is_dialog_id name (name_of_dialog held.dialog)) (sym it)
        ∙ ap (is_dialog_id name) (same before) ∙ named name before is
    by_name false None is found = absurd cc
    by_name false (Some before) is found = named name held (is ∙ found)

pub filtered_named : (p : HeldDialog → Bool) (dialogs : Dialogs) → AreApart dialogs
    → AreNamed dialogs → AreNamed (filter (λ entry. p entry.1) dialogs)
filtered_named p dialogs apart named name held at =
    by_found (dialog_at name dialogs) refl
    (sym (lookup-filter-values name_laws p name dialogs apart) ∙ at)
  where
    by_test : (before : HeldDialog) (b : Bool) → cond b (Some before) None ≡ Some held
        → Some before ≡ Some held
    by_test before true found = found
    by_test before false found = absurd cc

    by_found : (o : Option HeldDialog) → dialog_at name dialogs ≡ o
        → option_filter p o ≡ Some held → is_dialog_id name (name_of_dialog held.dialog) ≡ true
    by_found None is found = absurd cc
    by_found (Some before) is found = named name held (is ∙ by_test before (p before) found)

-- the same for the entries
abbrev pub EachNamed : Dialogs → Type 0
EachNamed dialogs = AllByRecursion
    (λ (entry : DialogId × HeldDialog). is_dialog_id entry.0 (name_of_dialog entry.1.dialog) ≡ true)
    dialogs

-- no later entry has the name of the first
none_later : (own name : DialogId) (dialogs : Dialogs) → is_dialog_id own name ≡ true
    → AllByRecursion (λ key. is_dialog_id own key ≡ false) (keys_of dialogs)
    → dialog_at name dialogs ≡ None
none_later own name [] same others = refl
none_later own name (entry ∷ dialogs) same others =
    (λ i. cond ((sym (name_laws.congr own name entry.0 same) ∙ others.0) i) (Some entry.1)
    (dialog_at name dialogs))
    ∙ none_later own name dialogs same others.1

pub each_named : (dialogs : Dialogs) → AreApart dialogs → AreNamed dialogs → EachNamed dialogs
each_named [] apart named = tt
each_named (entry ∷ dialogs) apart named = (
  named entry.0 entry.1
      (ap (λ b. cond b (Some entry.1) (dialog_at entry.0 dialogs)) (name_laws.refl entry.0)),
  each_named dialogs (IsDistinct-tail is_dialog_id entry.0 (keys_of dialogs) apart)
      (λ name held at. by_bool (is_dialog_id name entry.0)
      (λ same. absurd (never name held (none_later entry.0 name dialogs
      (name_laws.symm entry.0 name ∙ same)
      (IsDistinct-head is_dialog_id entry.0 (keys_of dialogs) apart)) at))
      (λ other. named name held
      (ap (λ b. cond b (Some entry.1) (dialog_at name dialogs)) other ∙ at))),
)
  where
    never : (name : DialogId) (held : HeldDialog) → dialog_at name dialogs ≡ None
        → dialog_at name dialogs ≡ Some held → ⊥
    never name held none at = let wrong : None ≡ Some held = sym none ∙ at in absurd cc

-- ---- the dialogs that pass a test are told of, each once

told_first : (name own : DialogId) (held : HeldDialog) (rest : List HeldDialog) (b : Bool)
    → is_dialog_id own (name_of_dialog held.dialog) ≡ true
    → ends_told name (map ended_notice (cond b (held ∷ rest) rest))
    ≡ once (b && is_dialog_id own name) + ends_told name (map ended_notice rest)
told_first name own held rest true named =
    told_both name (ended_notice held ∷ []) (map ended_notice rest)
    ∙ ap (λ n. n + ends_told name (map ended_notice rest)) (told_one name own held named)
told_first name own held rest false named = omega arith

no_more : (total n rest : ℕ) → total ≡ n + rest → rest ≡ 0 → total ≡ n
no_more total n rest is none = omega arith

none_first : (total n rest : ℕ) → total ≡ n + rest → n ≡ 0 → total ≡ rest
none_first total n rest is none = omega arith

and_right : (b c : Bool) → c ≡ true → once (b && c) ≡ once b
and_right true c e = ap once e
and_right false c e = refl

and_none : (b c : Bool) → c ≡ false → once (b && c) ≡ 0
and_none true c e = ap once e
and_none false c e = refl

pub told_filtered : (p : HeldDialog → Bool) (name : DialogId) (dialogs : Dialogs)
    → AreApart dialogs → EachNamed dialogs
    → ends_told name (map ended_notice (filter p (values_of dialogs)))
    ≡ once (ended_of p (dialog_at name dialogs))
told_filtered p name [] apart named = refl
told_filtered p name (entry ∷ dialogs) apart named =
    let rest = filter p (values_of dialogs) in
    let all = told_first name entry.0 entry.1 rest (p entry.1) named.0 in
    let later = told_filtered p name dialogs
    (IsDistinct-tail is_dialog_id entry.0 (keys_of dialogs) apart) named.1 in
    by_bool (is_dialog_id name entry.0)
    (λ same. let own : is_dialog_id entry.0 name ≡ true = name_laws.symm entry.0 name ∙ same in
    let none = none_later entry.0 name dialogs own
    (IsDistinct-head is_dialog_id entry.0 (keys_of dialogs) apart) in
    no_more (ends_told name (map ended_notice (filter p (values_of (entry ∷ dialogs)))))
    (once (p entry.1 && is_dialog_id entry.0 name)) (ends_told name (map ended_notice rest)) all
    (later ∙ ap (λ o. once (ended_of p o)) none)
    ∙ and_right (p entry.1) (is_dialog_id entry.0 name) own
    ∙ ap (λ b. once (ended_of p (cond b (Some entry.1) (dialog_at name dialogs)))) (sym same))
    (λ other. none_first
    (ends_told name (map ended_notice (filter p (values_of (entry ∷ dialogs)))))
    (once (p entry.1 && is_dialog_id entry.0 name)) (ends_told name (map ended_notice rest)) all
    (and_none (p entry.1) (is_dialog_id entry.0 name) (name_laws.symm entry.0 name ∙ other))
    ∙ later
    ∙ ap (λ b. once (ended_of p (cond b (Some entry.1) (dialog_at name dialogs)))) (sym other))

-- ---- all dialogs

-- a test of dialogs, by name
abbrev pub Which : Type 0
Which = DialogId → HeldDialog → Bool

abbrev pub no_name : DialogId → Bool
no_name name = false

abbrev pub none_ends : Which
none_ends name held = false

-- afterwards a dialog is held if it was opened, or was held and didn't end; each end is told once
pub record Goes (opens : DialogId → Bool) (ends : Which) (before after : Dialogs)
    (outs : List CallOut) : Type 0 where
  pub held : (name : DialogId) → is_some (dialog_at name after)
      ≡ (opens name || left_of (ends name) (dialog_at name before))
  pub told : (name : DialogId) → ends_told name outs
      ≡ once (ended_of (ends name) (dialog_at name before))

pub goes_as : (opens others : DialogId → Bool) (ends other_ends : Which) (before after : Dialogs)
    (outs : List CallOut) → ((name : DialogId) → opens name ≡ others name)
    → ((name : DialogId) (held : HeldDialog) → dialog_at name before ≡ Some held
    → ends name held ≡ other_ends name held)
    → Goes opens ends before after outs → Goes others other_ends before after outs
goes_as opens others ends other_ends before after outs same_opens same goes = record {
  held = λ name. goes.held name
      ∙ (λ i. same_opens name i
      || same_left (ends name) (other_ends name) (dialog_at name before) (same name) i);
  told = λ name. goes.told name
      ∙ ap once (same_ended (ends name) (other_ends name) (dialog_at name before) (same name));
}

-- the same dialogs are held
pub goes_kept : (before after : Dialogs) (outs : List CallOut)
    → ((name : DialogId) → is_some (dialog_at name after) ≡ is_some (dialog_at name before))
    → names_ended outs ≡ [] → Goes no_name none_ends before after outs
goes_kept before after outs same none = record {
  held = λ name. same name ∙ left_none (dialog_at name before);
  told = λ name. none_told name outs none ∙ ended_none (dialog_at name before);
}

pub goes_same : (dialogs : Dialogs) (outs : List CallOut) → names_ended outs ≡ []
    → Goes no_name none_ends dialogs dialogs outs
goes_same dialogs outs none = goes_kept dialogs dialogs outs (λ name. refl) none

pub changed_held : (own : DialogId) (change : HeldDialog → HeldDialog) (dialogs : Dialogs)
    (name : DialogId)
    → is_some (dialog_at name (dialog_changed own change dialogs))
    ≡ is_some (dialog_at name dialogs)
changed_held own change dialogs name =
    ap (λ o. is_some o) (entries.found_changed name_laws own name change dialogs)
    ∙ by_name (is_dialog_id own name) (dialog_at name dialogs)
  where
    by_name : (b : Bool) (o : Option HeldDialog)
        → is_some (cond b (option_map change o) o) ≡ is_some o
    by_name true None = refl
    by_name true (Some held) = refl
    by_name false o = refl

pub goes_changed : (own : DialogId) (change : HeldDialog → HeldDialog) (dialogs : Dialogs)
    (outs : List CallOut) → names_ended outs ≡ []
    → Goes no_name none_ends dialogs (dialog_changed own change dialogs) outs
goes_changed own change dialogs outs none =
    goes_kept dialogs (dialog_changed own change dialogs) outs (changed_held own change dialogs)
    none

-- further outputs come first, which tell of no end
pub goes_before : (opens : DialogId → Bool) (ends : Which) (before after : Dialogs)
    (xs ys : List CallOut) → names_ended xs ≡ [] → Goes opens ends before after ys
    → Goes opens ends before after (xs ++ ys)
goes_before opens ends before after xs ys none goes = record {
  held = goes.held;
  told = λ name. let both = told_both name xs ys in
      let no = none_told name xs none in
      let now = goes.told name in
      omega (arith, both, no, now);
}

pub goes_beside : (opens : DialogId → Bool) (ends : Which) (before after : Dialogs)
    (xs ys : List CallOut) → names_ended ys ≡ [] → Goes opens ends before after xs
    → Goes opens ends before after (xs ++ ys)
goes_beside opens ends before after xs ys none goes = record {
  held = goes.held;
  told = λ name. let both = told_both name xs ys in
      let no = none_told name ys none in
      let now = goes.told name in
      omega (arith, both, no, now);
}

-- ---- what ends dialogs

-- the dialog of a name ends; it has the name of its tags
pub goes_removed : (own : DialogId) (dialogs : Dialogs) → AreApart dialogs → AreNamed dialogs
    → Goes no_name (λ name held. is_dialog_id own name) dialogs (ended_at own dialogs).0
    (ended_at own dialogs).1
goes_removed own dialogs apart named = record {
  held = λ name. ap (λ o. is_some o)
      (lookup-remove_entry name_laws (is_dialog_id own) (λ y z e. name_laws.congr own y z e) name
      dialogs apart)
      ∙ left_all (is_dialog_id own name) (dialog_at name dialogs);
  told = λ name. by_own name (dialog_at own dialogs) refl;
}
  where
    by_own : (name : DialogId) (o : Option HeldDialog) → dialog_at own dialogs ≡ o
        → ends_told name (option_map_or (λ held. ended_notice held ∷ []) o [])
        ≡ once (ended_of (λ held. is_dialog_id own name) (dialog_at name dialogs))
    by_own name None is =
        by_bool (is_dialog_id own name)
        (λ same. ap (λ o. once (ended_of (λ held. is_dialog_id own name) o))
        (sym (entries.same_key name_laws own name dialogs same ∙ is)))
        (λ other. ended_none (dialog_at name dialogs)
        ∙ ap (λ b. once (ended_of (λ held. b) (dialog_at name dialogs))) (sym other))
    by_own name (Some held) is =
        told_one name own held (named own held is)
        ∙ by_bool (is_dialog_id own name)
        (λ same. ap (λ o. once (ended_of (λ held. is_dialog_id own name) o))
        (sym (entries.same_key name_laws own name dialogs same ∙ is)))
        (λ other. ap once other ∙ ended_none (dialog_at name dialogs)
        ∙ ap (λ b. once (ended_of (λ held. b) (dialog_at name dialogs))) (sym other))

-- those that pass a test end
left_filtered : (p : HeldDialog → Bool) (o : Option HeldDialog)
    → is_some (option_filter (λ held. not (p held)) o) ≡ left_of p o
left_filtered p None = refl
left_filtered p (Some held) = by_test (not (p held))
  where
    by_test : (b : Bool) → is_some (cond {A = Option HeldDialog} b (Some held) None) ≡ b
    by_test true = refl
    by_test false = refl

pub goes_filtered : (p : HeldDialog → Bool) (dialogs : Dialogs) (outs : List CallOut)
    → AreApart dialogs
    → ((name : DialogId) → ends_told name outs ≡ once (ended_of p (dialog_at name dialogs)))
    → Goes no_name (λ name held. p held) dialogs (filter (λ entry. not (p entry.1)) dialogs) outs
goes_filtered p dialogs outs apart told = record {
  held = λ name. ap (λ o. is_some o)
      (lookup-filter-values name_laws (λ held. not (p held)) name dialogs apart)
      ∙ left_filtered p (dialog_at name dialogs);
  told = told;
}

pub early_told : (invite : Id) (dialogs : Dialogs) → AreApart dialogs → AreNamed dialogs
    → (name : DialogId) → ends_told name (early_ended invite dialogs).1
    ≡ once (ended_of (is_early_of invite) (dialog_at name dialogs))
early_told invite dialogs apart named name =
    told_filtered (is_early_of invite) name dialogs apart (each_named dialogs apart named)

pub goes_early : (invite : Id) (dialogs : Dialogs) → AreApart dialogs → AreNamed dialogs
    → Goes no_name (λ name held. is_early_of invite held) dialogs (early_ended invite dialogs).0
    (early_ended invite dialogs).1
goes_early invite dialogs apart named =
    goes_filtered (is_early_of invite) dialogs (early_ended invite dialogs).1 apart
    (early_told invite dialogs apart named)

-- ---- one after the other

-- the dialogs change, and then those of some names end
pub goes_named_then : (ends : DialogId → Bool) (before middle after : Dialogs)
    (outs : List CallOut)
    → ((name : DialogId) → is_some (dialog_at name middle) ≡ is_some (dialog_at name before))
    → Goes no_name (λ name held. ends name) middle after outs
    → Goes no_name (λ name held. ends name) before after outs
goes_named_then ends before middle after outs same goes = record {
  held = λ name. goes.held name
      ∙ left_alike (ends name) (dialog_at name middle) (dialog_at name before) (same name);
  told = λ name. goes.told name
      ∙ ap once (ended_alike (ends name) (dialog_at name middle) (dialog_at name before)
      (same name));
}

-- those that pass one test end, and then those that pass another
left_then : (p e : HeldDialog → Bool) (o : Option HeldDialog)
    → left_of e (option_filter (λ held. not (p held)) o)
    ≡ left_of (λ held. p held || e held) o
left_then p e None = refl
left_then p e (Some held) =
    elim (p held) as (λ b. left_of e (cond {A = Option HeldDialog} (not b) (Some held) None)
    ≡ not (b || e held)) [
      | true ↦ refl
      | false ↦ refl
    ]

ended_then : (p e : HeldDialog → Bool) (o : Option HeldDialog) (n m : ℕ)
    → n ≡ once (ended_of p o) → m ≡ once (ended_of e (option_filter (λ held. not (p held)) o))
    → n + m ≡ once (ended_of (λ held. p held || e held) o)
ended_then p e None n m first second = omega (arith, first, second)
ended_then p e (Some held) n m first second = by_test (p held) refl
  where
    sum_is : (a b c : ℕ) → a ≡ c → b ≡ 0 → a + b ≡ c
    sum_is a b c x y = omega arith

    sum_later : (a b c : ℕ) → a ≡ 0 → b ≡ c → a + b ≡ c
    sum_later a b c x y = omega arith

    by_test : (b : Bool) → p held ≡ b → n + m ≡ once (p held || e held)
    by_test true is =
        sum_is n m (once (p held || e held)) (first ∙ (λ i. once (is i))
        ∙ (λ i. once (sym is i || e held)))
        (second ∙ ap (λ b. once (ended_of e (cond (not b) (Some held) None))) is)
    by_test false is =
        sum_later n m (once (p held || e held)) (first ∙ ap once is)
        (second ∙ ap (λ b. once (ended_of e (cond (not b) (Some held) None))) is
        ∙ (λ i. once (sym is i || e held)))

pub goes_filtered_then : (p : HeldDialog → Bool) (ends : Which) (before after : Dialogs)
    (xs ys : List CallOut) → AreApart before
    → ((name : DialogId) → ends_told name xs ≡ once (ended_of p (dialog_at name before)))
    → Goes no_name ends (filter (λ entry. not (p entry.1)) before) after ys
    → Goes no_name (λ name held. p held || ends name held) before after (xs ++ ys)
goes_filtered_then p ends before after xs ys apart told goes =
    let found = λ (name : DialogId).
    lookup-filter-values name_laws (λ held. not (p held)) name before apart in
    record {
      held = λ name. goes.held name ∙ ap (λ o. left_of (ends name) o) (found name)
          ∙ left_then p (ends name) (dialog_at name before);
      told = λ name. told_both name xs ys
          ∙ ended_then p (ends name) (dialog_at name before) (ends_told name xs)
          (ends_told name ys) (told name)
          (goes.told name ∙ ap (λ o. once (ended_of (ends name) o)) (found name));
    }
