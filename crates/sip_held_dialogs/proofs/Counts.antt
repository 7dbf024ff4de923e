-- How many of the held dialogs an INVITE made, after a change of one.
use Rattle.std.proofs.Common.{◌≡◌, ℕ, ◌+◌, ◌-◌, ◌≤◌, Bool, true, false, not, cond, ◌&&◌, List, [], ◌∷◌, ◌++◌, map, filter, refl, sym, ap, subst, ◌∙◌, arith}
use Rattle.std.specs.Prelude.{Option, None, Some, Result, Ok, Err, IfOk, OnOk, unwrap_or, if◌then◌else◌}
use Rattle.std.specs.Option.{option_map, option_map_or}
use Rattle.std.specs.List.{sum_by}
use Rattle.std.specs.HashMap.{HashMap}
use Rattle.std.specs.Map.{lookup, remove_entry, set_value, values_of}
use Rattle.std.proofs.lemmas.List.Sums.{sum_by-cons}
use Rattle.std.proofs.lemmas.Map.Entries.{sum_by-remove_entry, sum_by-set_value}
use Rattle.indexmap.specs.IndexMap.{insert_entry}
use Rattle.ordered_map.proofs.Inserts.{pushed_inserted, set_inserted}
use Rattle.keyed_machine.proofs.Ordered.{by_bool}
use Rattle.sip_message.specs.declared.id.Id.{Id}
use Rattle.sip_dialog.specs.Dialog.{is_early}
use Rattle.sip_user.specs.declared.item.CallOut.{CallOut}
use Rattle.sip_held_dialogs.specs.declared.held_dialog.DialogId.{DialogId}
use Rattle.sip_held_dialogs.specs.declared.held_dialog.HeldDialog.{HeldDialog}
use Rattle.seeded_hash.specs.declared.hash_seed.HashSeed.{HashSeed}
use Rattle.sip_held_dialogs.specs.declared.dialog_map.Made.{Made}
use Rattle.sip_held_dialogs.specs.Counted.{AreCounted, Count, IsMadeBy, count_at, count_of, one_by}
use Rattle.sip_held_dialogs.specs.declared.dialog_map.MadeBy.TheVariants.{One}
use Rattle.sip_held_dialogs.specs.Dialogs.{Dialogs, dialog_at, early_ended, ended_at, ended_notice, is_dialog_id, is_early_of}
use Rattle.sip_held_dialogs.specs.Ids.{is_id}
use Rattle.sip_held_dialogs.proofs.Entries.{found_inserted, same_key}
use Rattle.sip_held_dialogs.proofs.Heard.{id_laws}

-- what is written to a dialog leaves its INVITE
pub count_kept : (name : DialogId) (held new : HeldDialog) (dialogs : Dialogs) (invite : Id)
    → dialog_at name dialogs ≡ Some held → new.invite ≡ held.invite
    → count_of invite (set_value (is_dialog_id name) dialogs new) ≡ count_of invite dialogs
count_kept name held new dialogs invite found same =
    let counted =
    sum_by-set_value (one_by invite) (is_dialog_id name) dialogs held new found in
    let one : one_by invite new ≡ one_by invite held =
    ap (λ i. if is_id i invite then 1 else 0) same in
    omega (arith, counted, one)

pub one_more : (invite : Id) (name : DialogId) (held : HeldDialog) (dialogs : Dialogs)
    → count_of invite ((name, held) ∷ dialogs) ≡ one_by invite held + count_of invite dialogs
one_more invite name held dialogs = sum_by-cons (one_by invite) held (values_of dialogs)

-- ---- none

not_made : (b e : Bool) (rest : ℕ) → (if b then 1 else 0) + rest ≡ 0 → (b ≡ false) × (rest ≡ 0)
not_made true e rest is = absurd (omega (arith, is))
not_made false e rest is = (refl, omega (arith, is))

never_early : (b e : Bool) → b ≡ false → (e && b) ≡ false
never_early true e is = absurd cc
never_early false true is = refl
never_early false false is = refl

pub none_kept : (invite : Id) (dialogs : Dialogs) → count_of invite dialogs ≡ 0
    → filter (λ entry. not (is_early_of invite entry.1)) dialogs ≡ dialogs
none_kept invite [] is = refl
none_kept invite (entry ∷ dialogs) is =
    let parts = not_made (is_id entry.1.invite invite) true (count_of invite dialogs)
    (sym (one_more invite entry.0 entry.1 dialogs) ∙ is) in
    ap (λ b. cond (not b) (entry ∷ filter (λ entry. not (is_early_of invite entry.1)) dialogs)
    (filter (λ entry. not (is_early_of invite entry.1)) dialogs))
    (never_early (is_id entry.1.invite invite) (is_early entry.1.dialog.state) parts.0)
    ∙ ap (λ rest. entry ∷ rest) (none_kept invite dialogs parts.1)

pub none_found : (invite : Id) (dialogs : Dialogs) → count_of invite dialogs ≡ 0
    → filter (is_early_of invite) (values_of dialogs) ≡ []
none_found invite [] is = refl
none_found invite (entry ∷ dialogs) is =
    let parts = not_made (is_id entry.1.invite invite) true (count_of invite dialogs)
    (sym (one_more invite entry.0 entry.1 dialogs) ∙ is) in
    ap (λ b. cond b (entry.1 ∷ filter (is_early_of invite) (values_of dialogs))
    (filter (is_early_of invite) (values_of dialogs)))
    (never_early (is_id entry.1.invite invite) (is_early entry.1.dialog.state) parts.0)
    ∙ none_found invite dialogs parts.1

pub nothing_ends : (invite : Id) (dialogs : Dialogs) → count_of invite dialogs ≡ 0
    → ◌≡◌ {A = Dialogs × List CallOut} (dialogs, []) (early_ended invite dialogs)
nothing_ends invite dialogs none =
    let kept = none_kept invite dialogs none in
    let found = none_found invite dialogs none in
    λ i. (sym kept i, map ended_notice (sym found i))

-- ---- one

first_is : {X : Type 0} (b : Bool) (x y : X) (o : Option X) → b ≡ true
    → cond b (Some x) o ≡ Some y → x ≡ y
first_is true x y o e is = cc
first_is false x y o e is = absurd cc

later_is : {X : Type 0} (b : Bool) (x y : X) (o : Option X) → b ≡ false
    → cond b (Some x) o ≡ Some y → o ≡ Some y
later_is true x y o e is = absurd cc
later_is false x y o e is = is

module _ (invite : Id) (name : DialogId) (held : HeldDialog)
    (made : is_id held.invite invite ≡ true) where
  made_one : (one : HeldDialog) → one ≡ held → one_by invite one ≡ 1
  made_one one same = ap (one_by invite) same ∙ ap (λ b. if b then 1 else 0) made

  some_made : (dialogs : Dialogs) → dialog_at name dialogs ≡ Some held
      → 1 ≤ count_of invite dialogs
  some_made [] found = absurd cc
  some_made (entry ∷ dialogs) found =
      by_bool (is_dialog_id name entry.0)
      (λ here.
      let same = first_is (is_dialog_id name entry.0) entry.1 held (dialog_at name dialogs) here
      found in
      omega (arith, made_one entry.1 same, one_more invite entry.0 entry.1 dialogs))
      (λ apart.
      let later = later_is (is_dialog_id name entry.0) entry.1 held (dialog_at name dialogs) apart
      found in
      omega (arith, some_made dialogs later, one_more invite entry.0 entry.1 dialogs))

  left_first : (e : Bool) (entry : DialogId × HeldDialog) (rest left : Dialogs)
      → is_early entry.1.dialog.state ≡ e → is_id entry.1.invite invite ≡ true → left ≡ rest
      → cond (not (is_early_of invite entry.1)) (entry ∷ left) left
      ≡ cond e rest (entry ∷ rest)
  left_first true entry rest left is made same = rw (is, made) same
  left_first false entry rest left is made same = rw is (ap (λ es. entry ∷ es) same)

  left_later : (e : Bool) (entry : DialogId × HeldDialog) (rest left : Dialogs)
      → is_dialog_id name entry.0 ≡ false → is_early_of invite entry.1 ≡ false
      → left ≡ cond e (remove_entry (is_dialog_id name) rest) rest
      → cond (not (is_early_of invite entry.1)) (entry ∷ left) left
      ≡ cond e (cond (is_dialog_id name entry.0) rest
      (entry ∷ remove_entry (is_dialog_id name) rest)) (entry ∷ rest)
  left_later true entry rest left apart other same =
      rw (other, apart) (ap (λ es. entry ∷ es) same)
  left_later false entry rest left apart other same = rw other (ap (λ es. entry ∷ es) same)

  early_other : (entry : DialogId × HeldDialog) (rest : Dialogs)
      → count_of invite (entry ∷ rest) ≡ 1 → dialog_at name rest ≡ Some held
      → is_early_of invite entry.1 ≡ false
  early_other entry rest count found =
      let one = one_more invite entry.0 entry.1 rest in
      let some = some_made rest found in
      let parts = not_made (is_id entry.1.invite invite) true 0
      (omega (arith, one, some, count)) in
      never_early (is_id entry.1.invite invite) (is_early entry.1.dialog.state) parts.0

  -- the others stay
  pub only_left : (dialogs : Dialogs) → count_of invite dialogs ≡ 1
      → dialog_at name dialogs ≡ Some held
      → filter (λ entry. not (is_early_of invite entry.1)) dialogs
      ≡ cond (is_early held.dialog.state) (remove_entry (is_dialog_id name) dialogs) dialogs
  only_left [] count found = absurd cc
  only_left (entry ∷ rest) count found =
      by_bool (is_dialog_id name entry.0)
      (λ here.
      let same : entry.1 ≡ held = first_is (is_dialog_id name entry.0) entry.1 held
      (dialog_at name rest) here found in
      let none : count_of invite rest ≡ 0 =
      omega (arith, made_one entry.1 same, one_more invite entry.0 entry.1 rest, count) in
      left_first (is_early held.dialog.state) entry rest
      (filter (λ entry. not (is_early_of invite entry.1)) rest)
      (ap (λ (one : HeldDialog). is_early one.dialog.state) same)
      (ap (λ (one : HeldDialog). is_id one.invite invite) same ∙ made)
      (none_kept invite rest none)
      ∙ ap (λ b. cond (is_early held.dialog.state)
      (cond b rest (entry ∷ remove_entry (is_dialog_id name) rest)) (entry ∷ rest)) (sym here))
      (λ apart.
      let later = later_is (is_dialog_id name entry.0) entry.1 held (dialog_at name rest) apart
      found in
      let other = early_other entry rest count later in
      let one = one_more invite entry.0 entry.1 rest in
      let some = some_made rest later in
      left_later (is_early held.dialog.state) entry rest
      (filter (λ entry. not (is_early_of invite entry.1)) rest) apart other
      (only_left rest (omega (arith, one, some, count)) later))

  found_first : (e : Bool) (one : HeldDialog) (found : List HeldDialog)
      → is_early one.dialog.state ≡ e → is_id one.invite invite ≡ true → found ≡ []
      → cond (is_early_of invite one) (one ∷ found) found ≡ cond e (one ∷ []) []
  found_first true one found is made none = rw (is, made) (ap (λ rest. one ∷ rest) none)
  found_first false one found is made none = rw is none

  -- it alone is found
  pub only_found : (dialogs : Dialogs) → count_of invite dialogs ≡ 1
      → dialog_at name dialogs ≡ Some held
      → filter (is_early_of invite) (values_of dialogs)
      ≡ cond (is_early held.dialog.state) (held ∷ []) []
  only_found [] count found = absurd cc
  only_found (entry ∷ rest) count found =
      by_bool (is_dialog_id name entry.0)
      (λ here.
      let same : entry.1 ≡ held = first_is (is_dialog_id name entry.0) entry.1 held
      (dialog_at name rest) here found in
      let none : count_of invite rest ≡ 0 =
      omega (arith, made_one entry.1 same, one_more invite entry.0 entry.1 rest, count) in
      found_first (is_early held.dialog.state) entry.1
      (filter (is_early_of invite) (values_of rest))
      (ap (λ (one : HeldDialog). is_early one.dialog.state) same)
      (ap (λ (one : HeldDialog). is_id one.invite invite) same ∙ made)
      (none_found invite rest none)
      ∙ ap (λ one. cond (is_early held.dialog.state) (one ∷ []) []) same)
      (λ apart.
      let later = later_is (is_dialog_id name entry.0) entry.1 held (dialog_at name rest) apart
      found in
      let other = early_other entry rest count later in
      let one = one_more invite entry.0 entry.1 rest in
      let some = some_made rest later in
      ap (λ b. cond b (entry.1 ∷ filter (is_early_of invite) (values_of rest))
      (filter (is_early_of invite) (values_of rest))) other
      ∙ only_found rest (omega (arith, one, some, count)) later)

-- ---- one dialog more or less

pub count_removed : (name : DialogId) (held : HeldDialog) (dialogs : Dialogs) (invite : Id)
    → dialog_at name dialogs ≡ Some held
    → count_of invite (remove_entry (is_dialog_id name) dialogs)
    ≡ count_of invite dialogs - one_by invite held
count_removed name held dialogs invite found =
    let all = sum_by-remove_entry (one_by invite) (is_dialog_id name) dialogs in
    let one : unwrap_or (option_map (one_by invite) (dialog_at name dialogs)) 0
    ≡ one_by invite held =
    ap (λ o. unwrap_or (option_map (one_by invite) o) 0) found in
    omega (arith, all, one)

pub count_replaced : (name : DialogId) (former made : HeldDialog) (dialogs : Dialogs) (invite : Id)
    → dialog_at name dialogs ≡ Some former
    → count_of invite (insert_entry is_dialog_id dialogs name made)
    ≡ (count_of invite dialogs - one_by invite former) + one_by invite made
count_replaced name former made dialogs invite found =
    let set = sum_by-set_value (one_by invite) (is_dialog_id name) dialogs former made found in
    let put = ap (λ ds. count_of invite ds)
    (set_inserted is_dialog_id name made dialogs former found) in
    let all = sum_by-remove_entry (one_by invite) (is_dialog_id name) dialogs in
    let one : unwrap_or (option_map (one_by invite) (dialog_at name dialogs)) 0
    ≡ one_by invite former =
    ap (λ o. unwrap_or (option_map (one_by invite) o) 0) found in
    omega (arith, set, put, all, one)

pub count_more : (name : DialogId) (made : HeldDialog) (dialogs : Dialogs) (invite : Id)
    → count_of invite (dialogs ++ (name, made) ∷ []) ≡ count_of invite dialogs + one_by invite made
count_more name made [] invite =
    let one = one_more invite name made [] in omega (arith, one)
count_more name made (entry ∷ dialogs) invite =
    let first = one_more invite entry.0 entry.1 (dialogs ++ (name, made) ∷ []) in
    let more = count_more name made dialogs invite in
    let before = one_more invite entry.0 entry.1 dialogs in
    omega (arith, first, more, before)

pub count_new : (name : DialogId) (made : HeldDialog) (dialogs : Dialogs) (invite : Id)
    → dialog_at name dialogs ≡ None
    → count_of invite (insert_entry is_dialog_id dialogs name made)
    ≡ count_of invite dialogs + one_by invite made
count_new name made dialogs invite none =
    ap (λ ds. count_of invite ds) (sym (pushed_inserted is_dialog_id name made dialogs none))
    ∙ count_more name made dialogs invite

-- as many as before but one that was replaced or taken out, if there was one
pub count_inserted : (name : DialogId) (made : HeldDialog) (dialogs : Dialogs) (invite : Id)
    (former : Option HeldDialog) → dialog_at name dialogs ≡ former
    → count_of invite (insert_entry is_dialog_id dialogs name made)
    ≡ (count_of invite dialogs - option_map_or (one_by invite) former 0) + one_by invite made
count_inserted name made dialogs invite None none =
    omega (arith, count_new name made dialogs invite none)
count_inserted name made dialogs invite (Some former) found =
    count_replaced name former made dialogs invite found

none_left : (name : DialogId) (dialogs : Dialogs) → dialog_at name dialogs ≡ None
    → remove_entry (is_dialog_id name) dialogs ≡ dialogs
none_left name [] none = refl
none_left name (entry ∷ dialogs) none =
    by_first (is_dialog_id name entry.0) none (none_left name dialogs)
  where
    by_first : (b : Bool) → cond b (Some entry.1) (dialog_at name dialogs) ≡ None
        → (dialog_at name dialogs ≡ None → remove_entry (is_dialog_id name) dialogs ≡ dialogs)
        → cond b dialogs (entry ∷ remove_entry (is_dialog_id name) dialogs) ≡ entry ∷ dialogs
    by_first true none later = absurd cc
    by_first false none later = ap (λ rest. entry ∷ rest) (later none)

pub count_left : (name : DialogId) (dialogs : Dialogs) (invite : Id) (former : Option HeldDialog)
    → dialog_at name dialogs ≡ former
    → count_of invite (remove_entry (is_dialog_id name) dialogs)
    ≡ count_of invite dialogs - option_map_or (one_by invite) former 0
count_left name dialogs invite None none =
    let left = ap (count_of invite) (none_left name dialogs none) in omega (arith, left)
count_left name dialogs invite (Some former) found =
    count_removed name former dialogs invite found

-- ---- what the map of INVITEs has

-- what is written to a dialog leaves the counts
pub kept_counted : (invites : Option (HashMap Id Made HashSeed)) (name : DialogId)
    (held new : HeldDialog) (dialogs : Dialogs) → dialog_at name dialogs ≡ Some held
    → new.invite ≡ held.invite → AreCounted invites dialogs
    → AreCounted invites (set_value (is_dialog_id name) dialogs new)
kept_counted None name held new dialogs found same counted = tt
kept_counted (Some invites) name held new dialogs found same counted = λ invite.
    counted invite ∙ sym (count_kept name held new dialogs invite found same)

pub counts_of : (o : Option (HashMap Id Made HashSeed)) (invites : HashMap Id Made HashSeed)
    (dialogs : Dialogs) → o ≡ Some invites → AreCounted o dialogs → Count invites.entries dialogs
counts_of None invites dialogs is counted = absurd cc
counts_of (Some others) invites dialogs is counted =
    let same : others ≡ invites = cc in
    subst (λ (invites : HashMap Id Made HashSeed). Count invites.entries dialogs) same counted

-- an INVITE that made none before
pub counted_first : (invite id : Id) (made : Made) (invites : List (Id × Made))
    → lookup (is_id invite) invites ≡ None → made.count ≡ 1
    → count_at id (insert_entry is_id invites invite made)
    ≡ count_at id invites + (if is_id invite id then 1 else 0)
counted_first invite id made invites none one =
    ap (λ o. option_map_or (λ (made : Made). made.count) o 0)
    (found_inserted id_laws invite id made invites)
    ∙ by_bool (is_id invite id)
    (λ same.
    let gone : lookup (is_id id) invites ≡ None = same_key id_laws invite id invites same ∙ none in
    rw (same, gone, one) refl)
    (λ apart. rw apart (omega arith))

-- what follows from what a call ensures if it returns Ok
pub on_ok : {T E : Type 0} (r : Result T E) (P Q : Type 0) → OnOk r P → (P → Q) → OnOk r Q
on_ok (Ok x) P Q p f = f p
on_ok (Err e) P Q p f = tt

-- ---- the end of the only one

early_is : (invite : Id) (held : HeldDialog) → is_id held.invite invite ≡ true
    → is_early held.dialog.state ≡ is_early_of invite held
early_is invite held made = rw made (by_early (is_early held.dialog.state))
  where
    by_early : (e : Bool) → e ≡ (e && true)
    by_early true = refl
    by_early false = refl

ended_so : (invite : Id) (name : DialogId) (dialogs : Dialogs) (held : HeldDialog)
    → count_of invite dialogs ≡ 1 → dialog_at name dialogs ≡ Some held
    → is_id held.invite invite ≡ true → (e : Bool) → is_early held.dialog.state ≡ e
    → ◌≡◌ {A = Dialogs × List CallOut} (cond e (ended_at name dialogs) (dialogs, []))
    (early_ended invite dialogs)
ended_so invite name dialogs held count found made true is =
    let left = only_left invite name held made dialogs count found
    ∙ ap (λ e. cond e (remove_entry (is_dialog_id name) dialogs) dialogs) is in
    let one = only_found invite name held made dialogs count found
    ∙ ap (λ e. cond e (held ∷ []) []) is in
    let told : option_map_or (λ held. ended_notice held ∷ []) (dialog_at name dialogs) []
    ≡ map ended_notice (filter (is_early_of invite) (values_of dialogs)) =
    ap (λ o. option_map_or (λ held. ended_notice held ∷ []) o []) found
    ∙ ap (map ended_notice) (sym one) in
    λ i. (sym left i, told i)
ended_so invite name dialogs held count found made false is =
    let left = only_left invite name held made dialogs count found
    ∙ ap (λ e. cond e (remove_entry (is_dialog_id name) dialogs) dialogs) is in
    let one = only_found invite name held made dialogs count found
    ∙ ap (λ e. cond e (held ∷ []) []) is in
    λ i. (sym left i, map ended_notice (sym one i))

pub one_ends : (invite : Id) (name : DialogId) (dialogs : Dialogs) (held : HeldDialog)
    → IsMadeBy invite dialogs (One name) → Some held ≡ dialog_at name dialogs
    → (e : Bool) → e ≡ is_early_of invite held
    → ◌≡◌ {A = Dialogs × List CallOut} (cond e (ended_at name dialogs) (dialogs, []))
    (early_ended invite dialogs)
one_ends invite name dialogs held only found e is =
    let same : only.1.0 ≡ held = some_same (sym only.1.1 ∙ sym found) in
    let made : is_id held.invite invite ≡ true =
    ap (λ (held : HeldDialog). is_id held.invite invite) (sym same) ∙ only.1.2 in
    ended_so invite name dialogs held only.0 (sym found) made e
    (early_is invite held made ∙ sym is)
  where
    some_same : {X : Type 0} {x y : X} → Some x ≡ Some y → x ≡ y
    some_same e = cc

pub never_gone : (invite : Id) (name : DialogId) (dialogs : Dialogs)
    → IsMadeBy invite dialogs (One name) → dialog_at name dialogs ≡ None → ⊥
never_gone invite name dialogs only gone =
    let never : Some only.1.0 ≡ None = sym only.1.1 ∙ gone in cc

pub if_ok : {T E : Type 0} (r : Result T E) (P Q : T → Type 0) → IfOk r P → ((x : T) → P x → Q x)
    → IfOk r Q
if_ok (Ok x) P Q p f = f x p
if_ok (Err e) P Q p f = tt
