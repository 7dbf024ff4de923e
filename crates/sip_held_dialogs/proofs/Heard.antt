-- The dialog of a name before and after a step: it goes on with what happened in it and its latest
-- RSeq, it ends, or it is made anew.
use Rattle.std.proofs.Common.{◌≡◌, ◌⊎◌, inl, inr, ℕ, Bool, true, false, ◌&&◌, cond, List, [], ◌∷◌, refl, sym, ap, subst, ◌∙◌, nat_eq}
use Rattle.std.specs.Prelude.{Option, None, Some, filter, fold}
use Rattle.std.specs.Cmp.{IsEquivalence, first_so, second_so}
use Rattle.std.specs.Cmp.Lexicographic.{pointwise}
use Rattle.std.specs.Map.{remove_entry}
use Rattle.std.specs.Option.{option_map}
use Rattle.std.proofs.lemmas.Cmp.{nat_eq_equiv, nat_list_eq_equiv}
use Rattle.indexmap.specs.IndexMap.{insert_entry}
use Rattle.sip_message.specs.declared.id.Id.{Id}
use Rattle.sip_dialog.specs.declared.dialog.Dialog.{Dialog}
use Rattle.sip_dialog.specs.Endpoint.{some_unless_empty}
use Rattle.sip_dialog.specs.Life.{Happening}
use Rattle.sip_dialog.specs.Opening.{Opening, opened}
use Rattle.sip_reliable.specs.Inbound.{latest_after, offered}
use Rattle.sip_held_dialogs.specs.declared.held_dialog.DialogId.{DialogId}
use Rattle.sip_held_dialogs.specs.declared.held_dialog.HeldDialog.{HeldDialog}
use Rattle.sip_held_dialogs.specs.Dialogs.{dialog_at, dialog_changed, happened, is_dialog_id, tag_text, Dialogs}
use Rattle.sip_held_dialogs.specs.Ids.{is_id}
use Rattle.sip_held_dialogs.specs.Lives.{AllFit}
use Rattle.sip_held_dialogs.specs.Sent.{name_of_dialog}
use Rattle.sip_held_dialogs.proofs.Entries as entries

-- ---- names and ids

and_true : (x y : Bool) → x ≡ true → y ≡ true → (x && y) ≡ true
and_true x y e f = λ i. e i && f i

pub name_laws : IsEquivalence is_dialog_id
name_laws = record {
  refl = λ x. and_true (pointwise nat_eq x.local x.local) (pointwise nat_eq x.remote x.remote)
      (nat_list_eq_equiv.refl x.local) (nat_list_eq_equiv.refl x.remote);
  symm = λ x y i. nat_list_eq_equiv.symm x.local y.local i
      && nat_list_eq_equiv.symm x.remote y.remote i;
  congr = λ x y z e.
      let local = nat_list_eq_equiv.congr x.local y.local z.local
      (first_so (pointwise nat_eq x.local y.local) (pointwise nat_eq x.remote y.remote) e) in
      let remote = nat_list_eq_equiv.congr x.remote y.remote z.remote
      (second_so (pointwise nat_eq x.local y.local) (pointwise nat_eq x.remote y.remote) e) in
      λ i. local i && remote i;
}

pub id_laws : IsEquivalence is_id
id_laws = record {
  refl = λ x. and_true (nat_eq x.round x.round) (nat_eq x.place x.place) (nat_eq_equiv.refl x.round)
      (nat_eq_equiv.refl x.place);
  symm = λ x y i. nat_eq_equiv.symm x.round y.round i && nat_eq_equiv.symm x.place y.place i;
  congr = λ x y z e.
      let round = nat_eq_equiv.congr x.round y.round z.round
      (first_so (nat_eq x.round y.round) (nat_eq x.place y.place) e) in
      let place = nat_eq_equiv.congr x.place y.place z.place
      (second_so (nat_eq x.round y.round) (nat_eq x.place y.place) e) in
      λ i. round i && place i;
}

-- ---- nothing, either way, and tags

pub none_either : {X : Type 0} (b : Bool) → cond {A = List X} b [] [] ≡ []
none_either true = refl
none_either false = refl

pub tag_kept : (tag : List ℕ) → tag_text (some_unless_empty tag) ≡ tag
tag_kept [] = refl
tag_kept (b ∷ bs) = refl

-- ---- one dialog

-- what happened fits the dialog before, and leads to the dialog after
abbrev pub Grows : Dialog → List Happening → Dialog → Type 0
Grows before life after = AllFit before life × (after ≡ fold happened before life)

-- the latest RSeq, if this number may have come
abbrev pub heard_with : Option ℕ → Option ℕ → Option ℕ
heard_with None last_rseq = last_rseq
heard_with (Some number) last_rseq = latest_after (offered last_rseq number) last_rseq number

abbrev pub Keeps : Option ℕ → List Happening → HeldDialog → HeldDialog → Type 0
Keeps came life before after = (after.created_by ≡ before.created_by)
    × (after.last_rseq ≡ heard_with came before.last_rseq) × Grows before.dialog life after.dialog

-- what happens in a dialog
abbrev pub Life : Type 0
Life = HeldDialog → List Happening

abbrev pub nothing : Life
nothing held = []

abbrev pub KeptFrom : Option ℕ → Life → HeldDialog → Option HeldDialog → Type 0
KeptFrom came life after None = ⊥
KeptFrom came life after (Some before) = Keeps came (life before) before after

-- the dialog was there and this happened in it, or it is no longer held
abbrev pub Stays : Option ℕ → Life → Option HeldDialog → Option HeldDialog → Type 0
Stays came life before None = Unit {0}
Stays came life before (Some after) = KeptFrom came life after before

-- an event made it by an opening, and this happened in it since; nothing did if one of the name was
-- held before
abbrev pub Begins : Option Id → (Opening → Type 0) → Option ℕ → List Happening → Option HeldDialog
    → Option HeldDialog → Type 0
Begins event Opens came life before None = ⊥
Begins event Opens came life before (Some held) =
    (event ≡ Some held.created_by) × (held.last_rseq ≡ heard_with came None)
    × ((opening : Opening) × Opens opening × Grows (opened opening) life held.dialog)
    × ((before ≡ None) ⊎ (life ≡ []))

abbrev pub Goes : Option Id → (Opening → Type 0) → Option ℕ → Life → List Happening
    → Option HeldDialog → Option HeldDialog → Type 0
Goes event Opens came life begun before after =
    Stays came life before after ⊎ Begins event Opens came begun before after

pub grows_then : (x y z : Dialog) (life : List Happening) → Grows x life y → z ≡ y → Grows x life z
grows_then x y z life first same = (first.0, same ∙ first.1)

-- nothing more happens in it
pub keeps_then : (came : Option ℕ) (life : List Happening) (x y z : HeldDialog)
    → Keeps came life x y
    → Keeps None [] y z → Keeps came life x z
keeps_then came life x y z first second = (
  second.0 ∙ first.0,
  second.1 ∙ first.1,
  grows_then x.dialog y.dialog z.dialog life first.2 second.2.1,
)

pub keeps_same : (held : HeldDialog) → Keeps None [] held held
keeps_same held = (refl, refl, (tt, refl))

pub stays_same : (o : Option HeldDialog) → Stays None nothing o o
stays_same None = tt
stays_same (Some held) = keeps_same held

pub stays_over : (o : Option HeldDialog) → Stays None nothing o None
stays_over o = tt

pub stays_then : (life : Life) (x y z : Option HeldDialog) → Stays None life x y
    → Stays None nothing y z → Stays None life x z
stays_then life x y None first second = tt
stays_then life x None (Some z) first second = absurd second
stays_then life None (Some y) (Some z) first second = absurd first
stays_then life (Some x) (Some y) (Some z) first second =
    keeps_then None (life x) x y z first second

-- ---- all dialogs

abbrev pub AreApart : Dialogs → Type 0
AreApart dialogs = entries.Apart name_laws dialogs

-- what happens in the dialog of each name
abbrev pub Lives : Type 0
Lives = DialogId → Life

abbrev pub quiet : Lives
quiet name held = []

-- this happens only in the dialog of this name
abbrev pub in_one : DialogId → Life → Lives
in_one name life other held = cond (is_dialog_id name other) (life held) []

-- their names still differ, and the dialog of each name goes on or is no longer held
pub record Leads (lives : Lives) (before after : Dialogs) : Type 0 where
  pub apart : AreApart after
  pub stays : (name : DialogId)
      → Stays None (lives name) (dialog_at name before) (dialog_at name after)

pub leads_same : (dialogs : Dialogs) → AreApart dialogs → Leads quiet dialogs dialogs
leads_same dialogs apart =
    record { apart = apart; stays = λ name. stays_same (dialog_at name dialogs) }

pub leads_then : (lives : Lives) (x y z : Dialogs) → Leads lives x y
    → (AreApart y → Leads quiet y z) → Leads lives x z
leads_then lives x y z first second =
    let later = second first.apart in
    record {
      apart = later.apart;
      stays = λ name.
          stays_then (lives name) (dialog_at name x) (dialog_at name y) (dialog_at name z)
          (first.stays name) (later.stays name);
    }

-- lives can be replaced by others that agree on the held dialogs
pub leads_as : (lives others : Lives) (before after : Dialogs)
    → ((name : DialogId) (held : HeldDialog) → dialog_at name before ≡ Some held
    → lives name held ≡ others name held)
    → Leads lives before after → Leads others before after
leads_as lives others before after same leads = record {
  apart = leads.apart;
  stays = λ name. stays_as name (dialog_at name before) (dialog_at name after) (same name)
      (leads.stays name);
}
  where
    stays_as : (name : DialogId) (x y : Option HeldDialog)
        → ((held : HeldDialog) → x ≡ Some held → lives name held ≡ others name held)
        → Stays None (lives name) x y → Stays None (others name) x y
    stays_as name x None same stays = tt
    stays_as name None (Some y) same stays = absurd stays
    stays_as name (Some x) (Some y) same stays =
        subst (λ (life : List Happening). Keeps None life x y) (same x refl) stays

pub leads_changed : (name : DialogId) (change : HeldDialog → HeldDialog) (life : Life)
    → ((held : HeldDialog) → Keeps None (life held) held (change held))
    → (dialogs : Dialogs) → AreApart dialogs
    → Leads (in_one name life) dialogs (dialog_changed name change dialogs)
leads_changed name change life keeps dialogs apart = record {
  apart = entries.apart_changed name_laws name change dialogs (dialog_at name dialogs) apart;
  stays = λ other. subst (Stays None (in_one name life other) (dialog_at other dialogs))
      (sym (entries.found_changed name_laws name other change dialogs))
      (changed_so (is_dialog_id name other) (dialog_at other dialogs));
}
  where
    changed_so : (b : Bool) (o : Option HeldDialog)
        → Stays None (λ held. cond b (life held) []) o (cond b (option_map change o) o)
    changed_so true None = tt
    changed_so true (Some held) = keeps held
    changed_so false o = stays_same o

pub leads_removed : (name : DialogId) (dialogs : Dialogs) → AreApart dialogs
    → Leads quiet dialogs (remove_entry (is_dialog_id name) dialogs)
leads_removed name dialogs apart = record {
  apart = entries.apart_removed name_laws (is_dialog_id name) dialogs apart;
  stays =
      λ other. entries.by_removal name_laws (Stays None nothing) stays_same stays_over name other
      dialogs apart;
}

pub leads_filtered : (p : HeldDialog → Bool) (dialogs : Dialogs) → AreApart dialogs
    → Leads quiet dialogs (filter (λ entry. p entry.1) dialogs)
leads_filtered p dialogs apart = record {
  apart = entries.apart_filtered name_laws (λ entry. p entry.1) dialogs apart;
  stays = λ other. entries.by_filter name_laws (Stays None nothing) stays_same stays_over p other
      dialogs apart;
}

-- ---- where dialogs may be made

-- the dialog of a name is made by this opening, which has its tags
abbrev pub OpensBy : Option Opening → DialogId → Opening → Type 0
OpensBy start name opening =
    (start ≡ Some opening) × (is_dialog_id name (name_of_dialog (opened opening)) ≡ true)

-- the dialog of each name goes on, is no longer held, or was made by the event; an RSeq may have
-- come in it
pub record Moves (event : Option Id) (start : Option Opening) (came : DialogId → Option ℕ)
    (lives : Lives) (begun : DialogId → List Happening) (before after : Dialogs) : Type 0 where
  pub apart : AreApart after
  pub goes : (name : DialogId)
      → Goes event (OpensBy start name) (came name) (lives name) (begun name)
      (dialog_at name before) (dialog_at name after)

abbrev pub none_came : DialogId → Option ℕ
none_came name = None

pub moves_led : (event : Option Id) (start : Option Opening) (begun : DialogId → List Happening)
    (lives : Lives) (before after : Dialogs) → Leads lives before after
    → Moves event start none_came lives begun before after
moves_led event start begun lives before after leads =
    record { apart = leads.apart; goes = λ name. inl (leads.stays name) }

-- lives can be replaced by others that agree on the held and the made dialogs
pub moves_as : (event : Option Id) (start : Option Opening) (came : DialogId → Option ℕ)
    (lives others : Lives) (begun later : DialogId → List Happening) (before after : Dialogs)
    → ((name : DialogId) (held : HeldDialog) → dialog_at name before ≡ Some held
    → lives name held ≡ others name held)
    → ((name : DialogId) → begun name ≡ later name)
    → Moves event start came lives begun before after
    → Moves event start came others later before after
moves_as event start came lives others begun later before after same same_begun moves = record {
  apart = moves.apart;
  goes = λ name. goes_as name (dialog_at name before) (dialog_at name after) (same name)
      (moves.goes name);
}
  where
    goes_as : (name : DialogId) (x y : Option HeldDialog)
        → ((held : HeldDialog) → x ≡ Some held → lives name held ≡ others name held)
        → Goes event (OpensBy start name) (came name) (lives name) (begun name) x y
        → Goes event (OpensBy start name) (came name) (others name) (later name) x y
    goes_as name x None same goes = inl tt
    goes_as name None (Some y) same (inl stays) = absurd stays
    goes_as name (Some x) (Some y) same (inl stays) =
        inl (subst (λ (life : List Happening). Keeps (came name) life x y) (same x refl) stays)
    goes_as name x (Some y) same (inr begins) =
        inr (subst (λ (life : List Happening).
        Begins event (OpensBy start name) (came name) life x (Some y)) (same_begun name) begins)

-- tags of a dialog with this name give the name
pub same_name : (name other tags : DialogId) → is_dialog_id name tags ≡ true
    → is_dialog_id name other ≡ true → is_dialog_id other tags ≡ true
same_name name other tags own same = sym (name_laws.congr name other tags same) ∙ own

pub moves_made : (event : Id) (lives : Lives) (name : DialogId) (held : HeldDialog)
    (opening : Opening) → is_dialog_id name (name_of_dialog (opened opening)) ≡ true
    → ((other : DialogId) (held : HeldDialog) → is_dialog_id name other ≡ false
    → lives other held ≡ [])
    → held.created_by ≡ event → held.last_rseq ≡ None → held.dialog ≡ opened opening
    → (dialogs : Dialogs) → AreApart dialogs
    → Moves (Some event) (Some opening) none_came lives (λ other. []) dialogs
    (insert_entry is_dialog_id dialogs name held)
moves_made event lives name held opening own still created_by none is dialogs apart = record {
  apart = entries.apart_inserted name_laws name held dialogs apart;
  goes = λ other. subst (Goes (Some event) (OpensBy (Some opening) other) None (lives other) []
      (dialog_at other dialogs))
      (sym (entries.found_inserted name_laws name other held dialogs))
      (by_name other (is_dialog_id name other) refl (dialog_at other dialogs));
}
  where
    still_there : (other : DialogId) → is_dialog_id name other ≡ false → (o : Option HeldDialog)
        → Stays None (lives other) o o
    still_there other apart None = tt
    still_there other apart (Some there) =
        subst (λ (life : List Happening). Keeps None life there there)
        (sym (still other there apart)) (keeps_same there)

    by_name : (other : DialogId) (b : Bool) → is_dialog_id name other ≡ b → (o : Option HeldDialog)
        → Goes (Some event) (OpensBy (Some opening) other) None (lives other) [] o
        (cond b (Some held) o)
    by_name other true named o =
        let tags = name_of_dialog (opened opening) in
        inr (
          ap (λ id. Some id) (sym created_by),
          none,
          (opening, (refl, same_name name other tags own named), (tt, is)),
          inr refl,
        )
    by_name other false apart o = inl (still_there other apart o)
