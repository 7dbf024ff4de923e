-- A tick: the dialogs that are still early end with their INVITEs. Each end is told once, since
-- each INVITE has an id of its own.
use Rattle.std.proofs.Common.{◌≡◌, ℕ, ◌+◌, Bool, true, false, ◌&&◌, ◌||◌, cond, List, [], ◌∷◌, refl, sym, ◌∙◌, arith}
use Rattle.std.specs.Prelude.{Option, None, Some}
use Rattle.std.specs.List.{AllByRecursion, list_any}
use Rattle.std.specs.Map.{keys_of, values_of}
use Rattle.std.proofs.lemmas.Map.Keys.{IsDistinct-head, IsDistinct-tail}
use Rattle.sip_message.specs.declared.id.Id.{Id}
use Rattle.sip_dialog.specs.Dialog.{is_early}
use Rattle.sip_held_dialogs.specs.declared.held_dialog.DialogId.{DialogId}
use Rattle.sip_held_dialogs.specs.declared.held_dialog.HeldDialog.{HeldDialog}
use Rattle.sip_user.specs.declared.item.CallOut.{CallOut}
use Rattle.sip_held_dialogs.specs.Dialogs.{Dialogs, dialog_at, early_ended, is_early_of}
use Rattle.sip_held_dialogs.specs.Ids.{is_id}
use Rattle.sip_held_dialogs.proofs.Heard.{AreApart as DialogsApart, id_laws}
use Rattle.sip_clients.specs.declared.client.Client.{Client}
use Rattle.sip_clients.specs.Client.{Clients, Side}
use Rattle.sip_clients.specs.Tick.{dialogs_left, early_ends_told, ends_early_at, is_over, over_notices}
use Rattle.sip_clients.proofs.AgainInvite.{AreApart}
use Rattle.sip_held_dialogs.proofs.EndedDialogs.{AreNamed, Goes, early_told, ended_of, ends_told, goes_filtered, no_name, once, told_both}

-- each request is held under its own id
abbrev pub AreKeyed : Clients → Type 0
AreKeyed clients =
    AllByRecursion (λ (entry : Id × Client). is_id entry.0 entry.1.id ≡ true) clients

module _ (now : ℕ) (dialogs : Dialogs) (apart : DialogsApart dialogs) (named : AreNamed dialogs)
    (name : DialogId) where
  abbrev found : Option HeldDialog
  found = dialog_at name dialogs

  abbrev ends_with : Client → Option HeldDialog → Bool
  ends_with client o = ended_of (λ held. is_over now client && is_early_of client.id held) o

  told_of_one : (client : Client)
      → ends_told name (early_ends_told now dialogs client) ≡ once (ends_with client found)
  told_of_one client = by_over (is_over now client)
    where
      none : (o : Option HeldDialog) → 0 ≡ once (ended_of (λ held. false) o)
      none None = refl
      none (Some held) = refl

      by_over : (b : Bool)
          → ends_told name (cond {A = List CallOut} b (early_ended client.id dialogs).1 [])
          ≡ once (ended_of (λ held. b && is_early_of client.id held) found)
      by_over true = early_told client.id dialogs apart named name
      by_over false = none found

  -- an early dialog was made by only one INVITE
  not_of_other : (id other : Id) (held : HeldDialog) → is_early_of id held ≡ true
      → is_id id other ≡ false → is_early_of other held ≡ false
  not_of_other id other held is apart_ids =
      by_early (is_early held.dialog.state) (is_id held.invite id) is
      (λ same. id_laws.congr held.invite id other same ∙ apart_ids)
    where
      by_early : (early made : Bool) → (early && made) ≡ true
          → (made ≡ true → is_id held.invite other ≡ false)
          → (early && is_id held.invite other) ≡ false
      by_early true true e others = others refl
      by_early true false e others = absurd cc
      by_early false made e others = refl

  key_apart : (entry : Id × Client) → is_id entry.0 entry.1.id ≡ true
      → (other : Id × Client) → is_id other.0 other.1.id ≡ true → is_id entry.0 other.0 ≡ false
      → is_id entry.1.id other.1.id ≡ false
  key_apart entry own other its distinct =
      sym (id_laws.congr entry.0 entry.1.id other.1.id own)
      ∙ id_laws.symm entry.0 other.1.id
      ∙ sym (id_laws.congr other.0 other.1.id entry.0 its)
      ∙ id_laws.symm other.0 entry.0 ∙ distinct

  none_of_rest : (entry : Id × Client) (clients : Clients) (held : HeldDialog)
      → is_id entry.0 entry.1.id ≡ true → is_early_of entry.1.id held ≡ true
      → AllByRecursion (λ key. is_id entry.0 key ≡ false) (keys_of clients) → AreKeyed clients
      → list_any (λ client. is_over now client && is_early_of client.id held) (values_of clients)
      ≡ false
  none_of_rest entry [] held own early others keyed = refl
  none_of_rest entry (next ∷ clients) held own early others keyed =
      let other = not_of_other entry.1.id next.1.id held early
      (key_apart entry own next keyed.0 others.0) in
      let rest = none_of_rest entry clients held own early others.1 keyed.1 in
      (λ i. (is_over now next.1 && other i) || rest i) ∙ neither (is_over now next.1)
    where
      neither : (b : Bool) → ((b && false) || false) ≡ false
      neither true = refl
      neither false = refl

  -- for a held dialog
  sum_of : (total n rest : ℕ) (here later : Bool) → total ≡ n + rest → n ≡ once here
      → rest ≡ once later → (here ≡ true → later ≡ false) → total ≡ once (here || later)
  sum_of total n rest true true all first second apart_from =
      let wrong : true ≡ false = apart_from refl in absurd cc
  sum_of total n rest true false all first second apart_from = omega (arith, all, first, second)
  sum_of total n rest false later all first second apart_from =
      all ∙ (λ i. first i + second i) ∙ plus_none (once later)
    where
      plus_none : (n : ℕ) → 0 + n ≡ n
      plus_none n = omega arith

  told_of_all : (clients : Clients) → AreApart clients → AreKeyed clients
      → ends_told name (over_notices now dialogs clients)
      ≡ once (ended_of (ends_early_at now clients) found)
  told_of_all [] clients_apart keyed = none found
    where
      none : (o : Option HeldDialog) → 0 ≡ once (ended_of (λ held. false) o)
      none None = refl
      none (Some held) = refl
  told_of_all (entry ∷ clients) clients_apart keyed =
      let others = IsDistinct-head is_id entry.0 (keys_of clients) clients_apart in
      let later = told_of_all clients
      (IsDistinct-tail is_id entry.0 (keys_of clients) clients_apart) keyed.1 in
      by_found found
      (told_both name (early_ends_told now dialogs entry.1) (over_notices now dialogs clients))
      (told_of_one entry.1) later others
    where
      early_so : (over early : Bool) → (over && early) ≡ true → early ≡ true
      early_so true early e = e
      early_so false early e = absurd cc

      by_found : (o : Option HeldDialog)
          → ends_told name (over_notices now dialogs (entry ∷ clients))
          ≡ ends_told name (early_ends_told now dialogs entry.1)
          + ends_told name (over_notices now dialogs clients)
          → ends_told name (early_ends_told now dialogs entry.1) ≡ once (ends_with entry.1 o)
          → ends_told name (over_notices now dialogs clients)
          ≡ once (ended_of (ends_early_at now clients) o)
          → AllByRecursion (λ key. is_id entry.0 key ≡ false) (keys_of clients)
          → ends_told name (over_notices now dialogs (entry ∷ clients))
          ≡ once (ended_of (ends_early_at now (entry ∷ clients)) o)
      by_found None all first second others = omega (arith, all, first, second)
      by_found (Some held) all first second others =
          sum_of (ends_told name (over_notices now dialogs (entry ∷ clients)))
          (ends_told name (early_ends_told now dialogs entry.1))
          (ends_told name (over_notices now dialogs clients))
          (is_over now entry.1 && is_early_of entry.1.id held) (ends_early_at now clients held)
          all first second
          (λ here. none_of_rest entry clients held keyed.0
          (early_so (is_over now entry.1) (is_early_of entry.1.id held) here) others keyed.1)

pub tick_goes : (now : ℕ) (side : Side) → DialogsApart side.dialogs → AreNamed side.dialogs
    → AreApart side.clients → AreKeyed side.clients
    → Goes no_name (λ name held. ends_early_at now side.clients held) side.dialogs
    (dialogs_left now side.dialogs side.clients) (over_notices now side.dialogs side.clients)
tick_goes now side apart named clients_apart keyed =
    goes_filtered (ends_early_at now side.clients) side.dialogs
    (over_notices now side.dialogs side.clients) apart
    (λ name. told_of_all now side.dialogs apart named name side.clients clients_apart keyed)
