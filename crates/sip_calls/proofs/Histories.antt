-- For all inputs of a call: the dialog that is held under a name is what its history makes it.
use Rattle.std.proofs.Common.{◌≡◌, ◌⊎◌, inl, inr, ℕ, ◌+◌, Bool, true, false, List, [], ◌∷◌, ◌++◌, length, refl, sym, ap, subst, ◌∙◌, add-zero, arith}
use Rattle.std.specs.Prelude.{Option, None, Some, filter_map, fold, if◌then◌else◌}
use Rattle.std.specs.List.{IsDistinct, cons_option}
use Rattle.std.specs.Option.{option_map, option_map_or}
use Rattle.std.proofs.lemmas.List.{length-append}
use Rattle.std.proofs.lemmas.Map.Keys.{IsDistinct-tail}
use Rattle.keyed_machine.specs.Machine.{Timed}
use Rattle.sip_message.specs.declared.cseq.CSeq.{CSeq}
use Rattle.sip_message.specs.declared.id.Id.{Id}
use Rattle.sip_dialog.specs.declared.dialog.Dialog.{Dialog}
use Rattle.sip_dialog.specs.Life.{Happening, dialog_after}
use Rattle.sip_dialog.specs.Opening.{Opening, opened}
use Rattle.sip_held_dialogs.specs.declared.held_dialog.DialogId.{DialogId}
use Rattle.sip_held_dialogs.specs.declared.held_dialog.HeldDialog.{HeldDialog}
use Rattle.sip_held_dialogs.specs.Dialogs.{dialog_at, happened, is_dialog_id}
use Rattle.sip_held_dialogs.specs.Ids.{is_id}
use Rattle.sip_held_dialogs.specs.Lives.{AllFit}
use Rattle.sip_held_dialogs.specs.Sent.{NumberedAfter, NumberedFrom, cseqs_in, name_of_dialog, number_before, requests_made}
use Rattle.sip_held_dialogs.proofs.Entries.{none_apart}
use Rattle.sip_held_dialogs.proofs.Heard.{AreApart, Begins, Goes, Life, OpensBy, Stays, id_laws}
use Rattle.sip_held_dialogs.proofs.Lives.{all_on}
use Rattle.sip_clients.proofs.DialogSends.{AreNamed}
use Rattle.sip_clients.proofs.Hearing.{NoneOf, apart_now}
use Rattle.sip_calls.specs.declared.call.Call.{Call}
use Rattle.sip_calls.specs.declared.calls.Calls.{Calls}
use Rattle.sip_calls.specs.Call.{CallItem, call_step}
use Rattle.sip_calls.specs.Histories.{CountsItsRequests, HasItsName, HasTheGreatestNumber, HasTheLatestRoute, HasTheNextNumber, History, HoldsItsHistory, NumbersItsRequests, begun_with, call_from, history_after, history_from, history_of, with_more, happens_in, opening_in}
use Rattle.sip_calls.specs.Provisionals.{EventsDiffer, event_in, side_held}
use Rattle.sip_calls.proofs.Counts.{count_both, counted, how_many, life_counts, made_count}
use Rattle.sip_calls.proofs.LifeSteps.{by_input}

-- a dialog in which nothing happened is what its opening makes it
nothing_yet : (opening : Opening) → opened opening ≡ dialog_after opening []
nothing_yet opening =
    let start = opened opening in
    λ i. record start { local_cseq = sym (add-zero start.local_cseq) i }

-- ---- one dialog

-- what is held under a name, with its history; no later event made it
abbrev pub Stands : DialogId → Option HeldDialog → Option History → List Id → Type 0
Stands name None history ids = Unit {0}
Stands name (Some held) None ids = ⊥
Stands name (Some held) (Some history) ids =
    (held.dialog ≡ dialog_after history.opening history.life)
    × (is_dialog_id name (name_of_dialog (opened history.opening)) ≡ true)
    × NoneOf held.created_by ids
    × (how_many history.life ≡ length history.sent)
    × NumberedAfter (opened history.opening).local_cseq history.sent

-- the dialog was made by this event
abbrev pub born_of : Option Id → Option HeldDialog → Bool
born_of event after = option_map_or
    (λ id. option_map_or (λ (held : HeldDialog). is_id held.created_by id) after false) event false

abbrev next_history : Bool → Option Opening → List CSeq → List Happening → Option History
    → Option History
next_history created_by start cseqs more history =
    if created_by then option_map (begun_with cseqs) start else option_map (with_more more cseqs)
    history

pub not_born : (event : Option Id) (ids : List Id) (held after : HeldDialog)
    → after.created_by ≡ held.created_by → NoneOf held.created_by (cons_option event ids)
    → born_of event (Some after) ≡ false
not_born None ids held after same others = refl
not_born (Some id) ids held after same others =
    ap (λ created_by. is_id created_by id) same ∙ others.0

others_left : (created_by : Id) (event : Option Id) (ids : List Id)
    → NoneOf created_by (cons_option event ids) → NoneOf created_by ids
others_left created_by None ids others = others
others_left created_by (Some id) ids others = others.1

-- ---- numbers

none_added : (last n : ℕ) (cseqs : List CSeq) → n ≡ 0 → NumberedAfter (last + n) cseqs
    → NumberedAfter last cseqs
none_added last n cseqs none numbers =
    subst (λ m. NumberedAfter m cseqs) (ap (λ m. last + m) none ∙ add-zero last) numbers

one_on : (last n m : ℕ) → m ≡ n + 1 → last + m ≡ (last + 1) + n
one_on last n m e = omega arith

numbered_on : (last : ℕ) (xs ys : List CSeq) → NumberedAfter last xs
    → NumberedAfter (last + length xs) ys → NumberedAfter last (xs ++ ys)
numbered_on last [] ys first second = none_added last 0 ys refl second
numbered_on last (x ∷ xs) ys first second = (
  first.0,
  numbered_on (last + 1) xs ys first.1
      (subst (λ n. NumberedAfter n ys)
      (one_on last (length xs) (length (x ∷ xs)) (counted x xs)) second),
)

none_made : (cseqs : List CSeq) → requests_made cseqs ≡ [] → cseqs ≡ []
none_made [] none = refl
none_made (cseq ∷ cseqs) none = absurd cc

-- ---- one input

module _ (name : DialogId) (event : Option Id) (ids : List Id) (start : Option Opening)
    (came : Option ℕ) (cseqs : List CSeq)
    (later : (created_by : Id) → event ≡ Some created_by → NoneOf created_by ids) where
  abbrev Next : Option HeldDialog → List Happening → Option History → Type 0
  Next after more history =
      Stands name after (next_history (born_of event after) start cseqs more history) ids

  stays_on : (life : Life) (held after : HeldDialog) (history : Option History)
      → how_many (life held) ≡ length cseqs → NumberedAfter held.dialog.local_cseq cseqs
      → Stands name (Some held) history (cons_option event ids)
      → Stays came life (Some held) (Some after) → Next (Some after) (life held) history
  stays_on life held after None counts numbers stands stays = absurd stands
  stays_on life held after (Some history) counts numbers stands stays =
      let more = life held in
      let first = (opened history.opening).local_cseq in
      let fits : AllFit (dialog_after history.opening history.life) more =
      subst (λ (dialog : Dialog). AllFit dialog more) stands.0 stays.2.0 in
      let same : after.dialog ≡ dialog_after history.opening (history.life ++ more) =
      stays.2.1 ∙ ap (λ dialog. fold happened dialog more) stands.0
      ∙ all_on history.opening history.life more fits in
      let last : held.dialog.local_cseq ≡ first + length history.sent =
      ap (λ (dialog : Dialog). dialog.local_cseq) stands.0 ∙ ap (λ n. first + n) stands.3 in
      let counted : how_many (history.life ++ more) ≡ length (history.sent ++ cseqs) =
      count_both history.life more ∙ (λ i. stands.3 i + counts i)
      ∙ sym (length-append history.sent cseqs) in
      subst (λ (b : Bool). Stands name (Some after)
      (next_history b start cseqs more (Some history)) ids)
      (sym (not_born event ids held after stays.0 stands.2)) (
        same,
        stands.1,
        subst (λ (created_by : Id). NoneOf created_by ids) (sym stays.0)
            (others_left held.created_by event ids stands.2),
        counted,
        numbered_on first history.sent cseqs stands.4
            (subst (λ n. NumberedAfter n cseqs) last numbers),
      )

  -- a dialog that is made has the numbers after that of its opening
  begun_numbers : (before : Option HeldDialog) (opening : Opening) → start ≡ Some opening
      → NumberedFrom (number_before start before) cseqs
      → ((before ≡ None) ⊎ (requests_made cseqs ≡ []))
      → NumberedAfter (opened opening).local_cseq cseqs
  begun_numbers before opening opens numbers (inl none) =
      subst (λ (o : Option Opening). NumberedFrom (number_before o None) cseqs) opens
      (subst (λ (o : Option HeldDialog). NumberedFrom (number_before start o) cseqs) none numbers)
  begun_numbers before opening opens numbers (inr none) =
      subst (NumberedAfter (opened opening).local_cseq) (sym (none_made cseqs none)) tt

  begins_now : (before : Option HeldDialog) (after : HeldDialog) (more : List Happening)
      (history : Option History) → NumberedFrom (number_before start before) cseqs
      → Begins event (OpensBy start name) came (requests_made cseqs) before (Some after)
      → Next (Some after) more history
  begins_now before after more history numbers begins =
      let opening = begins.2.0 in
      let opens = begins.2.1 in
      let grows = begins.2.2 in
      let life = requests_made cseqs in
      let created_by : born_of event (Some after) ≡ true =
      ap (λ event. born_of event (Some after)) begins.0 ∙ id_laws.refl after.created_by in
      let fits : AllFit (dialog_after opening []) life =
      subst (λ (dialog : Dialog). AllFit dialog life) (nothing_yet opening) grows.0 in
      let same : after.dialog ≡ dialog_after opening life =
      grows.1 ∙ ap (λ dialog. fold happened dialog life) (nothing_yet opening)
      ∙ all_on opening [] life fits in
      subst (λ (b : Bool). Stands name (Some after) (next_history b start cseqs more history) ids)
      (sym created_by)
      (subst (λ (o : Option Opening). Stands name (Some after) (option_map (begun_with cseqs) o)
      ids)
      (sym opens.0) (
        same,
        opens.1,
        later after.created_by begins.0,
        made_count cseqs,
        begun_numbers before opening opens.0 numbers begins.3,
      ))

  pub next_stands : (life : Life) (before after : Option HeldDialog) (history : Option History)
      → ((held : HeldDialog) → how_many (life held) ≡ length cseqs)
      → NumberedFrom (number_before start before) cseqs
      → Stands name before history (cons_option event ids)
      → Goes event (OpensBy start name) came life (requests_made cseqs) before after
      → Next after (option_map_or life before []) history
  next_stands life before None history counts numbers stands goes = tt
  next_stands life None (Some after) history counts numbers stands (inl stays) = absurd stays
  next_stands life (Some held) (Some after) history counts numbers stands (inl stays) =
      stays_on life held after history (counts held) numbers stands stays
  next_stands life before (Some after) history counts numbers stands (inr begins) =
      begins_now before after (option_map_or life before []) history numbers begins

-- ---- all inputs

named_so : (name : DialogId) (o : Option HeldDialog) (history : Option History) (ids : List Id)
    → Stands name o history ids → (held : HeldDialog) → o ≡ Some held
    → is_dialog_id name (name_of_dialog held.dialog) ≡ true
named_so name None history ids stands held at = absurd cc
named_so name (Some there) None ids stands held at = absurd stands
named_so name (Some there) (Some history) ids stands held at =
    let same : there ≡ held = cc in
    ap (λ (held : HeldDialog). is_dialog_id name (name_of_dialog held.dialog)) (sym same)
    ∙ ap (λ dialog. is_dialog_id name (name_of_dialog dialog)) stands.0 ∙ stands.1

pub rest_differ : (event : Option Id) (ids : List Id) → IsDistinct is_id (cons_option event ids)
    → IsDistinct is_id ids
rest_differ None ids differ = differ
rest_differ (Some id) ids differ = IsDistinct-tail is_id id ids differ

abbrev pub ids_of : List (Timed CallItem) → List Id
ids_of inputs = filter_map (λ timed. event_in timed.input) inputs

abbrev pub AllStand : Option Call → (DialogId → Option History) → List Id → Type 0
AllStand state histories ids = (name : DialogId)
    → Stands name (dialog_at name (side_held state).dialogs) (histories name) ids

-- the names of what is held differ, and each dialog stands
pub record Sound (state : Option Call) (histories : DialogId → Option History)
    (ids : List Id) : Type 0 where
  pub apart : AreApart (side_held state).dialogs
  pub stand : AllStand state histories ids

pub are_named : (state : Option Call) (histories : DialogId → Option History) (ids : List Id)
    → AllStand state histories ids → AreNamed (side_held state).dialogs
are_named state histories ids stand name held at =
    named_so name (dialog_at name (side_held state).dialogs) (histories name) ids (stand name) held
    at

-- after one input
pub next_sound : (calls : Calls) (input : Timed CallItem) (inputs : List (Timed CallItem))
    (state : Option Call) (histories : DialogId → Option History)
    → IsDistinct is_id (ids_of (input ∷ inputs)) → Sound state histories (ids_of (input ∷ inputs))
    → Sound (call_step calls state input.input input.moment).0
    (λ name. history_after calls name state (histories name) input) (ids_of inputs)
next_sound calls input inputs state histories differ sound =
    let done = call_step calls state input.input input.moment in
    let event = event_in input.input in
    let named = are_named state histories (ids_of (input ∷ inputs)) sound.stand in
    let step = by_input calls state input.input input.moment sound.apart named in
    let moves = step.1 in
    record {
      apart = moves.apart;
      stand = λ name. next_stands name event (ids_of inputs) (opening_in state input.input)
          (step.0 name) (cseqs_in name done.1)
          (λ created_by is. (apart_now created_by event (ids_of inputs) differ).1 is)
          (happens_in state input.input done.1 name)
          (dialog_at name (side_held state).dialogs)
          (dialog_at name (side_held done.0).dialogs)
          (histories name) (life_counts state input.input done.1 name) (step.2 name)
          (sound.stand name) (moves.goes name);
    }

from : (calls : Calls) (inputs : List (Timed CallItem)) (state : Option Call)
    (histories : DialogId → Option History) → IsDistinct is_id (ids_of inputs)
    → Sound state histories (ids_of inputs)
    → Sound (call_from calls state inputs)
    (λ name. history_from calls name state (histories name) inputs) []
from calls [] state histories differ sound = sound
from calls (input ∷ inputs) state histories differ sound =
    from calls inputs (call_step calls state input.input input.moment).0
    (λ name. history_after calls name state (histories name) input)
    (rest_differ (event_in input.input) (ids_of inputs) differ)
    (next_sound calls input inputs state histories differ sound)

-- before any input
pub none_yet : {ids : List Id} → Sound None (λ name. None) ids
none_yet = record { apart = none_apart is_dialog_id; stand = λ name. tt }

-- after all inputs, if nothing was held before
sound_after : (calls : Calls) (inputs : List (Timed CallItem)) → EventsDiffer inputs
    → Sound (call_from calls None inputs) (λ name. history_of calls name inputs) []
sound_after calls inputs differ =
    from calls inputs None (λ name. None) differ none_yet

told_so : (name : DialogId) (o : Option HeldDialog) (told : Option History)
    → Stands name o told [] → (held : HeldDialog) → o ≡ Some held
    → (history : History) × (told ≡ Some history)
    × (held.dialog ≡ dialog_after history.opening history.life)
    × (how_many history.life ≡ length history.sent)
    × NumberedAfter (opened history.opening).local_cseq history.sent
told_so name None told stands held at = absurd cc
told_so name (Some there) None stands held at = absurd stands
told_so name (Some there) (Some history) stands held at =
    let same : there ≡ held = cc in (
      history,
      refl,
      ap (λ (held : HeldDialog). held.dialog) (sym same) ∙ stands.0,
      stands.3,
      stands.4,
    )

told_at : (calls : Calls) (inputs : List (Timed CallItem)) → EventsDiffer inputs
    → (name : DialogId) (held : HeldDialog)
    → dialog_at name (side_held (call_from calls None inputs)).dialogs ≡ Some held
    → (history : History) × (history_of calls name inputs ≡ Some history)
    × (held.dialog ≡ dialog_after history.opening history.life)
    × (how_many history.life ≡ length history.sent)
    × NumberedAfter (opened history.opening).local_cseq history.sent
told_at calls inputs differ name held at =
    told_so name (dialog_at name (side_held (call_from calls None inputs)).dialogs)
    (history_of calls name inputs) ((sound_after calls inputs differ).stand name) held at

pub holds_its_history : HoldsItsHistory
holds_its_history calls inputs differ name held at =
    let so = told_at calls inputs differ name held at in (so.0, so.1, so.2)

pub has_its_name : HasItsName
has_its_name calls inputs differ name held at =
    are_named (call_from calls None inputs) (λ name. history_of calls name inputs) []
    (sound_after calls inputs differ).stand name held at

-- ---- what follows

pub counts_its_requests : CountsItsRequests
counts_its_requests calls inputs differ name held at =
    let so = told_at calls inputs differ name held at in
    let first = (opened (so.0).opening).local_cseq in (
      so.0,
      so.1,
      ap (λ (dialog : Dialog). dialog.local_cseq) so.2 ∙ ap (λ n. first + n) so.3,
    )

pub numbers_its_requests : NumbersItsRequests
numbers_its_requests calls inputs differ name held at =
    let so = told_at calls inputs differ name held at in (so.0, so.1, so.4)

pub has_the_next_number : HasTheNextNumber
has_the_next_number calls inputs input differ name =
    let call = call_from calls None inputs in
    let sound = sound_after calls inputs differ in
    let named = are_named call (λ name. history_of calls name inputs) [] sound.stand in
    (by_input calls call input.input input.moment sound.apart named).2 name

pub has_the_greatest_number : HasTheGreatestNumber
has_the_greatest_number calls inputs differ name held at =
    let so = told_at calls inputs differ name held at in
    (so.0, so.1, ap (λ (dialog : Dialog). dialog.remote_cseq) so.2)

pub has_the_latest_route : HasTheLatestRoute
has_the_latest_route calls inputs differ name held at =
    let so = told_at calls inputs differ name held at in (
      so.0,
      so.1,
      (
        ap (λ (dialog : Dialog). dialog.route_set) so.2,
        ap (λ (dialog : Dialog). dialog.target) so.2,
      ),
    )
