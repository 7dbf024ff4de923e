-- How an input changes the latest RSeq of the first INVITE in a life of a dialog.
use Rattle.std.proofs.Common.{◌≡◌, inl, inr, ℕ, Bool, true, false, ◌==◌, List, [], ◌∷◌, ◌++◌, map, refl, sym, ap, subst, ◌∙◌}
use Rattle.std.specs.Prelude.{Option, None, Some, filter, if◌then◌else◌}
use Rattle.std.specs.Option.{option_and_then, option_map_or, option_map}
use Rattle.std.proofs.lemmas.Bool.{eqb-true}
use Rattle.std.specs.Cmp.{first_so, second_so}
use Rattle.sip_message.specs.declared.id.Id.{Id}
use Rattle.sip_dialog.specs.Life.{Happening}
use Rattle.sip_dialog.specs.Opening.{Opening}
use Rattle.keyed_machine.proofs.Ordered.{by_bool}
use Rattle.sip_reliable.specs.declared.offer.Offer.{Offer}
use Rattle.sip_reliable.specs.declared.offer.Offer.TheVariants.{Taken}
use Rattle.sip_reliable.specs.Inbound.{latest_after, offered, taken}
use Rattle.sip_held_dialogs.specs.declared.held_dialog.DialogReference.{DialogReference}
use Rattle.sip_held_dialogs.specs.declared.held_dialog.HeldDialog.{HeldDialog}
use Rattle.sip_user.specs.declared.item.CallOut.{CallOut}
use Rattle.sip_held_dialogs.specs.Ids.{is_id}
use Rattle.sip_clients.specs.Provisionals.{in_life, is_response, reported_in}
use Rattle.sip_held_dialogs.proofs.Heard.{Goes, Life}
use Rattle.sip_clients.proofs.Hearing.{Hears, Listens, Silent}
use Rattle.sip_clients.specs.declared.client.Client.{Client}
use Rattle.sip_clients.specs.Cancel.{cancel_client, sent_beside}
use Rattle.sip_clients.specs.Client.{Clients}
use Rattle.sip_clients.specs.Outputs.{start_command}

-- ---- the latest RSeq in a life

-- the latest RSeq in a dialog, if it is that of the life
abbrev pub ear_in : DialogReference → Option HeldDialog → Option (Option ℕ)
ear_in life None = None
ear_in life (Some held) =
    if is_id held.created_by life.created_by then Some held.last_rseq else None

abbrev is_own : DialogReference → Option HeldDialog → Bool
is_own life o = option_map_or (λ (held : HeldDialog). is_id held.created_by life.created_by) o false

pub id_exact : (x y : Id) → is_id x y ≡ true → x ≡ y
id_exact x y e =
    let round = eqb-true x.round y.round (first_so (x.round == y.round) (x.place == y.place) e) in
    let place = eqb-true x.place y.place (second_so (x.round == y.round) (x.place == y.place) e) in
    λ i. record { round = round i; place = place i }

deaf : (life : DialogReference) (o : Option HeldDialog) → is_own life o ≡ false → ear_in life o
    ≡ None
deaf life None e = refl
deaf life (Some held) e = ap (λ b. if b then Some held.last_rseq else None) e

-- ---- nothing came

begun_silent : (event : Option Id) (life : DialogReference) (before : Option (Option ℕ))
    (held : HeldDialog) → event ≡ Some held.created_by → held.last_rseq ≡ None
    → Silent (event ≡ Some life.created_by) before (ear_in life (Some held))
begun_silent event life before held made none =
    by_bool (is_id held.created_by life.created_by)
    (λ e. inr (inr (
      made ∙ ap (λ id. Some id) (id_exact held.created_by life.created_by e),
      (λ i. if e i then Some (none i) else None),
    )))
    (λ e. inl (ap (λ b. if b then Some held.last_rseq else None) e))

pub silent_from : (event : Option Id) (life : DialogReference) (Opens : Opening → Type 0)
    (lived : Life) (begun : List Happening) (before after : Option HeldDialog)
    → Goes event Opens None lived begun before after
    → Silent (event ≡ Some life.created_by) (ear_in life before) (ear_in life after)
silent_from event life Opens lived begun before None goes = inl refl
silent_from event life Opens lived begun None (Some after) (inl stays) = absurd stays
silent_from event life Opens lived begun (Some before) (Some after) (inl stays) =
    inr (inl (λ i. if is_id (stays.0 i) life.created_by then Some (stays.1 i) else None))
silent_from event life Opens lived begun before (Some after) (inr begins) =
    begun_silent event life (ear_in life before) after begins.0 begins.1

pub none_in_life : (b : Bool) → in_life b None ≡ None
none_in_life true = refl
none_in_life false = refl

pub no_number : (Begins : Type 0) (b : Bool) (before after : Option (Option ℕ))
    (outs : List CallOut) → Silent Begins before after
    → Listens Begins before after (in_life b None) (reported_in (in_life b None) outs)
no_number Begins b before after outs silent =
    subst (λ o. Listens Begins before after o (reported_in o outs)) (sym (none_in_life b))
    (silent, refl)

-- ---- what is told last is no response

told_also : (number : ℕ) (outs : List CallOut) (out : CallOut) → is_response out ≡ false
    → reported_in (Some number) (outs ++ out ∷ []) ≡ reported_in (Some number) outs
told_also number [] out none = ap (λ b. map (λ o. number) (if b then out ∷ [] else [])) none
told_also number (first ∷ outs) out none =
    elim (is_response first) as (λ b.
    map (λ o. number) (if b then first ∷ filter is_response (outs ++ out ∷ [])
    else filter is_response (outs ++ out ∷ []))
    ≡ map (λ o. number) (if b then first ∷ filter is_response outs
    else filter is_response outs)) [
      | true ↦ ap (λ numbers. number ∷ numbers) (told_also number outs out none)
      | false ↦ told_also number outs out none
    ]

pub told_more : (number : Option ℕ) (outs : List CallOut) (out : CallOut)
    → is_response out ≡ false → reported_in number (outs ++ out ∷ []) ≡ reported_in number outs
told_more None outs out none = refl
told_more (Some number) outs out none = told_also number outs out none

-- the user isn't told of a CANCEL that may go out last
pub told_beside : (number : Option ℕ) (command : Option Id) (cancelled : Client)
    (done : Clients × List CallOut)
    → reported_in number (sent_beside (option_map (λ id. cancel_client id cancelled) command) done).1
    ≡ reported_in number done.1
unfolding start_command
told_beside number None cancelled done = refl
told_beside number (Some id) cancelled done =
    told_more number done.1 (start_command id (cancel_client id cancelled)) refl

-- ---- a number came

-- if it is taken
taken_held : (event : Option Id) (life : DialogReference) (number : ℕ) (Opens : Opening → Type 0)
    (lived : Life) (begun : List Happening) (before : Option HeldDialog) (after : HeldDialog)
    (reported : List ℕ)
    → Goes event Opens (Some number) lived begun before (Some after)
    → is_id after.created_by life.created_by ≡ true
    → offered (option_and_then (λ held. held.last_rseq) before) number ≡ Taken → reported ≡ number ∷ []
    → Hears (event ≡ Some life.created_by) (ear_in life before) (ear_in life (Some after)) number
    reported
taken_held event life number Opens lived begun None after reported (inl stays) own offer is =
    absurd stays
taken_held event life number Opens lived begun (Some held) after reported (inl stays) own offer is =
    record {
      last = held.last_rseq;
      was = inl (λ i. if (ap (λ id. is_id id life.created_by) (sym stays.0) ∙ own) i
          then Some held.last_rseq else None);
      now = inr (λ i. if own i then Some (stays.1 i) else None);
      shows = is ∙ ap (λ o. taken o number) (sym offer);
    }
taken_held event life number Opens lived begun before after reported (inr begins) own offer is =
    record {
      last = None;
      was =
          inr (begins.0 ∙ ap (λ id. Some id) (id_exact after.created_by life.created_by own), refl);
      now = inr (λ i. if own i then Some (begins.1 i) else None);
      shows = is;
    }

pub taken_so : (event : Option Id) (life : DialogReference) (number : ℕ) (Opens : Opening → Type 0)
    (lived : Life) (begun : List Happening) (before after : Option HeldDialog) (b : Bool)
    (outs : List CallOut) → is_own life after ≡ b
    → Goes event Opens (Some number) lived begun before after
    → offered (option_and_then (λ held. held.last_rseq) before) number ≡ Taken
    → map (λ out. number) (filter is_response outs) ≡ number ∷ []
    → Listens (event ≡ Some life.created_by) (ear_in life before) (ear_in life after)
    (in_life b (Some number)) (reported_in (in_life b (Some number)) outs)
taken_so event life number Opens lived begun before after false outs own goes offer is =
    (inl (deaf life after own), refl)
taken_so event life number Opens lived begun before None true outs own goes offer is = absurd cc
taken_so event life number Opens lived begun before (Some after) true outs own goes offer is =
    taken_held event life number Opens lived begun before after
    (map (λ out. number) (filter is_response outs)) goes own offer is

-- if it isn't, nothing changes and nothing is told
pub passed_so : (Begins : Type 0) (life : DialogReference) (number : ℕ) (held : Option HeldDialog)
    (offer : Offer) (b : Bool) → is_own life held ≡ b
    → offered (option_and_then (λ held. held.last_rseq) held) number ≡ offer → taken offer number
    ≡ []
    → ((last : Option ℕ) → latest_after offer last number ≡ last)
    → Listens Begins (ear_in life held) (ear_in life held) (in_life b (Some number))
    (reported_in (in_life b (Some number)) [])
passed_so Begins life number held offer false own is none same = (inl (deaf life held own), refl)
passed_so Begins life number None offer true own is none same = absurd cc
passed_so Begins life number (Some held) offer true own is none same =
    let now : ear_in life (Some held) ≡ Some held.last_rseq =
    λ i. if own i then Some held.last_rseq else None in
    record {
      last = held.last_rseq;
      was = inl now;
      now = inr (now ∙ ap (λ h. Some h)
          (sym (ap (λ o. latest_after o held.last_rseq number) is ∙ same held.last_rseq)));
      shows = sym (ap (λ o. taken o number) is ∙ none);
    }
