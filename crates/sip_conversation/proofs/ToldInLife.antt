-- Which input of a call tells the user of a reliable provisional response to an INVITE in a life of
-- a dialog.
use Rattle.std.proofs.Common.{◌≡◌, ◌&&◌, ◌||◌, ⊎_elim, ℕ, Bool, true, false, List, [], ◌∷◌, ◌++◌, refl, sym, ap, ◌∙◌, subst, append_assoc}
use Rattle.std.specs.Prelude.{Contains, Option, None, Some, filter, if◌then◌else◌}
use Rattle.std.specs.List.{list_any}
use Rattle.std.specs.Option.{option_and_then, option_map_or}
use Rattle.std.proofs.lemmas.Bool.{false≢true}
use Rattle.std.proofs.lemmas.List.Elements.{Contains-append_cases}
use Rattle.sip_message.specs.declared.id.Id.{Id}
use Rattle.sip_message.specs.declared.message.Message.{Message}
use Rattle.keyed_machine.specs.Machine.{Timed}
use Rattle.sip_transactions.specs.declared.output.UpKind.{UpKind}
use Rattle.sip_transactions.specs.declared.output.UpKind.TheVariants as kind
use Rattle.sip_transactions.specs.declared.output.Up.{Up as AnUp}
use Rattle.sip_held_dialogs.specs.Dialogs.{dialog_at, is_dialog_id, lives}
use Rattle.sip_held_dialogs.specs.Ids.{is_id}
use Rattle.sip_held_dialogs.specs.declared.held_dialog.DialogId.{DialogId}
use Rattle.sip_held_dialogs.specs.declared.held_dialog.DialogReference.{DialogReference}
use Rattle.sip_held_dialogs.specs.declared.held_dialog.HeldDialog.{HeldDialog}
use Rattle.sip_user.specs.declared.item.CallOut.{CallOut}
use Rattle.sip_user.specs.declared.item.Item.TheVariants.{Up, User}
use Rattle.sip_held_dialogs.proofs.Heard.{id_laws, name_laws}
use Rattle.sip_clients.specs.Client.{Side as Held, client_at}
use Rattle.sip_clients.specs.Clients.{reply_name, status_of}
use Rattle.sip_clients.specs.Provisionals.{AnInvite, InTheDialog, OfTheCall, in_life, is_for, is_response, number_for, provisional_number}
use Rattle.sip_clients.specs.ReceivedResponse.{has_dialog}
use Rattle.sip_clients.specs.declared.client.Client.{Client}
use Rattle.sip_clients.specs.declared.client.RequestKind.{RequestKind}
use Rattle.sip_clients.specs.declared.client.RequestKind.TheVariants.{InDialog, InitialInvite, OutOfDialog, ReInvite}
use Rattle.sip_calls.specs.Call.{CallItem, call_step, event_of, received}
use Rattle.sip_calls.specs.Histories.{call_from}
use Rattle.sip_calls.specs.Provisionals.{done, number_in, number_in_life, number_up, side_held}
use Rattle.sip_calls.specs.Sides.{side_of}
use Rattle.sip_calls.specs.declared.call.Call.{Call}
use Rattle.sip_calls.specs.declared.calls.Calls.{Calls}
use Rattle.sip_calls.proofs.KeptSides.{kept_side}
use Rattle.sip_conversation.specs.Provisionals.{told_from, told_with}
use Rattle.sip_conversation.proofs.Among.{among_kept, among_mapped, first_or_later, kept_among, mapped_among, none_among}
use Rattle.sip_conversation.proofs.AmongInputs.{of_first_inputs, of_one_input}
use Rattle.sip_conversation.proofs.DialogOfReply.{IsHeldFor, received_held}
use Rattle.sip_conversation.proofs.PracksOfCalls.{from_more}
use Rattle.sip_conversation.proofs.PracksServed.{same_name}
use Rattle.sip_conversation.proofs.RackedCalls.{WasTold}

-- ---- the notices of one response

with_told : (rseq : ℕ) (o : Option ℕ) (outs : List CallOut) (out : CallOut) → o ≡ Some rseq
    → Contains outs out → is_response out ≡ true → Contains (told_with o outs) (rseq, out)
with_told rseq o outs out is among told =
    subst (λ o. Contains (told_with o outs) (rseq, out)) (sym is)
    (mapped_among (λ (out : CallOut). (rseq, out)) (filter is_response outs) out
    (among_kept is_response outs out among told))

record IsToldWith (o : Option ℕ) (outs : List CallOut) (told : ℕ × CallOut) : Type 0 where
  pub number : o ≡ Some told.0
  pub among : Contains outs told.1
  pub tells : is_response told.1 ≡ true

told_so : (o : Option ℕ) (outs : List CallOut) (told : ℕ × CallOut)
    → Contains (told_with o outs) told → IsToldWith o outs told
told_so None outs told among = absurd (none_among told among)
told_so (Some rseq) outs told among =
    let so = among_mapped (λ (out : CallOut). (rseq, out)) (filter is_response outs) told among in
    let kept = kept_among is_response outs so.0 so.1 in
    subst (IsToldWith (Some rseq) outs) so.2
    (record { number = refl; among = kept.0; tells = kept.1 })

some_told : (outs : List CallOut) (out : CallOut) → Contains outs out → is_response out ≡ true
    → list_any is_response outs ≡ true
some_told [] out among tells = absurd (none_among out among)
some_told (first ∷ outs) out among tells =
    ⊎_elim (λ same. ap (λ b. b || list_any is_response outs) (ap is_response same ∙ tells))
    (λ later. later_told (is_response first) (some_told outs out later tells))
    (first_or_later first outs out among)
  where
    later_told : (b : Bool) → list_any is_response outs ≡ true
        → (b || list_any is_response outs) ≡ true
    later_told true told = refl
    later_told false told = told

-- ---- all inputs

module _ (calls : Calls) (invite : AnInvite) (life : DialogReference) where
  abbrev told_at : Option Call → Timed CallItem → List (ℕ × CallOut)
  told_at call timed = told_with (number_in_life calls invite life call timed)
      (done calls invite life call timed).1

  abbrev tell_from : Option Call → List (Timed CallItem) → List (ℕ × CallOut)
  tell_from call inputs = told_from calls invite life call inputs

  -- what the user is told by the first inputs is among what he is told by all
  pub told_by_first : (before after : List (Timed CallItem)) (told : ℕ × CallOut)
      → Contains (tell_from None before) told → Contains (tell_from None (before ++ after)) told
  told_by_first before after told among =
      of_first_inputs calls told_at tell_from (λ call. refl) (λ call timed inputs. refl) None before
      after told among

  -- one of these inputs brings the response, and the user is told of it
  record ComesIn (inputs : List (Timed CallItem)) (told : ℕ × CallOut) : Type 0 where
    pub before : List (Timed CallItem)
    pub timed : Timed CallItem
    pub after : List (Timed CallItem)
    pub are : inputs ≡ before ++ timed ∷ after
    pub so : IsToldWith (number_in_life calls invite life (call_from calls None before) timed)
        (done calls invite life (call_from calls None before) timed).1 told

  from_one : (all : List (Timed CallItem)) (told : ℕ × CallOut)
      (before after : List (Timed CallItem)) → all ≡ before ++ after
      → Contains (tell_from (call_from calls None before) after) told → ComesIn all told
  from_one all told before [] are among = absurd (none_among told among)
  from_one all told before (timed ∷ after) are among =
      let call = call_from calls None before in
      let next = (done calls invite life call timed).0 in
      ⊎_elim
      (λ here. record {
        before = before;
        timed = timed;
        after = after;
        are = are;
        so = told_so (number_in_life calls invite life call timed)
            (done calls invite life call timed).1 told here;
      })
      (λ later. from_one all told (before ++ timed ∷ []) after
      (are ∙ sym (append_assoc before (timed ∷ []) after))
      (subst (λ call. Contains (tell_from call after) told)
      (sym (from_more calls None before timed)) later))
      (Contains-append_cases (told_at call timed) (tell_from next after) told among)

-- ---- from a response that comes to the life of its dialog

-- the INVITE to which it is a response
record IsOfInvite (kind : RequestKind) (id : Id) (client : Client) (response : Message)
    (life : DialogReference) : Type 0 where
  pub invite : AnInvite
  pub is : is_for invite life id client kind response ≡ true

of_invite : (kind : RequestKind) (id : Id) (client : Client) (response : Message)
    (name : DialogId) (held : HeldDialog) → reply_name kind client response ≡ name
    → has_dialog kind (Some held) ≡ true
    → IsOfInvite kind id client response record { name = name; created_by = held.created_by }
of_invite InitialInvite id client response name held own has = record {
  invite = OfTheCall;
  is = ap (is_dialog_id name) own ∙ name_laws.refl name;
}
of_invite (ReInvite life) id client response name held own has =
    let named : is_dialog_id name life.name ≡ true =
    ap (is_dialog_id name) own ∙ name_laws.refl name in
    let made : is_id life.created_by held.created_by ≡ true =
    id_laws.symm life.created_by held.created_by ∙ has in record {
      invite = InTheDialog id;
      is = (λ i. id_laws.refl id i && (named i && made i));
    }
of_invite (InDialog life) id client response name held own has = absurd (false≢true has)
of_invite OutOfDialog id client response name held own has = absurd (false≢true has)

module _ (calls : Calls) (inputs : List (Timed CallItem)) (name : DialogId) (rseq number : ℕ)
    (was : WasTold calls inputs name rseq number) where
  abbrev after_it : Option Call → Option CallItem → Held
  after_it call input = side_held (call_step calls call input was.timed.moment).0

  -- the dialog is held afterwards
  held_after : IsHeldFor was.client.kind name (after_it (Some was.call) was.timed.input).dialogs
  held_after =
      let of = event_of calls was.event was.timed.moment in
      let response = was.response in
      let Stays : DialogId → Held → Type 0 =
      λ name side. IsHeldFor was.client.kind name side.dialogs in
      subst (λ input. Stays name (after_it (Some was.call) input)) (sym was.comes)
      (subst (Stays name) (sym (kept_side (received was.call of was.up was.up.kind).0))
      (subst (λ k. Stays name (side_of (received was.call of was.up k).0)) (sym was.kind_is)
      (subst (λ name. Stays name
      (side_of (received was.call of was.up (kind.Response response)).0)) was.name_is
      (received_held of was.up.id was.up.call_id response (side_of was.call) was.status rseq
      was.client was.status_is was.client_is was.is
      (ap (λ name. has_dialog was.client.kind (dialog_at name (side_of was.call).dialogs))
      was.name_is ∙ was.has)))))

  abbrev life_now : DialogReference
  life_now = record { name = name; created_by = held_after.held.created_by }

  its_invite : IsOfInvite was.client.kind was.up.id was.client was.response life_now
  its_invite =
      of_invite was.client.kind was.up.id was.client was.response name held_after.held was.name_is
      held_after.has

  number_so : number_in_life calls its_invite.invite life_now (Some was.call) was.timed
      ≡ Some rseq
  number_so =
      let invite = its_invite.invite in
      let alive : lives (after_it (Some was.call) was.timed.input).dialogs life_now ≡ true =
      (λ i. option_map_or (λ (held : HeldDialog). is_id held.created_by life_now.created_by)
      (held_after.at i) false) ∙ id_laws.refl life_now.created_by in
      let brings : number_in invite life_now was.timed.input (side_of was.call) ≡ Some rseq =
      ap (λ input. number_in invite life_now input (side_of was.call)) was.comes
      ∙ (ap (λ k. number_up invite life_now was.up.id k (side_of was.call)) was.kind_is
      ∙ (ap (option_and_then (number_for invite life_now was.up.id was.response)) was.client_is
      ∙ ((λ i. if its_invite.is i then provisional_number (was.status_is i) was.response else None)
      ∙ was.is))) in
      (λ i. in_life (alive i) (brings i))

  -- the user was told of the response in a life of that dialog
  pub record IsToldInLife (out : CallOut) : Type 0 where
    pub invite : AnInvite
    pub life : DialogReference
    pub life_is : life.name ≡ name
    pub among : Contains (told_from calls invite life None inputs) (rseq, out)

  pub told_in_life : (out : CallOut)
      → Contains (call_step calls (Some was.call) was.timed.input was.timed.moment).1 out
      → is_response out ≡ true → IsToldInLife out
  told_in_life out among tells =
      let invite = its_invite.invite in
      let outs : Option Call → List (ℕ × CallOut) = λ call. told_at calls invite life_now call
      was.timed in record {
        invite = invite;
        life = life_now;
        life_is = refl;
        among = subst (λ inputs. Contains (told_from calls invite life_now None inputs) (rseq, out))
            (sym was.are)
            (of_one_input calls (told_at calls invite life_now)
            (told_from calls invite life_now) (λ call. refl) (λ call timed inputs. refl) None
            was.before was.timed was.after (rseq, out)
            (subst (λ call. Contains (outs call) (rseq, out)) (sym was.held)
            (with_told rseq (number_in_life calls invite life_now (Some was.call) was.timed)
            (call_step calls (Some was.call) was.timed.input was.timed.moment).1 out number_so among
            tells)));
      }

-- ---- from a notice of the first INVITE's life to its response

-- a response that comes to the first INVITE
pub record CameToFirst (calls : Calls) (inputs : List (Timed CallItem)) (life : DialogReference)
    (rseq : ℕ) : Type 0 where
  pub number : ℕ
  pub was : WasTold calls inputs life.name rseq number
  pub first : was.client.kind ≡ InitialInvite

module _ (calls : Calls) (inputs : List (Timed CallItem)) (life : DialogReference) (rseq : ℕ)
    (before : List (Timed CallItem)) (timed : Timed CallItem) (after : List (Timed CallItem))
    (are : inputs ≡ before ++ timed ∷ after)
    (told : list_any is_response (call_step calls (call_from calls None before) timed.input
    timed.moment).1 ≡ true) where
  abbrev Comes : Type 0
  Comes = CameToFirst calls inputs life rseq

  module _ (event : Id) (up : AnUp) (comes : timed.input ≡ Some (event, Up up))
      (response : Message) (kind_is : up.kind ≡ kind.Response response) where
    by_status : (call : Call) → call_from calls None before ≡ Some call → (client : Client)
        → client_at up.id call.clients ≡ Some client → client.kind ≡ InitialInvite
        → is_dialog_id life.name (reply_name InitialInvite client response) ≡ true
        → (o : Option ℕ) → status_of response.start ≡ o
        → provisional_number o response ≡ Some rseq → Comes
    by_status call held client client_is first named None is number = absurd cc
    by_status call held client client_is first named (Some status) is number =
        let name = reply_name InitialInvite client response in record {
          number = client.request.cseq.number;
          was = record {
            before = before;
            timed = timed;
            after = after;
            are = are;
            call = call;
            held = held;
            event = event;
            up = up;
            comes = comes;
            response = response;
            kind_is = kind_is;
            client = client;
            client_is = client_is;
            name_is = ap (λ kind. reply_name kind client response) first
                ∙ sym (same_name life.name name named);
            has = ap (λ kind. has_dialog kind (dialog_at life.name (side_of call).dialogs)) first;
            number_is = refl;
            status = status;
            status_is = is;
            is = number;
            told = ap (λ call. list_any is_response
                (call_step calls call timed.input timed.moment).1) (sym held) ∙ told;
          };
          first = first;
        }

    by_named : (call : Call) → call_from calls None before ≡ Some call → (client : Client)
        → client_at up.id call.clients ≡ Some client → client.kind ≡ InitialInvite → (b : Bool)
        → is_dialog_id life.name (reply_name InitialInvite client response) ≡ b
        → (if b then provisional_number (status_of response.start) response else None) ≡ Some rseq
        → Comes
    by_named call held client client_is first true named number =
        by_status call held client client_is first named (status_of response.start) refl number
    by_named call held client client_is first false named number = absurd cc

    by_kind : (call : Call) → call_from calls None before ≡ Some call → (client : Client)
        → client_at up.id call.clients ≡ Some client → (k : RequestKind) → client.kind ≡ k
        → (if is_for OfTheCall life up.id client k response
        then provisional_number (status_of response.start) response else None) ≡ Some rseq → Comes
    by_kind call held client client_is InitialInvite first number =
        by_named call held client client_is first
        (is_dialog_id life.name (reply_name InitialInvite client response)) refl number
    by_kind call held client client_is (ReInvite own) is number = absurd cc
    by_kind call held client client_is (InDialog own) is number = absurd cc
    by_kind call held client client_is OutOfDialog is number = absurd cc

    by_client : (state : Option Call) → call_from calls None before ≡ state → (o : Option Client)
        → client_at up.id (side_held state).clients ≡ o
        → option_and_then (number_for OfTheCall life up.id response) o ≡ Some rseq → Comes
    by_client state held None is number = absurd cc
    by_client None held (Some client) is number = absurd cc
    by_client (Some call) held (Some client) is number =
        by_kind call held client is client.kind refl number

  by_up : (state : Option Call) → call_from calls None before ≡ state → (event : Id) (up : AnUp)
      → timed.input ≡ Some (event, Up up) → (k : UpKind) → up.kind ≡ k
      → number_up OfTheCall life up.id k (side_held state) ≡ Some rseq → Comes
  by_up state held event up comes (kind.Response response) is number =
      by_client event up comes response is state held
      (client_at up.id (side_held state).clients) refl number
  by_up state held event up comes (kind.Request request reply_to) is number = absurd cc
  by_up state held event up comes (kind.Ack ack) is number = absurd cc
  by_up state held event up comes kind.Timeout is number = absurd cc
  by_up state held event up comes kind.Failed is number = absurd cc

  by_input : (state : Option Call) → call_from calls None before ≡ state
      → (input : Option CallItem) → timed.input ≡ input
      → number_in OfTheCall life input (side_held state) ≡ Some rseq → Comes
  by_input state held None is number = absurd cc
  by_input state held (Some (event, Up up)) is number =
      by_up state held event up is up.kind refl number
  by_input state held (Some (event, User command)) is number = absurd cc

  by_life : (b : Bool) → in_life b (number_in OfTheCall life timed.input
      (side_held (call_from calls None before))) ≡ Some rseq → Comes
  by_life true number = by_input (call_from calls None before) refl timed.input refl number
  by_life false number = absurd cc

-- what the user is told of the responses to the first INVITE comes as such a response
pub told_came : (calls : Calls) (inputs : List (Timed CallItem)) (life : DialogReference)
    (told : ℕ × CallOut) → Contains (told_from calls OfTheCall life None inputs) told
    → CameToFirst calls inputs life told.0
told_came calls inputs life told among =
    let one = from_one calls OfTheCall life inputs told [] inputs refl among in
    let call = call_from calls None one.before in
    let outs = (call_step calls call one.timed.input one.timed.moment).1 in
    by_life calls inputs life told.0 one.before one.timed one.after one.are
    (some_told outs told.1 one.so.among one.so.tells)
    (lives (side_held (call_step calls call one.timed.input one.timed.moment).0).dialogs life)
    one.so.number
