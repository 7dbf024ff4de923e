-- What goes out in the dialog of each name on the client side, and the numbers of its requests.
use Rattle.std.proofs.Common.{◌≡◌, ℕ, Bool, true, false, cond, List, [], ◌++◌, refl, sym, ap, subst, ◌∙◌, append-nil}
use Rattle.std.specs.Prelude.{Option, None, Some}
use Rattle.std.specs.List.{cons_option}
use Rattle.sip_message.specs.declared.cseq.CSeq.{CSeq}
use Rattle.sip_message.specs.declared.id.Id.{Id}
use Rattle.sip_dialog.specs.Life.{Happening}
use Rattle.sip_dialog.specs.Opening.{Opening}
use Rattle.sip_held_dialogs.specs.declared.held_dialog.DialogId.{DialogId}
use Rattle.sip_held_dialogs.specs.declared.held_dialog.HeldDialog.{HeldDialog}
use Rattle.sip_user.specs.declared.item.CallOut.{CallOut}
use Rattle.sip_held_dialogs.specs.Dialogs.{Dialogs, dialog_at, is_dialog_id}
use Rattle.sip_held_dialogs.specs.Sent.{NumberedAfter, NumberedFrom, cseq_of_request, cseqs_in, name_of_dialog, number_before, requests_made, sent_in}
use Rattle.sip_held_dialogs.proofs.Heard.{Leads, Lives, in_one, leads_as, quiet}
use Rattle.sip_held_dialogs.proofs.Starts.{cseqs_both, none_numbered, numbered_none, starts}
use Rattle.sip_clients.specs.declared.event.Event.{Event}
use Rattle.sip_clients.specs.declared.outputs.ClientChange.{ClientChange}
use Rattle.sip_clients.specs.declared.outputs.ClientChange.TheVariants.{Stays, Over, Starts}
use Rattle.sip_clients.specs.declared.send_outcome.SendOutcome.{SendOutcome}
use Rattle.sip_clients.specs.declared.send_outcome.SendOutcome.TheVariants.{Sent, Waits, Refused}
use Rattle.sip_clients.specs.Client.{Clients}
use Rattle.sip_clients.specs.Clients.{settled}
use Rattle.sip_clients.specs.Outputs.{request_said, start_command}
use Rattle.sip_clients.proofs.SentIn.{service_cseqs}

-- each dialog is held under the name of its tags
abbrev pub AreNamed : Dialogs → Type 0
AreNamed dialogs = (name : DialogId) (held : HeldDialog) → dialog_at name dialogs ≡ Some held
    → is_dialog_id name (name_of_dialog held.dialog) ≡ true

-- only what goes out in the dialog happens in it
abbrev pub by_outs : List CallOut → Lives
by_outs outs name held = sent_in name outs

-- the requests that go out in it have the numbers after its local CSeq
abbrev pub AreNumbered : Option Opening → Dialogs → List CallOut → Type 0
AreNumbered start dialogs outs = (name : DialogId)
    → NumberedFrom (number_before start (dialog_at name dialogs)) (cseqs_in name outs)

pub record Sends (outs : List CallOut) (before after : Dialogs) : Type 0 where
  pub leads : Leads (by_outs outs) before after
  pub numbered : AreNumbered None before outs

pub sends_none : (outs : List CallOut) → ((name : DialogId) → [] ≡ cseqs_in name outs)
    → (dialogs after : Dialogs) → Leads quiet dialogs after → Sends outs dialogs after
sends_none outs none dialogs after leads = record {
  leads = leads_as quiet (by_outs outs) dialogs after (λ name held at. ap requests_made (none name))
      leads;
  numbered = λ name. let last = number_before None (dialog_at name dialogs) in
      subst (NumberedFrom last) (none name) (numbered_none last);
}

pub silent_outs : (outs : List CallOut) → starts outs ≡ [] → (dialogs after : Dialogs)
    → Leads quiet dialogs after → Sends outs dialogs after
silent_outs outs none dialogs after leads =
    sends_none outs (λ name. sym (none_numbered name outs none)) dialogs after leads

pub made_either : (b : Bool) (cseqs : List CSeq)
    → cond b (requests_made cseqs) [] ≡ requests_made (cond b cseqs [])
made_either true cseqs = refl
made_either false cseqs = refl

numbered_either : (b : Bool) (last : ℕ) (cseqs : List CSeq) → NumberedAfter last cseqs
    → NumberedAfter last (cond b cseqs [])
numbered_either true last cseqs numbers = numbers
numbered_either false last cseqs numbers = tt

-- in the dialog of one name
pub sends_one : (own : DialogId) (cseqs : HeldDialog → List CSeq) (outs : List CallOut)
    (dialogs after : Dialogs)
    → ((held : HeldDialog) → NumberedAfter held.dialog.local_cseq (cseqs held))
    → ((name : DialogId) (held : HeldDialog) → dialog_at name dialogs ≡ Some held
    → cond (is_dialog_id own name) (cseqs held) [] ≡ cseqs_in name outs)
    → Leads (in_one own (λ held. requests_made (cseqs held))) dialogs after
    → Sends outs dialogs after
sends_one own cseqs outs dialogs after numbers same leads = record {
  leads = leads_as (in_one own (λ held. requests_made (cseqs held))) (by_outs outs) dialogs after
      (λ name held at. made_either (is_dialog_id own name) (cseqs held)
      ∙ ap requests_made (same name held at)) leads;
  numbered = λ name. by_found name (dialog_at name dialogs) refl;
}
  where
    by_found : (name : DialogId) (o : Option HeldDialog) → dialog_at name dialogs ≡ o
        → NumberedFrom (number_before None o) (cseqs_in name outs)
    by_found name None at = tt
    by_found name (Some held) at =
        subst (NumberedAfter held.dialog.local_cseq) (same name held at)
        (numbered_either (is_dialog_id own name) held.dialog.local_cseq (cseqs held) (numbers held))

pub after_silent : (name : DialogId) (xs ys : List CallOut) → starts xs ≡ []
    → cseqs_in name (xs ++ ys) ≡ cseqs_in name ys
after_silent name xs ys none =
    cseqs_both name xs ys ∙ ap (λ zs. zs ++ cseqs_in name ys) (none_numbered name xs none)

pub between_silent : (name : DialogId) (xs ys zs : List CallOut) → starts xs ≡ [] → starts zs ≡ []
    → cseqs_in name ((xs ++ ys) ++ zs) ≡ cseqs_in name ys
between_silent name xs ys zs none_x none_z =
    cseqs_both name (xs ++ ys) zs
    ∙ (λ i. after_silent name xs ys none_x i ++ none_numbered name zs none_z i)
    ∙ append-nil (cseqs_in name ys)

-- the CSeqs that go out by a change of the requests
abbrev pub change_cseqs : DialogId → ClientChange → List CSeq
change_cseqs name Stays = []
change_cseqs name Over = []
change_cseqs name (Starts client) = cons_option (cseq_of_request name client.request) []

abbrev pub change_sent : DialogId → ClientChange → List Happening
change_sent name change = requests_made (change_cseqs name change)

pub settled_cseqs : (name : DialogId) (event : Event) (id : Id) (change : ClientChange)
    (clients : Clients)
    → cseqs_in name (settled event id change clients).1 ≡ change_cseqs name change
unfolding start_command
settled_cseqs name event id Stays clients = refl
settled_cseqs name event id Over clients = refl
settled_cseqs name event id (Starts client) clients = refl

pub said_change : (name : DialogId) (event : Event) (call_id : List ℕ) (own : DialogId)
    (outcome : SendOutcome)
    → change_cseqs name (request_said event call_id own outcome).1 ≡ service_cseqs name outcome
said_change name event call_id own (Sent sending) = refl
said_change name event call_id own Waits = refl
said_change name event call_id own (Refused refusal) = refl
