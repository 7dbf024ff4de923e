-- What happens in a dialog counts as a request if, and only if, a request goes out.
use Rattle.std.proofs.Common.{◌≡◌, ℕ, ◌+◌, Bool, true, false, cond, List, [], ◌∷◌, ◌++◌, length, refl, ◌∙◌, arith}
use Rattle.std.specs.Prelude.{Option, None, Some, count_by, find, is_some, if◌then◌else◌}
use Rattle.std.specs.List.{flat_map}
use Rattle.std.specs.Option.{option_map_or}
use Rattle.std.proofs.lemmas.List.Sums.{sum_by-append}
use Rattle.sip_message.specs.declared.cseq.CSeq.{CSeq}
use Rattle.sip_message.specs.declared.id.Id.{Id}
use Rattle.sip_message.specs.declared.message.Message.{Message}
use Rattle.sip_dialog.specs.Fault.{ended_fault}
use Rattle.sip_dialog.specs.Life.{Accepts, Confirms, Happening, Refreshes, Requests, takes_number}
use Rattle.sip_dialog.specs.Opening.{contact_uri}
use Rattle.sip_transactions.specs.declared.output.UpKind.{UpKind}
use Rattle.sip_transactions.specs.declared.output.UpKind.TheVariants as kind
use Rattle.sip_user.specs.declared.command.UserCommand.{UserCommand}
use Rattle.sip_user.specs.declared.command.UserCommand.TheVariants.{Invite, Plain, Request, Respond, Ack, Prack, Cancel, AbandonRequest, AbandonDialog}
use Rattle.sip_held_dialogs.specs.declared.held_dialog.DialogId.{DialogId}
use Rattle.sip_held_dialogs.specs.declared.held_dialog.HeldDialog.{HeldDialog}
use Rattle.sip_user.specs.declared.item.CallOut.{CallOut}
use Rattle.sip_user.specs.declared.item.Item.{Item}
use Rattle.sip_user.specs.declared.item.Item.TheVariants.{Up, User}
use Rattle.sip_held_dialogs.specs.Dialogs.{confirms, numbers, refreshes, retargets, takes, happenings_by_request}
use Rattle.sip_held_dialogs.specs.Requests.{is_invite}
use Rattle.sip_held_dialogs.specs.Sent.{cseqs_in, requests_made, responses_out, sent_in}
use Rattle.sip_served.specs.declared.held_request.HeldRequest.{HeldRequest}
use Rattle.sip_served.specs.Happenings.{success_confirms}
use Rattle.sip_served.specs.State.{has_id}
use Rattle.sip_clients.specs.declared.client.Client.{Client}
use Rattle.sip_clients.specs.declared.client.RequestKind.{RequestKind}
use Rattle.sip_clients.specs.declared.client.RequestKind.TheVariants as asked
use Rattle.sip_clients.specs.Client.{client_at}
use Rattle.sip_clients.specs.Clients.{status_of}
use Rattle.sip_clients.specs.Happenings.{reply_brings, success_brings}
use Rattle.sip_calls.specs.declared.call.Call.{Call}
use Rattle.sip_calls.specs.Call.{CallItem}
use Rattle.sip_calls.specs.Histories.{brought_by, brought_by_command, brought_by_kind, happens_in}

abbrev pub how_many : List Happening → ℕ
how_many life = count_by takes_number life

pub count_both : (xs ys : List Happening) → how_many (xs ++ ys) ≡ how_many xs + how_many ys
count_both xs ys = sum_by-append (λ (one : Happening). cond (takes_number one) 1 0) xs ys

one_more : (n m : ℕ) → n ≡ m → 1 + n ≡ m + 1
one_more n m e = omega arith

pub counted : (cseq : CSeq) (cseqs : List CSeq) → length (cseq ∷ cseqs) ≡ length cseqs + 1
counted cseq cseqs = omega arith

pub made_count : (cseqs : List CSeq) → how_many (requests_made cseqs) ≡ length cseqs
made_count [] = refl
made_count (cseq ∷ cseqs) =
    let more : how_many (requests_made (cseq ∷ cseqs)) ≡ length cseqs + 1 =
    count_both (Requests cseq.method ∷ []) (requests_made cseqs)
    ∙ one_more (how_many (requests_made cseqs)) (length cseqs) (made_count cseqs) in
    let all = counted cseq cseqs in
    omega (arith, more, all)

-- ---- no request is among what comes

none_if : (b : Bool) (life : List Happening) → how_many life ≡ 0 → how_many (cond b life []) ≡ 0
none_if true life none = none
none_if false life none = refl

none_of_both : (xs ys : List Happening) → how_many xs ≡ 0 → how_many ys ≡ 0
    → how_many (xs ++ ys) ≡ 0
none_of_both xs ys no_x no_y =
    let both = count_both xs ys in omega (arith, both, no_x, no_y)

confirms_none : (response : Message) (held : HeldDialog) → how_many (confirms response held) ≡ 0
confirms_none response held = by_end (is_some (ended_fault held.dialog))
  where
    by_end : (b : Bool) → how_many (if b then [] else Confirms response ∷ []) ≡ 0
    by_end true = refl
    by_end false = refl

retargets_none : (uri : Option (List ℕ)) (held : HeldDialog) → how_many (retargets uri held) ≡ 0
retargets_none None held = refl
retargets_none (Some uri) held = by_end (is_some (ended_fault held.dialog))
  where
    by_end : (b : Bool) → how_many (if b then [] else Refreshes uri ∷ []) ≡ 0
    by_end true = refl
    by_end false = refl

visits_none : (request : Message) (held : HeldDialog)
    → how_many (happenings_by_request request held) ≡ 0
visits_none request held =
    let number = request.cseq.number in
    none_of_both (numbers number held) (refreshes request held) (by_order (takes held number))
    (none_if (is_invite request) (retargets (contact_uri request) held)
    (retargets_none (contact_uri request) held))
  where
    by_order : (b : Bool) → how_many (if b then Accepts request.cseq.number ∷ [] else []) ≡ 0
    by_order true = refl
    by_order false = refl

success_none : (kind : RequestKind) (response : Message) (held : HeldDialog)
    → how_many (success_brings kind response held) ≡ 0
success_none asked.InitialInvite response held = confirms_none response held
success_none (asked.ReInvite life) response held = retargets_none (contact_uri response) held
success_none (asked.InDialog life) response held = refl
success_none asked.OutOfDialog response held = refl

all_confirm_none : (responses : List Message) (held : HeldDialog)
    → how_many (flat_map (λ response. confirms response held) responses) ≡ 0
all_confirm_none [] held = refl
all_confirm_none (response ∷ responses) held =
    none_of_both (confirms response held)
    (flat_map (λ response. confirms response held) responses)
    (confirms_none response held) (all_confirm_none responses held)

answer_none : (status : ℕ) (outs : List CallOut) (name : DialogId) (held : HeldDialog)
    (o : Option HeldRequest)
    → how_many (option_map_or
    (λ request. success_confirms request status (responses_out outs) name held) o []) ≡ 0
answer_none status outs name held None = refl
answer_none status outs name held (Some request) =
    none_if _ (flat_map (λ response. confirms response held) (responses_out outs))
    (all_confirm_none (responses_out outs) held)

reply_none : (response : Message) (name : DialogId) (held : HeldDialog) (status : Option ℕ)
    (o : Option Client)
    → how_many (option_map_or (λ client. option_map_or
    (λ status. reply_brings status client response name held) status []) o []) ≡ 0
reply_none response name held None None = refl
reply_none response name held (Some status) None = refl
reply_none response name held None (Some client) = refl
reply_none response name held (Some status) (Some client) =
    none_if _ (success_brings client.kind response held) (success_none client.kind response held)

kind_none : (call : Call) (id : Id) (k : UpKind) (name : DialogId) (held : HeldDialog)
    → how_many (brought_by_kind call id k name held) ≡ 0
kind_none call id (kind.Request request reply_to) name held =
    none_if _ (happenings_by_request request held) (visits_none request held)
kind_none call id (kind.Ack ack) name held = refl
kind_none call id (kind.Response response) name held =
    reply_none response name held (status_of response.start) (client_at id call.clients)
kind_none call id kind.Timeout name held = refl
kind_none call id kind.Failed name held = refl

command_none : (call : Call) (command : UserCommand) (outs : List CallOut) (name : DialogId)
    (held : HeldDialog) → how_many (brought_by_command call command outs name held) ≡ 0
command_none call (Invite invite) outs name held = refl
command_none call (Plain plain) outs name held = refl
command_none call (Request request) outs name held = refl
command_none call (Respond respond) outs name held =
    answer_none respond.status outs name held
    (find (has_id respond.id) (call.served).requests)
command_none call (Ack ack) outs name held = refl
command_none call (Prack prack) outs name held = refl
command_none call (Cancel cancel) outs name held = refl
command_none call (AbandonRequest abandon) outs name held = refl
command_none call (AbandonDialog abandon) outs name held = refl

item_none : (call : Call) (item : Item) (outs : List CallOut) (name : DialogId)
    (held : HeldDialog) → how_many (brought_by call item outs name held) ≡ 0
item_none call (Up up) outs name held = kind_none call up.id up.kind name held
item_none call (User command) outs name held = command_none call command outs name held

pub life_counts : (state : Option Call) (input : Option CallItem) (outs : List CallOut)
    (name : DialogId) (held : HeldDialog)
    → how_many (happens_in state input outs name held) ≡ length (cseqs_in name outs)
life_counts None None outs name held = made_count (cseqs_in name outs)
life_counts None (Some (id, item)) outs name held = made_count (cseqs_in name outs)
life_counts (Some call) None outs name held = made_count (cseqs_in name outs)
life_counts (Some call) (Some (id, item)) outs name held =
    let both = count_both (brought_by call item outs name held) (sent_in name outs) in
    let none = item_none call item outs name held in
    let made = made_count (cseqs_in name outs) in
    omega (arith, both, none, made)
