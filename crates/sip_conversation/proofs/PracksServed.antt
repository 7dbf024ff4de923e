-- Each step of the server side keeps what a held request keeps of its PRACKs and its reliable
-- responses, and gives such responses alone.
use Rattle.std.proofs.Common.{◌≡◌, ℕ, Bool, true, false, ◌||◌, ◌&&◌, not, ◌==◌, cond, List, [], ◌∷◌, ◌++◌, map, refl, sym, ap, ◌∙◌, subst, arith}
use Rattle.std.specs.Prelude.{Contains, IfSome, Option, None, Some, codes, filter, find, is_none, length, nat_eq, nat_le, reverse, if◌then◌else◌}
use Rattle.std.specs.List.{AllByRecursion, list_any}
use Rattle.std.specs.Map.{values_of}
use Rattle.std.specs.Option.{option_map, option_map_or}
use Rattle.std.specs.Cmp.Lexicographic.{pointwise}
use Rattle.std.proofs.lemmas.Bool.{false≢true}
use Rattle.std.specs.Str.{bytes_eq}
use Rattle.std.proofs.lemmas.Slice.Eq.{bytes_eq-Decides}
use Rattle.sip_message.specs.Party.{tag_of}
use Rattle.sip_message.specs.Response.{response_of}
use Rattle.sip_message.specs.declared.id.Id.{Id}
use Rattle.sip_message.specs.declared.message.Message.{Message}
use Rattle.sip_message.specs.declared.rack.RAck.{RAck}
use Rattle.sip_transactions.specs.declared.output.UpKind.{UpKind}
use Rattle.sip_transactions.specs.declared.output.UpKind.TheVariants as kind
use Rattle.sip_transactions.specs.declared.output.Up.{Up as AnUp}
use Rattle.sip_transactions.proofs.RowFacts.{and-left, and-right}
use Rattle.sip_reliable.specs.Ledger.{waits_for}
use Rattle.sip_held_dialogs.specs.Dialogs.{Dialogs, dialog_at, dialog_changed, early_ended, ended_at, ended_notice, is_early_of, is_dialog_id, reference_at}
use Rattle.sip_held_dialogs.specs.Ids.{is_id}
use Rattle.sip_held_dialogs.specs.Requests.{dialog_id_of, dialog_id_of_tags, has_to_tag, is_bye, is_cancel, is_invite, is_prack, is_success, is_unknown_option}
use Rattle.sip_user.specs.declared.command.Respond.{Respond}
use Rattle.sip_held_dialogs.specs.declared.held_dialog.DialogId.{DialogId}
use Rattle.sip_held_dialogs.specs.declared.held_dialog.DialogReference.{DialogReference}
use Rattle.sip_held_dialogs.specs.declared.held_dialog.HeldDialog.{HeldDialog}
use Rattle.sip_user.specs.declared.item.CallOut.{CallOut}
use Rattle.sip_user.specs.declared.item.CallOut.TheVariants as out
use Rattle.sip_user.specs.declared.notice.Notice.TheVariants as notice
use Rattle.sip_transactions.specs.declared.input.Command.TheVariants as order
use Rattle.sip_held_dialogs.proofs.Each.{both}
use Rattle.sip_served.specs.declared.arrival.Arrival.{Arrival}
use Rattle.sip_served.specs.declared.held_request.HeldRequest.{HeldRequest}
use Rattle.sip_served.specs.Rules.Arrivals.{ack_for, ack_received, after_487, after_ack, after_prack, after_request, awaits, bad_extension, cancel_for, cancel_received, is_above, is_merged, is_named_by, is_same_branch, no_such_call, own_response, prack_for, prack_received, request_for_user, request_in_dialog, request_received, server_received}
use Rattle.sip_served.specs.Arrival.{arrival_of}
use Rattle.sip_served.specs.Rules.Responses.{dialogs_after, held_after, makes_dialog, respond_command, respond_to, response_refusal, response_sent}
use Rattle.sip_served.specs.State.{ServedTaken, State, changed_at, changed_first, has_id}
use Rattle.sip_conversation.proofs.Among.{among_first, among_later, each_of}
use Rattle.sip_conversation.proofs.Branches.{either, found_or}
use Rattle.sip_conversation.proofs.PracksCame.{Holds, OutGiven, OutsGave, OutsGiven, Pracked, ServedHolds, ack_holds, answer_given, answer_holds, arrived, cancel_holds, equal, may_send, no_rseq, none_given, prack_holds}

-- ---- lists

pub found_so : {X : Type 0} (p : X → Bool) (xs : List X) (x : X) → find p xs ≡ Some x
    → Contains xs x × (p x ≡ true)
found_so p [] x is = absurd cc
found_so p (y ∷ ys) x is = by_first (p y) refl is (λ later. found_so p ys x later)
  where
    by_first : (b : Bool) → p y ≡ b → cond b (Some y) (find p ys) ≡ Some x
        → (find p ys ≡ Some x → Contains ys x × (p x ≡ true))
        → Contains (y ∷ ys) x × (p x ≡ true)
    by_first true passes is rest =
        let same : y ≡ x = cc in
        (subst (Contains (y ∷ ys)) same (among_first y ys), ap p (sym same) ∙ passes)
    by_first false fails is rest =
        let later = rest is in (among_later y ys x later.0, later.1)

-- where the first that passes is changed
changed_so : {X : Type 0} (P : X → Type 0) (test : X → Bool) (change : X → X) (xs : List X)
    → ((x : X) → Contains xs x → test x ≡ true → P x → P (change x)) → AllByRecursion P xs
    → AllByRecursion P (changed_first test change xs)
changed_so P test change [] keeps all = tt
changed_so P test change (x ∷ xs) keeps all =
    by_first (test x) refl
    (changed_so P test change xs (λ y among. keeps y (among_later x xs y among)) all.1)
  where
    by_first : (b : Bool) → test x ≡ b → AllByRecursion P (changed_first test change xs)
        → AllByRecursion P (cond b (change x ∷ xs) (x ∷ changed_first test change xs))
    by_first true passes rest = (keeps x (among_first x xs) passes all.0, all.1)
    by_first false fails rest = (all.0, rest)

same_bytes : (one two : List ℕ) → bytes_eq one two ≡ true → one ≡ two
same_bytes one two is = (bytes_eq-Decides one two).0 is

four_of : (a b c d e : Bool) → (a && b && c && d && e) ≡ true
    → (a ≡ true) × (b ≡ true) × (c ≡ true) × (d ≡ true)
four_of true true true true e all = (refl, refl, refl, refl)
four_of true true true false e all = absurd cc
four_of true true false d e all = absurd cc
four_of true false c d e all = absurd cc
four_of false b c d e all = absurd cc

-- dialog IDs that are the same
pub same_name : (one two : DialogId) → is_dialog_id one two ≡ true → one ≡ two
same_name one two is =
    let local : one.local ≡ two.local =
    same_bytes one.local two.local (and-left (pointwise nat_eq one.local two.local)
    (pointwise nat_eq one.remote two.remote) is) in
    let remote : one.remote ≡ two.remote =
    same_bytes one.remote two.remote (and-right (pointwise nat_eq one.local two.local)
    (pointwise nat_eq one.remote two.remote) is) in
    (λ i. record { local = local i; remote = remote i })

-- inside of a dialog the To tag is its own
own_name : (request : Message) (made : List ℕ) → has_to_tag request ≡ true
    → dialog_id_of_tags (tag_of request.to) (tag_of request.from) ≡ dialog_id_of request made
own_name request made tagged =
    by_tag (length (tag_of request.to) == 0) tagged
  where
    by_tag : (b : Bool) → not b ≡ true
        → dialog_id_of_tags (tag_of request.to) (tag_of request.from)
        ≡ dialog_id_of_tags (if b then made else tag_of request.to) (tag_of request.from)
    by_tag true none = absurd (false≢true none)
    by_tag false some = refl

-- no two held requests have an id
abbrev pub Apart : List HeldRequest → Type 0
Apart requests = (one two : HeldRequest) → Contains requests one → Contains requests two
    → is_id one.id two.id ≡ true → one ≡ two

module _ (Brought : Arrival → Type 0) (Gave : Id → ℕ → Message → Type 0) where
  abbrev HoldsAll : List HeldRequest → Type 0
  HoldsAll requests = AllByRecursion (Holds Brought Gave) requests

  abbrev Outs : List CallOut → Type 0
  Outs outs = OutsGiven Brought Gave outs

  abbrev Done : ServedTaken → Type 0
  Done taken = ServedHolds Brought Gave taken

  outs_both : (xs ys : List CallOut) → Outs xs → Outs ys → Outs (xs ++ ys)
  outs_both xs ys one other = both (OutGiven Brought Gave) xs ys one other

  -- ---- the ends of dialogs

  ends_given : (dialogs : List HeldDialog) → Outs (map ended_notice dialogs)
  ends_given [] = tt
  ends_given (held ∷ dialogs) = (tt, ends_given dialogs)

  early_given : (invite : Id) (dialogs : Dialogs) → Outs (early_ended invite dialogs).1
  early_given invite dialogs = ends_given (filter (is_early_of invite) (values_of dialogs))

  ended_given : (name : DialogId) (dialogs : Dialogs) → Outs (ended_at name dialogs).1
  ended_given name dialogs =
      found_or Outs _ (dialog_at name dialogs) [] (λ held is. (tt, tt)) (λ none. tt)

  own_given : (arrival : Arrival) (status : ℕ) (reason : List ℕ)
      → Outs (own_response arrival status reason)
  own_given arrival status reason = (
    none_given Brought Gave arrival.id
        (response_of arrival.request status reason arrival.tag) refl,
    tt,
  )

  no_call_done : (state : State) (arrival : Arrival) → HoldsAll state.requests
      → Done (no_such_call state arrival)
  no_call_done state arrival all = record {
    requests = all;
    outs = own_given arrival 481 (codes "Call/Transaction Does Not Exist");
  }

  -- ---- a request that comes up

  -- the dialog that a request is in has its name
  reference_named : (name : DialogId) (dialogs : Dialogs)
      → IfSome (reference_at name dialogs)
      (λ (reference : DialogReference). reference.name ≡ name)
  reference_named name dialogs = by_dialog (dialog_at name dialogs)
    where
      reference_to : HeldDialog → DialogReference
      reference_to held = record { name = name; created_by = held.created_by }

      by_dialog : (o : Option HeldDialog) → IfSome (option_map reference_to o)
          (λ (reference : DialogReference). reference.name ≡ name)
      by_dialog None = tt
      by_dialog (Some held) = refl

  user_done : (state : State) (call_id : List ℕ) (arrival : Arrival) → Brought arrival
      → HoldsAll state.requests
      → Done (request_for_user state call_id (dialog_id_of arrival.request arrival.tag) arrival)
  user_done state call_id arrival brought all =
      let request = arrival.request in
      let name = dialog_id_of request arrival.tag in record {
        requests = both (Holds Brought Gave) state.requests _ all (
          record {
            came = brought;
            named = either (λ o. IfSome o (λ (reference : DialogReference).
                reference.name ≡ name)) (has_to_tag request) (reference_at name state.dialogs)
                None (λ tagged. reference_named name state.dialogs) (λ other. tt);
            first = refl;
            acked = λ more none. absurd (omega (arith, more));
            kept = tt;
            success = tt;
          },
          tt,
        );
        outs = (
          tt,
          either (λ (after : Dialogs × List CallOut). Outs after.1)
              (has_to_tag request && is_bye request) (ended_at name state.dialogs)
              (state.dialogs, []) (λ ends. ended_given name state.dialogs) (λ other. tt),
        );
      }

  -- the name of the dialog of an INVITE
  invite_named : (o : Option DialogReference) (name its : DialogId) (created_by : Id)
      → IfSome o (λ (reference : DialogReference). reference.name ≡ its)
      → option_map_or (λ (reference : DialogReference). is_dialog_id reference.name name
      && is_id reference.created_by created_by) o false ≡ true → its ≡ name
  invite_named None name its created_by named is = absurd (false≢true is)
  invite_named (Some reference) name its created_by named is =
      sym named ∙ same_name reference.name name
      (and-left (is_dialog_id reference.name name) (is_id reference.created_by created_by) is)

  -- what the RAck of a PRACK names
  named_so : (rack : RAck) (created_by : Id) (invite : HeldRequest) (prack : Arrival)
      → Holds Brought Gave invite → Brought prack → is_prack prack.request ≡ true
      → has_to_tag prack.request ≡ true → prack.request.rack ≡ Some rack
      → is_named_by rack (dialog_id_of prack.request prack.tag) created_by invite ≡ true
      → rack.rseq ≡ 1 → Pracked Brought (arrived invite)
  named_so rack created_by invite prack holds brought is tagged has named first =
      let name = dialog_id_of prack.request prack.tag in
      let parts = four_of
      (option_map_or (λ reference. is_dialog_id reference.name name
      && is_id reference.created_by created_by) invite.dialog false)
      (is_invite invite.request) (bytes_eq rack.method invite.request.cseq.method)
      (invite.request.cseq.number == rack.cseq) (waits_for rack.rseq invite.ledger) named in
      let inviting : is_invite invite.request ≡ true = parts.1 in
      let method : rack.method ≡ invite.request.cseq.method =
      same_bytes rack.method invite.request.cseq.method parts.2 in
      let number : invite.request.cseq.number ≡ rack.cseq =
      equal invite.request.cseq.number rack.cseq parts.3 in
      let of_invite : rack.method ≡ codes "INVITE" =
      method ∙ same_bytes invite.request.cseq.method (codes "INVITE") inviting in record {
        prack = prack;
        brought = brought;
        method = same_bytes prack.request.cseq.method (codes "PRACK") is;
        rack = has ∙ (λ i. Some record {
          rseq = first i;
          cseq = sym number i;
          method = of_invite i;
        });
        name = own_name prack.request prack.tag tagged
            ∙ sym (invite_named invite.dialog name (dialog_id_of invite.request invite.tag)
            created_by holds.named parts.0);
      }

  prack_done : (state : State) (call_id : List ℕ) (created_by : Id) (arrival : Arrival)
      (rack : Option RAck) → arrival.request.rack ≡ rack → Brought arrival
      → is_prack arrival.request ≡ true → has_to_tag arrival.request ≡ true
      → Apart state.requests → HoldsAll state.requests
      → Done (prack_received state call_id (dialog_id_of arrival.request arrival.tag) created_by
      arrival rack)
  prack_done state call_id created_by arrival None has brought is tagged apart all =
      no_call_done state arrival all
  prack_done state call_id created_by arrival (Some rack) has brought is tagged apart all =
      let name = dialog_id_of arrival.request arrival.tag in
      found_or Done (prack_for state call_id arrival rack)
      (find (is_named_by rack name created_by) state.requests) (no_such_call state arrival)
      (λ invite found.
      let so = found_so (is_named_by rack name created_by) state.requests invite found in record {
        requests = changed_so (Holds Brought Gave) (has_id invite.id) (after_prack rack.rseq)
            state.requests
            (λ one among here holds. prack_holds Brought Gave rack.rseq one holds
            (λ first. subst (λ (held : HeldRequest). Pracked Brought (arrived held))
            (sym (apart one invite among so.0 here))
            (named_so rack created_by invite arrival
            (each_of (Holds Brought Gave) state.requests invite all so.0) brought is tagged has so.1
            first)))
            all;
        outs = outs_both (own_response arrival 200 (codes "OK"))
            (out.Notice (notice.Prack call_id invite.id rack.rseq arrival.request.body) ∷ [])
            (own_given arrival 200 (codes "OK")) (tt, tt);
      })
      (λ none. no_call_done state arrival all)

  dialog_done : (state : State) (call_id : List ℕ) (arrival : Arrival)
      (held_dialog : HeldDialog) → Brought arrival → has_to_tag arrival.request ≡ true
      → Apart state.requests → HoldsAll state.requests
      → Done (request_in_dialog state call_id (dialog_id_of arrival.request arrival.tag) arrival
      held_dialog)
  dialog_done state call_id arrival held_dialog brought tagged apart all =
      let request = arrival.request in
      let name = dialog_id_of request arrival.tag in
      let noted : State = record state {
        dialogs = dialog_changed name (after_request request) state.dialogs;
      } in
      let late : ServedTaken =
      (state, own_response arrival 500 (codes "Server Internal Error")) in
      let prack : ServedTaken =
      prack_received noted call_id name held_dialog.created_by arrival request.rack in
      let user : ServedTaken = request_for_user noted call_id name arrival in
      either Done (not (is_above held_dialog request.cseq.number)) late
      (if is_prack request then prack else user)
      (λ is. record {
        requests = all;
        outs = own_given arrival 500 (codes "Server Internal Error");
      })
      (λ above. either Done (is_prack request) prack user
      (λ is. prack_done noted call_id held_dialog.created_by arrival request.rack refl brought
      is tagged apart all)
      (λ other. user_done noted call_id arrival brought all))

  -- ---- a CANCEL, and an ACK

  cancel_one : (state : State) (call_id : List ℕ) (arrival : Arrival) (now : ℕ)
      (held : HeldRequest) → HoldsAll state.requests
      → Done (cancel_for state call_id arrival now held)
  cancel_one state call_id arrival now held all =
      let ok = own_response (record arrival { tag = held.tag }) 200 (codes "OK") in
      let of_ok = own_given (record arrival { tag = held.tag }) 200 (codes "OK") in
      let terminated =
      response_of held.request 487 (codes "Request Terminated") held.tag in
      let after = early_ended held.id state.dialogs in
      let ended : ServedTaken = (
        record state {
          requests = changed_at held.id (after_487 now) state.requests;
          dialogs = after.0;
        },
        ok ++ out.Command held.id (order.Answer held.key terminated)
            ∷ out.Notice (notice.Cancel call_id held.id) ∷ after.1,
      ) in
      let still_ok : ServedTaken = (state, ok) in
      either Done (not (is_invite held.request && is_none held.removal)) still_ok ended
      (λ late. record { requests = all; outs = of_ok })
      (λ still. record {
        requests = changed_so (Holds Brought Gave) (has_id held.id) (after_487 now) state.requests
            (λ one among here holds. cancel_holds Brought Gave now one holds) all;
        outs = outs_both ok (out.Command held.id (order.Answer held.key terminated)
            ∷ out.Notice (notice.Cancel call_id held.id) ∷ after.1) of_ok (
              none_given Brought Gave held.id terminated refl,
              (tt, early_given held.id state.dialogs),
            );
      })

  cancel_done : (state : State) (call_id : List ℕ) (arrival : Arrival) (now : ℕ)
      → HoldsAll state.requests → Done (cancel_received state call_id arrival now)
  cancel_done state call_id arrival now all =
      found_or Done (cancel_for state call_id arrival now)
      (find (λ held. is_same_branch arrival.key held.key) (reverse state.requests))
      (no_such_call state arrival)
      (λ held found. cancel_one state call_id arrival now held all)
      (λ none. no_call_done state arrival all)

  ack_done : (state : State) (call_id : List ℕ) (ack : Message) → HoldsAll state.requests
      → Done (ack_received state call_id ack)
  unfolding ack_received
  ack_done state call_id ack all =
      found_or Done (ack_for state call_id ack) (find (awaits ack) state.requests) (state, [])
      (λ invite found. record {
        requests = changed_so (Holds Brought Gave) (has_id invite.id) after_ack state.requests
            (λ one among here holds. ack_holds Brought Gave one holds) all;
        outs = (tt, tt);
      })
      (λ none. record { requests = all; outs = tt })

  -- ---- any request

  request_done : (state : State) (call_id : List ℕ) (arrival : Arrival) (now : ℕ)
      → Brought arrival → Apart state.requests → HoldsAll state.requests
      → Done (request_received state call_id arrival now)
  unfolding request_received
  request_done state call_id arrival now brought apart all =
      let request = arrival.request in
      let name = dialog_id_of request arrival.tag in
      let outside : ServedTaken = if is_bye request || is_prack request
      then no_such_call state arrival else request_for_user state call_id name arrival in
      let inside : ServedTaken =
      option_map_or (request_in_dialog state call_id name arrival)
      (dialog_at name state.dialogs) (no_such_call state arrival) in
      let known : ServedTaken = if has_to_tag request then inside else outside in
      let once : ServedTaken = if list_any is_unknown_option request.require
      then bad_extension state arrival else known in
      let merged : ServedTaken =
      (state, own_response arrival 482 (codes "Loop Detected")) in
      let no_cancel : ServedTaken = if not (has_to_tag request)
      && list_any (is_merged request) state.requests then merged else once in
      either Done (is_cancel request) (cancel_received state call_id arrival now) no_cancel
      (λ is. cancel_done state call_id arrival now all)
      (λ is. either Done
      (not (has_to_tag request) && list_any (is_merged request) state.requests) merged once
      (λ twice. record {
        requests = all;
        outs = own_given arrival 482 (codes "Loop Detected");
      })
      (λ single. either Done (list_any is_unknown_option request.require)
      (bad_extension state arrival) known
      (λ unknown. record { requests = all; outs = (λ rseq is. absurd (no_rseq rseq is), tt) })
      (λ fine. either Done (has_to_tag request) inside outside
      (λ tagged. found_or Done (request_in_dialog state call_id name arrival)
      (dialog_at name state.dialogs) (no_such_call state arrival)
      (λ held found. dialog_done state call_id arrival held brought tagged apart all)
      (λ none. no_call_done state arrival all))
      (λ untagged. either Done (is_bye request || is_prack request) (no_such_call state arrival)
      (request_for_user state call_id name arrival)
      (λ odd. no_call_done state arrival all)
      (λ plain. user_done state call_id arrival brought all)))))

  abbrev pub KindBrought : List ℕ → AnUp → UpKind → Type 0
  KindBrought made up (kind.Request request reply_to) =
      Brought (arrival_of up request reply_to made)
  KindBrought made up (kind.Ack ack) = Unit {0}
  KindBrought made up (kind.Response response) = Unit {0}
  KindBrought made up kind.Timeout = Unit {0}
  KindBrought made up kind.Failed = Unit {0}

  pub kind_done : (state : State) (made : List ℕ) (up : AnUp) (k : UpKind) (now : ℕ)
      → KindBrought made up k → Apart state.requests → HoldsAll state.requests
      → Done (server_received state made up k now)
  kind_done state made up (kind.Request request reply_to) now brought apart all =
      request_done state up.call_id (arrival_of up request reply_to made) now brought apart all
  kind_done state made up (kind.Ack ack) now brought apart all =
      ack_done state up.call_id ack all
  kind_done state made up (kind.Response response) now brought apart all =
      record { requests = all; outs = tt }
  kind_done state made up kind.Timeout now brought apart all =
      record { requests = all; outs = tt }
  kind_done state made up kind.Failed now brought apart all =
      record { requests = all; outs = tt }

  -- ---- an answer of the user

  dialogs_given : (event : Id) (held : HeldRequest) (status : ℕ) (response : Message)
      (dialogs : Dialogs) → Outs (dialogs_after event held status response dialogs).1
  dialogs_given event held status response dialogs =
      let request = held.request in
      let Fine : Dialogs × List CallOut → Type 0 = λ after. Outs after.1 in
      either Fine (makes_dialog held status) _ _ (λ makes. tt)
      (λ other. either Fine
      (is_invite request && is_success status && not (has_to_tag request)) _ _ (λ confirms. tt)
      (λ neither. either Fine (is_invite request && nat_le 300 status)
      (early_ended held.id dialogs) (dialogs, []) (λ rejects. early_given held.id dialogs)
      (λ none. tt)))

  answer_done : (state : State) (event : Id) (respond : Respond) (now : ℕ) (held : HeldRequest)
      → Holds Brought Gave held → HoldsAll state.requests
      → OutsGave Brought Gave (respond_to state event respond now held).1
      → Done (respond_to state event respond now held)
  answer_done state event respond now held holds all =
      let response = response_sent state.local held respond in
      found_or (λ (taken : ServedTaken). OutsGave Brought Gave taken.1 → Done taken) _
      (response_refusal state.dialogs held respond) _
      (λ refusal refused gave. record { requests = all; outs = (tt, tt) })
      (λ none gave. let sends = may_send Brought Gave state.dialogs held respond none in record {
        requests = changed_so (Holds Brought Gave) (has_id respond.id)
            (λ _. held_after event held respond response now) state.requests
            (λ one among here before. answer_holds Brought Gave state.local held respond holds
            sends gave.0 event now) all;
        outs = (
          answer_given Brought Gave state.local held respond holds sends gave.0,
          dialogs_given event held respond.status response state.dialogs,
        );
      })

  holds_one : (requests : List HeldRequest) → HoldsAll requests → (one : HeldRequest)
      → Contains requests one → Holds Brought Gave one
  holds_one requests all one among = each_of (Holds Brought Gave) requests one all among

  pub respond_done : (state : State) (event : Id) (respond : Respond) (now : ℕ)
      → HoldsAll state.requests
      → OutsGave Brought Gave (respond_command state event respond now).1
      → Done (respond_command state event respond now)
  unfolding respond_command
  respond_done state event respond now all =
      found_or (λ (taken : ServedTaken). OutsGave Brought Gave taken.1 → Done taken)
      (respond_to state event respond now) (find (has_id respond.id) state.requests) _
      (λ held found. answer_done state event respond now held
      (holds_one state.requests all held
      (found_so (has_id respond.id) state.requests held found).0) all)
      (λ none gave. record { requests = all; outs = (tt, tt) })
