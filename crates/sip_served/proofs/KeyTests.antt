-- Two keys are equal if the tests of their parts are true.
use Rattle.std.proofs.Common.{◌≡◌, ℕ, Bool, true, false, ◌&&◌, List, refl, sym, ap, ◌∙◌}
use Rattle.std.specs.Prelude.{◌==◌, Option, None, Some, if◌then◌else◌}
use Rattle.std.specs.Cmp.Lexicographic.{slice_cmp}
use Rattle.std.specs.Ordering.{is_eq, nat_cmp, ordering_then}
use Rattle.std.specs.Option.{option_map, option_map_or}
use Rattle.std.specs.Str.{bytes_eq, str_to_ascii_lowercase}
use Rattle.std.specs.declared.cmp.Ordering.{Ordering}
use Rattle.std.specs.declared.cmp.Ordering.TheVariants.{Less, Equal, Greater}
use Rattle.std.proofs.lemmas.Bool.{eqb-true, eq-eqb, false≢true}
use Rattle.std.proofs.lemmas.Cmp.{nat_list_eq_equiv}
use Rattle.std.proofs.lemmas.Map.Text.{is_eq-slice_cmp}
use Rattle.sip_message.specs.contracts.id.IdOrd.TheImpl as id_order
use Rattle.sip_message.specs.declared.id.Id.{Id}
use Rattle.sip_message.specs.declared.key.Key.{Key}
use Rattle.sip_message.specs.declared.key.Key.TheVariants.{Client, Server}
use Rattle.sip_message.specs.declared.message.Message.{Message}
use Rattle.sip_message.specs.declared.rack.RAck.{RAck}
use Rattle.sip_message.specs.Party.{tag_of}
use Rattle.sip_held_dialogs.specs.declared.held_dialog.DialogId.{DialogId}
use Rattle.sip_held_dialogs.specs.declared.held_dialog.DialogReference.{DialogReference}
use Rattle.sip_held_dialogs.specs.Dialogs.{is_dialog_id}
use Rattle.sip_held_dialogs.specs.Ids.{is_id}
use Rattle.sip_held_dialogs.specs.Requests.{is_invite}
use Rattle.sip_reliable.specs.Ledger.{waits_for}
use Rattle.sip_served.specs.declared.held_request.HeldRequest.{HeldRequest}
use Rattle.sip_served.specs.Acknowledgment.{awaits_ack, is_ack_of}
use Rattle.sip_served.specs.Arrival.{is_in_dialog, is_merged, is_named_by}
use Rattle.sip_served.specs.Cancel.{is_same_branch}
use Rattle.sip_served.specs.Steps.Index.{is_key_of}
use Rattle.sip_served.specs.Steps.Keys.{PrackKey, TextKey, ack_key, ack_of, branch_key, id_of, merge_key, merge_of, prack_cmp, prack_key, prack_of, text_cmp}
use Rattle.sip_served.specs.State.{has_id}
use Rattle.sip_served.proofs.Indexes.{by_bool}
use Rattle.sip_served.proofs.Numbered.{at_itself, tied_numbers}

both_equal : (o p : Ordering) → is_eq (ordering_then o p) ≡ (is_eq o && is_eq p)
both_equal Less p = refl
both_equal Equal p = refl
both_equal Greater p = refl

all_equal : (o p q : Ordering) → is_eq (ordering_then (ordering_then o p) q)
    ≡ (is_eq o && is_eq p && is_eq q)
all_equal o p q =
    both_equal (ordering_then o p) q ∙ ap (λ b. b && is_eq q) (both_equal o p)

pub number_equal : (a b : ℕ) → is_eq (nat_cmp a b) ≡ (a == b)
number_equal a b =
    by_bool (is_eq (nat_cmp a b))
    (λ same. same ∙ sym (eq-eqb a b (tied_numbers a b same)))
    (λ apart. by_bool (a == b)
    (λ same. absurd (false≢true (sym apart
    ∙ ap (λ n. is_eq (nat_cmp a n)) (sym (eqb-true a b same)) ∙ at_itself a)))
    (λ other. apart ∙ sym other))

number_back : (a b : ℕ) → is_eq (nat_cmp a b) ≡ (b == a)
number_back a b =
    number_equal a b
    ∙ by_bool (a == b)
    (λ same. same ∙ sym (eq-eqb b a (sym (eqb-true a b same))))
    (λ apart. by_bool (b == a)
    (λ same. absurd (false≢true (sym apart ∙ eq-eqb a b (sym (eqb-true b a same)))))
    (λ other. apart ∙ sym other))

text_back : (a b : List ℕ) → is_eq (slice_cmp nat_cmp a b) ≡ bytes_eq b a
text_back a b = is_eq-slice_cmp a b ∙ nat_list_eq_equiv.symm a b

-- ---- ids

ids_equal : (a b : Id) → is_eq (id_order.ghosts.cmp a b) ≡ is_id b a
ids_equal a b =
    both_equal (nat_cmp a.round b.round) (nat_cmp a.place b.place)
    ∙ (λ i. number_back a.round b.round i && number_back a.place b.place i)

pub id_same : (id : Id) (held : HeldRequest)
    → has_id id held ≡ is_key_of id_order.ghosts.cmp id (id_of held)
id_same id held = sym (ids_equal id held.id)

-- ---- a request that came by another path

last_first : (a b c : Bool) → (a && b && c) ≡ (a && c && b)
last_first true true true = refl
last_first true true false = refl
last_first true false true = refl
last_first true false false = refl
last_first false b c = refl

pub merge_same : (request : Message) (held : HeldRequest)
    → is_merged request held ≡ is_key_of text_cmp (merge_key request) (merge_of held)
merge_same request held =
    let tag = str_to_ascii_lowercase (tag_of request.from) in
    let other = str_to_ascii_lowercase (tag_of held.request.from) in
    sym (all_equal (slice_cmp nat_cmp tag other)
    (slice_cmp nat_cmp request.cseq.method held.request.cseq.method)
    (nat_cmp request.cseq.number held.request.cseq.number)
    ∙ (λ i. text_back tag other i
    && text_back request.cseq.method held.request.cseq.method i
    && number_back request.cseq.number held.request.cseq.number i)
    ∙ last_first (bytes_eq other tag) (bytes_eq held.request.cseq.method request.cseq.method)
    (held.request.cseq.number == request.cseq.number))

-- ---- an ACK

key_from : (ack : Message) (held : HeldRequest) (b rest : Bool)
    → ((b && rest) && is_ack_of ack held) ≡ true
    → is_key_of text_cmp (ack_key (tag_of ack.to) (tag_of ack.from) ack.cseq.number)
    (if b then Some (ack_key held.tag (tag_of held.request.from) held.request.cseq.number) else None)
    ≡ true
key_from ack held false rest passes = absurd (false≢true passes)
key_from ack held true false passes = absurd (false≢true passes)
key_from ack held true true passes =
    let local = str_to_ascii_lowercase (tag_of ack.to) in
    let own = str_to_ascii_lowercase held.tag in
    let remote = str_to_ascii_lowercase (tag_of ack.from) in
    let other = str_to_ascii_lowercase (tag_of held.request.from) in
    all_equal (slice_cmp nat_cmp local own) (slice_cmp nat_cmp remote other)
    (nat_cmp ack.cseq.number held.request.cseq.number)
    ∙ (λ i. is_eq-slice_cmp local own i && is_eq-slice_cmp remote other i
    && number_equal ack.cseq.number held.request.cseq.number i)
    ∙ passes

-- an INVITE that awaits the ACK has its key
pub ack_has_key : (ack : Message) (key : TextKey)
    → key ≡ ack_key (tag_of ack.to) (tag_of ack.from) ack.cseq.number → (held : HeldRequest)
    → (awaits_ack held && is_ack_of ack held) ≡ true
    → is_key_of text_cmp key (ack_of held) ≡ true
ack_has_key ack key is held passes =
    ap (λ (k : TextKey). is_key_of text_cmp k (ack_of held)) is
    ∙ key_from ack held (is_invite held.request) _ passes

-- ---- a PRACK

key_of_dialog : (name : DialogId) (created_by : Id) (rack : RAck) (number : ℕ) (invite method : Bool)
    (waits : Bool) (dialog : Option DialogReference)
    → (option_map_or (λ life. is_dialog_id life.name name && is_id life.created_by created_by) dialog
    false && (invite && method && (number == rack.cseq) && waits)) ≡ true
    → is_key_of prack_cmp (prack_key created_by rack.cseq)
    (option_map (λ dialog. prack_key dialog.created_by number) dialog) ≡ true
key_of_dialog name created_by rack number invite method waits None passes =
    absurd (false≢true passes)
key_of_dialog name created_by rack number invite method waits (Some life) passes =
    both_equal (id_order.ghosts.cmp created_by life.created_by) (nat_cmp rack.cseq number)
    ∙ (λ i. ids_equal created_by life.created_by i && number_back rack.cseq number i)
    ∙ these (is_dialog_id life.name name) (is_id life.created_by created_by) invite method
    (number == rack.cseq) waits passes
  where
    these : (a b c d e f : Bool) → ((a && b) && (c && d && e && f)) ≡ true → (b && e) ≡ true
    these true true true true true true is = refl
    these true true true true true false is = absurd (false≢true is)
    these true true true true false f is = absurd (false≢true is)
    these true true true false e f is = absurd (false≢true is)
    these true true false d e f is = absurd (false≢true is)
    these true false c d e f is = absurd (false≢true is)
    these false b c d e f is = absurd (false≢true is)

-- an INVITE that the RAck names has its key
pub prack_has_key : (name : DialogId) (created_by : Id) (rack : RAck) (key : PrackKey)
    → key ≡ prack_key created_by rack.cseq → (held : HeldRequest)
    → (is_in_dialog name created_by held && is_named_by rack held) ≡ true
    → is_key_of prack_cmp key (prack_of held) ≡ true
prack_has_key name created_by rack key is held passes =
    ap (λ (k : PrackKey). is_key_of prack_cmp k (prack_of held)) is
    ∙ key_of_dialog name created_by rack held.request.cseq.number (is_invite held.request)
    (bytes_eq rack.method held.request.cseq.method) (waits_for rack.rseq held.ledger) held.dialog
    passes

-- ---- a CANCEL

by_branch : (cancel key : Key) (branch : TextKey) → branch_key cancel ≡ Some branch
    → is_same_branch cancel key ≡ is_key_of text_cmp branch (branch_key key)
by_branch (Client name method) key branch is = absurd cc
by_branch (Server name sent_by method) (Client other_name other_method) branch is = refl
by_branch (Server name sent_by method) (Server other other_sent_by other_method) branch is =
    let same : ◌≡◌ {A = TextKey} (name, sent_by.host, sent_by.port) branch = cc in
    sym (all_equal (slice_cmp nat_cmp name other)
    (slice_cmp nat_cmp sent_by.host other_sent_by.host) (nat_cmp sent_by.port other_sent_by.port)
    ∙ (λ i. is_eq-slice_cmp name other i && is_eq-slice_cmp sent_by.host other_sent_by.host i
    && number_equal sent_by.port other_sent_by.port i))
    ∙ ap (λ (b : TextKey). is_key_of text_cmp b
    (Some (other, other_sent_by.host, other_sent_by.port))) same

pub branch_same : (cancel : Key) (branch : TextKey) → branch_key cancel ≡ Some branch
    → (held : HeldRequest)
    → is_same_branch cancel held.key
    ≡ is_key_of text_cmp branch (branch_key held.key)
branch_same cancel branch is held = by_branch cancel held.key branch is

never_branch : (cancel key : Key) → branch_key cancel ≡ None → is_same_branch cancel key ≡ false
never_branch (Client name method) key is = refl
never_branch (Server name sent_by method) key is = absurd cc

-- the key of a client transaction names no request
pub no_branch : (cancel : Key) → branch_key cancel ≡ None → (held : HeldRequest)
    → is_same_branch cancel held.key ≡ false
no_branch cancel is held = never_branch cancel held.key is
