-- The lines of the user's commands: what is read is spelled that way, and that spelling is read.
use Rattle.std.proofs.Common.{◌≡◌, ℕ, true, IsTrue, cond, List, [], ◌∷◌, ◌++◌, Option, Some, None, refl, sym, ap, subst, ◌∙◌, append_assoc, inl, inr, codes, decimal, arith}
use Rattle.std.specs.Prelude.{unwrap_or}
use Rattle.std.specs.Option.{option_map, option_or}
use Rattle.std.specs.Str.{bytes_eq}
use Rattle.sip_text.proofs.Cuts.{Reads, cut_again, has_no, uncut}
use Rattle.sip_text.specs.Cut.{cut_at}
use Rattle.sip_text.proofs.Options.{chosen, same_some}
use Rattle.sip_message.specs.Addr.{addr_text}
use Rattle.sip_user.specs.declared.command.DialogBody.{DialogBody}
use Rattle.sip_user.specs.declared.command.DialogRequest.{DialogRequest}
use Rattle.sip_user.specs.declared.command.Invite.{Invite}
use Rattle.sip_user.specs.declared.command.Plain.{Plain}
use Rattle.sip_user.specs.declared.command.Respond.{Respond}
use Rattle.sip_user.specs.declared.command.AbandonDialog.{AbandonDialog}
use Rattle.sip_user.specs.declared.command.AbandonRequest.{AbandonRequest}
use Rattle.sip_user.specs.declared.command.Cancel.{Cancel}
use Rattle.sip_user.specs.declared.command.UserCommand.{UserCommand}
use Rattle.sip_user.specs.declared.command.UserCommand.TheVariants as command
use Rattle.sip_files.specs.declared.version.Version.{Version}
use Rattle.sip_files.specs.declared.version.Version.TheVariants.{One, Two, SessionOne}
use Rattle.sip_files.specs.Word.{spelled_word, spelled_rest}
use Rattle.sip_files.specs.Field.{id_text, plain_field, number_field, id_field, address_field, word_field, rest_field}
use Rattle.sip_files.specs.Events.{IsAbandonDialog, IsAbandonRequest, IsInvite, IsPlain, IsRequest, IsDialogBody, IsRespond, IsCancel, IsCommandLine, has_abandon, has_cancel, reliability_text, support_text, command_text}
use Rattle.sip_files.specs.Steps.ReadLine.{abandon_at, abandon_dialog_at, abandon_dialog_of, abandon_in, abandon_request_at, abandon_request_of, invite_read, invite_at, plain_read, plain_at, request_read, request_at, body_of, body_at, respond_of, respond_at, cancel_of, cancel_at, cancel_in, command_at}
use Rattle.sip_files.proofs.Cuts.{both_front, ended_reads, made_reads}
use Rattle.sip_files.proofs.NumberLaws.{id_no, id_reads}
use Rattle.sip_files.proofs.Shown.{word_no}
use Rattle.sip_files.proofs.FieldLaws.{word_reads, reason_reads, same_text, tag_text, call_id_front, word_front, method_front, address_front, support_front, id_front, tag_front, tag_reads, status_front, reliability_front, uris_text, uris_front, dialog_text, dialog_front}

pub mapped : {A B : Type 0} (f : A → B) (o : Option A) (y : B) → option_map f o ≡ Some y
    → (x : A) × (o ≡ Some x) × (f x ≡ y)
mapped f None y e = absurd cc
mapped f (Some x) y e = (x, refl, same_some (f x) y e)

abbrev pub invite_fields : Invite → List ℕ
invite_fields c =
    (((spelled_word c.call_id ++ 32 ∷ addr_text c.address)
    ++ 32 ∷ uris_text (record { request_uri = c.request_uri; from = c.from; to = c.to }))
    ++ 32 ∷ support_text c.support) ++ 32 ∷ spelled_word c.content.body

pub invite_reads : Reads IsInvite invite_fields invite_at
unfolding invite_at
invite_reads =
    made_reads invite_read (λ c. (
      (
        (
          (c.call_id, c.address),
          record { request_uri = c.request_uri; from = c.from; to = c.to },
        ),
        c.support,
      ),
      c.content.body,
    ))
    (λ read. refl)
    (λ c f. λ i. record c { routes = sym f.routes i; content = sym f.content.alone i })
    (λ read f. record {
      call_id = (((f.0).0).0).0;
      address = (((f.0).0).0).1;
      request_uri = ((((f.0).0).1).0).0;
      from =
          ((((f.0).0).1).0).1;
      to = (((f.0).0).1).1;
      routes = refl;
      content = record { alone = refl; bytes = f.1 };
    })
    (λ c f. ((((f.call_id, f.address), ((f.request_uri, f.from), f.to)), tt), f.content.bytes))
    (ended_reads (both_front (both_front (both_front call_id_front address_front) uris_front)
    support_front) word_reads)

abbrev pub plain_fields : Plain → List ℕ
plain_fields c =
    (((spelled_word c.call_id ++ 32 ∷ addr_text c.address) ++ 32 ∷ c.method)
    ++ 32 ∷ uris_text (record { request_uri = c.request_uri; from = c.from; to = c.to }))
    ++ 32 ∷ spelled_word c.content.body

pub plain_reads : Reads IsPlain plain_fields plain_at
unfolding plain_at
plain_reads =
    made_reads plain_read (λ c. (
      (
        ((c.call_id, c.address), c.method),
        record { request_uri = c.request_uri; from = c.from; to = c.to },
      ),
      c.content.body,
    )) (λ read. refl)
    (λ c f. λ i. record c { routes = sym f.routes i; content = sym f.content.alone i })
    (λ read f. record {
      call_id = (((f.0).0).0).0;
      address = (((f.0).0).0).1;
      method = ((f.0).0).1;
      request_uri = (((f.0).1).0).0;
      from = (((f.0).1).0).1;
      to = ((f.0).1).1;
      routes = refl;
      content = record { alone = refl; bytes = f.1 };
    })
    (λ c f.
    ((((f.call_id, f.address), f.method), ((f.request_uri, f.from), f.to)), f.content.bytes))
    (ended_reads (both_front (both_front (both_front call_id_front address_front) method_front)
    uris_front) word_reads)

abbrev pub request_fields : DialogRequest → List ℕ
request_fields c = (dialog_text
    (record { call_id = c.call_id; local_tag = c.local_tag; remote_tag = c.remote_tag })
    ++ 32 ∷ c.method) ++ 32 ∷ spelled_word c.content.body

pub request_reads : Reads IsRequest request_fields request_at
unfolding request_at
request_reads =
    made_reads request_read (λ c. (
      (
        record
            { call_id = c.call_id; local_tag = c.local_tag; remote_tag = c.remote_tag },
        c.method,
      ),
      c.content.body,
    )) (λ read. refl)
    (λ c f. λ i. record c { content = sym f.content.alone i })
    (λ read f. record {
      call_id = (((f.0).0).0).0;
      local_tag = (((f.0).0).0).1;
      remote_tag = ((f.0).0).1;
      method = (f.0).1;
      content = record { alone = refl; bytes = f.1 };
    })
    (λ c f. ((((f.call_id, f.local_tag), f.remote_tag), f.method), f.content.bytes))
    (ended_reads (both_front dialog_front method_front) word_reads)

abbrev pub body_fields : DialogBody → List ℕ
body_fields c = dialog_text (record
    { call_id = c.call_id; local_tag = c.local_tag; remote_tag = c.remote_tag })
    ++ 32 ∷ spelled_word c.content.body

pub body_reads : Reads IsDialogBody body_fields body_at
unfolding body_at
body_reads =
    made_reads body_of (λ c. (
      record
          { call_id = c.call_id; local_tag = c.local_tag; remote_tag = c.remote_tag },
      c.content.body,
    ))
    (λ read. refl)
    (λ c f. λ i. record c { content = sym f.content.alone i })
    (λ read f. record {
      call_id = ((f.0).0).0;
      local_tag = ((f.0).0).1;
      remote_tag = (f.0).1;
      content = record { alone = refl; bytes = f.1 };
    })
    (λ c f. (((f.call_id, f.local_tag), f.remote_tag), f.content.bytes))
    (ended_reads dialog_front word_reads)

abbrev pub respond_fields : Respond → List ℕ
respond_fields c =
    ((((spelled_word c.call_id ++ 32 ∷ id_text c.id) ++ 32 ∷ decimal c.status)
    ++ 32 ∷ reliability_text c.reliability) ++ 32 ∷ spelled_word c.content.body)
    ++ 32 ∷ spelled_rest c.reason

pub respond_reads : Reads IsRespond respond_fields respond_at
unfolding respond_at
respond_reads =
    made_reads respond_of (λ c. (
      ((((c.call_id, c.id), c.status), c.reliability), c.content.body),
      c.reason,
    )) (λ read. refl)
    (λ c f. λ i. record c { content = sym f.content.alone i })
    (λ read f. record {
      call_id = ((((f.0).0).0).0).0;
      id = ((((f.0).0).0).0).1;
      status = (((f.0).0).0).1;
      content = record { alone = refl; bytes = (f.0).1 };
      reason = f.1;
    })
    (λ c f. (((((f.call_id, f.id), f.status), tt), f.content.bytes), f.reason))
    (ended_reads (both_front (both_front
    (both_front (both_front call_id_front id_front) status_front) reliability_front) word_front)
    reason_reads)

abbrev pub cancel_fields : Cancel → List ℕ
cancel_fields c = spelled_word c.call_id ++ 32 ∷ id_text c.id

cancel_reads : Reads IsCancel cancel_fields cancel_at
unfolding cancel_at
cancel_reads =
    made_reads cancel_of (λ c. (c.call_id, c.id)) (λ read. refl) (λ c f. refl)
    (λ read f. record { call_id = f.0; id = f.1 }) (λ c f. (f.call_id, f.id))
    (ended_reads call_id_front id_reads)

abbrev IsCancelIn : Version → Cancel → Type 0
IsCancelIn version c = IsTrue (has_cancel version) × IsCancel c

cancel_where : (version : Version) → has_cancel version ≡ true
    → Reads (IsCancelIn version) cancel_fields cancel_at
cancel_where version is = record {
  took = λ fields c e. (let t = cancel_reads.took fields c e in ((is, t.0), t.1));
  again = λ c fits. cancel_reads.again c fits.1;
}

pub cancel_reads_in : (version : Version)
    → Reads (IsCancelIn version) cancel_fields (cancel_in version)
cancel_reads_in One = record { took = λ fields c e. absurd cc; again = λ c fits. absurd cc }
cancel_reads_in Two = cancel_where Two refl
cancel_reads_in SessionOne = cancel_where SessionOne refl

-- ---- giving up

abbrev request_fields_of : AbandonRequest → List ℕ
request_fields_of c = spelled_word c.call_id ++ 32 ∷ id_text c.id

abandon_request_reads : Reads IsAbandonRequest request_fields_of abandon_request_at
unfolding abandon_request_at
abandon_request_reads =
    made_reads abandon_request_of (λ c. (c.call_id, c.id)) (λ read. refl) (λ c f. refl)
    (λ read f. record { call_id = f.0; id = f.1 }) (λ c f. (f.call_id, f.id))
    (ended_reads call_id_front id_reads)

abbrev dialog_fields_of : AbandonDialog → List ℕ
dialog_fields_of c =
    (spelled_word c.call_id ++ 32 ∷ spelled_word (tag_text c.local_tag))
    ++ 32 ∷ spelled_word (tag_text c.remote_tag)

abandon_dialog_reads : Reads IsAbandonDialog dialog_fields_of abandon_dialog_at
unfolding abandon_dialog_at
abandon_dialog_reads =
    made_reads abandon_dialog_of (λ c. ((c.call_id, c.local_tag), c.remote_tag)) (λ read. refl)
    (λ c f. refl)
    (λ read f. record { call_id = (f.0).0; local_tag = (f.0).1; remote_tag = f.1 })
    (λ c f. ((f.call_id, f.local_tag), f.remote_tag))
    (ended_reads (both_front call_id_front tag_front) tag_reads)

-- the space behind the keyword stands before the first field
onward : (k x y : List ℕ) → k ++ 32 ∷ (x ++ 32 ∷ y) ≡ (k ++ 32 ∷ x) ++ 32 ∷ y
onward k x y = sym (append_assoc k (32 ∷ x) (32 ∷ y))

-- the fields of a dialog aren't those of a request: an id has no space
no_two_fields : (word id other left right : List ℕ) → has_no 32 word ≡ true
    → has_no 32 other ≡ true → has_no 32 id ≡ true → has_no 32 left ≡ true
    → (word ++ 32 ∷ left) ++ 32 ∷ right ≡ other ++ 32 ∷ id → ⊥
no_two_fields word id other left right none others id_none left_none e =
    let cut : ◌≡◌ {A = Option (List ℕ × List ℕ)} (Some (word, left ++ 32 ∷ right))
    (Some (other, id)) =
    sym (cut_again 32 word (left ++ 32 ∷ right) none)
    ∙ ap (cut_at 32) (onward word left right ∙ e) ∙ cut_again 32 other id others in
    let is : left ++ 32 ∷ right ≡ id =
    ap (λ (o : Option (List ℕ × List ℕ)). (unwrap_or o (word, id)).1) cut in
    never (left, right)
    (sym (cut_again 32 left right left_none) ∙ ap (cut_at 32) is ∙ uncut 32 id id_none)
  where
    never : (p : List ℕ × List ℕ) → Some p ≡ None → ⊥
    never p e = absurd cc

no_request : (c : AbandonDialog) (o : Option AbandonRequest)
    → abandon_request_at (dialog_fields_of c) ≡ o → o ≡ None
no_request c None e = refl
no_request c (Some request) e =
    let read = abandon_request_reads.took (dialog_fields_of c) request e in
    absurd (no_two_fields (spelled_word c.call_id) (id_text request.id)
    (spelled_word request.call_id) (spelled_word (tag_text c.local_tag))
    (spelled_word (tag_text c.remote_tag)) (word_no 32 c.call_id (omega arith) refl)
    (word_no 32 request.call_id (omega arith) refl) (id_no 32 request.id refl refl read.0.id)
    (word_no 32 (tag_text c.local_tag) (omega arith) refl) read.1)

abbrev pub abandon_fields : UserCommand → List ℕ
abandon_fields (command.AbandonRequest c) = request_fields_of c
abandon_fields (command.AbandonDialog c) = dialog_fields_of c
abandon_fields c = []

abbrev IsAbandon : UserCommand → Type 0
IsAbandon (command.AbandonRequest c) = IsAbandonRequest c
IsAbandon (command.AbandonDialog c) = IsAbandonDialog c
IsAbandon c = ⊥

abandon_took : (fields : List ℕ) (request : Option AbandonRequest) (dialog : Option AbandonDialog)
    (c : UserCommand)
    → abandon_request_at fields ≡ request → abandon_dialog_at fields ≡ dialog
    → option_or (option_map command.AbandonRequest request)
    (option_map command.AbandonDialog dialog) ≡ Some c
    → IsAbandon c × (fields ≡ abandon_fields c)
abandon_took fields (Some request) dialog c is other e =
    let P : UserCommand → Type 0 = λ y. IsAbandon y × (fields ≡ abandon_fields y) in
    subst P (same_some (command.AbandonRequest request) c e)
    (abandon_request_reads.took fields request is)
abandon_took fields None (Some dialog) c none is e =
    let P : UserCommand → Type 0 = λ y. IsAbandon y × (fields ≡ abandon_fields y) in
    subst P (same_some (command.AbandonDialog dialog) c e)
    (abandon_dialog_reads.took fields dialog is)
abandon_took fields None None c none other e = absurd cc

abandon_again : (c : UserCommand) → IsAbandon c → abandon_at (abandon_fields c) ≡ Some c
unfolding abandon_at
abandon_again (command.AbandonRequest c) fits =
    ap (λ o. option_or (option_map command.AbandonRequest o)
    (option_map command.AbandonDialog (abandon_dialog_at (request_fields_of c))))
    (abandon_request_reads.again c fits)
abandon_again (command.AbandonDialog c) fits =
    ap (λ o. option_or (option_map command.AbandonRequest o)
    (option_map command.AbandonDialog (abandon_dialog_at (dialog_fields_of c))))
    (no_request c (abandon_request_at (dialog_fields_of c)) refl)
    ∙ ap (option_map command.AbandonDialog) (abandon_dialog_reads.again c fits)
abandon_again (command.Invite c) fits = absurd fits
abandon_again (command.Plain c) fits = absurd fits
abandon_again (command.Request c) fits = absurd fits
abandon_again (command.Respond c) fits = absurd fits
abandon_again (command.Ack c) fits = absurd fits
abandon_again (command.Prack c) fits = absurd fits
abandon_again (command.Cancel c) fits = absurd fits

abbrev IsAbandonIn : Version → UserCommand → Type 0
IsAbandonIn version c = IsTrue (has_abandon version) × IsAbandon c

pub abandon_reads_in : (version : Version)
    → Reads (IsAbandonIn version) abandon_fields (abandon_in version)
unfolding abandon_at
abandon_reads_in One = record { took = λ fields c e. absurd cc; again = λ c fits. absurd cc }
abandon_reads_in Two = record { took = λ fields c e. absurd cc; again = λ c fits. absurd cc }
abandon_reads_in SessionOne = record {
  took = λ fields c e. let t = abandon_took fields (abandon_request_at fields)
      (abandon_dialog_at fields) c refl refl e in ((refl, t.0), t.1);
  again = λ c fits. abandon_again c fits.1;
}

-- what is given up, in a file of this version
abandon_line : (version : Version) (c : UserCommand) → IsAbandonIn version c
    → IsCommandLine version c
abandon_line version (command.AbandonRequest c) fits = fits
abandon_line version (command.AbandonDialog c) fits = fits
abandon_line version (command.Invite c) fits = absurd fits.1
abandon_line version (command.Plain c) fits = absurd fits.1
abandon_line version (command.Request c) fits = absurd fits.1
abandon_line version (command.Respond c) fits = absurd fits.1
abandon_line version (command.Ack c) fits = absurd fits.1
abandon_line version (command.Prack c) fits = absurd fits.1
abandon_line version (command.Cancel c) fits = absurd fits.1

pub two_fields : (k a b : List ℕ) → k ++ 32 ∷ (a ++ 32 ∷ b) ≡ (k ++ 32 ∷ a) ++ 32 ∷ b
two_fields = onward

three_fields : (k a b c : List ℕ)
    → k ++ 32 ∷ ((a ++ 32 ∷ b) ++ 32 ∷ c) ≡ ((k ++ 32 ∷ a) ++ 32 ∷ b) ++ 32 ∷ c
three_fields k a b c =
    onward k (a ++ 32 ∷ b) c ∙ ap (λ (x : List ℕ). x ++ 32 ∷ c) (two_fields k a b)

pub four_fields : (k a b c d : List ℕ)
    → k ++ 32 ∷ (((a ++ 32 ∷ b) ++ 32 ∷ c) ++ 32 ∷ d) ≡ (((k ++ 32 ∷ a) ++ 32 ∷ b) ++ 32 ∷ c)
    ++ 32 ∷ d
four_fields k a b c d =
    onward k ((a ++ 32 ∷ b) ++ 32 ∷ c) d ∙ ap (λ (x : List ℕ). x ++ 32 ∷ d) (three_fields k a b c)

five_fields : (k a b c d e : List ℕ)
    → k ++ 32 ∷ ((((a ++ 32 ∷ b) ++ 32 ∷ c) ++ 32 ∷ d) ++ 32 ∷ e)
    ≡ ((((k ++ 32 ∷ a) ++ 32 ∷ b) ++ 32 ∷ c) ++ 32 ∷ d) ++ 32 ∷ e
five_fields k a b c d e = onward k (((a ++ 32 ∷ b) ++ 32 ∷ c) ++ 32 ∷ d) e
    ∙ ap (λ (x : List ℕ). x ++ 32 ∷ e) (four_fields k a b c d)

six_fields : (k a b c d e f : List ℕ)
    → k ++ 32 ∷ (((((a ++ 32 ∷ b) ++ 32 ∷ c) ++ 32 ∷ d) ++ 32 ∷ e) ++ 32 ∷ f)
    ≡ (((((k ++ 32 ∷ a) ++ 32 ∷ b) ++ 32 ∷ c) ++ 32 ∷ d) ++ 32 ∷ e) ++ 32 ∷ f
six_fields k a b c d e f = onward k ((((a ++ 32 ∷ b) ++ 32 ∷ c) ++ 32 ∷ d) ++ 32 ∷ e) f
    ∙ ap (λ (x : List ℕ). x ++ 32 ∷ f) (five_fields k a b c d e)

pub invite_text : (c : Invite) → command_text (command.Invite c) ≡ codes "invite"
    ++ 32 ∷ invite_fields c
unfolding word_field address_field plain_field
invite_text c =
    let k = codes "invite" in
    let front = (k ++ 32 ∷ spelled_word c.call_id) ++ 32 ∷ addr_text c.address in
    let uris = uris_text (record { request_uri = c.request_uri; from = c.from; to = c.to }) in
    sym (five_fields k (spelled_word c.call_id) (addr_text c.address) uris (support_text c.support)
    (spelled_word c.content.body)
    ∙ ap (λ (x : List ℕ). (x ++ 32 ∷ support_text c.support) ++ 32 ∷ spelled_word c.content.body)
    (three_fields front (spelled_word c.request_uri) (spelled_word c.from) (spelled_word c.to)))

pub plain_text : (c : Plain) → command_text (command.Plain c) ≡ codes "plain" ++ 32 ∷ plain_fields c
unfolding word_field address_field plain_field
plain_text c =
    let k = codes "plain" in
    let front = ((k ++ 32 ∷ spelled_word c.call_id) ++ 32 ∷ addr_text c.address) ++ 32 ∷ c.method in
    let uris = uris_text (record { request_uri = c.request_uri; from = c.from; to = c.to }) in
    sym (five_fields k (spelled_word c.call_id) (addr_text c.address) c.method uris
    (spelled_word c.content.body)
    ∙ ap (λ (x : List ℕ). x ++ 32 ∷ spelled_word c.content.body)
    (three_fields front (spelled_word c.request_uri) (spelled_word c.from) (spelled_word c.to)))

pub request_text : (c : DialogRequest)
    → command_text (command.Request c) ≡ codes "request" ++ 32 ∷ request_fields c
unfolding word_field plain_field
request_text c = sym (five_fields (codes "request") (spelled_word c.call_id)
    (spelled_word (tag_text c.local_tag)) (spelled_word (tag_text c.remote_tag)) c.method
    (spelled_word c.content.body))

pub respond_text : (c : Respond) → command_text (command.Respond c) ≡ codes "respond"
    ++ 32 ∷ respond_fields c
unfolding word_field id_field number_field plain_field rest_field
respond_text c = sym (six_fields (codes "respond") (spelled_word c.call_id) (id_text c.id)
    (decimal c.status) (reliability_text c.reliability) (spelled_word c.content.body)
    (spelled_rest c.reason))

pub ack_text : (c : DialogBody) → command_text (command.Ack c) ≡ codes "ack" ++ 32 ∷ body_fields c
unfolding word_field
ack_text c = sym (four_fields (codes "ack") (spelled_word c.call_id)
    (spelled_word (tag_text c.local_tag)) (spelled_word (tag_text c.remote_tag))
    (spelled_word c.content.body))

pub prack_text : (c : DialogBody)
    → command_text (command.Prack c) ≡ codes "prack" ++ 32 ∷ body_fields c
unfolding word_field
prack_text c = sym (four_fields (codes "prack") (spelled_word c.call_id)
    (spelled_word (tag_text c.local_tag)) (spelled_word (tag_text c.remote_tag))
    (spelled_word c.content.body))

pub cancel_text : (c : Cancel) → command_text (command.Cancel c) ≡ codes "cancel"
    ++ 32 ∷ cancel_fields c
unfolding word_field id_field
cancel_text c = sym (two_fields (codes "cancel") (spelled_word c.call_id) (id_text c.id))

pub abandon_text : (c : UserCommand) → IsAbandon c
    → command_text c ≡ codes "abandon" ++ 32 ∷ abandon_fields c
unfolding word_field id_field
abandon_text (command.AbandonRequest c) fits =
    sym (two_fields (codes "abandon") (spelled_word c.call_id) (id_text c.id))
abandon_text (command.AbandonDialog c) fits =
    sym (three_fields (codes "abandon") (spelled_word c.call_id)
    (spelled_word (tag_text c.local_tag)) (spelled_word (tag_text c.remote_tag)))
abandon_text (command.Invite c) fits = absurd fits
abandon_text (command.Plain c) fits = absurd fits
abandon_text (command.Request c) fits = absurd fits
abandon_text (command.Respond c) fits = absurd fits
abandon_text (command.Ack c) fits = absurd fits
abandon_text (command.Prack c) fits = absurd fits
abandon_text (command.Cancel c) fits = absurd fits

-- the command of a keyword is read, or there is another keyword
module _ (version : Version) (keyword fields : List ℕ) (c : UserCommand) where
  abbrev IsSaid : Type 0
  IsSaid = IsCommandLine version c × (keyword ++ 32 ∷ fields ≡ command_text c)

  by_keyword : {A : Type 0} (k : List ℕ) (make : A → UserCommand) (Fits : A → Type 0)
      (spell : A → List ℕ) (read : List ℕ → Option A) (others : Option UserCommand)
      → Reads Fits spell read → ((x : A) → Fits x → IsCommandLine version (make x))
      → ((x : A) → command_text (make x) ≡ k ++ 32 ∷ spell x)
      → cond (bytes_eq keyword k) (option_map make (read fields)) others ≡ Some c
      → (others ≡ Some c → IsSaid) → IsSaid
  by_keyword k make Fits spell read others reads fits text e next =
      elim (chosen (bytes_eq keyword k) (option_map make (read fields)) others (Some c) e) [
        | inl a ↦ (let x = mapped make (read fields) c a.1 in
            let t = reads.took fields x.0 x.1 in
            let P : UserCommand → Type 0 =
            λ y. IsCommandLine version y × (keyword ++ 32 ∷ fields ≡ command_text y) in
            subst P x.2 (
              fits x.0 t.0,
              ap (λ (w : List ℕ). w ++ 32 ∷ fields)
                  (same_text keyword k a.0) ∙ ap (λ (w : List ℕ). k ++ 32 ∷ w) t.1 ∙ sym (text x.0),
            ))
        | inr a ↦ next a.1
      ]

  last : cond (bytes_eq keyword (codes "abandon")) (abandon_in version fields) None ≡ Some c
      → IsSaid
  last e =
      elim (chosen (bytes_eq keyword (codes "abandon")) (abandon_in version fields) None (Some c) e) [
        | inl a ↦ (let t = (abandon_reads_in version).took fields c a.1 in (
          abandon_line version c t.0,
          ap (λ (w : List ℕ). w ++ 32 ∷ fields) (same_text keyword (codes "abandon") a.0)
              ∙ ap (λ (w : List ℕ). codes "abandon" ++ 32 ∷ w) t.1
              ∙ sym (abandon_text c t.0.1),
        ))
        | inr a ↦ absurd (let none : ◌≡◌ {A = Option UserCommand} None (Some c) = a.1 in cc)
      ]

  pub command_took : command_at version keyword fields ≡ Some c → IsSaid
  command_took e =
      by_keyword (codes "invite") command.Invite IsInvite invite_fields invite_at _ invite_reads
      (λ x f. f) invite_text e (λ e.
      by_keyword (codes "plain") command.Plain IsPlain plain_fields plain_at _ plain_reads
      (λ x f. f) plain_text e (λ e.
      by_keyword (codes "request") command.Request IsRequest request_fields request_at _
      request_reads (λ x f. f) request_text e (λ e.
      by_keyword (codes "respond") command.Respond IsRespond respond_fields respond_at _
      respond_reads (λ x f. f) respond_text e (λ e.
      by_keyword (codes "ack") command.Ack IsDialogBody body_fields body_at _ body_reads
      (λ x f. f) ack_text e (λ e.
      by_keyword (codes "prack") command.Prack IsDialogBody body_fields body_at _ body_reads
      (λ x f. f) prack_text e (λ e.
      by_keyword (codes "cancel") command.Cancel (IsCancelIn version) cancel_fields
      (cancel_in version) _ (cancel_reads_in version) (λ x f. f) cancel_text e last))))))
