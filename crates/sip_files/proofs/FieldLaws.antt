-- The fields of an event file's lines: what is read is spelled that way, and that spelling is read.
use Rattle.std.proofs.Common.{◌≡◌, ℕ, ◌≤◌, Bool, true, false, cond, eqb, List, [], ◌∷◌, ◌++◌, length, Option, Some, None, refl, ap, subst, ◌∙◌, arith, inl, inr, codes, decimal}
use Rattle.std.specs.Prelude.{unwrap_or}
use Rattle.std.specs.Str.{bytes_eq}
use Rattle.std.proofs.lemmas.Bool.{eqb-true, false≢true, ne_eqb}
use Rattle.std.proofs.lemmas.List.{nil_from_length}
use Rattle.std.proofs.lemmas.Slice.Eq.{bytes_eq-Decides}
use Rattle.sip_text.proofs.Numerals.{number_reads, number_has_no}
use Rattle.sip_text.proofs.Cuts.{has_no, Reads, none_passing}
use Rattle.sip_text.proofs.Options.{bind_some, chosen, passed, same_some}
use Rattle.sip_text.specs.Cut.{field_at}
use Rattle.sip_text.specs.Number.{number_at}
use Rattle.sip_text.specs.Options.{◌>>=◌}
use Rattle.sip_grammar.specs.Word.{is_word}
use Rattle.sip_grammar.specs.Reason.{is_reason}
use Rattle.sip_grammar.specs.Uri.{is_uri}
use Rattle.sip_text.specs.Character.{is_token_byte}
use Rattle.sip_text.specs.Token.{is_token}
use Rattle.sip_message.specs.Addr.{addr_text, IsAddr}
use Rattle.sip_user.specs.declared.command.Reliability.{Reliability}
use Rattle.sip_user.specs.declared.command.Reliability.TheVariants as reliability
use Rattle.sip_user.specs.declared.command.ProvisionalSupport.{ProvisionalSupport}
use Rattle.sip_user.specs.declared.command.ProvisionalSupport.TheVariants as support
use Rattle.sip_files.specs.declared.fields.Dialog.{Dialog}
use Rattle.sip_files.specs.declared.fields.Uris.{Uris}
use Rattle.sip_files.specs.Word.{are_bytes, spelled_word, spelled_rest}
use Rattle.sip_files.specs.Field.{id_text}
use Rattle.sip_files.specs.Events.{IsId, IsCallIdWord, IsReason, IsUri, IsMethod, IsTag, reliability_text, support_text}
use Rattle.sip_files.specs.Steps.Reading.{word_at, rest_at, id_at, address_at}
use Rattle.sip_files.specs.Steps.ReadLine.{call_id_at, reason_at, reliability_at, uri_at, method_at, tag_of, tag_at, support_at, uris_of, uris_at, dialog_read, dialog_at}
use Rattle.sip_files.proofs.WordLaws.{word_took, word_again, rest_took, rest_again}
use Rattle.sip_files.proofs.Cuts.{ReadsFront, field_front, both_front, made_front}
use Rattle.sip_files.proofs.Shown.{word_no}
use Rattle.sip_files.proofs.NumberLaws.{id_reads, address_reads, address_no, id_no}

-- ---- fields

pub word_reads : Reads (λ text. are_bytes text ≡ true) spelled_word word_at
word_reads = record { took = word_took; again = word_again }

-- a field whose text has to pass a test
abbrev tested : (List ℕ → Bool) → List ℕ → Option (List ℕ)
tested fits text = cond (fits text) (Some text) None

tested_reads : {Base : List ℕ → Type 0} (spell : List ℕ → List ℕ)
    (read : List ℕ → Option (List ℕ)) (fits : List ℕ → Bool) → Reads Base spell read
    → Reads (λ text. Base text × (fits text ≡ true)) spell (λ field. read field >>= tested fits)
tested_reads {Base = Base} spell read fits reads = record { took = took; again = again }
  where
    took : (field text : List ℕ) → (read field >>= tested fits) ≡ Some text
        → (Base text × (fits text ≡ true)) × (field ≡ spell text)
    took field text e =
        let w = bind_some (read field) (tested fits) text e in
        let g = passed (fits w.0) w.0 text w.2 in
        let t = reads.took field w.0 w.1 in
        let P : List ℕ → Type 0 = λ y. (Base y × (fits y ≡ true)) × (field ≡ spell y) in
        subst P g.1 ((t.0, g.0), t.1)

    again : (text : List ℕ) → Base text × (fits text ≡ true)
        → (read (spell text) >>= tested fits) ≡ Some text
    again text is =
        ap (λ o. o >>= tested fits) (reads.again text is.0) ∙ ap (λ r. cond r (Some text) None) is.1

call_id_reads : Reads IsCallIdWord spelled_word call_id_at
unfolding call_id_at
call_id_reads = tested_reads spelled_word word_at is_word word_reads

rest_reads : Reads (λ text. are_bytes text ≡ true) spelled_rest rest_at
rest_reads = record { took = rest_took; again = rest_again }

pub reason_reads : Reads IsReason spelled_rest reason_at
unfolding reason_at
reason_reads = tested_reads spelled_rest rest_at is_reason rest_reads

uri_reads : Reads IsUri spelled_word uri_at
unfolding uri_at
uri_reads = tested_reads spelled_word word_at is_uri word_reads

pub same_text : (xs ys : List ℕ) → bytes_eq xs ys ≡ true → xs ≡ ys
same_text xs ys e = (bytes_eq-Decides xs ys).0 e

abbrev Any : Reliability → Type 0
Any reliability = Unit {0}

reliability_took : (field : List ℕ) (r : Reliability) → reliability_at field ≡ Some r
    → Any r × (field ≡ reliability_text r)
unfolding reliability_at
reliability_took field r e =
    let P : Reliability → Type 0 = λ y. Any y × (field ≡ reliability_text y) in
    elim (chosen (bytes_eq field (codes "plain")) (Some reliability.Plain)
    (cond (bytes_eq field (codes "reliable")) (Some reliability.Reliable) None) (Some r) e) [
      | inl a ↦ subst P (same_some reliability.Plain r a.1)
          (tt, same_text field (codes "plain") a.0)
      | inr a ↦ (let g = passed (bytes_eq field (codes "reliable")) reliability.Reliable r a.1 in
          subst P g.1 (tt, same_text field (codes "reliable") g.0))
    ]

reliability_again : (r : Reliability) → Any r → reliability_at (reliability_text r) ≡ Some r
unfolding reliability_at
reliability_again reliability.Plain fits = refl
reliability_again reliability.Reliable fits = refl

reliability_reads : Reads Any reliability_text reliability_at
reliability_reads = record { took = reliability_took; again = reliability_again }

reliability_no : (r : Reliability) → has_no 32 (reliability_text r) ≡ true
reliability_no reliability.Plain = refl
reliability_no reliability.Reliable = refl

-- ---- a tag, a method, the support of an INVITE

method_took : (field text : List ℕ) → method_at field ≡ Some text → IsMethod text × (field ≡ text)
unfolding method_at
method_took field text e =
    let g = passed (is_token field) field text e in
    let P : List ℕ → Type 0 = λ y. IsMethod y × (field ≡ y) in
    subst P g.1 (g.0, refl)

-- a byte that no token has doesn't occur in a method
pub no_method : (at : ℕ) (text : List ℕ) → is_token_byte at ≡ false → IsMethod text
    → has_no at text ≡ true
unfolding is_token
no_method at [] fails fits = refl
no_method at (b ∷ bs) fails fits = none_passing is_token_byte at (b ∷ bs) fails fits

method_again : (text : List ℕ) → IsMethod text → method_at text ≡ Some text
unfolding method_at
method_again text fits = ap (λ r. cond r (Some text) None) fits

-- a tag, given as a text
abbrev pub tag_text : Option (List ℕ) → List ℕ
tag_text tag = unwrap_or tag []

tag_of_took : (text : List ℕ) (tag : Option (List ℕ)) → are_bytes text ≡ true
    → tag_of text ≡ Some tag → IsTag tag × (text ≡ tag_text tag)
tag_of_took text tag bytes e =
    let P : Option (List ℕ) → Type 0 = λ y. IsTag y × (text ≡ tag_text y) in
    elim (chosen (eqb (length text) 0) (Some None) (cond (is_token text) (Some (Some text)) None)
    (Some tag) e) [
      | inl a ↦ subst P (same_some None tag a.1)
          (tt, nil_from_length text (eqb-true (length text) 0 a.0))
      | inr a ↦ (let g = passed (is_token text) (Some text) tag a.1 in
          subst P g.1 ((bytes, g.0), refl))
    ]

tag_took : (field : List ℕ) (tag : Option (List ℕ)) → tag_at field ≡ Some tag
    → IsTag tag × (field ≡ spelled_word (tag_text tag))
unfolding tag_at
tag_took field tag e =
    let w = bind_some (word_at field) tag_of tag e in
    let word = word_took field w.0 w.1 in
    let t = tag_of_took w.0 tag word.0 w.2 in
    (t.0, word.1 ∙ ap spelled_word t.1)

some_long : (text : List ℕ) → is_token text ≡ true → eqb (length text) 0 ≡ false
unfolding is_token
some_long [] token = absurd (false≢true token)
some_long (b ∷ bs) token = ne_eqb (length (b ∷ bs)) 0 (λ e. omega (arith, e))

tag_of_again : (tag : Option (List ℕ)) → IsTag tag → tag_of (tag_text tag) ≡ Some tag
tag_of_again None fits = refl
tag_of_again (Some text) fits =
    ap (λ b. cond b (Some None) (cond (is_token text) (Some (Some text)) None))
    (some_long text fits.1)
    ∙ ap (λ b. cond b (Some (Some text)) None) fits.1

tag_bytes : (tag : Option (List ℕ)) → IsTag tag → are_bytes (tag_text tag) ≡ true
tag_bytes None fits = refl
tag_bytes (Some text) fits = fits.0

tag_again : (tag : Option (List ℕ)) → IsTag tag → tag_at (spelled_word (tag_text tag)) ≡ Some tag
unfolding tag_at
tag_again tag fits =
    ap (λ o. o >>= tag_of) (word_again (tag_text tag) (tag_bytes tag fits)) ∙ tag_of_again tag fits

abbrev AnySupport : ProvisionalSupport → Type 0
AnySupport s = Unit {0}

support_took : (field : List ℕ) (r : ProvisionalSupport) → support_at field ≡ Some r
    → AnySupport r × (field ≡ support_text r)
unfolding support_at
support_took field r e =
    let P : ProvisionalSupport → Type 0 = λ y. AnySupport y × (field ≡ support_text y) in
    elim (chosen (bytes_eq field (codes "none")) (Some support.None)
    (cond (bytes_eq field (codes "supported")) (Some support.Supported)
    (cond (bytes_eq field (codes "required")) (Some support.Required) None)) (Some r) e) [
      | inl a ↦ subst P (same_some support.None r a.1) (tt, same_text field (codes "none") a.0)
      | inr a ↦ elim (chosen (bytes_eq field (codes "supported")) (Some support.Supported)
          (cond (bytes_eq field (codes "required")) (Some support.Required) None) (Some r) a.1) [
            | inl b ↦ subst P (same_some support.Supported r b.1)
                (tt, same_text field (codes "supported") b.0)
            | inr b ↦ (let g = passed (bytes_eq field (codes "required")) support.Required r b.1 in
                subst P g.1 (tt, same_text field (codes "required") g.0))
          ]
    ]

support_again : (r : ProvisionalSupport) → AnySupport r → support_at (support_text r) ≡ Some r
unfolding support_at
support_again support.None fits = refl
support_again support.Supported fits = refl
support_again support.Required fits = refl

support_no : (r : ProvisionalSupport) → has_no 32 (support_text r) ≡ true
support_no support.None = refl
support_no support.Supported = refl
support_no support.Required = refl

-- ---- parts at the front

pub call_id_front : ReadsFront IsCallIdWord spelled_word (field_at 32 call_id_at)
call_id_front = field_front IsCallIdWord spelled_word call_id_at call_id_reads
    (λ text fits. word_no 32 text (omega arith) refl)

pub word_front : ReadsFront (λ text. are_bytes text ≡ true) spelled_word (field_at 32 word_at)
word_front = field_front (λ text. are_bytes text ≡ true) spelled_word word_at word_reads
    (λ text fits. word_no 32 text (omega arith) refl)

uri_front : ReadsFront IsUri spelled_word (field_at 32 uri_at)
uri_front = field_front IsUri spelled_word uri_at uri_reads
    (λ text fits. word_no 32 text (omega arith) refl)

pub tag_reads : Reads IsTag (λ tag. spelled_word (tag_text tag)) tag_at
tag_reads = record { took = tag_took; again = tag_again }

pub tag_front : ReadsFront IsTag (λ tag. spelled_word (tag_text tag)) (field_at 32 tag_at)
tag_front = field_front IsTag (λ tag. spelled_word (tag_text tag)) tag_at tag_reads
    (λ tag fits. word_no 32 (tag_text tag) (omega arith) refl)

pub method_reads : Reads IsMethod (λ text. text) method_at
method_reads = record { took = method_took; again = method_again }

pub method_front : ReadsFront IsMethod (λ text. text) (field_at 32 method_at)
method_front = field_front IsMethod (λ text. text) method_at method_reads
    (λ text fits. no_method 32 text (unfold is_token_byte in refl) fits)

pub address_front : ReadsFront IsAddr addr_text (field_at 32 address_at)
address_front = field_front IsAddr addr_text address_at address_reads
    (λ address fits. address_no 32 address refl refl refl fits)

pub support_front : ReadsFront AnySupport support_text (field_at 32 support_at)
support_front = field_front AnySupport support_text support_at
    (record { took = support_took; again = support_again }) (λ support fits. support_no support)

pub id_front : ReadsFront IsId id_text (field_at 32 id_at)
id_front = field_front IsId id_text id_at id_reads (λ id fits. id_no 32 id refl refl fits)

pub status_front : ReadsFront (λ n. n ≤ 999) decimal (field_at 32 (number_at 999))
status_front = field_front (λ n. n ≤ 999) decimal (number_at 999) (number_reads 999 (omega arith))
    (λ n fits. number_has_no 32 n refl (omega (arith, fits)))

pub port_front : ReadsFront (λ n. n ≤ 65535) decimal (field_at 32 (number_at 65535))
port_front = field_front (λ n. n ≤ 65535) decimal (number_at 65535)
    (number_reads 65535 (omega arith)) (λ n fits. number_has_no 32 n refl (omega (arith, fits)))

pub reliability_front : ReadsFront Any reliability_text (field_at 32 reliability_at)
reliability_front =
    field_front Any reliability_text reliability_at reliability_reads (λ r fits. reliability_no r)

abbrev FitUris : Uris → Type 0
FitUris uris = (IsUri uris.request_uri × IsUri uris.from) × IsUri uris.to

abbrev pub uris_text : Uris → List ℕ
uris_text uris =
    (spelled_word uris.request_uri ++ 32 ∷ spelled_word uris.from) ++ 32 ∷ spelled_word uris.to

pub uris_front : ReadsFront FitUris uris_text uris_at
unfolding uris_at
uris_front =
    made_front uris_of (λ uris. ((uris.request_uri, uris.from), uris.to)) (λ uris. refl)
    (λ read. refl)
    (both_front (both_front uri_front uri_front) uri_front)

abbrev FitDialog : Dialog → Type 0
FitDialog dialog = (IsCallIdWord dialog.call_id × IsTag dialog.local_tag) × IsTag dialog.remote_tag

abbrev pub dialog_text : Dialog → List ℕ
dialog_text dialog = (spelled_word dialog.call_id ++ 32 ∷ spelled_word (tag_text dialog.local_tag))
    ++ 32 ∷ spelled_word (tag_text dialog.remote_tag)

pub dialog_front : ReadsFront FitDialog dialog_text dialog_at
unfolding dialog_at
dialog_front =
    made_front dialog_read (λ dialog. ((dialog.call_id, dialog.local_tag), dialog.remote_tag))
    (λ dialog. refl) (λ read. refl)
    (both_front (both_front call_id_front tag_front) tag_front)
