-- Header lines: what is read from one is what it says.
use Rattle.std.proofs.Common.{◌≡◌, ◌⊎◌, inl, inr, ℕ, Bool, true, false, cond, List, [], ◌∷◌, ◌++◌, Option, Some, None, refl, sym, ap, subst, ◌∙◌, MatchOption, IsSomeAnd}
use Rattle.std.specs.Option.{option_map, option_to_list}
use Rattle.sip_text.proofs.Options.{same_some}
use Rattle.sip_text.proofs.ReadForms.{Reads}
use Rattle.sip_grammar.specs.HeaderEntry.{header_named}
use Rattle.sip_grammar.specs.HeaderValue.{is_header_value}
use Rattle.sip_grammar.specs.OtherName.{is_other_name}
use Rattle.sip_grammar.specs.declared.header_name.HeaderName.{HeaderName}
use Rattle.sip_grammar.specs.declared.header_name.HeaderName.TheVariants as name
use Rattle.sip_message.specs.declared.header.Header.{Header}
use Rattle.sip_header_values.specs.Address.{AreNameAddrs, name_addrs_from}
use Rattle.sip_header_values.specs.Sequence.{AreTokens, tokens_from}
use Rattle.sip_header_values.proofs.Rows.{name_addrs_reads, tokens_reads}
use Rattle.sip_headers.specs.HeaderFields.{no_header_fields, with_value, with_class, with_line, long_name, other_from}
use Rattle.sip_headers.specs.Slot.{listed}
use Rattle.sip_headers.specs.HeaderLine.{Class, bad, known, other, IsHeaderLine, class_by_name, class_by_parts, class_from, line_from}
use Rattle.sip_headers.specs.Headers.{IsOther}
use Rattle.sip_headers.proofs.NamedLines.{line_reads}
use Rattle.sip_files.specs.declared.given_header.GivenHeader.{GivenHeader}
use Rattle.sip_files.specs.declared.given_header.GivenHeader.TheVariants as given
use Rattle.sip_files.specs.Given.{IsLineOf, IsGiven, value_given, other_given, class_given, given_at}
use Rattle.sip_files.proofs.CommandLines.{mapped}

-- ---- what is read

module _ (text : List ℕ) (parts : List ℕ × List ℕ) (is_line : IsHeaderLine parts text)
    (header : GivenHeader) where
  form_took : {X : Type 0} (name : HeaderName) (make : X → GivenHeader) (f : List ℕ → Option X)
      (P : X → List ℕ → Type 0) → Reads (List ℕ) X f P
      → ((x : X) → IsLineOf name P x text → IsGiven (make x) text)
      → header_named parts.0 ≡ Some name → option_map make (f parts.1) ≡ Some header
      → IsGiven header text
  form_took name make f P reads is named e =
      let x = mapped make (f parts.1) header e in
      subst (λ (h : GivenHeader). IsGiven h text) x.2 (is x.0 (record {
        parts = parts;
        is_line = is_line;
        named = named;
        form = reads.takes parts.1 x.0 x.1;
      }))

  value_took : (named : HeaderName) → header_named parts.0 ≡ Some named
      → value_given named parts.1 ≡ Some header → IsGiven header text
  value_took name.Via is e = absurd cc
  value_took name.MaxForwards is e = absurd cc
  value_took name.From is e = absurd cc
  value_took name.To is e = absurd cc
  value_took name.CallId is e = absurd cc
  value_took name.CSeq is e = absurd cc
  value_took name.Contact is e =
      form_took name.Contact given.Contact name_addrs_from AreNameAddrs name_addrs_reads
      (λ x l. l) is e
  value_took name.RecordRoute is e = absurd cc
  value_took name.Route is e =
      form_took name.Route given.Route name_addrs_from AreNameAddrs name_addrs_reads (λ x l. l) is
      e
  value_took name.Require is e =
      form_took name.Require given.Require tokens_from AreTokens tokens_reads (λ x l. l) is e
  value_took name.Supported is e =
      form_took name.Supported given.Supported tokens_from AreTokens tokens_reads (λ x l. l) is e
  value_took name.RSeq is e = absurd cc
  value_took name.RAck is e = absurd cc
  value_took name.ContentLength is e = absurd cc

  abbrev kept : Header
  kept = record { name = long_name parts.0; value = parts.1 }

  other_by : (good_name good_value : Bool) → is_other_name (long_name parts.0) ≡ good_name
      → is_header_value parts.1 ≡ good_value → header_named parts.0 ≡ None
      → other_given (cond good_name (cond good_value (Some (kept ∷ [])) None) None) ≡ Some header
      → IsGiven header text
  other_by true true p q is e =
      subst (λ (h : GivenHeader). IsGiven h text) (same_some (given.Other kept) header e) (record {
        parts = parts;
        is_line = is_line;
        named = is;
        kept = record { name_is = refl; value_is = refl; good_name = p; good_value = q };
      })
  other_by true false p q is e = absurd cc
  other_by false good_value p q is e = absurd cc

  named_took : (o : Option HeaderName) → header_named parts.0 ≡ o
      → class_given (class_by_name parts.0 parts.1 o) ≡ Some header → IsGiven header text
  named_took None is e =
      other_by (is_other_name (long_name parts.0)) (is_header_value parts.1) refl refl is e
  named_took (Some named) is e = value_took named is e

parts_took : (text : List ℕ) (o : Option (List ℕ × List ℕ)) (header : GivenHeader)
    → line_from text ≡ o → class_given (class_by_parts o) ≡ Some header → IsGiven header text
parts_took text None header is e = absurd cc
parts_took text (Some parts) header is e =
    named_took text parts (line_reads.takes text parts is) header (header_named parts.0) refl e

pub given_took : (text : List ℕ) (header : GivenHeader) → given_at text ≡ Some header
    → IsGiven header text
given_took text header e = parts_took text (line_from text) header refl e

-- ---- what a line says

-- the line is cut in the same way, and its name is looked up
cut_as : (text : List ℕ) (parts : List ℕ × List ℕ) (named : Option HeaderName)
    → IsHeaderLine parts text → header_named parts.0 ≡ named
    → given_at text ≡ class_given (class_by_name parts.0 parts.1 named)
cut_as text parts named is_line is =
    ap (λ o. class_given (class_by_parts o)) (line_reads.again text parts is_line)
    ∙ ap (λ o. class_given (class_by_name parts.0 parts.1 o)) is

other_again : (header : Header) (parts : List ℕ × List ℕ) → IsOther header parts
    → other_given (other_from parts.0 parts.1) ≡ Some (given.Other header)
other_again header parts k =
    let one : Header = record { name = long_name parts.0; value = parts.1 } in
    let named : is_other_name (long_name parts.0) ≡ true =
    ap is_other_name (sym k.name_is) ∙ k.good_name in
    let valued : is_header_value parts.1 ≡ true =
    ap is_header_value (sym k.value_is) ∙ k.good_value in
    ap (λ r. other_given (cond r (cond (is_header_value parts.1) (Some (one ∷ [])) None) None))
    named
    ∙ ap (λ r. other_given (cond r (Some (one ∷ [])) None)) valued
    ∙ ap (λ (n : List ℕ). Some (given.Other (record { name = n; value = parts.1 }))) (sym k.name_is)
    ∙ ap (λ (v : List ℕ). Some (given.Other (record { name = header.name; value = v })))
    (sym k.value_is)

pub given_again : (text : List ℕ) (header : GivenHeader) → IsGiven header text
    → given_at text ≡ Some header
given_again text (given.Contact addresses) l =
    cut_as text l.parts (Some name.Contact) l.is_line l.named
    ∙ ap (option_map given.Contact) (name_addrs_reads.again (l.parts).1 addresses l.form)
given_again text (given.Route addresses) l =
    cut_as text l.parts (Some name.Route) l.is_line l.named
    ∙ ap (option_map given.Route) (name_addrs_reads.again (l.parts).1 addresses l.form)
given_again text (given.Supported tokens) l =
    cut_as text l.parts (Some name.Supported) l.is_line l.named
    ∙ ap (option_map given.Supported) (tokens_reads.again (l.parts).1 tokens l.form)
given_again text (given.Require tokens) l =
    cut_as text l.parts (Some name.Require) l.is_line l.named
    ∙ ap (option_map given.Require) (tokens_reads.again (l.parts).1 tokens l.form)
given_again text (given.Other header) l =
    cut_as text l.parts None l.is_line l.named ∙ other_again header l.parts l.kept

-- ---- the other header of a line, taken out of a draft

-- one line adds at most one such header to a draft
abbrev Few : List Header → Type 0
Few others = (others ≡ []) ⊎ ((header : Header) × (others ≡ header ∷ []))

few_others : (good_name good_value : Bool) (header : Header) (others : List Header)
    → listed (Some []) (cond good_name (cond good_value (Some (header ∷ [])) None) None)
    ≡ Some others → Few others
few_others true true header others e = inr (header, sym (same_some (header ∷ []) others e))
few_others true false header others e = absurd cc
few_others false good_value header others e = absurd cc

no_others : (others : List Header) → ◌≡◌ {A = Option (List Header)} (Some []) (Some others)
    → Few others
no_others others e = inl (sym (same_some [] others e))

few_of_value : (header : HeaderName) (value : List ℕ) (others : List Header)
    → (with_value no_header_fields header value).others ≡ Some others → Few others
few_of_value name.Via value others e = no_others others e
few_of_value name.MaxForwards value others e = no_others others e
few_of_value name.From value others e = no_others others e
few_of_value name.To value others e = no_others others e
few_of_value name.CallId value others e = no_others others e
few_of_value name.CSeq value others e = no_others others e
few_of_value name.Contact value others e = no_others others e
few_of_value name.RecordRoute value others e = no_others others e
few_of_value name.Route value others e = no_others others e
few_of_value name.Require value others e = no_others others e
few_of_value name.Supported value others e = no_others others e
few_of_value name.RSeq value others e = no_others others e
few_of_value name.RAck value others e = no_others others e
few_of_value name.ContentLength value others e = no_others others e

few_of_class : (class : Class) (others : List Header)
    → (with_class no_header_fields class).others ≡ Some others → Few others
few_of_class bad others e = no_others others e
few_of_class (known header value) others e = few_of_value header value others e
few_of_class (other name value) others e =
    few_others (is_other_name (long_name name)) (is_header_value value)
    (record { name = long_name name; value = value }) others e

not_last : (left : List Header) (x : Header) → [] ≡ left ++ x ∷ [] → ⊥
not_last [] x e = absurd cc
not_last (y ∷ left) x e = absurd cc

same_last : (left : List Header) (x y : Header) → y ∷ [] ≡ left ++ x ∷ [] → y ≡ x
same_last [] x y e = cc
same_last (z ∷ []) x y e = absurd cc
same_last (z ∷ w ∷ left) x y e = absurd cc

-- of so few, the last is also the first
last_by : (others left : List Header) (last : Option Header) → Few others
    → others ≡ left ++ option_to_list last → (last ≡ None → others ≡ [])
    → option_map given.Other last ≡ other_given (Some others)
last_by others left None few parts none =
    ap (λ (hs : List Header). other_given (Some hs)) (sym (none refl))
last_by others left (Some x) (inl empty) parts none =
    absurd (not_last left x (sym empty ∙ parts))
last_by others left (Some x) (inr one) parts none =
    ap (λ h. Some (given.Other h)) (sym (same_last left x one.0 (sym one.1 ∙ parts)))
    ∙ ap (λ (hs : List Header). other_given (Some hs)) (sym one.1)

-- what the last other header of a draft gives, if it has one after one line
pub last_given : (text : List ℕ) (others left : List Header) (last : Option Header)
    (made : Option GivenHeader) → (with_line no_header_fields text).others ≡ Some others
    → others ≡ left ++ option_to_list last → (last ≡ None → others ≡ [])
    → MatchOption last (made ≡ None) (λ x. IsSomeAnd made (λ y. y ≡ given.Other x))
    → made ≡ other_given (with_line no_header_fields text).others
last_given text others left last made is parts none maps =
    made_of last made maps
    ∙ last_by others left last (few_of_class (class_from text) others is) parts none
    ∙ ap other_given (sym is)
  where
    made_of : (o : Option Header) (r : Option GivenHeader)
        → MatchOption o (r ≡ None) (λ x. IsSomeAnd r (λ y. y ≡ given.Other x))
        → r ≡ option_map given.Other o
    made_of None r e = e
    made_of (Some x) (Some y) e = ap (λ z. Some z) e
    made_of (Some x) None e = absurd e
