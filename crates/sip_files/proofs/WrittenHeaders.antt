-- The header lines that are written spell the headers, and give the command its content again.
use Rattle.std.proofs.Common.{◌≡◌, ℕ, true, false, cond, not, ◌||◌, is_some, List, [], ◌∷◌, ◌++◌, map, codes, Option, Some, None, refl, sym, ap, subst, ◌∙◌, append_assoc, append-nil}
use Rattle.std.specs.Prelude.{option_and_then}
use Rattle.std.specs.List.{flat_map, AllByRecursion}
use Rattle.std.specs.Option.{option_map}
use Rattle.std.specs.Str.{str_eq_ignore_ascii_case}
use Rattle.std.proofs.lemmas.Bool.{and_from, and_parts, or_parts, not-true}
use Rattle.std.proofs.lemmas.List.Concat.{flat_map-append}
use Rattle.std.proofs.lemmas.List.Folds.{list_all-append}
use Rattle.sip_text.specs.Character.{is_token_byte}
use Rattle.sip_text.specs.Forms.{by_cut, both, told, passing, reading_of}
use Rattle.sip_text.specs.Token.{is_token}
use Rattle.sip_text.specs.Trimmed.{trimmed, trimmed_end}
use Rattle.sip_text.specs.declared.separator.Separator.TheVariants.{Byte}
use Rattle.sip_grammar.specs.HeaderEntry.{header_named, is_named}
use Rattle.sip_grammar.specs.HeaderValue.{has_no_line_byte}
use Rattle.sip_grammar.specs.OtherName.{is_compact_name, is_other_name}
use Rattle.sip_grammar.specs.declared.header_name.HeaderName.{HeaderName}
use Rattle.sip_message.specs.Content.{Content}
use Rattle.sip_message.specs.declared.header.Header.{Header}
use Rattle.sip_message.specs.declared.name_addr.NameAddr.{NameAddr}
use Rattle.sip_message.specs.Wildcard.{is_wildcard}
use Rattle.sip_message.specs.Written.{address_text, contact_text}
use Rattle.sip_header_values.specs.Sequence.{tokens_from}
use Rattle.sip_grammar.proofs.Passing.{cut_here, token_passes}
use Rattle.sip_grammar.proofs.Pieces.{by_bool}
use Rattle.sip_header_values.proofs.Rows.{name_addrs_reads, tokens_reads}
use Rattle.sip_grammar.proofs.WrittenBytes.{solid_end, token_solid, header_value_kept, header_value_plain}
use Rattle.sip_headers.specs.HeaderFields.{long_name}
use Rattle.sip_headers.specs.HeaderLine.{IsHeaderLine, line_from}
use Rattle.sip_headers.proofs.NamedLines.{line_reads}
use Rattle.sip_grammar.proofs.TextEnds.{Good, Again, moved}
use Rattle.sip_headers.proofs.WrittenAddresses.{contact_again, name_addr_again}
use Rattle.sip_headers.proofs.WrittenTokens.{tokens_again}
use Rattle.sip_files.specs.declared.event_line.EventLine.TheVariants as line
use Rattle.sip_files.specs.declared.version.Version.TheVariants.{SessionOne}
use Rattle.sip_files.specs.declared.given_header.GivenHeader.{GivenHeader}
use Rattle.sip_files.specs.declared.given_header.GivenHeader.TheVariants as given
use Rattle.sip_files.specs.Word.{are_bytes}
use Rattle.sip_files.specs.Events.{SpellsLine}
use Rattle.sip_files.specs.Given.{contacts_in, routes_in, supported_in, require_in, others_in, gathered}
use Rattle.sip_files.specs.Written.{header_text, address_value, given_text, line_text, header_line, contact_line, address_line, other_line, content_lines, by_header, IsAddressValue, IsOptionTag, IsKeptHeader, AreHeaders}
use Rattle.sip_files.proofs.WrittenLaws.{Spelled, text_of}

-- ---- one header line

no_colon : is_token_byte 58 ≡ false
unfolding is_token_byte
no_colon = refl

abbrev line_of : List ℕ → List ℕ → List ℕ
line_of name value = name ++ (58 ∷ (32 ∷ value))

line_is : (name value : List ℕ) → is_token name ≡ true → Good value
    → line_from (line_of name value) ≡ Some (name, value)
line_is name value token good =
    ap (λ o. by_cut o
    (both (reading_of (passing is_token) trimmed_end) (told trimmed (passing has_no_line_byte)))
    None) (cut_here (Byte 58) name 58 (32 ∷ value) (token_passes 58 no_colon name token) refl)
    ∙ ap (λ (xs : List ℕ). option_and_then (λ x. option_and_then (λ y. Some (x, y))
    (option_map trimmed (cond (has_no_line_byte value) (Some (32 ∷ value)) None)))
    (cond (is_token xs) (Some xs) None)) (solid_end name (token_solid name token))
    ∙ ap (λ r. option_and_then (λ x. option_and_then (λ y. Some (x, y))
    (option_map trimmed (cond (has_no_line_byte value) (Some (32 ∷ value)) None)))
    (cond r (Some name) None)) token
    ∙ ap (λ r. option_and_then (λ y. Some (name, y))
    (option_map trimmed (cond r (Some (32 ∷ value)) None))) good.plain
    ∙ ap (λ (xs : List ℕ). Some (name, xs)) good.kept

text_is_line : (name value : List ℕ) → is_token name ≡ true → Good value
    → IsHeaderLine (name, value) (header_text name value)
text_is_line name value token good =
    subst (λ (t : List ℕ). IsHeaderLine (name, value) t)
    (sym (append_assoc name (58 ∷ (32 ∷ [])) value))
    (line_reads.takes (line_of name value) (name, value) (line_is name value token good))

text_bytes : (name value : List ℕ) → are_bytes name ≡ true → are_bytes value ≡ true
    → are_bytes (header_text name value) ≡ true
text_bytes name value p q =
    list_all-append _ (name ++ (58 ∷ (32 ∷ []))) value
    ∙ and_from _ _ (list_all-append _ name (58 ∷ (32 ∷ [])) ∙ and_from _ _ p refl) q

-- ---- the header lines of a command

abbrev SpelledHeader : GivenHeader → Type 0
SpelledHeader header = SpellsLine SessionOne (line_text (line.Header header)) (line.Header header)

-- `*` is one byte
contact_bytes : (a : NameAddr) → are_bytes (address_value a) ≡ true
    → are_bytes (contact_text a) ≡ true
unfolding contact_text
contact_bytes a is =
    by_bool (is_wildcard a)
    (λ r. are_bytes (cond r (codes "*") (address_text a.display a.uri a.parameters)) ≡ true)
    (λ t. refl) (λ f. is)

contact_spelled : (a : NameAddr) → IsAddressValue a → SpelledHeader (given.Contact (a ∷ []))
unfolding is_named is_token is_token_byte
contact_spelled a fits =
    let again = contact_again a fits.0 in
    record {
      header_line = given_text (given.Contact (a ∷ []));
      bytes = text_bytes (codes "Contact") (contact_text a) refl (contact_bytes a fits.1);
      given = record {
        parts = (codes "Contact", contact_text a);
        is_line = text_is_line (codes "Contact") (contact_text a) refl again.good;
        named = refl;
        form = name_addrs_reads.takes (contact_text a) (a ∷ []) again.read;
      };
      spelled = refl;
    }

route_spelled : (a : NameAddr) → IsAddressValue a → SpelledHeader (given.Route (a ∷ []))
unfolding is_named is_token is_token_byte
route_spelled a fits =
    let again = name_addr_again a fits.0 in
    record {
      header_line = given_text (given.Route (a ∷ []));
      bytes = text_bytes (codes "Route") (address_value a) refl fits.1;
      given = record {
        parts = (codes "Route", address_value a);
        is_line = text_is_line (codes "Route") (address_value a) refl again.good;
        named = refl;
        form = name_addrs_reads.takes (address_value a) (a ∷ []) again.read;
      };
      spelled = refl;
    }

tag_again : (token : List ℕ) → is_token token ≡ true → Again tokens_from (token ∷ []) token
tag_again token is = moved (sym (append-nil token)) (tokens_again token [] is tt)

require_spelled : (t : List ℕ) → IsOptionTag t → SpelledHeader (given.Require (t ∷ []))
unfolding is_named is_token is_token_byte
require_spelled t fits =
    let again = tag_again t fits.0 in
    record {
      header_line = given_text (given.Require (t ∷ []));
      bytes = text_bytes (codes "Require") t refl fits.1;
      given = record {
        parts = (codes "Require", t);
        is_line = text_is_line (codes "Require") t refl again.good;
        named = refl;
        form = tokens_reads.takes t (t ∷ []) again.read;
      };
      spelled = refl;
    }

supported_spelled : (t : List ℕ) → IsOptionTag t → SpelledHeader (given.Supported (t ∷ []))
unfolding is_named is_token is_token_byte
supported_spelled t fits =
    let again = tag_again t fits.0 in
    record {
      header_line = given_text (given.Supported (t ∷ []));
      bytes = text_bytes (codes "Supported") t refl fits.1;
      given = record {
        parts = (codes "Supported", t);
        is_line = text_is_line (codes "Supported") t refl again.good;
        named = refl;
        form = tokens_reads.takes t (t ∷ []) again.read;
      };
      spelled = refl;
    }

no_header : (o : Option HeaderName) → is_some o ≡ false → o ≡ None
no_header None e = refl
no_header (Some h) e = absurd cc

-- the name of a header that stays as it stands is its own long name
record IsOwn (name : List ℕ) : Type 0 where
  token : is_token name ≡ true
  unknown : header_named name ≡ None
  long : name ≡ long_name name

own_name : (name : List ℕ) → is_other_name name ≡ true → IsOwn name
unfolding is_other_name is_compact_name long_name
own_name name is =
    let parts = and_parts (is_token name)
    (not (is_some (header_named name) || is_compact_name name)) is in
    let neither = or_parts (is_some (header_named name)) (is_compact_name name)
    (not-true (is_some (header_named name) || is_compact_name name) parts.1) in
    let first = or_parts (str_eq_ignore_ascii_case name (codes "c"))
    (str_eq_ignore_ascii_case name (codes "s") || str_eq_ignore_ascii_case name (codes "e"))
    neither.1 in
    let others = or_parts (str_eq_ignore_ascii_case name (codes "s"))
    (str_eq_ignore_ascii_case name (codes "e")) first.1 in
    record {
      token = parts.0;
      unknown = no_header (header_named name) neither.0;
      long = rw (first.0, others.0, others.1) refl;
    }

pub other_spelled : (h : Header) → IsKeptHeader h → SpelledHeader (given.Other h)
other_spelled h fits =
    let own = own_name h.name (fits.0).name in
    let good : Good h.value = record {
      kept = header_value_kept h.value (fits.0).value;
      plain = header_value_plain h.value (fits.0).value;
    } in
    record {
      header_line = header_text h.name h.value;
      bytes = text_bytes h.name h.value fits.1 fits.2;
      given = record {
        parts = (h.name, h.value);
        is_line = text_is_line h.name h.value own.token good;
        named = own.unknown;
        kept = record {
          name_is = own.long;
          value_is = refl;
          good_name = (fits.0).name;
          good_value = (fits.0).value;
        };
      };
      spelled = refl;
    }

abbrev contact_of : NameAddr → GivenHeader
contact_of a = given.Contact (a ∷ [])

abbrev route_of : NameAddr → GivenHeader
route_of a = given.Route (a ∷ [])

abbrev require_of : List ℕ → GivenHeader
require_of t = given.Require (t ∷ [])

abbrev supported_of : List ℕ → GivenHeader
supported_of t = given.Supported (t ∷ [])

-- the headers that are written for routes and a content
abbrev pub headers_with : List NameAddr → Content → List GivenHeader
headers_with routes content =
    (((map contact_of content.contacts ++ map route_of routes)
    ++ map require_of content.require) ++ map supported_of content.supported)
    ++ map given.Other content.others

each_spelled : {A : Type 0} (make : A → GivenHeader) (Fits : A → Type 0)
    → ((x : A) → Fits x → SpelledHeader (make x)) → (xs : List A) → AllByRecursion Fits xs
    → Spelled SessionOne (map line.Header (map make xs))
each_spelled make Fits one [] fits = tt
each_spelled make Fits one (x ∷ xs) fits =
    (one x fits.0, each_spelled make Fits one xs fits.1)

spelled_both : (xs ys : List GivenHeader) → Spelled SessionOne (map line.Header xs)
    → Spelled SessionOne (map line.Header ys) → Spelled SessionOne (map line.Header (xs ++ ys))
spelled_both [] ys none more = more
spelled_both (x ∷ xs) ys some more = (some.0, spelled_both xs ys some.1 more)

pub headers_spelled : (routes : List NameAddr) (content : Content)
    → AreHeaders (by_header routes content)
    → Spelled SessionOne (map line.Header (headers_with routes content))
headers_spelled routes content fits =
    let a = map contact_of content.contacts in
    let b = map route_of routes in
    let c = map require_of content.require in
    let d = map supported_of content.supported in
    let e = map given.Other content.others in
    spelled_both (((a ++ b) ++ c) ++ d) e
    (spelled_both ((a ++ b) ++ c) d
    (spelled_both (a ++ b) c
    (spelled_both a b
    (each_spelled contact_of IsAddressValue contact_spelled content.contacts fits.contacts)
    (each_spelled route_of IsAddressValue route_spelled routes fits.routes))
    (each_spelled require_of IsOptionTag require_spelled content.require fits.require))
    (each_spelled supported_of IsOptionTag supported_spelled content.supported fits.supported))
    (each_spelled given.Other IsKeptHeader other_spelled content.others fits.others)

-- ---- their text

abbrev headers_text : List GivenHeader → List ℕ
headers_text headers = text_of (map line.Header headers)

text_both : (xs ys : List GivenHeader) → headers_text (xs ++ ys)
    ≡ headers_text xs ++ headers_text ys
text_both [] ys = refl
text_both (x ∷ xs) ys =
    ap (λ (t : List ℕ). (line_text (line.Header x) ++ 10 ∷ []) ++ t) (text_both xs ys)
    ∙ sym (append_assoc (line_text (line.Header x) ++ 10 ∷ []) (headers_text xs)
    (headers_text ys))

each_text : {A : Type 0} (make : A → GivenHeader) (f : A → List ℕ)
    → ((x : A) → line_text (line.Header (make x)) ++ 10 ∷ [] ≡ f x) → (xs : List A)
    → headers_text (map make xs) ≡ flat_map f xs
each_text make f one [] = refl
each_text make f one (x ∷ xs) = λ i. one x i ++ each_text make f one xs i

pub headers_written : (routes : List NameAddr) (content : Content)
    → headers_text (headers_with routes content) ≡ content_lines routes content
unfolding content_lines header_line
headers_written routes content =
    let a = map contact_of content.contacts in
    let b = map route_of routes in
    let c = map require_of content.require in
    let d = map supported_of content.supported in
    let e = map given.Other content.others in
    text_both (((a ++ b) ++ c) ++ d) e
    ∙ ap (λ (t : List ℕ). t ++ headers_text e) (text_both ((a ++ b) ++ c) d
    ∙ ap (λ (t : List ℕ). t ++ headers_text d) (text_both (a ++ b) c
    ∙ ap (λ (t : List ℕ). t ++ headers_text c) (text_both a b)))
    ∙ (λ i. (((each_text contact_of contact_line (λ x. refl) content.contacts i
    ++ each_text route_of (address_line (codes "Route")) (λ x. refl) routes i)
    ++ each_text require_of (header_line (codes "Require")) (λ x. refl) content.require i)
    ++ each_text supported_of (header_line (codes "Supported")) (λ x. refl) content.supported i)
    ++ each_text given.Other other_line (λ x. refl) content.others i)

-- ---- the content that they give

-- the values of one kind of header, in lines with one value each
own : {A : Type 0} (f : GivenHeader → List A) (make : A → GivenHeader)
    → ((x : A) → f (make x) ≡ x ∷ []) → (xs : List A) → flat_map f (map make xs) ≡ xs
own f make one [] = refl
own f make one (x ∷ xs) = λ i. one x i ++ own f make one xs i

-- and those of another kind
foreign : {A B : Type 0} (f : GivenHeader → List A) (make : B → GivenHeader)
    → ((x : B) → f (make x) ≡ []) → (xs : List B) → flat_map f (map make xs) ≡ []
foreign f make none [] = refl
foreign f make none (x ∷ xs) = λ i. none x i ++ foreign f make none xs i

in_parts : {A : Type 0} (f : GivenHeader → List A) (a b c d e : List GivenHeader)
    → flat_map f ((((a ++ b) ++ c) ++ d) ++ e)
    ≡ (((flat_map f a ++ flat_map f b) ++ flat_map f c) ++ flat_map f d) ++ flat_map f e
in_parts f a b c d e =
    flat_map-append f (((a ++ b) ++ c) ++ d) e
    ∙ ap (λ t. t ++ flat_map f e) (flat_map-append f ((a ++ b) ++ c) d
    ∙ ap (λ t. t ++ flat_map f d) (flat_map-append f (a ++ b) c
    ∙ ap (λ t. t ++ flat_map f c) (flat_map-append f a b)))

module _ (routes : List NameAddr) (content : Content) where
  of_parts : {A : Type 0} (f : GivenHeader → List A) (a b c d e : List A)
      → flat_map f (map contact_of content.contacts) ≡ a
      → flat_map f (map route_of routes) ≡ b
      → flat_map f (map require_of content.require) ≡ c
      → flat_map f (map supported_of content.supported) ≡ d
      → flat_map f (map given.Other content.others) ≡ e
      → flat_map f (headers_with routes content) ≡ (((a ++ b) ++ c) ++ d) ++ e
  of_parts f a b c d e p q r s t =
      in_parts f (map contact_of content.contacts) (map route_of routes)
      (map require_of content.require) (map supported_of content.supported)
      (map given.Other content.others)
      ∙ (λ i. (((p i ++ q i) ++ r i) ++ s i) ++ t i)

  contacts_are : flat_map contacts_in (headers_with routes content) ≡ content.contacts
  contacts_are =
      of_parts contacts_in content.contacts [] [] [] []
      (own contacts_in contact_of (λ x. refl) content.contacts)
      (foreign contacts_in route_of (λ x. refl) routes)
      (foreign contacts_in require_of (λ x. refl) content.require)
      (foreign contacts_in supported_of (λ x. refl) content.supported)
      (foreign contacts_in given.Other (λ x. refl) content.others)
      ∙ append-nil _ ∙ append-nil _ ∙ append-nil _ ∙ append-nil _

  routes_are : flat_map routes_in (headers_with routes content) ≡ routes
  routes_are =
      of_parts routes_in [] routes [] [] []
      (foreign routes_in contact_of (λ x. refl) content.contacts)
      (own routes_in route_of (λ x. refl) routes)
      (foreign routes_in require_of (λ x. refl) content.require)
      (foreign routes_in supported_of (λ x. refl) content.supported)
      (foreign routes_in given.Other (λ x. refl) content.others)
      ∙ append-nil _ ∙ append-nil _ ∙ append-nil _

  require_is : flat_map require_in (headers_with routes content) ≡ content.require
  require_is =
      of_parts require_in [] [] content.require [] []
      (foreign require_in contact_of (λ x. refl) content.contacts)
      (foreign require_in route_of (λ x. refl) routes)
      (own require_in require_of (λ x. refl) content.require)
      (foreign require_in supported_of (λ x. refl) content.supported)
      (foreign require_in given.Other (λ x. refl) content.others)
      ∙ append-nil _ ∙ append-nil _

  supported_is : flat_map supported_in (headers_with routes content) ≡ content.supported
  supported_is =
      of_parts supported_in [] [] [] content.supported []
      (foreign supported_in contact_of (λ x. refl) content.contacts)
      (foreign supported_in route_of (λ x. refl) routes)
      (foreign supported_in require_of (λ x. refl) content.require)
      (own supported_in supported_of (λ x. refl) content.supported)
      (foreign supported_in given.Other (λ x. refl) content.others)
      ∙ append-nil _

  others_are : flat_map others_in (headers_with routes content) ≡ content.others
  others_are =
      of_parts others_in [] [] [] [] content.others
      (foreign others_in contact_of (λ x. refl) content.contacts)
      (foreign others_in route_of (λ x. refl) routes)
      (foreign others_in require_of (λ x. refl) content.require)
      (foreign others_in supported_of (λ x. refl) content.supported)
      (own others_in given.Other (λ x. refl) content.others)

  -- what the lines say together is what they were written for
  pub gathered_again : gathered (headers_with routes content) ≡ by_header routes content
  gathered_again = λ i. record {
    contacts = contacts_are i;
    routes = routes_are i;
    supported = supported_is i;
    require = require_is i;
    others = others_are i;
  }
