-- What the head of a text says is what its message says.
use Rattle.std.proofs.Common.{◌≡◌, ℕ, Bool, true, false, cond, List, [], ◌∷◌, drop, map, Option, Some, None, refl, sym, ap, subst, ◌∙◌}
use Rattle.std.specs.Prelude.{is_none}
use Rattle.std.specs.List.{AllZip, cons_option, filter, filter_map}
use Rattle.std.specs.Option.{option_map_or}
use Rattle.std.specs.Str.{str_eq_ignore_ascii_case}
use Rattle.sip_text.proofs.ReadForms.{only_one}
use Rattle.sip_grammar.specs.HeaderEntry.{entry, header_named, is_named}
use Rattle.sip_grammar.proofs.HeaderNames.{long_names}
use Rattle.sip_grammar.specs.declared.header_name.HeaderName.{HeaderName}
use Rattle.sip_message.specs.declared.header.Header.{Header}
use Rattle.sip_message.specs.declared.message.Message.{Message}
use Rattle.sip_headers.specs.HeaderFields.{long_name}
use Rattle.sip_headers.specs.HeaderLine.{IsHeaderLine}
use Rattle.sip_headers.specs.Headers.{AreRows, IsOther}
use Rattle.sip_headers.specs.Named.{is_same, others_in, values_of}
use Rattle.sip_headers.specs.Numbers.{headers_with}
use Rattle.sip_headers.proofs.NamedLines.{line_reads}
use Rattle.sip_headers.proofs.NamesApart.{named_by_table}
use Rattle.sip_reader.specs.Head.{BeginsWith, HasValues, IsFirst, OrNone, is_same_header, is_same_entry, value_under, first_of}
use Rattle.sip_reader.specs.Spells.{Spells}
use Rattle.sip_reader.specs.declared.first_line.FirstLine.{FirstLine}
use Rattle.sip_reader.proofs.Heads.{head_laid, one_or_none}
use Rattle.sip_reader.proofs.Making.{first_spelled}
use Rattle.sip_reader.proofs.StartLines.{start_reads}
use Rattle.sip_reader.proofs.WrittenLines.{own_name}

-- ---- the start line

pub first_said : (text : List ℕ) (m : Message) (first : Option (FirstLine (List ℕ)))
    → Spells m text → BeginsWith first text → first ≡ Some (first_of m.start m.cseq.method)
first_said text m first is begins =
    let says = first_of m.start m.cseq.method in
    one_or_none start_reads is.start first (Some says)
    (subst (λ (lines : List (List ℕ)). IsFirst first lines)
    (head_laid text is.start is.lines is.rest is.laid begins.0 begins.1) begins.2)
    (first_spelled m.start m.cseq.method is.start is.start_is)

-- ---- names and values of lines that are header lines

all_some : (named : List (List ℕ × List ℕ)) (found : List (Option (List ℕ × List ℕ)))
    (lines : List (List ℕ)) → AllZip IsHeaderLine named lines
    → AllZip (OrNone IsHeaderLine) found lines
    → found ≡ map (λ (parts : List ℕ × List ℕ). Some parts) named
all_some [] [] [] all is = refl
all_some (parts ∷ named) found [] all is = absurd all
all_some [] found (line ∷ lines) all is = absurd all
all_some [] (o ∷ found) [] all is = absurd is
all_some (parts ∷ named) [] (line ∷ lines) all is = absurd is
all_some (parts ∷ named) (None ∷ found) (line ∷ lines) all is = absurd (is.0 parts all.0)
all_some (parts ∷ named) (Some own ∷ found) (line ∷ lines) all is =
    ap (λ (p : List ℕ × List ℕ). Some p ∷ found) (only_one line_reads line own parts is.0 all.0)
    ∙ ap (λ (ps : List (Option (List ℕ × List ℕ))). Some parts ∷ ps)
    (all_some named found lines all.1 is.1)

-- the values of a header in lines that are header lines
abbrev under : List ℕ → List (List ℕ × List ℕ) → List (List ℕ)
under name named =
    filter_map (value_under name) (map (λ (parts : List ℕ × List ℕ). Some parts) named)

values_named : (text name : List ℕ) (m : Message) (values : List (List ℕ)) (is : Spells m text)
    → HasValues name values text → values ≡ under name is.headers_are.0
values_named text name m values is has =
    let head_is = head_laid text is.start is.lines is.rest is.laid has.1.lines has.1.head_is in
    has.2 ∙ ap (filter_map (value_under name))
    (all_some is.headers_are.0 has.0 is.lines is.headers_are.1
    (subst (λ (lines : List (List ℕ)). AllZip (OrNone IsHeaderLine) has.0 (drop 1 lines))
    head_is has.1.parts_are))

-- ---- a header outside of the table

-- the values of the headers of this name
abbrev pub values_like : List ℕ → List Header → List (List ℕ)
values_like name headers =
    map (λ header. header.value) (filter (λ header. is_same_header name header.name) headers)

kept_other : (b : Bool) (value : List ℕ) (rest : List (List ℕ)) (header : Header)
    (more : List Header) → header.value ≡ value → rest ≡ map (λ h. h.value) more
    → cons_option (cond b (Some value) None) rest
    ≡ map (λ h. h.value) (cond b (header ∷ more) more)
kept_other true value rest header more e f =
    ap (λ (v : List ℕ). v ∷ rest) (sym e) ∙ ap (λ (vs : List (List ℕ)). header.value ∷ vs) f
kept_other false value rest header more e f = f

same_test : (name own : List ℕ) (header : Header) → header_named name ≡ None
    → header.name ≡ long_name own → header_named header.name ≡ None
    → long_name header.name ≡ header.name
    → is_same_header name header.name
    ≡ str_eq_ignore_ascii_case (long_name own) (long_name name)
same_test name own header none named unknown long =
    let same = λ (n : List ℕ). str_eq_ignore_ascii_case n (long_name name) in
    ap (λ (o : Option HeaderName).
    is_same_entry o (header_named header.name) (same (long_name header.name))) none
    ∙ ap (λ (o : Option HeaderName). is_same_entry None o (same (long_name header.name))) unknown
    ∙ ap same (long ∙ named)

other_by : (name : List ℕ) (parts : List ℕ × List ℕ) (named : List (List ℕ × List ℕ))
    (headers : List Header) (o : Option HeaderName) → header_named name ≡ None
    → header_named parts.0 ≡ o
    → AllZip IsOther headers (cond (is_none o) (parts ∷ others_in named) (others_in named))
    → ((more : List Header) → AllZip IsOther more (others_in named)
    → under name named ≡ values_like name more)
    → cons_option
    (cond (is_same_entry None o (str_eq_ignore_ascii_case (long_name parts.0) (long_name name)))
    (Some parts.1) None) (under name named) ≡ values_like name headers
other_by name parts named headers (Some found) none e all more = more headers all
other_by name parts named [] None none e all more = absurd all
other_by name parts named (header ∷ headers) None none e all more =
    let own = own_name header.name all.0.good_name in
    let test = same_test name parts.0 header none all.0.name_is own.unknown own.long in
    kept_other (str_eq_ignore_ascii_case (long_name parts.0) (long_name name)) parts.1
    (under name named) header (filter (λ h. is_same_header name h.name) headers) all.0.value_is
    (more headers all.1)
    ∙ ap (λ (b : Bool). map (λ h. h.value) (cond b
    (header ∷ filter (λ h. is_same_header name h.name) headers)
    (filter (λ h. is_same_header name h.name) headers))) (sym test)

under_others : (name : List ℕ) → header_named name ≡ None → (named : List (List ℕ × List ℕ))
    (headers : List Header) → AllZip IsOther headers (others_in named)
    → under name named ≡ values_like name headers
under_others name none [] [] all = refl
under_others name none [] (header ∷ headers) all = absurd all
under_others name none (parts ∷ named) headers all =
    let same = str_eq_ignore_ascii_case (long_name parts.0) (long_name name) in
    ap (λ (o : Option HeaderName).
    cons_option (cond (is_same_entry o (header_named parts.0) same) (Some parts.1) None)
    (under name named)) none
    ∙ other_by name parts named headers (header_named parts.0) none refl all
    (λ more is. under_others name none named more is)

pub others_said : (text name : List ℕ) (m : Message) (values : List (List ℕ)) → Spells m text
    → header_named name ≡ None → HasValues name values text
    → values ≡ values_like name m.others
others_said text name m values is none has =
    values_named text name m values is has
    ∙ under_others name none is.headers_are.0 m.others is.headers_are.2.others

-- ---- the headers of the table

kept_known : (b : Bool) (parts : List ℕ × List ℕ) (rest : List (List ℕ))
    (more : List (List ℕ × List ℕ)) → rest ≡ map (λ line. line.1) more
    → cons_option (cond b (Some parts.1) None) rest
    ≡ map (λ line. line.1) (cond b (parts ∷ more) more)
kept_known true parts rest more e = ap (λ (vs : List (List ℕ)). parts.1 ∷ vs) e
kept_known false parts rest more e = e

same_known : (header : HeaderName) (o : Option HeaderName) (same : Bool)
    → is_same_entry (Some header) o same ≡ option_map_or (is_same header) o false
same_known header None same = refl
same_known header (Some other) same = refl

under_known : (name : List ℕ) (header : HeaderName) → header_named name ≡ Some header
    → (named : List (List ℕ × List ℕ)) → under name named ≡ values_of header named
under_known name header e [] = refl
under_known name header e (parts ∷ named) =
    let same = str_eq_ignore_ascii_case (long_name parts.0) (long_name name) in
    ap (λ (o : Option HeaderName).
    cons_option (cond (is_same_entry o (header_named parts.0) same) (Some parts.1) None)
    (under name named)) e
    ∙ ap (λ (b : Bool). cons_option (cond b (Some parts.1) None) (under name named))
    (same_known header (header_named parts.0) same ∙ named_by_table header parts.0)
    ∙ kept_known (is_named header parts.0) parts (under name named)
    (filter (λ line. is_named header line.0) named)
    (under_known name header e named)

pub known_said : (text : List ℕ) (m : Message) (values : HeaderName → List (List ℕ))
    → (is : Spells m text)
    → ((header : HeaderName) → HasValues (entry header).name (values header) text)
    → AreRows (headers_with m is.content_length) values (others_in is.headers_are.0)
known_said text m values is has =
    subst (λ (vs : HeaderName → List (List ℕ)).
    AreRows (headers_with m is.content_length) vs (others_in is.headers_are.0))
    (λ i header. sym (values_named text (entry header).name m (values header) is (has header)
    ∙ under_known (entry header).name header (long_names header) is.headers_are.0) i)
    is.headers_are.2
