-- The lines that are written are added to the draft in order.
use Rattle.std.proofs.Common.{◌≡◌, ℕ, ◌-◌, true, false, cond, not, ◌||◌, List, [], ◌∷◌, ◌++◌, map, length, codes, Option, Some, None, is_some, refl, sym, ap, subst, ◌∙◌, append_assoc, arith}
use Rattle.std.specs.Prelude.{option_and_then}
use Rattle.std.specs.List.{flat_map, AllByRecursion}
use Rattle.std.specs.Option.{option_map}
use Rattle.std.specs.Str.{str_eq_ignore_ascii_case}
use Rattle.std.specs.Str.Lines.{strip_carriage_return}
use Rattle.std.proofs.lemmas.Bool.{and_from, and_parts, or_parts, not-true}
use Rattle.std.proofs.lemmas.List.{append-nil, length-append, get_or_at, take_at}
use Rattle.std.proofs.lemmas.List.Folds.{list_all-append}
use Rattle.sip_text.specs.Character.{is_token_byte}
use Rattle.sip_text.specs.Forms.{by_cut, both, told, passing, reading_of}
use Rattle.sip_text.specs.Line.{line_at}
use Rattle.sip_text.specs.Lines.{has_no, IsLine}
use Rattle.sip_text.specs.Token.{is_token}
use Rattle.sip_text.specs.Trimmed.{trimmed, trimmed_end}
use Rattle.sip_text.specs.Unfolded.{begins_blank}
use Rattle.sip_text.specs.declared.separator.Separator.TheVariants.{Byte}
use Rattle.sip_grammar.specs.HeaderEntry.{entry, header_named}
use Rattle.sip_grammar.proofs.HeaderNames.{long_names}
use Rattle.sip_grammar.specs.HeaderValue.{has_no_line_byte, is_header_value}
use Rattle.sip_grammar.specs.OtherName.{is_compact_name, is_other_name}
use Rattle.sip_grammar.specs.declared.header_name.HeaderName.{HeaderName}
use Rattle.sip_grammar.specs.declared.header_name.HeaderName.TheVariants as name
use Rattle.sip_message.specs.declared.header.Header.{Header}
use Rattle.sip_message.specs.Written.{header_line, other_line}
use Rattle.sip_headers.specs.HeaderFields.{with_value, with_class, with_line, long_name, other_from}
use Rattle.sip_headers.specs.Folding.{section_at, whole_section}
use Rattle.sip_headers.specs.Steps.Drafted.{drafted_on}
use Rattle.sip_headers.specs.HeaderLine.{Class, known, other, class_by_name, class_by_parts, class_from}
use Rattle.sip_headers.specs.Slot.{listed}
use Rattle.sip_headers.specs.declared.header_fields.HeaderFields.{HeaderFields}
use Rattle.sip_headers.proofs.Folds.{section_ends, section_goes_on, ends_here}
use Rattle.sip_message.specs.Rules.{IsOtherHeader}
use Rattle.sip_grammar.proofs.Characters.{token_without, token_full}
use Rattle.sip_reader.proofs.Layouts.{line_again}
use Rattle.sip_grammar.proofs.Passing.{cut_here, token_passes}
use Rattle.sip_grammar.proofs.WrittenBytes.{solid_end, token_solid, no_lf, header_value_kept, header_value_plain}
use Rattle.sip_grammar.proofs.TextEnds.{Good}

-- ---- a line with its end

stripped_again : (line : List ℕ) → line ≡ strip_carriage_return (line ++ (13 ∷ []))
stripped_again line =
    let long : length (line ++ (13 ∷ [])) - 1 ≡ length line =
    omega (arith, length-append line (13 ∷ [])) in
    rw (long, get_or_at line 13 [] 0 (length line) refl, take_at line (13 ∷ []) (length line) refl)
    refl

pub is_line : (line rest : List ℕ) → has_no 10 line ≡ true
    → IsLine (line ++ (13 ∷ (10 ∷ rest))) line rest
is_line line rest free = record {
  part = line ++ (13 ∷ []);
  parts = sym (append_assoc line (13 ∷ []) (10 ∷ rest));
  one = list_all-append _ line (13 ∷ []) ∙ and_from _ _ free refl;
  stripped = stripped_again line;
}

pub ended_line : (line rest : List ℕ) → has_no 10 line ≡ true
    → line_at (line ++ (13 ∷ (10 ∷ rest))) ≡ Some (line, rest)
ended_line line rest free =
    line_again (line ++ (13 ∷ (10 ∷ rest))) line rest (is_line line rest free)

-- the first line of the text doesn't continue the line before it
pub record Ready (text : List ℕ) : Type 0 where
  pub line : List ℕ
  pub after : List ℕ
  pub line_is : line_at text ≡ Some (line, after)
  pub anew : begins_blank line ≡ false

abbrev pub gathered : HeaderFields → List ℕ → Option (HeaderFields × List ℕ)
gathered d text = drafted_on d (whole_section (section_at text))

-- the lines at the start of the text lead from one draft to the other
pub record Goes (d : HeaderFields) (text : List ℕ) (e : HeaderFields) (rest : List ℕ) : Type 0 where
  pub ready : Ready text
  pub same : gathered d text ≡ gathered e rest

pub no_lines : (d e : HeaderFields) (rest : List ℕ) → d ≡ e → Ready rest → Goes d rest e rest
no_lines d e rest same ready =
    record { ready = ready; same = ap (λ (x : HeaderFields). gathered x rest) same }

pub goes_to : {d e f : HeaderFields} {text rest : List ℕ} → e ≡ f → Goes d text e rest
    → Goes d text f rest
goes_to {d} {e} {f} {text} {rest} same goes =
    subst (λ (x : HeaderFields). Goes d text x rest) same goes

from_text : {d e : HeaderFields} {text other rest : List ℕ} → text ≡ other → Goes d other e rest
    → Goes d text e rest
from_text {d} {e} {text} {other} {rest} same goes =
    subst (λ (xs : List ℕ). Goes d xs e rest) (sym same) goes

pub two_go : {d e f : HeaderFields} {one two three : List ℕ} → Goes d one e two → Goes e two f three
    → Goes d one f three
two_go first second = record { ready = first.ready; same = first.same ∙ second.same }

line_goes : (d : HeaderFields) (line rest : List ℕ) → has_no 10 line ≡ true → (line ≡ [] → ⊥)
    → begins_blank line ≡ false → Ready rest
    → Goes d (line ++ (13 ∷ (10 ∷ rest))) (with_line d line) rest
line_goes d line rest free full anew ready =
    let text = line ++ (13 ∷ (10 ∷ rest)) in
    record {
      ready = record {
        line = line;
        after = rest;
        line_is = ended_line line rest free;
        anew = anew;
      };
      same = sym (section_goes_on d text line rest line rest (gathered d text)
          (ended_line line rest free) full
          (ends_here line rest ready.line ready.after ready.line_is ready.anew) refl);
    }

-- the empty line
pub end_ready : (body : List ℕ) → Ready (13 ∷ (10 ∷ body))
end_ready body = record { line = []; after = body; line_is = ended_line [] body refl; anew = refl }

pub end_gathered : (d : HeaderFields) (body : List ℕ)
    → gathered d (13 ∷ (10 ∷ body)) ≡ Some (d, body)
end_gathered d body =
    sym (section_ends d (13 ∷ (10 ∷ body)) [] body (gathered d (13 ∷ (10 ∷ body)))
    (ended_line [] body refl) refl refl)

-- ---- header lines

abbrev line_of : List ℕ → List ℕ → List ℕ
line_of name value = name ++ (58 ∷ (32 ∷ value))

text_is : (name value rest : List ℕ)
    → header_line name value ++ rest ≡ line_of name value ++ (13 ∷ (10 ∷ rest))
unfolding header_line
text_is name value rest =
    append_assoc ((name ++ (58 ∷ (32 ∷ []))) ++ value) (13 ∷ (10 ∷ [])) rest
    ∙ ap (λ (xs : List ℕ). xs ++ (13 ∷ (10 ∷ rest))) (append_assoc name (58 ∷ (32 ∷ [])) value)

no_colon : is_token_byte 58 ≡ false
unfolding is_token_byte
no_colon = refl

no_line_feed : is_token_byte 10 ≡ false
unfolding is_token_byte
no_line_feed = refl

class_is : (name value : List ℕ) → is_token name ≡ true → Good value
    → class_from (line_of name value) ≡ class_by_name name value (header_named name)
class_is name value token good =
    ap (λ o. class_by_parts (by_cut o
    (both (reading_of (passing is_token) trimmed_end) (told trimmed (passing has_no_line_byte)))
    None)) (cut_here (Byte 58) name 58 (32 ∷ value) (token_passes 58 no_colon name token) refl)
    ∙ ap (λ (xs : List ℕ). class_by_parts
    (option_and_then (λ x. option_and_then (λ y. Some (x, y))
    (option_map trimmed (cond (has_no_line_byte value) (Some (32 ∷ value)) None)))
    (cond (is_token xs) (Some xs) None))) (solid_end name (token_solid name token))
    ∙ ap (λ r. class_by_parts (option_and_then
    (λ x. option_and_then (λ y. Some (x, y))
    (option_map trimmed (cond (has_no_line_byte value) (Some (32 ∷ value)) None)))
    (cond r (Some name) None))) token
    ∙ ap (λ r. class_by_parts (option_and_then (λ y. Some (name, y))
    (option_map trimmed (cond r (Some (32 ∷ value)) None)))) good.plain
    ∙ ap (λ (xs : List ℕ). class_by_name name xs (header_named name)) good.kept

full_line : (name more : List ℕ) → is_token name ≡ true
    → (name ++ more ≡ [] → ⊥) × (begins_blank (name ++ more) ≡ false)
unfolding is_token
full_line [] more token = absurd cc
full_line (b ∷ bs) more token =
    (λ (e : b ∷ (bs ++ more) ≡ []). absurd cc, token_full b (and_parts _ _ token).0)

line_free : (name value : List ℕ) → is_token name ≡ true → Good value
    → has_no 10 (line_of name value) ≡ true
line_free name value token good =
    list_all-append _ name (58 ∷ (32 ∷ value))
    ∙ and_from _ _ (token_without 10 no_line_feed name token) (no_lf value good.plain)

class_goes : (d : HeaderFields) (name value rest : List ℕ) (class : Class) → is_token name ≡ true
    → Good value → class_by_name name value (header_named name) ≡ class → Ready rest
    → Goes d (header_line name value ++ rest) (with_class d class) rest
class_goes d name value rest class token good is ready =
    let full = full_line name (58 ∷ (32 ∷ value)) token in
    goes_to (ap (with_class d) (class_is name value token good ∙ is))
    (from_text (text_is name value rest)
    (line_goes d (line_of name value) rest
    (line_free name value token good) full.0 full.1 ready))

name_token : (h : HeaderName) → is_token (entry h).name ≡ true
unfolding is_token is_token_byte
name_token name.Via = refl
name_token name.MaxForwards = refl
name_token name.From = refl
name_token name.To = refl
name_token name.CallId = refl
name_token name.CSeq = refl
name_token name.Contact = refl
name_token name.RecordRoute = refl
name_token name.Route = refl
name_token name.Require = refl
name_token name.Supported = refl
name_token name.RSeq = refl
name_token name.RAck = refl
name_token name.ContentLength = refl

pub header_goes : (d : HeaderFields) (h : HeaderName) (value rest : List ℕ) → Good value
    → Ready rest
    → Goes d (header_line (entry h).name value ++ rest) (with_value d h value) rest
header_goes d h value rest good ready =
    class_goes d (entry h).name value rest (known h value) (name_token h) good
    (ap (class_by_name (entry h).name value) (long_names h)) ready

-- ---- headers that are kept as they are

no_header : (o : Option HeaderName) → is_some o ≡ false → o ≡ None
no_header None e = refl
no_header (Some h) e = absurd cc

pub record IsOwn (name : List ℕ) : Type 0 where
  pub token : is_token name ≡ true
  pub unknown : header_named name ≡ None
  pub long : long_name name ≡ name

pub own_name : (name : List ℕ) → is_other_name name ≡ true → IsOwn name
unfolding is_other_name is_compact_name long_name
own_name name is =
    let parts = and_parts (is_token name)
    (not (is_some (header_named name) || is_compact_name name)) is in
    let neither = or_parts (is_some (header_named name)) (is_compact_name name)
    (not-true (is_some (header_named name) || is_compact_name name) parts.1) in
    let first = or_parts (str_eq_ignore_ascii_case name (codes "c"))
    (str_eq_ignore_ascii_case name (codes "s") || str_eq_ignore_ascii_case name (codes "e"))
    neither.1 in
    let others = or_parts (str_eq_ignore_ascii_case name (codes "s"))
    (str_eq_ignore_ascii_case name (codes "e")) first.1 in
    record {
      token = parts.0;
      unknown = no_header (header_named name) neither.0;
      long = rw (first.0, others.0, others.1) refl;
    }

other_again : (header : Header) → IsOtherHeader header
    → other_from header.name header.value ≡ Some (header ∷ [])
other_again header is =
    let own = own_name header.name is.name in
    ap (λ (n : List ℕ). cond (is_other_name n)
    (cond (is_header_value header.value)
    (Some ((record { name = n; value = header.value }) ∷ [])) None) None) own.long
    ∙ ap (λ r. cond r (cond (is_header_value header.value) (Some (header ∷ [])) None) None) is.name
    ∙ ap (λ r. cond r (Some (header ∷ [])) None) is.value

other_good : (value : List ℕ) → is_header_value value ≡ true → Good value
other_good value is =
    record { kept = header_value_kept value is; plain = header_value_plain value is }

pub other_goes : (d : HeaderFields) (front : List Header) (header : Header) (rest : List ℕ)
    → IsOtherHeader header → d.others ≡ Some front → Ready rest
    → Goes d (other_line header ++ rest) (record d { others = Some (front ++ header ∷ []) }) rest
other_goes d front header rest is others ready =
    let own = own_name header.name is.name in
    goes_to (λ i. record d {
      others =
          (ap (λ o. listed o (other_from header.name header.value)) others
          ∙ ap (listed (Some front)) (other_again header is)) i;
    })
    (class_goes d header.name header.value rest (other header.name header.value) own.token
    (other_good header.value is.value)
    (ap (class_by_name header.name header.value) own.unknown) ready)

-- ---- one line for each of a list

pub list_goes : {A X : Type 0} (put : Option (List X) → HeaderFields) (line : A → List ℕ)
    (to : A → X)
    (Keeps : A → Type 0) → ((front : List X) (a : A) (rest : List ℕ) → Keeps a → Ready rest
    → Goes (put (Some front)) (line a ++ rest) (put (Some (front ++ to a ∷ []))) rest)
    → (front : List X) (all : List A) (rest : List ℕ) → AllByRecursion Keeps all → Ready rest
    → Goes (put (Some front)) (flat_map line all ++ rest) (put (Some (front ++ map to all))) rest
list_goes put line to Keeps step front [] rest keep ready =
    no_lines (put (Some front)) (put (Some (front ++ []))) rest
    (ap (λ xs. put (Some xs)) (sym (append-nil front))) ready
list_goes put line to Keeps step front (a ∷ all) rest keep ready =
    let more = list_goes put line to Keeps step (front ++ to a ∷ []) all rest keep.1 ready in
    from_text (append_assoc (line a) (flat_map line all) rest)
    (goes_to (ap (λ xs. put (Some xs)) (append_assoc front (to a ∷ []) (map to all)))
    (two_go (step front a (flat_map line all ++ rest) keep.0 more.ready) more))
