-- The one table of the headers that are parsed into fields of their own (RFC 3261, sections 7.3.3
-- and 20; RFC 3262, section 7).
use Rattle.std.specs.Prelude.{ℕ, Bool, true, false, ◌||◌, List, [], ◌∷◌, Option, Some, None, codes, find}
use Rattle.std.specs.Option.{option_map}
use Rattle.std.specs.List.{filter}
use Rattle.std.specs.Str.{str_eq_ignore_ascii_case}
use Rattle.sip_grammar.specs.declared.header_entry.HeaderEntry.{HeaderEntry}
use Rattle.sip_grammar.specs.declared.header_entry.HeaderKind.{HeaderKind}
use Rattle.sip_grammar.specs.declared.header_entry.HeaderKind.TheVariants.{Once, AtMostOnce, List as Listed, NeededList}
use Rattle.sip_grammar.specs.declared.header_name.HeaderName.{HeaderName}
use Rattle.sip_grammar.specs.declared.header_name.HeaderName.TheVariants.{Via, From, To, CallId, CSeq, MaxForwards, ContentLength, RSeq, RAck, Contact, RecordRoute, Route, Require, Supported}

-- a long name, a compact name if there is one, and how often the header may occur in a message
pub record Entry : Type 0 where
  pub name : List ℕ
  pub compact : Option (List ℕ)
  pub kind : HeaderKind

-- the entry of a long name, a compact name (or none) and how often the header may occur
abbrev row : List ℕ → Option (List ℕ) → HeaderKind → Entry
row name compact kind = record { name = name; compact = compact; kind = kind }

-- the entry of each header
abbrev pub entry : HeaderName → Entry
entry Via = row (codes "Via") (Some (codes "v")) NeededList
entry MaxForwards = row (codes "Max-Forwards") None AtMostOnce
entry From = row (codes "From") (Some (codes "f")) Once
entry To = row (codes "To") (Some (codes "t")) Once
entry CallId = row (codes "Call-ID") (Some (codes "i")) Once
entry CSeq = row (codes "CSeq") None Once
entry Contact = row (codes "Contact") (Some (codes "m")) Listed
entry RecordRoute = row (codes "Record-Route") None Listed
entry Route = row (codes "Route") None Listed
entry Require = row (codes "Require") None Listed
entry Supported = row (codes "Supported") (Some (codes "k")) Listed
entry RSeq = row (codes "RSeq") None AtMostOnce
entry RAck = row (codes "RAck") None AtMostOnce
entry ContentLength = row (codes "Content-Length") (Some (codes "l")) AtMostOnce

-- all headers, in the order in which a missing or repeated one is looked for; then the lists
abbrev pub headers : List HeaderName
headers =
    Via ∷ From ∷ To ∷ CallId ∷ CSeq ∷ MaxForwards ∷ ContentLength ∷ RSeq ∷ RAck ∷ Contact
    ∷ RecordRoute ∷ Route ∷ Require
    ∷ Supported ∷ []

-- the entry that a line of the code's table has
abbrev pub entry_now : HeaderEntry → Entry
entry_now e =
    record { name = e.name.now; compact = option_map (λ c. c.now) e.compact; kind = e.kind }

-- the name is this word, if there is one, in any case of the letters
abbrev pub is_word_of : List ℕ → Option (List ℕ) → Bool
is_word_of name None = false
is_word_of name (Some word) = str_eq_ignore_ascii_case name word

-- the name is the header's long or its compact name, in any case of the letters
unfoldable pub is_named : HeaderName → List ℕ → Bool
is_named header name =
    str_eq_ignore_ascii_case name (entry header).name
    || is_word_of name (entry header).compact

-- the header of this name
abbrev pub header_named : List ℕ → Option HeaderName
header_named name = find (λ header. is_named header name) headers

-- the header is mandatory
abbrev pub is_needed : HeaderKind → Bool
is_needed Once = true
is_needed NeededList = true
is_needed kind = false

-- the header may occur once
abbrev pub is_single : HeaderKind → Bool
is_single Once = true
is_single AtMostOnce = true
is_single kind = false

-- the headers whose kind passes a test, in the order of the table
abbrev pub headers_where : (HeaderKind → Bool) → List HeaderName
headers_where test = filter (λ header. test (entry header).kind) headers
