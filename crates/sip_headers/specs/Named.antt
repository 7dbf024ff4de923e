-- Header lines by their names (RFC 3261, sections 7.3.1 and 7.3.3).
use Rattle.std.specs.Prelude.{ℕ, Bool, true, false, List, map, is_none}
use Rattle.std.specs.List.{AllZip, filter}
use Rattle.sip_grammar.specs.HeaderEntry.{header_named, is_named}
use Rattle.sip_grammar.specs.declared.header_name.HeaderName.{HeaderName}
use Rattle.sip_grammar.specs.declared.header_name.HeaderName.TheVariants as name
use Rattle.sip_headers.specs.HeaderLine.{IsHeaderLine}

-- the same header of the table
abbrev pub is_same : HeaderName → HeaderName → Bool
is_same name.Via name.Via = true
is_same name.MaxForwards name.MaxForwards = true
is_same name.From name.From = true
is_same name.To name.To = true
is_same name.CallId name.CallId = true
is_same name.CSeq name.CSeq = true
is_same name.Contact name.Contact = true
is_same name.RecordRoute name.RecordRoute = true
is_same name.Route name.Route = true
is_same name.Require name.Require = true
is_same name.Supported name.Supported = true
is_same name.RSeq name.RSeq = true
is_same name.RAck name.RAck = true
is_same name.ContentLength name.ContentLength = true
is_same one another = false

-- the values of one header among header lines (each a name and a value), in order
abbrev pub values_of : HeaderName → List (List ℕ × List ℕ) → List (List ℕ)
values_of header named = map (λ line. line.1) (filter (λ line. is_named header line.0) named)

-- the header lines whose name isn't in the table, in order
abbrev pub others_in : List (List ℕ × List ℕ) → List (List ℕ × List ℕ)
others_in named = filter (λ line. is_none (header_named line.0)) named

-- all lines are header lines, and P is true of their names and values
abbrev pub OfHeaderLines : (List (List ℕ × List ℕ) → Type 0) → List (List ℕ) → Type 0
OfHeaderLines P lines =
    (named : List (List ℕ × List ℕ)) × AllZip IsHeaderLine named lines × P named
