-- The values of header lines, found line by line and by name, are the same.
use Rattle.std.proofs.Common.{◌≡◌, ℕ, Bool, true, false, List, [], ◌∷◌, map, cond, Option, Some, None, refl, sym, ap, subst, ◌∙◌}
use Rattle.std.specs.Prelude.{is_none}
use Rattle.std.specs.List.{AllByRecursion, AllZip, filter}
use Rattle.std.specs.Option.{option_map_or}
use Rattle.sip_text.specs.Token.{is_token}
use Rattle.sip_text.specs.Trimmed.{trimmed, trimmed_end}
use Rattle.sip_text.specs.declared.separator.Separator.TheVariants.{Byte}
use Rattle.sip_text.proofs.ReadForms.{Reads, passing_reads, never_reads, of_reads, told_reads, both_reads, cut_reads}
use Rattle.sip_grammar.specs.HeaderEntry.{header_named, is_named}
use Rattle.sip_grammar.specs.HeaderValue.{has_no_line_byte}
use Rattle.sip_grammar.specs.declared.header_name.HeaderName.{HeaderName}
use Rattle.sip_headers.specs.HeaderLine.{IsHeaderLine, class_by_name, class_by_parts, line_from}
use Rattle.sip_headers.specs.Headers.{AreHeaders, AreRows, Headers}
use Rattle.sip_headers.specs.Named.{is_same, others_in, values_of}
use Rattle.sip_headers.proofs.NamesApart.{named_by_table}
use Rattle.sip_headers.specs.Section.{before_others, before_values, others_of, values}

-- a header line of any name
abbrev pub IsSomeHeaderLine : List ℕ → Type 0
IsSomeHeaderLine line = (parts : List ℕ × List ℕ) × IsHeaderLine parts line

pub line_reads : Reads (List ℕ) (List ℕ × List ℕ) line_from IsHeaderLine
line_reads =
    cut_reads (Byte 58) (both_reads (of_reads trimmed_end (passing_reads is_token))
    (told_reads trimmed (passing_reads has_no_line_byte))) never_reads

-- ---- the names and values of lines that are header lines

pub all_named : (named : List (List ℕ × List ℕ)) (lines : List (List ℕ))
    → AllZip IsHeaderLine named lines → AllByRecursion IsSomeHeaderLine lines
all_named [] [] all = tt
all_named [] (line ∷ lines) all = absurd all
all_named (parts ∷ named) [] all = absurd all
all_named (parts ∷ named) (line ∷ lines) all = ((parts, all.0), all_named named lines all.1)

pub named_of : (lines : List (List ℕ)) → AllByRecursion IsSomeHeaderLine lines
    → (named : List (List ℕ × List ℕ)) × AllZip IsHeaderLine named lines
named_of [] all = ([], tt)
named_of (line ∷ lines) all =
    let more = named_of lines all.1 in (all.0.0 ∷ more.0, (all.0.1, more.1))

-- ---- the values of a header

one_value : (header : HeaderName) (name value : List ℕ) (vs : List (List ℕ))
    (o : Option HeaderName) → before_values header (class_by_name name value o) vs
    ≡ cond (option_map_or (is_same header) o false) (value ∷ vs) vs
one_value header name value vs None = refl
one_value header name value vs (Some found) = refl

kept_value : (b : Bool) (parts : List ℕ × List ℕ) (more : List (List ℕ × List ℕ))
    → cond b (parts.1 ∷ map (λ line. line.1) more) (map (λ line. line.1) more)
    ≡ map (λ (line : List ℕ × List ℕ). line.1) (cond b (parts ∷ more) more)
kept_value true parts more = refl
kept_value false parts more = refl

pub same_values : (named : List (List ℕ × List ℕ)) (lines : List (List ℕ))
    → AllZip IsHeaderLine named lines → (header : HeaderName)
    → values header lines ≡ values_of header named
same_values [] [] all header = refl
same_values [] (line ∷ lines) all header = absurd all
same_values (parts ∷ named) [] all header = absurd all
same_values (parts ∷ named) (line ∷ lines) all header =
    ap (λ o. before_values header (class_by_parts o) (values header lines))
    (line_reads.again line parts all.0)
    ∙ one_value header parts.0 parts.1 (values header lines) (header_named parts.0)
    ∙ ap (λ b. cond b (parts.1 ∷ values header lines) (values header lines))
    (named_by_table header parts.0)
    ∙ ap (λ vs. cond (is_named header parts.0) (parts.1 ∷ vs) vs)
    (same_values named lines all.1 header)
    ∙ kept_value (is_named header parts.0) parts
    (filter (λ line. is_named header line.0) named)

-- ---- the headers of no entry of the table

one_other : (parts : List ℕ × List ℕ) (others : List (List ℕ × List ℕ)) (o : Option HeaderName)
    → before_others (class_by_name parts.0 parts.1 o) others
    ≡ cond (is_none o) (parts ∷ others) others
one_other parts others None = refl
one_other parts others (Some found) = refl

pub same_others : (named : List (List ℕ × List ℕ)) (lines : List (List ℕ))
    → AllZip IsHeaderLine named lines → others_of lines ≡ others_in named
same_others [] [] all = refl
same_others [] (line ∷ lines) all = absurd all
same_others (parts ∷ named) [] all = absurd all
same_others (parts ∷ named) (line ∷ lines) all =
    ap (λ o. before_others (class_by_parts o) (others_of lines))
    (line_reads.again line parts all.0)
    ∙ one_other parts (others_of lines) (header_named parts.0)
    ∙ ap (λ others. cond (is_none (header_named parts.0)) (parts ∷ others) others)
    (same_others named lines all.1)

-- ---- all rows

-- the lines have these headers, by the values that are found line by line
abbrev pub ByLine : Headers → List (List ℕ) → Type 0
ByLine h lines =
    AllByRecursion IsSomeHeaderLine lines
    × AreRows h (λ header. values header lines) (others_of lines)

same_rows : (h : Headers) (values1 values2 : HeaderName → List (List ℕ))
    (others1 others2 : List (List ℕ × List ℕ)) → values1 ≡ values2 → others1 ≡ others2
    → AreRows h values1 others1 → AreRows h values2 others2
same_rows h values1 values2 others1 others2 p q is =
    subst (λ others. AreRows h values2 others) q (subst (λ found. AreRows h found others1) p is)

pub by_line : (h : Headers) (lines : List (List ℕ)) → AreHeaders h lines → ByLine h lines
by_line h lines is = (
  all_named is.0 lines is.1,
  same_rows h (λ header. values_of header is.0) (λ header. values header lines) (others_in is.0)
      (others_of lines) (λ i header. sym (same_values is.0 lines is.1 header) i)
      (sym (same_others is.0 lines is.1)) is.2,
)

pub by_name : (h : Headers) (lines : List (List ℕ)) → ByLine h lines → AreHeaders h lines
by_name h lines is =
    let named = named_of lines is.0 in (
      named.0,
      named.1,
      same_rows h (λ header. values header lines) (λ header. values_of header named.0)
          (others_of lines) (others_in named.0)
          (λ i header. same_values named.0 lines named.1 header i)
          (same_others named.0 lines named.1) is.1,
    )
