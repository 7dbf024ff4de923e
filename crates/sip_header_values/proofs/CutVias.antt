-- A Via value that is cut at its separators from left to right consists of its parts, in order.
use Rattle.std.proofs.Common.{◌≡◌, ◌<◌, inl, inr, ℕ, true, not, eqb, List, [], ◌∷◌, ◌++◌, codes, refl, sym, ap, subst, ◌∙◌, arith}
use Rattle.std.specs.List.{list_all}
use Rattle.std.specs.Str.{str_eq_ignore_ascii_case, str_to_ascii_lowercase}
use Rattle.std.proofs.lemmas.Bool.{and_parts, not-true, eqb-true}
use Rattle.std.proofs.lemmas.List.{append-nil}
use Rattle.sip_text.specs.Character.{is_blank}
use Rattle.sip_text.specs.Forms.{Never, Of, Behind, OnCut}
use Rattle.sip_text.specs.Lines.{has_no}
use Rattle.sip_text.specs.OpenQuote.{has_open_quote}
use Rattle.sip_text.specs.Token.{is_run, is_token}
use Rattle.sip_text.specs.Trimmed.{trimmed, trimmed_start, trimmed_end}
use Rattle.sip_text.specs.declared.separator.Separator.TheVariants.{Byte}
use Rattle.sip_header_values.specs.ViaValue.{IsMark, IsVia, is_like}
use Rattle.sip_header_values.specs.declared.via.ViaDraft.{ViaDraft}
use Rattle.sip_grammar.proofs.Blanks.{End, around, around_trimmed, end_behind_byte, end_is, full_starts, start_past, trimmed_starts, trimmed_stays}
use Rattle.sip_grammar.proofs.Characters.{lower_not_blank, lower_without, no_slash, same_lower}
use Rattle.sip_grammar.proofs.Cuts.{run_all}
use Rattle.sip_header_values.proofs.Marks.{cut_parts, cut_at, slash_clear, comma_clear, blanks_pass, around_passes, mark_text, mark_is, mark_passes, mark_regroup}
use Rattle.sip_grammar.proofs.Passing.{Passes, all_pass, clear, token_passes}
use Rattle.sip_header_values.proofs.Quotes.{open_behind, open_trimmed}
use Rattle.sip_header_values.proofs.Transports.{HopCut, hop_parts, HopText, hop_text, hop_cut}

-- ---- the forms by cuts

-- `2.0`, a slash, and that
abbrev pub BehindProtocol : ViaDraft → List ℕ → Type 0
BehindProtocol via text =
    OnCut (Byte 47) (Behind (is_like (codes "2.0")) (Of HopCut trimmed)) Never via text

-- `SIP`, a slash, and that
abbrev pub ViaCut : ViaDraft → List ℕ → Type 0
ViaCut via text =
    Of (OnCut (Byte 47) (Behind (is_like (codes "SIP")) BehindProtocol) Never) trimmed via text

-- ---- the protocol and its version

record HasNoMark (text : List ℕ) : Type 0 where
  pub slash : has_no 47 text ≡ true
  pub quote : has_no 34 text ≡ true
  pub bracket : has_no 60 text ≡ true

sip_marks : HasNoMark (str_to_ascii_lowercase (codes "SIP"))
sip_marks = record { slash = refl; quote = refl; bracket = refl }

version_marks : HasNoMark (str_to_ascii_lowercase (codes "2.0"))
version_marks = record { slash = refl; quote = refl; bracket = refl }

all_clear : (text : List ℕ) → HasNoMark text → list_all (clear (Byte 47)) text ≡ true
all_clear [] none = refl
all_clear (b ∷ bs) none =
    let s = and_parts (not (eqb b 47)) (has_no 47 bs) none.slash in
    let q = and_parts (not (eqb b 34)) (has_no 34 bs) none.quote in
    let a = and_parts (not (eqb b 60)) (has_no 60 bs) none.bracket in
    rw (
      not-true (eqb b 47) s.0,
      not-true (eqb b 34) q.0,
      not-true (eqb b 60) a.0,
      all_clear bs (record { slash = s.1; quote = q.1; bracket = a.1 }),
    ) refl

-- a word without marks, in any case of its letters
word_passes : (word text : List ℕ) → HasNoMark (str_to_ascii_lowercase word)
    → str_eq_ignore_ascii_case text word ≡ true → Passes (Byte 47) text
word_passes word text none is =
    let same = same_lower text word is in
    let without : (at : ℕ) → at < 65 → has_no at (str_to_ascii_lowercase word) ≡ true
    → has_no at text ≡ true =
    λ at small e. sym (lower_without at small text) ∙ ap (has_no at) same ∙ e in
    all_pass (Byte 47) text (all_clear text (record {
      slash = without 47 (omega arith) none.slash;
      quote = without 34 (omega arith) none.quote;
      bracket = without 60 (omega arith) none.bracket;
    }))

like_passes : (word text : List ℕ) → HasNoMark (str_to_ascii_lowercase word)
    → is_like word text ≡ true → Passes (Byte 47) text
like_passes word text none like =
    around_passes (Byte 47) slash_clear text (word_passes word (trimmed text) none like)

-- ---- the whole

-- the parts up to the host
record Before (via : ViaDraft) (text protocol slash version next_slash space rest : List ℕ)
    : Type 0 where
  pub parts : trimmed text ≡ protocol ++ (slash ++ (version ++ (next_slash
      ++ (via.transport ++ (space ++ rest)))))
  pub protocol_is : str_eq_ignore_ascii_case protocol (codes "SIP") ≡ true
  pub slash_is : IsMark 47 slash
  pub version_is : str_eq_ignore_ascii_case version (codes "2.0") ≡ true
  pub next_slash_is : IsMark 47 next_slash
  pub transport_is : is_token via.transport ≡ true
  pub space_is : is_run is_blank space ≡ true

-- these parts open no quote
open_after : (via : ViaDraft) (text protocol slash version next_slash space rest : List ℕ)
    → Before via text protocol slash version next_slash space rest
    → has_open_quote text ≡ has_open_quote rest
open_after via text protocol slash version next_slash space rest is =
    let hop = via.transport ++ (space ++ rest) in
    open_trimmed text
    ∙ ap has_open_quote is.parts
    ∙ open_behind 47 protocol (slash ++ (version ++ (next_slash ++ hop)))
    (word_passes (codes "SIP") protocol sip_marks is.protocol_is)
    ∙ open_behind 44 slash (version ++ (next_slash ++ hop))
    (mark_passes (Byte 44) comma_clear 47 refl slash is.slash_is)
    ∙ open_behind 47 version (next_slash ++ hop)
    (word_passes (codes "2.0") version version_marks is.version_is)
    ∙ open_behind 44 next_slash hop
    (mark_passes (Byte 44) comma_clear 47 refl next_slash is.next_slash_is)
    ∙ open_behind 47 via.transport (space ++ rest)
    (token_passes 47 no_slash via.transport is.transport_is)
    ∙ open_behind 44 space rest
    (blanks_pass (Byte 44) comma_clear space (run_all is_blank space is.space_is))

-- the end of what follows the second slash doesn't change
hop_stays : (text protocol version hop : List ℕ)
    → trimmed text ≡ protocol ++ (47 ∷ (version ++ (47 ∷ hop))) → End hop
hop_stays text protocol version hop parts =
    end_behind_byte version 47 hop
    (end_behind_byte protocol 47 (version ++ (47 ∷ hop))
    (subst (λ (xs : List ℕ). End xs) parts (trimmed_stays text)))

same_is_full : (text word : List ℕ) → is_run (λ b. not (is_blank b)) (str_to_ascii_lowercase word)
    ≡ true → str_eq_ignore_ascii_case text word ≡ true
    → is_run (λ b. not (is_blank b)) text ≡ true
same_is_full [] word full same =
    let e : [] ≡ str_to_ascii_lowercase word = same_lower [] word same in
    ap (is_run (λ b. not (is_blank b))) e ∙ full
same_is_full (b ∷ bs) word full same =
    sym (lower_not_blank (b ∷ bs))
    ∙ ap (list_all (λ c. not (is_blank c))) (same_lower (b ∷ bs) word same)
    ∙ run_all (λ c. not (is_blank c)) (str_to_ascii_lowercase word) full

full_kept : (text : List ℕ) → is_run (λ b. not (is_blank b)) text ≡ true → trimmed text ≡ text
full_kept text full =
    ap trimmed (sym (append-nil text))
    ∙ ap trimmed_end (full_starts text [] full)
    ∙ end_is text [] (run_all (λ b. not (is_blank b)) text full) refl

like_around : (front text back word : List ℕ) → list_all is_blank front ≡ true
    → list_all is_blank back ≡ true
    → is_run (λ b. not (is_blank b)) (str_to_ascii_lowercase word) ≡ true
    → str_eq_ignore_ascii_case text word ≡ true → is_like word (front ++ (text ++ back)) ≡ true
like_around front text back word front_is back_is full same =
    ap (λ (xs : List ℕ). str_eq_ignore_ascii_case xs word)
    (around_trimmed front text back front_is back_is
    (full_kept text (same_is_full text word full same))) ∙ same

-- the mark between two texts, with the blanks on both its sides
abbrev between : List ℕ → ℕ → List ℕ → List ℕ
between text mark gap = (around text).back ++ (mark ∷ gap)

whole_parts : (text protocol version gap rest : List ℕ)
    → trimmed text ≡ protocol ++ (47 ∷ (version ++ (47 ∷ (gap ++ rest))))
    → is_like (codes "SIP") protocol ≡ true
    → trimmed text ≡ trimmed protocol ++ (between protocol 47 (around version).front
    ++ (trimmed version ++ (between version 47 gap ++ rest)))
whole_parts text protocol version gap rest parts protocol_is =
    let p = around protocol in
    let v = around version in
    let behind = trimmed version ++ (between version 47 gap ++ rest) in
    let whole = trimmed protocol ++ (between protocol 47 v.front ++ behind) in
    let version_part : version ++ (47 ∷ (gap ++ rest)) ≡ v.front ++ behind =
    ap (λ (xs : List ℕ). xs ++ (47 ∷ (gap ++ rest))) v.parts
    ∙ mark_regroup v.front (trimmed version) v.back 47 gap rest in
    let with_gap : trimmed text ≡ p.front ++ whole =
    parts ∙ ap (λ (xs : List ℕ). protocol ++ (47 ∷ xs)) version_part
    ∙ ap (λ (xs : List ℕ). xs ++ (47 ∷ (v.front ++ behind))) p.parts
    ∙ mark_regroup p.front (trimmed protocol) p.back 47 v.front behind in
    sym (trimmed_starts text) ∙ ap trimmed_start with_gap ∙ start_past p.front whole p.front_is
    ∙ full_starts (trimmed protocol) (between protocol 47 v.front ++ behind)
    (same_is_full (trimmed protocol) (codes "SIP") refl protocol_is)

via_parts : (via : ViaDraft) (text protocol version behind : List ℕ)
    → trimmed text ≡ protocol ++ (47 ∷ (version ++ (47 ∷ behind)))
    → is_like (codes "SIP") protocol ≡ true → is_like (codes "2.0") version ≡ true
    → HopText via behind → IsVia via text
via_parts via text protocol version behind parts protocol_is version_is hop =
    let p = around protocol in
    let v = around version in
    let rest = via.host ++ (hop.port ++ hop.parameters) in
    let before : Before via text (trimmed protocol) (between protocol 47 v.front) (trimmed version)
    (between version 47 hop.gap) hop.space rest =
    record {
      parts = whole_parts text protocol version hop.gap (via.transport ++ (hop.space ++ rest))
          (parts ∙ ap (λ (xs : List ℕ). protocol ++ (47 ∷ (version ++ (47 ∷ xs)))) hop.parts)
          protocol_is;
      protocol_is = protocol_is;
      slash_is = mark_is p.back 47 v.front p.back_is v.front_is refl;
      version_is = version_is;
      next_slash_is = mark_is v.back 47 hop.gap v.back_is hop.gap_is refl;
      transport_is = hop.transport_is;
      space_is = hop.space_is;
    } in
    record {
      protocol = trimmed protocol;
      slash = between protocol 47 v.front;
      version = trimmed version;
      next_slash = between version 47 hop.gap;
      space = hop.space;
      port = hop.port;
      parameters = hop.parameters;
      parts = before.parts;
      protocol_is = protocol_is;
      slash_is = before.slash_is;
      version_is = version_is;
      next_slash_is = before.next_slash_is;
      transport_is = hop.transport_is;
      space_is = hop.space_is;
      host_is = hop.host_is;
      port_is = hop.port_is;
      parameters_is = hop.parameters_is;
      quotes_end = ap not (open_after via text (trimmed protocol) (between protocol 47 v.front)
          (trimmed version) (between version 47 hop.gap) hop.space rest before)
          ∙ hop.quotes_end;
    }

pub as_parts : (via : ViaDraft) (text : List ℕ) → ViaCut via text → IsVia via text
as_parts via text (inr p) = absurd p.1
as_parts via text (inl p) = by_version p.2.1
  where
    first : trimmed text ≡ p.0.0 ++ (47 ∷ p.0.1)
    first = cut_parts (Byte 47) 47 (λ b e. eqb-true b 47 e) p.0 (trimmed text) p.1

    by_version : BehindProtocol via p.0.1 → IsVia via text
    by_version (inr q) = absurd q.1
    by_version (inl q) =
        let second = cut_parts (Byte 47) 47 (λ b e. eqb-true b 47 e) q.0 p.0.1 q.1 in
        let parts = first ∙ ap (λ (xs : List ℕ). p.0.0 ++ (47 ∷ xs)) second in
        via_parts via text p.0.0 q.0.0 q.0.1 parts p.2.0 q.2.0
        (hop_text via q.0.1 (hop_stays text p.0.0 q.0.0 q.0.1 parts)
        (hop_parts via (trimmed q.0.1) q.2.1))

text_of : (via : ViaDraft) (text gap : List ℕ) (is : IsVia via text) → list_all is_blank gap ≡ true
    → HopText via (gap ++ (via.transport ++ (is.space ++ (via.host ++ (is.port ++ is.parameters)))))
text_of via text gap is blank =
    let rest = via.host ++ (is.port ++ is.parameters) in
    let before : Before via text is.protocol is.slash is.version is.next_slash is.space rest =
    record {
      parts = is.parts;
      protocol_is = is.protocol_is;
      slash_is = is.slash_is;
      version_is = is.version_is;
      next_slash_is = is.next_slash_is;
      transport_is = is.transport_is;
      space_is = is.space_is;
    } in
    let same =
    open_after via text is.protocol is.slash is.version is.next_slash is.space rest before in
    record {
      gap = gap;
      space = is.space;
      port = is.port;
      parameters = is.parameters;
      parts = refl;
      gap_is = blank;
      transport_is = is.transport_is;
      space_is = is.space_is;
      host_is = is.host_is;
      port_is = is.port_is;
      parameters_is = is.parameters_is;
      quotes_end = ap not (sym same) ∙ is.quotes_end;
    }

pub as_cuts : (via : ViaDraft) (text : List ℕ) → IsVia via text → ViaCut via text
as_cuts via text is =
    let slash = mark_text 47 is.slash is.slash_is in
    let next_slash = mark_text 47 is.next_slash is.next_slash_is in
    let rest = via.transport ++ (is.space ++ (via.host ++ (is.port ++ is.parameters))) in
    let hop = next_slash.back ++ rest in
    let protocol = is.protocol ++ slash.front in
    let version = slash.back ++ (is.version ++ next_slash.front) in
    let version_text : slash.back ++ (is.version ++ (is.next_slash ++ rest))
    ≡ version ++ (47 ∷ hop) =
    ap (λ (xs : List ℕ). slash.back ++ (is.version ++ (xs ++ rest))) next_slash.parts
    ∙ sym (mark_regroup slash.back is.version next_slash.front 47 next_slash.back rest) in
    let whole : trimmed text ≡ protocol ++ (47 ∷ (version ++ (47 ∷ hop))) =
    is.parts
    ∙ ap (λ (xs : List ℕ). is.protocol ++ (xs ++ (is.version ++ (is.next_slash ++ rest))))
    slash.parts
    ∙ sym (mark_regroup [] is.protocol slash.front 47 slash.back
    (is.version ++ (is.next_slash ++ rest)))
    ∙ ap (λ (xs : List ℕ). protocol ++ (47 ∷ xs)) version_text in
    let protocol_is : is_like (codes "SIP") protocol ≡ true =
    like_around [] is.protocol slash.front (codes "SIP") refl slash.front_is refl is.protocol_is in
    let version_is : is_like (codes "2.0") version ≡ true =
    like_around slash.back is.version next_slash.front (codes "2.0") slash.back_is
    next_slash.front_is refl is.version_is in
    inl (
      (protocol, version ++ (47 ∷ hop)),
      cut_at (Byte 47) protocol 47 (version ++ (47 ∷ hop)) (trimmed text) whole
          (like_passes (codes "SIP") protocol sip_marks protocol_is) refl,
      (
        protocol_is,
        inl (
          (version, hop),
          cut_at (Byte 47) version 47 hop (version ++ (47 ∷ hop)) refl
              (like_passes (codes "2.0") version version_marks version_is) refl,
          (
            version_is,
            hop_cut via hop (hop_stays text protocol version hop whole)
                (text_of via text next_slash.back is next_slash.back_is),
          ),
        ),
      ),
    )
