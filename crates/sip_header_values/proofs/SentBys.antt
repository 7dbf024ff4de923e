-- A host, its port and the parameters after them, cut from left to right, are the parts in order.
use Rattle.std.proofs.Common.{◌≡◌, inl, inr, ℕ, true, not, eqb, List, [], ◌∷◌, ◌++◌, Option, Some, None, refl, sym, ap, subst, ◌∙◌, append_assoc}
use Rattle.std.specs.List.{list_all}
use Rattle.std.proofs.lemmas.Bool.{and_parts, eqb-true}
use Rattle.std.proofs.lemmas.List.Folds.{list_all-append}
use Rattle.sip_text.specs.Character.{is_blank}
use Rattle.sip_text.specs.Forms.{Passing, Of, Told, Both, OnCut}
use Rattle.sip_text.specs.Lines.{has_no}
use Rattle.sip_text.specs.Trimmed.{trimmed}
use Rattle.sip_text.specs.declared.separator.Separator.TheVariants.{Byte, Anywhere, Colon}
use Rattle.sip_text.specs.declared.separator.Place.TheVariants.{Plain}
use Rattle.sip_grammar.specs.Host.{is_host}
use Rattle.sip_grammar.specs.declared.parameter.Parameter.{Parameter}
use Rattle.sip_header_values.specs.Numeral.{IsNumeral}
use Rattle.sip_grammar.specs.ParameterValues.{AllParameters, ManyParameters}
use Rattle.sip_header_values.specs.ViaValue.{SentBy, IsPortPart, with_port, sent_by_alone, without_port}
use Rattle.sip_header_values.specs.declared.numeral.Numeral.{Numeral}
use Rattle.sip_grammar.proofs.Blanks.{around, around_trimmed, trimmed_past}
use Rattle.sip_header_values.proofs.Hosts.{host_passes_colon, host_passes_semicolon, host_solid}
use Rattle.sip_header_values.proofs.Marks.{cut_parts, cut_at, none_before, none_passes, parameter_clear, semicolon_clear, colon_clear, blanks_pass, mark_text, mark_is, mark_passes, mark_regroup}
use Rattle.sip_grammar.proofs.Passing.{Passes, both_pass}
use Rattle.sip_grammar.proofs.WrittenBytes.{solid_kept, word_solid}

-- ---- the forms by cuts

-- a host, with blanks allowed around it
abbrev pub HostCut : List ℕ → List ℕ → Type 0
HostCut host text = Of (Passing is_host) trimmed host text

-- a port, with blanks allowed around it
abbrev pub PortCut : Numeral → List ℕ → Type 0
PortCut port text = Of IsNumeral trimmed port text

-- a host, a colon outside brackets and a port, or only a host
abbrev pub SentByCut : SentBy → List ℕ → Type 0
SentByCut sent_by text = OnCut Colon (Told with_port (Both HostCut PortCut))
    (Told without_port HostCut) sent_by text

-- the same, and parameters after the first semicolon
abbrev pub EndCut : SentBy × List Parameter → List ℕ → Type 0
EndCut end text = OnCut (Anywhere 59) (Both SentByCut ManyParameters)
    (Told sent_by_alone SentByCut) end text

-- ---- the host and the port

no_part : (c : ℕ) (front word back : List ℕ) → has_no c (front ++ (word ++ back)) ≡ true
    → has_no c word ≡ true
no_part c front word back none =
    let behind = and_parts (has_no c front) (has_no c (word ++ back))
    (sym (list_all-append (λ b. not (eqb b c)) front (word ++ back)) ∙ none) in
    let both = and_parts (has_no c word) (has_no c back)
    (sym (list_all-append (λ b. not (eqb b c)) word back) ∙ behind.1) in
    both.0

record SentByParts (sent_by : SentBy) (text : List ℕ) : Type 0 where
  pub front : List ℕ
  pub port : List ℕ
  pub back : List ℕ
  pub parts : text ≡ front ++ (sent_by.0 ++ (port ++ back))
  pub front_is : list_all is_blank front ≡ true
  pub back_is : list_all is_blank back ≡ true
  pub host_is : is_host sent_by.0 ≡ true
  pub port_is : IsPortPart sent_by.1 port

host_and_port : (host_text port_text text : List ℕ) (port : Numeral)
    → text ≡ host_text ++ (58 ∷ port_text) → has_no 59 text ≡ true
    → is_host (trimmed host_text) ≡ true → IsNumeral port (trimmed port_text)
    → SentByParts (trimmed host_text, Some port) text
host_and_port host_text port_text text port parts none host_is port_is =
    let host = around host_text in
    let word = around port_text in
    let colon = host.back ++ (58 ∷ word.front) in
    let behind = and_parts (has_no 59 host_text) (has_no 59 (58 ∷ port_text))
    (sym (list_all-append (λ b. not (eqb b 59)) host_text (58 ∷ port_text))
    ∙ ap (has_no 59) (sym parts) ∙ none) in
    record {
      front = host.front;
      port = colon ++ trimmed port_text;
      back = word.back;
      parts = parts ∙ ap (λ (xs : List ℕ). xs ++ (58 ∷ port_text)) host.parts
          ∙ ap (λ (xs : List ℕ). (host.front ++ (trimmed host_text ++ host.back)) ++ (58 ∷ xs))
          word.parts
          ∙ mark_regroup host.front (trimmed host_text) host.back 58 word.front
          (trimmed port_text ++ word.back)
          ∙ ap (λ (xs : List ℕ). host.front ++ (trimmed host_text ++ xs))
          (sym (append_assoc colon (trimmed port_text) word.back));
      front_is = host.front_is;
      back_is = word.back_is;
      host_is = host_is;
      port_is = record {
        colon = colon;
        word = trimmed port_text;
        parts = refl;
        colon_is = mark_is host.back 58 word.front host.back_is word.front_is refl;
        word_is = port_is;
        no_semicolon = no_part 59 word.front (trimmed port_text) word.back
            (ap (has_no 59) (sym word.parts) ∙ behind.1);
      };
    }

sent_by_parts : (sent_by : SentBy) (text : List ℕ) → has_no 59 text ≡ true
    → SentByCut sent_by text → SentByParts sent_by text
sent_by_parts sent_by text none (inl p) =
    let told = p.2 in
    let found = host_and_port p.0.0 p.0.1 text told.0.1
    (cut_parts Colon 58 (λ b e. eqb-true b 58 e) p.0 text p.1) none told.2.0.1 told.2.1 in
    subst (λ (s : SentBy). SentByParts s text) (sym told.1)
    (subst (λ (h : List ℕ). SentByParts (h, Some told.0.1) text) (sym told.2.0.0) found)
sent_by_parts sent_by text none (inr p) =
    let told = p.1 in
    let host = around text in
    let found : SentByParts (trimmed text, None) text = record {
      front = host.front;
      port = [];
      back = host.back;
      parts = host.parts;
      front_is = host.front_is;
      back_is = host.back_is;
      host_is = told.2.1;
      port_is = refl;
    } in
    subst (λ (s : SentBy). SentByParts s text) (sym told.1)
    (subst (λ (h : List ℕ). SentByParts (h, None) text) (sym told.2.0) found)

host_kept : (host : List ℕ) → is_host host ≡ true → trimmed host ≡ host
host_kept host is = solid_kept host (host_solid host is)

host_cut : (host gap : List ℕ) → is_host host ≡ true → list_all is_blank gap ≡ true
    → HostCut host (host ++ gap)
host_cut host gap is blank =
    let kept = trimmed_past host gap blank ∙ host_kept host is in
    (sym kept, ap is_host kept ∙ is)

port_cut : (port : Numeral) (front word back : List ℕ) → list_all is_blank front ≡ true
    → list_all is_blank back ≡ true → IsNumeral port word
    → PortCut port (front ++ (word ++ back))
port_cut port front word back front_is back_is is =
    subst (λ (xs : List ℕ). IsNumeral port xs)
    (sym (around_trimmed front word back front_is back_is
    (solid_kept word (word_solid word is.2.1)))) is

sent_by_cut : (host : List ℕ) (port : Option Numeral) (part gap : List ℕ) → is_host host ≡ true
    → IsPortPart port part → list_all is_blank gap ≡ true
    → SentByCut (host, port) (host ++ (part ++ gap))
sent_by_cut host None part gap is none blank =
    subst (λ (xs : List ℕ). SentByCut (host, None) (host ++ (xs ++ gap))) (sym none)
    (inr (
      record {
        last = Plain;
        none = both_pass Colon host gap (host_passes_colon host is)
            (blanks_pass Colon colon_clear gap blank);
      },
      (host, refl, host_cut host gap is blank),
    ))
sent_by_cut host (Some port) part gap is part_is blank =
    let word = part_is.word in
    let colon = mark_text 58 part_is.colon part_is.colon_is in
    let whole : host ++ (part ++ gap)
    ≡ (host ++ colon.front) ++ (58 ∷ (colon.back ++ (word ++ gap))) =
    ap (λ (xs : List ℕ). host ++ (xs ++ gap)) part_is.parts
    ∙ ap (λ (xs : List ℕ). host ++ xs) (append_assoc part_is.colon word gap
    ∙ ap (λ (xs : List ℕ). xs ++ (word ++ gap)) colon.parts)
    ∙ sym (mark_regroup [] host colon.front 58 colon.back (word ++ gap)) in
    inl (
      (host ++ colon.front, colon.back ++ (word ++ gap)),
      cut_at Colon (host ++ colon.front) 58 (colon.back ++ (word ++ gap)) (host ++ (part ++ gap))
          whole (both_pass Colon host colon.front (host_passes_colon host is)
          (blanks_pass Colon colon_clear colon.front colon.front_is)) refl,
      (
        (host, port),
        refl,
        (
          host_cut host colon.front is colon.front_is,
          port_cut port colon.back word gap colon.back_is blank part_is.word_is,
        ),
      ),
    )

port_passes : (port : Option Numeral) (part : List ℕ) → IsPortPart port part
    → Passes (Anywhere 59) part
port_passes None part none = subst (λ (xs : List ℕ). Passes (Anywhere 59) xs) (sym none) refl
port_passes (Some port) part is =
    subst (λ (xs : List ℕ). Passes (Anywhere 59) xs) (sym is.parts)
    (both_pass (Anywhere 59) is.colon is.word
    (mark_passes (Anywhere 59) semicolon_clear 58 refl is.colon is.colon_is)
    (none_passes 59 is.word is.no_semicolon))

sent_by_passes : (host : List ℕ) (port : Option Numeral) (part gap : List ℕ)
    → is_host host ≡ true → IsPortPart port part → list_all is_blank gap ≡ true
    → Passes (Anywhere 59) (host ++ (part ++ gap))
sent_by_passes host port part gap is part_is blank =
    both_pass (Anywhere 59) host (part ++ gap) (host_passes_semicolon host is)
    (both_pass (Anywhere 59) part gap (port_passes port part part_is)
    (blanks_pass (Anywhere 59) semicolon_clear gap blank))

-- ---- the parameters

pub record EndParts (end : SentBy × List Parameter) (text : List ℕ) : Type 0 where
  pub front : List ℕ
  pub port : List ℕ
  pub parameters : List ℕ
  pub parts : text ≡ front ++ (end.0.0 ++ (port ++ parameters))
  pub front_is : list_all is_blank front ≡ true
  pub host_is : is_host end.0.0 ≡ true
  pub port_is : IsPortPart end.0.1 port
  pub parameters_is : AllParameters end.1 parameters

no_parameters : (gap : List ℕ) → list_all is_blank gap ≡ true → AllParameters [] gap
no_parameters gap blank =
    inr (
      record { last = Plain; none = blanks_pass (Byte 59) parameter_clear gap blank },
      (blank, refl),
    )

some_parameters : (parameters : List Parameter) (gap text : List ℕ) → list_all is_blank gap ≡ true
    → ManyParameters parameters text → AllParameters parameters (gap ++ (59 ∷ text))
some_parameters parameters gap text blank many =
    inl (
      (gap, text),
      cut_at (Byte 59) gap 59 text (gap ++ (59 ∷ text)) refl
          (blanks_pass (Byte 59) parameter_clear gap blank) refl,
      (blank, many),
    )

pub end_parts : (end : SentBy × List Parameter) (text : List ℕ) → EndCut end text
    → EndParts end text
end_parts end text (inl p) =
    let found = sent_by_parts end.0 p.0.0 (none_before 59 p.1.last p.0.0 p.1.none) p.2.0 in
    let rest = 59 ∷ p.0.1 in
    record {
      front = found.front;
      port = found.port;
      parameters = found.back ++ rest;
      parts = cut_parts (Anywhere 59) 59 (λ b e. eqb-true b 59 e) p.0 text p.1
          ∙ ap (λ (xs : List ℕ). xs ++ rest) found.parts
          ∙ append_assoc found.front (end.0.0 ++ (found.port ++ found.back)) rest
          ∙ ap (λ (xs : List ℕ). found.front ++ xs)
          (append_assoc end.0.0 (found.port ++ found.back) rest
          ∙ ap (λ (xs : List ℕ). end.0.0 ++ xs) (append_assoc found.port found.back rest));
      front_is = found.front_is;
      host_is = found.host_is;
      port_is = found.port_is;
      parameters_is = some_parameters end.1 found.back p.0.1 found.back_is p.2.1;
    }
end_parts end text (inr p) =
    let told = p.1 in
    let found = sent_by_parts told.0 text (none_before 59 p.0.last text p.0.none) told.2 in
    subst (λ (e : SentBy × List Parameter). EndParts e text) (sym told.1) (record {
      front = found.front;
      port = found.port;
      parameters = found.back;
      parts = found.parts;
      front_is = found.front_is;
      host_is = found.host_is;
      port_is = found.port_is;
      parameters_is = no_parameters found.back found.back_is;
    })

-- the parts are cut where the parameters begin
pub end_cut : (host : List ℕ) (port : Option Numeral) (parameters : List Parameter)
    (part rest : List ℕ) → is_host host ≡ true → IsPortPart port part
    → AllParameters parameters rest → EndCut ((host, port), parameters) (host ++ (part ++ rest))
end_cut host port parameters part rest is part_is (inl q) =
    let gap = q.0.0 in
    let blank = q.2.0 in
    let cut = cut_parts (Byte 59) 59 (λ b e. eqb-true b 59 e) q.0 rest q.1 in
    let whole : host ++ (part ++ rest) ≡ (host ++ (part ++ gap)) ++ (59 ∷ q.0.1) =
    ap (λ (xs : List ℕ). host ++ (part ++ xs)) cut
    ∙ ap (λ (xs : List ℕ). host ++ xs) (sym (append_assoc part gap (59 ∷ q.0.1)))
    ∙ sym (append_assoc host (part ++ gap) (59 ∷ q.0.1)) in
    inl (
      (host ++ (part ++ gap), q.0.1),
      cut_at (Anywhere 59) (host ++ (part ++ gap)) 59 q.0.1 (host ++ (part ++ rest)) whole
          (sent_by_passes host port part gap is part_is blank) refl,
      (sent_by_cut host port part gap is part_is blank, q.2.1),
    )
end_cut host port parameters part rest is part_is (inr q) =
    let blank = q.1.0 in
    inr (
      record { last = Plain; none = sent_by_passes host port part rest is part_is blank },
      (
        (host, port),
        ap (λ (ps : List Parameter). ((host, port), ps)) q.1.1,
        sent_by_cut host port part rest is part_is blank,
      ),
    )
