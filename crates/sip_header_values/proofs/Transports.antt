-- The transport of a Via value and what follows it: cut at separators, and as parts.
use Rattle.std.proofs.Common.{◌≡◌, inl, inr, ℕ, Bool, true, not, List, [], ◌∷◌, ◌++◌, refl, sym, ap, subst, ◌∙◌, append_assoc}
use Rattle.std.specs.List.{list_all}
use Rattle.std.proofs.lemmas.Bool.{and_parts, and_from}
use Rattle.std.proofs.lemmas.List.Folds.{list_all-append}
use Rattle.sip_text.specs.Character.{is_blank, is_token_byte}
use Rattle.sip_text.specs.Forms.{Passing, Never, Of, Guarded, Told, Both, OnCut}
use Rattle.sip_text.specs.OpenQuote.{has_open_quote}
use Rattle.sip_text.specs.Token.{is_run, is_token}
use Rattle.sip_text.specs.Trimmed.{trimmed, trimmed_start, trimmed_end}
use Rattle.sip_text.specs.declared.separator.Separator.TheVariants.{Byte, Blank}
use Rattle.sip_grammar.specs.Host.{is_host}
use Rattle.sip_grammar.specs.declared.parameter.Parameter.{Parameter}
use Rattle.sip_grammar.specs.ParameterValues.{AllParameters}
use Rattle.sip_header_values.specs.ViaValue.{SentBy, IsPortPart, is_closed, via_of}
use Rattle.sip_header_values.specs.declared.via.ViaDraft.{ViaDraft}
use Rattle.sip_grammar.proofs.Blanks.{End, end_behind_byte, end_tail, full_starts, start_gap, start_past, start_stays}
use Rattle.sip_grammar.proofs.Characters.{token_full, token_run}
use Rattle.sip_grammar.proofs.Cuts.{all_imply}
use Rattle.sip_header_values.proofs.Hosts.{host_solid}
use Rattle.sip_header_values.proofs.Marks.{stops_here, cut_at, comma_clear, blanks_pass}
use Rattle.sip_grammar.proofs.Passing.{token_passes_blank}
use Rattle.sip_header_values.proofs.Quotes.{open_behind}
use Rattle.sip_header_values.proofs.SentBys.{EndCut, EndParts, end_parts, end_cut}
use Rattle.sip_grammar.proofs.WrittenBytes.{is_solid, solid_full}

-- the transport, a blank, and what follows it
abbrev pub HopCut : ViaDraft → List ℕ → Type 0
HopCut via text =
    OnCut Blank (Told via_of (Both (Passing is_token) (Of (Guarded is_closed EndCut) trimmed)))
    Never via text

-- the transport, a blank and the end
pub record HopParts (via : ViaDraft) (text : List ℕ) : Type 0 where
  pub blank : ℕ
  pub end : List ℕ
  pub parts : text ≡ via.transport ++ (blank ∷ end)
  pub transport_is : is_token via.transport ≡ true
  pub blank_is : is_blank blank ≡ true
  pub quotes_end : is_closed (trimmed end) ≡ true
  pub end_is : EndParts ((via.host, via.port), via.parameters) (trimmed end)

pub hop_parts : (via : ViaDraft) (text : List ℕ) → HopCut via text → HopParts via text
hop_parts via text (inr p) = absurd p.1
hop_parts via text (inl p) =
    let cut = p.1 in
    let told = p.2 in
    let token = told.2.0 in
    subst (λ (v : ViaDraft). HopParts v text) (sym told.1) (record {
      blank = cut.byte;
      end = p.0.1;
      parts = cut.together ∙ ap (λ (xs : List ℕ). xs ++ (cut.byte ∷ p.0.1)) (sym token.0);
      transport_is = ap is_token token.0 ∙ token.1;
      blank_is = stops_here Blank cut.last cut.byte cut.stops;
      quotes_end = told.2.1.0;
      end_is = end_parts told.0.1 (trimmed p.0.1) told.2.1.1;
    })

-- what follows the second slash
pub record HopText (via : ViaDraft) (text : List ℕ) : Type 0 where
  pub gap : List ℕ
  pub space : List ℕ
  pub port : List ℕ
  pub parameters : List ℕ
  pub parts : text ≡ gap ++ (via.transport ++ (space ++ (via.host ++ (port ++ parameters))))
  pub gap_is : list_all is_blank gap ≡ true
  pub transport_is : is_token via.transport ≡ true
  pub space_is : is_run is_blank space ≡ true
  pub host_is : is_host via.host ≡ true
  pub port_is : IsPortPart via.port port
  pub parameters_is : AllParameters via.parameters parameters
  pub quotes_end : is_closed (via.host ++ (port ++ parameters)) ≡ true

pub hop_text : (via : ViaDraft) (text : List ℕ) → End text → HopParts via (trimmed text)
    → HopText via text
hop_text via text stays hop =
    let end = hop.end_is in
    let rest = via.host ++ (end.port ++ end.parameters) in
    let start = start_gap text in
    let kept : trimmed text ≡ trimmed_start text = start_stays text stays in
    let hop_is = sym kept ∙ hop.parts in
    let behind = start_gap hop.end in
    let behind_kept : trimmed hop.end ≡ trimmed_start hop.end =
    start_stays hop.end
    (end_behind_byte via.transport hop.blank hop.end
    (subst (λ (xs : List ℕ). End xs) hop_is kept)) in
    let end_is : hop.end ≡ (behind.gap ++ end.front) ++ rest =
    behind.parts ∙ ap (λ (xs : List ℕ). behind.gap ++ xs) (sym behind_kept ∙ end.parts)
    ∙ sym (append_assoc behind.gap end.front rest) in
    record {
      gap = start.gap;
      space = hop.blank ∷ (behind.gap ++ end.front);
      port = end.port;
      parameters = end.parameters;
      parts = start.parts ∙ ap (λ (xs : List ℕ). start.gap ++ xs)
          (hop_is ∙ ap (λ (xs : List ℕ). via.transport ++ (hop.blank ∷ xs)) end_is);
      gap_is = start.gap_is;
      transport_is = hop.transport_is;
      space_is = and_from _ _ hop.blank_is (list_all-append is_blank behind.gap end.front
          ∙ and_from _ _ behind.gap_is end.front_is);
      host_is = end.host_is;
      port_is = end.port_is;
      parameters_is = end.parameters_is;
      quotes_end = ap not (sym (open_behind 44 end.front rest
          (blanks_pass (Byte 44) comma_clear end.front end.front_is))
          ∙ ap has_open_quote (sym end.parts))
          ∙ hop.quotes_end;
    }

-- ---- and back

run_implies : (p q : ℕ → Bool) → ((b : ℕ) → p b ≡ true → q b ≡ true) → (text : List ℕ)
    → is_run p text ≡ true → is_run q text ≡ true
run_implies p q implies [] run = absurd cc
run_implies p q implies (b ∷ bs) run = all_imply p q implies (b ∷ bs) run

token_is_full : (text : List ℕ) → is_token text ≡ true → is_run (λ b. not (is_blank b)) text ≡ true
token_is_full text token =
    run_implies is_token_byte (λ b. not (is_blank b)) (λ b p. ap not (token_full b p)) text
    (token_run text token)

host_is_full : (host : List ℕ) → is_host host ≡ true → is_run (λ b. not (is_blank b)) host ≡ true
unfolding is_host
host_is_full [] is = absurd cc
host_is_full (b ∷ bs) is =
    all_imply is_solid (λ c. not (is_blank c)) solid_full (b ∷ bs) (host_solid (b ∷ bs) is)

-- more blanks may follow the first one
space_cut : (via : ViaDraft) (text space rest : List ℕ) → is_token via.transport ≡ true
    → is_run is_blank space ≡ true → text ≡ via.transport ++ (space ++ rest)
    → trimmed_start rest ≡ rest → End rest
    → Guarded is_closed EndCut ((via.host, via.port), via.parameters) rest → HopCut via text
space_cut via text [] rest token blanks parts starts stays end = absurd cc
space_cut via text (b ∷ bs) rest token blanks parts starts stays end =
    let both = and_parts (is_blank b) (list_all is_blank bs) blanks in
    let value : SentBy × List Parameter = ((via.host, via.port), via.parameters) in
    let kept : trimmed (bs ++ rest) ≡ rest =
    ap trimmed_end (start_past bs rest both.1 ∙ starts) ∙ stays in
    inl (
      (via.transport, bs ++ rest),
      cut_at Blank via.transport b (bs ++ rest) text parts (token_passes_blank via.transport token)
          both.0,
      (
        (via.transport, value),
        refl,
        (
          (refl, token),
          subst (λ (xs : List ℕ). Guarded is_closed EndCut value xs) (sym kept) end,
        ),
      ),
    )

pub hop_cut : (via : ViaDraft) (text : List ℕ) → End text → HopText via text
    → HopCut via (trimmed text)
hop_cut via text stays is =
    let rest = via.host ++ (is.port ++ is.parameters) in
    let behind = via.transport ++ (is.space ++ rest) in
    let stays_behind : End behind =
    end_tail is.gap behind (subst (λ (xs : List ℕ). End xs) is.parts stays) in
    let rest_stays : End rest =
    end_tail is.space rest (end_tail via.transport (is.space ++ rest) stays_behind) in
    let whole : trimmed text ≡ behind =
    start_stays text stays ∙ ap trimmed_start is.parts ∙ start_past is.gap behind is.gap_is
    ∙ full_starts via.transport (is.space ++ rest)
    (token_is_full via.transport is.transport_is) in
    space_cut via (trimmed text) is.space rest is.transport_is is.space_is whole
    (full_starts via.host (is.port ++ is.parameters) (host_is_full via.host is.host_is))
    rest_stays (
      is.quotes_end,
      end_cut via.host via.port via.parameters is.port is.parameters is.host_is is.port_is
          is.parameters_is,
    )
