-- What is written for Via values is read as these.
use Rattle.std.proofs.Common.{◌≡◌, ◌^◌, ◌<◌, ℕ, true, false, cond, not, eqb, List, [], ◌∷◌, ◌++◌, codes, decimal, Option, Some, None, refl, ap, subst, ◌∙◌, append_assoc, arith}
use Rattle.std.specs.Prelude.{option_and_then, IfSome}
use Rattle.std.specs.Char.{is_ascii_digit}
use Rattle.std.specs.Option.{option_map}
use Rattle.sip_text.specs.OpenQuote.{has_open_quote, is_in_quotes}
use Rattle.sip_text.specs.Trimmed.{trimmed}
use Rattle.sip_text.specs.declared.separator.Separator.TheVariants.{Byte}
use Rattle.sip_text.specs.declared.separator.Place.TheVariants.{Plain}
use Rattle.sip_grammar.specs.Host.{is_host}
use Rattle.sip_message.specs.declared.via.Via.{Via}
use Rattle.sip_message.specs.Written.{parameters_text, port_text, via_text}
use Rattle.sip_header_values.specs.declared.numeral.Numeral.TheVariants.{Number}
use Rattle.sip_header_values.specs.ViaValue as via
use Rattle.sip_headers.specs.Numbers.{via_draft}
use Rattle.sip_message.specs.Rules.{IsVia}
use Rattle.sip_grammar.proofs.Blanks.{End}
use Rattle.sip_grammar.proofs.Cuts.{none_of, run_all}
use Rattle.sip_header_values.proofs.Hosts.{host_solid, host_passes_comma}
use Rattle.sip_grammar.proofs.Passing.{Passes, both_pass, class_passes, comma_marks}
use Rattle.sip_header_values.proofs.Quotes.{place_is}
use Rattle.sip_header_values.proofs.Rows.{all_reads, numeral_reads, via_reads}
use Rattle.sip_grammar.proofs.WrittenBytes.{solid, token_solid, solid_both, solid_line, solid_end, decimal_digits}
use Rattle.sip_grammar.proofs.TextEnds.{Full, end_behind, plain_both, end_after, full_front, Again, moved}
use Rattle.sip_headers.proofs.WrittenAddresses.{one_of_list}
use Rattle.sip_headers.proofs.WrittenNumbers.{decimal_read, decimal_solid}
use Rattle.sip_grammar.proofs.WrittenParameters.{all_again, parameters_pass, parameters_plain, parameters_end}
use Rattle.sip_headers.proofs.WrittenTokens.{token_passes_comma}

host_full : (host : List ℕ) → is_host host ≡ true → Full host
unfolding is_host
host_full [] is e = absurd cc
host_full (b ∷ bs) is e = absurd cc

abbrev GoodPort : Option ℕ → Type 0
GoodPort port = IfSome port (λ n. n < 2 ^ 16)

abbrev sent_by : List ℕ → Option ℕ → List ℕ
sent_by host port = host ++ port_text port

port_part : (port : Option ℕ) → GoodPort port
    → via.IsPortPart (option_map (λ n. Number n) port) (port_text port)
port_part None good = refl
port_part (Some n) good =
    let digits = run_all is_ascii_digit (decimal n) (decimal_digits n (omega (arith, good))) in
    record {
      colon = 58 ∷ [];
      word = decimal n;
      parts = refl;
      colon_is = refl;
      word_is = numeral_reads.takes (decimal n) (Number n) (decimal_read n (omega (arith, good)));
      no_semicolon = none_of is_ascii_digit 59 refl (decimal n) digits;
    }

port_passes : (c : ℕ) → is_ascii_digit c ≡ false → eqb 58 c ≡ false → (port : Option ℕ)
    → GoodPort port → Passes (Byte c) (port_text port)
port_passes c digit colon None good = refl
port_passes c digit colon (Some n) good =
    both_pass (Byte c) (58 ∷ []) (decimal n)
    (ap (λ r. option_and_then (λ p. Some p) (cond r None (Some Plain))) colon)
    (class_passes is_ascii_digit c digit refl refl (decimal n)
    (run_all is_ascii_digit (decimal n) (decimal_digits n (omega (arith, good)))))

ends_closed : (text : List ℕ) → Passes (Byte 44) text → via.is_closed text ≡ true
unfolding has_open_quote
ends_closed text passes = ap (λ p. not (is_in_quotes p)) (place_is 44 Plain Plain text passes)

port_solid : (port : Option ℕ) → GoodPort port → solid (port_text port) ≡ true
port_solid None good = refl
port_solid (Some n) good = decimal_solid n (omega (arith, good))

sent_by_solid : (host : List ℕ) (port : Option ℕ) → is_host host ≡ true → GoodPort port
    → solid (sent_by host port) ≡ true
sent_by_solid host port is good =
    solid_both host (port_text port) (host_solid host is) (port_solid port good)

abbrev hop_text : Via → List ℕ
hop_text v = v.transport ++ (32 ∷ (sent_by v.host v.port ++ parameters_text v.parameters))

abbrev shown_via : Via → List ℕ
shown_via v = codes "SIP/2.0/" ++ hop_text v

via_regroup : (a t h p q : List ℕ)
    → ((((a ++ t) ++ (32 ∷ [])) ++ h) ++ p) ++ q ≡ a ++ (t ++ (32 ∷ ((h ++ p) ++ q)))
via_regroup a t h p q =
    ap (λ (xs : List ℕ). xs ++ q) (append_assoc ((a ++ t) ++ (32 ∷ [])) h p)
    ∙ append_assoc ((a ++ t) ++ (32 ∷ [])) (h ++ p) q
    ∙ append_assoc (a ++ t) (32 ∷ []) ((h ++ p) ++ q)
    ∙ append_assoc a t (32 ∷ ((h ++ p) ++ q))

via_is : (v : Via) → via_text v ≡ shown_via v
unfolding via_text
via_is v = via_regroup (codes "SIP/2.0/") v.transport v.host (port_text v.port)
    (parameters_text v.parameters)

tail_end : (v : Via) → IsVia v → End (sent_by v.host v.port ++ parameters_text v.parameters)
tail_end v is =
    parameters_end (sent_by v.host v.port) v.parameters is.parameters
    (solid_end (sent_by v.host v.port) (sent_by_solid v.host v.port is.host is.port))

tail_full : (v : Via) → IsVia v → Full (sent_by v.host v.port ++ parameters_text v.parameters)
tail_full v is =
    full_front (sent_by v.host v.port) (parameters_text v.parameters)
    (full_front v.host (port_text v.port) (host_full v.host is.host))

hop_end : (v : Via) → IsVia v → End (hop_text v)
hop_end v is =
    subst (λ (xs : List ℕ). End xs)
    (append_assoc v.transport (32 ∷ []) (sent_by v.host v.port ++ parameters_text v.parameters))
    (end_behind (v.transport ++ (32 ∷ [])) (sent_by v.host v.port ++ parameters_text v.parameters)
    (tail_full v is) (tail_end v is))

shown_end : (v : Via) → IsVia v → End (shown_via v)
shown_end v is = end_after (codes "SIP/2.0/") (hop_text v) refl (hop_end v is)

shown_kept : (v : Via) → IsVia v → trimmed (shown_via v) ≡ shown_via v
shown_kept v is = shown_end v is

via_passes : (v : Via) → IsVia v → Passes (Byte 44) (shown_via v)
via_passes v is =
    both_pass (Byte 44) (codes "SIP/2.0/") (hop_text v) refl
    (both_pass (Byte 44) v.transport (32 ∷ (sent_by v.host v.port ++ parameters_text v.parameters))
    (token_passes_comma v.transport is.transport)
    (both_pass (Byte 44) (32 ∷ sent_by v.host v.port) (parameters_text v.parameters)
    (both_pass (Byte 44) v.host (port_text v.port) (host_passes_comma v.host is.host)
    (port_passes 44 refl refl v.port is.port))
    (parameters_pass 44 comma_marks refl v.parameters is.parameters)))

via_spelled : (v : Via) → IsVia v → via.IsVia (via_draft v) (shown_via v)
via_spelled v is = record {
  protocol = codes "SIP";
  slash = 47 ∷ [];
  version = codes "2.0";
  next_slash = 47 ∷ [];
  space = 32 ∷ [];
  port = port_text v.port;
  parameters = parameters_text v.parameters;
  parts = shown_kept v is
      ∙ ap (λ (xs : List ℕ). codes "SIP/2.0/" ++ (v.transport ++ (32 ∷ xs)))
      (append_assoc v.host (port_text v.port) (parameters_text v.parameters));
  protocol_is = refl;
  slash_is = refl;
  version_is = refl;
  next_slash_is = refl;
  transport_is = is.transport;
  space_is = refl;
  host_is = is.host;
  port_is = port_part v.port is.port;
  parameters_is = all_reads.takes (parameters_text v.parameters) v.parameters
      (all_again v.parameters is.parameters);
  quotes_end = ends_closed (shown_via v) (via_passes v is);
}

via_read : (v : Via) → IsVia v → via.via_from (shown_via v) ≡ Some (via_draft v)
via_read v is = via_reads.again (shown_via v) (via_draft v) (via_spelled v is)

pub via_again : (v : Via) → IsVia v → Again via.vias_from (via_draft v ∷ []) (via_text v)
via_again v is =
    moved (via_is v) (record {
      read = one_of_list via.via_from (via_draft v) (shown_via v) (via_passes v is) (via_read v is);
      good = record {
        kept = shown_kept v is;
        plain = plain_both (codes "SIP/2.0/") (hop_text v) refl
            (plain_both v.transport (32 ∷ (sent_by v.host v.port ++ parameters_text v.parameters))
            (solid_line v.transport (token_solid v.transport is.transport))
            (plain_both (sent_by v.host v.port) (parameters_text v.parameters)
            (solid_line (sent_by v.host v.port) (sent_by_solid v.host v.port is.host is.port))
            (parameters_plain v.parameters is.parameters)));
      };
    })
