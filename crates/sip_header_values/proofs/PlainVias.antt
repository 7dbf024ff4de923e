-- Via values and addresses without white space.
use Rattle.std.proofs.Common.{◌≡◌, ℕ, true, not, codes, List, [], ◌∷◌, ◌++◌, Option, Some, None, refl, sym, ap, ◌∙◌, append_assoc}
use Rattle.std.specs.List.{list_all}
use Rattle.std.proofs.lemmas.Bool.{and_parts}
use Rattle.std.proofs.lemmas.List.{append-nil}
use Rattle.sip_text.specs.Run.{run_before}
use Rattle.sip_text.specs.Token.{is_run, is_token, is_token_byte}
use Rattle.sip_text.specs.declared.separator.Separator.TheVariants.{Anywhere, Blank, Byte, Colon}
use Rattle.sip_text.proofs.Runs.{run_found}
use Rattle.sip_grammar.specs.Host.{is_host, is_host_byte}
use Rattle.sip_grammar.specs.Uri.{is_uri, is_uri_byte}
use Rattle.sip_grammar.specs.Word.{is_word, is_word_byte}
use Rattle.sip_grammar.proofs.Bytes.{none_of}
use Rattle.sip_header_values.specs.Address.{uri_before_bracket}
use Rattle.sip_grammar.specs.Steps.First.{behind, first}
use Rattle.sip_header_values.specs.Numeral.{numeral}
use Rattle.sip_header_values.specs.ViaValue.{SentBy, host_from, port_from, sent_by_from, transport_from}
use Rattle.sip_grammar.proofs.Characters.{full_at, token_bytes}
use Rattle.sip_grammar.proofs.Cuts.{all_imply, run_all}
use Rattle.sip_grammar.proofs.Firsts.{first_ends, first_goes_on, follows}
use Rattle.sip_header_values.proofs.Hosts.{host_passes_colon, host_passes_semicolon, host_solid}
use Rattle.sip_grammar.proofs.Passing.{Passes, all_pass, anywhere_clear, both_pass, class_passes, clear, cut_here, none_here, token_passes_blank}
use Rattle.sip_grammar.proofs.PlainRuns.{token_is}
use Rattle.sip_grammar.proofs.WrittenBytes.{solid_kept, token_solid, uri_solid}

-- ---- hosts and ports

abbrev IsHostRun : List ℕ → Type 0
IsHostRun host = is_run is_host_byte host ≡ true

pub host_is : (host : List ℕ) → IsHostRun host → is_host host ≡ true
unfolding is_host is_host_byte
host_is [] run = absurd cc
host_is (b ∷ bs) run =
    let here = (and_parts (is_host_byte b) (list_all is_host_byte bs) run).0 in
    rw (full_at is_host_byte b 91 refl here) run

host_kept : (host : List ℕ) → IsHostRun host → host_from host ≡ Some host
host_kept host run =
    let is = host_is host run in rw (solid_kept host (host_solid host is), is) refl

token_word : (text : List ℕ) → is_token text ≡ true → is_word text ≡ true
unfolding is_token is_token_byte is_word is_word_byte
token_word [] token = absurd cc
token_word (b ∷ bs) token =
    all_imply is_token_byte is_word_byte
    (λ c passes. ap not (none_of is_token_byte (codes " \t\r\n") c refl passes)) (b ∷ bs) token

port_kept : (port : List ℕ) → is_token port ≡ true
    → port_from port ≡ Some (numeral port)
port_kept port token = rw (solid_kept port (token_solid port token), token_word port token) refl

host_alone : (host : List ℕ) → IsHostRun host → sent_by_from host ≡ Some (host, None)
host_alone host run =
    rw (none_here Colon host (host_passes_colon host (host_is host run)), host_kept host run) refl

host_and_port : (host port : List ℕ) → IsHostRun host → is_token port ≡ true
    → sent_by_from (host ++ (58 ∷ port)) ≡ Some (host, Some (numeral port))
host_and_port host port run token =
    rw (
      cut_here Colon host 58 port (host_passes_colon host (host_is host run)) refl,
      host_kept host run,
      port_kept port token,
    ) refl

port_passes : (host port : List ℕ) → IsHostRun host → is_token port ≡ true
    → Passes (Anywhere 59) (host ++ (58 ∷ port))
unfolding is_token_byte
port_passes host port run token =
    both_pass (Anywhere 59) host (58 ∷ port) (host_passes_semicolon host (host_is host run))
    (all_pass (Anywhere 59) port (all_imply is_token_byte (clear (Anywhere 59))
    (anywhere_clear is_token_byte 59 refl) port (token_bytes port token)))

pub host_first : (text host rest : List ℕ) (next : Option (List ℕ)) → text ≡ host ++ rest
    → IsHostRun host → behind 59 rest ≡ Some next
    → first (Anywhere 59) sent_by_from text ≡ Some ((host, None), next)
host_first text host rest next whole run e =
    ap (first (Anywhere 59) sent_by_from) whole
    ∙ follows (λ (r : List ℕ) (n : Option (List ℕ)).
    first (Anywhere 59) sent_by_from (host ++ r) ≡ Some ((host, None), n)) rest next e
    (ap (first (Anywhere 59) sent_by_from) (append-nil host)
    ∙ first_ends (Anywhere 59) sent_by_from host (host, None)
    (host_passes_semicolon host (host_is host run))
    (host_alone host run))
    (λ after. first_goes_on (Anywhere 59) sent_by_from host 59 after (host, None)
    (host_passes_semicolon host (host_is host run)) refl (host_alone host run))

pub port_first : (text host port rest : List ℕ) (next : Option (List ℕ)) → text ≡ port ++ rest
    → IsHostRun host → is_token port ≡ true → behind 59 rest ≡ Some next
    → first (Anywhere 59) sent_by_from (host ++ (58 ∷ text))
    ≡ Some ((host, Some (numeral port)), next)
port_first text host port rest next whole run token e =
    let value : SentBy = (host, Some (numeral port)) in
    let both = host ++ (58 ∷ port) in
    ap (λ (t : List ℕ). first (Anywhere 59) sent_by_from (host ++ (58 ∷ t))) whole
    ∙ follows (λ (r : List ℕ) (n : Option (List ℕ)).
    first (Anywhere 59) sent_by_from (host ++ (58 ∷ (port ++ r)))
    ≡ Some ((host, Some (numeral port)), n)) rest next e
    (ap (λ (t : List ℕ). first (Anywhere 59) sent_by_from (host ++ (58 ∷ t))) (append-nil port)
    ∙ first_ends (Anywhere 59) sent_by_from both value (port_passes host port run token)
    (host_and_port host port run token))
    (λ after. ap (first (Anywhere 59) sent_by_from)
    (sym (append_assoc host (58 ∷ port) (59 ∷ after)))
    ∙ first_goes_on (Anywhere 59) sent_by_from both 59 after value
    (port_passes host port run token) refl (host_and_port host port run token))

-- ---- a transport and a URI, up to the byte that ends it

pub transport_first : (text : List ℕ) (p : List ℕ × List ℕ)
    → run_before is_token_byte 32 text ≡ Some p → transport_from text ≡ Some p
transport_first text p e =
    let run = run_found is_token_byte 32 text p e in
    let token = token_is p.0 run.run_is in
    ap transport_from run.parts
    ∙ rw (cut_here Blank p.0 32 p.1 (token_passes_blank p.0 token) refl, token) refl

pub transport_token : (text : List ℕ) (p : List ℕ × List ℕ)
    → run_before is_token_byte 32 text ≡ Some p → is_token p.0 ≡ true
transport_token text p e = token_is p.0 (run_found is_token_byte 32 text p e).run_is

uri_is : (text : List ℕ) → is_run is_uri_byte text ≡ true → is_uri text ≡ true
unfolding is_uri
uri_is text run = run

pub uri_first : (text : List ℕ) (p : List ℕ × List ℕ) → run_before is_uri_byte 62 text ≡ Some p
    → uri_before_bracket text ≡ Some p
unfolding is_uri_byte
uri_first text p e =
    let run = run_found is_uri_byte 62 text p e in
    let uri = uri_is p.0 run.run_is in
    let passes = class_passes is_uri_byte 62 refl refl refl p.0 (run_all is_uri_byte p.0 run.run_is)
    in
    ap uri_before_bracket run.parts
    ∙ rw (
      cut_here (Byte 62) p.0 62 p.1 passes refl,
      solid_kept p.0 (uri_solid p.0 uri),
      uri,
    ) refl

pub uri_found : (text : List ℕ) (p : List ℕ × List ℕ) → run_before is_uri_byte 62 text ≡ Some p
    → is_uri p.0 ≡ true
uri_found text p e = uri_is p.0 (run_found is_uri_byte 62 text p e).run_is
