-- The texts of the agent's own address in a request keep the rules of their places.
use Rattle.std.proofs.Common.{◌≡◌, ℕ, ◌<◌, Bool, true, false, not, List, [], ◌∷◌, ◌++◌, length, refl, sym, ap, ◌∙◌, IsTrue, codes, decimal, slice_index, arith, eqb}
use Rattle.std.specs.List.{list_all}
use Rattle.std.specs.Char.{is_ascii_digit}
use Rattle.std.proofs.lemmas.Bool.{eqb-true, true≢false, and_parts}
use Rattle.sip_grammar.specs.Host.{is_host, is_host_byte}
use Rattle.sip_grammar.specs.Uri.{is_uri, is_uri_byte}
use Rattle.sip_grammar.proofs.Bytes.{none_of}
use Rattle.sip_message.specs.declared.addr.Addr.{Addr}
use Rattle.sip_message.specs.Ip.{ip_text}
use Rattle.sip_grammar.specs.Parameters.{value_named}
use Rattle.sip_message.specs.Via.{are_vias}
use Rattle.sip_dialog.specs.Branch.{is_branch}
use Rattle.sip_dialog.specs.Request.{agent_via}
pub use Rattle.sip_message.proofs.Stamps.{PassesDigits, ip_passes, ip_nonempty, both, number}

host_digit : PassesDigits is_host_byte
unfolding is_host_byte
host_digit b h = ap not (none_of is_ascii_digit (codes " \t\r\n:;,[\"<>") b refl h)

no_bracket : (b : ℕ) (r : Bool) → eqb b 91 ≡ r → is_host_byte b ≡ true → eqb b 91 ≡ false
unfolding is_host_byte
no_bracket b true is h = absurd (true≢false (sym h ∙ ap is_host_byte (eqb-true b 91 is)))
no_bracket b false is h = is

host_from_bytes : (text : List ℕ) → 0 < length text → list_all is_host_byte text ≡ true
    → is_host text ≡ true
unfolding is_host
host_from_bytes [] some all = absurd (omega arith)
host_from_bytes (b ∷ bs) some all = rw (no_bracket b (eqb b 91) refl (and_parts _ _ all).0) all

pub ip_is_host : (ip : List ℕ) → slice_index ip 0 < 256 → slice_index ip 1 < 256
    → slice_index ip 2 < 256 → slice_index ip 3 < 256 → IsTrue (is_host (ip_text ip))
unfolding is_host_byte
ip_is_host ip p q r s = host_from_bytes (ip_text ip) (ip_nonempty ip s)
    (ip_passes is_host_byte host_digit refl ip p q r s)

uri_digit : PassesDigits is_uri_byte
unfolding is_uri_byte
uri_digit b h = ap not (none_of is_ascii_digit (codes " \t\r\n<>\"") b refl h)

pub own_uri : (ip : List ℕ) (port : ℕ) → slice_index ip 0 < 256 → slice_index ip 1 < 256
    → slice_index ip 2 < 256 → slice_index ip 3 < 256 → port < 65536
    → IsTrue (is_uri (((codes "sip:" ++ ip_text ip) ++ codes ":") ++ decimal port))
unfolding is_uri is_uri_byte
own_uri ip port p q r s t =
    let word : List ℕ = codes "sip:" ++ ip_text ip in
    both is_uri_byte (word ++ codes ":") (decimal port)
    (both is_uri_byte word (codes ":")
    (both is_uri_byte (codes "sip:") (ip_text ip) refl
    (ip_passes is_uri_byte uri_digit refl ip p q r s)) refl)
    (number is_uri_byte uri_digit port (omega arith))

pub own_are_vias : (local : Addr) (branch : List ℕ) → IsTrue (is_branch branch)
    → IsTrue (are_vias (agent_via local branch ∷ []))
unfolding are_vias value_named
own_are_vias local branch rule = (and_parts _ _ rule).1
