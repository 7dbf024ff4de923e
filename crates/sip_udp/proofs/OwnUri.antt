-- The caller's URI is a URI.
use Rattle.std.proofs.Common.{ℕ, ◌<◌, not, List, ◌++◌, refl, ap, ◌∙◌, IsTrue, codes, slice_index}
use Rattle.std.specs.Char.{is_ascii_digit}
use Rattle.std.proofs.lemmas.List.Folds.{list_all-append}
use Rattle.sip_grammar.specs.Uri.{is_uri, is_uri_byte}
use Rattle.sip_grammar.proofs.Bytes.{both_true, none_of}
use Rattle.sip_message.specs.Ip.{ip_text}
use Rattle.sip_dialog.proofs.Requests.{PassesDigits, ip_passes}

uri_digit : PassesDigits is_uri_byte
unfolding is_uri_byte
uri_digit b h = ap not (none_of is_ascii_digit (codes " \t\r\n<>\"") b refl h)

pub own_uri : (ip : List ℕ) → slice_index ip 0 < 256 → slice_index ip 1 < 256
    → slice_index ip 2 < 256 → slice_index ip 3 < 256
    → IsTrue (is_uri (codes "sip:ua@" ++ ip_text ip))
unfolding is_uri is_uri_byte
own_uri ip p q r s =
    list_all-append is_uri_byte (codes "sip:ua@") (ip_text ip)
    ∙ both_true _ _ refl (ip_passes is_uri_byte uri_digit refl ip p q r s)
