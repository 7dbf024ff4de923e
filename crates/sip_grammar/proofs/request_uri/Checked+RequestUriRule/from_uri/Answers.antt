-- `RequestUri::from_uri`: a URI is a Request-URI.
use Rattle.sip_grammar.proofs.Bytes.{uri_is_word}
use Rattle.sip_grammar.proofs.request_uri.Checked+RequestUriRule.from_uri.Goals as goal

pub from_text-requires : goal.from_text-requires
from_text-requires c =
    rw c.into_text.ensures.value (uri_is_word c.args.uri c.into_text.ensures.rule)
