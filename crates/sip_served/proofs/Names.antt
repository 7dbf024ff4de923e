-- The agent's own names are well formed: `100rel` is a token, `Unsupported` the name of a header
-- that isn't parsed.
use Rattle.std.proofs.Common.{refl}
use Rattle.std.specs.Prelude.{IsTrue, codes}
use Rattle.sip_grammar.specs.HeaderEntry.{is_named}
use Rattle.sip_grammar.specs.OtherName.{is_compact_name, is_other_name}
use Rattle.sip_text.specs.Character.{is_token_byte}
use Rattle.sip_text.specs.Token.{is_token}

pub option_100rel : IsTrue (is_token (codes "100rel"))
unfolding is_token is_token_byte
option_100rel = refl

pub unsupported_name : IsTrue (is_other_name (codes "Unsupported"))
unfolding is_other_name is_compact_name is_named is_token is_token_byte
unsupported_name = refl
