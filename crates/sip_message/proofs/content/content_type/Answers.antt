-- `content_type`: `Content-Type` may be the name of a header that isn't parsed.
use Rattle.std.proofs.Common.{rules}
use Rattle.sip_text.specs.Token.{is_token, is_token_byte}
use Rattle.sip_grammar.specs.HeaderEntry.{is_named}
use Rattle.sip_grammar.specs.OtherName.{is_compact_name, is_other_name}
use Rattle.sip_message.proofs.content.content_type.Goals as goal

pub copy_of-requires : goal.copy_of-requires
unfolding is_other_name is_compact_name is_named is_token is_token_byte
copy_of-requires c = search rules
