-- Where the bytes of a token are.
use Rattle.std.specs.Prelude.{ℕ, List}
use Rattle.sip_grammar.specs.declared.token.TokenPlace.{TokenPlace}
use Rattle.sip_grammar.specs.declared.token.TokenPlace.TheVariants.{Usual, Own}
use Rattle.sip_grammar.specs.UsualToken.{bytes_of}

-- the bytes
abbrev pub text_at : TokenPlace → List ℕ
text_at (Usual usual) = bytes_of usual
text_at (Own text) = text
