-- `WordBytes`: the table of bytes is the test of a word's bytes.
use Rattle.std.proofs.Common.{◌==◌, get_or, refl, arith}
use Rattle.std.proofs.lemmas.Bool.{agree_below_at}
use Rattle.sip_grammar.specs.Word.{is_word_byte}
use Rattle.sip_grammar.specs.declared.word.TheConstants.{WORD_BYTES}
use Rattle.sip_grammar.proofs.word.WordBytesByteClass.test.Goals as goal

pub returns : goal.returns
unfolding is_word_byte
returns c = rw c.from.ensures
    (agree_below_at (λ b. get_or WORD_BYTES b 0 == 120) is_word_byte 256 c.args.byte refl
    (omega arith))
