-- `has_word`: a word is this one exactly if its text is.
use Rattle.std.proofs.Common.{sym, ◌∙◌}
use Rattle.std.specs.Str.{bytes_eq}
use Rattle.sip_ua.proofs.WordTexts.{any_mapped}
use Rattle.sip_ua.proofs.words.has_word.Goals as goal

pub returns : goal.returns
returns g c = c.any_is.ensures
    ∙ sym (any_mapped (λ word. bytes_eq word c.args.wanted.now) g.S.AsStr.text c.args.words.now)
