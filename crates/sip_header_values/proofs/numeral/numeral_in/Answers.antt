-- `numeral_in`: a text that is a number is a word, and stands for that number.
use Rattle.std.proofs.Common.{◌≡◌, Ok, sym, ◌∙◌, refl}
use Rattle.std.proofs.lemmas.Bool.{and_parts}
use Rattle.sip_text.specs.Number.{is_digits, number_of}
use Rattle.sip_header_values.proofs.Digits.{number_is}
use Rattle.sip_grammar.proofs.WrittenBytes.{digits_word}
use Rattle.sip_header_values.proofs.numeral.numeral_in.Goals as goal

pub returns-in-Ok : goal.returns-in-Ok
returns-in-Ok c =
    let text = c.args.text.now in
    let read : number_of text ≡ Ok c.in-Ok.number = sym c.number_u32.ensures ∙ c.in-Ok.is in
    let digits = (and_parts (is_digits text) _ (number_is text c.in-Ok.number read).is).0 in
    rw (digits_word text digits, read) refl
