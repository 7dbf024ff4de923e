-- Which bytes stand for themselves in a field of each form.
use Rattle.std.specs.Prelude.{ℕ, Bool}
use Rattle.sip_files.specs.declared.words.Form.{Form}
use Rattle.sip_files.specs.declared.words.Form.TheVariants.{Word, Rest}
use Rattle.sip_files.specs.Word.{is_plain, is_plain_or_space}

abbrev pub itself_in : Form → ℕ → Bool
itself_in Word = is_plain
itself_in Rest = is_plain_or_space
