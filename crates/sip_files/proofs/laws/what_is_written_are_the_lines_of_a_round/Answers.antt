-- What is written for a round stands in a session of that round alone.
use Rattle.sip_files.proofs.HeadLines.{written_round}
use Rattle.sip_files.proofs.laws.what_is_written_are_the_lines_of_a_round.Goals as goal

pub returns : goal.returns
returns c round fits = written_round round fits
