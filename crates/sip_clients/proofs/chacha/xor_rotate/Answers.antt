-- `xor_rotate` gives in each lane the rotated exclusive or of two words.
use Rattle.rand_chacha.proofs.LaneLemmas.{shifts_rotate}
use Rattle.sip_clients.proofs.chacha.xor_rotate.Goals as goal

pub returns : goal.returns
returns c =
    shifts_rotate c.args.count c.requires.least c.requires.most c.args.a c.fits-a.0 c.args.b c.fits-b.0
