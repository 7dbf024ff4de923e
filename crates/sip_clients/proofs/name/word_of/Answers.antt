-- `word_of` gives the word of a name: its block and its index in it are those of the place.
use Rattle.std.proofs.Common.{◌≡◌, ◌+◌, ◌*◌, ◌/◌, ◌%◌, arith}
use Rattle.sip_clients.proofs.name.word_of.Goals as goal

pub returns : goal.returns
returns c =
    let place = c.args.id.place in
    let index = c.args.index in
    let block : (16 * place + index) / 16 ≡ place = omega arith in
    let word : (16 * place + index) % 16 ≡ index = omega arith in
    rw (block, word) (rw c.from.ensures at c.word_at.ensures)
