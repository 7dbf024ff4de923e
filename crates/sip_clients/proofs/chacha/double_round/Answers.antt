-- `double_round` makes a column round and then a diagonal round.
use Rattle.std.proofs.Common.{ap, ◌∙◌, arith}
use Rattle.rand_chacha.specs.Block.{diagonal_round}
use Rattle.sip_clients.proofs.ChaChaRows.{IsRow, is_row, columns, diagonals}
use Rattle.sip_clients.proofs.chacha.double_round.Goals as goal

pub returns : goal.returns
returns c =
    let i = c.args in
    let x = c.quarter_rounds.result in
    let y = c.quarter_rounds-2.result in
    let x0 : IsRow x.0 = is_row x.0 (omega arith) in
    let x1 : IsRow x.1 = is_row x.1 (omega arith) in
    let x2 : IsRow x.2 = is_row x.2 (omega arith) in
    let x3 : IsRow x.3 = is_row x.3 (omega arith) in
    let whole =
    columns i.a i.b i.c i.d x.0 x.1 x.2 x.3 (is_row i.a c.fits-a.0) (is_row i.b c.fits-b.0)
    (is_row i.c c.fits-c.0) (is_row i.d c.fits-d.0) x0 x1 x2 x3 c.quarter_rounds.ensures in
    diagonals x.0 x.1 x.2 x.3 y.0 y.1 y.2 y.3 x0 x1 x2 x3 (is_row y.0 (omega arith))
    (is_row y.1 (omega arith)) (is_row y.2 (omega arith)) (is_row y.3 (omega arith))
    c.quarter_rounds-2.ensures
    ∙ ap diagonal_round whole
