-- `word_at` gives the word of ChaCha with ten double rounds.
use Rattle.std.proofs.Common.{ℕ, List, slice_index, ap, ◌∙◌}
use Rattle.rand_chacha.specs.Block.{add32, double_rounds, block_word}
use Rattle.sip_clients.proofs.ChaChaRows.{first_state}
use Rattle.sip_clients.proofs.chacha.word_at.Goals as goal

pub returns : goal.returns
unfolding block_word
returns c =
    let index = c.args.index in
    c.word_of_block.ensures
    ∙ ap (λ (x : List ℕ). add32 (slice_index (double_rounds 10 x) index) (slice_index x index))
    (first_state c.args.seed.now c.args.block c.args.stream c.read_u32.ensures
    c.read_u32-2.ensures c.read_u32-3.ensures c.read_u32-4.ensures c.read_u32-5.ensures
    c.read_u32-6.ensures c.read_u32-7.ensures c.read_u32-8.ensures c.low.ensures c.high.ensures
    c.low-2.ensures c.high-2.ensures)
