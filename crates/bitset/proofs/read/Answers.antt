-- `bitset::read` meets its contract: four words of eight bytes are 32 bytes.
use mathlib.Core.Path.{sym, ◌∙◌}
use native.Mathlib.Omega.{arith}
use lib.ListN.{length, take}
use Rattle.bitset.specs.Words.{set_of}
use Rattle.bitset.proofs.Laws.Choice.{when_le}
use Rattle.bitset.proofs.Laws.Bytes.{words_read}
use Rattle.bitset.proofs.read.Goals as goal

pub returns-in-len4-up-default : goal.returns-in-len4-up-default
returns-in-len4-up-default c = let b = c.args.b.now in
    words_read b c.as_chunks.result.0.now _ c.as_chunks.ensures.front (omega (arith, c.in-len4-up-default.len_at_least, c.as_chunks.ensures.front_len)) c.from_le_bytes.ensures c.from_le_bytes-in-len4-up-default.ensures
    c.from_le_bytes-in-len4-up-default-2.ensures c.from_le_bytes-in-len4-up-default-3.ensures
    ∙ sym (when_le 32 (length b) (set_of (take 32 b)) 0 (omega (arith, c.in-len4-up-default.len_at_least, c.as_chunks.ensures.front_len)))
