-- `bitset::write` meets its contract: the bytes of four words in turn.
use mathlib.Core.List.{◌++◌}
use mathlib.Core.Path.{sym, ◌∙◌}
use native.Mathlib.Omega.{arith}
use lib.ListN.{length, drop}
use borrow.Author.Rules.{rules}
use Rattle.bitset.specs.Words.{value, bytes_of}
use Rattle.bitset.proofs.Laws.Choice.{when_le}
use Rattle.bitset.proofs.Laws.Bytes.{front_four}
use Rattle.bitset.proofs.write.Goals as goal

pub returns-clause-bytes : goal.returns-clause-bytes
returns-clause-bytes c = let s = c.args.s in let d = c.args.out.now in
    front_four s (search rules) d c.write_word.ensures c.write_word-2.ensures c.write_word-3.ensures c.write_word-4.ensures
    ∙ sym (when_le 32 (length d) (bytes_of 32 (value s) ++ drop 32 d) d (omega arith))
