use borrow.Author.Rules.{rules}
use Rattle.bitset.specs.Words.{packed}
use Rattle.bitset.proofs.empty.Goals as goal

-- src/lib.rt:14:1
pub returns : goal.returns
unfolding packed
returns c = search rules
