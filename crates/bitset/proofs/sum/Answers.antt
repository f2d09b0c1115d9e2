-- `bitset::sum` meets its contract: the sum is word by word.
use borrow.Author.Rules.{rules}
use Rattle.bitset.proofs.Laws.Words.{value_sum}
use Rattle.bitset.proofs.sum.Goals as goal

pub returns : goal.returns
returns c = value_sum c.args.a c.args.b (search rules) (search rules) (search rules) (search rules)
