-- `bitset::equal` meets its contract: two lists of words hold one set exactly when they are equal.
use borrow.Author.Rules.{rules}
use Rattle.bitset.proofs.Laws.Words.{value_equal}
use Rattle.bitset.proofs.equal.Goals as goal

pub returns : goal.returns
returns c = value_equal c.args.a c.args.b (search rules) (search rules) (search rules) _ c.eq.ensures
