-- `bitset::count` meets its contract: the members are counted word by word.
use mathlib.Core.Path.{sym}
use borrow.Author.Rules.{rules}
use Rattle.bitset.proofs.Laws.Top.{ones_four}
use Rattle.bitset.proofs.count.Goals as goal

pub returns : goal.returns
returns c = sym (ones_four c.args.s (search rules) (search rules))
