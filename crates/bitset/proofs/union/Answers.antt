-- `bitset::union` meets its contract: word by word.
use mathlib.Core.Path.{refl}
use mathlib.Core.Bool.{◌||◌}
use lib.Bits.{bit_or, or_lt}
use Rattle.bitset.proofs.Laws.Union.{words_member, member_or}
use borrow.Author.Rules.{rules}
use Rattle.bitset.proofs.union.Goals as goal

pub returns : goal.returns
returns c = words_member bit_or ◌||◌ member_or refl (or_lt 64) c.args.a c.args.b (search rules) (search rules) (search rules) (search rules)
