-- `bitset::common` meets its contract: word by word.
use mathlib.Core.Path.{refl}
use mathlib.Core.Bool.{◌&&◌}
use lib.Bits.{bit_and, and_lt}
use Rattle.bitset.proofs.Laws.Union.{words_member, member_and}
use borrow.Author.Rules.{rules}
use Rattle.bitset.proofs.common.Goals as goal

pub returns : goal.returns
returns c = words_member bit_and ◌&&◌ member_and refl (and_lt 64) c.args.a c.args.b (search rules) (search rules) (search rules) (search rules)
