-- `bitset::top` meets its contract: the leading entry and the leading zeros of a word make 63.
use mathlib.Core.Path.{sym, ap, ◌∙◌}
use native.Mathlib.Omega.{arith}
use Rattle.bitset.specs.Set.{leading}
use Rattle.bitset.proofs.Laws.Top.{leading_word, leading_empty}
use Rattle.bitset.proofs.top.Goals as goal

pub returns-then-w-eq0 : goal.returns-then-w-eq0
returns-then-w-eq0 c = (sym (ap leading c.if-w-eq0.true ∙ leading_empty), omega arith)

pub returns-else-w-eq0 : goal.returns-else-w-eq0
returns-else-w-eq0 c = omega (arith, leading_word c.args.w (omega arith) c.ranges.w.fits)

pub overflow_sub-result : goal.overflow_sub-result
overflow_sub-result c = omega (arith, leading_word c.args.w (omega arith) c.ranges.w.fits)
