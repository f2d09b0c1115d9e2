-- `bitset::rest` meets its contract: a word and the number before it have all members in common but the lowest.
use mathlib.Core.Path.{sym, ap, ◌∙◌}
use mathlib.Core.Bool.{Bool, cond}
use native.Mathlib.Omega.{arith}
use lib.Bits.{bit_xor}
use lib.Count.{count_trailing_zeros}
use borrow.Author.Tests.{ne_eqb}
use Rattle.bitset.specs.Set.{single}
use Rattle.bitset.proofs.Laws.Lowest.{rest_sum}
use Rattle.bitset.proofs.rest.Goals as goal

pub returns : goal.returns
returns c = let w = c.args.w in
    rest_sum w (omega arith) c.ranges.w.fits
    ∙ sym (ap (λ (b : Bool). cond b 0 (bit_xor w (single (count_trailing_zeros 64 w)))) (ne_eqb w 0 c.if-w-eq0.false))
