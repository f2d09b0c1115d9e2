-- The measure of `verdict::within`: the buffer's length.
use lib.ListN.{length}
use Rattle.verdict.proofs.+within.Given as goal

abbrev pub decreases-within : goal.decreases-within
decreases-within l = length l.out.now
