-- `canonical::first_in_word` meets its contract: the members are tried from the lowest on.
use mathlib.Core.Bool.{Bool}
use Prim.Native.Nat.{ℕ, ◌*◌, ◌^◌, ◌<◌}
use Rattle.canonical.specs.Inner.Buckets.{Decides}
use Rattle.canonical.proofs.Laws.Search.{Tried}
use Rattle.canonical.proofs.first_in_word.Given as goal

abbrev pub invariant-loop-left : goal.invariant-loop-left
invariant-loop-left g l = (l.left < 2 ^ 64) × ((p : ℕ → Bool) → Decides (goal.F-post g l.passes) p → Tried p (l.word * 2 ^ l.base) (l.left * 2 ^ l.base))

abbrev pub decreases-loop-left : goal.decreases-loop-left
decreases-loop-left g l = l.left * 2 ^ l.base
