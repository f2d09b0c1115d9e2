-- `dag::faults::bad_pairs`: no pair so far is bad, and `at` is where the last record ended.
use mathlib.Core.Path.{◌≡◌}
use Rattle.dag.specs.Sheet.{begin_at}
use Rattle.dag.specs.Refusal.{first, bad_pair}
use Rattle.dag.proofs.faults.bad_pairs.Given as goal

abbrev pub invariant-loop-i : goal.invariant-loop-i
invariant-loop-i l = (l.at ≡ begin_at l.s l.i) × (first (bad_pair l.s) l.i ≡ 0)
