-- `dag::faults::forward_items`: no item so far is i or more.
use mathlib.Core.Path.{◌≡◌}
use mathlib.Core.Bool.{false}
use Rattle.dag.specs.Sheet.{listed}
use Rattle.dag.specs.Record.{item_at}
use Rattle.dag.specs.Refusal.{any_from}
use Rattle.dag.proofs.faults.forward_items.Given as goal

abbrev pub invariant-loop-j : goal.invariant-loop-j
invariant-loop-j l = any_from l.i (listed (item_at l.r) l.j) ≡ false
