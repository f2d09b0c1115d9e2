-- `dag::faults::bad_records`: no record so far has a fault.
use mathlib.Core.Path.{◌≡◌}
use Rattle.dag.specs.Refusal.{first, bad_record_at}
use Rattle.dag.proofs.faults.bad_records.Given as goal

abbrev pub invariant-loop-i : goal.invariant-loop-i
invariant-loop-i l = first (bad_record_at l.s) l.i ≡ 0
