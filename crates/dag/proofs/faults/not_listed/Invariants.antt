-- `dag::faults::not_listed`: no heard number so far is n or more.
use mathlib.Core.Path.{◌≡◌}
use Rattle.dag.specs.Refusal.{first, not_listed_at}
use Rattle.dag.proofs.faults.not_listed.Given as goal

abbrev pub invariant-loop-k : goal.invariant-loop-k
invariant-loop-k l = first (not_listed_at l.s) l.k ≡ 0
