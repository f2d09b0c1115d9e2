-- `derive::run::run` meets its contract. The loop's invariant: what is safe, what is done, and the run that remains (`Safe`, `Along`).
use mathlib.Core.Path.{◌≡◌}
use Prim.Native.Nat.{◌-◌}
use Rattle.bitset.specs.Words.{value}
use Rattle.deduction.specs.Setting.{switches}
use Rattle.deduction.specs.Elimination.{Knowledge}
use Rattle.derive.specs.Inner.Ran.{LinesOf}
use Rattle.derive.proofs.Laws.Along.{Safe, Along}
use Rattle.derive.proofs.run.run.Given as goal

abbrev pub invariant-loop-users : goal.invariant-loop-users
invariant-loop-users l = let s = l.sheet.bytes.now in
    Safe s l.tables.keys l.tables.reps l.budget l.front l.initial.out l.rules l.goal_head l.users l.search l.made l.out
    × ((k : Knowledge) → value l.fn.known ≡ k.known → LinesOf s l.tables.reps k.rows l.initial.lines → Along (switches l.rules) s l.tables.reps k l.budget l.front l.initial.out l.lines l.search l.made l.out)

abbrev pub decreases-loop-users : goal.decreases-loop-users
decreases-loop-users l = l.budget - l.made
