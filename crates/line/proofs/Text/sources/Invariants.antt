-- `line::Text::sources` meets its contract. The loop's invariant: the sources below e are added.
use Prim.Native.Nat.{◌≤◌}
use Rattle.bitset.specs.Words.{value}
use Rattle.line.specs.Line.{sources}
use Rattle.line.specs.Text.{Fits, Adds}
use Rattle.line.proofs.Text.sources.Given as goal

abbrev pub invariant-loop-e : goal.invariant-loop-e
invariant-loop-e l = (l.e ≤ 256) × Fits l.initial.self (sources (value l.set) 256) × Adds l.initial.self (sources (value l.set) l.e) l.self
