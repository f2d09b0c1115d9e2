-- `knowledge::lines::Lines::begin` meets its contract. The loop's invariant: the first i lines are in the columns.
use mathlib.Core.Path.{◌≡◌}
use Rattle.knowledge.specs.Inner.Lines.{Begun}
use Rattle.knowledge.proofs.lines.Lines.begin.Given as goal

abbrev pub invariant-loop-i : goal.invariant-loop-i
invariant-loop-i l = record {
  begun : Begun l.i l.fn.self.remainders l.reps l.self.columns l.self.empty;
  remainders : l.self.remainders ≡ l.fn.self.remainders;
  used : l.self.used ≡ l.fn.self.used;
}
