-- `start::hear` meets its contract. The loop's invariant: the first i fours are heard.
use mathlib.Core.List.{[]}
use mathlib.Core.Bool.{Bool}
use Prim.Native.Nat.{ℕ, ◌*◌}
use lib.ListN.{take}
use Rattle.knowledge.specs.Inner.Lines.{KeptIn}
use Rattle.start.specs.Inner.Hearing.{Live, Held}
use Rattle.start.proofs.hear.Given as goal

abbrev pub invariant-loop-i : goal.invariant-loop-i
invariant-loop-i l = (live : ℕ → Bool) (f : ℕ → ℕ) → Live live l.heads → KeptIn live f [] l.initial.lines → Held live f (take (4 * l.i) l.heads) l.state l.lines
