-- `start::public_heads` meets its contract. The loop's invariant: the public atoms among the entries so far are listed.
use mathlib.Core.Path.{◌≡◌}
use Rattle.dag.specs.Record.{entry_at}
use Rattle.start.specs.Start.{public_heads}
use Rattle.start.specs.Inner.Heads.{with_heads}
use Rattle.start.proofs.public_heads.Given as goal

abbrev pub invariant-loop-k : goal.invariant-loop-k
invariant-loop-k l = l.heads ≡ with_heads l.initial.heads (public_heads (entry_at l.sheet.bytes.now) l.k)
