-- `start::trace_heads` meets its contract. The loop's invariant: the messages so far are listed.
use mathlib.Core.Path.{◌≡◌}
use mathlib.Core.List.{map}
use Rattle.deduction.specs.Standard.{rep_at}
use Rattle.dag.specs.Sheet.{trace_of}
use Rattle.dag.specs.Record.{entry_at}
use Rattle.start.specs.Inner.Heads.{with_heads}
use Rattle.start.proofs.trace_heads.Given as goal

abbrev pub invariant-loop-k : goal.invariant-loop-k
invariant-loop-k l = l.heads ≡ with_heads l.initial.heads (map (rep_at (entry_at l.sheet.bytes.now)) (trace_of l.sheet.bytes.now l.k))
