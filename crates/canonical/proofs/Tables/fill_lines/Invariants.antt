-- `canonical::Tables::fill_lines` meets its contract. The loop's invariant: the tables are filled for the entries so far, and these are in their buckets.
use mathlib.Core.Path.{◌≡◌}
use Prim.Native.Nat.{◌≤◌}
use Rattle.dag.specs.Sheet.{count_of}
use Rattle.dag.specs.Record.{entry_at}
use Rattle.canonical.specs.Inner.Tables.{Filled}
use Rattle.canonical.specs.Inner.Buckets.{Bucketed}
use Rattle.canonical.proofs.Tables.fill_lines.Given as goal

abbrev pub invariant-loop-k : goal.invariant-loop-k
invariant-loop-k l =
    (l.k-end ≤ 256) × (l.k-end ≡ count_of l.sheet.bytes.now)
    × Filled (entry_at l.sheet.bytes.now) l.k l.initial.self.keys l.initial.sets l.initial.self.reps l.self.keys l.sets l.self.reps
    × Bucketed (entry_at l.sheet.bytes.now) l.k l.buckets
