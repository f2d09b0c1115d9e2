-- `canonical::Tables::open_locks` meets its contract. The loop's invariant: the keys of the entries so far have what opens them.
use mathlib.Core.Path.{◌≡◌}
use Prim.Native.Nat.{ℕ, ◌≤◌}
use lib.ListN.{length, get_or}
use Rattle.dag.specs.Sheet.{count_of}
use Rattle.dag.specs.Record.{entry_at}
use Rattle.canonical.proofs.Laws.Opener.{Opening}
use Rattle.canonical.proofs.Tables.open_locks.Given as goal

abbrev pub invariant-loop-k : goal.invariant-loop-k
invariant-loop-k l =
    (l.n ≤ 256) × (l.n ≡ count_of l.sheet.bytes.now)
    × Opening (entry_at l.sheet.bytes.now) (count_of l.sheet.bytes.now) l.k l.self.keys
    × (length l.self.keys ≡ 256)
    × ((j : ℕ) → count_of l.sheet.bytes.now ≤ j → get_or l.self.keys j 0 ≡ get_or l.initial.self.keys j 0)
    × (l.self.reps ≡ l.initial.self.reps)
