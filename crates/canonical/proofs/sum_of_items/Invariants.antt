-- `canonical::sum_of_items` meets its contract. The loop's invariant: the sum of the sets of the items so far.
use mathlib.Core.Path.{◌≡◌}
use Rattle.canonical.specs.Inner.Tables.{set_in}
use Rattle.bitset.specs.Words.{value}
use Rattle.deduction.specs.Standard.{xor_all}
use Rattle.dag.specs.Sheet.{listed}
use Rattle.dag.specs.Record.{item_count, item_at}
use Rattle.canonical.proofs.sum_of_items.Given as goal

abbrev pub invariant-loop-k : goal.invariant-loop-k
invariant-loop-k l = (l.k-end ≡ item_count l.r) × (value l.sum ≡ xor_all (set_in l.sets) (listed (item_at l.r) l.k))
