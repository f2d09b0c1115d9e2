-- `canonical::Tables::fill` meets its contract: the lines filled, from empty buckets on, then what opens a lock put into its key.
use Rattle.dag.specs.Record.{entry_at}
use Rattle.canonical.proofs.Laws.Buckets.{bucketed_none}
use Rattle.canonical.proofs.Tables.fill.Goals as goal

pub fill_lines-requires : goal.fill_lines-requires
fill_lines-requires c = bucketed_none (entry_at c.args.sheet.bytes.now)
