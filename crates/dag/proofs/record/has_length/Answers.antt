-- `dag::record::has_length` meets its contract: a byte that is no kind has no length.
use Rattle.dag.proofs.Laws.Record.{fits_none}
use Rattle.dag.proofs.record.has_length.Goals as goal

pub returns-in-Err : goal.returns-in-Err
returns-in-Err c = fits_none c.args.kind c.args.len c.in-Err.ensures.1
