-- `offers::Search::new` meets its contract: no offer yet.
use Rattle.offers.proofs.Laws.Table.{table_empty}
use Rattle.offers.proofs.Search.new.Goals as goal

pub returns-clause-table : goal.returns-clause-table
returns-clause-table c = table_empty
