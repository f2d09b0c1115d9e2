-- `knowledge::Knowledge::new` meets its contract: the empty set and no row.
use Rattle.knowledge.proofs.Laws.Learn.{holds_nothing}
use Rattle.knowledge.proofs.Knowledge.new.Goals as goal

pub returns : goal.returns
returns c = holds_nothing c.empty-known.result _ c.empty-known.ensures
