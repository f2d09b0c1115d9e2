-- `offers::Search::lower` meets its contract: by the test whether the offer is lower than what is there.
use mathlib.Core.Path.{refl}
use native.Mathlib.Omega.{arith}
use borrow.Author.Rules.{rules}
use Rattle.offers.proofs.Laws.Table.{table_keep, table_lower}
use Rattle.offers.proofs.Search.lower.Goals as goal

pub returns-then-x-self : goal.returns-then-x-self
returns-then-x-self c = record {
  known = refl;
  rules = refl;
  table = λ xs t. table_lower t c.args.head c.args.x (search rules) c.requires c.put.new.s (omega (arith, c.requires)) c.put.ensures.words c.put.ensures.set;
}

pub returns-else-x-self : goal.returns-else-x-self
returns-else-x-self c = record { known = refl; rules = refl; table = λ xs t. table_keep t c.args.head c.args.x (search rules) c.requires (omega arith) }
