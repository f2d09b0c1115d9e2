-- `knowledge::lines::flip_column` meets its contract: one store.
use native.Mathlib.Omega.{arith}
use Rattle.bitset.specs.Words.{value}
use Rattle.knowledge.proofs.Laws.Added.{one_column}
use borrow.Author.Rules.{rules}
use Rattle.knowledge.proofs.lines.flip_column.Goals as goal

pub returns : goal.returns
returns c = record { size = search rules; column = one_column c.args.q (value c.args.lines) c.args.columns.now c.sum.result (omega arith) c.sum.ensures }
