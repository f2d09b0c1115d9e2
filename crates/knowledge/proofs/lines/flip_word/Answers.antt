-- `knowledge::lines::flip_word` meets its contract. The loop's invariant: the columns that left the word are done.
use Rattle.bitset.specs.Words.{value}
use Rattle.bitset.proofs.Laws.Members.{walk_start, walk_again}
use Rattle.knowledge.proofs.Laws.Added.{flips}
use Rattle.knowledge.proofs.lines.flip_word.Goals as goal

pub loop-q-init : goal.loop-q-init
loop-q-init c = walk_start (flips (value c.args.lines)) _ _

pub loop-q-preserved : goal.loop-q-preserved
loop-q-preserved c = walk_again (flips (value c.args.lines)) c.in-Some.ensures.steps c.loop-q.invariant (λ _. c.flip_column.ensures)
