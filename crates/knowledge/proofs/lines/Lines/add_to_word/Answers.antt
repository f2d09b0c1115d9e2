-- `knowledge::lines::Lines::add_to_word` meets its contract. The loop's invariant: the lines that left the word are done.
use Rattle.bitset.specs.Words.{value}
use Rattle.bitset.proofs.Laws.Members.{walk_start, walk_again}
use Rattle.knowledge.proofs.Laws.Added.{adds}
use Rattle.knowledge.proofs.lines.Lines.add_to_word.Goals as goal

pub loop-k-init : goal.loop-k-init
loop-k-init c = walk_start (adds (value c.args.vector) (value c.args.uses)) _ _

pub loop-k-preserved : goal.loop-k-preserved
loop-k-preserved c = walk_again (adds (value c.args.vector) (value c.args.uses)) c.in-Some.ensures.steps c.loop-k.invariant c.add_row.ensures
