-- `knowledge::lines::Lines::add_to_word` meets its contract. The loop's invariant: the lines that left the word are done.
use Rattle.bitset.specs.Words.{value}
use Rattle.bitset.proofs.Laws.Members.{Walked}
use Rattle.knowledge.specs.Inner.Lines.{SweptIn}
use Rattle.knowledge.proofs.lines.Lines.add_to_word.Given as goal

abbrev pub invariant-loop-k : goal.invariant-loop-k
invariant-loop-k l = Walked (SweptIn (value l.vector) (value l.uses)) l.initial.k-iterator l.k-iterator l.initial.self l.self
