-- `knowledge::lines::flip_word` meets its contract. The loop's invariant: the columns that left the word are done.
use Rattle.bitset.specs.Words.{value}
use Rattle.bitset.proofs.Laws.Members.{Walked}
use Rattle.knowledge.proofs.Laws.Added.{Flips}
use Rattle.knowledge.proofs.lines.flip_word.Given as goal

abbrev pub invariant-loop-q : goal.invariant-loop-q
invariant-loop-q l = Walked (Flips (value l.lines)) l.initial.q-iterator l.q-iterator l.initial.columns l.columns
