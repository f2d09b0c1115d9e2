-- `knowledge::lines::Lines::add_to_column` meets its contract: the four words in turn.
use mir.Syntax.{w64}
use mir.Val.{Fits}
use lib.ListN.{get_or}
use Rattle.bitset.specs.Words.{value}
use Rattle.bitset.proofs.Laws.Words.{Below}
use Rattle.bitset.proofs.Laws.Bits.{bits_four}
use Rattle.knowledge.specs.Inner.Lines.{SweptIn}
use Rattle.knowledge.proofs.Laws.Added.{adds}
use borrow.Author.Rules.{rules}
use Rattle.knowledge.proofs.lines.Lines.add_to_column.Goals as goal
use Rattle.knowledge.proofs.lines.Lines.add_to_column.Goals.{Start}

words : (c : Start) → Below 64 c.args.column
words c i = let f : Fits w64 (get_or c.args.column i 0) = search rules in f.fits

pub returns : goal.returns
returns c = let v = value c.args.vector in let u = value c.args.uses in
    bits_four (SweptIn v u) (adds v u).none (adds v u).both c.args.column (search rules) (words (goal.at.returns c).Start) c.args.self.now _ _ _ _
    c.add_to_word.ensures c.add_to_word-2.ensures c.add_to_word-3.ensures c.add_to_word-4.ensures
