-- `knowledge::lines::flip` meets its contract: the four words in turn.
use mir.Syntax.{w64}
use mir.Val.{Fits}
use lib.ListN.{get_or}
use Rattle.bitset.specs.Words.{value}
use Rattle.bitset.proofs.Laws.Words.{Below}
use Rattle.bitset.proofs.Laws.Bits.{bits_four}
use Rattle.knowledge.proofs.Laws.Added.{Flips, flips}
use borrow.Author.Rules.{rules}
use Rattle.knowledge.proofs.lines.flip.Goals as goal
use Rattle.knowledge.proofs.lines.flip.Goals.{Start}

words : (c : Start) → Below 64 c.args.set
words c i = let f : Fits w64 (get_or c.args.set i 0) = search rules in f.fits

pub returns : goal.returns
returns c = let f = value c.args.lines in
    bits_four (Flips f) (flips f).none (flips f).both c.args.set (search rules) (words (goal.at.returns c).Start) c.args.columns.now _ _ _ _
    (λ _. c.flip_word.ensures) (λ _. c.flip_word-2.ensures) (λ _. c.flip_word-3.ensures) (λ _. c.flip_word-4.ensures) (search rules)
