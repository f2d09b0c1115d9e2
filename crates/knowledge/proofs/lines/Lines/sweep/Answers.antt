-- `knowledge::lines::Lines::sweep` meets its contract: the line is the new row, or nothing is left of it.
use mathlib.Core.Path.{refl, sym, ap, ◌∙◌}
use lib.Bits.{bit_xor}
use borrow.Author.Rules.{rules}
use Rattle.bitset.specs.Words.{value}
use Rattle.knowledge.specs.Inner.Lines.{set_in}
use Rattle.knowledge.proofs.Laws.Lines.{kept_learnt, kept_idle}
use Rattle.knowledge.proofs.lines.Lines.sweep.Goals as goal

pub returns-then-not-is_empty : goal.returns-then-not-is_empty
returns-then-not-is_empty c = let a = c.args.self.now in record {
  sizes = λ h. ((c.add_to_column.ensures.swept h).sizes, rw c.add_to_column.ensures.columns c.flip.ensures.size);
  lines = λ live s rows l h.
      kept_learnt live s rows h c.args.e l (set_in a.remainders c.args.e) (value c.sum-uses.result) (set_in a.columns c.leading.result) refl
      (c.sum-uses.ensures ∙ ap (bit_xor (set_in a.used c.args.e)) c.singleton.ensures) (ap (set_in a.columns) c.leading.ensures) (sym c.is_empty.ensures ∙ c.if-not-is_empty.true)
      (c.add_to_column.ensures.swept h.sizes) (rw c.add_to_column.ensures.columns c.flip.ensures);
}

pub returns-else-not-is_empty : goal.returns-else-not-is_empty
returns-else-not-is_empty c = record {
  sizes = λ h. (h, search rules);
  lines = λ live s rows l h. kept_idle live s rows h c.args.e l (sym c.is_empty.ensures ∙ c.if-not-is_empty.false);
}
