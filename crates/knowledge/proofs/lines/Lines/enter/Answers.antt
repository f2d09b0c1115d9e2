-- `knowledge::lines::Lines::enter` meets its contract.
use mathlib.Core.Path.{sym, ◌∙◌}
use Rattle.bitset.specs.Set.{single}
use Rattle.knowledge.specs.Inner.Lines.{set_in, Flipped}
use Rattle.knowledge.proofs.Laws.Lines.{entered_empty, entered_some}
use Rattle.knowledge.proofs.lines.Lines.enter.Goals as goal
use Rattle.knowledge.proofs.lines.Lines.enter.Goals.{After-flip}

flipped : (c : After-flip) → Flipped (single c.args.i) (set_in c.args.self.now.remainders c.args.i) c.args.self.now.columns c.flip.new.columns
flipped c = rw (← c.singleton.ensures) c.flip.ensures

pub returns-then-is_empty-clause-entered : goal.returns-then-is_empty-clause-entered
returns-then-is_empty-clause-entered c = let p = c.put.ensures in
    entered_empty c.args.i (set_in c.args.self.now.remainders c.args.i) (flipped (goal.at.returns-then-is_empty-clause-entered c).After-flip) (sym c.is_empty.ensures ∙ c.if-is_empty.true) p.words p.set

pub returns-else-is_empty-clause-entered : goal.returns-else-is_empty-clause-entered
returns-else-is_empty-clause-entered c =
    entered_some c.args.i (set_in c.args.self.now.remainders c.args.i) (flipped (goal.at.returns-else-is_empty-clause-entered c).After-flip) (sym c.is_empty.ensures ∙ c.if-is_empty.false) c.requires
