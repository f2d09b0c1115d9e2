-- `knowledge::lines::Lines::begin` meets its contract. The loop's invariant: the first i lines are in the columns.
use mathlib.Core.Path.{refl, ap, ◌∙◌}
use native.Mathlib.Omega.{arith}
use lib.ListN.{length, get_or}
use borrow.Author.Tests.{eq-eqb, ne_eqb}
use borrow.Author.Rules.{rules}
use Rattle.knowledge.proofs.Laws.Lines.{no_words, begun_none, begun_head, begun_other}
use Rattle.knowledge.proofs.lines.Lines.begin.Goals as goal
use Rattle.knowledge.proofs.lines.Lines.begin.Goals.{then-reps-i, else-reps-i}

pub loop-i-init : goal.loop-i-init
loop-i-init c = let a = c.args.self.now in
    record {
      begun = begun_none a.remainders c.args.reps.now a.columns a.empty (search rules) (no_words a.empty (search rules) c.requires.1) c.requires.2 c.requires.1;
      remainders = refl;
      used = refl;
    }

pub loop-i-preserved : goal.loop-i-preserved
loop-i-preserved c = let i = c.loop-i.invariant in let n = c.loop-i.i in let a = c.args in let rs = a.self.now.remainders in
    elim c.if-reps-i.branch [
      | then-reps-i w ↦ rw w.self-is (record {
        begun = begun_head n a.reps.now rs i.begun (eq-eqb (get_or a.reps.now n 0) n w.if-reps-i.true) (rw (← i.remainders) w.enter.ensures.entered);
        remainders = w.enter.ensures.remainders ∙ i.remainders;
        used = w.enter.ensures.used ∙ i.used;
      })
      | else-reps-i w ↦ rw w.self-is (record { begun = begun_other n a.reps.now rs i.begun (ne_eqb (get_or a.reps.now n 0) n w.if-reps-i.false); remainders = i.remainders; used = i.used })
    ]

pub returns-clause-sizes : goal.returns-clause-sizes
returns-clause-sizes c = let i = c.loop-i.invariant in record { remainders = omega (arith, ap length i.remainders); used = omega (arith, ap length i.used); empty = i.begun.words }
