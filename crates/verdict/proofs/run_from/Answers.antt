-- `verdict::run_from` meets its contract: the run, and what stands before its steps.
use mathlib.Core.Path.{ap}
use Prim.Native.Nat.{ℕ, ◌<◌}
use native.Mathlib.Nat.{le_of_eq, lt_of_le_of_lt, lt_of_lt_of_le}
use native.Mathlib.Omega.{arith}
use lib.ListN.{get_or}
use Rattle.deduction.specs.Setting.{switches}
use Rattle.deduction.specs.Run.{knowledge}
use Rattle.dag.specs.Record.{entry_at}
use Rattle.dag.proofs.Laws.Good.{good}
use Rattle.start.specs.Start.{start_heads}
use Rattle.verdict.proofs.Laws.Decide.{decided}
use Rattle.verdict.proofs.run_from.Goals as goal
use Rattle.verdict.proofs.run_from.Goals.{After-goal-goal}

-- the goal is an entry's number
goal_low : (c : After-goal-goal) → c.goal-goal.result < 256
goal_low c = let g = good c.args.sheet.bytes.now c.args.sheet.good in lt_of_lt_of_le (lt_of_le_of_lt (le_of_eq c.goal-goal.ensures) g.goal) g.few

pub run-ended-requires : goal.run-ended-requires
run-ended-requires c = let p = c.requires.0 in record { right = p.right; limit = p.limit; space = omega (arith, p.space) }

pub bounds-tables-goal : goal.bounds-tables-goal
bounds-tables-goal c = omega (arith, goal_low (goal.at.bounds-tables-goal c).After-goal-goal)

pub write_front-requires : goal.write_front-requires
write_front-requires c = omega (arith, c.requires.0.space)

pub returns : goal.returns
returns c = let w = c.write_front in let x = c.missing-missing in let l = c.line_of-line in let g = c.goal-goal in let r = c.run-ended in λ cut start. let p = c.requires.0 in
    let s = c.args.sheet.bytes.now in
    decided (switches c.args.rules) s cut c.args.budget c.args.tables.now.reps c.args.out.now r.result _ _
    (r.ensures (knowledge (entry_at s) (start_heads s cut)) start.members start.lines)
    p.right.rep (good s c.args.sheet.good).goal _ x.result.remainder x.result.used l.result.remainder l.result.used _ c.requires.1
    (ap (λ (i : ℕ). get_or c.args.tables.now.reps i 0) g.ensures) l.ensures x.ensures (omega (arith, p.space)) w.new.out w.ensures
