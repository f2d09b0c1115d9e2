-- `verdict::decide` meets its contract: the tables, what is known at the start, and the run from there.
use mathlib.Core.Path.{ap, ◌∙◌}
use Prim.Native.Nat.{ℕ, ◌<◌}
use native.Mathlib.Nat.{le_of_eq, lt_of_le_of_lt, lt_of_lt_of_le}
use Rattle.bitset.proofs.Laws.Words.{value_zero}
use Rattle.dag.specs.Sheet.{goal_of}
use Rattle.dag.proofs.Laws.Good.{good}
use Rattle.knowledge.specs.Inner.Lines.{set_in}
use mathlib.Core.List.{[], ◌∷◌}
use native.Mathlib.Omega.{arith}
use Rattle.verdict.proofs.Laws.Decide.{table_zero}
use Rattle.verdict.proofs.decide.Goals as goal
use Rattle.verdict.proofs.decide.Goals.{After-goal}

-- the goal is an entry's number
goal_low : (c : After-goal) → c.goal.result < 256
goal_low c = let g = good c.args.sheet.bytes.now c.args.sheet.good in lt_of_lt_of_le (lt_of_le_of_lt (le_of_eq c.goal.ensures) g.goal) g.few

pub bounds-lines-goal : goal.bounds-lines-goal
bounds-lines-goal c = goal_low (goal.at.bounds-lines-goal c).After-goal

pub state-start-requires : goal.state-start-requires
state-start-requires c = let e = c.fill.ensures in
    record {
      within = c.requires.0;
      key = e.right.key;
      rep = e.right.rep;
      fresh = e.right.set;
      unused = table_zero 256 (0 ∷ 0 ∷ 0 ∷ 0 ∷ []) value_zero;
      flat = table_zero 256 (0 ∷ 0 ∷ 0 ∷ 0 ∷ []) value_zero;
      none = value_zero;
    }

pub run_from-requires : goal.run_from-requires
run_from-requires c = let s = c.args.sheet in let e = c.fill.ensures in (
  record { right = record { key = e.right.key; rep = e.right.rep }; limit = c.requires.1; space = omega (arith, c.requires.2) },
  ap (λ (i : ℕ). set_in c.fill.new.sets i) c.goal.ensures ∙ e.right.set (goal_of s.bytes.now) (good s.bytes.now s.good).goal,
)

pub returns : goal.returns
returns c = let m = c.state-start in c.run_from.ensures c.args.cut (record { members = m.ensures.state.known; lines = m.ensures.lines })
