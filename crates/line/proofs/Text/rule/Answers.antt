-- `line::Text::rule` meets its contract: a sum, and a number that no rule has.
use mathlib.Core.Path.{sym, ap}
use Prim.Native.Nat.{ℕ}
use native.Mathlib.Omega.{arith}
use Rattle.bitset.specs.Words.{value}
use Rattle.line.specs.Line.{rule_text}
use Rattle.line.proofs.Laws.Text.{adds_none, adds_as, adds_next}
use Rattle.line.proofs.Laws.Line.{rule_none}
use Rattle.line.proofs.Text.rule.Goals as goal

pub returns-in-6 : goal.returns-in-6
unfolding rule_text
returns-in-6 c = let r = c.args.rung in
    adds_as (ap (λ (k : ℕ). rule_text k r.first r.second (value r.set)) (sym c.in-6.is)) (adds_next c.push.ensures c.sources.ensures)

pub returns-in_default : goal.returns-in_default
returns-in_default c = let r = c.args.rung in
    adds_as (rule_none r.first r.second (value r.set) r.rule (λ h. omega arith)) (adds_none c.args.self.now (rule_text r.rule r.first r.second (value r.set)) c.requires)
