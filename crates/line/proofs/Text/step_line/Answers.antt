-- `line::Text::step_line` meets its contract: the head, the rule with its sources, then the newline; a step's line is short.
use mathlib.Core.Path.{ap}
use Rattle.line.specs.Words.{step_word}
use Rattle.line.specs.Line.{field}
use native.Mathlib.Omega.{arith}
use Rattle.bitset.specs.Words.{value}
use Rattle.line.proofs.Laws.Text.{adds_as, adds_next}
use Rattle.line.proofs.Laws.Line.{step_length}
use Rattle.line.proofs.Text.step_line.Goals as goal

pub returns : goal.returns
returns c = let r = c.args.rung in
    let whole = adds_next (adds_next (adds_as (ap (field step_word) c.from.ensures) c.field.ensures) c.rule.ensures) c.newline.ensures in
    record { text = whole; short = omega (arith, whole.text.place, step_length r.head r.rule r.first r.second (value r.set) (omega arith) (omega arith) (omega arith)) }
