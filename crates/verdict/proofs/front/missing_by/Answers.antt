-- `verdict::front::missing_by` meets its contract: by the switch of the sum rule.
use mathlib.Core.Path.{sym, ◌∙◌}
use Rattle.bitset.specs.Words.{value}
use Rattle.deduction.specs.Setting.{switches}
use Rattle.verdict.specs.Inner.Decide.{reduced_of}
use Rattle.verdict.proofs.Laws.Front.{missing_with_sum, missing_without_sum}
use Rattle.verdict.proofs.front.missing_by.Goals as goal

pub returns-then-is_on : goal.returns-then-is_on
returns-then-is_on c = let s = c.args in
    sym (missing_with_sum (switches s.rules) (reduced_of s.line.remainder s.line.used) (value s.set) (sym c.is_on.ensures ∙ c.if-is_on.true))

pub returns : goal.returns
returns c = let s = c.args in
    (λ i. record { remainder = value s.set; used = c.empty.ensures i })
    ∙ sym (missing_without_sum (switches s.rules) (reduced_of s.line.remainder s.line.used) (value s.set) (sym c.is_on.ensures ∙ c.if-is_on.false))
