-- `verdict::zuwendryk_verdict` meets its contract: the number of the verdict's answer.
use mathlib.Core.Path.{sym, ◌∙◌, subst}
use Rattle.deduction.specs.Setting.{every}
use Rattle.verdict.specs.Refused.{full_limit}
use Rattle.verdict.specs.Demands.{Demanded}
use Rattle.verdict.specs.Agrees.{Agrees}
use Rattle.verdict.proofs.zuwendryk_verdict.Goals as goal

pub returns : goal.returns
returns c = let s = c.args in
    let v = c.verdict.ensures in
    record { answer = c.number.ensures ∙ v.answer; bytes = v.bytes; demands = subst (Demanded every full_limit s.sheet.now s.cut s.budget s.buffer.now c.verdict.new.out) (sym c.number.ensures) v.demands; agrees = subst (Agrees every s.sheet.now s.cut) (sym c.number.ensures) v.agrees }
