-- `verdict::zuwendryk_limited_verdict` meets its contract: the number of the verdict's answer.
use mathlib.Core.Path.{sym, ◌∙◌, subst}
use Rattle.deduction.specs.Setting.{switches}
use Rattle.verdict.specs.Refused.{full_limit}
use Rattle.verdict.specs.Demands.{Demanded}
use Rattle.verdict.specs.Agrees.{Agrees}
use Rattle.verdict.proofs.zuwendryk_limited_verdict.Goals as goal

pub returns : goal.returns
returns c = let s = c.args in
    let v = c.limited.ensures in
    record { answer = c.number.ensures ∙ v.answer; bytes = v.bytes; demands = subst (Demanded (switches s.rules) full_limit s.sheet.now s.cut s.budget s.buffer.now c.limited.new.out) (sym c.number.ensures) v.demands; agrees = subst (Agrees (switches s.rules) s.sheet.now s.cut) (sym c.number.ensures) v.agrees }
