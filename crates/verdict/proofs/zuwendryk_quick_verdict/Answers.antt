-- `verdict::zuwendryk_quick_verdict` meets its contract: the number of the quick verdict's answer; with a budget that both limits allow, it is the full call's.
use mathlib.Core.Path.{sym, ◌∙◌, subst}
use native.Mathlib.Omega.{arith}
use lib.ListN.{length}
use Rattle.deduction.specs.Setting.{every}
use Rattle.verdict.specs.Refused.{full_limit, quick_limit}
use Rattle.verdict.specs.Demands.{Demanded}
use Rattle.verdict.specs.Agrees.{Agrees}
use Rattle.verdict.proofs.Laws.Answered.{answer_limits, buffer_limits}
use Rattle.verdict.proofs.zuwendryk_quick_verdict.Goals as goal

pub returns : goal.returns
returns c = let s = c.args in
    let v = c.quick.ensures in
    let n = c.number.ensures in record { answer = n ∙ v.answer; bytes = v.bytes; demands = subst (Demanded every quick_limit s.sheet.now s.cut s.budget s.buffer.now c.quick.new.out) (sym n) v.demands; agrees = subst (Agrees every s.sheet.now s.cut) (sym n) v.agrees; full_answer = λ low. n ∙ v.answer ∙ answer_limits quick_limit full_limit s.sheet.now s.cut s.budget low (omega arith) every (length s.buffer.now); full_bytes = λ low. v.bytes ∙ buffer_limits quick_limit full_limit s.sheet.now s.cut s.budget low (omega arith) every s.buffer.now }
