-- `verdict::quick` meets its contract: the limit is 64, and the byte 255 switches every rule on.
use mathlib.Core.Path.{◌∙◌, ap, subst}
use lib.ListN.{length}
use Rattle.deduction.specs.Setting.{Setting}
use Rattle.deduction.proofs.Settings.{switches_every}
use Rattle.verdict.specs.Refused.{quick_limit}
use Rattle.verdict.specs.Demands.{Demanded}
use Rattle.verdict.specs.Agrees.{Agrees}
use Rattle.verdict.specs.Answer.{answer_of, buffer_of}
use Rattle.verdict.specs.Code.{number_of}
use Rattle.verdict.proofs.quick.Goals as goal

pub returns : goal.returns
returns c = let s = c.args in
    let v = c.within.ensures in record { answer = v.answer ∙ ap (λ (on : Setting). answer_of on quick_limit s.sheet.now s.cut s.budget (length s.out.now)) switches_every; few = v.few; bytes = v.bytes ∙ ap (λ (on : Setting). buffer_of on quick_limit s.sheet.now s.cut s.budget s.out.now) switches_every; demands = subst (λ (on : Setting). Demanded on quick_limit s.sheet.now s.cut s.budget s.out.now c.within.new.out (number_of c.within.result)) switches_every v.demands; agrees = subst (λ (on : Setting). Agrees on s.sheet.now s.cut (number_of c.within.result)) switches_every v.agrees }
