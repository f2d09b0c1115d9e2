-- `verdict::verdict` meets its contract: the byte 255 switches every rule on.
use mathlib.Core.Path.{◌∙◌, ap, subst}
use lib.ListN.{length}
use Rattle.deduction.specs.Setting.{Setting}
use Rattle.deduction.proofs.Settings.{switches_every}
use Rattle.verdict.specs.Refused.{full_limit}
use Rattle.verdict.specs.Demands.{Demanded}
use Rattle.verdict.specs.Agrees.{Agrees}
use Rattle.verdict.specs.Answer.{answer_of, buffer_of}
use Rattle.verdict.specs.Code.{number_of}
use Rattle.verdict.proofs.verdict.Goals as goal

pub returns : goal.returns
returns c = let s = c.args in
    let v = c.limited.ensures in record { answer = v.answer ∙ ap (λ (on : Setting). answer_of on full_limit s.sheet.now s.cut s.budget (length s.out.now)) switches_every; few = v.few; bytes = v.bytes ∙ ap (λ (on : Setting). buffer_of on full_limit s.sheet.now s.cut s.budget s.out.now) switches_every; demands = subst (λ (on : Setting). Demanded on full_limit s.sheet.now s.cut s.budget s.out.now c.limited.new.out (number_of c.limited.result)) switches_every v.demands; agrees = subst (λ (on : Setting). Agrees on s.sheet.now s.cut (number_of c.limited.result)) switches_every v.agrees }
