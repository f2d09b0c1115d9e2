-- `verdict::judged` meets its contract: the number and the buffer of what was decided.
use mathlib.Core.Path.{sym}
use lib.ListN.{length}
use Rattle.deduction.specs.Setting.{switches}
use Rattle.verdict.specs.Refused.{full_limit}
use Rattle.verdict.proofs.Laws.Answered.{accepted, answered, answered_few, answered_buffer}
use Rattle.verdict.proofs.judged.Goals as goal

pub returns : goal.returns
returns c = let s = c.args in
    let d = c.decide-ended in
    let ok = sym (accepted full_limit s.sheet.bytes.now s.cut s.budget (length s.out.now) s.sheet.good c.requires.0 c.requires.1 c.requires.2) in
    record { answer = answered (switches s.rules) full_limit s.sheet.bytes.now s.cut s.budget s.out.now d.new.out d.result d.ensures ok; few = answered_few (switches s.rules) full_limit s.sheet.bytes.now s.cut s.budget s.out.now d.new.out d.result d.ensures ok; bytes = answered_buffer (switches s.rules) full_limit s.sheet.bytes.now s.cut s.budget s.out.now d.new.out d.result d.ensures ok }
