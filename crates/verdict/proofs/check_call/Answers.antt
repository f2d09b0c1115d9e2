-- `verdict::check_call` meets its contract: rows 8, 9 and 10, on a good sheet.
use native.Mathlib.Omega.{arith}
use Rattle.verdict.proofs.Laws.Answered.{refused_cut, refused_budget, refused_space, accepted}
use Rattle.verdict.proofs.check_call.Goals as goal

pub returns-then-trace_len-cut : goal.returns-then-trace_len-cut
returns-then-trace_len-cut c = let s = c.args in
    refused_cut s.limit s.sheet.bytes.now s.cut s.budget s.space s.sheet.good (omega (arith, c.trace_len.ensures))

pub returns-then-limit-budget : goal.returns-then-limit-budget
returns-then-limit-budget c = let s = c.args in
    refused_budget s.limit s.sheet.bytes.now s.cut s.budget s.space s.sheet.good (omega (arith, c.trace_len.ensures)) (omega arith)

pub returns-then-space-budget : goal.returns-then-space-budget
returns-then-space-budget c = let s = c.args in
    refused_space s.limit s.sheet.bytes.now s.cut s.budget s.space s.sheet.good (omega (arith, c.trace_len.ensures)) (omega arith) (omega arith)

pub returns : goal.returns
returns c = let s = c.args in
    accepted s.limit s.sheet.bytes.now s.cut s.budget s.space s.sheet.good (omega (arith, c.trace_len.ensures)) (omega arith) (omega arith)
