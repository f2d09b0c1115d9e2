-- `dag::faults::bad_records` meets its contract: the first record with a fault, if any.
use native.Mathlib.Omega.{arith}
use Rattle.std.proofs.lemmas.Result.{err_from_is_err_and}
use mathlib.Core.Path.{sym}
use Rattle.dag.specs.Sheet.{count_of}
use Rattle.dag.specs.Refusal.{first, bad_records, bad_record_at}
use Rattle.dag.proofs.Laws.Refusal.{first_more}
use Rattle.dag.proofs.Laws.Code.{first_code}
use Rattle.dag.proofs.faults.bad_records.Goals as goal

pub loop-i-init : goal.loop-i-init
unfolding first
loop-i-init c = grind arith

pub returns-in_err-bad_record_at : goal.returns-in_err-bad_record_at
unfolding bad_records
returns-in_err-bad_record_at c =
    let p = err_from_is_err_and c.from_residual.result c.from_residual.ensures.1 in
    let s = c.args.s.now in
    rw (p.1, p.2) (first_code (bad_record_at s) c.loop-i.i (count_of s) c.in_err-bad_record_at.field-0.0 (omega arith) c.loop-i.invariant c.in_err-bad_record_at.ensures)

pub loop-i-preserved : goal.loop-i-preserved
loop-i-preserved c = first_more (bad_record_at c.args.s.now) c.loop-i.i c.loop-i.invariant (sym c.in_ok-bad_record_at.ensures)

pub returns : goal.returns
unfolding bad_records
returns c = grind arith
