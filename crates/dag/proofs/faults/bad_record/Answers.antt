-- `dag::faults::bad_record` meets its contract, kind by kind.
use mathlib.Core.Path.{sym, ◌∙◌}
use native.Mathlib.Omega.{arith}
use Rattle.std.proofs.lemmas.Result.{err_from_is_err_and}
use Rattle.deduction.specs.Entry.{parts}
use Rattle.dag.specs.Record.{decode_as}
use Rattle.dag.proofs.Laws.Record.{fits_none}
use Rattle.dag.proofs.Laws.Parts.{record_bad, record_none, record_two, record_items}
use Rattle.dag.proofs.faults.bad_record.Goals as goal

pub returns-in_err-kind : goal.returns-in_err-kind
returns-in_err-kind c = let p = err_from_is_err_and c.from_residual.result c.from_residual.ensures.1 in
    let q = c.in_err-kind.ensures in
    rw (p.1, p.2, q.0) (record_bad c.args.i c.args.r.now (sym (fits_none _ _ (omega arith))))

pub returns-then-not-has_length : goal.returns-then-not-has_length
returns-then-not-has_length c = record_bad c.args.i c.args.r.now (grind arith)

pub returns-in-Zero : goal.returns-in-Zero
unfolding parts decode_as
returns-in-Zero c = record_none c.args.i c.args.r.now (grind arith) (grind arith)

pub returns-in-Pair : goal.returns-in-Pair
returns-in-Pair c = c.forward_parts.ensures ∙ record_two c.args.i c.args.r.now (grind arith) (grind arith)

pub returns-in-Sum : goal.returns-in-Sum
returns-in-Sum c = c.forward_items.ensures ∙ record_items c.args.i c.args.r.now (grind arith) (grind arith)
