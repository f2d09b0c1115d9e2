-- `dag::faults::forward_items` meets its contract.
use native.Mathlib.Omega.{arith}
use Rattle.dag.specs.Sheet.{listed}
use Rattle.dag.specs.Record.{item_count, item_at}
use Rattle.dag.specs.Refusal.{when, any_from}
use Rattle.dag.proofs.Laws.Refusal.{when_yes, any_from_more, any_from_found}
use Rattle.dag.proofs.faults.forward_items.Goals as goal

pub loop-j-init : goal.loop-j-init
unfolding any_from listed
loop-j-init c = grind arith

pub returns-then-i-number_at : goal.returns-then-i-number_at
returns-then-i-number_at c = let r = c.args.r.now in
    when_yes 6 (any_from_found c.args.i (item_at r) c.loop-j.j (item_count r) (omega arith) (omega arith))

pub loop-j-preserved : goal.loop-j-preserved
loop-j-preserved c = any_from_more c.args.i (item_at c.args.r.now) c.loop-j.j c.loop-j.invariant (omega arith)

pub returns : goal.returns
unfolding when
returns c = grind arith
