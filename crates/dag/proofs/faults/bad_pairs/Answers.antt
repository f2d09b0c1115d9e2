-- `dag::faults::bad_pairs` meets its contract.
use native.Mathlib.Omega.{arith}
use Rattle.dag.specs.Sheet.{begin_at}
use Rattle.dag.specs.Refusal.{when, first, bad_pair}
use Rattle.dag.proofs.Laws.Refusal.{first_more}
use Rattle.dag.proofs.Laws.Pairs.{pairs_found}
use Rattle.dag.proofs.faults.bad_pairs.Goals as goal

pub loop-i-init : goal.loop-i-init
unfolding first begin_at
loop-i-init c = grind arith

pub returns-then-len-eq0 : goal.returns-then-len-eq0
unfolding bad_pair when
returns-then-len-eq0 c = pairs_found c.args.s.now c.loop-i.i (omega arith) c.loop-i.invariant.1 (grind arith)

pub loop-i-preserved : goal.loop-i-preserved
unfolding bad_pair when begin_at
loop-i-preserved c = (grind arith, first_more (bad_pair c.args.s.now) c.loop-i.i c.loop-i.invariant.1 (grind arith))
