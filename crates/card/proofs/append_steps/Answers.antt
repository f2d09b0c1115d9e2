-- `card::append_steps` meets its contract. The loop's invariant: the lines of the first i rungs are added.
use Prim.Native.Nat.{◌*◌}
use native.Mathlib.Omega.{arith}
use Rattle.bitset.specs.Words.{value}
use Rattle.line.proofs.Laws.Buffer.{append_kept}
use Rattle.line.proofs.Laws.Line.{step_length}
use Rattle.card.proofs.Laws.Card.{steps_none, steps_more}
use Rattle.card.proofs.append_steps.Goals as goal

pub loop-i-init : goal.loop-i-init
loop-i-init c = (omega arith, steps_none c.args.buffer.now c.args.text.now (1050 * c.args.n) c.requires.2)

pub step_line-requires : goal.step_line-requires
step_line-requires c = let l = c.loop-i in
    let r = c.read_rung.result in
    omega (arith, c.requires.2, l.invariant.0, append_kept l.invariant.1.text, c.loop-i-test.true, step_length r.head r.rule r.first r.second (value r.set) (omega arith) (omega arith) (omega arith))

pub loop-i-preserved : goal.loop-i-preserved
loop-i-preserved c = let l = c.loop-i in
    let r = c.read_rung.result in
    let p = c.step_line.ensures in (
      omega (arith, l.invariant.0, p.short),
      steps_more c.args.buffer.now l.i r l.invariant.1 c.read_rung.ensures p.text,
    )
