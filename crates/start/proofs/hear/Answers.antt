-- `start::hear` meets its contract. The loop's invariant: the first i fours are heard.
use mathlib.Core.Path.{◌≡◌, ap, ◌∙◌}
use mathlib.Core.List.{List, ◌++◌}
use Prim.Native.Nat.{ℕ, ◌+◌, ◌*◌, ◌<◌}
use native.Mathlib.Omega.{arith}
use lib.ListN.{length, take}
use Rattle.std.proofs.lemmas.List.{take_all}
use Rattle.deduction.specs.Elimination.{learn_all, nothing}
use Rattle.start.proofs.Laws.Hearing.{held_none, held_same}
use Rattle.start.proofs.Laws.Fours.{four_taught, four_live}
use Rattle.start.proofs.hear.Goals as goal

pub loop-i-init : goal.loop-i-init
loop-i-init c live f lives kept = held_none c.new-state.ensures kept

pub four-requires : goal.four-requires
four-requires c = omega (arith, c.fours-i-end.ensures, c.loop-i-test.true)

pub hear_four-state-requires : goal.hear_four-state-requires
hear_four-state-requires c = let r = c.requires in let some : 0 < length c.args.heads.now = omega (arith, c.fours-i-end.ensures, c.loop-i-test.true) in
    record {
      live = r.live;
      sets = r.sets;
      before = take (4 * c.loop-i.i) c.args.heads.now;
      lives = rw c.four.ensures (four_live c.args.heads.now some r.live r.lives (4 * c.loop-i.i));
      held = c.loop-i.invariant r.live r.sets r.lives r.kept;
    }

pub loop-i-preserved : goal.loop-i-preserved
loop-i-preserved c live f lives kept = let es = c.args.heads.now in let k = 4 * c.loop-i.i in let some : 0 < length es = omega (arith, c.fours-i-end.ensures, c.loop-i-test.true) in
    let next : k + 4 ≡ 4 * (c.loop-i.i + 1) = omega arith in
    held_same (ap (λ (l : List ℕ). learn_all f nothing (take k es ++ l)) c.four.ensures ∙ four_taught es some f k ∙ ap (λ (n : ℕ). learn_all f nothing (take n es)) next)
    (c.hear_four-state.ensures live f (take k es) (rw c.four.ensures (four_live es some live lives k)) (c.loop-i.invariant live f lives kept))

pub returns : goal.returns
returns c live f lives kept = let es = c.args.heads.now in
    held_same (ap (learn_all f nothing) (take_all (4 * c.loop-i.i) es (omega (arith, c.fours-i-end.ensures, c.loop-i-test.false)))) (c.loop-i.invariant live f lives kept)
