-- `start::heads::Heads::four` meets its contract.
use mathlib.Core.Path.{ap, ◌∙◌}
use mathlib.Core.List.{List}
use Prim.Native.Nat.{ℕ, ◌*◌}
use native.Mathlib.Omega.{arith}
use lib.ListN.{length}
use lib.Seq.{length-take-le}
use Rattle.start.specs.Inner.Heads.{four_from}
use Rattle.start.proofs.Laws.Noted.{noted_few}
use Rattle.start.proofs.Laws.Fours.{four_read}
use Rattle.start.proofs.heads.Heads.four.Goals as goal

pub overflow_mul-at : goal.overflow_mul-at
overflow_mul-at c = let few = noted_few c.self.invariant in record { fits = omega (arith, few, ap length c.self.view_is, length-take-le c.self.inside.len c.self.inside.list) }

pub returns : goal.returns
returns c = let f = c.self.inside in let few = noted_few c.self.invariant in let size = length-take-le f.len f.list (omega (arith, few)) in
    four_read f.list f.len (omega (arith, few)) (omega (arith, size, ap length c.self.view_is)) (4 * c.args.i) (omega (arith, size, ap length c.self.view_is)) c.min.ensures c.min-2.ensures c.min-3.ensures
    ∙ ap (λ (l : List ℕ). four_from l (4 * c.args.i)) c.self.view_is
