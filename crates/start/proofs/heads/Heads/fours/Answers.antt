-- `start::heads::Heads::fours` meets its contract.
use mathlib.Core.Path.{ap}
use native.Mathlib.Omega.{arith}
use lib.ListN.{length}
use lib.Seq.{length-take-le}
use Rattle.start.proofs.Laws.Noted.{noted_few}
use Rattle.start.proofs.heads.Heads.fours.Goals as goal

pub overflow_add-result : goal.overflow_add-result
overflow_add-result c = record { fits = omega (arith, noted_few c.self.invariant) }

pub returns : goal.returns
returns c = omega (arith, noted_few c.self.invariant, ap length c.self.view_is, length-take-le c.self.inside.len c.self.inside.list)
