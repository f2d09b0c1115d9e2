-- `start::heads::Heads::new` meets its contract.
use mir.Syntax.{w64}
use mir.Val.{Fits}
use lib.ListN.{get_or}
use borrow.Author.Rules.{rules}
use Rattle.start.proofs.Laws.Noted.{noted_none}
use Rattle.start.proofs.heads.Heads.new.Goals as goal

pub invariant_of-result : goal.invariant_of-result
invariant_of-result c = noted_none _ c.empty.result (record { four = search rules; below = λ i. let f : Fits w64 (get_or c.empty.result i 0) = search rules in f.fits }) c.empty.ensures
