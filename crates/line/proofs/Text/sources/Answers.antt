-- `line::Text::sources` meets its contract. The loop's invariant: the sources below e are added.
use mathlib.Core.Path.{◌≡◌, ap}
use Prim.Native.Nat.{◌+◌}
use native.Mathlib.Omega.{arith}
use Rattle.bitset.specs.Words.{value}
use Rattle.line.specs.Line.{sources}
use Rattle.line.proofs.Laws.Text.{adds_as, adds_none}
use Rattle.line.proofs.Laws.Line.{source_fits, source_added}
use Rattle.line.proofs.Text.sources.Goals as goal

pub loop-e-init : goal.loop-e-init
unfolding sources
loop-e-init c = (omega arith, c.requires, adds_none c.args.self.now (sources (value c.args.set) 256) c.requires)

pub source-requires : goal.source-requires
source-requires c = source_fits (value c.args.set) c.loop-e.e (omega arith) c.requires c.loop-e.invariant.2

pub loop-e-preserved : goal.loop-e-preserved
loop-e-preserved c = (omega arith, c.requires, source_added (value c.args.set) c.loop-e.e c.loop-e.invariant.2 c.source.ensures)

pub returns-2 : goal.returns-2
returns-2 c = let last : c.loop-e.e + 1 ≡ 256 = omega arith in
    adds_as (ap (sources (value c.args.set)) last) (source_added (value c.args.set) c.loop-e.e c.loop-e.invariant.2 c.source.ensures)
