-- `verdict::line_of` meets its contract: the two sets of one line.
use mathlib.Core.Path.{refl}
use Rattle.verdict.proofs.line_of.Goals as goal

pub returns : goal.returns
returns c = refl
