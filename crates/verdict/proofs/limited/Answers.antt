-- `verdict::limited` meets its contract: the limit is 256.
use Rattle.verdict.proofs.limited.Goals as goal

pub returns : goal.returns
returns c = c.within.ensures
