-- `start::is_public_head` meets its contract.
use mathlib.Core.Path.{sym, ap, ◌∙◌}
use mathlib.Core.Bool.{Bool, ◌&&◌}
use lib.Dec.{eqb}
use lib.ListN.{get_or}
use Rattle.start.proofs.is_public_head.Goals as goal

pub returns-then-is_public : goal.returns-then-is_public
returns-then-is_public c = ap (λ (b : Bool). b && eqb (get_or c.args.tables.now.reps c.args.i 0) c.args.i) (sym (sym c.is_public.ensures ∙ c.if-is_public.true))
