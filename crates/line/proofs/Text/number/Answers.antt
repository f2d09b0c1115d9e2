-- `line::Text::number` meets its contract: a space, then what the library prints of the number.
use mathlib.Core.Path.{◌≡◌, sym, subst, ◌∙◌}
use mathlib.Core.List.{List, [], ◌∷◌}
use Prim.Native.Nat.{ℕ}
use native.Mathlib.Omega.{arith}
use Rattle.line.specs.Decimal.{decimal}
use Rattle.line.specs.Text.{Fits}
use Rattle.line.proofs.Laws.Decimal.{decimal_printed}
use Rattle.line.proofs.Laws.Text.{fits_next, adds_next, adds_as}
use Rattle.line.proofs.Text.number.Goals as goal
use Rattle.line.proofs.Text.number.Goals.{After-as_bytes}

printed : (c : After-as_bytes) → c.as_bytes.result.now ≡ decimal c.args.x
printed c = c.as_bytes.ensures.value ∙ c.format.ensures.text ∙ decimal_printed c.args.x (omega arith)

pub push-requires-2 : goal.push-requires-2
push-requires-2 c = subst (λ (w : List ℕ). Fits c.push.new.self w) (sym (printed (goal.at.push-requires-2 c).After-as_bytes)) (fits_next (32 ∷ []) (decimal c.args.x) c.requires c.push.ensures)

pub returns : goal.returns
returns c = adds_next c.push.ensures (adds_as (printed (goal.at.returns c).After-as_bytes) c.push-2.ensures)
