-- `offers::Search::by_sum` meets its contract: by the rule's switch.
use mathlib.Core.Path.{sym, ap, ◌∙◌}
use mathlib.Core.Bool.{Bool, ◌&&◌}
use Prim.Native.Nat.{ℕ}
use Rattle.bitset.specs.Set.{member}
use Rattle.bitset.specs.Words.{value}
use Rattle.bitset.proofs.Laws.Member.{member_empty}
use Rattle.offers.specs.Inner.Next.{summed}
use Rattle.offers.proofs.Search.by_sum.Goals as goal

pub returns-then-is_on : goal.returns-then-is_on
unfolding summed
returns-then-is_on c = λ h. ap (λ (b : Bool). b && member (value c.args.empty) h) (sym c.if-is_on.true ∙ c.is_on.ensures)

pub returns : goal.returns
unfolding summed
returns c = λ h. ap (λ (x : ℕ). member x h) c.empty.ensures ∙ member_empty h
    ∙ ap (λ (b : Bool). b && member (value c.args.empty) h) (sym c.if-is_on.false ∙ c.is_on.ensures)
