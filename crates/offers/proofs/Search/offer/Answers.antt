-- `offers::Search::offer` meets its contract: by the rule's switch.
use mathlib.Core.Path.{sym, ap, ◌∙◌}
use mathlib.Core.List.{[], ◌∷◌}
use Prim.Native.Nat.{ℕ}
use Rattle.deduction.specs.Run.{by_rule}
use Rattle.offers.proofs.Laws.Gives.{rule_step}
use Rattle.offers.proofs.Laws.Search.{offered_none, offered_as, offered_when, offered_unless}
use Rattle.offers.proofs.Search.offer.Goals as goal

pub returns-then-is_on : goal.returns-then-is_on
unfolding by_rule
returns-then-is_on c = let a = c.args in
    offered_when _ (sym c.is_on.ensures ∙ c.if-is_on.true) (offered_as (ap (λ (x : ℕ). x ∷ []) (rule_step a.head a.first a.rule)) c.lower.ensures)

pub returns-else-is_on : goal.returns-else-is_on
unfolding by_rule
returns-else-is_on c = offered_unless _ (sym c.is_on.ensures ∙ c.if-is_on.false) (offered_none c.args.self.now)
