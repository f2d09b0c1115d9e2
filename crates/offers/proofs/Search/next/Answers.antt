-- `offers::Search::next` meets its contract: by the lowest head that waits.
use mathlib.Core.Path.{◌∙◌}
use borrow.Author.Rules.{rules}
use Rattle.bitset.specs.Words.{value}
use Rattle.deduction.specs.Setting.{switches}
use Rattle.offers.proofs.Laws.Waiting.{next_none, next_found}
use Rattle.offers.proofs.Search.next.Goals as goal

pub returns-in_err-head : goal.returns-in_err-head
returns-in_err-head c = let s = c.args.self.now in
    rw c.from_residual.ensures (next_none (switches s.rules) s.best (value s.ready) (value c.args.empty) (value s.known) _ _ _ c.by_sum-sums.ensures c.union.ensures c.minus.ensures c.in_err-head.ensures)

pub returns : goal.returns
returns c = let s = c.args.self.now in (
  c.least_step.ensures.0
      ∙ next_found (switches s.rules) s.best (value s.ready) (value c.args.empty) (value s.known) _ _ _ c.by_sum-sums.ensures c.union.ensures c.minus.ensures c.in_ok-head.ensures (search rules),
  c.least_step.ensures.1,
)
