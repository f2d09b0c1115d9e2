-- `offers::Search::offers` meets its contract: by the test whether the entry is known.
use mathlib.Core.Path.{sym, ◌∙◌}
use Rattle.offers.specs.Inner.Offers.{key_offers}
use Rattle.offers.proofs.Laws.Search.{offered_when, offered_unless}
use Rattle.offers.proofs.Search.offers.Goals as goal

pub returns-then-holds : goal.returns-then-holds
unfolding key_offers
returns-then-holds c = offered_when _ (sym c.holds.ensures ∙ c.if-holds.true) c.opened.ensures

pub returns-else-holds : goal.returns-else-holds
unfolding key_offers
returns-else-holds c = offered_unless _ (sym c.holds.ensures ∙ c.if-holds.false) c.built.ensures
