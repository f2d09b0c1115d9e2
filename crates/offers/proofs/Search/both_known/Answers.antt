-- `offers::Search::both_known` meets its contract: by the tests of the two parts.
use mathlib.Core.Path.{ap, ◌∙◌}
use Rattle.bitset.specs.Set.{member}
use Rattle.bitset.specs.Words.{value}
use Rattle.offers.specs.Inner.Offers.{both_known}
use Rattle.offers.proofs.Laws.Gives.{part_known}
use Rattle.offers.proofs.Search.both_known.Goals as goal

pub returns-then-holds : goal.returns-then-holds
unfolding both_known
returns-then-holds c = let g = value c.args.self.now.known in
    rw (part_known g c.left.ensures c.holds.ensures c.if-holds.true) (c.holds-then-holds.ensures ∙ ap (member g) c.right.ensures)

pub returns-else-holds : goal.returns-else-holds
unfolding both_known
returns-else-holds c = rw (part_known (value c.args.self.now.known) c.left.ensures c.holds.ensures c.if-holds.false) c.if-holds.false
