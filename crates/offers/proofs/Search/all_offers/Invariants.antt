-- `offers::Search::all_offers` meets its contract: what the heads so far offer.
use Rattle.bitset.specs.Words.{value}
use Rattle.deduction.specs.Setting.{switches}
use Rattle.offers.specs.Inner.Offers.{table_offers}
use Rattle.offers.specs.Inner.Search.{Offered}
use Rattle.offers.proofs.Search.all_offers.Given as goal

abbrev pub invariant-loop-i : goal.invariant-loop-i
invariant-loop-i l = Offered l.initial.self l.self (table_offers (switches l.initial.self.rules) (value l.initial.self.known) l.tables.keys l.tables.reps l.i)
