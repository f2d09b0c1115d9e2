-- `offers::Search::offers_of_word` meets its contract: the members are taken from the lowest on.
use Rattle.bitset.specs.Words.{value}
use Rattle.deduction.specs.Setting.{switches}
use Rattle.offers.specs.Inner.Offers.{set_offers}
use Rattle.offers.proofs.Laws.Search.{Offering}
use Rattle.offers.proofs.Search.offers_of_word.Given as goal

abbrev pub invariant-loop-i : goal.invariant-loop-i
invariant-loop-i l = let s = l.initial.self in
    Offering s l.self (set_offers (switches s.rules) (value s.known) l.keys l.i-iterator 256) (set_offers (switches s.rules) (value s.known) l.keys l.initial.i-iterator 256)
