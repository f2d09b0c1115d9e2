-- `offers::Search::offers_of` meets its contract: word by word.
use Prim.Native.Nat.{◌*◌}
use Rattle.bitset.specs.Words.{value}
use Rattle.deduction.specs.Setting.{switches}
use Rattle.offers.specs.Inner.Offers.{set_offers}
use Rattle.offers.specs.Inner.Search.{Offered}
use Rattle.offers.proofs.Search.offers_of.Given as goal

abbrev pub invariant-loop-w : goal.invariant-loop-w
invariant-loop-w l = let s = l.initial.self in
    Offered s l.self (set_offers (switches s.rules) (value s.known) l.keys (value l.users) (l.w * 64))
