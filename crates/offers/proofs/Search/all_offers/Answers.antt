-- `offers::Search::all_offers` meets its contract: what the heads so far offer.
use mathlib.Core.Bool.{cond}
use mathlib.Core.List.{List, []}
use Prim.Native.Nat.{ℕ}
use lib.Dec.{eqb}
use lib.ListN.{get_or}
use Rattle.bitset.specs.Words.{value}
use Rattle.deduction.specs.Setting.{Setting, switches}
use Rattle.offers.specs.Inner.Offers.{key_offers, table_offers}
use Rattle.offers.proofs.Laws.Search.{offered_none, offered_as, offered_then}
use Rattle.offers.proofs.Laws.Keys.{table_more}
use Rattle.offers.proofs.Search.all_offers.Goals as goal

pub loop-i-init : goal.loop-i-init
unfolding table_offers
loop-i-init c = offered_none c.args.self.now

pub loop-i-preserved : goal.loop-i-preserved
loop-i-preserved c = let a = c.args in
    let i = c.loop-i.i in
    let one : Setting → ℕ → List ℕ = λ on g. cond (eqb (get_or a.tables.now.reps i 0) i) (key_offers on g (get_or a.tables.now.keys i 0) i) [] in
    offered_as (table_more (switches a.self.now.rules) (value a.self.now.known) a.tables.now.keys a.tables.now.reps i) (offered_then one c.loop-i.invariant c.head_offers.ensures)
