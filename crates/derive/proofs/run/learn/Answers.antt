-- `derive::run::learn` meets its contract: the known set has the head, then its own offers and those of its users.
use mathlib.Core.Path.{ap, ◌∙◌}
use mathlib.Core.List.{List, [], ◌++◌}
use Prim.Native.Nat.{ℕ}
use lib.ListN.{get_or}
use Rattle.bitset.specs.Words.{value}
use Rattle.deduction.specs.Setting.{Setting, switches}
use Rattle.offers.specs.Inner.Offers.{key_offers, set_offers}
use Rattle.offers.proofs.Laws.Table.{adds_as}
use Rattle.offers.proofs.Laws.Search.{offered_then}
use Rattle.derive.proofs.run.learn.Goals as goal

pub returns : goal.returns
returns c = let a = c.args in
    let on = switches a.state.now.rules in
    let us = value (get_or a.users.now a.head []) in
    let theirs : Setting → ℕ → List ℕ = λ on g. set_offers on g a.keys.now us 256 in
    let both = offered_then theirs c.offers.ensures c.offers_of.ensures in
    record {
      known = ap value both.known ∙ c.put.ensures.set;
      rules = both.rules;
      offers = adds_as (ap (λ (g : ℕ). key_offers on g (get_or a.keys.now a.head 0) a.head ++ set_offers on g a.keys.now us 256) c.put.ensures.set) both.table;
    }
