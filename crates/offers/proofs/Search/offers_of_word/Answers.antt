-- `offers::Search::offers_of_word` meets its contract: the members are taken from the lowest on.
use mathlib.Core.Path.{ap, ◌∙◌}
use mathlib.Core.List.{List}
use Prim.Native.Nat.{ℕ}
use borrow.Author.Rules.{rules}
use lib.ListN.{get_or}
use Rattle.bitset.specs.Words.{value}
use Rattle.deduction.specs.Setting.{Setting, switches}
use Rattle.offers.specs.Inner.Offers.{key_offers, set_offers}
use Rattle.offers.proofs.Laws.Search.{offered_as, offering_more, offering_end}
use Rattle.offers.proofs.Laws.Members.{lists_empty, lists_next, lists_moved}
use Rattle.offers.proofs.Search.offers_of_word.Goals as goal

pub loop-i-preserved : goal.loop-i-preserved
loop-i-preserved c = let s = c.args.self.now in
    let one : Setting → ℕ → List ℕ = λ on g. key_offers on g (get_or c.args.keys.now c.in-Some.i 0) c.in-Some.i in
    let each : ℕ → List ℕ = λ i. key_offers (switches s.rules) (value s.known) (get_or c.args.keys.now i 0) i in
    offering_more one (lists_next each 256 c.in-Some.ensures.steps (search rules)) c.loop-i.invariant c.offers.ensures

pub returns : goal.returns
returns c = let s = c.args.self.now in
    let each : ℕ → List ℕ = λ i. key_offers (switches s.rules) (value s.known) (get_or c.args.keys.now i 0) i in
    offered_as
    (ap (λ (left : ℕ). set_offers (switches s.rules) (value s.known) c.args.keys.now left 256) (c.into_iter-i-iterator.ensures.into_iter_gives ∙ c.members_of-i-items.ensures)
    ∙ lists_moved each c.args.word c.args.base c.ranges.word.fits c.requires)
    (offering_end (lists_empty each 256 c.in-None.ensures.steps.0) c.loop-i.invariant)
