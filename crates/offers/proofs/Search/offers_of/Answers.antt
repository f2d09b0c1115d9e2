-- `offers::Search::offers_of` meets its contract: word by word.
use mathlib.Core.List.{List}
use Prim.Native.Nat.{ℕ, ◌*◌}
use mir.Syntax.{w64}
use mir.Val.{Fits}
use lib.ListN.{get_or}
use Rattle.bitset.specs.Words.{value}
use Rattle.bitset.proofs.Laws.Words.{Below}
use Rattle.deduction.specs.Setting.{Setting, switches}
use Rattle.offers.specs.Inner.Offers.{key_offers, word_offers, lists_of}
use Rattle.offers.proofs.Laws.Search.{offered_none, offered_as, offered_then}
use Rattle.offers.proofs.Laws.Members.{lists_word}
use borrow.Author.Rules.{rules}
use Rattle.offers.proofs.Search.offers_of.Goals as goal

pub loop-w-init : goal.loop-w-init
unfolding lists_of
loop-w-init c = offered_none c.args.self.now

pub loop-w-preserved : goal.loop-w-preserved
loop-w-preserved c = let words : Below 64 c.args.users = λ i. let f : Fits w64 (get_or c.args.users i 0) = search rules in f.fits in
    let s = c.args.self.now in
    let w = c.loop-w.w in
    let each : ℕ → List ℕ = λ i. key_offers (switches s.rules) (value s.known) (get_or c.args.keys.now i 0) i in
    let one : Setting → ℕ → List ℕ = λ on g. word_offers on g c.args.keys.now (w * 64) (get_or c.args.users w 0) in
    offered_as (lists_word each c.args.users words w) (offered_then one c.loop-w.invariant c.offers_of_word.ensures)
