-- `canonical::first_in_word` meets its contract: the members are tried from the lowest on.
use mathlib.Core.Path.{refl, sym, ap, ◌∙◌}
use Prim.Native.Nat.{ℕ, ◌*◌, ◌^◌}
use native.Mathlib.Nat.{zero-mul}
use native.Mathlib.Omega.{arith}
use borrow.Author.Rules.{rules}
use Rattle.bitset.proofs.Laws.Lowest.{lowest_within}
use Rattle.bitset.proofs.Laws.Members.{word_lowest, word_rest, word_less}
use Rattle.canonical.proofs.Laws.Search.{tried_start, tried_again, tried_found, tried_end}
use Rattle.canonical.proofs.first_in_word.Goals as goal

pub loop-left-init : goal.loop-left-init
loop-left-init g c = (search rules, λ p d. tried_start p refl)

pub overflow_add-i : goal.overflow_add-i
overflow_add-i g c = let within = lowest_within c.loop-left.left (omega arith) c.loop-left.invariant.0 in omega (arith, c.lowest.ensures, within)

pub returns-then-passes : goal.returns-then-passes
returns-then-passes g c =
    let l = c.loop-left in
    let within = lowest_within l.left (omega arith) l.invariant.0 in
    λ p d. tried_found (l.invariant.1 p d) (word_lowest l.left c.args.base c.loop-left-test.true l.invariant.0 c.lowest.result c.lowest.ensures)
    (sym (d.same _ _ (omega (arith, c.lowest.ensures, within)) c.passes.ensures) ∙ c.if-passes.true)

pub loop-left-smaller : goal.loop-left-smaller
loop-left-smaller g c = word_less c.loop-left.left c.args.base c.loop-left-test.true c.loop-left.invariant.0 c.rest-left.result c.rest-left.ensures

pub loop-left-preserved : goal.loop-left-preserved
loop-left-preserved g c =
    let l = c.loop-left in
    let within = lowest_within l.left (omega arith) l.invariant.0 in
    let low = word_lowest l.left c.args.base c.loop-left-test.true l.invariant.0 c.lowest.result c.lowest.ensures in
    let rest = word_rest l.left c.args.base c.loop-left-test.true l.invariant.0 c.rest-left.result c.rest-left.ensures c.lowest.result c.lowest.ensures in
    (search rules, λ p d. tried_again (l.invariant.1 p d) low rest (sym (d.same _ _ (omega (arith, c.lowest.ensures, within)) c.passes.ensures) ∙ c.if-passes.false))

pub returns : goal.returns
returns g c = λ p d. tried_end (c.loop-left.invariant.1 p d) (ap (λ (x : ℕ). x * 2 ^ c.args.base) c.loop-left-test.false ∙ zero-mul (2 ^ c.args.base))
