-- `bitset::lowest_of` meets its contract: the lowest member is that of the first word that isn't 0.
use mathlib.Core.Path.{subst}
use native.Mathlib.Nat.{zero-add}
use native.Mathlib.Omega.{arith}
use borrow.Author.Rules.{rules}
use Rattle.bitset.specs.Words.{value}
use Rattle.bitset.specs.Inner.{IsLowest}
use Rattle.bitset.proofs.Laws.Words.{value_empty}
use Rattle.bitset.proofs.Laws.Lowest.{zero_none, zero_more, lowest_at}
use Rattle.bitset.proofs.lowest_of.Goals as goal

pub returns-in-0 : goal.returns-in-0
returns-in-0 c = value_empty c.args.s (search rules) (omega arith) (omega arith) (omega arith) (omega arith)

pub returns-in-0-2 : goal.returns-in-0-2
returns-in-0-2 c = let s = c.args.s in
    rw c.lowest.ensures
    (lowest_at s (search rules) 3 (omega arith) (omega arith)
    (zero_more s 2 (zero_more s 1 (zero_more s 0 (zero_none s) (omega arith)) (omega arith)) (omega arith)))

pub returns-in-0-3 : goal.returns-in-0-3
returns-in-0-3 c = let s = c.args.s in
    rw c.lowest-in-0-3.ensures
    (lowest_at s (search rules) 2 (omega arith) (omega arith)
    (zero_more s 1 (zero_more s 0 (zero_none s) (omega arith)) (omega arith)))

pub returns-in-0-4 : goal.returns-in-0-4
returns-in-0-4 c = let s = c.args.s in
    rw c.lowest-in-0-4.ensures
    (lowest_at s (search rules) 1 (omega arith) (omega arith) (zero_more s 0 (zero_none s) (omega arith)))

pub returns-in_default : goal.returns-in_default
returns-in_default c = let s = c.args.s in
    rw c.lowest-in_default.ensures
    (subst (IsLowest (value s)) (zero-add _) (lowest_at s (search rules) 0 (omega arith) (omega arith) (zero_none s)))
