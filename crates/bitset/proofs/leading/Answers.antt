-- `bitset::leading` meets its contract: the leading entry is that of the highest word that isn't 0.
use mathlib.Core.Path.{ap, ◌∙◌}
use Prim.Native.Nat.{ℕ, ◌+◌}
use borrow.Author.Rules.{rules}
use Rattle.bitset.proofs.Laws.Top.{leading_at, leading_first, zero_past, zero_down}
use Rattle.bitset.proofs.leading.Goals as goal

pub returns-then-s-ne0 : goal.returns-then-s-ne0
returns-then-s-ne0 c = let s = c.args.s in ap (λ (x : ℕ). x + 192) c.top.ensures.0 ∙ leading_at s (search rules) 3 c.if-s-ne0.true (zero_past s 3 (search rules))

pub returns-then-s-ne0-2 : goal.returns-then-s-ne0-2
returns-then-s-ne0-2 c = let s = c.args.s in
    ap (λ (x : ℕ). x + 128) c.top-then-s-ne0-2.ensures.0 ∙ leading_at s (search rules) 2 c.if-s-ne0-2.true (zero_down s 2 (zero_past s 3 (search rules)) c.if-s-ne0.false)

pub returns-then-s-ne0-3 : goal.returns-then-s-ne0-3
returns-then-s-ne0-3 c = let s = c.args.s in
    ap (λ (x : ℕ). x + 64) c.top-then-s-ne0-3.ensures.0
    ∙ leading_at s (search rules) 1 c.if-s-ne0-3.true (zero_down s 1 (zero_down s 2 (zero_past s 3 (search rules)) c.if-s-ne0.false) c.if-s-ne0-2.false)

pub returns-else-s-ne0-3 : goal.returns-else-s-ne0-3
returns-else-s-ne0-3 c = let s = c.args.s in
    c.top-else-s-ne0-3.ensures.0
    ∙ leading_first s (zero_down s 0 (zero_down s 1 (zero_down s 2 (zero_past s 3 (search rules)) c.if-s-ne0.false) c.if-s-ne0-2.false) c.if-s-ne0-3.false)
