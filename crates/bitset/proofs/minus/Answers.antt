-- `bitset::minus` meets its contract: the first set without what both have in common.
use mathlib.Core.Path.{ap, ◌∙◌}
use mathlib.Core.Bool.{xor}
use Prim.Native.Nat.{ℕ}
use Rattle.bitset.specs.Set.{member}
use Rattle.bitset.specs.Words.{value}
use Rattle.bitset.proofs.Laws.Member.{member_sum}
use Rattle.bitset.proofs.Laws.Union.{xor_and}
use Rattle.bitset.proofs.minus.Goals as goal

pub returns : goal.returns
returns c = λ k. let a = value c.args.a in let b = value c.args.b in let x = value c.common.result in
    ap (λ (s : ℕ). member s k) c.sum.ensures ∙ member_sum a x k ∙ ap (xor (member a k)) (c.common.ensures k) ∙ xor_and (member a k) (member b k)
