-- `bitset::insert` meets its contract: a union with e alone.
use mathlib.Core.Path.{sym, ap, ◌∙◌}
use mathlib.Core.Bool.{Bool, ◌||◌}
use Prim.Native.Nat.{ℕ}
use Rattle.bitset.specs.Set.{member, insert}
use Rattle.bitset.specs.Words.{value}
use Rattle.bitset.proofs.Laws.Member.{member_insert, member_single, same_members}
use Rattle.bitset.proofs.insert.Goals as goal

pub returns : goal.returns
returns c = let s = value c.args.s in let e = c.args.e in
    same_members (value c.union.result) (insert s e)
    (λ k. c.union.ensures k ∙ ap (λ (b : Bool). member s k || b) (ap (λ (x : ℕ). member x k) c.singleton.ensures ∙ member_single e k) ∙ sym (member_insert s e k))
