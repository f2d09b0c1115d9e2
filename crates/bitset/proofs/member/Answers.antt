-- `bitset::member` meets its contract: a member is a bit of one word.
use mathlib.Core.Path.{sym, ap, ◌∙◌}
use Prim.Native.Nat.{ℕ, ◌/◌, ◌%◌, ◌^◌}
use native.Mathlib.Omega.{arith}
use lib.Dec.{eqb}
use borrow.Author.Rules.{rules}
use Rattle.bitset.specs.Set.{member}
use Rattle.bitset.specs.Words.{value}
use Rattle.bitset.proofs.Laws.Place.{place_back}
use Rattle.bitset.proofs.Laws.Words.{value_member}
use Rattle.bitset.proofs.member.Goals as goal

pub returns : goal.returns
returns c = let s = c.args.s in let w = c.word_of in let b = c.bit_of in
    ap (λ (x : ℕ). eqb (x / 2 ^ b.result % 2) 1) c.nth.ensures ∙ sym (value_member s (search rules) w.result b.result (omega arith))
    ∙ ap (member (value s)) (place_back 6 c.args.e w.result b.result w.ensures b.ensures)
