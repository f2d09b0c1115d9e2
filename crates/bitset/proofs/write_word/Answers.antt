-- `bitset::write_word` meets its contract: the eight bytes stand in the place of eight.
use mathlib.Core.Path.{ap₂, ◌∙◌}
use mathlib.Core.List.{List, ◌++◌}
use Prim.Native.Nat.{ℕ, ◌+◌}
use native.Mathlib.Omega.{arith}
use lib.ListN.{take}
use borrow.Rule.Slice.PartMut.{Post-is}
use Rattle.bitset.proofs.Laws.Bytes.{word_bytes}
use Rattle.bitset.proofs.write_word.Goals as goal

pub returns : goal.returns
returns c = let d = c.args.out.now in let at = c.args.at in
    ap₂ (λ (x y : List ℕ). take at d ++ (x ++ y)) (c.copy_from_slice.ensures.after ∙ c.to_le_bytes-bytes.ensures ∙ word_bytes c.args.w) (Post-is at (at + 8) d (omega arith))
