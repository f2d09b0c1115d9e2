-- `derive::writer::put` meets its contract: two bytes in place of those at a place.
use mathlib.Core.Path.{◌≡◌, ap, ◌∙◌}
use mathlib.Core.List.{List, [], ◌∷◌, ◌++◌}
use Prim.Native.Nat.{ℕ, ◌+◌, ◌/◌, ◌%◌}
use native.Mathlib.Omega.{arith}
use lib.ListN.{take}
use borrow.Rule.Slice.PartMut.{Post-is}
use Rattle.derive.specs.Bytes.{two}
use Rattle.derive.proofs.writer.put.Goals as goal

pub returns : goal.returns
returns c = let a = c.args in
    let high : a.x / 256 % 256 ≡ a.x / 256 = omega arith in
    let stored : c.copy_from_slice.new.self ≡ two a.x = c.copy_from_slice.ensures.after ∙ c.to_be_bytes.ensures ∙ ap (λ (h : ℕ). h ∷ a.x % 256 ∷ []) high in
    rw stored (ap (λ (l : List ℕ). take a.at a.out.now ++ (two a.x ++ l)) (Post-is a.at (a.at + 2) a.out.now (omega arith)))
