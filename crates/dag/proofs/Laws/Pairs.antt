-- The pairs of a sheet, one by one. Assumes nothing.
use mathlib.Core.Path.{◌≡◌, sym, ◌∙◌}
use mathlib.Core.List.{List}
use Prim.Native.Nat.{ℕ, ◌<◌}
use native.Mathlib.Omega.{arith}
use lib.Dec.{ltb}
use lib.ListN.{length}
use Rattle.dag.specs.Sheet.{count_of, begin_at}
use Rattle.dag.specs.Refusal.{when, first, bad_pair, bad_pairs}
use Rattle.dag.proofs.Laws.Refusal.{first_found, or_else_none, or_else_some}

-- a bad pair is found
pub pairs_found : (s : List ℕ) (i : ℕ) → i < count_of s → first (bad_pair s) i ≡ 0 → 4 ≡ bad_pair s i → 4 ≡ bad_pairs s
unfolding bad_pairs
pairs_found s i h p q =
    e ∙ sym (or_else_some (first (bad_pair s) (count_of s)) (when (ltb (begin_at s (count_of s)) (length s)) 4) (λ z. four (e ∙ z)))
  where
    four : ◌≡◌ {A = ℕ} 4 0 → ⊥
    four r = omega arith

    e : 4 ≡ first (bad_pair s) (count_of s)
    e = q ∙ first_found (bad_pair s) i (count_of s) h p (λ z. four (q ∙ z))

-- no bad pair: the last end decides
pub pairs_end : (s : List ℕ) → first (bad_pair s) (count_of s) ≡ 0 → bad_pairs s ≡ when (ltb (begin_at s (count_of s)) (length s)) 4
unfolding bad_pairs
pairs_end s p = or_else_none (first (bad_pair s) (count_of s)) (when (ltb (begin_at s (count_of s)) (length s)) 4) p
