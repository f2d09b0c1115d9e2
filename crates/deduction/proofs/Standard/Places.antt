-- Sums of codes that have one place each, all places different.
-- Shown: such a sum has the place of each member; so where it is nothing, there is no member. Assumes nothing.
use mathlib.Core.Path.{◌≡◌, refl, sym, ap, ap₂, ◌∙◌}
use mathlib.Core.Bool.{Bool, true, false, true≢false, xor, cond}
use mathlib.Core.Logic.{by_cases}
use Prim.Native.Nat.{ℕ, zero, suc, ◌≤◌, ◌<◌}
use native.Mathlib.Nat.{not-suc-le-zero}
use native.Mathlib.Decide.{dec_lt}
use native.Mathlib.Omega.{arith}
use lib.Bits.{bit_xor}
use Rattle.bitset.specs.Set.{member}
use Rattle.bitset.proofs.Laws.Member.{member_empty, member_sum}
use Rattle.bitset.proofs.Laws.Sums.{nothing_inside}
use Rattle.deduction.proofs.Elimination.Spans.{xor_over}
use Rattle.deduction.proofs.Coding.{bit, bit_own, bit_only}

-- codes of one place each, all different
module _ (c q : ℕ → ℕ) (u : ℕ) (one : (j : ℕ) → member u j ≡ true → c j ≡ bit (q j))
    (apart : (j k : ℕ) → member u j ≡ true → member u k ≡ true → q j ≡ q k → j ≡ k) where
  other : (j k : ℕ) → member u j ≡ true → member u k ≡ true → ¬ (j ≡ k) → member (c j) (q k) ≡ false
  other j k mj mk h = go (member (c j) (q k)) refl
    where
      go : (b : Bool) → member (c j) (q k) ≡ b → b ≡ false
      go false p = refl
      go true p = absurd (h (apart j k mj mk (bit_only (q j) (q k) (ap (λ (s : ℕ). member s (q k)) (sym (one j mj)) ∙ p))))

  sum_misses : (m k : ℕ) → member u k ≡ true → m ≤ k → member (xor_over c m u) (q k) ≡ false
  unfolding xor_over xor
  sum_misses zero k mk l = member_empty (q k)
  sum_misses (suc m) k mk l = go (member u m) refl (sum_misses m k mk (omega arith))
    where
      go : (b : Bool) → member u m ≡ b → member (xor_over c m u) (q k) ≡ false → member (cond b (bit_xor (c m) (xor_over c m u)) (xor_over c m u)) (q k) ≡ false
      go true p ih = member_sum (c m) (xor_over c m u) (q k) ∙ ap₂ xor (other m k p mk (omega arith)) ih
      go false p ih = ih

  sum_has : (m k : ℕ) → member u k ≡ true → k < m → member (xor_over c m u) (q k) ≡ true
  unfolding xor_over xor
  sum_has zero k mk l = absurd (not-suc-le-zero l)
  sum_has (suc m) k mk l = by_cases (dec_lt k m) (λ h. lower h (member u m) refl (sum_has m k mk h)) (λ h. last (equal h))
    where
      equal : ¬ (k < m) → k ≡ m
      equal h = omega arith

      lower : k < m → (b : Bool) → member u m ≡ b → member (xor_over c m u) (q k) ≡ true → member (cond b (bit_xor (c m) (xor_over c m u)) (xor_over c m u)) (q k) ≡ true
      lower h true p ih = member_sum (c m) (xor_over c m u) (q k) ∙ ap₂ xor (other m k p mk (omega arith)) ih
      lower h false p ih = ih

      last : k ≡ m → member (cond (member u m) (bit_xor (c m) (xor_over c m u)) (xor_over c m u)) (q k) ≡ true
      last h =
          ap (λ (b : Bool). member (cond b (bit_xor (c m) (xor_over c m u)) (xor_over c m u)) (q k)) (ap (member u) (sym h) ∙ mk)
          ∙ member_sum (c m) (xor_over c m u) (q k)
          ∙ ap₂ xor (ap (λ (j : ℕ). member (c j) (q k)) (sym h) ∙ ap (λ (s : ℕ). member s (q k)) (one k mk) ∙ bit_own (q k)) (sum_misses m k mk (omega arith))

  -- where their sum is nothing there are none
  pub places_empty : (n : ℕ) → ((j : ℕ) → member u j ≡ true → j < n) → xor_over c n u ≡ 0 → u ≡ 0
  places_empty n below h = nothing_inside u (λ k m. absurd (true≢false (sym (sum_has n k m (below k m)) ∙ ap (λ (s : ℕ). member s (q k)) h ∙ member_empty (q k))))
