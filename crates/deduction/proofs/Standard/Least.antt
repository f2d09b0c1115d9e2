-- The lowest number below n that passes a test.
-- Shown: it is at most n; where it is below n it passes, and nothing below it does; these laws fix it; tests that agree below n have
-- the same lowest number. Assumes nothing.
use mathlib.Core.Path.{◌≡◌, refl, sym, ap, ◌∙◌}
use mathlib.Core.Bool.{Bool, true, false, true≢false, cond}
use mathlib.Core.Logic.{by_cases}
use Prim.Native.Nat.{ℕ, zero, suc, ◌≤◌, ◌<◌}
use native.Mathlib.Nat.{le_refl, not-suc-le-zero}
use native.Mathlib.Omega.{arith}
use native.Mathlib.Decide.{dec_lt}
use lib.Dec.{ltb}
use borrow.Author.Tests.{ltb-true, ltb-false}
use Rattle.deduction.specs.Standard.{least}

-- what `least` hands back: k is at most n, passes unless it is n, and nothing below it passes
abbrev Lowest : (ℕ → Bool) → ℕ → ℕ → Type 0
Lowest p n k = (k ≤ n) × (k < n → p k ≡ true) × ((j : ℕ) → j < k → p j ≡ false)

lowest : (p : ℕ → Bool) (n : ℕ) → Lowest p n (least p n)
unfolding least
lowest p zero = (le_refl zero, λ h. absurd (not-suc-le-zero h), λ j h. absurd (not-suc-le-zero h))
lowest p (suc n) = go (lowest p n) (ltb (least p n) n) refl (p n) refl
  where
    go : Lowest p n (least p n) → (b : Bool) → ltb (least p n) n ≡ b → (c : Bool) → p n ≡ c → Lowest p (suc n) (cond b (least p n) (cond c n (suc n)))
    go l true q c r = let s = ltb-true (least p n) n q in (omega arith, λ h. l.1 s, l.2)
    go l false q true r = (omega arith, λ h. r, λ j h. l.2 j (omega (arith, ltb-false (least p n) n q)))
    go l false q false r = (le_refl (suc n), λ h. absurd (omega arith), λ j h. before j h)
      where
        before : (j : ℕ) → j < suc n → p j ≡ false
        before j h = by_cases (dec_lt j n) (λ s. l.2 j (omega (arith, ltb-false (least p n) n q))) (λ s. ap p (last s) ∙ r)
          where
            last : ¬ (j < n) → j ≡ n
            last s = omega arith

pub least_le : (p : ℕ → Bool) (n : ℕ) → least p n ≤ n
least_le p n = (lowest p n).0

pub least_found : (p : ℕ → Bool) (n : ℕ) → least p n < n → p (least p n) ≡ true
least_found p n = (lowest p n).1

pub least_before : (p : ℕ → Bool) (n j : ℕ) → j < least p n → p j ≡ false
least_before p n = (lowest p n).2

-- a number with the three laws is the lowest
pub least_only : (p : ℕ → Bool) (n k : ℕ) → k ≤ n → (k < n → p k ≡ true) → ((j : ℕ) → j < k → p j ≡ false) → least p n ≡ k
least_only p n k top found before =
    by_cases (dec_lt (least p n) k) (λ h. absurd (true≢false (sym (least_found p n (omega arith)) ∙ before (least p n) h)))
    (λ h. by_cases (dec_lt k (least p n)) (λ g. absurd (true≢false (sym (found (omega (arith, least_le p n))) ∙ least_before p n k g))) (λ g. omega arith))

-- tests that agree below n
pub least_same : (p q : ℕ → Bool) (n : ℕ) → ((j : ℕ) → j < n → p j ≡ q j) → least p n ≡ least q n
least_same p q n h =
    least_only p n (least q n) (least_le q n) (λ l. h (least q n) l ∙ least_found q n l) (λ j l. h j (omega (arith, least_le q n)) ∙ least_before q n j l)
