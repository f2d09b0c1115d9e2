-- Reading past a sheet's end, parts of a sheet, and lists by their places. Assumes nothing.
use mathlib.Core.Path.{◌≡◌, refl, sym, ap, ap₂, ◌∙◌}
use mathlib.Core.List.{List, [], ◌∷◌, ◌++◌}
use mathlib.Core.Logic.{by_cases}
use Prim.Native.Nat.{ℕ, zero, suc, ◌+◌, ◌*◌, ◌/◌, ◌%◌, ◌^◌, ◌≤◌, ◌<◌}
use native.Mathlib.Nat.{le_trans}
use native.Mathlib.Decide.{dec_lt}
use native.Mathlib.Numerals.{add-one}
use native.Mathlib.Omega.{arith}
use lib.ListN.{length, get_or, length-append, get_or-eq_default, get_or-append}
use lib.Seq.{get_or-append_seam}
use Rattle.dag.specs.Sheet.{number_at, listed}

pub number_past : (s : List ℕ) (i : ℕ) → length s ≤ i → 0 ≡ number_at s i
unfolding number_at
number_past s i h = sym (ap₂ (λ (x y : ℕ). x * 256 + y) (get_or-eq_default s 0 h) (get_or-eq_default s 0 (le_trans h (omega arith))))

-- a number is what its high byte and its low byte say
pub two_bytes : (x : ℕ) → x / 256 * 256 + x % 256 ≡ x
two_bytes x = omega arith

-- a kind and a number of 16 bits are three bytes
pub three_bytes : (kind x : ℕ) → kind < 256 → x < 2 ^ 16 → (k : ℕ) → get_or (kind ∷ x / 256 ∷ x % 256 ∷ []) k 0 < 256
three_bytes kind x h l zero = h
three_bytes kind x h l (suc zero) = omega arith
three_bytes kind x h l (suc (suc zero)) = omega arith
three_bytes kind x h l (suc (suc (suc k))) = omega arith

-- f 0 .. f (n - 1), place by place
pub length_listed : (f : ℕ → ℕ) (n : ℕ) → length (listed f n) ≡ n
unfolding listed
length_listed f zero = refl
length_listed f (suc n) = length-append (listed f n) (f n ∷ []) ∙ ap (λ (k : ℕ). k + 1) (length_listed f n) ∙ add-one n

pub get_d_listed : (f : ℕ → ℕ) (n k : ℕ) → k < n → get_or (listed f n) k 0 ≡ f k
unfolding listed
get_d_listed f zero k h = absurd (omega (arith, h))
get_d_listed f (suc n) k h =
    by_cases (dec_lt k n) (λ l. get_or-append (listed f n) (f n ∷ []) 0 k (omega (arith, l, length_listed f n)) ∙ get_d_listed f n k l)
    (λ l. let p : k ≡ n = omega (arith, h) in ap (λ (j : ℕ). get_or (listed f n ++ (f n ∷ [])) j 0) (p ∙ sym (length_listed f n)) ∙ get_or-append_seam (listed f n) (f n) [] 0 ∙ ap f (sym p))
