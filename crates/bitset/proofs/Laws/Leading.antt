-- The leading entry of a set: its highest-numbered member.
-- Shown: where it stands between two powers; it is a member of a set that isn't empty, and no member is higher. Assumes nothing.
use mathlib.Core.Path.{◌≡◌, refl, sym, ap, ◌∙◌}
use mathlib.Core.Logic.{by_cases}
use mathlib.Core.Bool.{Bool, true, false, true≢false, cond}
use Prim.Native.Nat.{ℕ, zero, suc, ◌+◌, ◌/◌, ◌%◌, ◌^◌, ◌≤◌, ◌<◌}
use native.Mathlib.Nat.{lt_of_lt_of_le, le_trans, div-eq_of_lt-le, div-lt_iff_lt-mul, one-mul, le_of_eq, two-pow-succ, mul_comm, pow-suc, div-div-eq-div-mul}
use native.Mathlib.Omega.{arith}
use native.Mathlib.Decide.{dec_lt}
use lib.Arith.{bin_ind}
use lib.Pow.{pow_pos, pow_mono, pow-add}
use lib.Dec.{eqb}
use borrow.Author.Tests.{eq-eqb}
use Rattle.bitset.specs.Set.{member, highest, leading}
use Rattle.bitset.proofs.Laws.Member.{member_le, member_zero, member_suc, no_members}

-- a number is below its power of two
pub below_pow : (n : ℕ) → n < 2 ^ n
below_pow zero = pow_pos 0
below_pow (suc n) = let h : n < 2 ^ n = below_pow n in omega (arith, two-pow-succ n)

-- where an entry below n is a member, the highest such entry is a member, at or above it, and below n
highest_found : (s n e : ℕ) → e < n → member s e ≡ true → (member s (highest s n) ≡ true) × (e ≤ highest s n) × (highest s n < n)
unfolding highest
highest_found s zero e h m = absurd (omega arith)
highest_found s (suc n) e h m = go (λ q. highest_found s n e q m) (member s n) refl
  where
    lower : member s n ≡ false → e < n
    lower p = by_cases (dec_lt e n) (λ q. q) (λ q. absurd (true≢false (sym m ∙ ap (member s) (equal q) ∙ p)))
      where
        equal : ¬ (e < n) → e ≡ n
        equal q = omega arith

    go : (e < n → (member s (highest s n) ≡ true) × (e ≤ highest s n) × (highest s n < n))
        → (b : Bool) → member s n ≡ b → (member s (cond b n (highest s n)) ≡ true) × (e ≤ cond b n (highest s n)) × (cond b n (highest s n) < suc n)
    go ih true p = (p, omega arith, omega arith)
    go ih false p = let r = ih (lower p) in (r.0, r.1, omega arith)

-- a set that isn't empty has a member
pub some_member : (s : ℕ) → 0 < s → (e : ℕ) × (member s e ≡ true)
some_member s =
    bin_ind (λ (n : ℕ). 0 < n → (e : ℕ) × (member n e ≡ true)) (λ h. absurd (omega arith))
    (λ n ih h.
    by_cases (dec_lt (n % 2) 1) (λ p. let r = ih (upper n h p) in (suc r.0, member_suc n r.0 ∙ r.1))
    (λ p. (zero, member_zero n ∙ eq-eqb (n % 2) 1 (odd n p))))
    s
  where
    upper : (n : ℕ) → 0 < n → n % 2 < 1 → 0 < n / 2
    upper n h p = omega arith

    odd : (n : ℕ) → ¬ (n % 2 < 1) → n % 2 ≡ 1
    odd n p = omega arith

-- no member is above the leading entry
pub leading_top : (s e : ℕ) → member s e ≡ true → e ≤ leading s
unfolding leading
leading_top s e m = (highest_found s s e (lt_of_lt_of_le (below_pow e) (member_le s e m)) m).1

-- the leading entry of a set that isn't empty is a member
pub leading_member : (s : ℕ) → 0 < s → member s (leading s) ≡ true
unfolding leading
leading_member s h = let r = some_member s h in (highest_found s s r.0 (lt_of_lt_of_le (below_pow r.0) (member_le s r.0 r.1)) r.1).0

-- a set between two neighbouring powers of two has the lower one's number as its leading entry
pub leading_between : (s j : ℕ) → 2 ^ j ≤ s → s < 2 ^ suc j → leading s ≡ j
unfolding member
leading_between s j low high = antisym upper (leading_top s j there)
  where
    one : s / 2 ^ j ≡ 1
    one = div-eq_of_lt-le (2 ^ j) (le_trans (le_of_eq (one-mul (2 ^ j))) low) (lt_of_lt_of_le high (le_of_eq (pow-suc 2 j ∙ mul_comm (2 ^ j) 2)))

    there : member s j ≡ true
    there = ap (λ (x : ℕ). eqb (x % 2) 1) one

    upper : leading s ≤ j
    upper = by_cases (dec_lt j (leading s)) (λ p. absurd (past p)) (λ p. omega arith)
      where
        past : j < leading s → ⊥
        past p = let q : 2 ^ suc j ≤ s = le_trans (pow_mono p) (member_le s (leading s) (leading_member s (lt_of_lt_of_le (pow_pos j) low))) in omega arith

    antisym : {a b : ℕ} → a ≤ b → b ≤ a → a ≡ b
    antisym p q = omega arith

-- a set is below the power above its leading entry
pub leading_high : (s : ℕ) → s < 2 ^ suc (leading s)
unfolding member
leading_high s = below (s / 2 ^ suc (leading s)) refl
  where
    past : (e : ℕ) → member (s / 2 ^ suc (leading s)) e ≡ false
    past e = go (member s (suc (leading s) + e)) refl
      where
        go : (b : Bool) → member s (suc (leading s) + e) ≡ b → member (s / 2 ^ suc (leading s)) e ≡ false
        go true m = absurd (over (leading_top s (suc (leading s) + e) m))
          where
            over : suc (leading s) + e ≤ leading s → ⊥
            over h = omega arith
        go false m =
            ap (λ (x : ℕ). eqb (x % 2) 1) (div-div-eq-div-mul s (2 ^ suc (leading s)) (2 ^ e) ∙ ap (λ (x : ℕ). s / x) (sym (pow-add 2 (suc (leading s)) e))) ∙ m

    below : (q : ℕ) → s / 2 ^ suc (leading s) ≡ q → s < 2 ^ suc (leading s)
    below zero p = lt_of_lt_of_le ((div-lt_iff_lt-mul (pow_pos (suc (leading s)))).0 (le_of_eq (ap suc p))) (le_of_eq (one-mul (2 ^ suc (leading s))))
    below (suc q) p = absurd (zero_not_suc (no_members (s / 2 ^ suc (leading s)) past ∙ p))
      where
        zero_not_suc : 0 ≡ suc q → ⊥
        zero_not_suc h = omega arith
