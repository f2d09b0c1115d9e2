-- Membership in a set of entries, for any number of entries.
-- Shown: members of the empty set, of a sum, of a single and of an insertion; sets with the same members are equal; a member's power
-- is at most the set; sums are associative. Assumes nothing.
use mathlib.Core.Path.{◌≡◌, refl, sym, ap, ap₂, ◌∙◌}
use mathlib.Core.Bool.{Bool, true, false, true≢false, false≢true, xor, ◌||◌, or-true, or-false, cond}
use mathlib.Core.Logic.{◌⊎◌, inl, inr}
use Prim.Native.Nat.{ℕ, zero, suc, ◌+◌, ◌*◌, ◌/◌, ◌%◌, ◌^◌, ◌≤◌, ◌<◌}
use native.Mathlib.Nat.{div-div-eq-div-mul, pow-suc, pow-succ', mod-lt, zero-div, div-one, div-add-mod', div-eq_of_lt, lt_of_lt_of_le, mul-div_cancel, div-mul-le_self, le_trans, le_of_eq, mul-mod_left, one-mul, mul-le-mul_right}
use native.Mathlib.Omega.{arith}
use lib.Arith.{bin_ind}
use lib.Bits.{bit_xor, xor_shr, xor_mod}
use lib.Dec.{eqb, eqb-zero-suc, eqb-suc-zero, eqb-suc-suc}
use lib.Pow.{pow_pos, pow_mono}
use borrow.Author.Tests.{eqb-true}
use Rattle.bitset.specs.Set.{member, insert}

-- the lowest bit is 0 or 1
pub bit_cases : (n : ℕ) → (n % 2 ≡ 0) ⊎ (n % 2 ≡ 1)
bit_cases n = go (n % 2) (mod-lt n (pow_pos 1))
  where
    go : (r : ℕ) → r < 2 → (r ≡ 0) ⊎ (r ≡ 1)
    go zero h = inl refl
    go (suc zero) h = inr refl
    go (suc (suc r)) h = absurd (omega arith)

pub member_zero : (s : ℕ) → member s zero ≡ eqb (s % 2) 1
unfolding member
member_zero s = ap (λ (x : ℕ). eqb (x % 2) 1) (div-one s)

pub member_suc : (s e : ℕ) → member s (suc e) ≡ member (s / 2) e
unfolding member
member_suc s e = ap (λ (x : ℕ). eqb (x % 2) 1) (ap (λ (x : ℕ). s / x) (pow-succ' 2 e) ∙ sym (div-div-eq-div-mul s 2 (2 ^ e)))

pub member_empty : (e : ℕ) → member 0 e ≡ false
unfolding member
member_empty e = ap (λ (x : ℕ). eqb (x % 2) 1) (zero-div (2 ^ e))

-- exclusive or of the lowest bits
odd_sum : (a b : ℕ) → eqb (bit_xor a b % 2) 1 ≡ xor (eqb (a % 2) 1) (eqb (b % 2) 1)
unfolding xor
odd_sum a b = ap (λ (x : ℕ). eqb x 1) (xor_mod a b 1) ∙ go (bit_cases a) (bit_cases b)
  where
    go : (a % 2 ≡ 0) ⊎ (a % 2 ≡ 1) → (b % 2 ≡ 0) ⊎ (b % 2 ≡ 1) → eqb (bit_xor (a % 2) (b % 2)) 1 ≡ xor (eqb (a % 2) 1) (eqb (b % 2) 1)
    go (inl p) (inl q) = simp (p, q)
    go (inl p) (inr q) = simp (p, q)
    go (inr p) (inl q) = simp (p, q)
    go (inr p) (inr q) = simp (p, q)

pub member_sum : (a b e : ℕ) → member (bit_xor a b) e ≡ xor (member a e) (member b e)
unfolding member
member_sum a b e = ap (λ (x : ℕ). eqb (x % 2) 1) (xor_shr a b e) ∙ odd_sum (a / 2 ^ e) (b / 2 ^ e)

-- equal tests of the lowest bits, equal lowest bits
odd_same : (m n : ℕ) → eqb (m % 2) 1 ≡ eqb (n % 2) 1 → m % 2 ≡ n % 2
odd_same m n h = go (bit_cases m) (bit_cases n)
  where
    go : (m % 2 ≡ 0) ⊎ (m % 2 ≡ 1) → (n % 2 ≡ 0) ⊎ (n % 2 ≡ 1) → m % 2 ≡ n % 2
    go (inl p) (inl q) = p ∙ sym q
    go (inl p) (inr q) = absurd (false≢true (sym (ap (λ (x : ℕ). eqb x 1) p) ∙ h ∙ ap (λ (x : ℕ). eqb x 1) q))
    go (inr p) (inl q) = absurd (true≢false (sym (ap (λ (x : ℕ). eqb x 1) p) ∙ h ∙ ap (λ (x : ℕ). eqb x 1) q))
    go (inr p) (inr q) = p ∙ sym q

-- two sets that agree at the lowest entry and above it are equal
halves : (m n : ℕ) → m / 2 ≡ n / 2 → eqb (m % 2) 1 ≡ eqb (n % 2) 1 → m ≡ n
halves m n p q = sym (div-add-mod' m 2) ∙ ap₂ (λ (x y : ℕ). x * 2 + y) p (odd_same m n q) ∙ div-add-mod' n 2

pub no_members : (b : ℕ) → ((e : ℕ) → member b e ≡ false) → 0 ≡ b
no_members b =
    bin_ind (λ (n : ℕ). ((e : ℕ) → member n e ≡ false) → 0 ≡ n) (λ h. refl)
    (λ n ih h. halves 0 n (ih (λ e. sym (member_suc n e) ∙ h (suc e))) (sym (h zero) ∙ member_zero n)) b

-- sets with the same members are equal
pub same_members : (a b : ℕ) → ((e : ℕ) → member a e ≡ member b e) → a ≡ b
same_members a =
    bin_ind (λ (n : ℕ). (b : ℕ) → ((e : ℕ) → member n e ≡ member b e) → n ≡ b) (λ b h. no_members b (λ e. sym (h e) ∙ member_empty e))
    (λ n ih b h.
    halves n b (ih (b / 2) (λ e. sym (member_suc n e) ∙ h (suc e) ∙ member_suc b e)) (sym (member_zero n) ∙ h zero ∙ member_zero b))
    a

pub member_single : (e k : ℕ) → member (2 ^ e) k ≡ eqb e k
member_single zero zero = member_zero 1
member_single zero (suc k) = member_suc 1 k ∙ member_empty k ∙ sym (eqb-zero-suc k)
member_single (suc e) zero = member_zero (2 ^ suc e) ∙ ap (λ (x : ℕ). eqb x 1) (ap (λ (x : ℕ). x % 2) (pow-suc 2 e) ∙ mul-mod_left (2 ^ e) 2) ∙ sym (eqb-suc-zero e)
member_single (suc e) (suc k) = member_suc (2 ^ suc e) k ∙ ap (λ (x : ℕ). member x k) (ap (λ (x : ℕ). x / 2) (pow-suc 2 e) ∙ mul-div_cancel (2 ^ e) (pow_pos 1)) ∙ member_single e k ∙ sym (eqb-suc-suc e k)

-- a member's power is at most the set
pub member_le : (s e : ℕ) → member s e ≡ true → 2 ^ e ≤ s
unfolding member
member_le s e h = le_trans (le_of_eq (sym (one-mul (2 ^ e)))) (le_trans (mul-le-mul_right (2 ^ e) (some (s / 2 ^ e) (eqb-true (s / 2 ^ e % 2) 1 h))) (div-mul-le_self s (2 ^ e)))
  where
    some : (x : ℕ) → x % 2 ≡ 1 → 1 ≤ x
    some x p = omega arith

-- a set below 2^n has no member from n on
pub member_above : (s n e : ℕ) → s < 2 ^ n → n ≤ e → member s e ≡ false
unfolding member
member_above s n e h l = ap (λ (x : ℕ). eqb (x % 2) 1) (div-eq_of_lt (lt_of_lt_of_le h (pow_mono l)))

pub xor_false : (b : Bool) → xor b false ≡ b
unfolding xor
xor_false true = refl
xor_false false = refl

xor_assoc : (a b c : Bool) → xor (xor a b) c ≡ xor a (xor b c)
unfolding xor
xor_assoc true true true = refl
xor_assoc true true false = refl
xor_assoc true false true = refl
xor_assoc true false false = refl
xor_assoc false true true = refl
xor_assoc false true false = refl
xor_assoc false false true = refl
xor_assoc false false false = refl

pub sum_assoc : (a b c : ℕ) → bit_xor (bit_xor a b) c ≡ bit_xor a (bit_xor b c)
sum_assoc a b c =
    same_members (bit_xor (bit_xor a b) c) (bit_xor a (bit_xor b c))
    (λ e.
    member_sum (bit_xor a b) c e ∙ ap (λ (x : Bool). xor x (member c e)) (member_sum a b e) ∙ xor_assoc (member a e) (member b e) (member c e)
    ∙ sym (member_sum a (bit_xor b c) e ∙ ap (λ (x : Bool). xor (member a e) x) (member_sum b c e)))

-- s with e has e, and otherwise the members of s
pub member_insert : (s e k : ℕ) → member (insert s e) k ≡ (member s k || eqb e k)
unfolding insert xor
member_insert s e k = go (member s e) refl (eqb e k) refl
  where
    go : (b : Bool) → member s e ≡ b → (c : Bool) → eqb e k ≡ c → member (cond b s (bit_xor s (2 ^ e))) k ≡ (member s k || c)
    go true p true q = sym (ap (member s) (eqb-true e k q)) ∙ p ∙ sym (or-true (member s k))
    go true p false q = sym (or-false (member s k))
    go false p true q = member_sum s (2 ^ e) k ∙ ap₂ xor (sym (ap (member s) (eqb-true e k q)) ∙ p) (member_single e k ∙ q) ∙ sym (or-true (member s k))
    go false p false q = member_sum s (2 ^ e) k ∙ ap (xor (member s k)) (member_single e k ∙ q) ∙ xor_false (member s k) ∙ sym (or-false (member s k))
