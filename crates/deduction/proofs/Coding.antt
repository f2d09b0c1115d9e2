-- Terms coded as numbers, read as finite sets of places (Ackermann's coding).
-- Defined: `bit`, the set of one place; `place`, a different place for each kind and parts; `code`, the set of a term: zero is empty,
-- a sum is the exclusive or, any other term is one place, made from its kind and its number or the codes of its parts.
-- All three stay shut, so that no huge number is computed. Shown: the members of a bit, of a sum; `place_same`; the clauses of `code`;
-- terms that are ≈ have one code. Assumes nothing.
use mathlib.Core.Path.{◌≡◌, refl, sym, ap, ap₂, ◌∙◌}
use mathlib.Core.Bool.{Bool, true, false, true≢false, xor}
use mathlib.Core.Logic.{◌⊎◌, inl, inr}
use Prim.Native.Nat.{ℕ, ◌+◌, ◌*◌, ◌^◌, ◌≤◌}
use native.Mathlib.Omega.{arith}
use lib.Bits.{bit_xor, xor_comm, xor_self, xor_zero_r}
use borrow.Author.Tests.{eq-eqb, ne_eqb, eqb-true}
use Rattle.bitset.specs.Set.{member}
use Rattle.bitset.proofs.Laws.Member.{member_empty, member_sum, member_single, sum_assoc}
use Rattle.deduction.specs.Term.{Side, private, public, Term, 𝟎, atom, pair, enc, half, aenc, ◌⊕◌, ◌≈◌, assoc, comm, unit, self, in_pair, in_enc, in_aenc, in_sum, same, flip, then}

-- the set of the place p alone
pub bit : ℕ → ℕ
bit p = 2 ^ p

pub bit_own : (p : ℕ) → member (bit p) p ≡ true
unfolding bit
bit_own p = member_single p p ∙ eq-eqb p p refl

pub bit_only : (p q : ℕ) → member (bit p) q ≡ true → p ≡ q
unfolding bit
bit_only p q h = eqb-true p q (sym (member_single p q) ∙ h)

pub bit_other : (p q : ℕ) → (p ≡ q → ⊥) → member (bit p) q ≡ false
unfolding bit
bit_other p q h = member_single p q ∙ ne_eqb p q h

pub bit_same : (p q : ℕ) → bit p ≡ bit q → p ≡ q
bit_same p q h = bit_only p q (ap (λ (s : ℕ). member s q) h ∙ bit_own q)

pub empty_none : (p : ℕ) → ¬ (member 0 p ≡ true)
empty_none p h = true≢false (sym h ∙ member_empty p)

-- a member of a sum is a member of one of the two
pub member_either : (a b p : ℕ) → member (bit_xor a b) p ≡ true → (member a p ≡ true) ⊎ (member b p ≡ true)
unfolding xor
member_either a b p h = go (member a p) (member b p) (sym (member_sum a b p) ∙ h)
  where
    go : (x y : Bool) → xor x y ≡ true → (x ≡ true) ⊎ (y ≡ true)
    go true y e = inl refl
    go false true e = inr refl
    go false false e = inl e

-- a member of one of the two is a member of the sum, or of both
pub member_one : (a b p : ℕ) → member a p ≡ true → (member (bit_xor a b) p ≡ true) ⊎ (member b p ≡ true)
unfolding xor
member_one a b p h = go (member b p) (member_sum a b p ∙ ap (λ (x : Bool). xor x (member b p)) h)
  where
    go : (y : Bool) → member (bit_xor a b) p ≡ xor true y → (member (bit_xor a b) p ≡ true) ⊎ (y ≡ true)
    go true e = inr refl
    go false e = inl e

-- a place of a sum of two bits is one of the two places of any equal sum
shared_place : (a b c d : ℕ) → (b ≡ a → ⊥) → bit_xor (bit a) (bit b) ≡ bit_xor (bit c) (bit d) → (c ≡ a) ⊎ (d ≡ a)
shared_place a b c d apart h = start (member_one (bit a) (bit b) a (bit_own a))
  where
    named : (member (bit c) a ≡ true) ⊎ (member (bit d) a ≡ true) → (c ≡ a) ⊎ (d ≡ a)
    named (inl e) = inl (bit_only c a e)
    named (inr e) = inr (bit_only d a e)

    start : (member (bit_xor (bit a) (bit b)) a ≡ true) ⊎ (member (bit b) a ≡ true) → (c ≡ a) ⊎ (d ≡ a)
    start (inl e) = named (member_either (bit c) (bit d) a (ap (λ (s : ℕ). member s a) (sym h) ∙ e))
    start (inr e) = absurd (apart (bit_only b a e))

-- two numbers as one number
couple : ℕ → ℕ → ℕ
couple x y = bit_xor (bit (2 * x)) (bit (2 * y + 1))

couple_same : (x y x' y' : ℕ) → couple x y ≡ couple x' y' → (x ≡ x') × (y ≡ y')
unfolding couple
couple_same x y x' y' h = (
  left (shared_place (2 * x) (2 * y + 1) (2 * x') (2 * y' + 1) (omega arith) h),
  right (shared_place (2 * y + 1) (2 * x) (2 * x') (2 * y' + 1) (omega arith) (xor_comm (bit (2 * y + 1)) (bit (2 * x)) ∙ h)),
)
  where
    left : (2 * x' ≡ 2 * x) ⊎ (2 * y' + 1 ≡ 2 * x) → x ≡ x'
    left (inl e) = omega arith
    left (inr e) = absurd (omega arith)

    right : (2 * x' ≡ 2 * y + 1) ⊎ (2 * y' + 1 ≡ 2 * y + 1) → y ≡ y'
    right (inl e) = absurd (omega arith)
    right (inr e) = omega arith

-- the place of a kind (0 atom, 1 pair, 2 encryption, 4 private half, 5 public half, 6 asymmetric encryption) with two parts
pub place : ℕ → ℕ → ℕ → ℕ
place k x y = couple k (couple x y)

-- the same place has the same kind and the same parts
pub place_same : (k x y k' x' y' : ℕ) → place k x y ≡ place k' x' y' → (k ≡ k') × (x ≡ x') × (y ≡ y')
unfolding place
place_same k x y k' x' y' h =
    let outer = couple_same k (couple x y) k' (couple x' y') h in
    let inner = couple_same x y x' y' outer.1 in
    (outer.0, inner.0, inner.1)

-- the place of a half
abbrev pub side_place : Side → ℕ
side_place private = 4
side_place public = 5

abbrev pub half_place : Side → ℕ → ℕ
half_place s a = place (side_place s) a 0

pub side_same : (s s' : Side) → side_place s ≡ side_place s' → s ≡ s'
side_same private private h = refl
side_same private public h = absurd (omega arith)
side_same public private h = absurd (omega arith)
side_same public public h = refl

-- no other kind has a half's place
pub side_range : (s : Side) → (4 ≤ side_place s) × (side_place s ≤ 5)
side_range private = (omega arith, omega arith)
side_range public = (omega arith, omega arith)

pub code : Term → ℕ
code 𝟎 = 0
code (atom a) = bit (place 0 a 0)
code (pair a b) = bit (place 1 (code a) (code b))
code (enc m k) = bit (place 2 (code m) (code k))
code (half s a) = bit (half_place s a)
code (aenc m k) = bit (place 6 (code m) (code k))
code (a ⊕ b) = bit_xor (code a) (code b)

pub code_zero : code 𝟎 ≡ 0
unfolding code
code_zero = refl

pub code_atom : (a : ℕ) → code (atom a) ≡ bit (place 0 a 0)
unfolding code
code_atom a = refl

pub code_pair : (a b : Term) → code (pair a b) ≡ bit (place 1 (code a) (code b))
unfolding code
code_pair a b = refl

pub code_enc : (m k : Term) → code (enc m k) ≡ bit (place 2 (code m) (code k))
unfolding code
code_enc m k = refl

pub code_half : (s : Side) (a : ℕ) → code (half s a) ≡ bit (half_place s a)
unfolding code
code_half s a = refl

pub code_aenc : (m k : Term) → code (aenc m k) ≡ bit (place 6 (code m) (code k))
unfolding code
code_aenc m k = refl

pub code_sum : (a b : Term) → code (a ⊕ b) ≡ bit_xor (code a) (code b)
unfolding code
code_sum a b = refl

pub zero_none : (p : ℕ) → ¬ (member (code 𝟎) p ≡ true)
unfolding code
zero_none p h = empty_none p h

pub sum_either : (a b : Term) (p : ℕ) → member (code (a ⊕ b)) p ≡ true → (member (code a) p ≡ true) ⊎ (member (code b) p ≡ true)
unfolding code
sum_either a b p h = member_either (code a) (code b) p h

-- terms that are ≈ have one code
pub same_code : {t u : Term} → t ≈ u → code t ≡ code u
unfolding code
same_code (assoc {a = a} {b = b} {c = c}) = sym (sum_assoc (code a) (code b) (code c))
same_code (comm {a = a} {b = b}) = xor_comm (code a) (code b)
same_code (unit {t = t}) = xor_zero_r (code t)
same_code (self {t = t}) = xor_self (code t)
same_code (in_pair p q) = ap₂ (λ (x y : ℕ). bit (place 1 x y)) (same_code p) (same_code q)
same_code (in_enc p q) = ap₂ (λ (x y : ℕ). bit (place 2 x y)) (same_code p) (same_code q)
same_code (in_aenc p q) = ap₂ (λ (x y : ℕ). bit (place 6 x y)) (same_code p) (same_code q)
same_code (in_sum p q) = ap₂ bit_xor (same_code p) (same_code q)
same_code same = refl
same_code (flip p) = sym (same_code p)
same_code (then p q) = same_code p ∙ same_code q
