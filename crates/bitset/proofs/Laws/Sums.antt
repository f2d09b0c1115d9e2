-- Sums of sets as an algebra, and the number of members.
-- Defined: `Inside`, every member of one set is a member of another.
-- Shown: two equal sets cancel, sums of sums can be regrouped, a sum is empty only where its two sets are equal; the members of a set
-- and a new entry; half of a power of two and its lowest bit; a new entry adds one to the number of members; a set of entries below n is below 2^n. Assumes nothing.
use mathlib.Core.Path.{◌≡◌, refl, sym, ap, ap₂, ◌∙◌}
use mathlib.Core.Bool.{Bool, true, false, true≢false, false≢true, xor, cond, not-not, ◌||◌, or-true}
use mathlib.Core.Logic.{◌⊎◌, inl, inr}
use Prim.Native.Nat.{ℕ, zero, suc, ◌+◌, ◌/◌, ◌%◌, ◌^◌, ◌<◌}
use native.Mathlib.Nat.{pow-suc, two-pow-succ, not-suc-le-zero, le_of_suc-le-suc}
use native.Mathlib.Omega.{arith}
use lib.Bits.{bit_xor, xor_comm, xor_self, xor_zero_r, xor_mod, xor_shr}
use lib.Count.{ones, ones_step}
use lib.Dec.{eqb}
use borrow.Author.Tests.{eqb-true, eqb-false, eq-eqb, ne_eqb}
use Rattle.bitset.specs.Set.{member, insert}
use Rattle.bitset.proofs.Laws.Member.{member_sum, member_empty, member_zero, member_suc, member_single, member_insert, sum_assoc, no_members}

pub sum_cancel : (a b : ℕ) → bit_xor a (bit_xor a b) ≡ b
sum_cancel a b = sym (sum_assoc a a b) ∙ ap (λ (x : ℕ). bit_xor x b) (xor_self a)

pub sum_cancel_right : (a b : ℕ) → bit_xor (bit_xor a b) b ≡ a
sum_cancel_right a b = sum_assoc a b b ∙ ap (bit_xor a) (xor_self b) ∙ xor_zero_r a

pub sum_left_comm : (a b c : ℕ) → bit_xor a (bit_xor b c) ≡ bit_xor b (bit_xor a c)
sum_left_comm a b c = sym (sum_assoc a b c) ∙ ap (λ (x : ℕ). bit_xor x c) (xor_comm a b) ∙ sum_assoc b a c

-- the sum of two sums, member by member
pub sum_swap : (a b c d : ℕ) → bit_xor (bit_xor a b) (bit_xor c d) ≡ bit_xor (bit_xor a c) (bit_xor b d)
sum_swap a b c d = sum_assoc a b (bit_xor c d) ∙ ap (bit_xor a) (sum_left_comm b c d) ∙ sym (sum_assoc a c (bit_xor b d))

pub sum_empty_same : (a b : ℕ) → bit_xor a b ≡ 0 → a ≡ b
sum_empty_same a b h = sym (sum_cancel_right a b) ∙ ap (λ (x : ℕ). bit_xor x b) h

-- move a set to the other side
pub sum_move : (a b c : ℕ) → bit_xor a b ≡ c → b ≡ bit_xor a c
sum_move a b c h = sym (sum_cancel a b) ∙ ap (bit_xor a) h

-- every member of a is one of b
abbrev pub Inside : ℕ → ℕ → Type 0
Inside a b = (e : ℕ) → member a e ≡ true → member b e ≡ true

-- a member of a sum is a member of a part
pub member_part : (a b e : ℕ) → member (bit_xor a b) e ≡ true → (member a e ≡ true) ⊎ (member b e ≡ true)
unfolding xor
member_part a b e h = go (member a e) refl (sym (member_sum a b e) ∙ h)
  where
    go : (c : Bool) → member a e ≡ c → xor c (member b e) ≡ true → (member a e ≡ true) ⊎ (member b e ≡ true)
    go true p q = inl p
    go false p q = inr (sym (not-not (member b e)) ∙ q)

pub nothing_inside : (u : ℕ) → Inside u 0 → u ≡ 0
nothing_inside u h = sym (no_members u (λ e. none e (member u e) refl))
  where
    none : (e : ℕ) (b : Bool) → member u e ≡ b → b ≡ false
    none e false p = refl
    none e true p = absurd (false≢true (sym (member_empty e) ∙ h e p))

-- a set and a new entry
module _ (s e : ℕ) (new : member s e ≡ false) where
  pub member_new : member (bit_xor s (2 ^ e)) e ≡ true
  unfolding xor
  member_new = member_sum s (2 ^ e) e ∙ ap₂ xor new (member_single e e ∙ eq-eqb e e refl)

  pub member_old : Inside s (bit_xor s (2 ^ e))
  unfolding xor
  member_old k m = member_sum s (2 ^ e) k ∙ ap₂ xor m (member_single e k ∙ ne_eqb e k (λ p. true≢false (sym m ∙ ap (member s) (sym p) ∙ new)))

-- what is inside a set and one more entry, and doesn't have this entry, is inside the set
pub inside_old : (s e u : ℕ) → Inside u (bit_xor s (2 ^ e)) → member u e ≡ false → Inside u s
inside_old s e u h no-e k m = go (member_part s (2 ^ e) k (h k m))
  where
    go : (member s k ≡ true) ⊎ (member (2 ^ e) k ≡ true) → member s k ≡ true
    go (inl p) = p
    go (inr p) = absurd (true≢false (sym m ∙ ap (member u) (sym (eqb-true e k (sym (member_single e k) ∙ p))) ∙ no-e))

-- and if it has this entry, it is inside the set once the entry is taken off
pub inside_rest : (s e u : ℕ) → Inside u (bit_xor s (2 ^ e)) → member u e ≡ true → Inside (bit_xor u (2 ^ e)) s
unfolding xor
inside_rest s e u h own = inside_old s e (bit_xor u (2 ^ e)) wide (member_sum u (2 ^ e) e ∙ ap₂ xor own (member_single e e ∙ eq-eqb e e refl))
  where
    wide : Inside (bit_xor u (2 ^ e)) (bit_xor s (2 ^ e))
    wide k m = elim (member_part u (2 ^ e) k m) [ inl i ↦ h k i | inr i ↦ h k (ap (member u) (sym (eqb-true e k (sym (member_single e k) ∙ i))) ∙ own) ]

-- the members of an insertion
pub insert_cases : (s e k : ℕ) → member (insert s e) k ≡ true → (member s k ≡ true) ⊎ (k ≡ e)
insert_cases s e k h = go (member s k) refl (sym (member_insert s e k) ∙ h)
  where
    go : (b : Bool) → member s k ≡ b → (b || eqb e k) ≡ true → (member s k ≡ true) ⊎ (k ≡ e)
    go true p q = inl p
    go false p q = inr (sym (eqb-true e k q))

pub insert_own : (s e : ℕ) → member (insert s e) e ≡ true
insert_own s e = member_insert s e e ∙ ap (λ (b : Bool). member s e || b) (eq-eqb e e refl) ∙ or-true (member s e)

pub insert_old : (s e : ℕ) → Inside s (insert s e)
insert_old s e k m = member_insert s e k ∙ ap (λ (b : Bool). b || eqb e k) m

-- half of a power of two, and its lowest bit
pub half_power : (k : ℕ) → 2 ^ suc k / 2 ≡ 2 ^ k
half_power k = let q = pow-suc 2 k in omega arith

pub even_power : (k : ℕ) → 2 ^ suc k % 2 ≡ 0
even_power k = let q = pow-suc 2 k in omega arith

ones_sum : (s e : ℕ) → member s e ≡ false → ones (bit_xor s (2 ^ e)) ≡ suc (ones s)
ones_sum s zero m =
    ones_step (bit_xor s 1) ∙ ap₂ (λ (x y : ℕ). x + ones y) (xor_mod s 1 1 ∙ ap (λ (x : ℕ). bit_xor x 1) even) (xor_shr s 1 1 ∙ xor_zero_r (s / 2))
    ∙ more (s % 2) even ∙ ap suc (sym (ones_step s))
  where
    even : s % 2 ≡ 0
    even = low (λ p. eqb-false (s % 2) 1 (sym (member_zero s) ∙ m) p)
      where
        low : ¬ (s % 2 ≡ 1) → s % 2 ≡ 0
        low h = omega arith

    more : (x : ℕ) → x ≡ 0 → 1 + ones (s / 2) ≡ suc (x + ones (s / 2))
    more x p = omega arith
ones_sum s (suc e) m =
    ones_step (bit_xor s (2 ^ suc e)) ∙ ap₂ (λ (x y : ℕ). x + ones y) (xor_mod s (2 ^ suc e) 1 ∙ ap (bit_xor (s % 2)) (even_power e) ∙ xor_zero_r (s % 2))
    (xor_shr s (2 ^ suc e) 1 ∙ ap (bit_xor (s / 2)) (half_power e))
    ∙ ap (λ (x : ℕ). s % 2 + x) (ones_sum (s / 2) e (sym (member_suc s e) ∙ m))
    ∙ more (s % 2) (ones (s / 2)) ∙ ap suc (sym (ones_step s))
  where
    more : (x y : ℕ) → x + suc y ≡ suc (x + y)
    more x y = omega arith

pub ones_insert : (s e : ℕ) → member s e ≡ false → ones (insert s e) ≡ suc (ones s)
unfolding insert
ones_insert s e m = ap (λ (b : Bool). ones (cond b s (bit_xor s (2 ^ e)))) m ∙ ones_sum s e m

-- a set of entries below n is below 2^n
pub below_members : (n s : ℕ) → ((e : ℕ) → member s e ≡ true → e < n) → s < 2 ^ n
below_members zero s h = let p : 0 ≡ s = no_members s (λ e. none e (member s e) refl) in omega arith
  where
    none : (e : ℕ) (b : Bool) → member s e ≡ b → b ≡ false
    none e false p = refl
    none e true p = absurd (not-suc-le-zero (h e p))
below_members (suc n) s h =
    let q : s / 2 < 2 ^ n = below_members n (s / 2) (λ e m. le_of_suc-le-suc (h (suc e) (member_suc s e ∙ m))) in
    omega (arith, two-pow-succ n)
