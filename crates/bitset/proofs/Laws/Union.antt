-- Operations on sets, word by word: what two sets have in common, their union, and one without the other.
-- Shown: the members of each, for numbers; and for four words and four words, from the same fact about one word; a bit put into a lent set.
-- Assumes nothing.
use mathlib.Core.Path.{◌≡◌, refl, sym, ap, ap₂, ◌∙◌}
use mathlib.Core.Bool.{Bool, true, false, xor, not, ◌&&◌, ◌||◌, or-false}
use mathlib.Core.Logic.{◌⊎◌, inl, inr, by_cases}
use mathlib.Core.List.{List, [], ◌∷◌}
use Prim.Native.Nat.{ℕ, zero, suc, ◌+◌, ◌*◌, ◌/◌, ◌%◌, ◌^◌, ◌<◌}
use native.Mathlib.Nat.{one-mul, mod-eq_of_lt}
use native.Mathlib.Decide.{ℕ_discrete}
use native.Mathlib.Omega.{arith}
use lib.Bits.{bit_and, bit_or, and_shr, or_shr, and_mod, or_mod, or_lt}
use lib.Dec.{eqb}
use lib.Pow.{split, pow-lt}
use borrow.Author.Tests.{eq-eqb, ne_eqb}
use lib.ListN.{length, get_or, set, length-set, get_or-eq_default}
use lib.Seq.{get_or-set_same, get_or-set_other}
use Rattle.bitset.specs.Set.{member, insert}
use Rattle.bitset.specs.Inner.{FourWords}
use Rattle.bitset.specs.Words.{value}
use Rattle.bitset.proofs.Laws.Member.{bit_cases, member_single, member_insert, same_members}
use Rattle.bitset.proofs.Laws.Words.{Below, value_member}

-- the members of what two sets have in common, and of a union
and_bit : (a b : ℕ) → eqb (bit_and a b % 2) 1 ≡ (eqb (a % 2) 1 && eqb (b % 2) 1)
and_bit a b = ap (λ (x : ℕ). eqb x 1) (and_mod a b 1) ∙ go (bit_cases a) (bit_cases b)
  where
    go : (a % 2 ≡ 0) ⊎ (a % 2 ≡ 1) → (b % 2 ≡ 0) ⊎ (b % 2 ≡ 1) → eqb (bit_and (a % 2) (b % 2)) 1 ≡ (eqb (a % 2) 1 && eqb (b % 2) 1)
    go (inl p) (inl q) = simp (p, q)
    go (inl p) (inr q) = simp (p, q)
    go (inr p) (inl q) = simp (p, q)
    go (inr p) (inr q) = simp (p, q)

or_bit : (a b : ℕ) → eqb (bit_or a b % 2) 1 ≡ (eqb (a % 2) 1 || eqb (b % 2) 1)
or_bit a b = ap (λ (x : ℕ). eqb x 1) (or_mod a b 1) ∙ go (bit_cases a) (bit_cases b)
  where
    go : (a % 2 ≡ 0) ⊎ (a % 2 ≡ 1) → (b % 2 ≡ 0) ⊎ (b % 2 ≡ 1) → eqb (bit_or (a % 2) (b % 2)) 1 ≡ (eqb (a % 2) 1 || eqb (b % 2) 1)
    go (inl p) (inl q) = simp (p, q)
    go (inl p) (inr q) = simp (p, q)
    go (inr p) (inl q) = simp (p, q)
    go (inr p) (inr q) = simp (p, q)

pub member_and : (a b k : ℕ) → member (bit_and a b) k ≡ (member a k && member b k)
unfolding member
member_and a b k = ap (λ (x : ℕ). eqb (x % 2) 1) (and_shr a b k) ∙ and_bit (a / 2 ^ k) (b / 2 ^ k)

pub member_or : (a b k : ℕ) → member (bit_or a b) k ≡ (member a k || member b k)
unfolding member
member_or a b k = ap (λ (x : ℕ). eqb (x % 2) 1) (or_shr a b k) ∙ or_bit (a / 2 ^ k) (b / 2 ^ k)

-- in a and not in b: a without what it has in common with b
pub xor_and : (x y : Bool) → xor x (x && y) ≡ (x && not y)
unfolding xor
xor_and true true = refl
xor_and true false = refl
xor_and false y = refl

-- a member is a bit of its word
pub word_member : (ws : List ℕ) → Below 64 ws → (k : ℕ) → member (value ws) k ≡ member (get_or ws (k / 64) 0) (k % 64)
unfolding member
word_member ws h k = ap (member (value ws)) (sym (split k 6)) ∙ value_member ws h (k / 64) (k % 64) (omega arith)

-- an operation on words, of which the members are known, on four words and four words
module _ (f : ℕ → ℕ → ℕ) (g : Bool → Bool → Bool) (each : (x y k : ℕ) → member (f x y) k ≡ g (member x k) (member y k)) (none : f 0 0 ≡ 0)
    (small : (x y : ℕ) → x < 2 ^ 64 → y < 2 ^ 64 → f x y < 2 ^ 64) where
  abbrev both : List ℕ → List ℕ → List ℕ
  both a b = f (get_or a 0 0) (get_or b 0 0) ∷ f (get_or a 1 0) (get_or b 1 0) ∷ f (get_or a 2 0) (get_or b 2 0) ∷ f (get_or a 3 0) (get_or b 3 0) ∷ []

  module _ (a b : List ℕ) (la : length a ≡ 4) (lb : length b ≡ 4) (ha : Below 64 a) (hb : Below 64 b) where
    at : (q : ℕ) → get_or (both a b) q 0 ≡ f (get_or a q 0) (get_or b q 0)
    at zero = refl
    at (suc zero) = refl
    at (suc (suc zero)) = refl
    at (suc (suc (suc zero))) = refl
    at (suc (suc (suc (suc q)))) =
        sym (ap₂ f (get_or-eq_default a 0 (omega arith)) (get_or-eq_default b 0 (omega arith)) ∙ none)

    fits : Below 64 (both a b)
    fits i = let s = small (get_or a i 0) (get_or b i 0) (ha i) (hb i) in let p = at i in omega arith

    pub words_member : (k : ℕ) → member (value (both a b)) k ≡ g (member (value a) k) (member (value b) k)
    words_member k =
        word_member (both a b) fits k ∙ ap (λ (x : ℕ). member x (k % 64)) (at (k / 64)) ∙ each (get_or a (k / 64) 0) (get_or b (k / 64) 0) (k % 64)
        ∙ ap₂ g (sym (word_member a ha k)) (sym (word_member b hb k))

-- one bit more in a word of a lent set
module _ (s : List ℕ) (h : FourWords s) (w b : ℕ) (lw : w < 4) (lb : b < 64) where
  abbrev more : List ℕ
  more = set s w (bit_or (get_or s w 0) (1 * 2 ^ b % 2 ^ 64))

  bit : 1 * 2 ^ b % 2 ^ 64 ≡ 2 ^ b
  bit = ap (λ (x : ℕ). x % 2 ^ 64) (one-mul (2 ^ b)) ∙ mod-eq_of_lt (pow-lt lb)

  changed : get_or more w 0 ≡ bit_or (get_or s w 0) (2 ^ b)
  changed = get_or-set_same s w (bit_or (get_or s w 0) (1 * 2 ^ b % 2 ^ 64)) 0 (omega (arith, h.four)) ∙ ap (bit_or (get_or s w 0)) bit

  same : (i : ℕ) → ¬ (i ≡ w) → get_or more i 0 ≡ get_or s i 0
  same i f = get_or-set_other s w i _ 0 f

  pub put_words : FourWords more
  put_words = record { four = length-set s w _ ∙ h.four; below = λ i. by_cases (ℕ_discrete i w) (here i) (λ f. omega (arith, same i f, h.below i)) }
    where
      here : (i : ℕ) → i ≡ w → get_or more i 0 < 2 ^ 64
      here i p = let c = changed in let l = or_lt 64 (get_or s w 0) (2 ^ b) (h.below w) (pow-lt lb) in
          let q : get_or more i 0 ≡ get_or more w 0 = ap (λ (x : ℕ). get_or more x 0) p in omega arith

  put_member : (k : ℕ) → member (value more) k ≡ (member (value s) k || eqb (w * 64 + b) k)
  put_member k = word_member more put_words.below k ∙ by_cases (ℕ_discrete (k / 64) w) here there
    where
      there : ¬ (k / 64 ≡ w) → member (get_or more (k / 64) 0) (k % 64) ≡ (member (value s) k || eqb (w * 64 + b) k)
      there f =
          ap (λ (x : ℕ). member x (k % 64)) (same (k / 64) f) ∙ sym (word_member s h.below k)
          ∙ sym (or-false (member (value s) k)) ∙ ap (λ (x : Bool). member (value s) k || x) (sym (ne_eqb (w * 64 + b) k (λ p. f (omega arith))))

      here : k / 64 ≡ w → member (get_or more (k / 64) 0) (k % 64) ≡ (member (value s) k || eqb (w * 64 + b) k)
      here p =
          ap (λ (x : ℕ). member (get_or more x 0) (k % 64)) p ∙ ap (λ (x : ℕ). member x (k % 64)) changed ∙ member_or (get_or s w 0) (2 ^ b) (k % 64)
          ∙ ap₂ ◌||◌ (ap (λ (x : ℕ). member (get_or s x 0) (k % 64)) (sym p) ∙ sym (word_member s h.below k)) (member_single b (k % 64) ∙ place)
        where
          place : eqb b (k % 64) ≡ eqb (w * 64 + b) k
          place = by_cases (ℕ_discrete b (k % 64)) (λ q. eq-eqb b (k % 64) q ∙ sym (eq-eqb (w * 64 + b) k (omega arith))) (λ f. ne_eqb b (k % 64) f ∙ sym (ne_eqb (w * 64 + b) k (λ q. f (omega arith))))

  pub put_value : value more ≡ insert (value s) (w * 64 + b)
  put_value = same_members (value more) (insert (value s) (w * 64 + b)) (λ k. put_member k ∙ sym (member_insert (value s) (w * 64 + b) k))
