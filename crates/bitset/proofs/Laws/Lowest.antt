-- The lowest member of a word, and a word without it: what every loop over the bits of a word goes by.
-- Shown: a word that isn't 0 has its lowest member, below 64, and none under it; the word and the number before it have in common all members but this
-- one; the rest is smaller; the lowest member of four words. Assumes nothing.
use mathlib.Core.Path.{◌≡◌, refl, sym, ap, ap₂, ◌∙◌}
use mathlib.Core.Bool.{true, false}
use mathlib.Core.Logic.{◌⊎◌, inl, inr, by_cases}
use mathlib.Core.List.{List}
use Prim.Native.Nat.{ℕ, zero, suc, ◌+◌, ◌-◌, ◌*◌, ◌/◌, ◌%◌, ◌^◌, ◌<◌, min}
use native.Mathlib.Nat.{pow-suc, not-suc-le-zero}
use native.Mathlib.Decide.{dec_lt}
use native.Mathlib.Omega.{arith}
use lib.Bits.{bit_xor, bit_and, and_step, xor_step, and_self, and_le_r, xor_zero_r, differ}
use lib.Count.{count_trailing_zeros, under}
use lib.Dec.{eqb}
use lib.ListN.{get_or}
use Rattle.bitset.specs.Set.{member}
use Rattle.bitset.specs.Words.{value}
use Rattle.bitset.specs.Inner.{IsLowest}
use Rattle.bitset.proofs.Laws.Member.{bit_cases, member_zero, member_suc, member_empty}
use Rattle.bitset.proofs.Laws.Words.{Below}
use Rattle.bitset.proofs.Laws.Sums.{half_power, even_power}
use Rattle.bitset.proofs.Laws.Union.{word_member}

-- t is the lowest member of w, and the rest of w is the sum with t
record Parts (d w t : ℕ) : Type 0 where
  own : member w t ≡ true
  within : t < d
  none : (k : ℕ) → k < t → member w k ≡ false
  rest : bit_and w (w - 1) ≡ bit_xor w (2 ^ t)

even_parts : (d w t : ℕ) → 0 < w → w % 2 ≡ 0 → Parts d (w / 2) t → Parts (suc d) w (suc t)
even_parts d w t p z h =
    record {
      own = member_suc w t ∙ h.own;
      within = omega (arith, h.within);
      none = none;
      rest = and_step w (w - 1) ∙ ap₂ (λ (x y : ℕ). x * 2 + y) (ap (bit_and (w / 2)) before ∙ h.rest ∙ sym (ap (bit_xor (w / 2)) (half_power t))) (low (w % 2) z ∙ sym (low' (w % 2) z)) ∙ sym (xor_step w (2 ^ suc t));
    }
  where
    before : (w - 1) / 2 ≡ w / 2 - 1
    before = omega arith

    low : (r : ℕ) → r ≡ 0 → min r ((w - 1) % 2) ≡ 0
    low r q = omega arith

    low' : (r : ℕ) → r ≡ 0 → differ r (2 ^ suc t % 2) ≡ 0
    low' r q = ap₂ differ q (even_power t)

    none : (k : ℕ) → k < suc t → member w k ≡ false
    none zero l = member_zero w ∙ ap (λ (x : ℕ). eqb x 1) z
    none (suc k) l = member_suc w k ∙ h.none k (omega arith)

odd_parts : (d w : ℕ) → w % 2 ≡ 1 → Parts (suc d) w 0
odd_parts d w o =
    record {
      own = member_zero w ∙ ap (λ (x : ℕ). eqb x 1) o;
      within = omega arith;
      none = λ k l. absurd (not-suc-le-zero l);
      rest = and_step w (w - 1) ∙ ap₂ (λ (x y : ℕ). x * 2 + y) (ap (bit_and (w / 2)) before ∙ and_self (w / 2) ∙ sym (xor_zero_r (w / 2))) (low ∙ sym (ap (λ (x : ℕ). differ x 1) o)) ∙ sym (xor_step w 1);
    }
  where
    before : (w - 1) / 2 ≡ w / 2
    before = omega arith

    low : min (w % 2) ((w - 1) % 2) ≡ 0
    low = omega arith

lowest_parts : (d w : ℕ) → 0 < w → w < 2 ^ d → Parts d w (count_trailing_zeros d w)
unfolding count_trailing_zeros
lowest_parts zero w p h = absurd (omega arith)
lowest_parts (suc d) w p h = go (w % 2) refl (bit_cases w) (λ z. lowest_parts d (w / 2) (omega arith) half)
  where
    half : w / 2 < 2 ^ d
    half = let q = pow-suc 2 d in omega arith

    go : (r : ℕ) → w % 2 ≡ r → (w % 2 ≡ 0) ⊎ (w % 2 ≡ 1) → (w % 2 ≡ 0 → Parts d (w / 2) (count_trailing_zeros d (w / 2))) → Parts (suc d) w (under r (count_trailing_zeros d (w / 2)))
    go zero z c f = even_parts d w (count_trailing_zeros d (w / 2)) p z (f z)
    go (suc zero) o c f = odd_parts d w o
    go (suc (suc r)) q (inl z) f = absurd (omega arith)
    go (suc (suc r)) q (inr o) f = absurd (omega arith)

-- a word of 64 bits that isn't 0
module _ (w : ℕ) (p : 0 < w) (h : w < 2 ^ 64) where
  pub lowest_own : member w (count_trailing_zeros 64 w) ≡ true
  lowest_own = (lowest_parts 64 w p h).own

  pub lowest_within : count_trailing_zeros 64 w < 64
  lowest_within = (lowest_parts 64 w p h).within

  pub lowest_none : (k : ℕ) → k < count_trailing_zeros 64 w → member w k ≡ false
  lowest_none = (lowest_parts 64 w p h).none

  pub rest_sum : bit_and w (w - 1) ≡ bit_xor w (2 ^ count_trailing_zeros 64 w)
  rest_sum = (lowest_parts 64 w p h).rest

  pub rest_less : bit_xor w (2 ^ count_trailing_zeros 64 w) < w
  rest_less = let q = rest_sum in let l = and_le_r w (w - 1) in omega arith

-- the first words are 0
pub zero_none : (ws : List ℕ) (i : ℕ) → i < 0 → get_or ws i 0 ≡ 0
zero_none ws i l = absurd (not-suc-le-zero l)

pub zero_more : (ws : List ℕ) (q : ℕ) → ((i : ℕ) → i < q → get_or ws i 0 ≡ 0) → get_or ws q 0 ≡ 0 → (i : ℕ) → i < suc q → get_or ws i 0 ≡ 0
zero_more ws q z e i l = by_cases (dec_lt i q) (z i) (λ f. let p : i ≡ q = omega arith in ap (λ (x : ℕ). get_or ws x 0) p ∙ e)

-- the lowest member of the set that four words hold lies in the first word that isn't 0
module _ (ws : List ℕ) (h : Below 64 ws) where
  pub lowest_at : (q : ℕ) → q < 4 → 0 < get_or ws q 0 → ((i : ℕ) → i < q → get_or ws i 0 ≡ 0) → IsLowest (value ws) (q * 64 + count_trailing_zeros 64 (get_or ws q 0))
  lowest_at q l p z =
      record {
        own = word_member ws h (q * 64 + count_trailing_zeros 64 (get_or ws q 0)) ∙ ap₂ (λ (x y : ℕ). member (get_or ws x 0) y) word place ∙ lowest_own (get_or ws q 0) p (h q);
        none = none;
      }
    where
      small : count_trailing_zeros 64 (get_or ws q 0) < 64
      small = lowest_within (get_or ws q 0) p (h q)

      word : (q * 64 + count_trailing_zeros 64 (get_or ws q 0)) / 64 ≡ q
      word = let s = small in omega arith

      place : (q * 64 + count_trailing_zeros 64 (get_or ws q 0)) % 64 ≡ count_trailing_zeros 64 (get_or ws q 0)
      place = let s = small in omega arith

      none : (k : ℕ) → k < q * 64 + count_trailing_zeros 64 (get_or ws q 0) → member (value ws) k ≡ false
      none k m = word_member ws h k ∙ by_cases (dec_lt (k / 64) q) under (λ f. here (omega (arith, small)))
        where
          under : k / 64 < q → member (get_or ws (k / 64) 0) (k % 64) ≡ false
          under s = ap (λ (x : ℕ). member x (k % 64)) (z (k / 64) s) ∙ member_empty (k % 64)

          here : k / 64 ≡ q → member (get_or ws (k / 64) 0) (k % 64) ≡ false
          here e = ap (λ (x : ℕ). member (get_or ws x 0) (k % 64)) e ∙ lowest_none (get_or ws q 0) p (h q) (k % 64) (omega arith)
