-- The place of a number in words of 2^k bits: which word, and which bit of it.
-- Shown, for every number and every width: a shift right by k is the quotient by 2^k; a mask of k ones is the remainder; word and bit
-- together give the number back, and no other word and bit do. A shift is told by its bits: the language defines `e >> k` as the quotient,
-- so that alone would say nothing. Assumes nothing.
use mathlib.Core.Path.{◌≡◌, sym, ap, ap₂, ◌∙◌}
use Prim.Native.Nat.{ℕ, ◌+◌, ◌-◌, ◌*◌, ◌/◌, ◌%◌, ◌^◌, ◌<◌}
use lib.Bits.{bit_and, and_mask}
use lib.Dec.{eqb}
use lib.Pow.{shr-shr, split, high, low}
use Rattle.bitset.specs.Set.{member}
use Rattle.bitset.proofs.Laws.Member.{same_members}

module _ (k : ℕ) where
  -- the quotient by 2^k has the bits from k on, each k places lower
  pub shift_bits : (e i : ℕ) → member (e / 2 ^ k) i ≡ member e (k + i)
  unfolding member
  shift_bits e i = ap (λ (x : ℕ). eqb (x % 2) 1) (shr-shr e k i)

  -- shifting right by k: a number with those bits is the quotient
  pub shift_quotient : (e q : ℕ) → ((i : ℕ) → member q i ≡ member e (k + i)) → q ≡ e / 2 ^ k
  shift_quotient e q h = same_members q (e / 2 ^ k) (λ i. h i ∙ sym (shift_bits e i))

  -- masking with k ones is the remainder: `and_mask` of the language's library, named here beside the shift
  pub mask_remainder : (e : ℕ) → bit_and e (2 ^ k - 1) ≡ e % 2 ^ k
  mask_remainder e = and_mask e k

  -- word and bit together give the number back
  pub place_back : (e w b : ℕ) → w ≡ e / 2 ^ k → b ≡ e % 2 ^ k → w * 2 ^ k + b ≡ e
  place_back e w b p q = ap₂ (λ (x y : ℕ). x * 2 ^ k + y) p q ∙ split e k

  -- and no other word and bit do
  pub place_only : (e w b : ℕ) → b < 2 ^ k → w * 2 ^ k + b ≡ e → (w ≡ e / 2 ^ k) × (b ≡ e % 2 ^ k)
  place_only e w b l p = (sym (high w k l) ∙ ap (λ (x : ℕ). x / 2 ^ k) p, sym (low w k l) ∙ ap (λ (x : ℕ). x % 2 ^ k) p)
