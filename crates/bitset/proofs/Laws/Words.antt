-- The set that a list of words holds, for any number of words.
-- Shown: a part of at most 64 bits that lies in one word is that word's; so are members and bytes; the sum is word by word; a list is
-- known by its value; words of zeros, and one word set among them; the leading entry and the count of members. Assumes nothing.
use mathlib.Core.Path.{◌≡◌, refl, sym, ap, ap₂, ◌∙◌}
use mathlib.Core.Bool.{Bool, true, false, cond}
use mathlib.Core.List.{List, [], ◌∷◌, ◌++◌}
use Prim.Native.Nat.{ℕ, zero, suc, ◌+◌, ◌-◌, ◌*◌, ◌/◌, ◌%◌, ◌^◌, ◌≤◌, ◌<◌}
use native.Mathlib.Nat.{zero-div, suc-mul, zero-mul, zero-add, mul_assoc, div-div-eq-div-mul, mul-add-mod_self_right, add_comm, add-mul, one-mul, mod-eq_of_lt, mul-le-mul_right, le_of_suc-le-suc, le_trans, le_of_eq, le-add_right, lt_of_lt_of_le, suc-add, div-add-mod', mod-lt}
use native.Mathlib.Omega.{arith}
use lib.Bits.{bit_xor, xor_block, xor_zero_l, xor_zero_r}
use lib.Pow.{pow_pos, pow-lt, pow-add, high, low, field}
use lib.Dec.{eqb}
use lib.Pointwise.{pointwise}
use Rattle.std.specs.Cmp.Lexicographic.{same_text, other_text}
use borrow.Author.Tests.{eq-eqb, ne_eqb}
use lib.ListN.{length, get_or, set}
use Rattle.bitset.specs.Words.{packed, value, byte_of}
use Rattle.bitset.specs.Set.{member, leading}
use Rattle.bitset.specs.Inner.{FourWords}
use Rattle.bitset.proofs.Laws.Leading.{leading_between, leading_member, leading_high}
use Rattle.bitset.proofs.Laws.Member.{member_le}
use lib.Arith.{digits_lt}

-- every word is below 2^k. (Past the end of the list a word reads as 0.)
abbrev pub Below : ℕ → List ℕ → Type 0
Below k ws = (i : ℕ) → get_or ws i 0 < 2 ^ k

-- the low part of a number is not changed by what stands above it
low_part : (v w m p : ℕ) → m ≤ p → (v * 2 ^ p + w) % 2 ^ m ≡ w % 2 ^ m
low_part v w m p h =
    ap (λ (x : ℕ). (x + w) % 2 ^ m) (ap (λ (x : ℕ). v * 2 ^ x) split ∙ ap (λ (x : ℕ). v * x) (pow-add 2 (p - m) m) ∙ sym (mul_assoc v (2 ^ (p - m)) (2 ^ m)))
    ∙ mul-add-mod_self_right (v * 2 ^ (p - m)) (2 ^ m) w
  where
    split : p ≡ (p - m) + m
    split = omega arith

module _ (k : ℕ) where
  -- a part of w bits that lies in digit q, from its bit r on
  pub packed_part : (ws : List ℕ) → Below k ws → (q r w : ℕ) → w + r ≤ k
      → packed k ws / 2 ^ (q * k + r) % 2 ^ w ≡ get_or ws q 0 / 2 ^ r % 2 ^ w
  unfolding packed
  packed_part [] h zero r w l = ap (λ (x : ℕ). x % 2 ^ w) (zero-div (2 ^ (zero * k + r)) ∙ sym (zero-div (2 ^ r)))
  packed_part [] h (suc q) r w l = ap (λ (x : ℕ). x % 2 ^ w) (zero-div (2 ^ (suc q * k + r)) ∙ sym (zero-div (2 ^ r)))
  packed_part (x ∷ ws) h zero r w l =
      ap (λ (y : ℕ). (packed k ws * 2 ^ k + x) / 2 ^ y % 2 ^ w) (ap (λ (y : ℕ). y + r) (zero-mul k) ∙ zero-add r)
      ∙ sym (field (packed k ws * 2 ^ k + x) w r)
      ∙ ap (λ (y : ℕ). y / 2 ^ r) (low_part (packed k ws) x (w + r) k l)
      ∙ field x w r
  packed_part (x ∷ ws) h (suc q) r w l =
      ap (λ (y : ℕ). y % 2 ^ w)
      (ap (λ (y : ℕ). (packed k ws * 2 ^ k + x) / y) (ap (λ (y : ℕ). 2 ^ y) (turn (suc-mul q k)) ∙ pow-add 2 k (q * k + r))
      ∙ sym (div-div-eq-div-mul (packed k ws * 2 ^ k + x) (2 ^ k) (2 ^ (q * k + r)))
      ∙ ap (λ (y : ℕ). y / 2 ^ (q * k + r)) (high (packed k ws) k (h zero)))
      ∙ packed_part ws (λ i. h (suc i)) q r w l
    where
      turn : suc q * k ≡ q * k + k → suc q * k + r ≡ k + (q * k + r)
      turn e = omega arith

  -- exclusive or of two lists, digit by digit
  abbrev pub xor_digits : List ℕ → List ℕ → List ℕ
  xor_digits [] ys = ys
  xor_digits (x ∷ xs) [] = x ∷ xs
  xor_digits (x ∷ xs) (y ∷ ys) = bit_xor x y ∷ xor_digits xs ys

  pub packed_sum : (xs ys : List ℕ) → Below k xs → Below k ys → packed k (xor_digits xs ys) ≡ bit_xor (packed k xs) (packed k ys)
  unfolding packed
  packed_sum [] ys hx hy = sym (xor_zero_l (packed k ys))
  packed_sum (x ∷ xs) [] hx hy = sym (xor_zero_r (packed k xs * 2 ^ k + x))
  packed_sum (x ∷ xs) (y ∷ ys) hx hy =
      ap (λ (z : ℕ). z * 2 ^ k + bit_xor x y) (packed_sum xs ys (λ i. hx (suc i)) (λ i. hy (suc i)))
      ∙ sym (xor_block k (packed k xs) (packed k ys) x y (hx zero) (hy zero))

  -- lists of one length are known by their value
  pub packed_injective : (xs ys : List ℕ) → length xs ≡ length ys → Below k xs → Below k ys → packed k xs ≡ packed k ys → xs ≡ ys
  unfolding packed
  packed_injective [] [] l hx hy e = refl
  packed_injective [] (y ∷ ys) l hx hy e = absurd (omega arith)
  packed_injective (x ∷ xs) [] l hx hy e = absurd (omega arith)
  packed_injective (x ∷ xs) (y ∷ ys) l hx hy e =
      ap₂ (λ (z : ℕ) (zs : List ℕ). z ∷ zs)
      (sym (low (packed k xs) k (hx zero)) ∙ ap (λ (n : ℕ). n % 2 ^ k) e ∙ low (packed k ys) k (hy zero))
      (packed_injective xs ys (suc_inj l) (λ i. hx (suc i)) (λ i. hy (suc i))
      (sym (high (packed k xs) k (hx zero)) ∙ ap (λ (n : ℕ). n / 2 ^ k) e ∙ high (packed k ys) k (hy zero)))
    where
      suc_inj : {a b : ℕ} → suc a ≡ suc b → a ≡ b
      suc_inj p = omega arith

  -- more is added to a digit
  pub packed_add : (ws : List ℕ) (q x : ℕ) → q < length ws → packed k (set ws q (get_or ws q 0 + x)) ≡ packed k ws + x * 2 ^ (q * k)
  unfolding packed
  packed_add [] q x l = absurd (omega arith)
  packed_add (w ∷ ws) zero x l = first (packed k ws * 2 ^ k) ∙ ap (λ (y : ℕ). packed k ws * 2 ^ k + w + x * 2 ^ y) (sym (zero-mul k))
    where
      first : (v : ℕ) → v + (w + x) ≡ v + w + x * 1
      first v = omega arith
  packed_add (w ∷ ws) (suc q) x l =
      ap (λ (y : ℕ). y * 2 ^ k + w) (packed_add ws q x (le_of_suc-le-suc l))
      ∙ ap (λ (y : ℕ). y + w) (add-mul (packed k ws) (x * 2 ^ (q * k)) (2 ^ k))
      ∙ later (packed k ws * 2 ^ k) (x * 2 ^ (q * k) * 2 ^ k)
      ∙ ap (λ (y : ℕ). packed k ws * 2 ^ k + w + y)
      (mul_assoc x (2 ^ (q * k)) (2 ^ k) ∙ ap (λ (y : ℕ). x * y) (sym (pow-add 2 (q * k) k)) ∙ ap (λ (y : ℕ). x * 2 ^ y) (sym (suc-mul q k)))
    where
      later : (a b : ℕ) → a + b + w ≡ a + w + b
      later a b = omega arith

  -- the leading entry lies above where there is something above
  pub leading_above : (v w : ℕ) → 0 < v → w < 2 ^ k → leading (v * 2 ^ k + w) ≡ leading v + k
  leading_above v w p h =
      leading_between (v * 2 ^ k + w) (leading v + k)
      (le_trans (le_of_eq (pow-add 2 (leading v) k)) (le_trans (mul-le-mul_right (2 ^ k) (member_le v (leading v) (leading_member v p))) (le-add_right (v * 2 ^ k) w)))
      (lt_of_lt_of_le (digits_lt (leading_high v) h) (le_of_eq (sym (pow-add 2 (suc (leading v)) k) ∙ ap (λ (y : ℕ). 2 ^ y) (suc-add (leading v) k))))

-- a member of the set that words hold is a bit of one word
pub value_member : (ws : List ℕ) → Below 64 ws → (w b : ℕ) → b < 64 → member (value ws) (w * 64 + b) ≡ eqb (get_or ws w 0 / 2 ^ b % 2) 1
unfolding member
value_member ws h w b l = ap (λ (x : ℕ). eqb x 1) (packed_part 64 ws h w b 1 (omega arith))

-- a byte of the set that words hold lies in one word
pub value_byte : (ws : List ℕ) → Below 64 ws → (i : ℕ) → byte_of (value ws) i ≡ get_or ws (i / 8) 0 / 2 ^ (i % 8 * 8) % 2 ^ 8
unfolding byte_of
value_byte ws h i =
    ap (λ (x : ℕ). value ws / 2 ^ x % 2 ^ 8) (place (div-add-mod' i 8)) ∙ packed_part 64 ws h (i / 8) (i % 8 * 8) 8 (room (mod-lt i (pow_pos 3)))
  where
    place : i / 8 * 8 + i % 8 ≡ i → i * 8 ≡ i / 8 * 64 + i % 8 * 8
    place p = omega arith

    room : i % 8 < 8 → 8 + i % 8 * 8 ≤ 64
    room p = omega arith

-- four words, one by one
pub four : (l : List ℕ) → length l ≡ 4 → l ≡ get_or l 0 0 ∷ get_or l 1 0 ∷ get_or l 2 0 ∷ get_or l 3 0 ∷ []
four [] p = absurd (omega arith)
four (a ∷ []) p = absurd (omega arith)
four (a ∷ b ∷ []) p = absurd (omega arith)
four (a ∷ b ∷ c ∷ []) p = absurd (omega arith)
four (a ∷ b ∷ c ∷ d ∷ []) p = refl
four (a ∷ b ∷ c ∷ d ∷ x ∷ l) p = absurd (omega arith)

zeros : (q : ℕ) → ◌≡◌ {A = ℕ} (get_or (0 ∷ 0 ∷ 0 ∷ 0 ∷ []) q 0) 0
zeros zero = refl
zeros (suc zero) = refl
zeros (suc (suc zero)) = refl
zeros (suc (suc (suc zero))) = refl
zeros (suc (suc (suc (suc q)))) = refl

-- a word among words of zeros
word_among : (w x : ℕ) → w < 4 → (cond (eqb w 0) x 0 ∷ cond (eqb w 1) x 0 ∷ cond (eqb w 2) x 0 ∷ cond (eqb w 3) x 0 ∷ []) ≡ set (0 ∷ 0 ∷ 0 ∷ 0 ∷ []) w x
word_among zero x l = refl
word_among (suc zero) x l = refl
word_among (suc (suc zero)) x l = refl
word_among (suc (suc (suc zero))) x l = refl
word_among (suc (suc (suc (suc w)))) x l = absurd (omega arith)

-- four words of zeros, and the empty set that they hold
pub words_zero : FourWords (0 ∷ 0 ∷ 0 ∷ 0 ∷ [])
words_zero = record { four = refl; below = λ i. omega (arith, zeros i) }

pub value_zero : value (0 ∷ 0 ∷ 0 ∷ 0 ∷ []) ≡ 0
unfolding packed
value_zero = refl

pub value_empty : (s : List ℕ) → length s ≡ 4 → get_or s 0 0 ≡ 0 → get_or s 1 0 ≡ 0 → get_or s 2 0 ≡ 0 → get_or s 3 0 ≡ 0 → value s ≡ 0
value_empty s l p q r t = ap value (four s l ∙ simp (p, q, r, t)) ∙ value_zero

-- one bit among four words of zeros
pub value_single : (w b : ℕ) → w < 4 → b < 64 → (x₀ x₁ x₂ x₃ : ℕ) → x₀ ≡ cond (eqb w 0) (1 * 2 ^ b % 2 ^ 64) 0 → x₁ ≡ cond (eqb w 1) (1 * 2 ^ b % 2 ^ 64) 0
    → x₂ ≡ cond (eqb w 2) (1 * 2 ^ b % 2 ^ 64) 0 → x₃ ≡ cond (eqb w 3) (1 * 2 ^ b % 2 ^ 64) 0 → value (x₀ ∷ x₁ ∷ x₂ ∷ x₃ ∷ []) ≡ 2 ^ (w * 64 + b)
unfolding packed
value_single w b l m x₀ x₁ x₂ x₃ p₀ p₁ p₂ p₃ =
    ap₂ (λ (y z : List ℕ). value (y ++ z)) (ap₂ (λ (y z : ℕ). y ∷ z ∷ []) p₀ p₁) (ap₂ (λ (y z : ℕ). y ∷ z ∷ []) p₂ p₃)
    ∙ ap value (word_among w (1 * 2 ^ b % 2 ^ 64) l)
    ∙ ap (λ (x : ℕ). value (set (0 ∷ 0 ∷ 0 ∷ 0 ∷ []) w x)) (exact ∙ ap (λ (x : ℕ). x + 2 ^ b) (sym (zeros w)))
    ∙ packed_add 64 (0 ∷ 0 ∷ 0 ∷ 0 ∷ []) w (2 ^ b) l
    ∙ zero-add (2 ^ b * 2 ^ (w * 64))
    ∙ sym (pow-add 2 b (w * 64))
    ∙ ap (λ (x : ℕ). 2 ^ x) (add_comm b (w * 64))
  where
    exact : 1 * 2 ^ b % 2 ^ 64 ≡ 0 + 2 ^ b
    exact = ap (λ (x : ℕ). x % 2 ^ 64) (one-mul (2 ^ b)) ∙ mod-eq_of_lt (pow-lt m) ∙ sym (zero-add (2 ^ b))

-- the sum of four words and four words
pub value_sum : (a b : List ℕ) → length a ≡ 4 → length b ≡ 4 → Below 64 a → Below 64 b
    → value (bit_xor (get_or a 0 0) (get_or b 0 0) ∷ bit_xor (get_or a 1 0) (get_or b 1 0) ∷ bit_xor (get_or a 2 0) (get_or b 2 0) ∷ bit_xor (get_or a 3 0) (get_or b 3 0) ∷ [])
    ≡ bit_xor (value a) (value b)
value_sum a b la lb ha hb =
    ap₂ (λ (x y : List ℕ). value (xor_digits 64 x y)) (sym (four a la)) (sym (four b lb)) ∙ packed_sum 64 a b ha hb

-- two lists of as many words hold one set exactly when they are equal
pub value_equal : (a b : List ℕ) → length a ≡ length b → Below 64 a → Below 64 b → (r : Bool) → r ≡ pointwise eqb a b → r ≡ eqb (value a) (value b)
value_equal a b l ha hb true p = sym (eq-eqb (value a) (value b) (ap value (same_text a b p)))
value_equal a b l ha hb false p = sym (ne_eqb (value a) (value b) (λ q. other_text a b p (packed_injective 64 a b l ha hb q)))
