-- Sets as bytes in the buffer's form.
-- Shown: how many bytes; which byte and bit a member is; what is written is read back; the bytes of a word as the language's library has them; four words in turn, written and read.
-- Assumes nothing.
use mathlib.Core.Path.{◌≡◌, refl, sym, ap, ap₂, ◌∙◌}
use mathlib.Core.List.{List, [], ◌∷◌, ◌++◌, append_assoc, append-nil}
use Prim.Native.Nat.{ℕ, zero, suc, ◌+◌, ◌-◌, ◌*◌, ◌/◌, ◌%◌, ◌^◌, ◌≤◌, ◌<◌}
use native.Mathlib.Nat.{add_comm, add-suc, add_assoc, add-mul, zero-add, add-zero, suc-mul, zero-mul, mul_assoc, div-add-mod', mod-lt, mod-one, div-one, mul-one, div-div-eq-div-mul, le_trans, le_of_eq, lt_of_lt_of_le}
use native.Mathlib.Numerals.{add-one}
use native.Mathlib.Omega.{arith}
use lib.Arith.{digits_lt}
use lib.Dec.{eqb}
use lib.ListN.{length, get_or, take, drop, length-append, length-drop}
use Rattle.std.specs.Int.{w64, to_le_bytes, from_le_bytes}
use Rattle.std.specs.Simd.{first_chunks}
use lib.Pow.{pow_pos, pow-add, mod-pow-add, mod-mod-pow, field}
use lib.Seq.{take_at, drop_at, take-add, drop-drop, length-take-le}
use Rattle.bitset.specs.Set.{member}
use Rattle.bitset.specs.Words.{packed, value, set_of, byte_of, bytes_of}
use Rattle.bitset.proofs.Laws.Place.{place_only}
use Rattle.bitset.proofs.Laws.Words.{Below, value_byte}

pub length_bytes_of : (n s : ℕ) → length (bytes_of n s) ≡ n
unfolding bytes_of
length_bytes_of zero s = refl
length_bytes_of (suc n) s = length-append (bytes_of n s) (byte_of s n ∷ []) ∙ ap (λ (x : ℕ). x + 1) (length_bytes_of n s) ∙ add-one n

-- "bit of value 2 to the power e mod 8 in byte e div 8"
pub member_byte : (s e : ℕ) → member s e ≡ member (byte_of s (e / 8)) (e % 8)
unfolding member byte_of
member_byte s e = ap (λ (x : ℕ). eqb x 1) (sym (inner (e % 8) (s / 2 ^ (e / 8 * 8)) (mod-lt e (pow_pos 3)) ∙ ap (λ (x : ℕ). x % 2) whole))
  where
    whole : s / 2 ^ (e / 8 * 8) / 2 ^ (e % 8) ≡ s / 2 ^ e
    whole =
        div-div-eq-div-mul s (2 ^ (e / 8 * 8)) (2 ^ (e % 8)) ∙ ap (λ (x : ℕ). s / x) (sym (pow-add 2 (e / 8 * 8) (e % 8)))
        ∙ ap (λ (x : ℕ). s / 2 ^ x) (div-add-mod' e 8)

    inner : (r n : ℕ) → r < 8 → n % 2 ^ 8 / 2 ^ r % 2 ≡ n / 2 ^ r % 2
    inner r n l =
        ap (λ (x : ℕ). n % 2 ^ x / 2 ^ r % 2) sum8 ∙ ap (λ (x : ℕ). x % 2) (field n ((7 - r) + 1) r) ∙ mod-mod-pow (n / 2 ^ r) (7 - r) 1
      where
        sum8 : 8 ≡ (7 - r) + 1 + r
        sum8 = omega arith

-- digits in a row
pub packed_append : (k : ℕ) (xs ys : List ℕ) → packed k (xs ++ ys) ≡ packed k ys * 2 ^ (length xs * k) + packed k xs
unfolding packed
packed_append k [] ys = sym (add-zero (packed k ys * 2 ^ (zero * k)) ∙ ap (λ (x : ℕ). packed k ys * 2 ^ x) (zero-mul k) ∙ mul-one (packed k ys))
packed_append k (x ∷ xs) ys =
    ap (λ (y : ℕ). y * 2 ^ k + x) (packed_append k xs ys)
    ∙ ap (λ (y : ℕ). y + x) (add-mul (packed k ys * 2 ^ (length xs * k)) (packed k xs) (2 ^ k))
    ∙ add_assoc (packed k ys * 2 ^ (length xs * k) * 2 ^ k) (packed k xs * 2 ^ k) x
    ∙ ap (λ (y : ℕ). y + (packed k xs * 2 ^ k + x))
    (mul_assoc (packed k ys) (2 ^ (length xs * k)) (2 ^ k)
    ∙ ap (λ (y : ℕ). packed k ys * y) (sym (pow-add 2 (length xs * k) k) ∙ ap (λ (y : ℕ). 2 ^ y) (sym (suc-mul (length xs) k))))

pub packed_lt : (k : ℕ) (ws : List ℕ) → Below k ws → packed k ws < 2 ^ (length ws * k)
unfolding packed
packed_lt k [] h = pow_pos (zero * k)
packed_lt k (w ∷ ws) h = lt_of_lt_of_le (digits_lt (packed_lt k ws (λ i. h (suc i))) (h zero)) (le_of_eq (sym (ap (λ (x : ℕ). 2 ^ x) (suc-mul (length ws) k) ∙ pow-add 2 (length ws * k) k)))

-- what is written is read back
pub set_of_bytes_of : (n s : ℕ) → set_of (bytes_of n s) ≡ s % 2 ^ (n * 8)
unfolding bytes_of packed byte_of
set_of_bytes_of zero s = sym (mod-one s)
set_of_bytes_of (suc n) s =
    packed_append 8 (bytes_of n s) (byte_of s n ∷ [])
    ∙ ap₂ (λ (x y : ℕ). x * 2 ^ (y * 8) + set_of (bytes_of n s)) (zero-add (byte_of s n)) (length_bytes_of n s)
    ∙ ap (λ (x : ℕ). byte_of s n * 2 ^ (n * 8) + x) (set_of_bytes_of n s)
    ∙ sym (mod-pow-add s 8 (n * 8))
    ∙ ap (λ (x : ℕ). s % 2 ^ x) (add_comm 8 (n * 8) ∙ sym (suc-mul n 8))

-- the bytes of a word, as the language's library writes and reads them
pub word_bytes : (w : ℕ) → to_le_bytes w64 w ≡ bytes_of 8 w
unfolding bytes_of byte_of
word_bytes w = ap (λ (x : ℕ). x % 2 ^ 8 ∷ byte_of w 1 ∷ byte_of w 2 ∷ byte_of w 3 ∷ byte_of w 4 ∷ byte_of w 5 ∷ byte_of w 6 ∷ byte_of w 7 ∷ []) (sym (div-one w))

pub bytes_word : (b : List ℕ) → length b ≡ 8 → from_le_bytes w64 b ≡ set_of b
unfolding packed
bytes_word (b0 ∷ b1 ∷ b2 ∷ b3 ∷ b4 ∷ b5 ∷ b6 ∷ b7 ∷ []) l = omega arith
bytes_word b l = absurd (omega arith)

-- the bytes of the first words, and of one word more
module _ (ws : List ℕ) (h : Below 64 ws) where
  bytes_more : (q k : ℕ) → k ≤ 8 → bytes_of (q * 8 + k) (value ws) ≡ bytes_of (q * 8) (value ws) ++ bytes_of k (get_or ws q 0)
  unfolding bytes_of byte_of
  bytes_more q zero l = ap (λ (n : ℕ). bytes_of n (value ws)) (add-zero (q * 8)) ∙ sym (append-nil (bytes_of (q * 8) (value ws)))
  bytes_more q (suc k) l =
      ap (λ (n : ℕ). bytes_of n (value ws)) (add-suc (q * 8) k)
      ∙ ap₂ (λ (a : List ℕ) (b : ℕ). a ++ (b ∷ [])) (bytes_more q k (omega arith)) (value_byte ws h (q * 8 + k) ∙ ap₂ (λ (a b : ℕ). get_or ws a 0 / 2 ^ (b * 8) % 2 ^ 8) place.0 place.1)
      ∙ append_assoc (bytes_of (q * 8) (value ws)) (bytes_of k (get_or ws q 0)) (byte_of (get_or ws q 0) k ∷ [])
    where
      place : ((q * 8 + k) / 8 ≡ q) × ((q * 8 + k) % 8 ≡ k)
      place = let p = place_only 3 (q * 8 + k) q k (omega arith) refl in (sym p.0, sym p.1)

  -- one word more of a set at the front of a buffer
  front_more : (q : ℕ) (d d' : List ℕ) → d' ≡ bytes_of (q * 8) (value ws) ++ drop (q * 8) d
      → take (q * 8) d' ++ (bytes_of 8 (get_or ws q 0) ++ drop (q * 8 + 8) d') ≡ bytes_of (q * 8 + 8) (value ws) ++ drop (q * 8 + 8) d
  front_more q d d' e =
      let first = bytes_of (q * 8) (value ws) in
      let n = length_bytes_of (q * 8) (value ws) in
      ap (λ (l : List ℕ). take (q * 8) l ++ (bytes_of 8 (get_or ws q 0) ++ drop (q * 8 + 8) l)) e
      ∙ ap₂ (λ (a b : List ℕ). a ++ (bytes_of 8 (get_or ws q 0) ++ b)) (take_at first (drop (q * 8) d) (q * 8) n)
      (sym (drop-drop 8 (q * 8) (first ++ drop (q * 8) d)) ∙ ap (drop 8) (drop_at first (drop (q * 8) d) (q * 8) n) ∙ drop-drop 8 (q * 8) d)
      ∙ sym (append_assoc first (bytes_of 8 (get_or ws q 0)) (drop (q * 8 + 8) d))
      ∙ ap (λ (l : List ℕ). l ++ drop (q * 8 + 8) d) (sym (bytes_more q 8 (omega arith)))

  -- four words in turn
  pub front_four : (d : List ℕ) {d₁ d₂ d₃ d₄ : List ℕ} → d₁ ≡ take 0 d ++ (bytes_of 8 (get_or ws 0 0) ++ drop 8 d) → d₂ ≡ take 8 d₁ ++ (bytes_of 8 (get_or ws 1 0) ++ drop 16 d₁)
      → d₃ ≡ take 16 d₂ ++ (bytes_of 8 (get_or ws 2 0) ++ drop 24 d₂) → d₄ ≡ take 24 d₃ ++ (bytes_of 8 (get_or ws 3 0) ++ drop 32 d₃) → d₄ ≡ bytes_of 32 (value ws) ++ drop 32 d
  unfolding bytes_of
  front_four d {d₁} {d₂} {d₃} p₁ p₂ p₃ p₄ = p₄ ∙ front_more 3 d d₃ (p₃ ∙ front_more 2 d d₂ (p₂ ∙ front_more 1 d d₁ (p₁ ∙ front_more 0 d d refl)))

-- the eight bytes from a place on
abbrev pub eight : List ℕ → ℕ → List ℕ
eight b at = take 8 (drop at b)

module _ (b : List ℕ) (at : ℕ) (h : at + 8 ≤ length b) where
  length_eight : length (eight b at) ≡ 8
  length_eight = length-take-le 8 (drop at b) (le_trans (room (length b) h) (le_of_eq (sym (length-drop at b))))
    where
      room : (n : ℕ) → at + 8 ≤ n → 8 ≤ n - at
      room n q = omega arith

-- eight bytes, and the bytes after them
chunk : (n : ℕ) (b : List ℕ) (at : ℕ) → at + 8 ≤ length b → set_of (take (8 + n) (drop at b)) ≡ set_of (take n (drop (at + 8) b)) * 2 ^ 64 + set_of (eight b at)
chunk n b at h =
    ap set_of (take-add 8 n (drop at b) ∙ ap (λ (x : List ℕ). eight b at ++ take n x) (drop-drop 8 at b))
    ∙ packed_append 8 (eight b at) (take n (drop (at + 8) b))
    ∙ ap (λ (x : ℕ). set_of (take n (drop (at + 8) b)) * 2 ^ (x * 8) + set_of (eight b at)) (length_eight b at h)

-- four words of eight bytes are 32 bytes
pub words_bytes : (b : List ℕ) → 32 ≤ length b
    → value (set_of (eight b 0) ∷ set_of (eight b 8) ∷ set_of (eight b 16) ∷ set_of (eight b 24) ∷ []) ≡ set_of (take 32 b)
unfolding packed
words_bytes b h =
    sym
    (chunk 24 b 0 (omega arith)
    ∙ ap (λ (x : ℕ). x * 2 ^ 64 + set_of (eight b 0))
    (chunk 16 b 8 (omega arith)
    ∙ ap (λ (x : ℕ). x * 2 ^ 64 + set_of (eight b 8)) (chunk 8 b 16 (omega arith) ∙ ap (λ (x : ℕ). x * 2 ^ 64 + set_of (eight b 16)) (sym (zero-add (set_of (eight b 24)))))))

-- the first four chunks of eight bytes, and the words that they are
four_chunks : (b : List ℕ) (n : ℕ) (d : List ℕ) → 4 ≤ n → (get_or (first_chunks 8 n b) 0 d ≡ eight b 0) × (get_or (first_chunks 8 n b) 1 d ≡ eight b 8)
    × (get_or (first_chunks 8 n b) 2 d ≡ eight b 16) × (get_or (first_chunks 8 n b) 3 d ≡ eight b 24)
four_chunks b zero d l = absurd (omega arith)
four_chunks b (suc zero) d l = absurd (omega arith)
four_chunks b (suc (suc zero)) d l = absurd (omega arith)
four_chunks b (suc (suc (suc zero))) d l = absurd (omega arith)
four_chunks b (suc (suc (suc (suc n)))) d l = (refl, refl, ap (take 8) (drop-drop 8 8 b), ap (take 8) (ap (drop 8) (drop-drop 8 8 b) ∙ drop-drop 8 16 b))

pub words_read : (b : List ℕ) (cs : List (List ℕ)) (d : List ℕ) {w0 w1 w2 w3 : ℕ} → cs ≡ first_chunks 8 (length b / 8) b → 4 ≤ length b / 8 → w0 ≡ from_le_bytes w64 (get_or cs 0 d)
    → w1 ≡ from_le_bytes w64 (get_or cs 1 d) → w2 ≡ from_le_bytes w64 (get_or cs 2 d) → w3 ≡ from_le_bytes w64 (get_or cs 3 d) → value (w0 ∷ w1 ∷ w2 ∷ w3 ∷ []) ≡ set_of (take 32 b)
words_read b cs d {w0} {w1} {w2} {w3} e l p0 p1 p2 p3 = ap value (simp (q0, q1, q2, q3) refl) ∙ words_bytes b (omega arith)
  where
    word : (at k : ℕ) {w : ℕ} → at + 8 ≤ length b → get_or (first_chunks 8 (length b / 8) b) k d ≡ eight b at → w ≡ from_le_bytes w64 (get_or cs k d) → w ≡ set_of (eight b at)
    word at k h q p = p ∙ ap (λ (x : List (List ℕ)). from_le_bytes w64 (get_or x k d)) e ∙ ap (from_le_bytes w64) q ∙ bytes_word (eight b at) (length_eight b at h)

    q0 : w0 ≡ set_of (eight b 0)
    q0 = word 0 0 (omega arith) (four_chunks b (length b / 8) d l).0 p0

    q1 : w1 ≡ set_of (eight b 8)
    q1 = word 8 1 (omega arith) (four_chunks b (length b / 8) d l).1 p1

    q2 : w2 ≡ set_of (eight b 16)
    q2 = word 16 2 (omega arith) (four_chunks b (length b / 8) d l).2 p2

    q3 : w3 ≡ set_of (eight b 24)
    q3 = word 24 3 (omega arith) (four_chunks b (length b / 8) d l).3 p3
