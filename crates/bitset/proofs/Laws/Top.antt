-- The leading entry and the number of members of the set that words hold, for any number of words.
-- Shown: a word's leading entry by its leading zeros; a list's by its last word that isn't 0; the count, word by word. Assumes nothing.
use mathlib.Core.Path.{◌≡◌, refl, sym, ap, ap₂, ◌∙◌}
use mathlib.Core.Logic.{by_cases}
use mathlib.Core.List.{List, [], ◌∷◌}
use Prim.Native.Nat.{ℕ, zero, suc, ◌+◌, ◌*◌, ◌^◌, ◌<◌, suc-le-suc}
use native.Mathlib.Nat.{zero-add, zero-mul, add-zero, suc-mul, zero-lt-suc, le_trans, le_of_eq}
use native.Mathlib.Decide.{dec_lt}
use native.Mathlib.Omega.{arith}
use lib.Count.{count_leading_zeros, leading_top, ones, ones_cat}
use lib.ListN.{length, get_or, get_or-eq_default}
use Rattle.bitset.specs.Set.{leading, highest}
use Rattle.bitset.specs.Words.{packed, value}
use Rattle.bitset.proofs.Laws.Leading.{leading_between}
use Rattle.bitset.proofs.Laws.Words.{Below, leading_above, four}

-- a word that isn't 0: its leading entry and its leading zeros make 63
pub leading_word : (w : ℕ) → 0 < w → w < 2 ^ 64 → count_leading_zeros 64 w + leading w ≡ 63
leading_word w p h = let r = leading_top 64 w p h in join (leading_between w r.0 r.2 r.3) r.1
  where
    join : {j : ℕ} → leading w ≡ j → count_leading_zeros 64 w + suc j ≡ 64 → count_leading_zeros 64 w + leading w ≡ 63
    join e q = omega arith

-- where the words above hold something, the leading entry is theirs
pub leading_more : (w : ℕ) (ws : List ℕ) → w < 2 ^ 64 → 0 < value ws → leading (value (w ∷ ws)) ≡ leading (value ws) + 64
unfolding packed
leading_more w ws h p = leading_above 64 (value ws) w p h

-- where they hold nothing, it is the word's
pub leading_last : (w : ℕ) (ws : List ℕ) → value ws ≡ 0 → leading (value (w ∷ ws)) ≡ leading w
unfolding packed
leading_last w ws e = ap leading (none (value ws) e)
  where
    none : (v : ℕ) → v ≡ 0 → v * 2 ^ 64 + w ≡ w
    none v p = omega arith

-- a word that isn't 0 makes the set not empty
value_some : (ws : List ℕ) (q : ℕ) → (get_or ws q 0 ≡ 0 → ⊥) → 0 < value ws
unfolding packed
value_some [] q n = absurd (n refl)
value_some (w ∷ ws) zero n = some (value ws)
  where
    some : (v : ℕ) → 0 < v * 2 ^ 64 + w
    some v = omega arith
value_some (w ∷ ws) (suc q) n = more (value ws) (value_some ws q n)
  where
    more : (v : ℕ) → 0 < v → 0 < v * 2 ^ 64 + w
    more v h = omega arith

value_none : (ws : List ℕ) → ((i : ℕ) → get_or ws i 0 ≡ 0) → value ws ≡ 0
unfolding packed
value_none [] z = refl
value_none (w ∷ ws) z = ap₂ (λ (v x : ℕ). v * 2 ^ 64 + x) (value_none ws (λ i. z (suc i))) (z zero)

-- where all words but the first are 0, the leading entry is the first word's
pub leading_first : (ws : List ℕ) → ((i : ℕ) → 0 < i → get_or ws i 0 ≡ 0) → leading (get_or ws 0 0) ≡ leading (value ws)
unfolding packed
leading_first [] z = refl
leading_first (w ∷ ws) z = sym (leading_last w ws (value_none ws (λ i. z (suc i) (zero-lt-suc i))))

-- where word q is the last that isn't 0, the leading entry is that word's, q words up
pub leading_at : (ws : List ℕ) → Below 64 ws → (q : ℕ) → (get_or ws q 0 ≡ 0 → ⊥) → ((i : ℕ) → q < i → get_or ws i 0 ≡ 0)
    → leading (get_or ws q 0) + q * 64 ≡ leading (value ws)
leading_at [] h q n z = absurd (n refl)
leading_at (w ∷ ws) h zero n z = ap (λ (x : ℕ). leading w + x) (zero-mul 64) ∙ add-zero (leading w) ∙ leading_first (w ∷ ws) z
leading_at (w ∷ ws) h (suc q) n z =
    next (leading_at ws (λ i. h (suc i)) q n (λ i l. z (suc i) (suc-le-suc l))) (leading_more w ws (h zero) (value_some ws q n))
  where
    next : leading (get_or ws q 0) + q * 64 ≡ leading (value ws) → leading (value (w ∷ ws)) ≡ leading (value ws) + 64
        → leading (get_or ws q 0) + suc q * 64 ≡ leading (value (w ∷ ws))
    next a b = omega (arith, suc-mul q 64)

-- past the last word all read as 0; and a test of one word more
pub zero_past : (ws : List ℕ) (n : ℕ) → length ws ≡ suc n → (i : ℕ) → n < i → get_or ws i 0 ≡ 0
zero_past ws n p i l = get_or-eq_default ws 0 (le_trans (le_of_eq p) l)

pub zero_down : (ws : List ℕ) (q : ℕ) → ((i : ℕ) → suc q < i → get_or ws i 0 ≡ 0) → get_or ws (suc q) 0 ≡ 0 → (i : ℕ) → q < i → get_or ws i 0 ≡ 0
zero_down ws q z e i l = by_cases (dec_lt (suc q) i) (z i) (λ n. ap (λ (x : ℕ). get_or ws x 0) (only n) ∙ e)
  where
    only : ¬ (suc q < i) → i ≡ suc q
    only n = omega arith

pub value_one : (w : ℕ) → value (w ∷ []) ≡ w
unfolding packed
value_one w = ap (λ (x : ℕ). x + w) (zero-mul (2 ^ 64)) ∙ zero-add w

-- the members are counted word by word
pub ones_more : (w : ℕ) (ws : List ℕ) → w < 2 ^ 64 → ones (value (w ∷ ws)) ≡ ones (value ws) + ones w
unfolding packed
ones_more w ws h = ones_cat 64 (value ws) w h

-- four words
pub ones_four : (l : List ℕ) → length l ≡ 4 → Below 64 l → ones (value l) ≡ ones (get_or l 0 0) + ones (get_or l 1 0) + ones (get_or l 2 0) + ones (get_or l 3 0)
ones_four l p h = ap (λ (x : List ℕ). ones (value x)) (four l p) ∙ go (get_or l 0 0) (get_or l 1 0) (get_or l 2 0) (get_or l 3 0) (h 0) (h 1) (h 2)
  where
    go : (a b c d : ℕ) → a < 2 ^ 64 → b < 2 ^ 64 → c < 2 ^ 64 → ones (value (a ∷ b ∷ c ∷ d ∷ [])) ≡ ones a + ones b + ones c + ones d
    go a b c d ha hb hc =
        omega (arith, ones_more a (b ∷ c ∷ d ∷ []) ha, ones_more b (c ∷ d ∷ []) hb, ones_more c (d ∷ []) hc, ap ones (value_one d))

pub leading_empty : leading 0 ≡ 0
unfolding leading highest
leading_empty = refl
