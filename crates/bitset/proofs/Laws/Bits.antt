-- Sets moved up, and loops over the members of the four words of a set in turn.
-- A relation R says what is done between two states for the members of a set. Nothing is done for the empty set, and what is done for two sets that have
-- no member in common, one after the other, is done for both. Then what is done for four words in turn is done for the set that they hold.
-- Shown: sums and members of a set moved up; `bits_four`. Assumes nothing.
use mathlib.Core.Path.{◌≡◌, sym, ap, ap₂, ◌∙◌, subst}
use mathlib.Core.Bool.{true, false, true≢false}
use mathlib.Core.Logic.{by_cases}
use mathlib.Core.List.{List, [], ◌∷◌}
use Prim.Native.Nat.{ℕ, zero, suc, ◌+◌, ◌*◌, ◌^◌, ◌<◌}
use native.Mathlib.Nat.{mul_assoc, mul-one, add_comm, add-zero, not-suc-le-zero, le_of_suc-le-suc}
use native.Mathlib.Decide.{dec_lt}
use native.Mathlib.Omega.{arith}
use lib.Bits.{bit_xor, xor_block, xor_shifted, xor_comm, shifted_half, shifted_even}
use lib.Dec.{eqb}
use lib.ListN.{length, get_or}
use lib.Pow.{pow-add, pow_pos, shl_lt, shl-shr}
use Rattle.bitset.specs.Set.{member}
use Rattle.bitset.specs.Words.{packed, value}
use Rattle.bitset.proofs.Laws.Member.{member_zero, member_suc, member_above}
use Rattle.bitset.proofs.Laws.Place.{shift_bits}
use Rattle.bitset.proofs.Laws.Words.{Below, four}
use Rattle.bitset.proofs.Laws.Top.{value_one}

-- the sum of two sets that are both moved up, and one member moved up
pub moved_sum : (a b base : ℕ) → bit_xor (a * 2 ^ base) (b * 2 ^ base) ≡ bit_xor a b * 2 ^ base
moved_sum a b base =
    ap₂ bit_xor (sym (add-zero (a * 2 ^ base))) (sym (add-zero (b * 2 ^ base))) ∙ xor_block base a b 0 0 (pow_pos base) (pow_pos base) ∙ add-zero (bit_xor a b * 2 ^ base)

pub moved_single : (t base : ℕ) → 2 ^ (base + t) ≡ 2 ^ t * 2 ^ base
moved_single t base = ap (λ (x : ℕ). 2 ^ x) (add_comm base t) ∙ pow-add 2 t base

-- words one above the other
moved_words : (w base : ℕ) (ws : List ℕ) → w < 2 ^ 64 → value (w ∷ ws) * 2 ^ base ≡ bit_xor (w * 2 ^ base) (value ws * 2 ^ (base + 64))
unfolding packed
moved_words w base ws l =
    ap (λ (x : ℕ). x * 2 ^ base) (sym (xor_shifted (value ws) 64 w l)) ∙ sym (moved_sum (value ws * 2 ^ 64) w base)
    ∙ ap (λ (x : ℕ). bit_xor x (w * 2 ^ base)) (mul_assoc (value ws) (2 ^ 64) (2 ^ base) ∙ ap (λ (x : ℕ). value ws * x) (sym (pow-add 2 64 base)) ∙ ap (λ (x : ℕ). value ws * 2 ^ x) (add_comm 64 base))
    ∙ xor_comm (value ws * 2 ^ (base + 64)) (w * 2 ^ base)

-- a set moved up has no member below, and its own from there on
pub moved_none : (w base k : ℕ) → k < base → member (w * 2 ^ base) k ≡ false
moved_none w zero k l = absurd (not-suc-le-zero l)
moved_none w (suc base) zero l = member_zero (w * 2 ^ suc base) ∙ ap (λ (x : ℕ). eqb x 1) (shifted_even w base)
moved_none w (suc base) (suc k) l = member_suc (w * 2 ^ suc base) k ∙ ap (λ (x : ℕ). member x k) (shifted_half w base) ∙ moved_none w base k (le_of_suc-le-suc l)

pub moved_own : (w base j : ℕ) → member (w * 2 ^ base) (base + j) ≡ member w j
moved_own w base j = sym (shift_bits base (w * 2 ^ base) j) ∙ ap (λ (x : ℕ). member x j) (shl-shr w base)

-- a word moved up and a set moved up past it have no member in common
moved_apart : (w v base : ℕ) → w < 2 ^ 64 → (k : ℕ) → member (w * 2 ^ base) k ≡ true → member (v * 2 ^ (base + 64)) k ≡ false
moved_apart w v base l k m = by_cases (dec_lt k (base + 64)) (moved_none v (base + 64) k) (λ f. absurd (true≢false (sym m ∙ past f)))
  where
    past : ¬ (k < base + 64) → member (w * 2 ^ base) k ≡ false
    past f = member_above (w * 2 ^ base) (64 + base) k (shl_lt 64 base l) (omega arith)

-- what a loop over a word needs is in Laws/Members.antt
module _ {A : Type 0} (R : ℕ → A → A → Type 0) (none : (a : A) → R 0 a a)
    (both : (S T : ℕ) (a b c : A) → ((k : ℕ) → member S k ≡ true → member T k ≡ false) → R S a b → R T b c → R (bit_xor S T) a c) where
  -- one word, and the words above it
  above : (w base : ℕ) (ws : List ℕ) (a b c : A) → w < 2 ^ 64 → R (w * 2 ^ base) a b → R (value ws * 2 ^ (base + 64)) b c → R (value (w ∷ ws) * 2 ^ base) a c
  above w base ws a b c l r rs =
      subst (λ (x : ℕ). R x a c) (sym (moved_words w base ws l)) (both (w * 2 ^ base) (value ws * 2 ^ (base + 64)) a b c (moved_apart w (value ws) base l) r rs)

  -- the four words of a set in turn
  pub bits_four : (s : List ℕ) → length s ≡ 4 → Below 64 s → (a b c d e : A) → R (get_or s 0 0 * 2 ^ 0) a b → R (get_or s 1 0 * 2 ^ 64) b c
      → R (get_or s 2 0 * 2 ^ 128) c d → R (get_or s 3 0 * 2 ^ 192) d e → R (value s) a e
  bits_four s l h a b c d e r0 r1 r2 r3 =
      subst (λ (x : ℕ). R x a e) (mul-one (value (get_or s 0 0 ∷ get_or s 1 0 ∷ get_or s 2 0 ∷ get_or s 3 0 ∷ [])) ∙ ap value (sym (four s l)))
      (above (get_or s 0 0) 0 (get_or s 1 0 ∷ get_or s 2 0 ∷ get_or s 3 0 ∷ []) a b e (h 0) r0
      (above (get_or s 1 0) 64 (get_or s 2 0 ∷ get_or s 3 0 ∷ []) b c e (h 1) r1
      (above (get_or s 2 0) 128 (get_or s 3 0 ∷ []) c d e (h 2) r2
      (subst (λ (x : ℕ). R (x * 2 ^ 192) d e) (sym (value_one (get_or s 3 0))) r3))))
