-- Loops over the members of a set by its iterator: one law for all of them, over a relation that says what is done for the members of a set.
-- Nothing is done for the empty set, and what is done for two sets that have no member in common, one after the other, is done for both.
-- Shown: `word_lowest`, `word_rest` and `word_less`, the lowest member of a word from an entry on and what is left without it; `walk_start`, `walk_again` and
-- `walk_end` of a loop. Assumes nothing.
use mathlib.Core.Path.{◌≡◌, sym, ap, ap₂, ◌∙◌, subst}
use mathlib.Core.Bool.{Bool, true, false, true≢false, xor, cond}
use mathlib.Core.Logic.{by_cases}
use Prim.Native.Nat.{ℕ, ◌+◌, ◌-◌, ◌*◌, ◌^◌, ◌<◌}
use native.Mathlib.Nat.{mul-lt-mul_of_pos_right}
use native.Mathlib.Decide.{dec_lt, ℕ_discrete}
use native.Mathlib.Omega.{arith}
use lib.Bits.{bit_xor, xor_self, xor_zero_r}
use lib.Count.{count_trailing_zeros}
use lib.Dec.{eqb}
use lib.Pow.{pow_pos}
use borrow.Author.Tests.{ne_eqb}
use Rattle.bitset.specs.Set.{member, single}
use Rattle.bitset.specs.Inner.{IsLowest}
use Rattle.bitset.proofs.Laws.Member.{member_sum, member_single, xor_false, sum_assoc}
use Rattle.bitset.proofs.Laws.Sums.{Inside}
use Rattle.bitset.proofs.Laws.Lowest.{lowest_own, lowest_none, rest_less}
use Rattle.bitset.proofs.Laws.Bits.{moved_sum, moved_single, moved_none, moved_own}

-- a word that isn't 0, whose bit k stands for entry base + k
module _ (w base : ℕ) (some : ¬ (w ≡ 0)) (h : w < 2 ^ 64) where
  pub word_lowest : (t : ℕ) → t ≡ count_trailing_zeros 64 w → IsLowest (w * 2 ^ base) (base + t)
  word_lowest t low = record { own = moved_own w base t ∙ ap (member w) low ∙ lowest_own w (omega arith) h; none = none }
    where
      none : (k : ℕ) → k < base + t → member (w * 2 ^ base) k ≡ false
      none k l = by_cases (dec_lt k base) (moved_none w base k) past
        where
          past : ¬ (k < base) → member (w * 2 ^ base) k ≡ false
          past f = let e : k ≡ base + (k - base) = omega arith in
              ap (member (w * 2 ^ base)) e ∙ moved_own w base (k - base) ∙ lowest_none w (omega arith) h (k - base) (omega arith)

  -- and r without its lowest member
  module _ (r : ℕ) (rest : r ≡ cond (eqb w 0) 0 (bit_xor w (2 ^ count_trailing_zeros 64 w))) where
    without : r ≡ bit_xor w (2 ^ count_trailing_zeros 64 w)
    without = rest ∙ ap (λ (b : Bool). cond b 0 (bit_xor w (2 ^ count_trailing_zeros 64 w))) (ne_eqb w 0 some)

    pub word_rest : (t : ℕ) → t ≡ count_trailing_zeros 64 w → r * 2 ^ base ≡ bit_xor (w * 2 ^ base) (single (base + t))
    word_rest t low =
        ap (λ (x : ℕ). x * 2 ^ base) (without ∙ ap (λ (x : ℕ). bit_xor w (2 ^ x)) (sym low)) ∙ sym (moved_sum w (2 ^ t) base) ∙ ap (bit_xor (w * 2 ^ base)) (sym (moved_single t base))

    pub word_less : r * 2 ^ base < w * 2 ^ base
    word_less = mul-lt-mul_of_pos_right (omega (arith, without, rest_less w (omega arith) h)) (pow_pos base)

-- what is done for the members of a set: for none, and for two sets without a member in common
pub record Additive {A : Type 0} (R : ℕ → A → A → Type 0) : Type 0 where
  pub none : (a : A) → R 0 a a
  pub both : (S T : ℕ) (a b c : A) → ((k : ℕ) → member S k ≡ true → member T k ≡ false) → R S a b → R T b c → R (bit_xor S T) a c

-- a loop over the members of s is done, from a to b, for all members but those of left
pub record Walked {A : Type 0} (R : ℕ → A → A → Type 0) (s left : ℕ) (a b : A) : Type 0 where
  pub inside : Inside left s
  pub done : R (bit_xor s left) a b

module _ {A : Type 0} {R : ℕ → A → A → Type 0} (laws : Additive R) where
  pub walk_start : (s : ℕ) (a : A) → Walked R s s a a
  walk_start s a = record { inside = λ k m. m; done = subst (λ (x : ℕ). R x a a) (sym (xor_self s)) (laws.none a) }

  -- the lowest member left is done
  pub walk_again : {s left left' e : ℕ} {a b c : A} → IsLowest left e × (left' ≡ bit_xor left (single e)) → Walked R s left a b → R (single e) b c → Walked R s left' a c
  unfolding xor
  walk_again {s} {left} {left'} {e} {a} {b} {c} step w one =
      record { inside = inside; done = subst (λ (x : ℕ). R x a c) sums (laws.both (bit_xor s left) (2 ^ e) a b c apart w.done one) }
    where
      sums : bit_xor (bit_xor s left) (2 ^ e) ≡ bit_xor s left'
      sums = sum_assoc s left (2 ^ e) ∙ ap (bit_xor s) (sym step.1)

      gone : member (bit_xor s left) e ≡ false
      gone = member_sum s left e ∙ ap₂ xor (w.inside e step.0.own) step.0.own

      apart : (k : ℕ) → member (bit_xor s left) k ≡ true → member (2 ^ e) k ≡ false
      apart k q = member_single e k ∙ ne_eqb e k (λ p. true≢false (sym q ∙ ap (member (bit_xor s left)) (sym p) ∙ gone))

      inside : Inside left' s
      inside k q = by_cases (ℕ_discrete e k) (λ p. w.inside k (ap (member left) (sym p) ∙ step.0.own)) (λ f. w.inside k (sym (kept f) ∙ q))
        where
          kept : ¬ (e ≡ k) → member left' k ≡ member left k
          kept f = ap (λ (x : ℕ). member x k) step.1 ∙ member_sum left (2 ^ e) k ∙ ap (xor (member left k)) (member_single e k ∙ ne_eqb e k f) ∙ xor_false (member left k)

  pub walk_end : {s left : ℕ} {a b : A} → left ≡ 0 → Walked R s left a b → R s a b
  walk_end {s} {left} {a} {b} z w = subst (λ (x : ℕ). R x a b) (ap (bit_xor s) z ∙ xor_zero_r s) w.done
