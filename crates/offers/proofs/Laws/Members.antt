-- The lists of a set's members in a row, taken from the lowest member on and word by word.
-- Shown: `lists_next`, the lowest member's list and then the rest's; `lists_empty`, none; `lists_moved`, the lists of a word moved up; `lists_word`, the lists of a
-- set go on with those of its next word. Assumes nothing.
use mathlib.Core.Path.{◌≡◌, refl, sym, ap, ap₂, ◌∙◌}
use mathlib.Core.Bool.{Bool, true, false, xor, cond}
use mathlib.Core.Logic.{◌⊎◌, inl, inr}
use mathlib.Core.List.{List, [], ◌++◌, append-nil, append_assoc}
use Prim.Native.Nat.{ℕ, zero, suc, ◌+◌, ◌-◌, ◌*◌, ◌/◌, ◌%◌, ◌^◌, ◌≤◌, ◌<◌}
use native.Mathlib.Omega.{arith}
use lib.Bits.{bit_xor}
use lib.Dec.{eqb}
use lib.ListN.{get_or}
use borrow.Author.Tests.{eq-eqb, ne_eqb}
use Rattle.bitset.specs.Set.{member, single}
use Rattle.bitset.specs.Words.{value}
use Rattle.bitset.specs.Inner.{IsLowest}
use Rattle.bitset.proofs.Laws.Member.{member_empty, member_sum, member_single, member_above, xor_false}
use Rattle.bitset.proofs.Laws.Words.{Below}
use Rattle.bitset.proofs.Laws.Union.{word_member}
use Rattle.bitset.proofs.Laws.Bits.{moved_none, moved_own}
use Rattle.offers.specs.Inner.Offers.{lists_of}
use Rattle.offers.proofs.Laws.Table.{same_or}

-- a set without members below m has no lists
lists_none : (f : ℕ → List ℕ) (s m : ℕ) → ((k : ℕ) → k < m → member s k ≡ false) → lists_of f s m ≡ []
unfolding lists_of
lists_none f s zero h = refl
lists_none f s (suc m) h = ap₂ ◌++◌ (lists_none f s m (λ k l. h k (omega arith))) (ap (λ (b : Bool). cond b (f m) []) (h m (omega arith)))

-- t is the lowest member of s, and r is s without it
module _ (f : ℕ → List ℕ) (s r t : ℕ) (own : member s t ≡ true) (none : (k : ℕ) → k < t → member s k ≡ false)
    (gone : member r t ≡ false) (rest : (k : ℕ) → ¬ (k ≡ t) → member r k ≡ member s k) where
  lists_from : (m : ℕ) → t < m → lists_of f s m ≡ f t ++ lists_of f r m
  unfolding lists_of
  lists_from zero l = absurd (omega arith)
  lists_from (suc m) l = go (same_or t m) (λ q. lists_from m q)
    where
      go : (t ≡ m) ⊎ ¬ (t ≡ m) → (t < m → lists_of f s m ≡ f t ++ lists_of f r m) → lists_of f s m ++ cond (member s m) (f m) [] ≡ f t ++ (lists_of f r m ++ cond (member r m) (f m) [])
      go (inl p) ih =
          ap₂ ◌++◌ (lists_none f s m (λ k q. none k (omega arith))) (ap (λ (b : Bool). cond b (f m) []) (sym (ap (member s) p) ∙ own) ∙ sym (ap f p))
          ∙ sym (append-nil (f t))
          ∙ ap (λ (zs : List ℕ). f t ++ zs) (sym (ap₂ ◌++◌ (lists_none f r m (λ k q. rest k (λ e. omega arith) ∙ none k (omega arith))) (ap (λ (b : Bool). cond b (f m) []) (sym (ap (member r) p) ∙ gone))))
      go (inr d) ih =
          ap₂ ◌++◌ (ih (omega arith)) (ap (λ (b : Bool). cond b (f m) []) (sym (rest m (λ e. d (sym e)))))
          ∙ append_assoc (f t) (lists_of f r m) (cond (member r m) (f m) [])

-- the lowest member t of s, and r is what is left
pub lists_next : (f : ℕ → List ℕ) {s r t : ℕ} (m : ℕ) → IsLowest s t × (r ≡ bit_xor s (single t)) → t < m → lists_of f s m ≡ f t ++ lists_of f r m
unfolding xor
lists_next f {s} {r} {t} m (low, left) =
    lists_from f s r t low.own low.none (members t ∙ ap₂ xor low.own (eq-eqb t t refl)) (λ k d. members k ∙ ap (xor (member s k)) (ne_eqb t k (λ e. d (sym e))) ∙ xor_false (member s k)) m
  where
    members : (k : ℕ) → member r k ≡ xor (member s k) (eqb t k)
    members k = ap (λ (x : ℕ). member x k) left ∙ member_sum s (2 ^ t) k ∙ ap (xor (member s k)) (member_single t k)

-- of no members
pub lists_empty : (f : ℕ → List ℕ) {s : ℕ} (m : ℕ) → s ≡ 0 → lists_of f s m ≡ []
lists_empty f {s} m p = lists_none f s m (λ k l. ap (λ (x : ℕ). member x k) p ∙ member_empty k)

-- the members from a on
lists_split : (f : ℕ → List ℕ) (s w a m : ℕ) → ((k : ℕ) → k < m → member s (a + k) ≡ member w k) → lists_of f s (a + m) ≡ lists_of f s a ++ lists_of (λ k. f (a + k)) w m
unfolding lists_of
lists_split f s w a zero h = let p : a + 0 ≡ a = omega arith in ap (lists_of f s) p ∙ sym (append-nil (lists_of f s a))
lists_split f s w a (suc m) h =
    let p : a + suc m ≡ suc (a + m) = omega arith in
    ap (lists_of f s) p
    ∙ ap₂ (λ (xs : List ℕ) (b : Bool). xs ++ cond b (f (a + m)) []) (lists_split f s w a m (λ k l. h k (omega arith))) (h m (omega arith))
    ∙ append_assoc (lists_of f s a) (lists_of (λ k. f (a + k)) w m) (cond (member w m) (f (a + m)) [])

-- a word moved up
pub lists_moved : (f : ℕ → List ℕ) (w base : ℕ) → w < 2 ^ 64 → base ≤ 192 → lists_of f (w * 2 ^ base) 256 ≡ lists_of (λ b. f (base + b)) w 64
lists_moved f w base h l =
    ap (lists_of f (w * 2 ^ base)) all
    ∙ lists_split f (w * 2 ^ base) 0 (base + 64) (192 - base) (λ k q. above k ∙ sym (member_empty k))
    ∙ ap₂ ◌++◌ (lists_split f (w * 2 ^ base) w base 64 (λ k q. moved_own w base k)) (lists_empty (λ k. f (base + 64 + k)) {s = 0} (192 - base) refl)
    ∙ append-nil (lists_of f (w * 2 ^ base) base ++ lists_of (λ b. f (base + b)) w 64)
    ∙ ap (λ (xs : List ℕ). xs ++ lists_of (λ b. f (base + b)) w 64) (lists_none f (w * 2 ^ base) base (moved_none w base))
  where
    all : 256 ≡ base + 64 + (192 - base)
    all = omega arith

    above : (k : ℕ) → member (w * 2 ^ base) (base + 64 + k) ≡ false
    above k =
        let p : base + 64 + k ≡ base + (64 + k) = omega arith in
        ap (member (w * 2 ^ base)) p ∙ moved_own w base (64 + k) ∙ member_above w 64 (64 + k) h (omega arith)

-- of words
module _ (f : ℕ → List ℕ) (ws : List ℕ) (h : Below 64 ws) where
  at : (q : ℕ) → (k : ℕ) → k < 64 → member (value ws) (q * 64 + k) ≡ member (get_or ws q 0) k
  at q k l = word_member ws h (q * 64 + k) ∙ ap₂ (λ (x y : ℕ). member (get_or ws x 0) y) word place
    where
      word : (q * 64 + k) / 64 ≡ q
      word = omega arith

      place : (q * 64 + k) % 64 ≡ k
      place = omega arith

  -- one word more
  pub lists_word : (q : ℕ) → lists_of f (value ws) (q * 64) ++ lists_of (λ k. f (q * 64 + k)) (get_or ws q 0) 64 ≡ lists_of f (value ws) ((q + 1) * 64)
  lists_word q = sym (lists_split f (value ws) (get_or ws q 0) (q * 64) 64 (at q)) ∙ ap (lists_of f (value ws)) next
    where
      next : q * 64 + 64 ≡ (q + 1) * 64
      next = omega arith
