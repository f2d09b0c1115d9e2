-- The sum of the sets of a set's members.
-- Shown: the sum over the empty set, over a sum of sets and over a single entry; its members and its size; the sums over sets of given entries, and over lists of
-- them, are exactly the span of their sets. Assumes nothing.
use mathlib.Core.Path.{◌≡◌, refl, sym, ap, ap₂, ◌∙◌}
use mathlib.Core.Bool.{Bool, true, false, false≢true, xor, cond}
use mathlib.Core.Logic.{◌⊎◌, inl, inr}
use mathlib.Core.List.Memᴰ
use mathlib.Core.List.{List, [], ◌∷◌, map, Memᴰ}
use Prim.Native.Nat.{ℕ, zero, suc, ◌^◌, ◌<◌}
use native.Mathlib.Nat.{not-suc-le-zero}
use native.Mathlib.Omega.{arith}
use lib.Bits.{bit_xor, xor_zero_r, xor_lt}
use lib.Pow.{pow_pos}
use lib.Dec.{eqb}
use borrow.Author.Tests.{eqb-true, eqb-false, ne_eqb}
use Rattle.bitset.specs.Set.{member}
use Rattle.bitset.proofs.Laws.Member.{member_empty, member_sum, member_single, sum_assoc}
use Rattle.bitset.proofs.Laws.Sums.{sum_cancel, sum_left_comm, member_part}
use Rattle.deduction.specs.Standard.{xor_all}
use Rattle.deduction.proofs.Elimination.Spans.{xor_over, Span, none, more}

module _ (s : ℕ → ℕ) where
  pub xor_over_empty : (n : ℕ) → xor_over s n 0 ≡ 0
  unfolding xor_over
  xor_over_empty zero = refl
  xor_over_empty (suc n) = ap (λ (b : Bool). cond b (bit_xor (s n) (xor_over s n 0)) (xor_over s n 0)) (member_empty n) ∙ xor_over_empty n

  pub xor_over_sum : (n u w : ℕ) → xor_over s n (bit_xor u w) ≡ bit_xor (xor_over s n u) (xor_over s n w)
  unfolding xor_over xor
  xor_over_sum zero u w = refl
  xor_over_sum (suc n) u w =
      ap (λ (b : Bool). cond b (bit_xor (s n) (xor_over s n (bit_xor u w))) (xor_over s n (bit_xor u w))) (member_sum u w n)
      ∙ ap (λ (x : ℕ). cond (xor (member u n) (member w n)) (bit_xor (s n) x) x) (xor_over_sum n u w)
      ∙ go (member u n) (member w n) (s n) (xor_over s n u) (xor_over s n w)
    where
      go : (b c : Bool) (a x y : ℕ) → cond (xor b c) (bit_xor a (bit_xor x y)) (bit_xor x y) ≡ bit_xor (cond b (bit_xor a x) x) (cond c (bit_xor a y) y)
      go true true a x y = sym (sum_cancel a (bit_xor x y)) ∙ ap (bit_xor a) (sum_left_comm a x y) ∙ sym (sum_assoc a x (bit_xor a y))
      go true false a x y = sym (sum_assoc a x y)
      go false true a x y = sum_left_comm a x y
      go false false a x y = refl

  -- a set without members below n sums to nothing there
  xor_over_none : (n u : ℕ) → ((e : ℕ) → e < n → member u e ≡ false) → xor_over s n u ≡ 0
  unfolding xor_over
  xor_over_none zero u h = refl
  xor_over_none (suc n) u h =
      ap (λ (b : Bool). cond b (bit_xor (s n) (xor_over s n u)) (xor_over s n u)) (h n (omega arith)) ∙ xor_over_none n u (λ e l. h e (omega arith))

  pub xor_over_single : (n e : ℕ) → e < n → xor_over s n (2 ^ e) ≡ s e
  unfolding xor_over
  xor_over_single zero e l = absurd (not-suc-le-zero l)
  xor_over_single (suc n) e l = go (eqb e n) refl (member_single e n) (λ q. xor_over_single n e q)
    where
      go : (b : Bool) → eqb e n ≡ b → member (2 ^ e) n ≡ eqb e n → (e < n → xor_over s n (2 ^ e) ≡ s e)
          → cond (member (2 ^ e) n) (bit_xor (s n) (xor_over s n (2 ^ e))) (xor_over s n (2 ^ e)) ≡ s e
      go true p m ih =
          let q : e ≡ n = eqb-true e n p in
          ap (λ (b : Bool). cond b (bit_xor (s n) (xor_over s n (2 ^ e))) (xor_over s n (2 ^ e))) (m ∙ p)
          ∙ ap (bit_xor (s n)) (xor_over_none n (2 ^ e) (λ k h. member_single e k ∙ ne_eqb e k (λ r. omega arith))) ∙ xor_zero_r (s n) ∙ ap s (sym q)
      go false p m ih =
          let q : ¬ (e ≡ n) = eqb-false e n p in
          ap (λ (b : Bool). cond b (bit_xor (s n) (xor_over s n (2 ^ e))) (xor_over s n (2 ^ e))) (m ∙ p) ∙ ih (omega arith)

  -- a member of a sum over u is a member of the set of a member of u
  pub xor_over_member : (n u k : ℕ) → member (xor_over s n u) k ≡ true → (j : ℕ) × (j < n) × (member u j ≡ true) × (member (s j) k ≡ true)
  unfolding xor_over
  xor_over_member zero u k m = absurd (false≢true (sym (member_empty k) ∙ m))
  xor_over_member (suc n) u k m = go (member u n) refl (λ h. xor_over_member n u k h) m
    where
      lower : (j : ℕ) × (j < n) × (member u j ≡ true) × (member (s j) k ≡ true) → (j : ℕ) × (j < suc n) × (member u j ≡ true) × (member (s j) k ≡ true)
      lower r = (r.0, omega arith, r.2, r.3)

      go : (b : Bool) → member u n ≡ b → (member (xor_over s n u) k ≡ true → (j : ℕ) × (j < n) × (member u j ≡ true) × (member (s j) k ≡ true))
          → member (cond b (bit_xor (s n) (xor_over s n u)) (xor_over s n u)) k ≡ true → (j : ℕ) × (j < suc n) × (member u j ≡ true) × (member (s j) k ≡ true)
      go true p ih h = elim (member_part (s n) (xor_over s n u) k h) [ inl i ↦ (n, omega arith, p, i) | inr i ↦ lower (ih i) ]
      go false p ih h = lower (ih h)

  -- where the sets of the members are below 2^w, so is their sum
  pub xor_over_lt : (w n u : ℕ) → ((e : ℕ) → member u e ≡ true → s e < 2 ^ w) → xor_over s n u < 2 ^ w
  unfolding xor_over
  xor_over_lt w zero u h = pow_pos w
  xor_over_lt w (suc n) u h = go (member u n) refl (xor_over_lt w n u h)
    where
      go : (b : Bool) → member u n ≡ b → xor_over s n u < 2 ^ w → cond b (bit_xor (s n) (xor_over s n u)) (xor_over s n u) < 2 ^ w
      go true p ih = xor_lt w (s n) (xor_over s n u) (h n p) ih
      go false p ih = ih

  -- a sum over a set of listed entries is in the span of their sets
  pub xor_over_span : (es : List ℕ) (n u : ℕ) → ((e : ℕ) → member u e ≡ true → Memᴰ e es) → Span (map s es) (xor_over s n u)
  unfolding xor_over
  xor_over_span es zero u h = none
  xor_over_span es (suc n) u h = go (member u n) refl (xor_over_span es n u h)
    where
      go : (b : Bool) → member u n ≡ b → Span (map s es) (xor_over s n u) → Span (map s es) (cond b (bit_xor (s n) (xor_over s n u)) (xor_over s n u))
      go true p r = more (Memᴰ.map s (h n p)) r
      go false p r = r

  -- what is in the span of the sets of entries below n is the sum over a set of these entries
  pub span_xor_over : (es : List ℕ) (n : ℕ) {v : ℕ} → ((e : ℕ) → Memᴰ e es → e < n) → Span (map s es) v
      → (u : ℕ) × ((e : ℕ) → member u e ≡ true → Memᴰ e es) × (xor_over s n u ≡ v)
  span_xor_over es n below none = (0, λ e m. absurd (false≢true (sym (member_empty e) ∙ m)), xor_over_empty n)
  span_xor_over es n below (more {v} {w} m r) = go (span_xor_over es n below r) (Memᴰ.of_map s es m)
    where
      go : (u : ℕ) × ((e : ℕ) → member u e ≡ true → Memᴰ e es) × (xor_over s n u ≡ w) → (a : ℕ) × Memᴰ a es × (s a ≡ v)
          → (u : ℕ) × ((e : ℕ) → member u e ≡ true → Memᴰ e es) × (xor_over s n u ≡ bit_xor v w)
      go (u, h, p) (a, i, q) = (bit_xor (2 ^ a) u, inside, xor_over_sum n (2 ^ a) u ∙ ap₂ bit_xor (xor_over_single n a (below a i) ∙ q) p)
        where
          inside : (e : ℕ) → member (bit_xor (2 ^ a) u) e ≡ true → Memᴰ e es
          inside e k = either (member_part (2 ^ a) u e k)
            where
              either : (member (2 ^ a) e ≡ true) ⊎ (member u e ≡ true) → Memᴰ e es
              either (inl x) = Memᴰ.cast (sym (eqb-true a e (sym (member_single a e) ∙ x))) i
              either (inr x) = h e x

  -- the span of the sets of listed entries is the sums of lists of these entries
  pub xor_all_span : (gs js : List ℕ) → ((j : ℕ) → Memᴰ j js → Memᴰ j gs) → Span (map s gs) (xor_all s js)
  unfolding xor_all
  xor_all_span gs [] h = none
  xor_all_span gs (j ∷ js) h = more (Memᴰ.map s (h j (Memᴰ.head refl))) (xor_all_span gs js (λ i m. h i (Memᴰ.tail m)))

  pub span_xor_all : (gs : List ℕ) {v : ℕ} → Span (map s gs) v → (js : List ℕ) × ((j : ℕ) → Memᴰ j js → Memᴰ j gs) × (xor_all s js ≡ v)
  unfolding xor_all
  span_xor_all gs none = ([], λ j m. absurd (Memᴰ.not-nil m), refl)
  span_xor_all gs (more {v} {w} m r) = go (span_xor_all gs r) (Memᴰ.of_map s gs m)
    where
      go : (js : List ℕ) × ((j : ℕ) → Memᴰ j js → Memᴰ j gs) × (xor_all s js ≡ w) → (a : ℕ) × Memᴰ a gs × (s a ≡ v)
          → (js : List ℕ) × ((j : ℕ) → Memᴰ j js → Memᴰ j gs) × (xor_all s js ≡ bit_xor v w)
      go (js, h, p) (a, i, q) = (a ∷ js, λ j k. elim (Memᴰ.cases_cons k) [ inl x ↦ Memᴰ.cast x i | inr x ↦ h j x ], ap₂ bit_xor q p)

-- the sum over a sum of sets, and sums over equal sets
pub xor_over_xor_over : (c s : ℕ → ℕ) (n m u : ℕ) → xor_over c n (xor_over s m u) ≡ xor_over (λ j. xor_over c n (s j)) m u
unfolding xor_over
xor_over_xor_over c s n zero u = xor_over_empty c n
xor_over_xor_over c s n (suc m) u = go (member u m) (xor_over_xor_over c s n m u)
  where
    go : (b : Bool) → xor_over c n (xor_over s m u) ≡ xor_over (λ j. xor_over c n (s j)) m u
        → xor_over c n (cond b (bit_xor (s m) (xor_over s m u)) (xor_over s m u)) ≡ cond b (bit_xor (xor_over c n (s m)) (xor_over (λ j. xor_over c n (s j)) m u)) (xor_over (λ j. xor_over c n (s j)) m u)
    go true h = xor_over_sum c n (s m) (xor_over s m u) ∙ ap (bit_xor (xor_over c n (s m))) h
    go false h = h

pub xor_over_same : (c d : ℕ → ℕ) (n u : ℕ) → ((j : ℕ) → j < n → c j ≡ d j) → xor_over c n u ≡ xor_over d n u
unfolding xor_over
xor_over_same c d zero u h = refl
xor_over_same c d (suc n) u h = ap₂ (λ (x y : ℕ). cond (member u n) (bit_xor x y) y) (h n (omega arith)) (xor_over_same c d n u (λ j l. h j (omega arith)))
