-- The rows that learning builds: each is what was left of an entry's set, and not nothing.
-- Defined: `Rows`, such rows and the set of the entries that they were built from.
-- Shown: what is used and what is left sum to the set; only those entries are used; what is left holds no pivot; the sum over a set of
-- those entries is reduced to nothing by using that very set. Assumes nothing.
use mathlib.Core.Path.{◌≡◌, refl, sym, ap, ap₂, ◌∙◌, subst}
use mathlib.Core.Bool.{Bool, true, false, true≢false, false≢true, xor}
use mathlib.Core.Logic.{inl, inr}
use mathlib.Core.List.Memᴰ
use mathlib.Core.List.{List, [], ◌∷◌, ◌++◌, Memᴰ}
use Prim.Native.Nat.{ℕ, ◌^◌, ◌<◌}
use native.Mathlib.Omega.{arith}
use lib.Bits.{bit_xor, xor_self, xor_zero_r}
use borrow.Author.Tests.{eqb-true}
use Rattle.bitset.specs.Set.{member}
use Rattle.bitset.proofs.Laws.Member.{member_empty, member_sum, member_single}
use Rattle.bitset.proofs.Laws.Leading.{leading_member}
use Rattle.bitset.proofs.Laws.Sums.{sum_cancel, sum_cancel_right, sum_swap, sum_move, Inside, member_part, member_new, member_old, inside_old, inside_rest, nothing_inside}
use Rattle.deduction.specs.Elimination.{Row, Reduced, take_off, reduce_from, reduce}
use Rattle.deduction.proofs.Elimination.Spans.{xor_over}
use Rattle.deduction.proofs.Elimination.Sums.{xor_over_empty, xor_over_sum, xor_over_single}
use Rattle.deduction.proofs.Elimination.Reduce.{pivot, off, both, take_off_cases, reduce_more, reduce_both, reduce_empty}

-- the row of entry e over earlier rows: what they leave of its set
abbrev pub row_of : (ℕ → ℕ) → List Row → ℕ → Row
row_of s rows e = record { vector = (reduce rows (s e)).remainder; uses = bit_xor (reduce rows (s e)).used (2 ^ e) }

-- `Rows s n rows free`: the rows were built one after the other from the entries of the set `free`, all below n
pub data Rows (s : ℕ → ℕ) (n : ℕ) : List Row → ℕ → Type 0 where
  no_rows : Rows s n [] 0
  one_more : {rows : List Row} {free : ℕ} (e : ℕ) → Rows s n rows free → e < n → member free e ≡ false → ¬ ((reduce rows (s e)).remainder ≡ 0)
      → Rows s n (rows ++ (row_of s rows e ∷ [])) (bit_xor free (2 ^ e))

-- x holds no pivot of the rows
abbrev pub Clear : List Row → ℕ → Type 0
Clear rows x = (r : Row) → Memᴰ r rows → member x (pivot r) ≡ false

-- taking off one more row that isn't empty and holds no earlier pivot
clear_step : (rows : List Row) (r : Row) (x : Reduced) → ¬ (r.vector ≡ 0) → Clear rows r.vector → Clear rows x.remainder
    → Clear (rows ++ (r ∷ [])) (take_off x r).remainder
unfolding xor
clear_step rows r x some cr cx = take_off_cases (λ (y : Reduced). Clear (rows ++ (r ∷ [])) y.remainder) x r taken left
  where
    own : {q : Row} (y : ℕ) (b : Bool) → Memᴰ q (r ∷ []) → member y (pivot r) ≡ b → member y (pivot q) ≡ b
    own y b i h = ap (λ (z : Row). member y (pivot z)) (Memᴰ.eq_of_singleton i) ∙ h

    taken : member x.remainder (pivot r) ≡ true → Clear (rows ++ (r ∷ [])) (bit_xor x.remainder r.vector)
    taken h q m =
        member_sum x.remainder r.vector (pivot q)
        ∙ elim (Memᴰ.append_cases rows m)
        [ inl i ↦ ap₂ xor (cx q i) (cr q i) | inr i ↦ ap₂ xor (own x.remainder true i h) (own r.vector true i (leading_member r.vector (omega arith))) ]

    left : member x.remainder (pivot r) ≡ false → Clear (rows ++ (r ∷ [])) x.remainder
    left h q m = elim (Memᴰ.append_cases rows m) [ inl i ↦ cx q i | inr i ↦ own x.remainder false i h ]

module _ (s : ℕ → ℕ) (n : ℕ) where
  -- used and left
  abbrev Sum : ℕ → Reduced → Type 0
  Sum v x = bit_xor (xor_over s n x.used) x.remainder ≡ v

  -- one row that is the sum of what it uses
  sum_kept : (v : ℕ) (x : Reduced) (r : Row) → xor_over s n r.uses ≡ r.vector → Sum v x → Sum v (take_off x r)
  sum_kept v x r p h = take_off_cases (Sum v) x r (λ m. taken) (λ m. h)
    where
      taken : Sum v (off x r)
      taken =
          ap (λ (z : ℕ). bit_xor z (bit_xor x.remainder r.vector)) (xor_over_sum s n x.used r.uses ∙ ap (bit_xor (xor_over s n x.used)) p)
          ∙ sum_swap (xor_over s n x.used) r.vector x.remainder r.vector ∙ ap (bit_xor (bit_xor (xor_over s n x.used) x.remainder)) (xor_self r.vector)
          ∙ xor_zero_r (bit_xor (xor_over s n x.used) x.remainder) ∙ h

  -- a row is the sum of what it uses
  row_sum : (rows : List Row) (e : ℕ) → e < n → Sum (s e) (reduce rows (s e)) → xor_over s n (row_of s rows e).uses ≡ (row_of s rows e).vector
  row_sum rows e l h =
      xor_over_sum s n (reduce rows (s e)).used (2 ^ e) ∙ ap (bit_xor (xor_over s n (reduce rows (s e)).used)) (xor_over_single s n e l)
      ∙ sym (sum_move (xor_over s n (reduce rows (s e)).used) (reduce rows (s e)).remainder (s e) h)

  -- "the set of gained terms used and the exact remainder": they sum to the set
  pub rows_sum : {rows : List Row} {free : ℕ} → Rows s n rows free → (v : ℕ) → bit_xor (xor_over s n (reduce rows v).used) (reduce rows v).remainder ≡ v
  unfolding reduce reduce_from
  rows_sum no_rows v = ap (λ (z : ℕ). bit_xor z v) (xor_over_empty s n)
  rows_sum (one_more {rows} {free} e k l f z) v =
      subst (Sum v) (sym (reduce_more rows (row_of s rows e) v)) (sum_kept v (reduce rows v) (row_of s rows e) (row_sum rows e l (rows_sum k (s e))) (rows_sum k v))

  -- a row uses its own entry and what was used for it
  row_inside : (rows : List Row) (free e : ℕ) → member free e ≡ false → Inside (reduce rows (s e)).used free → Inside (row_of s rows e).uses (bit_xor free (2 ^ e))
  row_inside rows free e f h k m =
      elim (member_part (reduce rows (s e)).used (2 ^ e) k m)
      [ inl i ↦ member_old free e f k (h k i) | inr i ↦ subst (λ (j : ℕ). member (bit_xor free (2 ^ e)) j ≡ true) (eqb-true e k (sym (member_single e k) ∙ i)) (member_new free e f) ]

  -- only the entries that the rows were built from are used
  pub rows_inside : {rows : List Row} {free : ℕ} → Rows s n rows free → (v : ℕ) → Inside (reduce rows v).used free
  unfolding reduce reduce_from
  rows_inside no_rows v = λ k m. m
  rows_inside (one_more {rows} {free} e b l f z) v =
      subst (λ (x : Reduced). Inside x.used (bit_xor free (2 ^ e))) (sym (reduce_more rows (row_of s rows e) v))
      (step (row_inside rows free e f (rows_inside b (s e))) (λ k m. member_old free e f k (rows_inside b v k m)))
    where
      step : Inside (row_of s rows e).uses (bit_xor free (2 ^ e)) → Inside (reduce rows v).used (bit_xor free (2 ^ e))
          → Inside (take_off (reduce rows v) (row_of s rows e)).used (bit_xor free (2 ^ e))
      step p q =
          take_off_cases (λ (x : Reduced). Inside x.used (bit_xor free (2 ^ e))) (reduce rows v) (row_of s rows e)
          (λ h k m. elim (member_part (reduce rows v).used (row_of s rows e).uses k m) [ inl i ↦ q k i | inr i ↦ p k i ]) (λ h. q)

  -- each row is not empty, and is the sum of what it uses
  pub rows_each : {rows : List Row} {free : ℕ} → Rows s n rows free → (r : Row) → Memᴰ r rows
      → (¬ (r.vector ≡ 0)) × (xor_over s n r.uses ≡ r.vector) × Inside r.uses free
  rows_each no_rows r m = absurd (Memᴰ.not-nil m)
  rows_each (one_more {rows} {free} e b l f z) r m =
      elim (Memᴰ.append_cases rows m) [ inl i ↦ earlier (rows_each b r i) | inr i ↦ subst (λ (q : Row). Each q) (sym (Memᴰ.eq_of_singleton i)) own ]
    where
      Each : Row → Type 0
      Each q = (¬ (q.vector ≡ 0)) × (xor_over s n q.uses ≡ q.vector) × Inside q.uses (bit_xor free (2 ^ e))

      earlier : (¬ (r.vector ≡ 0)) × (xor_over s n r.uses ≡ r.vector) × Inside r.uses free → Each r
      earlier h = (h.0, h.1, λ k i. member_old free e f k (h.2 k i))

      own : Each (row_of s rows e)
      own = (z, row_sum rows e l (rows_sum b (s e)), row_inside rows free e f (rows_inside b (s e)))

  -- what is left holds no pivot
  pub rows_clear : {rows : List Row} {free : ℕ} → Rows s n rows free → (v : ℕ) → Clear rows (reduce rows v).remainder
  rows_clear no_rows v = λ r m. absurd (Memᴰ.not-nil m)
  rows_clear (one_more {rows} {free} e b l f z) v =
      subst (λ (x : Reduced). Clear (rows ++ (row_of s rows e ∷ [])) x.remainder) (sym (reduce_more rows (row_of s rows e) v))
      (clear_step rows (row_of s rows e) (reduce rows v) z (rows_clear b (s e)) (rows_clear b v))

  -- a row takes its own entry's set to nothing, and uses that entry
  pub row_own : (rows : List Row) (e : ℕ) → ¬ ((reduce rows (s e)).remainder ≡ 0) → reduce (rows ++ (row_of s rows e ∷ [])) (s e) ≡ record { remainder = 0; used = 2 ^ e }
  row_own rows e some =
      reduce_more rows (row_of s rows e) (s e)
      ∙ take_off_cases (λ (x : Reduced). x ≡ record { remainder = 0; used = 2 ^ e }) (reduce rows (s e)) (row_of s rows e)
      (λ m i. record { remainder = xor_self (reduce rows (s e)).remainder i; used = sum_cancel (reduce rows (s e)).used (2 ^ e) i })
      (λ m. absurd (true≢false (sym (leading_member (reduce rows (s e)).remainder (omega arith)) ∙ m)))

  -- what is reduced to nothing stays so, and uses no more
  pub rows_kept : (rows : List Row) (r : Row) (v : ℕ) → (reduce rows v).remainder ≡ 0 → reduce (rows ++ (r ∷ [])) v ≡ reduce rows v
  rows_kept rows r v h =
      reduce_more rows r v
      ∙ take_off_cases (λ (x : Reduced). x ≡ reduce rows v) (reduce rows v) r
      (λ m. absurd (false≢true (sym (ap (λ (x : ℕ). member x (pivot r)) h ∙ member_empty (pivot r)) ∙ m))) (λ m. refl)

  -- the sum over a set of the rows' entries is reduced to nothing, by using that set
  pub rows_own : {rows : List Row} {free : ℕ} → Rows s n rows free → (u : ℕ) → Inside u free → reduce rows (xor_over s n u) ≡ record { remainder = 0; used = u }
  rows_own no_rows u h =
      ap (reduce []) (ap (xor_over s n) (nothing_inside u h) ∙ xor_over_empty s n) ∙ reduce_empty []
      ∙ ap (λ (x : ℕ). record { remainder = 0; used = x }) (sym (nothing_inside u h))
  rows_own (one_more {rows} {free} e b l f z) u h = go (member u e) refl (λ w i. rows_own b w i)
    where
      go : (c : Bool) → member u e ≡ c → ((w : ℕ) → Inside w free → reduce rows (xor_over s n w) ≡ record { remainder = 0; used = w })
          → reduce (rows ++ (row_of s rows e ∷ [])) (xor_over s n u) ≡ record { remainder = 0; used = u }
      go false p old =
          let q = old u (inside_old free e u h p) in
          rows_kept rows (row_of s rows e) (xor_over s n u) (ap (λ (x : Reduced). x.remainder) q) ∙ q
      go true p old =
          ap (reduce (rows ++ (row_of s rows e ∷ []))) (ap (xor_over s n) (sym (sum_cancel_right u (2 ^ e))) ∙ xor_over_sum s n w (2 ^ e) ∙ ap (bit_xor (xor_over s n w)) (xor_over_single s n e l))
          ∙ reduce_both (rows ++ (row_of s rows e ∷ [])) (xor_over s n w) (s e)
          ∙ ap₂ both (rows_kept rows (row_of s rows e) (xor_over s n w) (ap (λ (x : Reduced). x.remainder) q) ∙ q) (row_own rows e z)
          ∙ ap (λ (x : ℕ). record { remainder = 0; used = x }) (sum_cancel_right u (2 ^ e))
        where
          w : ℕ
          w = bit_xor u (2 ^ e)

          q : reduce rows (xor_over s n w) ≡ record { remainder = 0; used = w }
          q = old w (inside_rest free e u h p)
