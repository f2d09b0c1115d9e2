-- The sum test, for any sets of entries and any list of learnt entries.
-- Shown of the state after learning a list: used set and remainder sum to the set; the remainder is nothing exactly when the set is
-- in the span, and is the only one that holds no leading entry of the span; the used set is the only set of independent
-- entries with its sum; there are at most as many rows as known entries. Assumes nothing.
use mathlib.Core.Path.{◌≡◌, refl, sym, ap, ◌∙◌, subst}
use mathlib.Core.Bool.{Bool, true, false, false≢true, cond}
use mathlib.Core.Logic.Dec
use mathlib.Core.Logic.{◌↔◌, inl, inr}
use mathlib.Core.List.{List, [], ◌∷◌, ◌++◌, map, Memᴰ}
use Prim.Native.Nat.{ℕ, ◌^◌, ◌≤◌, ◌<◌}
use native.Mathlib.Decide.{ℕ_discrete}
use native.Mathlib.Omega.{arith}
use lib.Bits.{bit_xor, xor_lt}
use lib.Count.{ones, ones-le}
use lib.ListN.{length}
use Rattle.bitset.specs.Set.{member, insert, leading}
use Rattle.bitset.proofs.Laws.Member.{member_empty}
use Rattle.bitset.proofs.Laws.Sums.{Inside, sum_move, ones_insert, insert_cases, below_members}
use Rattle.deduction.specs.Elimination.{Row, Reduced, reduce, Knowledge, learn, learn_as, learn_all, nothing}
use Rattle.deduction.proofs.Elimination.Spans.{Span, NoLeading, xor_over, Independent}
use Rattle.deduction.proofs.Elimination.Sums.{xor_over_empty, xor_over_span, span_xor_over, xor_over_lt}
use Rattle.deduction.proofs.Elimination.Reduce.{pivot, reduce_both, reduce_none}
use Rattle.deduction.proofs.Elimination.Leading.{leading_pivot}
use Rattle.deduction.proofs.Elimination.Rows.{Clear, rows_sum, rows_inside, rows_each, rows_clear, rows_own}
use Rattle.deduction.proofs.Elimination.State.{Learnt, independent_learnt, zero_span, span_zero, nothing_learnt}
use Rattle.deduction.proofs.Elimination.Learn.{learn_all_learnt}
pub mod Spans
pub mod Sums
pub mod Reduce
pub mod Leading
pub mod Rows
pub mod State
pub mod Learn

-- the state after learning a list, from nothing
pub learnt_all : (s : ℕ → ℕ) (n : ℕ) (es : List ℕ) → ((e : ℕ) → Memᴰ e es → e < n) → Learnt s n es (learn_all s nothing es)
learnt_all s n es below = learn_all_learnt es (nothing_learnt s n) below

-- learning a known entry changes nothing
pub learn_known : (s : ℕ → ℕ) (k : Knowledge) (e : ℕ) → member k.known e ≡ true → learn s k e ≡ k
unfolding learn_as
learn_known s k e h = kept (member k.known e) _ h
  where
    kept : (b : Bool) (x : Knowledge) → b ≡ true → cond b k x ≡ k
    kept true x p = refl
    kept false x p = absurd (false≢true p)

-- one more entry at the end of the list
pub learn_all_more : (s : ℕ → ℕ) (k : Knowledge) (es : List ℕ) (e : ℕ) → learn_all s k (es ++ (e ∷ [])) ≡ learn s (learn_all s k es) e
unfolding learn_all
learn_all_more s k [] e = refl
learn_all_more s k (x ∷ es) e = learn_all_more s (learn s k x) es e

module _ {s : ℕ → ℕ} {n : ℕ} {es : List ℕ} {k : Knowledge} (l : Learnt s n es k) where
  -- used set and remainder sum to the set
  pub reduce_sum : (v : ℕ) → bit_xor (xor_over s n (reduce k.rows v).used) (reduce k.rows v).remainder ≡ v
  reduce_sum v = rows_sum s n l.built v

  -- the remainder is nothing exactly when the set is a sum of known ones
  pub reduce_zero : (v : ℕ) → ((reduce k.rows v).remainder ≡ 0) ↔ Span (map s es) v
  reduce_zero v = (zero_span l v, span_zero l)

  pub span_decidable : (v : ℕ) → Dec (Span (map s es) v)
  span_decidable v = Dec.of_iff (reduce_zero v) (ℕ_discrete (reduce k.rows v).remainder 0)

  -- the same over the known set
  pub reduce_zero_known : (v : ℕ) → ((reduce k.rows v).remainder ≡ 0) ↔ ((u : ℕ) × Inside u k.known × (xor_over s n u ≡ v))
  reduce_zero_known v = (to, from)
    where
      to : (reduce k.rows v).remainder ≡ 0 → (u : ℕ) × Inside u k.known × (xor_over s n u ≡ v)
      to h = let r = span_xor_over s es n l.below (zero_span l v h) in (r.0, λ e m. (l.members e).1 (r.1 e m), r.2)

      from : (u : ℕ) × Inside u k.known × (xor_over s n u ≡ v) → (reduce k.rows v).remainder ≡ 0
      from r = span_zero l (subst (Span (map s es)) r.2 (xor_over_span s es n r.0 (λ e m. (l.members e).0 (r.1 e m))))

  -- the leading entry of a sum of known sets is a pivot
  pub span_pivot : (w : ℕ) → Span (map s es) w → ¬ (w ≡ 0) → (r : Row) × Memᴰ r k.rows × (pivot r ≡ leading w)
  span_pivot w h some = leading_pivot k.rows w some (span_zero l h)

  -- a row is a sum of known sets, and isn't empty
  pub row_span : (r : Row) → Memᴰ r k.rows → Span (map s es) r.vector
  row_span r m =
      let h = rows_each s n l.built r m in
      subst (Span (map s es)) h.1 (xor_over_span s es n r.uses (λ e i. independent_learnt ((l.independent e).0 (h.2 e i))))

  pub row_nonempty : (r : Row) → Memᴰ r k.rows → ¬ (r.vector ≡ 0)
  row_nonempty r m = (rows_each s n l.built r m).0

  -- the remainder holds no pivot, so no leading entry of a sum of known sets
  pub remainder_clear : (v : ℕ) → Clear k.rows (reduce k.rows v).remainder
  remainder_clear v = rows_clear s n l.built v

  pub remainder_no_leading : (v : ℕ) → NoLeading (map s es) (reduce k.rows v).remainder
  remainder_no_leading v w h some =
      let r = span_pivot w h some in
      subst (λ (p : ℕ). member (reduce k.rows v).remainder p ≡ false) r.2 (remainder_clear v r.0 r.1)

  -- "the exact remainder": there is no other
  pub remainder_unique : (v w r : ℕ) → v ≡ bit_xor w r → Span (map s es) w → NoLeading (map s es) r → r ≡ (reduce k.rows v).remainder
  remainder_unique v w r p h bare =
      sym (ap (λ (x : Reduced). x.remainder) (ap (reduce k.rows) p ∙ reduce_both k.rows w r)
      ∙ ap (λ (x : ℕ). bit_xor x (reduce k.rows r).remainder) (span_zero l h)
      ∙ ap (λ (x : Reduced). x.remainder) (reduce_none k.rows r (λ q m. bare q.vector (row_span q m) (row_nonempty q m))))

  -- the used set draws on independent entries only, all known
  pub used_independent : (v e : ℕ) → member (reduce k.rows v).used e ≡ true → Independent s es e
  used_independent v e m = (l.independent e).0 (rows_inside s n l.built v e m)

  pub independent_known : (e : ℕ) → Independent s es e → member k.known e ≡ true
  independent_known e h = (l.members e).1 (independent_learnt h)

  pub used_below : (v : ℕ) → (reduce k.rows v).used < 2 ^ n
  used_below v = below_members n (reduce k.rows v).used (λ e m. l.below e (independent_learnt (used_independent v e m)))

  -- what is left is no wider than the sets
  pub remainder_below : (w v : ℕ) → ((e : ℕ) → Memᴰ e es → s e < 2 ^ w) → v < 2 ^ w → (reduce k.rows v).remainder < 2 ^ w
  remainder_below w v wide h =
      subst (λ (x : ℕ). x < 2 ^ w) (sym (sum_move (xor_over s n (reduce k.rows v).used) (reduce k.rows v).remainder v (reduce_sum v)))
      (xor_lt w (xor_over s n (reduce k.rows v).used) v (xor_over_lt s w n (reduce k.rows v).used (λ e m. wide e (independent_learnt (used_independent v e m)))) h)

  -- and it is the only such set with that sum
  pub used_unique : (v u : ℕ) → ((e : ℕ) → member u e ≡ true → Independent s es e) → xor_over s n u ≡ v → ((reduce k.rows v).remainder ≡ 0) × (u ≡ (reduce k.rows v).used)
  used_unique v u h p =
      let q : reduce k.rows v ≡ record { remainder = 0; used = u } = ap (reduce k.rows) (sym p) ∙ rows_own s n l.built u (λ e m. (l.independent e).1 (h e m)) in
      (ap (λ (x : Reduced). x.remainder) q, sym (ap (λ (x : Reduced). x.used) q))

  -- so that independent entries are linearly independent
  pub independent_sum : (u : ℕ) → ((e : ℕ) → member u e ≡ true → Independent s es e) → xor_over s n u ≡ 0 → u ≡ 0
  independent_sum u h p = (used_unique 0 u h p).1 ∙ sym (used_unique 0 0 (λ e m. absurd (false≢true (sym (member_empty e) ∙ m))) (xor_over_empty s n)).1

  -- the known entries are the learnt ones
  pub known_members : (e : ℕ) → (member k.known e ≡ true) ↔ Memᴰ e es
  known_members e = l.members e

  pub known_below : k.known < 2 ^ n
  known_below = below_members n k.known (λ e m. l.below e ((l.members e).0 m))

  -- at most as many rows as known entries, and room for one more where an entry isn't known yet
  pub rows_count : length k.rows ≤ ones k.known
  rows_count = l.count

  pub rows_room : (e : ℕ) → e < n → member k.known e ≡ false → length k.rows < n
  rows_room e small new = omega (arith, l.count, ones_insert k.known e new, ones-le n (insert k.known e) wide)
    where
      wide : insert k.known e < 2 ^ n
      wide = below_members n (insert k.known e) (λ x m. elim (insert_cases k.known e x m) [ inl i ↦ l.below x ((l.members x).0 i) | inr i ↦ subst (λ (y : ℕ). y < n) (sym i) small ])
