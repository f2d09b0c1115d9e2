-- The intruder's state, described by the list of entries learnt.
-- Defined: `Learnt`, what known set, rows and independent entries are after learning a list.
-- Shown: a set is reduced to nothing exactly when it is in the span; the first state has learnt nothing. Assumes nothing.
use mathlib.Core.Path.{◌≡◌, refl, sym, ap, ap₂, ◌∙◌, subst}
use mathlib.Core.Bool.{true, false≢true}
use mathlib.Core.Logic.{◌↔◌}
use mathlib.Core.List.Memᴰ
use mathlib.Core.List.{List, [], map, Memᴰ}
use Prim.Native.Nat.{ℕ, ◌≤◌, ◌<◌}
use native.Mathlib.Omega.{arith}
use lib.Bits.{bit_xor, xor_zero_r}
use lib.Count.{ones}
use lib.ListN.{length}
use Rattle.bitset.specs.Set.{member}
use Rattle.bitset.proofs.Laws.Member.{member_empty}
use Rattle.deduction.specs.Elimination.{Reduced, reduce, Knowledge, nothing}
use Rattle.deduction.proofs.Elimination.Spans.{Span, xor_over, Independent, none, more}
use Rattle.deduction.proofs.Elimination.Sums.{xor_over_span}
use Rattle.deduction.proofs.Elimination.Reduce.{reduce_both, reduce_empty}
use Rattle.deduction.proofs.Elimination.Rows.{Rows, no_rows, rows_sum, rows_inside}

-- the state k after learning the entries es, all below n
pub record Learnt (s : ℕ → ℕ) (n : ℕ) (es : List ℕ) (k : Knowledge) : Type 0 where
  pub free : ℕ
  pub built : Rows s n k.rows free
  pub members : (e : ℕ) → (member k.known e ≡ true) ↔ Memᴰ e es
  pub settled : (e : ℕ) → Memᴰ e es → (reduce k.rows (s e)).remainder ≡ 0
  pub below : (e : ℕ) → Memᴰ e es → e < n
  pub independent : (e : ℕ) → (member free e ≡ true) ↔ Independent s es e
  pub count : length k.rows ≤ ones k.known

-- an independent entry is a learnt one
pub independent_learnt : {s : ℕ → ℕ} {es : List ℕ} {e : ℕ} → Independent s es e → Memᴰ e es
independent_learnt {s} {es} {e} h = subst (λ (l : List ℕ). Memᴰ e l) (sym h.2) (Memᴰ.append_right h.0 (Memᴰ.head refl))

module _ {s : ℕ → ℕ} {n : ℕ} {es : List ℕ} {k : Knowledge} (l : Learnt s n es k) where
  -- a set is reduced to nothing exactly when it is a sum of the sets of learnt entries
  pub zero_span : (v : ℕ) → (reduce k.rows v).remainder ≡ 0 → Span (map s es) v
  zero_span v h = subst (Span (map s es)) total (xor_over_span s es n (reduce k.rows v).used (λ e m. independent_learnt ((l.independent e).0 (rows_inside s n l.built v e m))))
    where
      total : xor_over s n (reduce k.rows v).used ≡ v
      total = sym (xor_zero_r (xor_over s n (reduce k.rows v).used)) ∙ ap (bit_xor (xor_over s n (reduce k.rows v).used)) (sym h) ∙ rows_sum s n l.built v

  pub span_zero : {v : ℕ} → Span (map s es) v → (reduce k.rows v).remainder ≡ 0
  span_zero none = ap (λ (x : Reduced). x.remainder) (reduce_empty k.rows)
  span_zero (more {v} {w} m r) =
      ap (λ (x : Reduced). x.remainder) (reduce_both k.rows v w) ∙ ap₂ bit_xor (one (Memᴰ.of_map s es m)) (span_zero r)
    where
      one : (e : ℕ) × Memᴰ e es × (s e ≡ v) → (reduce k.rows v).remainder ≡ 0
      one h = ap (λ (x : ℕ). (reduce k.rows x).remainder) (sym h.2) ∙ l.settled h.0 h.1

pub nothing_learnt : (s : ℕ → ℕ) (n : ℕ) → Learnt s n [] nothing
unfolding nothing ones
nothing_learnt s n =
    record {
      free = 0;
      built = no_rows;
      members = λ e. (λ m. absurd (false≢true (sym (member_empty e) ∙ m)), λ m. absurd (Memᴰ.not-nil m));
      settled = λ e m. absurd (Memᴰ.not-nil m);
      below = λ e m. absurd (Memᴰ.not-nil m);
      independent = λ e. (λ m. absurd (false≢true (sym (member_empty e) ∙ m)), λ h. absurd (Memᴰ.not-nil (independent_learnt h)));
      count = omega arith;
    }
