-- Sets of standard entries and representatives, for the entries of any sheet whose entries refer downwards.
-- Shown: an entry's term is the sum of its set of standard entries, and of no other such set; sets are equal exactly when terms are ≈;
-- the representative is the lowest entry with the same term; a term is a sum of terms exactly when its set is the sum of their
-- sets, and is a sum of some of them exactly when its set is in the span of theirs. Assumes nothing.
use mathlib.Core.Path.{◌≡◌, sym, ap, ◌∙◌, subst}
use mathlib.Core.Logic.{◌↔◌, by_cases}
use mathlib.Core.List.{List, map, Memᴰ}
use Prim.Native.Nat.{ℕ, ◌≤◌, ◌<◌}
use native.Mathlib.Decide.{dec_lt}
use native.Mathlib.Omega.{arith}
use lib.Dec.{eqb}
use borrow.Author.Tests.{eqb-true, eqb-false}
use Rattle.deduction.specs.Term.{sum_of, ◌≈◌}
use Rattle.deduction.specs.Entry.{Entry, term_at, Downward}
use Rattle.deduction.specs.Standard.{xor_all, set_at, rep_at, StandardSet, sum_of_set}
use Rattle.deduction.proofs.Elimination.Spans.{xor_over, Span}
use Rattle.deduction.proofs.Coding.{code, same_code}
use Rattle.deduction.proofs.Pieces.{by_code}
use Rattle.deduction.proofs.Elimination.Sums.{xor_all_span, span_xor_all}
use Rattle.deduction.proofs.Standard.Least.{least_le, least_found, least_before}
use Rattle.deduction.proofs.Standard.Sets.{xor_all_same}
use Rattle.deduction.proofs.Standard.Members.{xor_all_member}
use Rattle.deduction.proofs.Standard.Codes.{code_at, code_sum_of, code_sum_of_set, xor_over_all, code_set}
use Rattle.deduction.proofs.Standard.Independent.{set_standard, standard_sets_same}
pub mod Least
pub mod Sets
pub mod First
pub mod Members
pub mod Codes
pub mod Places
pub mod Independent
pub mod SumTest

module _ (e : ℕ → Entry) where
  -- a representative is at most its entry, and has its set
  pub rep_le : (i : ℕ) → rep_at e i ≤ i
  unfolding rep_at
  rep_le i = least_le (λ j. eqb (set_at e j) (set_at e i)) i

  pub rep_set : (i : ℕ) → set_at e (rep_at e i) ≡ set_at e i
  unfolding rep_at
  rep_set i =
      by_cases (dec_lt (rep_at e i) i) (λ h. eqb-true (set_at e (rep_at e i)) (set_at e i) (least_found (λ j. eqb (set_at e j) (set_at e i)) i h))
      (λ h. ap (set_at e) (equal h))
    where
      equal : ¬ (rep_at e i < i) → rep_at e i ≡ i
      equal h = omega (arith, rep_le i)

  -- no entry below it has that set
  pub rep_lowest : (i j : ℕ) → j < rep_at e i → ¬ (set_at e j ≡ set_at e i)
  unfolding rep_at
  rep_lowest i j l = eqb-false (set_at e j) (set_at e i) (least_before (λ k. eqb (set_at e k) (set_at e i)) i j l)

  -- entries with one set have one representative
  pub rep_of_set : (i j : ℕ) → set_at e i ≡ set_at e j → rep_at e i ≡ rep_at e j
  rep_of_set i j h =
      by_cases (dec_lt (rep_at e i) (rep_at e j)) (λ l. absurd (rep_lowest j (rep_at e i) l (rep_set i ∙ h)))
      (λ l. by_cases (dec_lt (rep_at e j) (rep_at e i)) (λ g. absurd (rep_lowest i (rep_at e j) g (rep_set j ∙ sym h))) (λ g. omega arith))

  pub rep_rep : (i : ℕ) → rep_at e (rep_at e i) ≡ rep_at e i
  rep_rep i = rep_of_set (rep_at e i) i (rep_set i)

module _ (e : ℕ → Entry) (n : ℕ) (down : Downward e n) where
  -- "Every entry's term is the sum of exactly one set of standard entries, possibly none"
  pub set_sum : (i : ℕ) → i < n → term_at e i ≈ sum_of_set (term_at e) n (set_at e i)
  set_sum i h = by_code (code_set e n down i h ∙ sym (code_sum_of_set (term_at e) n (set_at e i)))

  pub set_unique : (i u : ℕ) → i < n → StandardSet e n u → term_at e i ≈ sum_of_set (term_at e) n u → u ≡ set_at e i
  set_unique i u h s p =
      standard_sets_same e n down u (set_at e i) s (set_standard e n down i h) (sym (code_sum_of_set (term_at e) n u) ∙ sym (same_code p) ∙ code_set e n down i h)

  -- sets are equal exactly when terms are ≈
  pub set_same : (i j : ℕ) → i < n → j < n → (set_at e i ≡ set_at e j) ↔ (term_at e i ≈ term_at e j)
  set_same i j hi hj = (
    λ p. by_code (code_set e n down i hi ∙ ap (xor_over (code_at e) n) p ∙ sym (code_set e n down j hj)),
    λ p.
        standard_sets_same e n down (set_at e i) (set_at e j) (set_standard e n down i hi) (set_standard e n down j hj)
        (sym (code_set e n down i hi) ∙ same_code p ∙ code_set e n down j hj),
  )

  -- "An entry's head is the lowest-numbered entry that is the same term"
  pub rep_same : (i : ℕ) → i < n → term_at e (rep_at e i) ≈ term_at e i
  rep_same i h = (set_same (rep_at e i) i (omega (arith, rep_le e i)) h).0 (rep_set e i)

  pub rep_least : (i j : ℕ) → i < n → j < rep_at e i → ¬ (term_at e j ≈ term_at e i)
  rep_least i j h l p = rep_lowest e i j l ((set_same j i (omega (arith, rep_le e i)) h).1 p)

  pub rep_equal : (i j : ℕ) → i < n → j < n → (rep_at e i ≡ rep_at e j) ↔ (term_at e i ≈ term_at e j)
  rep_equal i j hi hj =
      (λ p. (set_same i j hi hj).0 (sym (rep_set e i) ∙ ap (set_at e) p ∙ rep_set e j), λ p. rep_of_set e i j ((set_same i j hi hj).1 p))

  module _ (js : List ℕ) (below : (j : ℕ) → Memᴰ j js → j < n) where
    -- the code of a sum of entries' terms
    pub code_items : code (sum_of (map (term_at e) js)) ≡ xor_over (code_at e) n (xor_all (set_at e) js)
    code_items =
        code_sum_of (term_at e) js ∙ xor_all_same (code_at e) (λ j. xor_over (code_at e) n (set_at e j)) js (λ j m. code_set e n down j (below j m))
        ∙ sym (xor_over_all (code_at e) (set_at e) n js)

    pub items_standard : StandardSet e n (xor_all (set_at e) js)
    items_standard k m = let r = xor_all_member (set_at e) js k m in set_standard e n down r.0 (below r.0 r.1) k r.2

    -- a term is a sum of terms exactly when its set is the sum of their sets
    pub sum_same : (i : ℕ) → i < n → (term_at e i ≈ sum_of (map (term_at e) js)) ↔ (set_at e i ≡ xor_all (set_at e) js)
    sum_same i h = (
      λ p. standard_sets_same e n down (set_at e i) (xor_all (set_at e) js) (set_standard e n down i h) items_standard (sym (code_set e n down i h) ∙ same_code p ∙ code_items),
      λ p. by_code (code_set e n down i h ∙ ap (xor_over (code_at e) n) p ∙ sym code_items),
    )

  -- a term is a sum of some of the terms of gs exactly when its set is in the span of their sets
  pub span_sum : (i : ℕ) (gs : List ℕ) → i < n → ((j : ℕ) → Memᴰ j gs → j < n)
      → Span (map (set_at e) gs) (set_at e i) ↔ ((js : List ℕ) × ((j : ℕ) → Memᴰ j js → Memᴰ j gs) × (term_at e i ≈ sum_of (map (term_at e) js)))
  span_sum i gs h below = (to, from)
    where
      to : Span (map (set_at e) gs) (set_at e i) → (js : List ℕ) × ((j : ℕ) → Memᴰ j js → Memᴰ j gs) × (term_at e i ≈ sum_of (map (term_at e) js))
      to p = let r = span_xor_all (set_at e) gs p in (r.0, r.1, (sum_same r.0 (λ j m. below j (r.1 j m)) i h).1 (sym r.2))

      from : (js : List ℕ) × ((j : ℕ) → Memᴰ j js → Memᴰ j gs) × (term_at e i ≈ sum_of (map (term_at e) js)) → Span (map (set_at e) gs) (set_at e i)
      from r = subst (Span (map (set_at e) gs)) (sym ((sum_same r.0 (λ j m. below j (r.1 j m)) i h).0 r.2)) (xor_all_span (set_at e) gs r.0 r.1)
