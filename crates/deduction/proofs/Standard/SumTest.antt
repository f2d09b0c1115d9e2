-- The sum test, said of terms: elimination over the sets of a sheet's entries.
-- Shown: the remainder is nothing exactly when the term is a sum of learnt entries' terms; used set and remainder sum to the term; where
-- nothing remains the term is the sum over the used set, and over no other set of independent entries. Assumes nothing.
use mathlib.Core.Path.{◌≡◌, sym, ap, ap₂, ◌∙◌}
use mathlib.Core.Bool.{true}
use mathlib.Core.Logic.Iff
use mathlib.Core.Logic.{◌↔◌}
use mathlib.Core.List.{List, map, Memᴰ}
use Prim.Native.Nat.{ℕ, ◌<◌}
use lib.Bits.{bit_xor, xor_zero_r}
use Rattle.bitset.specs.Set.{member}
use Rattle.deduction.specs.Term.{◌⊕◌, sum_of, ◌≈◌}
use Rattle.deduction.specs.Entry.{Entry, term_at, Downward}
use Rattle.deduction.specs.Standard.{set_at, StandardSet, sum_of_set}
use Rattle.deduction.specs.Elimination.{Knowledge, reduce}
use Rattle.deduction.proofs.Elimination.Spans.{xor_over, Independent}
use Rattle.deduction.proofs.Coding.{code, code_sum, same_code}
use Rattle.deduction.proofs.Pieces.{by_code}
use Rattle.deduction.proofs.Elimination.{reduce_sum, reduce_zero, used_unique}
use Rattle.deduction.proofs.Elimination.Sums.{xor_over_sum, xor_over_xor_over, xor_over_same, xor_over_member}
use Rattle.deduction.proofs.Elimination.State.{Learnt}
use Rattle.deduction.proofs.Standard.{span_sum}
use Rattle.deduction.proofs.Standard.Codes.{code_at, code_sum_of_set, code_set}
use Rattle.deduction.proofs.Standard.Independent.{set_standard, standard_sets_same}

module _ (e : ℕ → Entry) (n : ℕ) (down : Downward e n) where
  -- the code of a sum over any set of entries, through their sets
  pub code_over : (u : ℕ) → code (sum_of_set (term_at e) n u) ≡ xor_over (code_at e) n (xor_over (set_at e) n u)
  code_over u =
      code_sum_of_set (term_at e) n u ∙ xor_over_same (code_at e) (λ j. xor_over (code_at e) n (set_at e j)) n u (λ j l. code_set e n down j l)
      ∙ sym (xor_over_xor_over (code_at e) (set_at e) n n u)

  pub over_standard : (u : ℕ) → StandardSet e n (xor_over (set_at e) n u)
  over_standard u k m = let r = xor_over_member (set_at e) n u k m in set_standard e n down r.0 r.1 k r.3

  -- a term is the sum over a set of entries exactly when its set is the sum of their sets
  pub over_same : (i u : ℕ) → i < n → (term_at e i ≈ sum_of_set (term_at e) n u) ↔ (xor_over (set_at e) n u ≡ set_at e i)
  over_same i u h = (
    λ p. standard_sets_same e n down (xor_over (set_at e) n u) (set_at e i) (over_standard u) (set_standard e n down i h) (sym (code_over u) ∙ sym (same_code p) ∙ code_set e n down i h),
    λ p. by_code (code_set e n down i h ∙ ap (xor_over (code_at e) n) (sym p) ∙ sym (code_over u)),
  )

  module _ {es : List ℕ} {k : Knowledge} (l : Learnt (set_at e) n es k) (i : ℕ) (h : i < n) where
    -- the term is a sum of learnt terms exactly when nothing remains of its set
    pub sum_test : ((reduce k.rows (set_at e i)).remainder ≡ 0) ↔ ((js : List ℕ) × ((j : ℕ) → Memᴰ j js → Memᴰ j es) × (term_at e i ≈ sum_of (map (term_at e) js)))
    sum_test = Iff.trans (reduce_zero l (set_at e i)) (span_sum e n down i es h l.below)

    -- used set and remainder sum to the term
    pub sum_test_total : term_at e i ≈ sum_of_set (term_at e) n (reduce k.rows (set_at e i)).used ⊕ sum_of_set (term_at e) n (reduce k.rows (set_at e i)).remainder
    sum_test_total =
        by_code
        (code_set e n down i h ∙ ap (xor_over (code_at e) n) (sym (reduce_sum l (set_at e i)))
        ∙ xor_over_sum (code_at e) n (xor_over (set_at e) n (reduce k.rows (set_at e i)).used) (reduce k.rows (set_at e i)).remainder
        ∙ ap₂ bit_xor (sym (code_over (reduce k.rows (set_at e i)).used)) (sym (code_sum_of_set (term_at e) n (reduce k.rows (set_at e i)).remainder))
        ∙ sym (code_sum (sum_of_set (term_at e) n (reduce k.rows (set_at e i)).used) (sum_of_set (term_at e) n (reduce k.rows (set_at e i)).remainder)))

    -- where nothing remains, the used set is a sum of the term, and the only one of independent entries
    pub sum_test_used : (reduce k.rows (set_at e i)).remainder ≡ 0 → term_at e i ≈ sum_of_set (term_at e) n (reduce k.rows (set_at e i)).used
    sum_test_used z =
        (over_same i (reduce k.rows (set_at e i)).used h).1
        (sym (xor_zero_r (xor_over (set_at e) n (reduce k.rows (set_at e i)).used)) ∙ ap (bit_xor (xor_over (set_at e) n (reduce k.rows (set_at e i)).used)) (sym z)
        ∙ reduce_sum l (set_at e i))

    pub sum_test_unique : (u : ℕ) → ((j : ℕ) → member u j ≡ true → Independent (set_at e) es j) → term_at e i ≈ sum_of_set (term_at e) n u
        → ((reduce k.rows (set_at e i)).remainder ≡ 0) × (u ≡ (reduce k.rows (set_at e i)).used)
    sum_test_unique u free p = used_unique l (set_at e i) u free ((over_same i u h).0 p)
