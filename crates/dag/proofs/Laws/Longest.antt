-- Why the longest sheet has 34,446 bytes.
-- Shown: `no_longer`, a sheet that rows 2, 4, 5, 6 and 12 let pass has no more, so that row 1 refuses for its length no sheet that the other rows would
-- not refuse. Entry 0 has no parts, so its record has at most 5 bytes, which then only an atom's has; any other has at most the 129 of a sum of 64 items.
-- Assumes nothing.
use mathlib.Core.Path.{◌≡◌, refl, sym, ap, ◌∙◌}
use mathlib.Core.Bool.{true, false≢true}
use mathlib.Core.List.{List, Memᴰ}
use mathlib.Core.Logic.{⊎_elim, by_cases}
use Prim.Native.Nat.{ℕ, zero, suc, ◌+◌, ◌*◌, ◌-◌, ◌/◌, ◌%◌, ◌≤◌, ◌<◌}
use native.Mathlib.Decide.{dec_lt}
use native.Mathlib.Omega.{arith}
use borrow.Author.Tests.{eqb-true, leb-true}
use lib.Dec.{eqb, leb}
use lib.ListN.{length}
use Rattle.deduction.specs.Entry.{parts}
use Rattle.deduction.proofs.Standard.First.{both_true}
use Rattle.dag.specs.Sheet.{count_of, length_at, records_from, begin_at, record_at}
use Rattle.dag.specs.Record.{kind_of, fits, item_count, item_at, decode_as}
use Rattle.dag.specs.Refusal.{longest, bad_count, bad_pairs, bad_records}
use Rattle.dag.proofs.Laws.Refusal.{or_either}
use Rattle.dag.proofs.Laws.Parts.{item_listed}
use Rattle.dag.proofs.Laws.Passed.{some_entry, few_entries, few_messages, record_follows, record_inside, end_reached, record_fits, parts_below, record_length}

-- an atom's record has at most 5 bytes
atom_most : (len : ℕ) → fits 1 len ≡ true → len ≤ 5
unfolding fits
atom_most len p = ⊎_elim (λ q. omega (arith, eqb-true len 3 q)) (λ q. omega (arith, eqb-true len 5 q)) (or_either (eqb len 3) (eqb len 5) p)

-- any record at most 129
fits_most : (k len : ℕ) → fits k len ≡ true → len ≤ 129
unfolding fits
fits_most zero len p = omega (arith, eqb-true len 1 p)
fits_most (suc zero) len p = omega (arith, atom_most len p)
fits_most (suc (suc zero)) len p = omega (arith, eqb-true len 5 p)
fits_most (suc (suc (suc zero))) len p = omega (arith, eqb-true len 5 p)
fits_most (suc (suc (suc (suc zero)))) len p = leb-true len 129 (both_true (eqb (len % 2) 1) (leb len 129) p).1
fits_most (suc (suc (suc (suc (suc zero))))) len p = omega (arith, eqb-true len 3 p)
fits_most (suc (suc (suc (suc (suc (suc zero)))))) len p = omega (arith, eqb-true len 3 p)
fits_most (suc (suc (suc (suc (suc (suc (suc zero))))))) len p = omega (arith, eqb-true len 5 p)
fits_most (suc (suc (suc (suc (suc (suc (suc (suc k)))))))) len p = absurd (false≢true p)

-- and one of an entry that has no part at most 5
first_most : (r : List ℕ) (k : ℕ) → fits k (length r) ≡ true → ((j : ℕ) → Memᴰ j (parts (decode_as k r)) → j < 0) → length r ≤ 5
unfolding fits parts decode_as
first_most r zero p none = omega (arith, eqb-true (length r) 1 p)
first_most r (suc zero) p none = atom_most (length r) p
first_most r (suc (suc zero)) p none = omega (arith, eqb-true (length r) 5 p)
first_most r (suc (suc (suc zero))) p none = omega (arith, eqb-true (length r) 5 p)
first_most r (suc (suc (suc (suc zero)))) p none =
    by_cases (dec_lt 0 (item_count r)) (λ h. absurd (omega (arith, none (item_at r 0) (item_listed (item_at r) (item_count r) 0 h)))) (λ h. few (length r) h)
  where
    few : (l : ℕ) → ¬ (0 < (l - 1) / 2) → l ≤ 5
    few l h = omega arith
first_most r (suc (suc (suc (suc (suc zero))))) p none = omega (arith, eqb-true (length r) 3 p)
first_most r (suc (suc (suc (suc (suc (suc zero)))))) p none = omega (arith, eqb-true (length r) 3 p)
first_most r (suc (suc (suc (suc (suc (suc (suc zero))))))) p none = omega (arith, eqb-true (length r) 5 p)
first_most r (suc (suc (suc (suc (suc (suc (suc (suc k)))))))) p none = absurd (false≢true p)

module _ (s : List ℕ) (row2 : bad_count s ≡ 0) (row4 : bad_pairs s ≡ 0) (row5 : bad_records s ≡ 0) where
  record_most : (i : ℕ) → i < count_of s → length_at s i ≤ 129
  record_most i h = omega (arith, record_length s i (record_inside s row4 i h), fits_most (kind_of (record_at s i)) (length (record_at s i)) (record_fits s row5 i h))

  record_first : 0 < count_of s → length_at s 0 ≤ 5
  record_first h =
      omega (arith, record_length s 0 (record_inside s row4 0 h), first_most (record_at s 0) (kind_of (record_at s 0)) (record_fits s row5 0 h) (λ j m. parts_below s row5 0 j h m))

  end_most : (m : ℕ) → m < count_of s → begin_at s (suc m) ≤ records_from s + 5 + 129 * m
  unfolding begin_at
  end_most zero h = omega (arith, record_follows s row4 0 h, record_first h)
  end_most (suc m) h = omega (arith, record_follows s row4 (suc m) h, record_most (suc m) h, end_most m (omega arith))

  pub no_longer : length s ≤ longest
  no_longer = go (count_of s) refl
    where
      go : (n : ℕ) → count_of s ≡ n → length s ≤ longest
      go zero p = absurd (omega (arith, some_entry s row2))
      go (suc m) p =
          let end : begin_at s (suc m) ≡ length s = ap (begin_at s) (sym p) ∙ end_reached s row4 (some_entry s row2) in
          omega (arith, end, end_most m (omega arith), few_entries s row2, few_messages s row2)
