-- What rows 2, 4, 5, 6 and 12 of the grounding table leave of a sheet that each lets pass.
-- Shown: the counts' ranges; where the records lie; their lengths, the entry numbers in them and the locks' keys; the length of a record that lies in the
-- sheet. Assumes nothing.
use mathlib.Core.Path.{◌≡◌, sym, subst}
use mathlib.Core.Bool.{true, false, not, ◌||◌}
use mathlib.Core.List.{List}
use mathlib.Core.Logic.{◌⊎◌}
use Prim.Native.Nat.{ℕ, zero, suc, ◌+◌, ◌-◌, ◌≤◌, ◌<◌}
use native.Mathlib.Nat.{le_trans, le_of_eq, le_refl, le_antisymm}
use native.Mathlib.Omega.{arith}
use borrow.Author.Tests.{ltb-false, leb-false, eqb-true, eqb-false, not-false}
use lib.Dec.{eqb, ltb, leb}
use lib.ListN.{length, drop, length-drop}
use lib.Seq.{length-take-le}
use Rattle.deduction.specs.Entry.{Downward, parts}
use Rattle.deduction.proofs.Steps.Opener.{Halved}
use Rattle.dag.specs.Sheet.{count_of, trace_length, goal_of, offset_at, length_at, begin_at, record_at}
use Rattle.dag.specs.Record.{kind_of, fits, entry_at}
use Rattle.dag.specs.Refusal.{when, first, any_from, bad_count, bad_pair, bad_pairs, bad_record, kind_at, bad_record_at, bad_records}
use Rattle.dag.proofs.Laws.Refusal.{or_false_left, or_false_right, or_else_zero_left, or_else_zero_right, when_zero, first_none, any_from_none}
use Rattle.dag.proofs.Laws.Record.{lock_record_lem, half_record_lem}
use Rattle.dag.proofs.Laws.Parts.{key_passed, fault_none}

module _ (s : List ℕ) (row2 : bad_count s ≡ 0) where
  test : (ltb (count_of s) 1 || (ltb 256 (count_of s) || (ltb 256 (trace_length s) || leb (count_of s) (goal_of s)))) ≡ false
  unfolding bad_count
  test = when_zero _ 1 row2

  test' : (ltb 256 (count_of s) || (ltb 256 (trace_length s) || leb (count_of s) (goal_of s))) ≡ false
  test' = or_false_right (ltb (count_of s) 1) _ test

  test'' : (ltb 256 (trace_length s) || leb (count_of s) (goal_of s)) ≡ false
  test'' = or_false_right (ltb 256 (count_of s)) _ test'

  pub some_entry : 1 ≤ count_of s
  some_entry = ltb-false (count_of s) 1 (or_false_left (ltb (count_of s) 1) _ test)

  pub few_entries : count_of s ≤ 256
  few_entries = ltb-false 256 (count_of s) (or_false_left (ltb 256 (count_of s)) _ test')

  pub few_messages : trace_length s ≤ 256
  few_messages = ltb-false 256 (trace_length s) (or_false_left (ltb 256 (trace_length s)) _ test'')

  pub goal_entry : goal_of s < count_of s
  goal_entry = leb-false (count_of s) (goal_of s) (or_false_right (ltb 256 (trace_length s)) _ test'')

module _ (s : List ℕ) (row4 : bad_pairs s ≡ 0) where
  pairs : (i : ℕ) → i < count_of s → bad_pair s i ≡ 0
  unfolding bad_pairs
  pairs = first_none (bad_pair s) (count_of s) (or_else_zero_left (first (bad_pair s) (count_of s)) _ row4)

  pair_test : (i : ℕ) → i < count_of s → (eqb (length_at s i) 0 || (not (eqb (offset_at s i) (begin_at s i)) || ltb (length s) (offset_at s i + length_at s i))) ≡ false
  unfolding bad_pair
  pair_test i h = when_zero _ 3 (pairs i h)

  pair_test' : (i : ℕ) → i < count_of s → (not (eqb (offset_at s i) (begin_at s i)) || ltb (length s) (offset_at s i + length_at s i)) ≡ false
  pair_test' i h = or_false_right (eqb (length_at s i) 0) _ (pair_test i h)

  pub record_filled : (i : ℕ) → i < count_of s → 0 < length_at s i
  record_filled i h = pos (length_at s i) (eqb-false (length_at s i) 0 (or_false_left (eqb (length_at s i) 0) _ (pair_test i h)))
    where
      pos : (x : ℕ) → (x ≡ 0 → ⊥) → 0 < x
      pos x n = omega arith

  pub record_follows : (i : ℕ) → i < count_of s → offset_at s i ≡ begin_at s i
  record_follows i h = eqb-true (offset_at s i) (begin_at s i) (not-false _ (or_false_left (not (eqb (offset_at s i) (begin_at s i))) _ (pair_test' i h)))

  pub record_inside : (i : ℕ) → i < count_of s → offset_at s i + length_at s i ≤ length s
  record_inside i h = ltb-false (length s) _ (or_false_right (not (eqb (offset_at s i) (begin_at s i))) _ (pair_test' i h))

  begin_le : (n : ℕ) → 1 ≤ n → n ≤ count_of s → begin_at s n ≤ length s
  unfolding begin_at
  begin_le zero h l = absurd (omega arith)
  begin_le (suc m) h l = record_inside m l

  pub end_reached : 1 ≤ count_of s → begin_at s (count_of s) ≡ length s
  unfolding bad_pairs
  end_reached h =
      le_antisymm (begin_le (count_of s) h (le_refl (count_of s)))
      (ltb-false (begin_at s (count_of s)) (length s) (when_zero _ 3 (or_else_zero_right (first (bad_pair s) (count_of s)) _ row4)))

module _ (s : List ℕ) (row5 : bad_records s ≡ 0) where
  records : (i : ℕ) → i < count_of s → bad_record_at s i ≡ 0
  unfolding bad_records
  records = first_none (bad_record_at s) (count_of s) row5

  pub record_fits : (i : ℕ) → i < count_of s → fits (kind_of (record_at s i)) (length (record_at s i)) ≡ true
  unfolding bad_record
  record_fits i h = not-false _ (when_zero _ 4 (or_else_zero_left (when (not (fits (kind_of (record_at s i)) (length (record_at s i)))) 5) _ (fault_none s i (records i h)).0))

  record_down : (i : ℕ) → i < count_of s → any_from i (parts (entry_at s i)) ≡ false
  unfolding bad_record
  record_down i h = when_zero _ 5 (or_else_zero_right (when (not (fits (kind_of (record_at s i)) (length (record_at s i)))) 5) _ (fault_none s i (records i h)).0)

  pub parts_below : Downward (entry_at s) (count_of s)
  parts_below i j h m = any_from_none i (parts (entry_at s i)) (record_down i h) j m

  -- a lock's key entry is a half by its own record
  pub key_half : Halved (entry_at s) (count_of s)
  key_half i m k h p =
      let r = record_at s i in
      let lock = lock_record_lem (kind_of r) r m k p in
      half_record_lem (record_at s k) (subst (λ (j : ℕ). (kind_at s j ≡ 5) ⊎ (kind_at s j ≡ 6)) lock.1 (key_passed s r (fault_none s i (records i h)).1 lock.0))

-- a record that lies in the sheet has the length that its pair says
pub record_length : (s : List ℕ) (i : ℕ) → offset_at s i + length_at s i ≤ length s → length (record_at s i) ≡ length_at s i
record_length s i h = length-take-le (length_at s i) (drop (offset_at s i) s) (le_trans (room (offset_at s i) (length_at s i) (length s) h) (le_of_eq (sym (length-drop (offset_at s i) s))))
  where
    room : (o l n : ℕ) → o + l ≤ n → l ≤ n - o
    room o l n p = omega arith
