-- What holds of a good sheet, one that is not refused.
-- Shown: `good`, from `refusal s ≡ 0`: every count is in its range, every record lies in the sheet and has a length of its kind, every entry
-- number in a record is below the record's own, every lock's key entry is a half, and every heard number and the goal are entries. Assumes nothing.
use mathlib.Core.Path.{◌≡◌}
use mathlib.Core.Bool.{true, false, not, ◌||◌}
use mathlib.Core.List.{List}
use Prim.Native.Nat.{ℕ, ◌+◌, ◌≤◌, ◌<◌}
use borrow.Author.Tests.{ltb-false, leb-false, not-false}
use lib.Dec.{ltb}
use lib.ListN.{length, take}
use Rattle.deduction.specs.Entry.{Downward}
use Rattle.deduction.proofs.Steps.Opener.{Halved}
use Rattle.dag.specs.Sheet.{letters, count_of, trace_length, goal_of, offset_at, length_at, trace_at, records_from, begin_at, record_at}
use Rattle.dag.specs.Record.{kind_of, fits, entry_at}
use Rattle.dag.specs.Refusal.{or_else, equal, longest, no_sheet, bad_count, short_list, bad_pairs, bad_records, not_listed, not_listed_at, refusal}
use Rattle.dag.proofs.Laws.Refusal.{or_false_left, or_false_right, or_else_zero_left, or_else_zero_right, when_zero, first_none, equal_true}
use Rattle.dag.proofs.Laws.Passed.{some_entry, few_entries, few_messages, goal_entry, record_filled, record_follows, record_inside, end_reached, record_fits, parts_below, key_half}

pub record Good (s : List ℕ) : Type 0 where
  pub short : length s ≤ longest
  pub lettered : take 4 s ≡ letters
  pub some : 1 ≤ count_of s
  pub few : count_of s ≤ 256
  pub trace : trace_length s ≤ 256
  pub goal : goal_of s < count_of s
  pub lists : records_from s ≤ length s
  pub filled : (i : ℕ) → i < count_of s → 0 < length_at s i
  pub follows : (i : ℕ) → i < count_of s → offset_at s i ≡ begin_at s i
  pub inside : (i : ℕ) → i < count_of s → offset_at s i + length_at s i ≤ length s
  pub whole : begin_at s (count_of s) ≡ length s
  pub kinds : (i : ℕ) → i < count_of s → fits (kind_of (record_at s i)) (length (record_at s i)) ≡ true
  pub downward : Downward (entry_at s) (count_of s)
  pub halves : Halved (entry_at s) (count_of s)
  pub listed : (k : ℕ) → k < trace_length s → trace_at s k < count_of s

module _ (s : List ℕ) (ok : refusal s ≡ 0) where
  row1 : no_sheet s ≡ 0
  unfolding refusal
  row1 = or_else_zero_left (no_sheet s) _ ok

  rest1 : or_else (bad_count s) (or_else (short_list s) (or_else (bad_pairs s) (or_else (bad_records s) (not_listed s)))) ≡ 0
  unfolding refusal
  rest1 = or_else_zero_right (no_sheet s) _ ok

  row2 : bad_count s ≡ 0
  row2 = or_else_zero_left (bad_count s) _ rest1

  rest2 : or_else (short_list s) (or_else (bad_pairs s) (or_else (bad_records s) (not_listed s))) ≡ 0
  rest2 = or_else_zero_right (bad_count s) _ rest1

  row3 : short_list s ≡ 0
  row3 = or_else_zero_left (short_list s) _ rest2

  rest3 : or_else (bad_pairs s) (or_else (bad_records s) (not_listed s)) ≡ 0
  rest3 = or_else_zero_right (short_list s) _ rest2

  row4 : bad_pairs s ≡ 0
  row4 = or_else_zero_left (bad_pairs s) _ rest3

  row5 : bad_records s ≡ 0
  row5 = or_else_zero_left (bad_records s) (not_listed s) (or_else_zero_right (bad_pairs s) _ rest3)

  row7 : not_listed s ≡ 0
  row7 = or_else_zero_right (bad_records s) (not_listed s) (or_else_zero_right (bad_pairs s) _ rest3)

  test1 : (ltb (length s) 10 || (ltb longest (length s) || not (equal (take 4 s) letters))) ≡ false
  unfolding no_sheet
  test1 = when_zero _ 0 row1

  test1' : (ltb longest (length s) || not (equal (take 4 s) letters)) ≡ false
  test1' = or_false_right (ltb (length s) 10) _ test1

  lists_fit : records_from s ≤ length s
  unfolding short_list
  lists_fit = ltb-false (length s) (records_from s) (when_zero _ 2 row3)

  all_listed : (k : ℕ) → k < trace_length s → not_listed_at s k ≡ 0
  unfolding not_listed
  all_listed = first_none (not_listed_at s) (trace_length s) row7

  pub good : Good s
  good =
      record {
        short = ltb-false longest (length s) (or_false_left (ltb longest (length s)) _ test1');
        lettered = equal_true (take 4 s) letters (not-false _ (or_false_right (ltb longest (length s)) _ test1'));
        some = some_entry s row2;
        few = few_entries s row2;
        trace = few_messages s row2;
        goal = goal_entry s row2;
        lists = lists_fit;
        filled = record_filled s row4;
        follows = record_follows s row4;
        inside = record_inside s row4;
        whole = end_reached s row4 (some_entry s row2);
        kinds = record_fits s row5;
        downward = parts_below s row5;
        halves = key_half s row5;
        listed = (λ k h. leb-false (count_of s) (trace_at s k) (when_zero _ 6 (all_listed k h)));
      }
