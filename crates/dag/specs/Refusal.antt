-- The grounding table of document 01, rows 1 to 7, and document 02's row 12, for any list of bytes: each row a test, and the first that holds.
-- Defined: `refusal`, 0 where the sheet is good, else the number of its refusal.
use Rattle.std.specs.Prelude.{ℕ, zero, suc, ◌+◌, Bool, true, false, not, cond, ◌&&◌, ◌||◌, List, [], ◌∷◌, eqb, ltb, leb, length, take}
use Rattle.deduction.specs.Entry.{parts}
use Rattle.dag.specs.Sheet.{number_at, letters, count_of, trace_length, goal_of, offset_at, length_at, trace_at, records_from, begin_at, record_at, listed}
use Rattle.dag.specs.Record.{kind_of, fits, item_count, item_at, decode}

-- the number k where the test holds, else 0; of two, the first that isn't 0; of f 0 .. f (n - 1), the first that isn't 0
unfoldable pub when : Bool → ℕ → ℕ
when b k = cond b k 0

unfoldable pub or_else : ℕ → ℕ → ℕ
or_else zero b = b
or_else (suc a) b = suc a

unfoldable pub first : (ℕ → ℕ) → ℕ → ℕ
first f zero = 0
first f (suc n) = or_else (first f n) (f n)

-- are two lists the same?
unfoldable pub equal : List ℕ → List ℕ → Bool
equal [] [] = true
equal [] (y ∷ ys) = false
equal (x ∷ xs) [] = false
equal (x ∷ xs) (y ∷ ys) = eqb x y && equal xs ys

-- is some number of the list i or more?
unfoldable pub any_from : ℕ → List ℕ → Bool
any_from i [] = false
any_from i (j ∷ js) = leb i j || any_from i js

-- document 02, E10: "The longest sheet is 34,446 bytes, and refusal 1 moves with it"
abbrev pub longest : ℕ
longest = 34446

-- 1 no sheet: "under 10 bytes, over 34,444, or the four letters differ", the second number now that of the longest sheet
unfoldable pub no_sheet : List ℕ → ℕ
no_sheet s = when (ltb (length s) 10 || (ltb longest (length s) || not (equal (take 4 s) letters))) 1

-- 2 bad count: "n, h or goal outside its range": n 1 to 256, h 0 to 256, goal 0 to n - 1
unfoldable pub bad_count : List ℕ → ℕ
bad_count s = when (ltb (count_of s) 1 || (ltb 256 (count_of s) || (ltb 256 (trace_length s) || leb (count_of s) (goal_of s)))) 2

-- 3 short list: "fewer than 10 + 4n + 2h bytes"
unfoldable pub short_list : List ℕ → ℕ
short_list s = when (ltb (length s) (records_from s)) 3

-- 4 bad pair: "length 0, an offset other than where the last record ended (or records begin), an end past the sheet, or the last end
-- before the sheet's end"
unfoldable pub bad_pair : List ℕ → ℕ → ℕ
bad_pair s i = when (eqb (length_at s i) 0 || (not (eqb (offset_at s i) (begin_at s i)) || ltb (length s) (offset_at s i + length_at s i))) 4

unfoldable pub bad_pairs : List ℕ → ℕ
bad_pairs s = or_else (first (bad_pair s) (count_of s)) (when (ltb (begin_at s (count_of s)) (length s)) 4)

-- 6 for a sum's record: an item not below i
abbrev pub forward_items : ℕ → List ℕ → ℕ
forward_items i r = when (any_from i (listed (item_at r) (item_count r))) 6

-- 5 bad record: "kind over 4 or a length its kind lacks", and document 02, E6: "Refusal 5 now starts at kind 8". 6 forward: "an entry number in a
-- record (an atom's number is none) not below the record's own". "records are taken entry by entry, 5 before 6 in each"
unfoldable pub bad_record : ℕ → List ℕ → ℕ
bad_record i r = or_else (when (not (fits (kind_of r) (length r))) 5) (when (any_from i (parts (decode r))) 6)

-- 12 wrong half: "when a lock's key entry is not itself of kind 5 or 6": the kind byte of the key entry's own record, for a record r of a lock
abbrev pub kind_at : List ℕ → ℕ → ℕ
kind_at s i = kind_of (record_at s i)

unfoldable pub wrong_half : List ℕ → List ℕ → ℕ
wrong_half s r = when (eqb (kind_of r) 7 && not (eqb (kind_at s (number_at r 3)) 5 || eqb (kind_at s (number_at r 3)) 6)) 12

-- "checked after 6 in the same record"
unfoldable pub bad_record_at : List ℕ → ℕ → ℕ
bad_record_at s i = or_else (bad_record i (record_at s i)) (wrong_half s (record_at s i))

unfoldable pub bad_records : List ℕ → ℕ
bad_records s = first (bad_record_at s) (count_of s)

-- 7 not listed: "a heard number of n or more"
abbrev pub not_listed_at : List ℕ → ℕ → ℕ
not_listed_at s k = when (leb (count_of s) (trace_at s k)) 7

unfoldable pub not_listed : List ℕ → ℕ
not_listed s = first (not_listed_at s) (trace_length s)

-- "Order: by number, except that records are taken entry by entry, 5 before 6 in each", and 12 after 6
unfoldable pub refusal : List ℕ → ℕ
refusal s = or_else (no_sheet s) (or_else (bad_count s) (or_else (short_list s) (or_else (bad_pairs s) (or_else (bad_records s) (not_listed s)))))
