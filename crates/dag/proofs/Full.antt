-- A good sheet of 34,446 bytes: document 02's longest (E10).
-- Defined: `full_sheet`, atom 0 in a long record as entry 0, 255 sums of 64 times entry 0, and entry 0 heard 256 times.
-- Shown: `full_length`, it has as many bytes as `longest` says; `full_bytes`, each is below 256; `full_good`, it isn't refused. Assumes nothing.
use mathlib.Core.Path.{◌≡◌, refl, sym, ap, ap₂, ◌∙◌}
use mathlib.Core.Bool.{Bool, true, false, not, cond, ◌&&◌}
use mathlib.Core.List.{List, [], ◌∷◌}
use mathlib.Core.Logic.{by_cases}
use Prim.Native.Nat.{ℕ, zero, suc, ◌+◌, ◌*◌, ◌-◌, ◌/◌, ◌%◌, ◌≤◌, ◌<◌}
use native.Mathlib.Nat.{le_refl}
use native.Mathlib.Decide.{dec_lt}
use native.Mathlib.Omega.{arith}
use borrow.Author.Tests.{lt-ltb, le-ltb, le-leb, lt-leb, eq-eqb, ne_eqb}
use lib.Dec.{eqb, ltb, leb}
use lib.ListN.{length, get_or, take, drop, get_or-eq_default}
use lib.Seq.{length-take-le, get_or-take, get_or-drop, ext_get_or}
use Rattle.dag.specs.Sheet.{number_at, letters, count_of, trace_length, goal_of, offset_at, length_at, trace_at, records_from, begin_at, record_at, listed}
use Rattle.dag.specs.Record.{kind_of, fits, item_count, item_at}
use Rattle.dag.specs.Refusal.{first, longest, no_sheet, bad_count, short_list, bad_pair, bad_pairs, bad_record, bad_record_at, bad_records, not_listed, not_listed_at, refusal}
use Rattle.dag.proofs.Laws.Refusal.{or_no, when_no, or_else_none, all_none, none_from, equal_same}
use Rattle.dag.proofs.Laws.Sheet.{two_bytes, length_listed, get_d_listed}
use Rattle.dag.proofs.Laws.Parts.{parts_none, record_none, record_items, wrong_other, fault_half}
use Rattle.dag.proofs.Laws.Passed.{record_length}

-- where the record of entry i begins, and its length
unfoldable pub off : ℕ → ℕ
off zero = 1546
off (suc m) = 1551 + 129 * m

unfoldable pub len : ℕ → ℕ
len zero = 5
len (suc m) = 129

-- byte j of the place of entry i
unfoldable pub place_byte : ℕ → ℕ → ℕ
place_byte i zero = off i / 256
place_byte i (suc zero) = off i % 256
place_byte i (suc (suc zero)) = len i / 256
place_byte i (suc (suc (suc j))) = len i % 256

abbrev pub header : List ℕ
header = 0x53 ∷ 0x48 ∷ 0x54 ∷ 0x31 ∷ 1 ∷ 0 ∷ 1 ∷ 0 ∷ 0 ∷ 0 ∷ []

-- byte k behind the places: each record begins with its kind, and all other bytes are 0
unfoldable pub later_byte : ℕ → ℕ
later_byte k = cond (eqb k 1546) 1 (cond (leb 1551 k && eqb ((k - 1551) % 129) 0) 4 0)

unfoldable pub byte_at : ℕ → ℕ
byte_at k = cond (ltb k 10) (get_or header k 0) (cond (ltb k 1034) (place_byte ((k - 10) / 4) ((k - 10) % 4)) (later_byte k))

unfoldable pub full_sheet : List ℕ
full_sheet = listed byte_at longest

pub full_length : length full_sheet ≡ longest
unfolding full_sheet
full_length = length_listed byte_at longest

full_at : (k : ℕ) → k < longest → get_or full_sheet k 0 ≡ byte_at k
unfolding full_sheet
full_at k h = get_d_listed byte_at longest k h

-- the bytes, part by part
byte_head : (k : ℕ) → k < 10 → byte_at k ≡ get_or header k 0
unfolding byte_at
byte_head k h = ap (λ (b : Bool). cond b (get_or header k 0) (cond (ltb k 1034) (place_byte ((k - 10) / 4) ((k - 10) % 4)) (later_byte k))) (lt-ltb k 10 h)

byte_behind : (k : ℕ) → 10 ≤ k → byte_at k ≡ cond (ltb k 1034) (place_byte ((k - 10) / 4) ((k - 10) % 4)) (later_byte k)
unfolding byte_at
byte_behind k h = ap (λ (b : Bool). cond b (get_or header k 0) (cond (ltb k 1034) (place_byte ((k - 10) / 4) ((k - 10) % 4)) (later_byte k))) (le-ltb k 10 h)

byte_place : (k i j : ℕ) → k ≡ 10 + 4 * i + j → i < 256 → j < 4 → byte_at k ≡ place_byte i j
byte_place k i j p h l =
    let q : (k - 10) / 4 ≡ i = omega (arith, p, l) in
    let r : (k - 10) % 4 ≡ j = omega (arith, p, l) in
    byte_behind k (omega (arith, p)) ∙ ap (λ (b : Bool). cond b (place_byte ((k - 10) / 4) ((k - 10) % 4)) (later_byte k)) (lt-ltb k 1034 (omega (arith, p, h, l))) ∙ ap₂ place_byte q r

byte_later : (k : ℕ) → 1034 ≤ k → byte_at k ≡ later_byte k
byte_later k h = byte_behind k (omega (arith, h)) ∙ ap (λ (b : Bool). cond b (place_byte ((k - 10) / 4) ((k - 10) % 4)) (later_byte k)) (le-ltb k 1034 h)

later_other : (k : ℕ) → ¬ (k ≡ 1546) → later_byte k ≡ cond (leb 1551 k && eqb ((k - 1551) % 129) 0) 4 0
unfolding later_byte
later_other k n = ap (λ (b : Bool). cond b 1 (cond (leb 1551 k && eqb ((k - 1551) % 129) 0) 4 0)) (ne_eqb k 1546 n)

later_before : (k : ℕ) → ¬ (k ≡ 1546) → k < 1551 → later_byte k ≡ 0
later_before k n h = later_other k n ∙ ap (λ (b : Bool). cond (b && eqb ((k - 1551) % 129) 0) 4 0) (lt-leb 1551 k h)

later_sum : (m j : ℕ) → j < 129 → later_byte (1551 + 129 * m + j) ≡ cond (eqb j 0) 4 0
later_sum m j h =
    let k = 1551 + 129 * m + j in
    let q : (k - 1551) % 129 ≡ j = omega (arith, h) in
    later_other k (λ p. omega (arith, p)) ∙ ap₂ (λ (a b : Bool). cond (a && b) 4 0) (le-leb 1551 k (omega arith)) (ap (λ (x : ℕ). eqb x 0) q)

-- the numbers of the header
number_head : (k : ℕ) → k + 1 < 10 → number_at full_sheet k ≡ get_or header k 0 * 256 + get_or header (k + 1) 0
unfolding number_at
number_head k h =
    ap₂ (λ (x y : ℕ). x * 256 + y) (full_at k (omega (arith, h)) ∙ byte_head k (omega (arith, h))) (full_at (k + 1) (omega (arith, h)) ∙ byte_head (k + 1) h)

count : count_of full_sheet ≡ 256
count = number_head 4 (omega arith)

trace : trace_length full_sheet ≡ 256
trace = number_head 6 (omega arith)

goal : goal_of full_sheet ≡ 0
goal = number_head 8 (omega arith)

-- the places
number_place : (k i j : ℕ) → k ≡ 10 + 4 * i + j → i < 256 → j + 1 < 4 → number_at full_sheet k ≡ place_byte i j * 256 + place_byte i (j + 1)
unfolding number_at
number_place k i j p h l =
    ap₂ (λ (x y : ℕ). x * 256 + y) (full_at k (omega (arith, p, h, l)) ∙ byte_place k i j p h (omega (arith, l)))
    (full_at (k + 1) (omega (arith, p, h, l)) ∙ byte_place (k + 1) i (j + 1) (omega (arith, p)) h l)

offset : (i : ℕ) → i < 256 → offset_at full_sheet i ≡ off i
unfolding place_byte
offset i h = number_place (10 + 4 * i) i 0 (omega arith) h (omega arith) ∙ two_bytes (off i)

extent : (i : ℕ) → i < 256 → length_at full_sheet i ≡ len i
unfolding place_byte
extent i h = number_place (12 + 4 * i) i 2 (omega arith) h (omega arith) ∙ two_bytes (len i)

off_next : (i : ℕ) → off i + len i ≡ off (suc i)
unfolding off len
off_next zero = refl
off_next (suc m) = omega arith

len_some : (i : ℕ) → ¬ (len i ≡ 0)
unfolding len
len_some zero p = omega (arith, p)
len_some (suc m) p = omega (arith, p)

off_within : (i : ℕ) → i < 256 → off i + len i ≤ longest
unfolding off len
off_within zero h = omega arith
off_within (suc m) h = omega (arith, h)

begins : (i : ℕ) → i ≤ 256 → begin_at full_sheet i ≡ off i
unfolding begin_at off
begins zero h = omega (arith, count, trace)
begins (suc i) h = ap₂ ◌+◌ (offset i (omega (arith, h))) (extent i (omega (arith, h))) ∙ off_next i

-- the heard numbers
trace_at_lem : (k : ℕ) → k < 256 → trace_at full_sheet k ≡ 0
unfolding number_at
trace_at_lem k h = ap (λ (n : ℕ). number_at full_sheet (10 + 4 * n + 2 * k)) count ∙ ap₂ (λ (x y : ℕ). x * 256 + y) (zero_at (10 + 4 * 256 + 2 * k) (omega arith) (omega (arith, h))) (zero_at (10 + 4 * 256 + 2 * k + 1) (omega arith) (omega (arith, h)))
  where
    zero_at : (j : ℕ) → 1034 ≤ j → j < 1546 → get_or full_sheet j 0 ≡ 0
    zero_at j l u = full_at j (omega (arith, u)) ∙ byte_later j l ∙ later_before j (λ p. omega (arith, p, u)) (omega (arith, u))

-- the records
extent_length : (i : ℕ) → i < 256 → length (record_at full_sheet i) ≡ len i
extent_length i h = record_length full_sheet i (omega (arith, offset i h, extent i h, off_within i h, full_length)) ∙ extent i h

record_at_lem : (i k : ℕ) → i < 256 → k < len i → get_or (record_at full_sheet i) k 0 ≡ byte_at (off i + k)
record_at_lem i k h l =
    get_or-take (length_at full_sheet i) (drop (offset_at full_sheet i) full_sheet) k 0 (omega (arith, l, extent i h)) ∙ get_or-drop (offset_at full_sheet i) full_sheet k 0
    ∙ ap (λ (o : ℕ). get_or full_sheet (o + k) 0) (offset i h) ∙ full_at (off i + k) (omega (arith, l, off_within i h))

atom_kind : kind_of (record_at full_sheet 0) ≡ 1
unfolding off len later_byte
atom_kind = record_at_lem 0 0 (omega arith) (omega arith) ∙ byte_later 1546 (omega arith)

sum_byte : (m j : ℕ) → suc m < 256 → j < 129 → get_or (record_at full_sheet (suc m)) j 0 ≡ cond (eqb j 0) 4 0
unfolding off len
sum_byte m j h l = record_at_lem (suc m) j h l ∙ byte_later (1551 + 129 * m + j) (omega arith) ∙ later_sum m j l

sum_item : (m j : ℕ) → suc m < 256 → j < 64 → item_at (record_at full_sheet (suc m)) j ≡ 0
unfolding number_at
sum_item m j h l =
    ap₂ (λ (x y : ℕ). x * 256 + y) (zero_at (1 + 2 * j) (omega arith) (omega (arith, l))) (zero_at (1 + 2 * j + 1) (omega arith) (omega (arith, l)))
  where
    zero_at : (k : ℕ) → 0 < k → k < 129 → get_or (record_at full_sheet (suc m)) k 0 ≡ 0
    zero_at k a b = sum_byte m k h b ∙ ap (λ (t : Bool). cond t 4 0) (ne_eqb k 0 (λ p. omega (arith, p, a)))

-- the rows, one by one
lettered : take 4 full_sheet ≡ letters
lettered = ext_get_or 0 (take 4 full_sheet) letters size (λ i h. same i (omega (arith, h, size)))
  where
    size : length (take 4 full_sheet) ≡ 4
    size = length-take-le 4 full_sheet (omega (arith, full_length))

    letter : (i : ℕ) → i < 4 → get_or header i 0 ≡ get_or letters i 0
    letter zero h = refl
    letter (suc zero) h = refl
    letter (suc (suc zero)) h = refl
    letter (suc (suc (suc zero))) h = refl
    letter (suc (suc (suc (suc i)))) h = absurd (omega (arith, h))

    same : (i : ℕ) → i < 4 → get_or (take 4 full_sheet) i 0 ≡ get_or letters i 0
    same i h = get_or-take 4 full_sheet i 0 h ∙ full_at i (omega (arith, h)) ∙ byte_head i (omega (arith, h)) ∙ letter i h

row1 : no_sheet full_sheet ≡ 0
unfolding no_sheet
row1 = sym (when_no 1 (or_no (le-ltb (length full_sheet) 10 (omega (arith, full_length))) (or_no (le-ltb longest (length full_sheet) (omega (arith, full_length))) (ap not (equal_same (take 4 full_sheet) letters lettered)))))

row2 : bad_count full_sheet ≡ 0
unfolding bad_count
row2 =
    sym (when_no 2
    (or_no (le-ltb (count_of full_sheet) 1 (omega (arith, count)))
    (or_no (le-ltb 256 (count_of full_sheet) (omega (arith, count)))
    (or_no (le-ltb 256 (trace_length full_sheet) (omega (arith, trace))) (lt-leb (count_of full_sheet) (goal_of full_sheet) (omega (arith, count, goal)))))))

row3 : short_list full_sheet ≡ 0
unfolding short_list
row3 = sym (when_no 3 (le-ltb (length full_sheet) (records_from full_sheet) (omega (arith, count, trace, full_length))))

pair_good : (i : ℕ) → i < 256 → bad_pair full_sheet i ≡ 0
unfolding bad_pair
pair_good i h =
    sym (when_no 4
    (or_no (ne_eqb (length_at full_sheet i) 0 (λ p. len_some i (sym (extent i h) ∙ p)))
    (or_no (ap not (eq-eqb (offset_at full_sheet i) (begin_at full_sheet i) (offset i h ∙ sym (begins i (omega (arith, h))))))
    (le-ltb (length full_sheet) (offset_at full_sheet i + length_at full_sheet i) (omega (arith, offset i h, extent i h, off_within i h, full_length))))))

row4 : bad_pairs full_sheet ≡ 0
unfolding bad_pairs off
row4 =
    or_else_none (first (bad_pair full_sheet) (count_of full_sheet)) _ (all_none (bad_pair full_sheet) (count_of full_sheet) (λ i h. pair_good i (omega (arith, h, count))))
    ∙ sym (when_no 4 (le-ltb (begin_at full_sheet (count_of full_sheet)) (length full_sheet) (omega (arith, full_length, ap (begin_at full_sheet) count ∙ begins 256 (le_refl 256)))))

record_plain : (i : ℕ) → i < 256 → (kind_of (record_at full_sheet i) ≡ 7 → ⊥) × (bad_record i (record_at full_sheet i) ≡ 0)
unfolding fits len
record_plain zero h =
    let r = record_at full_sheet 0 in
    ((λ p. omega (arith, atom_kind)), sym (record_none 0 r (ap₂ fits atom_kind (extent_length 0 h)) (parts_none (kind_of r) r (omega (arith, atom_kind)))))
record_plain (suc m) h =
    let r = record_at full_sheet (suc m) in
    let kind : kind_of r ≡ 4 = sum_byte m 0 h (omega arith) in
    let items : item_count r ≡ 64 = ap (λ (l : ℕ). (l - 1) / 2) (extent_length (suc m) h) in (
      (λ p. omega (arith, kind)),
      sym (when_no 6 (none_from (suc m) (item_at r) (item_count r) (λ j l. omega (arith, sum_item m j h (omega (arith, l, items)))))
          ∙ record_items (suc m) r (ap₂ fits kind (extent_length (suc m) h)) kind),
    )

record_good : (i : ℕ) → i < 256 → bad_record_at full_sheet i ≡ 0
record_good i h =
    let p = record_plain i h in sym (fault_half full_sheet i (sym p.1) refl (wrong_other full_sheet (record_at full_sheet i) p.0))

row5 : bad_records full_sheet ≡ 0
unfolding bad_records
row5 = all_none (bad_record_at full_sheet) (count_of full_sheet) (λ i h. record_good i (omega (arith, h, count)))

row7 : not_listed full_sheet ≡ 0
unfolding not_listed
row7 =
    all_none (not_listed_at full_sheet) (trace_length full_sheet)
    (λ k h. sym (when_no 7 (lt-leb (count_of full_sheet) (trace_at full_sheet k) (omega (arith, count, trace_at_lem k (omega (arith, h, trace)))))))

pub full_good : refusal full_sheet ≡ 0
unfolding refusal
full_good = or_else_none _ _ row1 ∙ or_else_none _ _ row2 ∙ or_else_none _ _ row3 ∙ or_else_none _ _ row4 ∙ or_else_none _ _ row5 ∙ row7

-- every byte is one
head_small : (k : ℕ) → get_or header k 0 < 256
head_small zero = omega arith
head_small (suc zero) = omega arith
head_small (suc (suc zero)) = omega arith
head_small (suc (suc (suc zero))) = omega arith
head_small (suc (suc (suc (suc zero)))) = omega arith
head_small (suc (suc (suc (suc (suc zero))))) = omega arith
head_small (suc (suc (suc (suc (suc (suc zero)))))) = omega arith
head_small (suc (suc (suc (suc (suc (suc (suc k))))))) = omega (arith, rest k)
  where
    rest : (j : ℕ) → get_or (0 ∷ 0 ∷ 0 ∷ []) j 0 < 256
    rest zero = omega arith
    rest (suc zero) = omega arith
    rest (suc (suc zero)) = omega arith
    rest (suc (suc (suc j))) = omega arith

place_small : (i j : ℕ) → i < 256 → place_byte i j < 256
unfolding place_byte
place_small i zero h = omega (arith, off_within i h)
place_small i (suc zero) h = omega arith
place_small i (suc (suc zero)) h = omega (arith, off_within i h)
place_small i (suc (suc (suc j))) h = omega arith

later_small : (k : ℕ) → later_byte k < 256
unfolding later_byte
later_small k = go (eqb k 1546) (leb 1551 k && eqb ((k - 1551) % 129) 0)
  where
    go : (a b : Bool) → cond a 1 (cond b 4 0) < 256
    go true b = omega arith
    go false true = omega arith
    go false false = omega arith

byte_small : (k : ℕ) → byte_at k < 256
byte_small k =
    by_cases (dec_lt k 10) (λ h. omega (arith, byte_head k h, head_small k))
    (λ n. by_cases (dec_lt k 1034)
    (λ h.
    omega (arith, byte_place k ((k - 10) / 4) ((k - 10) % 4) (omega arith) (omega (arith, h)) (omega arith), place_small ((k - 10) / 4) ((k - 10) % 4) (omega (arith, h))))
    (λ l. omega (arith, byte_later k (omega arith), later_small k)))

pub full_bytes : (k : ℕ) → get_or full_sheet k 0 < 256
full_bytes k =
    by_cases (dec_lt k longest) (λ h. omega (arith, full_at k h, byte_small k))
    (λ l. omega (arith, get_or-eq_default full_sheet 0 {n = k} (omega (arith, full_length))))
