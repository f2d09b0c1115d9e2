-- The tables of lines and columns.
-- Defined: `set_in`, a set of a table; `line_at`, a line; `plus`, a line with a row added; `Sizes`, the tables' lengths; `Swept`, a row was added to the lines in a set;
-- `Flipped`, the columns in a set were changed by some lines; `Kept`, what the tables hold while entries are learnt; `Entered`, one line more at the start; `head_in`, is
-- an entry a head by the table of representatives; `Begun`, what columns and empty lines hold at the start. `SweptIn` and `KeptIn` say `Swept` and `Kept` of the
-- struct that has the tables.
use Rattle.std.specs.Prelude.{ℕ, ◌≡◌, Bool, true, cond, ◌&&◌, ◌||◌, List, [], eqb, ltb, length, get_or}
use Rattle.std.specs.Bool.{xor}
use Rattle.std.specs.Int.Bits.{bit_xor}
use Rattle.bitset.specs.Set.{member}
use Rattle.bitset.specs.Words.{value}
use Rattle.bitset.specs.Inner.{FourWords}
use Rattle.deduction.specs.Elimination.{Row, Reduced, reduce}
use Rattle.knowledge.specs.declared.lines.Lines.{Lines}

-- set k of a table of sets
abbrev pub set_in : List (List ℕ) → ℕ → ℕ
set_in t k = value (get_or t k [])

-- line k: what is left of entry k's set, and the learnt entries used
abbrev pub line_at : List (List ℕ) → List (List ℕ) → ℕ → Reduced
line_at remainders used k = record { remainder = set_in remainders k; used = set_in used k }

-- a line with a row added
abbrev pub plus : Reduced → ℕ → ℕ → Reduced
plus x vector uses = record { remainder = bit_xor x.remainder vector; used = bit_xor x.used uses }

-- remainders, used sets and empty lines have their sizes
pub record Sizes (rs us : List (List ℕ)) (es : List ℕ) : Type 0 where
  pub remainders : length rs ≡ 256
  pub used : length us ≡ 256
  pub empty : FourWords es

-- a row was added to each line in the set `lines`, the other lines are as they were, and those of which nothing is left now are among the empty ones
pub record Swept (vector uses lines : ℕ) (rs us : List (List ℕ)) (es : List ℕ) (rs' us' : List (List ℕ)) (es' : List ℕ) : Type 0 where
  pub sizes : Sizes rs' us' es'
  pub line : (k : ℕ) → line_at rs' us' k ≡ cond (member lines k) (plus (line_at rs us k) vector uses) (line_at rs us k)
  pub empty : (k : ℕ) → member (value es') k ≡ (member (value es) k || (member lines k && eqb (set_in rs' k) 0))

-- the same of the struct, where its tables have their sizes; the columns are as they were
pub record SweptIn (vector uses lines : ℕ) (a b : Lines) : Type 0 where
  pub swept : Sizes a.remainders a.used a.empty → Swept vector uses lines a.remainders a.used a.empty b.remainders b.used b.empty
  pub columns : b.columns ≡ a.columns

-- each column in the set `columns` has the lines that it had or that are in `lines`, but not in both; the other columns are as they were
pub record Flipped (lines columns : ℕ) (cs cs' : List (List ℕ)) : Type 0 where
  pub size : length cs' ≡ 256
  pub column : (q : ℕ) → set_in cs' q ≡ cond (member columns q) (bit_xor (set_in cs q) lines) (set_in cs q)

-- The tables after some rows, for the entries that are live and their sets `s`: each live line is what the rows leave of its set, column q has the live lines whose
-- remainder has q, and the empty lines are the live ones of which nothing is left
pub record Kept (live : ℕ → Bool) (s : ℕ → ℕ) (rows : List Row) (rs us cs : List (List ℕ)) (es : List ℕ) : Type 0 where
  pub sizes : Sizes rs us es
  pub size : length cs ≡ 256
  pub line : (k : ℕ) → live k ≡ true → line_at rs us k ≡ reduce rows (s k)
  pub column : (q k : ℕ) → member (set_in cs q) k ≡ (live k && member (reduce rows (s k)).remainder q)
  pub empty : (k : ℕ) → member (value es) k ≡ (live k && eqb (reduce rows (s k)).remainder 0)

abbrev pub KeptIn : (ℕ → Bool) → (ℕ → ℕ) → List Row → Lines → Type 0
KeptIn live s rows l = Kept live s rows l.remainders l.used l.columns l.empty

-- line i, whose remainder is `set`, was put into columns and empty lines
pub record Entered (i set : ℕ) (cs : List (List ℕ)) (es : List ℕ) (cs' : List (List ℕ)) (es' : List ℕ) : Type 0 where
  pub size : length cs' ≡ 256
  pub words : FourWords es'
  pub column : (q k : ℕ) → member (set_in cs' q) k ≡ xor (member (set_in cs q) k) (eqb i k && member set q)
  pub empty : (k : ℕ) → member (value es') k ≡ (member (value es) k || (eqb i k && eqb set 0))

-- is entry k one of the first n and its own representative?
abbrev pub head_in : List ℕ → ℕ → ℕ → Bool
head_in reps n k = ltb k n && eqb (get_or reps k 0) k

-- columns and empty lines where each line's remainder is as the table has it, for the heads among the first n entries
pub record Begun (n : ℕ) (rs : List (List ℕ)) (reps : List ℕ) (cs : List (List ℕ)) (es : List ℕ) : Type 0 where
  pub size : length cs ≡ 256
  pub words : FourWords es
  pub column : (q k : ℕ) → member (set_in cs q) k ≡ (head_in reps n k && member (set_in rs k) q)
  pub empty : (k : ℕ) → member (value es) k ≡ (head_in reps n k && eqb (set_in rs k) 0)
