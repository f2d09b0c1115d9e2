-- What the three tables hold: line i has the key, the set of standard entries and the representative of entry i.
-- Defined: `RightLine`, one line of them; `RightBy`, they are right for the first n entries, with keys by a function; `Sized`, the lengths; `FilledBy`,
-- what filling them does. `Right` and `Filled`: with the keys of the entries; `Finished`: the keys have what opens a lock in them, as the tables are
-- read. `Opened`, that it was put there; `open_in` and `sought_in`, how.
use Rattle.std.specs.Prelude.{◌≡◌, cond, List, [], ℕ, ◌+◌, ◌*◌, ◌≤◌, ◌<◌, eqb, length, get_or}
use Rattle.bitset.specs.Words.{value}
use Rattle.deduction.specs.Entry.{Entry}
use Rattle.deduction.specs.Standard.{least, set_at, rep_at}
use Rattle.canonical.specs.Inner.Key.{key_at, key_kind, key_right, opposite_key, open_key_at}

-- a table of sets, as numbers
abbrev pub set_in : List (List ℕ) → ℕ → ℕ
set_in sets j = value (get_or sets j [])

-- a table of numbers
abbrev pub number_in : List ℕ → ℕ → ℕ
number_in l j = get_or l j 0

-- the line of entry i
pub record RightLine (e : ℕ → Entry) (i k : ℕ) (ws : List ℕ) (r : ℕ) : Type 0 where
  pub key : k ≡ key_at e i
  pub set : value ws ≡ set_at e i
  pub rep : r ≡ rep_at e i

-- the tables are right for the first n entries, whose keys are `k`
pub record RightBy (k : ℕ → ℕ) (e : ℕ → Entry) (n : ℕ) (keys : List ℕ) (sets : List (List ℕ)) (reps : List ℕ) : Type 0 where
  pub key : (i : ℕ) → i < n → get_or keys i 0 ≡ k i
  pub set : (i : ℕ) → i < n → value (get_or sets i []) ≡ set_at e i
  pub rep : (i : ℕ) → i < n → get_or reps i 0 ≡ rep_at e i

-- each table has 256 lines
pub record Sized (keys : List ℕ) (sets : List (List ℕ)) (reps : List ℕ) : Type 0 where
  pub key : length keys ≡ 256
  pub set : length sets ≡ 256
  pub rep : length reps ≡ 256

-- the tables after the first n entries were entered: their lines are right, and every other line is as it was
pub record FilledBy (k : ℕ → ℕ) (e : ℕ → Entry) (n : ℕ) (keys₀ : List ℕ) (sets₀ : List (List ℕ)) (reps₀ keys : List ℕ) (sets : List (List ℕ)) (reps : List ℕ) : Type 0 where
  pub right : RightBy k e n keys sets reps
  pub sized : Sized keys sets reps
  pub keys_kept : (i : ℕ) → n ≤ i → get_or keys i 0 ≡ get_or keys₀ i 0
  pub sets_kept : (i : ℕ) → n ≤ i → get_or sets i [] ≡ get_or sets₀ i []
  pub reps_kept : (i : ℕ) → n ≤ i → get_or reps i 0 ≡ get_or reps₀ i 0

-- as they are filled, entry by entry: the keys lack what opens a lock
abbrev pub Right : (ℕ → Entry) → ℕ → List ℕ → List (List ℕ) → List ℕ → Type 0
Right e = RightBy (key_at e) e

abbrev pub Filled : (ℕ → Entry) → ℕ → List ℕ → List (List ℕ) → List ℕ → List ℕ → List (List ℕ) → List ℕ → Type 0
Filled e = FilledBy (key_at e) e

-- as they are read: the keys have it
abbrev pub Finished : (ℕ → Entry) → ℕ → List ℕ → List (List ℕ) → List ℕ → List ℕ → List (List ℕ) → List ℕ → Type 0
Finished e n = FilledBy (open_key_at e n) e n

-- the key that opens a lock with this key: that of the opposite half of its second part
abbrev pub sought_in : List ℕ → ℕ → ℕ
sought_in keys key = opposite_key (number_in keys (key_right key))

-- the key with what opens it, where the first n lines have the keys of all halves: a lock's opener is the first with the key that opens it
unfoldable pub open_in : List ℕ → ℕ → ℕ → ℕ
open_in keys n key = cond (eqb (key_kind key) 7) (key + least (λ j. eqb (number_in keys j) (sought_in keys key)) n * 65536) key

-- the keys of the first n entries, with what opens a lock; every other line is as it was
pub record Opened (e : ℕ → Entry) (n : ℕ) (keys₀ keys : List ℕ) : Type 0 where
  pub key : (i : ℕ) → i < n → get_or keys i 0 ≡ open_key_at e n i
  pub sized : length keys ≡ 256
  pub kept : (i : ℕ) → n ≤ i → get_or keys i 0 ≡ get_or keys₀ i 0
