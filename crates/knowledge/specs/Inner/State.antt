-- The state in memory, read as that of Elimination.antt of `deduction`.
-- Defined: `Room`, a place for one more row; `Holds`, the words hold a state; `Stored`, what hearing an entry stores.
use Rattle.std.specs.Prelude.{ℕ, ◌+◌, ◌≤◌, ◌≡◌, cond, List, [], ◌∷◌, ◌++◌, map, eqb}
use Rattle.std.specs.Int.Count.{ones}
use Rattle.bitset.specs.Set.{insert}
use Rattle.bitset.specs.Words.{value}
use Rattle.deduction.specs.Elimination.{Row, Knowledge}
use Rattle.knowledge.specs.Inner.Rows.{vectors_of, SameOutside}

-- at most as many rows as known entries: so there is a place for the row of an entry that isn't known yet
abbrev pub Room : List ℕ → ℕ → Type 0
Room known len = len ≤ ones (value known)

-- the known set's words, the rows and their number hold the state k. What each row uses stands in the lines
pub record Holds (k : Knowledge) (g : List ℕ) (ws : List (List ℕ)) (len : ℕ) : Type 0 where
  pub known : value g ≡ k.known
  pub rows : vectors_of ws len ≡ map (λ (r : Row). r.vector) k.rows

-- e joins the known set, the remainder is a row behind the others unless it is empty, and every other place of the table is as it was
pub record Stored (e remainder : ℕ) (g : List ℕ) (ws : List (List ℕ)) (len : ℕ) (g' : List ℕ) (ws' : List (List ℕ)) (len' : ℕ) : Type 0 where
  pub known : value g' ≡ insert (value g) e
  pub count : len' ≡ cond (eqb remainder 0) len (len + 1)
  pub rows : vectors_of ws' len' ≡ vectors_of ws len ++ cond (eqb remainder 0) [] (remainder ∷ [])
  pub others : SameOutside len len' ws ws'
