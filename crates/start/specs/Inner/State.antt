-- What making the state at the start needs.
-- Defined: `public_key`, the key of a public atom; `Keyed`, a table of keys; `Represented`, a table of representatives; `Started`, what the whole needs.
use Rattle.std.specs.Prelude.{ℕ, ◌+◌, ◌^◌, ◌≤◌, ◌<◌, ◌≡◌, Bool, ◌&&◌, List, leb, ltb, get_or}
use Rattle.bitset.specs.Words.{value}
use Rattle.deduction.specs.Standard.{set_at, rep_at}
use Rattle.dag.specs.Sheet.{count_of, trace_length}
use Rattle.dag.specs.Record.{entry_at}
use Rattle.canonical.specs.Inner.Key.{open_key_at}
use Rattle.knowledge.specs.Inner.Lines.{set_in}

-- a public atom's key: an atom's key is 2 ^ 32 and its number
abbrev pub public_key : ℕ → Bool
public_key k = leb (2 ^ 32) k && ltb k (2 ^ 32 + 256)

-- the table has the keys of a sheet's entries
abbrev pub Keyed : List ℕ → List ℕ → Type 0
Keyed s keys = (i : ℕ) → i < count_of s → get_or keys i 0 ≡ open_key_at (entry_at s) (count_of s) i

-- the table has the representatives of a sheet's entries
abbrev pub Represented : List ℕ → List ℕ → Type 0
Represented s reps = (i : ℕ) → i < count_of s → get_or reps i 0 ≡ rep_at (entry_at s) i

-- the tables of keys and representatives are right for a sheet, the cut is within its log, each remainder is its set, and the other tables are empty
pub record Started (s : List ℕ) (cut : ℕ) (keys reps : List ℕ) (rs us cs : List (List ℕ)) (es : List ℕ) : Type 0 where
  pub within : cut ≤ trace_length s
  pub key : Keyed s keys
  pub rep : Represented s reps
  pub fresh : (i : ℕ) → i < count_of s → set_in rs i ≡ set_at (entry_at s) i
  pub unused : (i : ℕ) → set_in us i ≡ 0
  pub flat : (q : ℕ) → set_in cs q ≡ 0
  pub none : value es ≡ 0
