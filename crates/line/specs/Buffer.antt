-- What writing text into a buffer does.
-- Defined: `Appended`, text from a place on.
use Rattle.std.specs.Prelude.{◌≡◌, ℕ, ◌+◌, ◌≤◌, List, ◌++◌, length, take, drop}

-- the buffer d became d': w stands from the place at on, every other byte is as before, and r is the place after w, within the buffer
pub record Appended (d : List ℕ) (at : ℕ) (w : List ℕ) (d' : List ℕ) (r : ℕ) : Type 0 where
  pub place : r ≡ at + length w
  pub bytes : d' ≡ take at d ++ w ++ drop (at + length w) d
  pub within : r ≤ length d
