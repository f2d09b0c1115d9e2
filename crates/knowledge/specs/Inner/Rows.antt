-- The rows in a table of sets.
-- Defined: `vectors_of`, the first sets; `SameOutside`, what a store keeps.
use Rattle.std.specs.Prelude.{ℕ, zero, suc, ◌≤◌, ◌<◌, ◌≡◌, List, [], ◌∷◌, ◌++◌, length, get_or}
use Rattle.bitset.specs.Words.{value}

-- the first n sets, the newest last
unfoldable pub vectors_of : List (List ℕ) → ℕ → List ℕ
vectors_of ws zero = []
vectors_of ws (suc n) = vectors_of ws n ++ (value (get_or ws n []) ∷ [])

-- vs is ws but for the elements from a up to b
pub record SameOutside {A : Type 0} (a b : ℕ) (ws vs : List A) : Type 0 where
  pub size : length vs ≡ length ws
  pub under : (k : ℕ) (d : A) → k < a → get_or vs k d ≡ get_or ws k d
  pub over : (k : ℕ) (d : A) → b ≤ k → get_or vs k d ≡ get_or ws k d
