-- The heads that there are to hear, as a list.
-- Defined: `stands`, does a number stand in a list; `with_head` and `with_heads`, numbers put behind a list unless they stand in it; `head_or_last`, the number at a
-- place, or the last; `four_from`, four numbers from a place on; `Noted`, what holds of a list's places and the set of what stands there.
use Rattle.std.specs.Prelude.{ℕ, ◌+◌, ◌-◌, ◌≤◌, ◌≡◌, Bool, false, ◌||◌, cond, List, [], ◌∷◌, ◌++◌, eqb, min, length, get_or, take}
use Rattle.std.specs.Int.Count.{ones}
use Rattle.bitset.specs.Set.{member}
use Rattle.bitset.specs.Words.{value}
use Rattle.bitset.specs.Inner.{FourWords}

unfoldable pub stands : ℕ → List ℕ → Bool
stands x [] = false
stands x (e ∷ es) = eqb e x || stands x es

-- a number goes behind the others unless it stands among them
unfoldable pub with_head : List ℕ → ℕ → List ℕ
with_head es x = es ++ cond (stands x es) [] (x ∷ [])

-- a list of numbers, one by one
unfoldable pub with_heads : List ℕ → List ℕ → List ℕ
with_heads es [] = es
with_heads es (x ∷ xs) = with_heads (with_head es x) xs

-- the number at place k, and the last where the list is shorter
abbrev pub head_or_last : List ℕ → ℕ → ℕ
head_or_last es k = get_or es (min (length es - 1) k) 0

-- the four from place k on
abbrev pub four_from : List ℕ → ℕ → List ℕ
four_from es k = head_or_last es k ∷ head_or_last es (k + 1) ∷ head_or_last es (k + 2) ∷ head_or_last es (k + 3) ∷ []

-- the set has what stands in the first len places of the list, each once
pub record Noted (list : List ℕ) (len : ℕ) (seen : List ℕ) : Type 0 where
  pub words : FourWords seen
  pub stand : (x : ℕ) → member (value seen) x ≡ stands x (take len list)
  pub once : len ≤ ones (value seen)
