-- The rows in a table of sets.
-- Shown: the newest is the last; they depend on their own places alone, so that a store past them keeps them. Assumes nothing.
use mathlib.Core.Path.{◌≡◌, refl, ap, ap₂}
use mathlib.Core.List.{List, [], ◌∷◌, ◌++◌}
use Prim.Native.Nat.{ℕ, zero, suc, ◌+◌, ◌≤◌}
use native.Mathlib.Numerals.{add-one}
use native.Mathlib.Omega.{arith}
use lib.ListN.{get_or}
use Rattle.bitset.specs.Words.{value}
use Rattle.knowledge.specs.Inner.Rows.{vectors_of, SameOutside}

-- the newest row is the last
pub vectors_more : (ws : List (List ℕ)) (n : ℕ) → vectors_of ws (n + 1) ≡ vectors_of ws n ++ (value (get_or ws n []) ∷ [])
unfolding vectors_of
vectors_more ws n = ap (vectors_of ws) (add-one n)

-- the first n rows are the first n places, so a store past them keeps them
pub vectors_kept : {a b : ℕ} {ws vs : List (List ℕ)} (n : ℕ) → n ≤ a → SameOutside a b ws vs → vectors_of vs n ≡ vectors_of ws n
unfolding vectors_of
vectors_kept zero h p = refl
vectors_kept {a = a} {b = b} {ws = ws} {vs = vs} (suc n) h p =
    ap₂ (λ (rs : List ℕ) (r : List ℕ). rs ++ (value r ∷ [])) (vectors_kept {a = a} {b = b} {ws = ws} {vs = vs} n (omega arith) p) (p.under n [] (omega arith))
