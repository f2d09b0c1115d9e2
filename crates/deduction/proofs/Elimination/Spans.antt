-- Sums of sets, and what the elimination is about.
-- Defined: `Span`; `NoLeading`, what a remainder is; `xor_over`, the sum of a set's members; `Independent`, the entries that sums draw on.
use Prim.Native.Nat.{ℕ, zero, suc}
use mathlib.Core.Path.{◌≡◌}
use mathlib.Core.Bool.{false, cond}
use mathlib.Core.List.{List, ◌∷◌, ◌++◌, map, Memᴰ}
use lib.Bits.{bit_xor}
use Rattle.bitset.specs.Set.{member, leading}

-- the sums of finitely many of the given vectors, possibly none
pub data Span (vs : List ℕ) : ℕ → Type 0 where
  none : Span vs 0
  more : {v w : ℕ} → Memᴰ v vs → Span vs w → Span vs (bit_xor v w)

-- "The remainder holds no standard entry that is the highest-numbered one in some sum of gained terms, which makes it unique": x holds no
-- leading entry of a set in the span that isn't empty
abbrev pub NoLeading : List ℕ → ℕ → Type 0
NoLeading vs x = (w : ℕ) → Span vs w → ¬ (w ≡ 0) → member x (leading w) ≡ false

-- the sum of the sets `s e` of the members e of u that are below n
unfoldable pub xor_over : (ℕ → ℕ) → ℕ → ℕ → ℕ
xor_over s zero u = 0
xor_over s (suc n) u = cond (member u n) (bit_xor (s n) (xor_over s n u)) (xor_over s n u)

-- "the gained terms that were not, when gained, a sum of those gained earlier": e stands in the list of learnt entries, and its set is
-- no sum of the sets before it
abbrev pub Independent : (ℕ → ℕ) → List ℕ → ℕ → Type 0
Independent s es e = (before : List ℕ) × (after : List ℕ) × (es ≡ before ++ (e ∷ after)) × (¬ Span (map s before) (s e))
