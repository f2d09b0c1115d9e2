-- Elimination over sets of standard entries: the sum rule decided. A set of entries is one number, so nothing bounds their number.
-- Defined: `Row`; `reduce`, which hands back remainder and used set; `Knowledge` and `learn`, the intruder's state.
use Rattle.std.specs.Prelude.{ℕ, cond, List, [], ◌∷◌, ◌++◌, eqb}
use Rattle.std.specs.Int.Bits.{bit_xor}
use Rattle.bitset.specs.Set.{member, insert, single, leading}

-- A row of the basis: a sum of known sets, and the learnt entries whose sum it is. Its pivot is its vector's leading entry
pub record Row : Type 0 where
  pub vector : ℕ
  pub uses : ℕ

-- "the set of gained terms used and the exact remainder": what is left of a set after some rows were taken off, and what they use
pub record Reduced : Type 0 where
  pub remainder : ℕ
  pub used : ℕ

-- take one row off a set that has its pivot
unfoldable pub take_off : Reduced → Row → Reduced
take_off x r =
    cond (member x.remainder (leading r.vector)) (record { remainder = bit_xor x.remainder r.vector; used = bit_xor x.used r.uses }) x

-- take the rows off in order
unfoldable pub reduce_from : Reduced → List Row → Reduced
reduce_from x [] = x
reduce_from x (r ∷ rows) = reduce_from (take_off x r) rows

unfoldable pub reduce : List Row → ℕ → Reduced
reduce rows v = reduce_from (record { remainder = v; used = 0 }) rows

-- What the intruder knows: the set of known representatives, and the basis rows in the order learnt
pub record Knowledge : Type 0 where
  pub known : ℕ
  pub rows : List Row

-- a new row, unless nothing remains
unfoldable pub add_row : List Row → ℕ → Reduced → List Row
add_row rows e x = cond (eqb x.remainder 0) rows (rows ++ (record { vector = x.remainder; uses = bit_xor x.used (single e) } ∷ []))

-- learn the representative e, whose set is v. "A sum rung draws on the gained terms that were not, when gained, a sum of those gained
-- earlier": these are the entries with a row
unfoldable pub learn_as : Knowledge → ℕ → ℕ → Knowledge
learn_as k e v = cond (member k.known e) k (record { known = insert k.known e; rows = add_row k.rows e (reduce k.rows v) })

-- learn the representative e, by the table of sets
abbrev pub learn : (ℕ → ℕ) → Knowledge → ℕ → Knowledge
learn s k e = learn_as k e (s e)

-- learn a list in order
unfoldable pub learn_all : (ℕ → ℕ) → Knowledge → List ℕ → Knowledge
learn_all s k [] = k
learn_all s k (e ∷ es) = learn_all s (learn s k e) es

unfoldable pub nothing : Knowledge
nothing = record { known = 0; rows = [] }
