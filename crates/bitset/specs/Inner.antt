-- What inner contracts say of sets. Defined: `FourWords`, four words of 64 bits; `IsLowest`, the lowest member of a set; `TakesLowest`, a step of
-- the iterator over the members of a set.
use Rattle.std.specs.Prelude.{ℕ, ◌^◌, ◌<◌, ◌≡◌, true, false, List, length, get_or, Option, MatchOption}
use Rattle.std.specs.Int.Bits.{bit_xor}
use Rattle.bitset.specs.Set.{member, single}

-- a set in memory that is lent: a word read from it has 64 bits
pub record FourWords (s : List ℕ) : Type 0 where
  pub four : length s ≡ 4
  pub below : (i : ℕ) → get_or s i 0 < 2 ^ 64

-- e is the lowest member of s
pub record IsLowest (s e : ℕ) : Type 0 where
  pub own : member s e ≡ true
  pub none : (k : ℕ) → k < e → member s k ≡ false

-- the lowest member r of s is taken out, and t is what is left; None exactly where nothing is left
abbrev pub TakesLowest : ℕ → Option ℕ → ℕ → Type 0
TakesLowest s r t = MatchOption r ((s ≡ 0) × (t ≡ 0)) (λ e. IsLowest s e × (t ≡ bit_xor s (single e)))
