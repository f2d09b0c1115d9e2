-- The output buffer of a verdict call (document 01: the lent buffer), read.
-- Defined: `front`, the number of bytes before the first rung; `gained_in`, `used_in`, `remainder_in`, the sets that stand there; `steps_in`, the rungs.
use Rattle.std.specs.Prelude.{ℕ, zero, suc, ◌+◌, ◌*◌, List, [], ◌∷◌, ◌++◌, take, drop}
use Rattle.bitset.specs.Words.{set_of}
use Rattle.deduction.specs.Step.{Step, step}
use Rattle.dag.specs.Sheet.{number_at}

-- the bytes before the first rung: three sets of 32 bytes each (document 02, E5)
abbrev pub front : ℕ
front = 96

-- the set that the 32 bytes from a place on hold
abbrev pub set_in : ℕ → List ℕ → ℕ
set_in at out = set_of (take 32 (drop at out))

-- "32 bytes of gained set"
abbrev pub gained_in : List ℕ → ℕ
gained_in = set_in 0

-- "Used set, then remainder, 32 bytes each, go after the gained set and before the rungs"
abbrev pub used_in : List ℕ → ℕ
used_in = set_in 32

abbrev pub remainder_in : List ℕ → ℕ
remainder_in = set_in 64

-- a rung read from 40 bytes: "gained head, rule, first source, second source (2 bytes each) and a 32-byte set of summed sources"
unfoldable pub read_step : List ℕ → Step
read_step r = step (number_at r 0) (number_at r 2) (number_at r 4) (number_at r 6) (set_in 8 r)

-- the first k rungs of a buffer
unfoldable pub steps_in : List ℕ → ℕ → List Step
steps_in out zero = []
steps_in out (suc k) = steps_in out k ++ (read_step (drop (front + 40 * k) out) ∷ [])
