-- A step's 40 bytes (document 01: "40 bytes a rung"), and the value of a step as the program holds it.
-- Defined: `two`, `step_bytes`, `steps_bytes`, `step_of`.
use Rattle.std.specs.Prelude.{ℕ, ◌/◌, ◌%◌, List, [], ◌∷◌, ◌++◌}
use Rattle.bitset.specs.Words.{value, bytes_of}
use Rattle.deduction.specs.Step.{Step as TheoryStep, step}
use Rattle.derive.specs.declared.Step.{Step}

-- a number as two bytes, high byte first
abbrev pub two : ℕ → List ℕ
two x = x / 256 ∷ x % 256 ∷ []

-- "gained head, rule, first source, second source (2 bytes each) and a 32-byte set of summed sources in the same form"
unfoldable pub step_bytes : TheoryStep → List ℕ
step_bytes s = two s.head ++ (two s.rule ++ (two s.first ++ (two s.second ++ bytes_of 32 s.set)))

unfoldable pub steps_bytes : List TheoryStep → List ℕ
steps_bytes [] = []
steps_bytes (s ∷ ss) = step_bytes s ++ steps_bytes ss

-- the step that the program holds
abbrev pub step_of : Step → TheoryStep
step_of s = step s.head s.rule s.first s.second (value s.set)
