-- The whole step of a number, read off the tables: the keys, which have what opens a lock in them, and for a sum the line's used set.
-- Defined: `second_in`, the second source; `line_step`, the step of a head, a rule and a first source; `step_in`, the step of a number. That it is the step of the
-- theory is a law (proofs/Laws/Step.antt).
use Rattle.std.specs.Prelude.{ℕ, ◌/◌, ◌%◌, cond, List, eqb, ltb, get_or}
use Rattle.deduction.specs.Step.{Step, step, unused}
use Rattle.canonical.specs.Inner.Key.{key_right, key_opener}
use Rattle.knowledge.specs.Inner.Lines.{set_in}

-- the second source of a step by a rule other than the sum, read off the keys
unfoldable pub second_in : List ℕ → ℕ → ℕ → ℕ → ℕ
second_in keys h r i =
    cond (ltb r 3) unused
    (cond (eqb r 3) (key_right (get_or keys i 0))
    (cond (eqb r 7) (key_opener (get_or keys i 0)) (key_right (get_or keys h 0))))

-- the whole step of head h, rule r and first source i, read off the keys and the used sets
unfoldable pub line_step : List ℕ → List (List ℕ) → ℕ → ℕ → ℕ → Step
line_step keys used h r i = cond (eqb r 6) (step h 6 unused unused (set_in used h)) (step h r i (second_in keys h r i) 0)

-- the step of a number
unfoldable pub step_in : List ℕ → List (List ℕ) → ℕ → Step
step_in keys used x = line_step keys used (x / 65536 % 256) (x / 256 % 256) (x % 256)
