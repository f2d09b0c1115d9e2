-- Two calls with two budgets (document 02, E7). Defined: `Settled`, which answers are neither refused nor stopped; `Agrees`, what an answer says beside every
-- other call on the same sheet, at the same cut and by the same rules.
use Rattle.std.specs.Prelude.{ℕ, ◌≤◌, ◌<◌, ◌≡◌, List}
use Rattle.deduction.specs.Setting.{Setting}
use Rattle.verdict.specs.Demands.{Demanded}

-- reached or out of reach
abbrev pub Settled : ℕ → Type 0
Settled answer = (1000 ≤ answer) × (answer < 3000)

-- "its reached and out of reach agree with the full call at any budget where that is neither refused nor stopped": the numbers are equal, so verdict and
-- rung count are, whatever the limit, the budget and the buffer of the other call
abbrev pub Agrees : Setting → List ℕ → ℕ → ℕ → Type 0
Agrees on s cut answer =
    (limit budget : ℕ) (old out : List ℕ) (other : ℕ) → Demanded on limit s cut budget old out other → Settled answer → Settled other → answer ≡ other
