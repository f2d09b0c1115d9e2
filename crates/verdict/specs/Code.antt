-- The number of an answer for callers in C, the count in it, and the numbers that say "out of reach". Where the count is at most 256 the number names the
-- answer: `number_names` (proofs/Laws/Code.antt).
use Rattle.std.specs.Prelude.{ℕ, ◌+◌, ◌≤◌, ◌<◌, Result, Ok, Err}
use Rattle.dag.specs.Code.{code_of}
use Rattle.dag.specs.declared.Refusal.{Refusal}
use Rattle.derive.specs.Inner.Ran.{verdict_of}
use Rattle.verdict.specs.Demands.{verdict_code}
use Rattle.verdict.specs.declared.Outcome.{Outcome}

-- "the rung count plus" the verdict's number
abbrev pub outcome_number : Outcome → ℕ
outcome_number o = verdict_code (verdict_of o.verdict) + o.made

abbrev pub number_of : Result Outcome Refusal → ℕ
number_of (Ok o) = outcome_number o
number_of (Err r) = code_of r

abbrev pub made_in : Result Outcome Refusal → ℕ
made_in (Ok o) = o.made
made_in (Err r) = 0

-- an answer that says "out of reach"
abbrev pub IsOut : ℕ → Type 0
IsOut answer = (2000 ≤ answer) × (answer < 3000)
