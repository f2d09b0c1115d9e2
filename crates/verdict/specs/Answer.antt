-- What a verdict call answers and writes, for every input (document 01: "Rungs", "Grounding table").
-- The same promise as `Demanded` (specs/Demands.antt), as equations with the run, for each setting of the rules and each limit on the budget.
-- Defined: `outcome_of`, `answer_of`, `missing_of`, `front_of`, `buffer_of`.
use Rattle.std.specs.Prelude.{ℕ, ◌+◌, ◌*◌, cond, List, ◌++◌, eqb, length, drop}
use Rattle.bitset.specs.Words.{bytes_of}
use Rattle.deduction.specs.Setting.{Setting}
use Rattle.deduction.specs.Standard.{set_at}
use Rattle.deduction.specs.Elimination.{Row, Reduced, reduce}
use Rattle.deduction.specs.Run.{Verdict, derivable, underivable, exhausted, Outcome, knowledge, run}
use Rattle.dag.specs.Sheet.{count_of, goal_of}
use Rattle.dag.specs.Record.{entry_at}
use Rattle.derive.specs.Bytes.{steps_bytes}
use Rattle.start.specs.Start.{start_heads}
use Rattle.verdict.specs.Buffer.{front}
use Rattle.verdict.specs.Refused.{refusal_of}
use Rattle.verdict.specs.Demands.{verdict_code}

unfoldable pub outcome_of : Setting → List ℕ → ℕ → ℕ → Outcome
outcome_of on s cut budget = run on (entry_at s) (count_of s) (goal_of s) budget (start_heads s cut)

-- "a refusal number, or the rung count plus" the verdict's number
unfoldable pub answer_of : Setting → ℕ → List ℕ → ℕ → ℕ → ℕ → ℕ
answer_of on limit s cut budget space =
    cond (eqb (refusal_of limit s cut budget space) 0) (verdict_code (outcome_of on s cut budget).verdict + length (outcome_of on s cut budget).steps)
    (refusal_of limit s cut budget space)

-- what is missing at out of reach; nothing for the other verdicts
unfoldable pub missing_as : Verdict → Reduced → Reduced
missing_as derivable x = record { remainder = 0; used = 0 }
missing_as underivable x = x
missing_as exhausted x = record { remainder = 0; used = 0 }

-- what is missing of an entry with the set v, by the rows: "Without sum .. the used set is then empty and the remainder is the goal's own set"
unfoldable pub missing_by : Setting → List Row → ℕ → Reduced
missing_by on rows v = cond (on 6) (reduce rows v) (record { remainder = v; used = 0 })

-- what is missing of the goal
unfoldable pub missing_of : Setting → List ℕ → ℕ → ℕ → Reduced
missing_of on s cut budget =
    missing_as (outcome_of on s cut budget).verdict
    (missing_by on (knowledge (entry_at s) (outcome_of on s cut budget).learnt).rows (set_at (entry_at s) (goal_of s)))

-- the bytes before the first rung: gained set, "Used set, then remainder, 32 bytes each"
abbrev pub front_bytes : ℕ → ℕ → ℕ → List ℕ
front_bytes gained used remainder = bytes_of 32 gained ++ (bytes_of 32 used ++ bytes_of 32 remainder)

unfoldable pub front_of : Setting → List ℕ → ℕ → ℕ → List ℕ
front_of on s cut budget =
    front_bytes (knowledge (entry_at s) (outcome_of on s cut budget).learnt).known (missing_of on s cut budget).used (missing_of on s cut budget).remainder

-- these, "then 40 bytes a rung .. Later bytes keep their values". "A refusal returns its number alone; the buffer keeps every byte"
unfoldable pub buffer_of : Setting → ℕ → List ℕ → ℕ → ℕ → List ℕ → List ℕ
buffer_of on limit s cut budget old =
    cond (eqb (refusal_of limit s cut budget (length old)) 0)
    (front_of on s cut budget
    ++ (steps_bytes (outcome_of on s cut budget).steps ++ drop (front + 40 * length (outcome_of on s cut budget).steps) old))
    old
