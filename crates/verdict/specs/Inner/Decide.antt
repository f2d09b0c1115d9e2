-- What the inner functions that decide hand back. Defined: `reduced_of`, what is left of a set;
-- `missing_in`, what is missing by a line; `AtStart`, known set and lines at the start; `Decided`, the verdict on a good sheet.
use Rattle.std.specs.Prelude.{ℕ, ◌+◌, ◌*◌, ◌≡◌, cond, List, ◌++◌, length, drop}
use Rattle.deduction.specs.Setting.{Setting}
use Rattle.bitset.specs.Words.{value}
use Rattle.deduction.specs.Elimination.{Reduced}
use Rattle.deduction.specs.Run.{knowledge}
use Rattle.dag.specs.Record.{entry_at}
use Rattle.start.specs.Start.{start_heads}
use Rattle.derive.specs.Inner.Ran.{verdict_of, LinesOf}
use Rattle.derive.specs.Bytes.{steps_bytes}
use Rattle.derive.specs.declared.run.Ended.{Ended}
use Rattle.knowledge.specs.declared.lines.Lines.{Lines}
use Rattle.verdict.specs.Buffer.{front}
use Rattle.verdict.specs.Answer.{outcome_of, front_of}

-- the remainder's words and the used set's
abbrev pub reduced_of : List ℕ → List ℕ → Reduced
reduced_of remainder used = record { remainder = value remainder; used = value used }

-- what is missing of an entry with this line and the set v: the line, or without the sum rule the set itself
unfoldable pub missing_in : Setting → Reduced → ℕ → Reduced
missing_in on line v = cond (on 6) line (record { remainder = v; used = 0 })

-- the known set and the lines are those of what is gained at the start
pub record AtStart (s : List ℕ) (cut : ℕ) (reps known : List ℕ) (ls : Lines) : Type 0 where
  pub members : value known ≡ (knowledge (entry_at s) (start_heads s cut)).known
  pub lines : LinesOf s reps (knowledge (entry_at s) (start_heads s cut)).rows ls

-- the outcome of the run, and the buffer after it
pub record Decided (on : Setting) (s : List ℕ) (cut budget : ℕ) (out out' : List ℕ) (r : Ended) : Type 0 where
  pub verdict : verdict_of r.verdict ≡ (outcome_of on s cut budget).verdict
  pub count : r.made ≡ length (outcome_of on s cut budget).steps
  pub bytes : out'
      ≡ front_of on s cut budget
      ++ (steps_bytes (outcome_of on s cut budget).steps ++ drop (front + 40 * length (outcome_of on s cut budget).steps) out)
