-- The run from a state of knowledge, as the program makes it: the same as `run` from the list of heads learnt (proofs/Laws/Machine.antt).
-- Defined: `Ended`, how a run ends; `step_next`, the next step; `stopped`, the end of a run that makes no more steps; `follow`, a step before a run; `machine`, the run.
use Rattle.std.specs.Prelude.{ℕ, zero, suc, true, false, cond, not, ◌&&◌, List, [], ◌∷◌, eqb}
use Rattle.deduction.specs.Setting.{Setting}
use Rattle.deduction.specs.Entry.{Entry}
use Rattle.deduction.specs.Standard.{set_at}
use Rattle.deduction.specs.Elimination.{Knowledge, learn}
use Rattle.deduction.specs.Step.{Step}
use Rattle.deduction.specs.Run.{Verdict, derivable, underivable, exhausted, no_step, next_number, step_at, reached}

pub record Ended : Type 0 where
  pub verdict : Verdict
  pub steps : List Step
  pub final : Knowledge

unfoldable pub step_next : Setting → (ℕ → Entry) → ℕ → Knowledge → Step
step_next on e n k = step_at e n k (next_number on e n k)

unfoldable pub stopped : Setting → (ℕ → Entry) → ℕ → ℕ → Knowledge → Ended
stopped on e n goal k =
    record { verdict = cond (reached e goal k) derivable (cond (eqb (next_number on e n k) no_step) underivable exhausted); steps = []; final = k }

unfoldable pub follow : Step → Ended → Ended
follow s o = record { verdict = o.verdict; steps = s ∷ o.steps; final = o.final }

unfoldable pub machine : Setting → (ℕ → Entry) → ℕ → ℕ → ℕ → Knowledge → Ended
machine on e n goal zero k = stopped on e n goal k
machine on e n goal (suc b) k =
    elim (not (reached e goal k) && not (eqb (next_number on e n k) no_step)) [
      | true ↦ follow (step_next on e n k) (machine on e n goal b (learn (set_at e) k (step_next on e n k).head))
      | false ↦ stopped on e n goal k
    ]
