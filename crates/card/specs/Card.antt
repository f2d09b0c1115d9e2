-- The card of a sheet (document 01, "Flight card"): "The program reads a sheet from standard input and uses budget 256. .. The program prints".
-- Defined: `step_text` and `steps_text`, rung lines; `cut_text`, what is printed of a cut; `cuts_from`, of the cuts in order; `card_of`, the whole card.
use Rattle.std.specs.Prelude.{ℕ, zero, suc, Bool, true, false, cond, List, [], ◌∷◌, ◌++◌, eqb, length}
use Rattle.std.specs.Int.Count.{ones}
use Rattle.deduction.specs.Setting.{every}
use Rattle.deduction.specs.Step.{Step}
use Rattle.deduction.specs.Run.{Verdict, derivable, underivable, exhausted, knowledge}
use Rattle.dag.specs.Sheet.{goal_of, trace_length}
use Rattle.dag.specs.Record.{entry_at}
use Rattle.dag.specs.Refusal.{refusal}
use Rattle.verdict.specs.Answer.{outcome_of}
use Rattle.line.specs.Line.{goal_line, out_line, reached_line, step_line, refused_line}

-- "Rung lines give the head, the rule .. and its sources"
abbrev pub step_text : Step → List ℕ
step_text r = step_line r.head r.rule r.first r.second r.set

unfoldable pub steps_text : List Step → List ℕ
steps_text [] = []
steps_text (r ∷ rs) = step_text r ++ steps_text rs

-- what is printed of a cut, by its verdict, its known figure and its rungs. "With b at least n nothing is stopped": the last case is never met
unfoldable pub verdict_text : ℕ → Verdict → ℕ → List Step → List ℕ
verdict_text cut derivable known steps = reached_line cut (length steps) ++ steps_text steps
verdict_text cut underivable known steps = out_line cut known
verdict_text cut exhausted known steps = []

-- "`known` is the number of ones in the gained set"
unfoldable pub cut_text : List ℕ → ℕ → List ℕ
cut_text s cut =
    verdict_text cut (outcome_of every s cut 256).verdict (ones (knowledge (entry_at s) (outcome_of every s cut 256).learnt).known) (outcome_of every s cut 256).steps

unfoldable pub is_reached : Verdict → Bool
is_reached derivable = true
is_reached underivable = false
is_reached exhausted = false

-- "There is one line a cut, up to the first reached": of the k cuts from cut c on
unfoldable pub cuts_from : List ℕ → ℕ → ℕ → List ℕ
cuts_from s c zero = []
cuts_from s c (suc k) = cut_text s c ++ cond (is_reached (outcome_of every s c 256).verdict) [] (cuts_from s (suc c) k)

-- "The first line has the goal's entry and h." Then the cuts from 0 to h. "A refused sheet prints `refused` and the number, and nothing else"
unfoldable pub card_of : List ℕ → List ℕ
card_of s =
    cond (eqb (refusal s) 0) (goal_line (goal_of s) (trace_length s) ++ cuts_from s 0 (suc (trace_length s))) (refused_line (refusal s))
