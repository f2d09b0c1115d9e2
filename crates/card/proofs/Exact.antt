-- What the card says of a cut is right: "out of reach" exactly when no finite derivation from the messages before the cut holds the goal's term,
-- and otherwise "reached". Assumes nothing.
use mathlib.Core.Path.{◌≡◌, refl, sym, ap, ◌∙◌}
use mathlib.Core.Bool.{true, false, false≢true}
use mathlib.Core.Logic.{◌↔◌}
use mathlib.Core.List.{List, ◌++◌}
use Prim.Native.Nat.{ℕ, ◌≤◌}
use lib.Count.{ones}
use lib.ListN.{length}
use Rattle.deduction.specs.Setting.{every}
use Rattle.deduction.specs.Derivation.{Derivable}
use Rattle.deduction.specs.Run.{Verdict, derivable, underivable, exhausted, Outcome, knowledge}
use Rattle.dag.specs.Sheet.{trace_length}
use Rattle.dag.specs.Record.{entry_at}
use Rattle.dag.specs.Refusal.{refusal}
use Rattle.dag.proofs.Laws.Good.{good}
use Rattle.start.specs.Start.{start_terms}
use Rattle.verdict.specs.Answer.{outcome_of}
use Rattle.verdict.specs.Demands.{goal_term}
use Rattle.verdict.proofs.Laws.Demands.{run_iff, run_ends}
use Rattle.line.specs.Line.{out_line, reached_line}
use Rattle.card.specs.Card.{steps_text, verdict_text, cut_text, is_reached}

module _ (s : List ℕ) (cut : ℕ) (ok : refusal s ≡ 0) (within : cut ≤ trace_length s) where
  abbrev o : Outcome
  o = outcome_of every s cut 256

  abbrev known : ℕ
  known = ones (knowledge (entry_at s) o.learnt).known

  -- "out of reach" is printed exactly when the goal is
  pub out_exact : (is_reached o.verdict ≡ false) ↔ (¬ Derivable every (start_terms s cut) (goal_term s))
  unfolding is_reached
  out_exact = ((λ p. exact.0 (is o.verdict refl p)), λ n. ap is_reached (exact.1 n))
    where
      exact : (o.verdict ≡ underivable) ↔ (¬ Derivable every (start_terms s cut) (goal_term s))
      exact = run_iff every s cut 256 ok within (good s ok).few

      is : (v : Verdict) → o.verdict ≡ v → is_reached o.verdict ≡ false → o.verdict ≡ underivable
      is derivable p q = absurd (false≢true (sym q ∙ ap is_reached p))
      is underivable p q = p
      is exhausted p q = absurd (run_ends every s cut 256 ok within (good s ok).few p)

  -- what is printed in the two cases
  pub text_out : is_reached o.verdict ≡ false → cut_text s cut ≡ out_line cut known
  unfolding is_reached cut_text verdict_text
  text_out p = go o.verdict refl p
    where
      go : (v : Verdict) → o.verdict ≡ v → is_reached o.verdict ≡ false → cut_text s cut ≡ out_line cut known
      go derivable e q = absurd (false≢true (sym q ∙ ap is_reached e))
      go underivable e q = ap (λ (v : Verdict). verdict_text cut v known o.steps) e
      go exhausted e q = absurd (run_ends every s cut 256 ok within (good s ok).few e)

  pub text_reached : is_reached o.verdict ≡ true → cut_text s cut ≡ reached_line cut (length o.steps) ++ steps_text o.steps
  unfolding is_reached cut_text verdict_text
  text_reached p = go o.verdict refl p
    where
      go : (v : Verdict) → o.verdict ≡ v → is_reached o.verdict ≡ true → cut_text s cut ≡ reached_line cut (length o.steps) ++ steps_text o.steps
      go derivable e q = ap (λ (v : Verdict). verdict_text cut v known o.steps) e
      go underivable e q = absurd (false≢true (sym (ap is_reached e) ∙ q))
      go exhausted e q = absurd (false≢true (sym (ap is_reached e) ∙ q))
