-- The run from a state, turn by turn, and that it is the run from the heads learnt.
-- Shown: what the machine does where the goal is known, where nothing follows, where the budget is used up, and where a step is made;
-- `machine_run`: from the knowledge of some heads it makes the steps of `run`. Assumes nothing.
use mathlib.Core.Path.{◌≡◌, refl, sym, ap, ap₂, ◌∙◌}
use mathlib.Core.Bool.{Bool, true, false, cond, not, ◌&&◌, and-false}
use mathlib.Core.List.{List, [], ◌∷◌, ◌++◌}
use Prim.Native.Nat.{ℕ, zero, suc}
use borrow.Author.Tests.{eq-eqb, ne_eqb}
use lib.Dec.{eqb}
use Rattle.deduction.specs.Setting.{Setting}
use Rattle.deduction.specs.Entry.{Entry}
use Rattle.deduction.specs.Standard.{set_at}
use Rattle.deduction.specs.Elimination.{Knowledge, learn, nothing}
use Rattle.deduction.specs.Step.{Step}
use Rattle.deduction.specs.Run.{Verdict, derivable, underivable, exhausted, Outcome, no_step, knowledge, next_number, next_step, reached, goes_on, ended, after, run}
use Rattle.deduction.proofs.Elimination.{learn_all_more}
use Rattle.derive.specs.Inner.Machine.{Ended, step_next, stopped, follow, machine}

-- steps made before
unfoldable pub prepend : List Step → Ended → Ended
prepend [] o = o
prepend (s ∷ ss) o = follow s (prepend ss o)

pub prepend_more : (ss : List Step) (s : Step) (o : Ended) → prepend (ss ++ (s ∷ [])) o ≡ prepend ss (follow s o)
unfolding prepend
prepend_more [] s o = refl
prepend_more (r ∷ ss) s o = ap (follow r) (prepend_more ss s o)

pub prepend_verdict : (ss : List Step) (o : Ended) → (prepend ss o).verdict ≡ o.verdict
unfolding prepend follow
prepend_verdict [] o = refl
prepend_verdict (s ∷ ss) o = prepend_verdict ss o

pub prepend_steps : (ss : List Step) (o : Ended) → (prepend ss o).steps ≡ ss ++ o.steps
unfolding prepend follow
prepend_steps [] o = refl
prepend_steps (s ∷ ss) o = ap (λ (r : List Step). s ∷ r) (prepend_steps ss o)

pub prepend_final : (ss : List Step) (o : Ended) → (prepend ss o).final ≡ o.final
unfolding prepend follow
prepend_final [] o = refl
prepend_final (s ∷ ss) o = prepend_final ss o

module _ (on : Setting) (e : ℕ → Entry) (n goal : ℕ) (k : Knowledge) where
  -- nothing more is made
  abbrev pub ended_as : Verdict → Ended
  ended_as v = record { verdict = v; steps = []; final = k }

  goes : Bool
  goes = not (reached e goal k) && not (eqb (next_number on e n k) no_step)

  machine_stop : (b : ℕ) → goes ≡ false → machine on e n goal b k ≡ stopped on e n goal k
  unfolding machine goes
  machine_stop zero p = refl
  machine_stop (suc b) p = go goes p
    where
      go : (t : Bool) → t ≡ false
          → elim t as (λ (x : Bool). Ended) [ true ↦ follow (step_next on e n k) (machine on e n goal b (learn (set_at e) k (step_next on e n k).head)) | false ↦ stopped on e n goal k ]
          ≡ stopped on e n goal k
      go true q = absurd (mathlib.Core.Bool.true≢false q)
      go false q = refl

  pub machine_derivable : (b : ℕ) → reached e goal k ≡ true → machine on e n goal b k ≡ ended_as derivable
  unfolding stopped goes
  machine_derivable b p =
      machine_stop b (ap (λ (t : Bool). not t && not (eqb (next_number on e n k) no_step)) p)
      ∙ ap (λ (t : Bool). ended_as (cond t derivable (cond (eqb (next_number on e n k) no_step) underivable exhausted))) p

  pub machine_underivable : (b : ℕ) → reached e goal k ≡ false → next_number on e n k ≡ no_step → machine on e n goal b k ≡ ended_as underivable
  unfolding stopped goes
  machine_underivable b p q =
      let z : eqb (next_number on e n k) no_step ≡ true = eq-eqb (next_number on e n k) no_step q in
      machine_stop b (ap (λ (t : Bool). not (reached e goal k) && not t) z ∙ and-false (not (reached e goal k)))
      ∙ ap₂ (λ (t u : Bool). ended_as (cond t derivable (cond u underivable exhausted))) p z

  pub machine_exhausted : reached e goal k ≡ false → (next_number on e n k ≡ no_step → ⊥) → machine on e n goal 0 k ≡ ended_as exhausted
  unfolding machine stopped
  machine_exhausted p q =
      ap₂ (λ (t u : Bool). ended_as (cond t derivable (cond u underivable exhausted))) p (ne_eqb (next_number on e n k) no_step q)

  pub machine_step : (b : ℕ) → reached e goal k ≡ false → (next_number on e n k ≡ no_step → ⊥)
      → machine on e n goal (suc b) k ≡ follow (step_next on e n k) (machine on e n goal b (learn (set_at e) k (step_next on e n k).head))
  unfolding machine goes
  machine_step b p q = go goes (ap₂ (λ (t u : Bool). not t && not u) p (ne_eqb (next_number on e n k) no_step q))
    where
      go : (t : Bool) → t ≡ true
          → elim t as (λ (x : Bool). Ended) [ true ↦ follow (step_next on e n k) (machine on e n goal b (learn (set_at e) k (step_next on e n k).head)) | false ↦ stopped on e n goal k ]
          ≡ follow (step_next on e n k) (machine on e n goal b (learn (set_at e) k (step_next on e n k).head))
      go true q = refl
      go false q = absurd (mathlib.Core.Bool.false≢true q)

-- the outcome of a run from heads, as the end of a run from a state
abbrev pub as_ended : (ℕ → Entry) → Outcome → Ended
as_ended e o = record { verdict = o.verdict; steps = o.steps; final = knowledge e o.learnt }

-- from the knowledge of the heads learnt, the machine makes the steps of the run
pub machine_run : (on : Setting) (e : ℕ → Entry) (n goal b : ℕ) (es : List ℕ) → machine on e n goal b (knowledge e es) ≡ as_ended e (run on e n goal b es)
unfolding machine run stopped ended goes_on next_step step_next follow after knowledge
machine_run on e n goal zero es = refl
machine_run on e n goal (suc b) es = go (goes_on on e n goal es) (machine_run on e n goal b (es ++ ((next_step on e n es).head ∷ [])))
  where
    more : learn (set_at e) (knowledge e es) (next_step on e n es).head ≡ knowledge e (es ++ ((next_step on e n es).head ∷ []))
    more = sym (learn_all_more (set_at e) nothing es (next_step on e n es).head)

    go : (t : Bool) → machine on e n goal b (knowledge e (es ++ ((next_step on e n es).head ∷ []))) ≡ as_ended e (run on e n goal b (es ++ ((next_step on e n es).head ∷ [])))
        → elim t as (λ (x : Bool). Ended) [
          | true ↦ follow (step_next on e n (knowledge e es)) (machine on e n goal b (learn (set_at e) (knowledge e es) (step_next on e n (knowledge e es)).head))
          | false ↦ stopped on e n goal (knowledge e es)
        ]
        ≡ as_ended e (elim t as (λ (x : Bool). Outcome) [ true ↦ after (next_step on e n es) (run on e n goal b (es ++ ((next_step on e n es).head ∷ []))) | false ↦ ended on e n goal es ])
    go true ih = ap (follow (next_step on e n es)) (ap (machine on e n goal b) more ∙ ih)
    go false ih = refl
