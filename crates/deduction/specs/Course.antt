-- The course of the work (document 01, "Rungs"): which steps are made, where it ends, and with which verdict.
-- Defined: `Verdict`; `Gained`, the goal is known; `Course`, the steps made and the verdict, for a setting of the rules, a budget and the heads known at
-- the start. Nothing here searches, and there is only one course for a setting, a start and a budget (`course_unique`, proofs/Steps/Course.antt).
use Rattle.std.specs.Prelude.{ℕ, zero, suc, List, [], ◌∷◌, ◌++◌, map}
use Rattle.deduction.specs.Term.{Term}
use Rattle.deduction.specs.Setting.{Setting}
use Rattle.deduction.specs.Derivation.{Holds}
use Rattle.deduction.specs.Step.{Step, FollowsIn, IsNext}

-- reached, out of reach, stopped
pub data Verdict : Type 0 where
  derivable underivable exhausted : Verdict

-- The entries' terms are `t`, there are n, and the goal is one of them
module _ (t : ℕ → Term) (n goal : ℕ) where
  -- "An entry, the goal too, is gained when its head is": with the heads `es` known, the goal's term is
  abbrev pub Gained : List ℕ → Type 0
  Gained es = Holds (map t es) (t goal)

-- The rules that are switched on are those of `on`
module _ (on : Setting) (t : ℕ → Term) (n goal : ℕ) where
  -- "The work ends when the goal is gained, when no rung follows, or when the budget b .. is used up". `Course b es ss v`: with the heads `es`
  -- known, in the order learnt, and a budget of b, the steps `ss` are made and the verdict is v
  pub data Course : ℕ → List ℕ → List Step → Verdict → Type 0 where
    -- "*reached* if the goal is gained"
    reached : {b : ℕ} {es : List ℕ} → Gained t n goal es → Course b es [] derivable
    -- "*out of reach* if it isn't and no rung follows"
    stuck : {b : ℕ} {es : List ℕ} → ¬ Gained t n goal es → ((s : Step) → ¬ FollowsIn on t n es s) → Course b es [] underivable
    -- "*stopped* if it isn't, exactly b rungs were made and another follows"
    stopped : {es : List ℕ} {s : Step} → ¬ Gained t n goal es → FollowsIn on t n es s → Course zero es [] exhausted
    -- otherwise the next step is made
    more : {b : ℕ} {es : List ℕ} {s : Step} {ss : List Step} {v : Verdict} → ¬ Gained t n goal es → IsNext on t n es s → Course b (es ++ (s.head ∷ [])) ss v → Course (suc b) es (s ∷ ss) v
