-- The replay of steps (document 01: "Ladders and their replay"): a list of terms, and steps that are right or wrong at it.
-- Defined: `Right`, a step that is right at a state; `Replays`, right steps in a row by rules that are switched on, with the state before and after.
-- Nothing here knows of the search, the run, the heads or the elimination.
use Rattle.std.specs.Prelude.{ℕ, ◌<◌, ◌≡◌, true, List, [], ◌∷◌}
use Rattle.bitset.specs.Set.{member}
use Rattle.deduction.specs.Term.{Side, opposite, Term, pair, enc, half, aenc, ◌≈◌}
use Rattle.deduction.specs.Setting.{Setting}
use Rattle.deduction.specs.Derivation.{Holds}
use Rattle.deduction.specs.Standard.{sum_of_set}
use Rattle.deduction.specs.Step.{Step, step, unused, Allowed}

-- "Entry numbers stand for their terms": the entries' terms are `t`, and there are n
module _ (t : ℕ → Term) (n : ℕ) where
  -- "used sources and summed entries are below n, each .. is in the state"
  abbrev pub Used : List Term → ℕ → Type 0
  Used g i = (i < n) × Holds g (t i)

  -- "A rung is right when its gained head, used sources and summed entries are below n, each used source and summed entry is in the state,
  -- unused fields hold their fixed values, and its rule's case among these holds (a rule number without a case is wrong)"
  pub data Right (g : List Term) : Step → Type 0 where
    -- "rule 1 or 2: the first source is a pair, the gained head its left for rule 1, its right for rule 2"
    first : {h i : ℕ} (b : Term) → h < n → Used g i → t i ≈ pair (t h) b → Right g (step h 1 i unused 0)
    second : {h i : ℕ} (a : Term) → h < n → Used g i → t i ≈ pair a (t h) → Right g (step h 2 i unused 0)
    -- "rule 3: the first source is a seal, the second its key, the gained head its message"
    decrypt : {h i j : ℕ} → h < n → Used g i → Used g j → t i ≈ enc (t h) (t j) → Right g (step h 3 i j 0)
    -- "rule 4 or 5: the gained head is, for rule 4, the pair of first and second source; for rule 5, the seal of the first under the second"
    join : {h i j : ℕ} → h < n → Used g i → Used g j → t h ≈ pair (t i) (t j) → Right g (step h 4 i j 0)
    encrypt : {h i j : ℕ} → h < n → Used g i → Used g j → t h ≈ enc (t i) (t j) → Right g (step h 5 i j 0)
    -- "rule 6: the gained head is the sum of the set"
    sum : {h u : ℕ} → h < n → ((j : ℕ) → member u j ≡ true → Used g j) → t h ≈ sum_of_set t n u → Right g (step h 6 unused unused u)
    -- "for rule 7 the first source is a lock, the second the opposite half of its key, the gained head its message"
    adecrypt : {h i j : ℕ} (s : Side) (a : ℕ) → h < n → Used g i → Used g j → t i ≈ aenc (t h) (half s a) → t j ≈ half (opposite s) a → Right g (step h 7 i j 0)
    -- "for rule 8 the gained head is the lock of the first under the second", which is a half
    aencrypt : {h i j : ℕ} (s : Side) (a : ℕ) → h < n → Used g i → Used g j → t h ≈ aenc (t i) (t j) → t j ≈ half s a → Right g (step h 8 i j 0)

module _ (on : Setting) (t : ℕ → Term) (n : ℕ) where
  -- "It takes the rungs in order .. A right rung adds its gained head's term to the state. Any other rung is wrong and ends the replay".
  -- `Replays on t n g ss a`: from the state g all steps of ss are right, and the state at the end is a. Document 02, E11: "a ladder returned uses no
  -- other" rule than those switched on
  pub data Replays : List Term → List Step → List Term → Type 0 where
    done : {g : List Term} → Replays g [] g
    next : {g a : List Term} {s : Step} {ss : List Step} → Allowed on s → Right t n g s → Replays (t s.head ∷ g) ss a → Replays g (s ∷ ss) a
