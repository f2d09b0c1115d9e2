-- Steps (document 01: rungs): what follows from the known entries by one rule, and which step comes next.
-- Defined: `Step`; `Follows`, the steps that the eight rules allow, over terms; `FollowsIn`, those whose rule is switched on; `Before`, document 01's
-- order; `IsNext`, the step that the order names. Nothing here searches.
use Rattle.std.specs.Prelude.{ℕ, ◌<◌, ◌≡◌, true, ◌⊎◌}
use mathlib.Core.List.{List, ◌∷◌, ◌++◌, map, Memᴰ}
use Rattle.bitset.specs.Set.{member}
use Rattle.deduction.specs.Term.{Side, opposite, Term, pair, enc, half, aenc, sum_of, ◌≈◌}
use Rattle.deduction.specs.Setting.{Setting}
use Rattle.deduction.specs.Standard.{sum_of_set}

-- "gained head, rule, first source, second source .. and a .. set of summed sources"
pub record Step : Type 0 where
  pub head : ℕ
  pub rule : ℕ
  pub first : ℕ
  pub second : ℕ
  pub set : ℕ

abbrev pub step : ℕ → ℕ → ℕ → ℕ → ℕ → Step
step h r i j u = record { head = h; rule = r; first = i; second = j; set = u }

-- "A source not used is 65,535"
abbrev pub unused : ℕ
unused = 65535

-- The entries' terms are `t`, there are n, and the heads known so far are `es`, in the order learnt
module _ (t : ℕ → Term) (n : ℕ) where
  -- "An entry's head is the lowest-numbered entry that is the same term"
  abbrev pub Head : ℕ → Type 0
  Head h = (h < n) × ((j : ℕ) → j < h → ¬ (t j ≈ t h))

  module _ (es : List ℕ) where
    abbrev pub Known : ℕ → Type 0
    Known i = Memᴰ i es

    -- a head that isn't known
    abbrev pub Open : ℕ → Type 0
    Open h = Head h × ¬ (Known h)

    -- "the gained terms that were not, when gained, a sum of those gained earlier"
    abbrev pub Drawn : ℕ → Type 0
    Drawn j = (before after : List ℕ) × (es ≡ before ++ (j ∷ after)) × ((js : List ℕ) → ((i : ℕ) → Memᴰ i js → Memᴰ i before) → ¬ (t j ≈ sum_of (map t js)))

    -- "Rule numbers: 1 split left, 2 split right, 3 open (a seal and its key), 4 join, 5 seal, 6 sum". "Sources are heads." "In open the first
    -- source is the seal; in join and seal, the left or the message". Document 02, E6: "Rule 7, unlock, takes a lock and the opposite half of its
    -- key. Rule 8, lock, takes message and half. Sources stand in that order and the set is zero. Both come after sum in the rule order"
    pub data Follows : Step → Type 0 where
      first : {h i : ℕ} (b : Term) → Open h → Known i → t i ≈ pair (t h) b → Follows (step h 1 i unused 0)
      second : {h i : ℕ} (a : Term) → Open h → Known i → t i ≈ pair a (t h) → Follows (step h 2 i unused 0)
      decrypt : {h i j : ℕ} → Open h → Known i → Known j → t i ≈ enc (t h) (t j) → Follows (step h 3 i j 0)
      join : {h i j : ℕ} → Open h → Known i → Known j → t h ≈ pair (t i) (t j) → Follows (step h 4 i j 0)
      encrypt : {h i j : ℕ} → Open h → Known i → Known j → t h ≈ enc (t i) (t j) → Follows (step h 5 i j 0)
      sum : {h : ℕ} (u : ℕ) → Open h → ((j : ℕ) → member u j ≡ true → Drawn j) → t h ≈ sum_of_set t n u → Follows (step h 6 unused unused u)
      adecrypt : {h i j : ℕ} (s : Side) (a : ℕ) → Open h → Known i → Known j → t i ≈ aenc (t h) (half s a) → t j ≈ half (opposite s) a → Follows (step h 7 i j 0)
      aencrypt : {h i j : ℕ} (s : Side) (a : ℕ) → Open h → Known i → Known j → t h ≈ aenc (t i) (t j) → t j ≈ half s a → Follows (step h 8 i j 0)

-- document 02, E11: the step's rule is switched on
abbrev pub Allowed : Setting → Step → Type 0
Allowed on s = on s.rule ≡ true

-- "the lowest head .. The lowest rule number .. then the lowest first source"
abbrev pub Before : Step → Step → Type 0
Before a b = (a.head < b.head) ⊎ ((a.head ≡ b.head) × ((a.rule < b.rule) ⊎ ((a.rule ≡ b.rule) × (a.first < b.first))))

module _ (on : Setting) (t : ℕ → Term) (n : ℕ) (es : List ℕ) where
  -- what follows by a rule that is switched on
  abbrev pub FollowsIn : Step → Type 0
  FollowsIn s = Allowed on s × Follows t n es s

  -- "The next rung gains the lowest head that isn't gained and follows by one rule. The lowest rule number is used, then the lowest first
  -- source"
  abbrev pub IsNext : Step → Type 0
  IsNext s = FollowsIn s × ((r : Step) → FollowsIn r → ¬ (Before r s))
