-- The tables as they are filled, line by line.
-- Shown: as they are lent they are filled for no entry; a right line more fills them for one entry more. Assumes nothing.
use mathlib.Core.Path.{◌≡◌, refl, sym, ◌∙◌, subst}
use mathlib.Core.List.{List, []}
use Prim.Native.Nat.{ℕ, ◌+◌, ◌<◌, ◌≤◌}
use native.Mathlib.Omega.{arith}
use lib.ListN.{length, get_or, set, length-set}
use lib.Seq.{get_or-set_same, get_or-set_other}
use borrow.Author.Count.{below_more}
use Rattle.bitset.specs.Words.{value}
use Rattle.deduction.specs.Entry.{Entry}
use Rattle.deduction.specs.Standard.{set_at, rep_at}
use Rattle.canonical.specs.Inner.Key.{key_at}
use Rattle.canonical.specs.Inner.Tables.{RightLine, Sized, Filled}

-- one table and a new element at i
module _ {A : Type 0} (l : List A) (i : ℕ) (a d : A) where
  -- what holds of each element before i, and of the new one, holds of each before i + 1
  column_more : (P : ℕ → A → Type 0) → i < length l → ((j : ℕ) → j < i → P j (get_or l j d)) → P i a → (j : ℕ) → j < i + 1 → P j (get_or (set l i a) j d)
  column_more P h all here =
      below_more (λ j. P j (get_or (set l i a) j d)) i (λ j q. subst (P j) (sym (get_or-set_other l i j a d (λ p. absurd (omega arith)))) (all j q))
      (subst (P i) (sym (get_or-set_same l i a d h)) here)

  column_kept : (l₀ : List A) → ((j : ℕ) → i ≤ j → get_or l j d ≡ get_or l₀ j d) → (j : ℕ) → i + 1 ≤ j → get_or (set l i a) j d ≡ get_or l₀ j d
  column_kept l₀ all j h = get_or-set_other l i j a d (λ p. absurd (omega arith)) ∙ all j (omega arith)

module _ (e : ℕ → Entry) (keys₀ : List ℕ) (sets₀ : List (List ℕ)) (reps₀ : List ℕ) where
  pub filled_none : Sized keys₀ sets₀ reps₀ → Filled e 0 keys₀ sets₀ reps₀ keys₀ sets₀ reps₀
  filled_none z = record {
    right = record { key = λ i h. absurd (omega arith); set = λ i h. absurd (omega arith); rep = λ i h. absurd (omega arith) };
    sized = z;
    keys_kept = λ i h. refl;
    sets_kept = λ i h. refl;
    reps_kept = λ i h. refl;
  }

  pub filled_more : {i : ℕ} {keys reps : List ℕ} {sets : List (List ℕ)} → Filled e i keys₀ sets₀ reps₀ keys sets reps → i < 256
      → {k r : ℕ} {ws : List ℕ} → RightLine e i k ws r → Filled e (i + 1) keys₀ sets₀ reps₀ (set keys i k) (set sets i ws) (set reps i r)
  filled_more {i = i} {keys = keys} {reps = reps} {sets = sets} f h {k = k} {r = r} {ws = ws} line = record {
    right =
        record {
          key = column_more keys i k 0 (λ j x. x ≡ key_at e j) (omega (arith, f.sized.key)) f.right.key line.key;
          set = column_more sets i ws [] (λ j x. value x ≡ set_at e j) (omega (arith, f.sized.set)) f.right.set line.set;
          rep = column_more reps i r 0 (λ j x. x ≡ rep_at e j) (omega (arith, f.sized.rep)) f.right.rep line.rep;
        };
    sized = record { key = length-set keys i k ∙ f.sized.key; set = length-set sets i ws ∙ f.sized.set; rep = length-set reps i r ∙ f.sized.rep };
    keys_kept = column_kept keys i k 0 keys₀ f.keys_kept;
    sets_kept = column_kept sets i ws [] sets₀ f.sets_kept;
    reps_kept = column_kept reps i r 0 reps₀ f.reps_kept;
  }
