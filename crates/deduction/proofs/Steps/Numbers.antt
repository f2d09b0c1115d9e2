-- Steps as numbers, and the least of a list.
-- Defined: `number_of`, a step's place in the order as one number, with 0 for the first source of a sum.
-- Shown: head, rule and first source are read off such a number; the least of a list is in it, or is the number given for none, and
-- nothing in it is lower; members of lists chosen by a test. Assumes nothing.
use mathlib.Core.Path.{◌≡◌, refl, ◌∙◌}
use mathlib.Core.Bool.{Bool, true, false, true≢false, false≢true, cond}
use mathlib.Core.Logic.{◌⊎◌, inl, inr, by_cases}
use mathlib.Core.List.Memᴰ
use mathlib.Core.List.{List, [], ◌∷◌, Memᴰ}
use Prim.Native.Nat.{ℕ, ◌/◌, ◌%◌, ◌≤◌, ◌<◌, min}
use native.Mathlib.Decide.{dec_le}
use native.Mathlib.Omega.{arith}
use lib.Dec.{eqb}
use Rattle.deduction.specs.Step.{Step}
use Rattle.deduction.specs.Run.{number, no_step, least_of}

unfoldable pub number_of : Step → ℕ
number_of s = number s.head s.rule (cond (eqb s.rule 6) 0 s.first)

-- the three parts of a number
module _ (h r i : ℕ) (lr : r < 256) (li : i < 256) where
  pub number_head : number h r i / 65536 ≡ h
  number_head = omega arith

  pub number_rule : number h r i / 256 % 256 ≡ r
  number_rule = omega arith

  pub number_first : number h r i % 256 ≡ i
  number_first = omega arith

  pub number_below : h < 256 → number h r i < no_step
  number_below lh = omega arith

-- the least of a list
pub least_under : (d : ℕ) (xs : List ℕ) (x : ℕ) → Memᴰ x xs → least_of d xs ≤ x
unfolding least_of
least_under d [] x m = absurd (Memᴰ.not-nil m)
least_under d (y ∷ ys) x m = go (Memᴰ.cases_cons m) (λ q. least_under d ys x q)
  where
    go : (x ≡ y) ⊎ Memᴰ x ys → (Memᴰ x ys → least_of d ys ≤ x) → min y (least_of d ys) ≤ x
    go (inl p) f = omega arith
    go (inr q) f = let b = f q in omega arith

pub least_one : (d : ℕ) (xs : List ℕ) → (least_of d xs ≡ d) ⊎ Memᴰ (least_of d xs) xs
unfolding least_of
least_one d [] = inl refl
least_one d (y ∷ ys) = by_cases (dec_le y (least_of d ys)) (λ l. inr (Memᴰ.head (first l))) (λ l. go (omega arith) (least_one d ys))
  where
    first : y ≤ least_of d ys → min y (least_of d ys) ≡ y
    first l = omega arith

    go : min y (least_of d ys) ≡ least_of d ys → (least_of d ys ≡ d) ⊎ Memᴰ (least_of d ys) ys → (min y (least_of d ys) ≡ d) ⊎ Memᴰ (min y (least_of d ys)) (y ∷ ys)
    go p (inl q) = inl (p ∙ q)
    go p (inr m) = inr (Memᴰ.tail (Memᴰ.cast p m))

-- members of one of two lists, chosen by a test
pub chosen : (b : Bool) (xs ys : List ℕ) {x : ℕ} → Memᴰ x (cond b xs ys) → ((b ≡ true) × Memᴰ x xs) ⊎ ((b ≡ false) × Memᴰ x ys)
chosen true xs ys m = inl (refl, m)
chosen false xs ys m = inr (refl, m)

pub choose : (b : Bool) (xs ys : List ℕ) {x : ℕ} → b ≡ true → Memᴰ x xs → Memᴰ x (cond b xs ys)
choose true xs ys p m = m
choose false xs ys p m = absurd (false≢true p)

pub choose_not : (b : Bool) (xs ys : List ℕ) {x : ℕ} → b ≡ false → Memᴰ x ys → Memᴰ x (cond b xs ys)
choose_not true xs ys p m = absurd (true≢false p)
choose_not false xs ys p m = m
