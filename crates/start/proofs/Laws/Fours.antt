-- The heads of a list by fours, where the last stands again for those that are missing.
-- Shown: known heads learnt again change nothing (`filled_taught`); how fours are read off the places of the list (`four_read`); four more teach what the list teaches so far
-- (`four_taught`), and are live where the list is (`four_live`). Assumes nothing.
use mathlib.Core.Path.{◌≡◌, refl, sym, ap, ◌∙◌, subst}
use mathlib.Core.Bool.{Bool, true}
use mathlib.Core.List.Memᴰ
use mathlib.Core.List.{List, [], ◌∷◌, ◌++◌, Memᴰ}
use mathlib.Core.Logic.{◌⊎◌, inl, inr, by_cases}
use Prim.Native.Nat.{ℕ, ◌+◌, ◌-◌, ◌≤◌, ◌<◌}
use native.Mathlib.Decide.{dec_lt}
use native.Mathlib.Numerals.{add-one}
use native.Mathlib.Omega.{arith}
use lib.ListN.{length, get_or, take}
use lib.Seq.{take-suc, get_or-take, length-take-le}
use Rattle.std.specs.Prelude.{min}
use Rattle.std.proofs.lemmas.List.{take_all}
use Rattle.deduction.specs.Elimination.{Knowledge, learn, learn_all, nothing}
use Rattle.deduction.proofs.Elimination as elimination
use Rattle.start.specs.Inner.Heads.{head_or_last, four_from, stands}
use Rattle.start.specs.Inner.Hearing.{Live}
use Rattle.start.proofs.Laws.Lists.{get_d_member}
use Rattle.start.proofs.Laws.Repeats.{stands_at, taught_again}

-- the first heads of a list: one more
take_one : (list : List ℕ) (k : ℕ) → k < length list → take k list ++ (get_or list k 0 ∷ []) ≡ take (k + 1) list
take_one list k h = sym (ap (λ (n : ℕ). take n list) (add-one k) ∙ take-suc list k 0 h)

-- two lists teach one after the other
taught_both : (f : ℕ → ℕ) (k : Knowledge) (xs ys : List ℕ) → learn_all f k (xs ++ ys) ≡ learn_all f (learn_all f k xs) ys
unfolding learn_all
taught_both f k [] ys = refl
taught_both f k (x ∷ xs) ys = taught_both f (learn f k x) xs ys

-- heads that stand in a list, put behind it, teach nothing more
module _ (f : ℕ → ℕ) (es : List ℕ) where
  again : (hs : List ℕ) → ((x : ℕ) → Memᴰ x hs → stands x es ≡ true) → learn_all f (learn_all f nothing es) hs ≡ learn_all f nothing es
  unfolding learn_all
  again [] h = refl
  again (x ∷ hs) h = ap (λ (k : Knowledge). learn_all f k hs) (taught_again f es x (h x (Memᴰ.head refl))) ∙ again hs (λ y m. h y (Memᴰ.tail m))

  pub filled_taught : (hs : List ℕ) → ((x : ℕ) → Memᴰ x hs → stands x es ≡ true) → learn_all f nothing (es ++ hs) ≡ learn_all f nothing es
  filled_taught hs h = taught_both f nothing es hs ∙ again hs h

-- four read off the first places of a list
module _ (list : List ℕ) (len : ℕ) (room : len ≤ length list) (some : 0 < len) where
  read : (i k : ℕ) → i ≡ min (len - 1) k → get_or list i 0 ≡ head_or_last (take len list) k
  read i k p = sym (ap (λ (n : ℕ). get_or (take len list) (min (n - 1) k) 0) (length-take-le len list room) ∙ get_or-take len list (min (len - 1) k) 0 (omega arith) ∙ ap (λ (j : ℕ). get_or list j 0) (sym p))

  pub four_read : (k : ℕ) → k < len → {a b c : ℕ} → a ≡ min (len - 1) (k + 1) → b ≡ min (len - 1) (k + 2) → c ≡ min (len - 1) (k + 3)
      → (get_or list k 0 ∷ get_or list a 0 ∷ get_or list b 0 ∷ get_or list c 0 ∷ []) ≡ four_from (take len list) k
  four_read k h {a} {b} {c} p q r = λ t. read k k (omega arith) t ∷ read a (k + 1) p t ∷ read b (k + 2) q t ∷ read c (k + 3) r t ∷ []

module _ (es : List ℕ) (some : 0 < length es) where
  -- the head at a place teaches what the list does up to it, and the last again nothing
  one_taught : (f : ℕ → ℕ) (k : ℕ) → learn f (learn_all f nothing (take k es)) (head_or_last es k) ≡ learn_all f nothing (take (k + 1) es)
  one_taught f k = by_cases (dec_lt k (length es)) within past
    where
      within : k < length es → learn f (learn_all f nothing (take k es)) (head_or_last es k) ≡ learn_all f nothing (take (k + 1) es)
      within l = let here : min (length es - 1) k ≡ k = omega arith in
          ap (λ (i : ℕ). learn f (learn_all f nothing (take k es)) (get_or es i 0)) here ∙ sym (elimination.learn_all_more f nothing (take k es) (get_or es k 0))
          ∙ ap (learn_all f nothing) (take_one es k l)

      past : ¬ (k < length es) → learn f (learn_all f nothing (take k es)) (head_or_last es k) ≡ learn_all f nothing (take (k + 1) es)
      past g = ap (λ (l : List ℕ). learn f (learn_all f nothing l) (head_or_last es k)) (take_all k es (omega arith))
          ∙ taught_again f es (head_or_last es k) (stands_at es (min (length es - 1) k) (omega arith)) ∙ ap (learn_all f nothing) (sym (take_all (k + 1) es (omega arith)))

  -- four more
  pub four_taught : (f : ℕ → ℕ) (k : ℕ) → learn_all f nothing (take k es ++ four_from es k) ≡ learn_all f nothing (take (k + 4) es)
  unfolding learn_all
  four_taught f k =
      taught_both f nothing (take k es) (four_from es k)
      ∙ ap (λ (x : Knowledge). learn f (learn f (learn f x (head_or_last es (k + 1))) (head_or_last es (k + 2))) (head_or_last es (k + 3))) (one_taught f k)
      ∙ ap (λ (x : Knowledge). learn f (learn f x (head_or_last es (k + 2))) (head_or_last es (k + 3))) (step (k + 1) (k + 2) (omega arith))
      ∙ ap (λ (x : Knowledge). learn f x (head_or_last es (k + 3))) (step (k + 2) (k + 3) (omega arith))
      ∙ step (k + 3) (k + 4) (omega arith)
    where
      step : (i j : ℕ) → j ≡ i + 1 → learn f (learn_all f nothing (take i es)) (head_or_last es i) ≡ learn_all f nothing (take j es)
      step i j p = one_taught f i ∙ ap (λ (n : ℕ). learn_all f nothing (take n es)) (sym p)

  one_in : (k : ℕ) → Memᴰ (head_or_last es k) es
  one_in k = get_d_member es (min (length es - 1) k) 0 (omega arith)

  pub four_live : (live : ℕ → Bool) → Live live es → (k : ℕ) → Live live (four_from es k)
  four_live live a k h m = a h (four (Memᴰ.cases_cons m))
    where
      at : (i : ℕ) → h ≡ head_or_last es i → Memᴰ h es
      at i p = subst (λ (x : ℕ). Memᴰ x es) (sym p) (one_in i)

      one : (h ≡ head_or_last es (k + 3)) ⊎ Memᴰ h [] → Memᴰ h es
      one (inl p) = at (k + 3) p
      one (inr n) = absurd (Memᴰ.not-nil n)

      two : (h ≡ head_or_last es (k + 2)) ⊎ Memᴰ h (head_or_last es (k + 3) ∷ []) → Memᴰ h es
      two (inl p) = at (k + 2) p
      two (inr n) = one (Memᴰ.cases_cons n)

      three : (h ≡ head_or_last es (k + 1)) ⊎ Memᴰ h (head_or_last es (k + 2) ∷ head_or_last es (k + 3) ∷ []) → Memᴰ h es
      three (inl p) = at (k + 1) p
      three (inr n) = two (Memᴰ.cases_cons n)

      four : (h ≡ head_or_last es k) ⊎ Memᴰ h (head_or_last es (k + 1) ∷ head_or_last es (k + 2) ∷ head_or_last es (k + 3) ∷ []) → Memᴰ h es
      four (inl p) = at k p
      four (inr n) = three (Memᴰ.cases_cons n)
